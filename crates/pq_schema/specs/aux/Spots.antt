-- Auxiliary: the scopes from a package outwards in which a definition can be (used by proofs and
-- contracts of private functions only).
use Rattle.std.specs.Prelude.{◌≡◌, ◌≢◌, ℕ, ◌<◌, Bool, true, false, get_or, length, filter, map, List}
use Rattle.pq_rules.specs.Relations.{Each}
use Rattle.pq_schema.specs.declared.scope.scope.FileDefs.{FileDefs}
use Rattle.pq_schema.specs.declared.define.definitions.Definition.{Definition}
use Rattle.pq_schema.specs.Definitions.{qualified}
use Rattle.pq_schema.specs.Resolution.{meaning, scopes}
use Rattle.pq_schema.specs.Resolution.Meaning.{Undefined}
use Rattle.pq_schema.specs.aux.NameParts.{leading}
use Rattle.pq_schema.specs.aux.Scopes.{is_among}

-- `IsPlain name` is that `name` has no dot
abbrev pub IsPlain : List ℕ → Type 0
IsPlain name = (i : ℕ) → i < length name → get_or name i 0 ≢ 46

-- `is_kept marks scope` is that `marks` has the length of `scope`
abbrev pub is_kept : List Bool → List ℕ → Bool
is_kept marks scope = get_or marks (length scope) false

-- `MarksStay old new` is that the marks `new` have all of `old`
abbrev pub MarksStay : List Bool → List Bool → Type 0
MarksStay old new = (k : ℕ) → get_or old k false ≡ true → get_or new k false ≡ true

-- `IsMarked marks root name` is that `marks` has the length of the scope of the full name `name`, if
-- that is one of the scopes from `root` outwards
abbrev pub IsMarked : List Bool → List ℕ → List ℕ → Type 0
IsMarked marks root name = (s n : List ℕ) → is_among s (scopes root) ≡ true → IsPlain n → name ≡ qualified s n → is_kept marks s ≡ true

-- `AreMarked marks root ds` is that of the scopes of the definitions `ds`
pub record AreMarked (marks : List Bool) (root : List ℕ) (ds : List Definition) : Type 0 where
  pub each : Each (λ (d : Definition). IsMarked marks root d.full_name) ds

-- `FilesMarked marks root files` is that of the scopes of the definitions of `files`
pub record FilesMarked (marks : List Bool) (root : List ℕ) (files : List FileDefs) : Type 0 where
  pub each : Each (λ (f : FileDefs). AreMarked marks root f.defs.definitions) files

-- `AreSpots files root spots` is that `spots` has some of the scopes from `root` outwards, each with
-- its dot, and that no definition of `files` is in the others of these scopes
pub record AreSpots (files : List FileDefs) (root : List ℕ) (spots : List (List ℕ)) : Type 0 where
  pub keep : List ℕ → Bool
  pub kept : spots ≡ map leading (filter keep (scopes root))
  pub others : (s n : List ℕ) → is_among s (scopes root) ≡ true → IsPlain n → keep s ≡ false → meaning files (qualified s n) ≡ Undefined

-- `LeavesNone marks root files` is that no definition of `files` is in a scope from `root` outwards
-- whose length `marks` lacks
abbrev pub LeavesNone : List Bool → List ℕ → List FileDefs → Type 0
LeavesNone marks root files = (s n : List ℕ) → is_among s (scopes root) ≡ true → IsPlain n → is_kept marks s ≡ false → meaning files (qualified s n) ≡ Undefined
