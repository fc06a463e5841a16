-- Auxiliary: the scopes inside the package of a file, and its references by them (used by proofs,
-- invariants and contracts of private functions only).
use Rattle.std.specs.Prelude.{◌≡◌, ℕ, ◌≤◌, Bool, true, false, cond, length, map, slice_get, suc, List, [], ◌∷◌, ◌++◌, Option, Some, None}
use Rattle.pq_rules.specs.Relations.{Each}
use Rattle.pq_links.specs.declared.places.TypePart.{TypePart}
use Rattle.pq_syntax.specs.declared.tree.Statement.{Statement}
use Rattle.pq_syntax.specs.declared.tree.Statement.TheVariants.{Message, Service}
use Rattle.pq_schema.specs.declared.search.references.Reference.{Reference}
use Rattle.pq_schema.specs.declared.queries.resolved.ResolvedReference.{ResolvedReference}
use Rattle.pq_schema.specs.declared.scope.scope.FileDefs.{FileDefs}
use Rattle.pq_schema.specs.declared.search.walk.Nearby.{Nearby}
use Rattle.pq_schema.specs.declared.search.uses.Use.{Use}
use Rattle.pq_schema.specs.Definitions.{qualified}
use Rattle.pq_schema.specs.References.{references_by}
use Rattle.pq_schema.specs.Resolution.{Found, decides, found, lookup_by, resolution_of, unless_type}
use Rattle.pq_schema.specs.Resolution.Found.{FoundNothing}
use Rattle.pq_schema.specs.Resolution as resolution
use Rattle.pq_schema.specs.aux.Fronts.{Begins}
use Rattle.pq_schema.specs.aux.Grouping.{AreNear}
use Rattle.pq_schema.specs.aux.Hits.{found_at}
use Rattle.pq_schema.specs.aux.NameParts.{leading}
use Rattle.pq_schema.specs.aux.Outward.{found_in, is_nothing}
use Rattle.pq_schema.specs.aux.Scopes.{before}

-- `next_in scope name` is the name `name` in the scope `scope`, unless both are empty
abbrev pub next_in : List ℕ → List ℕ → Option (List ℕ)
next_in [] [] = None
next_in [] (c ∷ cs) = Some (c ∷ cs)
next_in (r ∷ rs) name = Some name

-- `opened name outer` is the message or service `name` in the scope `outer`. A scope is its full name,
-- with what is before a name in it and in the scopes around it inside the package.
abbrev pub opened : List ℕ → List ℕ × List (List ℕ) → List ℕ × List (List ℕ)
opened name outer = (qualified outer.0 name, map leading (map (qualified outer.0) (before (next_in outer.0 name))) ++ outer.1)

-- `opened_by statement outer` is the scope of what `statement` contains, where `outer` is its own
abbrev pub opened_by : Statement → List ℕ × List (List ℕ) → List ℕ × List (List ℕ)
opened_by (Message name) outer = opened name.text outer
opened_by (Service name) outer = opened name.text outer
opened_by _ outer = outer

-- `AreInner leads root within` is that `leads` has what is before a name in each of the scopes of
-- `within` that are not scopes of the package `root`. Each begins with the package.
pub record AreInner (leads : List (List ℕ)) (root within : List ℕ) : Type 0 where
  pub scopes : List (List ℕ)
  pub are : leads ≡ map leading scopes
  pub begin : Each (λ l. Begins (leading root) l) leads
  pub front : Begins (leading root) (leading within)
  pub all : resolution.scopes within ≡ scopes ++ resolution.scopes root

-- `IsNear files n` is that `n` has the places of those of `files` whose package is one of the scopes
-- of its scope
abbrev pub IsNear : List FileDefs → Nearby → Type 0
IsNear files n = AreNear n.places.items files (resolution.scopes n.within)

-- `used u` is the use `u`: its item, its part and what it is found as
abbrev pub used : Use → ℕ × (TypePart × Found)
used u = (u.item, (u.part, found_at u.hit))

-- `used_as files r` is the reference `r` with what it is found as in `files`
abbrev pub used_as : List FileDefs → Reference → ℕ × (TypePart × Found)
used_as files r = (r.item, (r.part, found_in files r))

-- `IsFirstAt statement name` is that the first reference of `statement` is to `name`
abbrev pub IsFirstAt : Statement → List ℕ → Type 0
IsFirstAt statement name = (within : List ℕ) (n : ℕ)
    → (part : TypePart) × (more : List Reference) × (references_by within n statement ≡ record { item = n; part = part; within = within; name = name } ∷ more)

-- `found_use o` is what the use `o` is found as; without one it is nothing
abbrev pub found_use : Option Use → Found
found_use None = FoundNothing
found_use (Some u) = found_at u.hit

-- `AreThere uses` is that none of `uses` is nothing
abbrev pub AreThere : List Use → Type 0
AreThere uses = Each (λ (u : Use). is_nothing (found_at u.hit) ≡ false) uses

-- `resolved_as u reached` is the use `u` with what it resolves to, where it is found as `reached` in
-- the files that are reached
abbrev pub resolved_as : Use → Found → ResolvedReference
resolved_as u reached = record { item = u.item; part = u.part; resolution = resolution_of (lookup_by (found_at u.hit) reached) }

-- `resolved_uses visible reached n` is each of `visible` with what it resolves to, where `reached` from
-- the place `n` on are the same references in the files that are reached
unfoldable pub resolved_uses : List Use → List Use → ℕ → List ResolvedReference
resolved_uses [] reached n = []
resolved_uses (u ∷ us) reached n = resolved_as u (found_use (slice_get reached n)) ∷ resolved_uses us reached (suc n)

-- `single_from files leads outer name` is what the name `name`, which has no dot, is found as in the
-- scopes before whose names `leads` are, where it is found as `outer` further out
unfoldable pub single_from : List FileDefs → List (List ℕ) → Found → List ℕ → Found
single_from files [] outer name = outer
single_from files (l ∷ ls) outer name = unless_type (found files (l ++ name)) (single_from files ls outer name)

-- `dotted_from files leads outer first name` is that of a name with a dot, whose first part is `first`
unfoldable pub dotted_from : List FileDefs → List (List ℕ) → Found → List ℕ → List ℕ → Found
dotted_from files [] outer first name = outer
dotted_from files (l ∷ ls) outer first name =
    cond (decides files (l ++ first)) (found files (l ++ name)) (dotted_from files ls outer first name)

-- `AreShort most files` is that the packages of `files` have at most `most` bytes
abbrev pub AreShort : ℕ → List FileDefs → Type 0
AreShort most files = Each (λ (f : FileDefs). length f.defs.package_name ≤ most) files

-- `AsksAll asks places files` is that `places`, where `asks` is true, has the place of each of `files`
-- in order
abbrev pub AsksAll : Bool → List ℕ → List FileDefs → Type 0
AsksAll false places files = Unit {0}
AsksAll true places files = (roots : List (List ℕ)) → AreNear places files roots
