-- Auxiliary: a search from a package outwards, by the scopes that have definitions and by the
-- packages (used by proofs and contracts of private functions only).
use Rattle.std.specs.Prelude.{◌≡◌, ℕ, Bool, true, false, cond, length, nat_lt, List, [], ◌∷◌, ◌++◌, Option, Some, None}
use Rattle.std.specs.Str.{IsUtf8}
use Rattle.pq_schema.specs.declared.scope.scope.FileDefs.{FileDefs}
use Rattle.pq_schema.specs.declared.search.references.Reference.{Reference}
use Rattle.pq_schema.specs.Definitions.{qualified}
use Rattle.pq_schema.specs.Resolution.{Found, Meaning, found, found_by, has_names, meaning, scopes, search, unless_type}
use Rattle.pq_schema.specs.Resolution.Found.{FoundOther, FoundNothing}
use Rattle.pq_schema.specs.Resolution.Meaning.{Defined, Undefined}
use Rattle.pq_schema.specs.aux.Along.{Contents}
use Rattle.pq_schema.specs.aux.Spots.{AreSpots}

-- `opens meaning` is that a name of the meaning `meaning` is that of a definition that can have
-- names in it
abbrev pub opens : Meaning → Bool
opens (Defined file d) = has_names d.kind
opens Undefined = false

-- `defined files name` is what the full name `name` is found as where packages do not count
abbrev pub defined : List FileDefs → List ℕ → Found
defined files name = found_by false (meaning files name)

-- `in_spots files spots name` is what a name without a dot is found as in the scopes `spots`, which
-- have a dot after them, where packages do not count
unfoldable pub in_spots : List FileDefs → List (List ℕ) → List ℕ → Found
in_spots files [] name = FoundNothing
in_spots files (s ∷ ss) name = unless_type (defined files (s ++ name)) (in_spots files ss name)

-- `of_package is_there` is what a name is found as that is not defined, where `is_there` is whether
-- it is a package
abbrev pub of_package : Bool → Found
of_package is_there = cond is_there FoundOther FoundNothing

-- `beyond spot place` is the scope `spot` with its dot, unless the scope of `place` bytes is as long
abbrev pub beyond : Option (List ℕ) → Option ℕ → Option (List ℕ)
beyond None place = None
beyond (Some l) None = Some l
beyond (Some l) (Some n) = cond (nat_lt n (length l)) (Some l) None

-- `found_from files name o` is what `name` is found as where the scope `o` decides
abbrev pub found_from : List FileDefs → List ℕ → Option (List ℕ) → Found
found_from files name None = FoundNothing
found_from files name (Some s) = found files (qualified s name)

-- `IsOutward files along root spots` is that `along` and `spots` are made of the files `files` and
-- the package `root`
pub record IsOutward (files : List FileDefs) (along : Contents) (root : List ℕ) (spots : List (List ℕ)) : Type 0 where
  pub of_files : along.files ≡ files
  pub of_root : along.root ≡ root
  pub of_text : IsUtf8 root
  pub are_spots : AreSpots files root spots

-- `found_in files r` is what the reference `r` is found as in `files`
abbrev pub found_in : List FileDefs → Reference → Found
found_in files r = search files (scopes r.within) r.name

-- `is_nothing f` is that a search that ends in `f` found nothing
abbrev pub is_nothing : Found → Bool
is_nothing FoundNothing = true
is_nothing _ = false
