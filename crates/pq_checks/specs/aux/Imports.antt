-- Auxiliary: the errors of an import by what the code has looked up (used by proofs and invariants
-- only).
use Rattle.std.specs.Prelude.{◌≡◌, ℕ, cond, List, [], ◌∷◌, bytes_eq, Option, Some, None}
use Rattle.std.specs.Borrow.{Bor}
use Rattle.std.specs.BTreeMap.{BTreeMap, get}
use Rattle.pq_checks.specs.Surroundings.{Surroundings}
use Rattle.pq_checks.specs.aux.Views.{lent_cmp}
use Rattle.pq_checks.specs.declared.around.surroundings.FileState.{FileState}
use Rattle.pq_checks.specs.declared.around.surroundings.Imported.{Imported}

-- `found_in imported name` is the state of the first of the files `imported` with the name `name`
abbrev pub found_in : List Imported → List ℕ → Option FileState
found_in [] name = None
found_in (i ∷ is) name = cond (bytes_eq i.file name) (Some i.state) (found_in is name)

-- `IsStateMap m imported` is that the map `m` has the states of the files `imported` by name
abbrev pub IsStateMap : BTreeMap (Bor (List ℕ)) FileState → List Imported → Type 0
IsStateMap m imported = (q : Bor (List ℕ)) → get lent_cmp m q ≡ found_in imported q.now

-- `by_imports imported ring next` is the surroundings of a file, of which only the imports are
-- known
abbrev pub by_imports : List Imported → Option (List (List ℕ)) → Option (List ℕ) → Surroundings
by_imports imported ring next = record {
  imported = imported;
  ring = ring;
  next = next;
  definitions = [];
  others = [];
  references = [];
}

-- `first_name ring` is the first of the names `ring`, or the empty name
abbrev pub first_name : List (List ℕ) → List ℕ
first_name [] = []
first_name (f ∷ fs) = f
