-- Auxiliary: kinds of names that the query of checks preserves: with answers that hold names of a
-- kind alone, it asks keys of names of the kind (used by proofs and invariants only).
use Rattle.std.proofs.Common.{ℕ, List, [], ◌∷◌, Option, Some, None}
use Rattle.std.specs.Prelude.{slice_get, unwrap_or}
use Rattle.pq_rules.proofs.Preserved.{TurnIn}
use Rattle.pq_links.specs.declared.links.Import.{Import}
use Rattle.pq_links.proofs.NameKinds.{ImportsIn, IfImportsIn}
use Rattle.pq_checks.specs.Answers.{CheckWords}
use Rattle.pq_checks.specs.aux.Queries.{link_next, staged, placed, with_state, link_follows, link_placed, check_starts, check_advances}
use Rattle.pq_checks.specs.declared.queries.checked.CheckPart.{CheckPart}
use Rattle.pq_checks.specs.declared.queries.checked.CheckPart.TheVariants.{ReadItems, ReadImports, ReadLinks, ReadDefs, ReadScope, ReadReferences, ReadState, ReadNext}
use Rattle.pq_checks.specs.declared.queries.gathered.Known.{Known}
use Rattle.pq_checks.specs.declared.queries.gathered.LinkedFile.{LinkedFile}
use Rattle.pq_checks.specs.declared.errors.fault.Fault.{Fault}
use Rattle.pq_checks.specs.declared.around.surroundings.Imported.{Imported}

-- `LinkedFileIn N l` is that the names of the file `l` and of its imports are of the kind `N`
abbrev LinkedFileIn : (List ℕ → Type 0) → LinkedFile → Type 0
LinkedFileIn N l = N l.file × ImportsIn N l.imports

-- `WaitingIn N k left` is that the names of the imports of the file `k`, and of those that are
-- left, are of the kind `N`
abbrev WaitingIn : (List ℕ → Type 0) → Known → List Import → Type 0
WaitingIn N k left = ImportsIn N k.linked.imports × ImportsIn N left

-- `CheckPartIn N part` is that the names that the rule asks after the part `part` are of the kind
-- `N`
abbrev pub CheckPartIn : (List ℕ → Type 0) → CheckPart → Type 0
CheckPartIn N (ReadItems f) = N f
CheckPartIn N (ReadImports f p) = N f
CheckPartIn N (ReadLinks f p is) = N f × ImportsIn N is
CheckPartIn N (ReadDefs l) = LinkedFileIn N l
CheckPartIn N (ReadScope l d) = LinkedFileIn N l
CheckPartIn N (ReadReferences l d s) = LinkedFileIn N l
CheckPartIn N (ReadState k left imported) = WaitingIn N k left
CheckPartIn N (ReadNext k left imported) = WaitingIn N k left

-- `FirstIn N first` is that the name of the import `first`, if there is one, is of the kind `N`
abbrev FirstIn : (List ℕ → Type 0) → Option Import → Type 0
FirstIn N None = Unit {0}
FirstIn N (Some i) = N i.file

first_in : (N : List ℕ → Type 0) (is : List Import) → ImportsIn N is → FirstIn N (slice_get is 0)
first_in N [] i = tt
first_in N (x ∷ xs) i = i.0

all_in : (N : List ℕ → Type 0) (o : Option (List Import)) → IfImportsIn N o → ImportsIn N (unwrap_or o [])
all_in N None i = tt
all_in N (Some is) i = i

-- `AsksIn KeyIn w N` is that each key that `w` offers for a name of the kind `N` is in `KeyIn`
pub record AsksIn {K A : Type 0} (KeyIn : K → Type 0) (w : CheckWords K A) (N : List ℕ → Type 0) : Type 0 where
  pub items : (f : List ℕ) → N f → KeyIn (w.items f)
  pub imports : (f : List ℕ) → N f → KeyIn (w.imports f)
  pub linked : (f : List ℕ) → N f → KeyIn (w.linked f)
  pub defs : (f : List ℕ) → N f → KeyIn (w.defs f)
  pub scope : (f : List ℕ) → N f → KeyIn (w.scope f)
  pub resolved : (f : List ℕ) → N f → KeyIn (w.resolved f)

module _ {K A : Type 0} (KeyIn : K → Type 0) (w : CheckWords K A) (N : List ℕ → Type 0) (asks : AsksIn KeyIn w N) where
  -- the errors of a file name no file that is asked
  abbrev CheckedIn : List Fault → Type 0
  CheckedIn c = Unit {0}

  link_next_in : (k : Known) (ring : Option (List (List ℕ))) (first : Option Import) (left : List Import) (imported : List Imported)
      → FirstIn N first → ImportsIn N k.linked.imports → TurnIn KeyIn (CheckPartIn N) CheckedIn (placed k left imported (link_next w.linked k ring first imported))
  link_next_in k (Some ring) (Some i) left imported n a = (asks.linked i.file n, (a, a))
  link_next_in k (Some ring) None left imported n a = tt
  link_next_in k None first left imported n a = tt

  staged_in : (k : Known) (next : Option Import) (left : List Import) (imported : List Imported)
      → FirstIn N next → WaitingIn N k left → TurnIn KeyIn (CheckPartIn N) CheckedIn (placed k left imported (staged w.linked w.items k next imported))
  staged_in k (Some i) left imported n a = (asks.items i.file n, a)
  staged_in k None left imported n a =
      link_next_in k k.linked.ring (slice_get k.linked.imports 0) left imported (first_in N k.linked.imports a.0) a.0

  link_in : (k : Known) (i : Import) (second : Option Import) (ring : Option (List (List ℕ))) (left : List Import) (imported : List Imported)
      → FirstIn N second → WaitingIn N k left → TurnIn KeyIn (CheckPartIn N) CheckedIn (link_placed k left imported (link_follows w.linked k (Some i) second ring imported))
  link_in k i second (Some ring) left imported n a = tt
  link_in k i (Some j) None left imported n a = (asks.linked j.file n, a)
  link_in k i None None left imported n a = tt

  -- the query of checks asks keys of the kind, with answers of the kind
  pub check_starts_in : (f : List ℕ) → N f → TurnIn KeyIn (CheckPartIn N) CheckedIn (check_starts w.items f)
  check_starts_in f n = (asks.items f n, n)

  pub check_advances_in : (p : CheckPart) (a : A) → IfImportsIn N (w.imported a) → CheckPartIn N p
      → TurnIn KeyIn (CheckPartIn N) CheckedIn (check_advances w p a)
  check_advances_in (ReadItems f) a is i = (asks.imports f i, i)
  check_advances_in (ReadImports f p) a is i = (asks.linked f i, (i, all_in N (w.imported a) is))
  check_advances_in (ReadLinks f p left) a is i = (asks.defs f i.0, i)
  check_advances_in (ReadDefs l) a is i = (asks.scope l.file i.0, i)
  check_advances_in (ReadScope l d) a is i = (asks.resolved l.file i.0, i)
  check_advances_in (ReadReferences l d s) a is i =
      staged_in (record { linked = l; defs = d; scope = s; references = w.referred a }) (slice_get l.imports 0) l.imports []
      (first_in N l.imports i.1) (i.1, i.1)
  check_advances_in (ReadState k [] imported) a is i = tt
  check_advances_in (ReadState k (x ∷ xs) imported) a is i =
      staged_in k (slice_get xs 0) xs (with_state (Some x) (w.itemed a) imported) (first_in N xs i.1.1) (i.0, i.1.1)
  check_advances_in (ReadNext k [] imported) a is i = tt
  check_advances_in (ReadNext k (x ∷ xs) imported) a is i =
      link_in k x (slice_get xs 0) (w.ring a) xs imported (first_in N xs i.1.1) (i.0, i.1.1)
