-- Auxiliary: kinds of names that the queries preserve: with answers that hold names of files of a
-- kind alone, they ask keys of names of the kind, and end in names of the kind (used by proofs and
-- invariants only). The laws of a sum follow from this, with `proofs/Preserved` of pq_rules.
use Rattle.std.proofs.Common.{ℕ, Bool, true, false, cond, List, [], ◌∷◌, ◌++◌, Option, Some, None}
use Rattle.std.specs.Prelude.{bytes_eq, find}
use Rattle.std.specs.List.{cons_option}
use Rattle.pq_rules.specs.Relations.{Each}
use Rattle.pq_rules.proofs.Preserved.{TurnIn}
use Rattle.pq_rules.proofs.Characterisation.{each_append}
use Rattle.pq_links.proofs.NameKinds.{LinksIn}
use Rattle.pq_links.specs.declared.links.Links.{Links}
use Rattle.pq_schema.specs.Contents.{Defs}
use Rattle.pq_schema.specs.ScopeContents.{Scope}
use Rattle.pq_schema.specs.Answers.{picked, scope_by}
use Rattle.pq_schema.specs.aux.Queries.{collect_next, scope_starts, scope_advances}
use Rattle.pq_schema.specs.declared.scope.scope.FileDefs.{FileDefs}
use Rattle.pq_schema.specs.declared.queries.scopes.ScopePart.{ScopePart}
use Rattle.pq_schema.specs.declared.queries.scopes.ScopePart.TheVariants.{ReadLinks, Collect}

-- `FilesIn N fs` is that the names of the files `fs` are of the kind `N`
abbrev pub FilesIn : (List ℕ → Type 0) → List FileDefs → Type 0
FilesIn N fs = Each (λ (f : FileDefs). N f.file) fs

-- `ScopeIn N s` is that the names of the files of the scope `s` are of the kind `N`
pub record ScopeIn (N : List ℕ → Type 0) (s : Scope) : Type 0 where
  pub visible : FilesIn N s.visible
  pub reach : FilesIn N s.reach

-- `ScopePartIn N part` is that the names of the part `part` are of the kind `N`
abbrev pub ScopePartIn : (List ℕ → Type 0) → ScopePart → Type 0
ScopePartIn N ReadLinks = Unit {0}
ScopePartIn N (Collect (visible, (left, files))) = Each N left × FilesIn N files

-- `FoundIn N f` is that the file `f`, if one was found, is of the kind `N`
abbrev FoundIn : (List ℕ → Type 0) → Option FileDefs → Type 0
FoundIn N None = Unit {0}
FoundIn N (Some f) = N f.file

found_test : (N : List ℕ → Type 0) (b : Bool) (f : FileDefs) (o : Option FileDefs) → N f.file → FoundIn N o → FoundIn N (cond b (Some f) o)
found_test N true f o h t = h
found_test N false f o h t = t

found_in : (N : List ℕ → Type 0) (n : List ℕ) (fs : List FileDefs) → FilesIn N fs → FoundIn N (find (λ (f : FileDefs). bytes_eq f.file n) fs)
found_in N n [] a = tt
found_in N n (f ∷ fs) a = found_test N (bytes_eq f.file n) f (find (λ (x : FileDefs). bytes_eq x.file n) fs) a.0 (found_in N n fs a.1)

cons_in : (N : List ℕ → Type 0) (o : Option FileDefs) (fs : List FileDefs) → FoundIn N o → FilesIn N fs → FilesIn N (cons_option o fs)
cons_in N None fs h t = t
cons_in N (Some f) fs h t = (h, t)

picked_in : (N : List ℕ → Type 0) (fs : List FileDefs) (names : List (List ℕ)) → FilesIn N fs → FilesIn N (picked fs names)
picked_in N fs [] a = tt
picked_in N fs (n ∷ ns) a = cons_in N (find (λ (f : FileDefs). bytes_eq f.file n) fs) (picked fs ns) (found_in N n fs a) (picked_in N fs ns a)

scope_by_in : (N : List ℕ → Type 0) (visible : List (List ℕ)) (fs : List FileDefs) → FilesIn N fs → ScopeIn N (scope_by visible fs)
scope_by_in N visible fs a = record { visible = picked_in N fs visible a; reach = a }

module _ {K : Type 0} (KeyIn : K → Type 0) (N : List ℕ → Type 0) (linked defs : List ℕ → K)
    (linked_in : (f : List ℕ) → N f → KeyIn (linked f)) (defs_in : (f : List ℕ) → N f → KeyIn (defs f)) where
  next_in : (visible left : List (List ℕ)) (files : List FileDefs) → Each N left → FilesIn N files
      → TurnIn KeyIn (ScopePartIn N) (ScopeIn N) (collect_next defs visible left files)
  next_in visible [] files a b = scope_by_in N visible files b
  next_in visible (n ∷ ns) files a b = (defs_in n a.0, (a, b))

  -- the query of scopes asks and ends in the kind, with answers of the kind
  pub scope_starts_in : (f : List ℕ) → N f → TurnIn KeyIn (ScopePartIn N) (ScopeIn N) (scope_starts linked f)
  scope_starts_in f n = (linked_in f n, tt)

  pub scope_advances_in : (l : Links) (d : Defs) (p : ScopePart) → LinksIn N l → ScopePartIn N p
      → TurnIn KeyIn (ScopePartIn N) (ScopeIn N) (scope_advances defs l d p)
  scope_advances_in l d ReadLinks a i = next_in l.visible l.reach [] a.reach tt
  scope_advances_in l d (Collect (visible, ([], files))) a i = scope_by_in N visible files i.1
  scope_advances_in l d (Collect (visible, (n ∷ ns, files))) a i =
      next_in visible ns (files ++ record { file = n; defs = d } ∷ []) i.0.1
      (each_append (λ (f : FileDefs). N f.file) files (record { file = n; defs = d } ∷ []) i.1 (i.0.0, tt))
