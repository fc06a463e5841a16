-- Kinds of names that the query of resolved references preserves: in a scope of files of a kind, a
-- name resolves to a type of a file of the kind. A larger sum, which reads the files of targets,
-- has its laws from this.
use Rattle.std.proofs.Common.{◌≡◌, ◌⊎◌, ℕ, Bool, true, false, cond, List, [], ◌∷◌, map, Option, Some, None, refl, inl, inr}
use Rattle.std.specs.Prelude.{bytes_eq, nat_eq}
use Rattle.pq_rules.specs.Relations.{Each}
use Rattle.pq_rules.proofs.Preserved.{TurnIn}
use Rattle.pq_syntax.specs.declared.tree.Node.{Node}
use Rattle.pq_schema.specs.ScopeContents.{Scope}
use Rattle.pq_schema.specs.Compile.{resolved_in}
use Rattle.pq_schema.specs.Resolution.{Meaning, defined_in, meaning, is_package, Found, found_as, found_by, found, decides, unless_type, single, dotted, first_part, search, scopes, Lookup, lookup_by, lookup, resolution_of}
use Rattle.pq_schema.specs.Resolution.Meaning.{Defined, Undefined}
use Rattle.pq_schema.specs.Resolution.Found.{FoundType, FoundOther, FoundNothing}
use Rattle.pq_schema.specs.Resolution.Lookup.{IsType, IsNotFound, IsNotVisible, IsNotAType}
use Rattle.pq_schema.specs.Definitions.{qualified}
use Rattle.pq_schema.specs.References.{references_of}
use Rattle.pq_schema.specs.aux.NameKinds.{FilesIn, ScopeIn}
use Rattle.pq_schema.specs.aux.Queries.{resolved_starts, resolved_by, resolved_advances}
use Rattle.pq_schema.specs.declared.define.definitions.Definition.{Definition}
use Rattle.pq_schema.specs.declared.define.definitions.DefinitionKind.{DefinitionKind}
use Rattle.pq_schema.specs.declared.define.definitions.DefinitionKind.TheVariants as kinds
use Rattle.pq_schema.specs.declared.search.references.Reference.{Reference}
use Rattle.pq_schema.specs.declared.search.resolution.Resolution.{Resolution}
use Rattle.pq_schema.specs.declared.search.resolution.Resolution.TheVariants as resolutions
use Rattle.pq_schema.specs.declared.queries.resolved.ResolvedPart.{ResolvedPart}
use Rattle.pq_schema.specs.declared.queries.resolved.ResolvedPart.TheVariants.{ReadScope, ReadTree}
use Rattle.pq_schema.specs.declared.queries.resolved.ResolvedReference.{ResolvedReference}
use Rattle.pq_schema.specs.declared.scope.scope.FileDefs.{FileDefs}

-- `ResolutionIn N r` is that the file that the resolution `r` names, if it names one, is of the
-- kind
-- `N`
abbrev pub ResolutionIn : (List ℕ → Type 0) → Resolution → Type 0
ResolutionIn N (resolutions.«Type» target) = N target.file
ResolutionIn N resolutions.NotFound = Unit {0}
ResolutionIn N (resolutions.NotVisible file) = N file
ResolutionIn N resolutions.NotAType = Unit {0}

-- `ResolvedIn N rs` is that the files that the resolved references `rs` name are of the kind `N`
abbrev pub ResolvedIn : (List ℕ → Type 0) → List ResolvedReference → Type 0
ResolvedIn N rs = Each (λ (r : ResolvedReference). ResolutionIn N r.resolution) rs

-- `ResolvedPartIn N part` is that the names of the part `part` are of the kind `N`
abbrev pub ResolvedPartIn : (List ℕ → Type 0) → ResolvedPart → Type 0
ResolvedPartIn N (ReadScope f) = N f
ResolvedPartIn N (ReadTree scope) = ScopeIn N scope

abbrev MeaningIn : (List ℕ → Type 0) → Meaning → Type 0
MeaningIn N (Defined file d) = N file
MeaningIn N Undefined = Unit {0}

abbrev FoundIn : (List ℕ → Type 0) → Found → Type 0
FoundIn N (FoundType file d) = N file
FoundIn N FoundOther = Unit {0}
FoundIn N FoundNothing = Unit {0}

abbrev LookupIn : (List ℕ → Type 0) → Lookup → Type 0
LookupIn N (IsType file d) = N file
LookupIn N IsNotFound = Unit {0}
LookupIn N (IsNotVisible file) = N file
LookupIn N IsNotAType = Unit {0}

either_in : {A : Type 0} (P : A → Type 0) (b : Bool) (x y : A) → P x → P y → P (cond b x y)
either_in P true x y p q = p
either_in P false x y p q = q

option_is : {A : Type 0} (o : Option A) → (o ≡ None) ⊎ ((x : A) × (o ≡ Some x))
option_is None = inl refl
option_is (Some x) = inr (x, refl)

module _ (N : List ℕ → Type 0) where
  defined_in_in : (file : List ℕ) (ds : List Definition) (name : List ℕ) (o : Meaning) → N file → MeaningIn N o → MeaningIn N (defined_in file ds name o)
  unfolding defined_in
  defined_in_in file [] name o n i = i
  defined_in_in file (d ∷ ds) name o n i =
      either_in (MeaningIn N) (bytes_eq d.full_name name) (Defined file d) (defined_in file ds name o) n (defined_in_in file ds name o n i)

  meaning_in : (fs : List FileDefs) (name : List ℕ) → FilesIn N fs → MeaningIn N (meaning fs name)
  unfolding meaning
  meaning_in [] name a = tt
  meaning_in (f ∷ fs) name a = defined_in_in f.file f.defs.definitions name (meaning fs name) a.0 (meaning_in fs name a.1)

  found_as_in : (file : List ℕ) (d : Definition) (kind : DefinitionKind) → N file → FoundIn N (found_as file d kind)
  found_as_in file d kinds.Message n = n
  found_as_in file d kinds.Enum n = n
  found_as_in file d kinds.Service n = tt
  found_as_in file d kinds.Field n = tt
  found_as_in file d kinds.Oneof n = tt
  found_as_in file d kinds.Method n = tt
  found_as_in file d kinds.Value n = tt
  found_as_in file d kinds.Entry n = tt

  found_by_in : (b : Bool) (m : Meaning) → MeaningIn N m → FoundIn N (found_by b m)
  found_by_in b (Defined file d) i = found_as_in file d d.kind i
  found_by_in b Undefined i = either_in (FoundIn N) b FoundOther FoundNothing tt tt

  found_in : (fs : List FileDefs) (name : List ℕ) → FilesIn N fs → FoundIn N (found fs name)
  found_in fs name a = found_by_in (is_package fs name) (meaning fs name) (meaning_in fs name a)

  unless_in : (f outer : Found) → FoundIn N f → FoundIn N outer → FoundIn N (unless_type f outer)
  unless_in (FoundType file d) outer i j = i
  unless_in FoundOther (FoundType file d) i j = j
  unless_in FoundOther FoundOther i j = tt
  unless_in FoundOther FoundNothing i j = tt
  unless_in FoundNothing outer i j = j

  single_in : (fs : List FileDefs) (ss : List (List ℕ)) (name : List ℕ) → FilesIn N fs → FoundIn N (single fs ss name)
  unfolding single
  single_in fs [] name a = tt
  single_in fs (s ∷ ss) name a =
      unless_in (found fs (qualified s name)) (single fs ss name) (found_in fs (qualified s name) a) (single_in fs ss name a)

  dotted_in : (fs : List FileDefs) (ss : List (List ℕ)) (first name : List ℕ) → FilesIn N fs → FoundIn N (dotted fs ss first name)
  unfolding dotted
  dotted_in fs [] first name a = tt
  dotted_in fs (s ∷ ss) first name a =
      either_in (FoundIn N) (decides fs (qualified s first)) (found fs (qualified s name)) (dotted fs ss first name)
      (found_in fs (qualified s name) a) (dotted_in fs ss first name a)

  search_in : (fs : List FileDefs) (ss : List (List ℕ)) (name : List ℕ) → FilesIn N fs → FoundIn N (search fs ss name)
  search_in fs ss [] a = tt
  search_in fs ss (c ∷ cs) a = elim (option_is (first_part (c ∷ cs))) [
    | inl h ↦ rw h (either_in (FoundIn N) (nat_eq c 46) (found fs cs) (single fs ss (c ∷ cs)) (found_in fs cs a) (single_in fs ss (c ∷ cs) a))
    | inr h ↦ rw h.1 (either_in (FoundIn N) (nat_eq c 46) (found fs cs) (dotted fs ss h.0 (c ∷ cs)) (found_in fs cs a) (dotted_in fs ss h.0 (c ∷ cs) a))
  ]

  lookup_by_in : (f g : Found) → FoundIn N f → FoundIn N g → LookupIn N (lookup_by f g)
  lookup_by_in (FoundType file d) g i j = i
  lookup_by_in FoundOther g i j = tt
  lookup_by_in FoundNothing (FoundType file d) i j = j
  lookup_by_in FoundNothing FoundOther i j = tt
  lookup_by_in FoundNothing FoundNothing i j = tt

  lookup_in : (s : Scope) (within name : List ℕ) → ScopeIn N s → LookupIn N (lookup s within name)
  lookup_in s within name i =
      lookup_by_in (search s.visible (scopes within) name) (search s.reach (scopes within) name)
      (search_in s.visible (scopes within) name i.visible) (search_in s.reach (scopes within) name i.reach)

  resolution_in : (l : Lookup) → LookupIn N l → ResolutionIn N (resolution_of l)
  resolution_in (IsType file d) i = i
  resolution_in IsNotFound i = tt
  resolution_in (IsNotVisible file) i = i
  resolution_in IsNotAType i = tt

  references_in : (s : Scope) (rs : List Reference) → ScopeIn N s → ResolvedIn N (map (resolved_in s) rs)
  references_in s [] i = tt
  references_in s (r ∷ rs) i = (resolution_in (lookup s r.within r.name) (lookup_in s r.within r.name i), references_in s rs i)

  -- what the references of a file resolve to is in files of its scope
  pub resolved_by_in : (s : Scope) (nodes : List Node) → ScopeIn N s → ResolvedIn N (resolved_by s nodes)
  resolved_by_in s nodes i = references_in s (references_of nodes) i

  -- the query of resolved references asks and ends in the kind, with answers of the kind
  pub resolved_starts_in : {K : Type 0} (KeyIn : K → Type 0) (scope : List ℕ → K) → ((f : List ℕ) → N f → KeyIn (scope f))
      → (f : List ℕ) → N f → TurnIn KeyIn (ResolvedPartIn N) (ResolvedIn N) (resolved_starts scope f)
  resolved_starts_in KeyIn scope scope_in f n = (scope_in f n, n)

  pub resolved_advances_in : {K : Type 0} (KeyIn : K → Type 0) (items : List ℕ → K) → ((f : List ℕ) → N f → KeyIn (items f))
      → (s : Scope) (nodes : List Node) (p : ResolvedPart) → ScopeIn N s → ResolvedPartIn N p
      → TurnIn KeyIn (ResolvedPartIn N) (ResolvedIn N) (resolved_advances items s nodes p)
  resolved_advances_in KeyIn items items_in s nodes (ReadScope f) a i = (items_in f i, a)
  resolved_advances_in KeyIn items items_in s nodes (ReadTree read) a i = resolved_by_in read nodes i
