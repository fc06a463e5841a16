-- What a name resolves to: the search goes from the innermost scope outwards
-- (proto3 language specification, "Packages and Name Resolution").
use Rattle.std.specs.Prelude.{ℕ, Bool, true, false, cond, ◌||◌, bytes_eq, nat_eq, List, [], ◌∷◌, ◌++◌, map, Option, Some, None, Result, Ok, Err, codes}
use Rattle.std.specs.List.{starts_with}
use Rattle.pq_schema.specs.ScopeContents.{Scope}
use Rattle.pq_schema.specs.declared.scope.scope.FileDefs.{FileDefs}
use Rattle.pq_schema.specs.Definitions.{qualified}
use Rattle.pq_schema.specs.declared.define.definitions.Definition.{Definition}
use Rattle.pq_schema.specs.declared.define.definitions.DefinitionKind.{DefinitionKind}
use Rattle.pq_schema.specs.declared.define.definitions.DefinitionKind.TheVariants.{Message, Enum, Service}
use Rattle.pq_schema.specs.declared.search.resolution.Target.{Target}
use Rattle.pq_schema.specs.declared.search.resolution.ResolveFault.{ResolveFault}
use Rattle.pq_schema.specs.declared.search.resolution.ResolveFault.TheVariants.{NotFound, NotVisible, NotAType}
use Rattle.pq_schema.specs.declared.search.resolution.Resolution.{Resolution}
use Rattle.pq_schema.specs.declared.search.resolution.Resolution.TheVariants as resolutions

-- `Defined file d` is the definition `d` of the file `file`; `Undefined` is that there is none
pub data Meaning : Type 0 where
  Defined : (file : List ℕ) → (definition : Definition) → Meaning
  Undefined : Meaning

-- `defined_in file ds name otherwise` is the first of the definitions `ds` of the file `file` with
-- the full name `name`, or `otherwise`
unfoldable pub defined_in : List ℕ → List Definition → List ℕ → Meaning → Meaning
defined_in file [] name otherwise = otherwise
defined_in file (d ∷ ds) name otherwise =
    cond (bytes_eq d.full_name name) (Defined file d) (defined_in file ds name otherwise)

-- `meaning files name` is the first definition with the full name `name`: the files in order, then
-- each file in text order, whatever the definition's kind
unfoldable pub meaning : List FileDefs → List ℕ → Meaning
meaning [] name = Undefined
meaning (f ∷ fs) name = defined_in f.file f.defs.definitions name (meaning fs name)

-- `is_package files name` is that `name` is the package of one of the files, or the part of one
-- before a dot. The empty name is not a package.
unfoldable pub is_package : List FileDefs → List ℕ → Bool
is_package [] name = false
is_package (f ∷ fs) [] = false
is_package (f ∷ fs) (c ∷ cs) =
    (bytes_eq f.defs.package_name (c ∷ cs)
    || starts_with nat_eq f.defs.package_name ((c ∷ cs) ++ codes "."))
    || is_package fs (c ∷ cs)

-- What a search ends in: a type (a message or an enum), another definition or a package, or nothing
pub data Found : Type 0 where
  FoundType : (file : List ℕ) → (definition : Definition) → Found
  FoundOther : Found
  FoundNothing : Found

-- `found_as file d kind` is what a search ends in at the definition `d` of the file `file` and of
-- the kind `kind`: messages and enums are types
abbrev pub found_as : List ℕ → Definition → DefinitionKind → Found
found_as file d Message = FoundType file d
found_as file d Enum = FoundType file d
found_as file d _ = FoundOther

-- `found_by is_there m` is what a full name of the meaning `m` is found as, where `is_there` is
-- whether it is a package
abbrev pub found_by : Bool → Meaning → Found
found_by is_there (Defined file d) = found_as file d d.kind
found_by is_there Undefined = cond is_there FoundOther FoundNothing

-- `found files name` is what the full name `name` is found as in the files `files`
abbrev pub found : List FileDefs → List ℕ → Found
found files name = found_by (is_package files name) (meaning files name)

-- `has_names kind` is that a definition of the kind `kind` can have names in it: messages, enums
-- and services can, entries cannot
abbrev pub has_names : DefinitionKind → Bool
has_names Message = true
has_names Enum = true
has_names Service = true
has_names _ = false

-- `decides files name` is that the full name `name` decides for a dotted name whose first part it
-- is: it is a package, or a definition that can have names in it
abbrev pub decides : List FileDefs → List ℕ → Bool
decides files name = opens (meaning files name) || is_package files name
  where
    opens : Meaning → Bool
    opens (Defined file d) = has_names d.kind
    opens Undefined = false

-- `unless_type f outer` is `f` if it is a type; else a type in `outer`, the scopes further out;
-- else what is not nothing
abbrev pub unless_type : Found → Found → Found
unless_type (FoundType file d) outer = FoundType file d
unless_type FoundOther (FoundType file d) = FoundType file d
unless_type FoundOther _ = FoundOther
unless_type FoundNothing outer = outer

-- `single files scopes name` is what a name without a dot is found as: the first of `scopes` that
-- has it as a type decides
unfoldable pub single : List FileDefs → List (List ℕ) → List ℕ → Found
single files [] name = FoundNothing
single files (s ∷ ss) name = unless_type (found files (qualified s name)) (single files ss name)

-- `dotted files scopes first name` is what a name with a dot is found as: the first of `scopes` in
-- which its first part `first` decides
unfoldable pub dotted : List FileDefs → List (List ℕ) → List ℕ → List ℕ → Found
dotted files [] first name = FoundNothing
dotted files (s ∷ ss) first name =
    cond (decides files (qualified s first)) (found files (qualified s name)) (dotted files ss first name)

-- `first_part name` is `name` before its first dot, or `None` if it has no dot
unfoldable pub first_part : List ℕ → Option (List ℕ)
first_part [] = None
first_part (c ∷ cs) = cond (nat_eq c 46) (Some []) (after (first_part cs))
  where
    after : Option (List ℕ) → Option (List ℕ)
    after None = None
    after (Some p) = Some (c ∷ p)

-- `prefixes name` lists the prefixes of `name` before each of its dots, the longest first
unfoldable pub prefixes : List ℕ → List (List ℕ)
prefixes [] = []
prefixes (c ∷ cs) = map (λ s. c ∷ s) (prefixes cs) ++ cond (nat_eq c 46) ([] ∷ []) []

-- `scopes within` lists the full names of the scopes of a reference in the message, service or
-- package `within`, the innermost first: `within`, its prefixes before dots, the empty scope
abbrev pub scopes : List ℕ → List (List ℕ)
scopes [] = [] ∷ []
scopes (c ∷ cs) = (c ∷ cs) ∷ (prefixes (c ∷ cs) ++ [] ∷ [])

-- `search files scopes name` is what the name `name` is found as from the scopes `scopes`. Of a
-- name with a leading dot the rest is a full name.
abbrev pub search : List FileDefs → List (List ℕ) → List ℕ → Found
search files scopes [] = FoundNothing
search files scopes (c ∷ cs) = cond (nat_eq c 46) (found files cs) (relative (first_part (c ∷ cs)))
  where
    relative : Option (List ℕ) → Found
    relative None = single files scopes (c ∷ cs)
    relative (Some first) = dotted files scopes first (c ∷ cs)

-- What a name resolves to: a type of a file, or why it has none
pub data Lookup : Type 0 where
  IsType : (file : List ℕ) → (definition : Definition) → Lookup
  IsNotFound : Lookup
  IsNotVisible : (file : List ℕ) → Lookup
  IsNotAType : Lookup

-- `lookup_by visible reached` is what a name resolves to that is found as `visible` in the visible
-- files and as `reached` in those that are reached: a type that only these have is not visible
abbrev pub lookup_by : Found → Found → Lookup
lookup_by (FoundType file d) reached = IsType file d
lookup_by FoundOther reached = IsNotAType
lookup_by FoundNothing (FoundType file d) = IsNotVisible file
lookup_by FoundNothing _ = IsNotFound

-- `lookup scope within name` is what `name` resolves to in the message, service or package `within`
-- of a file with the scope `scope`
abbrev pub lookup : Scope → List ℕ → List ℕ → Lookup
lookup scope within name =
    lookup_by (search scope.visible (scopes within) name) (search scope.reach (scopes within) name)

-- `is_enum kind` is that the kind of a type is that of enums
abbrev pub is_enum : DefinitionKind → Bool
is_enum Enum = true
is_enum _ = false

-- `target file d` is the type that the definition `d` of the file `file` defines
abbrev pub target : List ℕ → Definition → Target
target file d = record { file = file; full_name = d.full_name; is_enum = is_enum d.kind; item = d.item }

-- `target_of l` is the target or the refusal of the lookup `l`
abbrev pub target_of : Lookup → Result Target ResolveFault
target_of (IsType file d) = Ok (target file d)
target_of IsNotFound = Err NotFound
target_of (IsNotVisible file) = Err (NotVisible file)
target_of IsNotAType = Err NotAType

-- `resolution_of l` is the lookup `l` as the query of a file's references keeps it
abbrev pub resolution_of : Lookup → Resolution
resolution_of (IsType file d) = resolutions.«Type» (target file d)
resolution_of IsNotFound = resolutions.NotFound
resolution_of (IsNotVisible file) = resolutions.NotVisible file
resolution_of IsNotAType = resolutions.NotAType

-- `resolved scope within name` is the target of the name `name`, or its refusal
abbrev pub resolved : Scope → List ℕ → List ℕ → Result Target ResolveFault
resolved scope within name = target_of (lookup scope within name)
