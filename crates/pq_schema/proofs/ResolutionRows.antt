-- Worked rows of the resolution of names.
use Rattle.std.specs.Prelude.{◌≡◌, ℕ, List, [], ◌∷◌, Result, Ok, Err, codes, true, false, refl}
use Rattle.pq_schema.specs.Resolution.{defined_in, meaning, is_package, single, dotted, first_part, prefixes, scopes, resolved}
use Rattle.pq_schema.specs.declared.define.definitions.Definition.{Definition}
use Rattle.pq_schema.specs.declared.define.definitions.DefinitionKind.{DefinitionKind}
use Rattle.pq_schema.specs.declared.define.definitions.DefinitionKind.TheVariants as kinds
use Rattle.pq_schema.specs.declared.scope.scope.FileDefs.{FileDefs}
use Rattle.pq_schema.specs.ScopeContents.{Scope}
use Rattle.pq_schema.specs.declared.search.resolution.Target.{Target}
use Rattle.pq_schema.specs.declared.search.resolution.ResolveFault.{ResolveFault}
use Rattle.pq_schema.specs.declared.search.resolution.ResolveFault.TheVariants.{NotFound, NotVisible, NotAType}

abbrev defined : List ℕ → DefinitionKind → Definition
defined name kind = record { full_name = name; kind = kind; item = 0 }

abbrev file : List ℕ → List ℕ → List Definition → FileDefs
file name root ds = record { file = name; defs = record { package_name = root; definitions = ds } }

-- `message file name` is the target of the message `name` of the file `file`
abbrev message : List ℕ → List ℕ → Result Target ResolveFault
message file name = Ok (record { file = file; full_name = name; is_enum = false; item = 0 })

-- c.proto: message C; b.proto imports it; a.proto imports b.proto: message M { C x = 1; }
abbrev a_file : FileDefs
a_file = file (codes "a.proto") [] (defined (codes "M") kinds.Message ∷ defined (codes "M.x") kinds.Field ∷ [])

abbrev b_file : FileDefs
b_file = file (codes "b.proto") [] []

abbrev c_file : FileDefs
c_file = file (codes "c.proto") [] (defined (codes "C") kinds.Message ∷ [])

abbrev plain : Scope
plain = record { visible = a_file ∷ b_file ∷ []; reach = a_file ∷ b_file ∷ c_file ∷ [] }

abbrev passed_on : Scope
passed_on = record { visible = a_file ∷ b_file ∷ c_file ∷ []; reach = a_file ∷ b_file ∷ c_file ∷ [] }

pub not_visible : resolved plain (codes "M") (codes "C") ≡ Err (NotVisible (codes "c.proto"))
unfolding defined_in meaning is_package single first_part prefixes
not_visible = refl

pub not_a_type : resolved plain (codes "M") (codes "x") ≡ Err NotAType
unfolding defined_in meaning is_package single first_part prefixes
not_a_type = refl

pub not_found : resolved plain (codes "M") (codes "D") ≡ Err NotFound
unfolding defined_in meaning is_package single first_part prefixes
not_found = refl

pub a_type : resolved plain (codes "M") (codes "M") ≡ message (codes "a.proto") (codes "M")
unfolding defined_in meaning is_package single first_part prefixes
a_type = refl

pub visible_now : resolved passed_on (codes "M") (codes "C") ≡ message (codes "c.proto") (codes "C")
unfolding defined_in meaning is_package single first_part prefixes
visible_now = refl

-- b.proto: package foo; message Bar {}. a.proto: package a.foo; message M { foo.Bar x = 1; }: the
-- scope a has the package a.foo, which decides
abbrev two_packages : List FileDefs
two_packages =
    file (codes "a.proto") (codes "a.foo") (defined (codes "a.foo.M") kinds.Message ∷ defined (codes "a.foo.M.x") kinds.Field ∷ [])
    ∷ file (codes "b.proto") (codes "foo") (defined (codes "foo.Bar") kinds.Message ∷ []) ∷ []

abbrev both : List FileDefs → Scope
both files = record { visible = files; reach = files }

pub package_decides : resolved (both two_packages) (codes "a.foo.M") (codes "foo.Bar") ≡ Err NotFound
unfolding defined_in meaning is_package dotted first_part prefixes
package_decides = refl

pub leading_dot : resolved (both two_packages) (codes "a.foo.M") (codes ".foo.Bar") ≡ message (codes "b.proto") (codes "foo.Bar")
unfolding defined_in meaning is_package first_part prefixes
leading_dot = refl

-- of equal full names the first visible file's is meant
abbrev twice : List FileDefs
twice =
    file (codes "one.proto") [] (defined (codes "T") kinds.Message ∷ [])
    ∷ file (codes "two.proto") [] (defined (codes "T") kinds.Message ∷ []) ∷ []

pub first_file : resolved (both twice) [] (codes "T") ≡ message (codes "one.proto") (codes "T")
unfolding defined_in meaning is_package single first_part prefixes
first_file = refl

-- message M { map<string, string> n = 1; NEntry.T t = 2; } message NEntry { message T {} }:
-- M.NEntry is an entry, which does not decide for NEntry.T
abbrev entries : List FileDefs
entries =
    file (codes "e.proto") []
    (defined (codes "M") kinds.Message ∷ defined (codes "M.n") kinds.Field ∷ defined (codes "M.NEntry") kinds.Entry
    ∷ defined (codes "NEntry") kinds.Message ∷ defined (codes "NEntry.T") kinds.Message ∷ []) ∷ []

pub entry_passes : resolved (both entries) (codes "M") (codes "NEntry.T") ≡ message (codes "e.proto") (codes "NEntry.T")
unfolding defined_in meaning is_package dotted first_part prefixes
entry_passes = refl

pub entry_is_no_type : resolved (both entries) (codes "M") (codes "M.NEntry") ≡ Err NotAType
unfolding defined_in meaning is_package dotted first_part prefixes
entry_is_no_type = refl

-- package p; message M { enum E { A = 0; } message T {} } message T {} enum E {}
abbrev inner : List FileDefs
inner =
    file (codes "i.proto") (codes "p")
    (defined (codes "p.M") kinds.Message ∷ defined (codes "p.M.E") kinds.Enum ∷ defined (codes "p.M.A") kinds.Value
    ∷ defined (codes "p.M.T") kinds.Message ∷ defined (codes "p.T") kinds.Message ∷ defined (codes "p.E") kinds.Enum ∷ []) ∷ []

pub value_is_no_type : resolved (both inner) (codes "p.M") (codes "A") ≡ Err NotAType
unfolding defined_in meaning is_package single first_part prefixes
value_is_no_type = refl

-- the inner scope decides before the outer
pub inner_first : resolved (both inner) (codes "p.M") (codes "T") ≡ message (codes "i.proto") (codes "p.M.T")
unfolding defined_in meaning is_package single first_part prefixes
inner_first = refl

-- a scope without the first part of a dotted name does not decide
pub inner_decides : resolved (both inner) (codes "p.M") (codes "M.T") ≡ message (codes "i.proto") (codes "p.M.T")
unfolding defined_in meaning is_package dotted first_part prefixes
inner_decides = refl

-- package p; message M { message M {} message T {} }: in p.M the name M.T means p.M.M.T, which is
-- not defined, and not p.M.T
abbrev shadowed : List FileDefs
shadowed =
    file (codes "s.proto") (codes "p")
    (defined (codes "p.M") kinds.Message ∷ defined (codes "p.M.M") kinds.Message ∷ defined (codes "p.M.T") kinds.Message ∷ []) ∷ []

pub shadow_decides : resolved (both shadowed) (codes "p.M") (codes "M.T") ≡ Err NotFound
unfolding defined_in meaning is_package dotted first_part prefixes
shadow_decides = refl

-- the package p decides for p.E, an enum
pub an_enum : resolved (both inner) (codes "p.M") (codes "p.E")
    ≡ Ok (record { file = codes "i.proto"; full_name = codes "p.E"; is_enum = true; item = 0 })
unfolding defined_in meaning is_package dotted first_part prefixes
an_enum = refl

-- a package is no type
pub package_is_no_type : resolved (both two_packages) [] (codes "a.foo") ≡ Err NotAType
unfolding defined_in meaning is_package dotted first_part prefixes
package_is_no_type = refl

-- the scopes of a reference, the innermost first
pub three_scopes : scopes (codes "p.M") ≡ codes "p.M" ∷ codes "p" ∷ [] ∷ []
unfolding prefixes
three_scopes = refl
