-- The types of fields and methods as descriptors tell them (descriptor.proto,
-- "FieldDescriptorProto.Type").
use Rattle.std.specs.Prelude.{ℕ, Bool, true, false, cond, ◌&&◌, nat_eq, List, [], ◌∷◌, ◌++◌, codes, Option, Some, None}
use Rattle.std.specs.Str.{bytes_eq}
use Rattle.serde_json.specs.Data.{Data, null, string}
use Rattle.pq_links.specs.declared.places.TypePart.{TypePart}
use Rattle.pq_links.specs.declared.places.TypePart.TheVariants as parts
use Rattle.pq_schema.specs.declared.search.resolution.Resolution.{Resolution}
use Rattle.pq_schema.specs.declared.search.resolution.Resolution.TheVariants as resolutions
use Rattle.pq_schema.specs.declared.queries.resolved.ResolvedReference.{ResolvedReference}

-- `text_or_null t` is the text `t`, or null if there is none
abbrev pub text_or_null : Option (List ℕ) → Data
text_or_null None = null
text_or_null (Some t) = string t

-- `record { number = n; name = t }` is a type: the number of its kind, and its full name with a
-- leading dot, unless it is a scalar
pub record TypeOf : Type 0 where
  pub number : ℕ
  pub name : Option (List ℕ)

-- `scalar_numbers` lists the scalar types with their numbers
abbrev pub scalar_numbers : List (List ℕ × ℕ)
scalar_numbers =
    (codes "double", 1) ∷ (codes "float", 2) ∷ (codes "int64", 3) ∷ (codes "uint64", 4)
    ∷ (codes "int32", 5) ∷ (codes "fixed64", 6) ∷ (codes "fixed32", 7) ∷ (codes "bool", 8)
    ∷ (codes "string", 9) ∷ (codes "bytes", 12) ∷ (codes "uint32", 13) ∷ (codes "sfixed32", 15)
    ∷ (codes "sfixed64", 16) ∷ (codes "sint32", 17) ∷ (codes "sint64", 18) ∷ []

-- `number_in pairs name` is the number beside `name` in `pairs`
abbrev pub number_in : List (List ℕ × ℕ) → List ℕ → Option ℕ
number_in [] name = None
number_in (p ∷ ps) name = cond (bytes_eq p.0 name) (Some p.1) (number_in ps name)

-- `scalar_number name` is the number of the scalar type `name`, if it is one
abbrev pub scalar_number : List ℕ → Option ℕ
scalar_number name = number_in scalar_numbers name

-- `message_type` and `enum_type` are the numbers of messages and enums
abbrev pub message_type : ℕ
message_type = 11

abbrev pub enum_type : ℕ
enum_type = 14

-- `is_part a b` is whether `a` and `b` are the same part of a statement
abbrev pub is_part : TypePart → TypePart → Bool
is_part parts.Type parts.Type = true
is_part parts.Input parts.Input = true
is_part parts.Output parts.Output = true
is_part _ _ = false

-- `no_type` is the type of a reference that resolves to none: a message without a name. A file with
-- such a reference has an error.
abbrev pub no_type : TypeOf
no_type = record { number = message_type; name = None }

-- `type_to r` is the type that a reference resolves to with `r`
abbrev pub type_to : Resolution → TypeOf
type_to (resolutions.«Type» target) =
    record { number = cond target.is_enum enum_type message_type; name = Some (codes "." ++ target.full_name) }
type_to _ = no_type

-- `referred references n part` is the type that the part `part` of the item of the number `n`
-- refers to, by the first of the resolved references `references` that is of this part
unfoldable pub referred : List ResolvedReference → ℕ → TypePart → TypeOf
referred [] n part = no_type
referred (r ∷ rs) n part =
    cond (nat_eq r.item n && is_part r.part part) (type_to r.resolution) (referred rs n part)

-- `scalar_or scalar other` is the scalar type of the number `scalar`, or `other` if there is none
abbrev pub scalar_or : Option ℕ → TypeOf → TypeOf
scalar_or None other = other
scalar_or (Some n) other = record { number = n; name = None }

-- `field_type references n name` is the type `name` of a field or of the values of a map field, the
-- item of the number `n`
abbrev pub field_type : List ResolvedReference → ℕ → List ℕ → TypeOf
field_type references n name = scalar_or (scalar_number name) (referred references n parts.Type)

-- `key_type name` is the type `name` of the keys of a map field, which is a scalar
abbrev pub key_type : List ℕ → TypeOf
key_type name = scalar_or (scalar_number name) no_type
