-- The errors of a file: a table with a clause for each kind, which says when it holds, at which part
-- of which item it is, and its message (proto3 language specification; the codes are this project's
-- own). A syntax error is none of them: a file that has one has no tree.
--
-- `table s nodes` is the table of a file with the tree `nodes` and the surroundings `s`: each line
-- says the clauses of the elements of one list. `faults s nodes` lists all that the lines say. The law
-- `each_fault` says that these are the errors, and `each_stands` that each is at a part of the tree.
use Rattle.std.specs.Prelude.{ℕ, nat_eq, ◌&&◌, not, ℤ, pos, cond, Bool, true, false, List, [], ◌∷◌, ◌++◌, codes, is_some, bytes_eq, Option, Some, None, slice_get}
use Rattle.std.specs.Fmt.{signed_decimal}
use Rattle.std.specs.List.{list_any}
use Rattle.std.specs.Option.{option_eq}
use Rattle.std.specs.Ordering.{int_eq}
use Rattle.std.specs.Str.{is_utf8}
use Rattle.pq_syntax.specs.declared.parts.Constant.{Constant}
use Rattle.pq_syntax.specs.declared.parts.ConstantKind.{ConstantKind}
use Rattle.pq_syntax.specs.declared.parts.ConstantKind.TheVariants.{Identifier, Float, Aggregate}
use Rattle.pq_syntax.specs.declared.parts.Name.{Name}
use Rattle.pq_syntax.specs.declared.parts.NamePart.{NamePart}
use Rattle.pq_syntax.specs.declared.tree.Node.{Node}
use Rattle.pq_syntax.specs.declared.tree.Statement.{Statement}
use Rattle.pq_syntax.specs.declared.tree.Statement.TheVariants.{Field, MapField, Method}
use Rattle.pq_links.specs.declared.places.Part.{Part}
use Rattle.pq_links.specs.declared.places.Part.TheVariants as part
use Rattle.pq_links.specs.declared.places.TypePart.{TypePart}
use Rattle.pq_links.specs.declared.places.TypePart.TheVariants as types
use Rattle.pq_schema.specs.declared.define.definitions.Definition.{Definition}
use Rattle.pq_schema.specs.declared.define.definitions.DefinitionKind.{DefinitionKind}
use Rattle.pq_schema.specs.declared.define.definitions.DefinitionKind.TheVariants as kinds
use Rattle.pq_schema.specs.declared.search.resolution.Resolution.{Resolution}
use Rattle.pq_schema.specs.declared.search.resolution.Resolution.TheVariants as resolutions
use Rattle.pq_schema.specs.declared.queries.resolved.ResolvedReference.{ResolvedReference}
use Rattle.pq_schema.specs.declared.scope.scope.FileDefs.{FileDefs}
use Rattle.pq_checks.specs.Line.{Line, each, after, unless, all_said, IsSaidByOne}
use Rattle.pq_checks.specs.Members.{Sited, sited, of_kind, Member, fields, values, ranges, ReservedName, reserved_names, ImportName, imports, Opted, option_statements, Assigned, constants}
use Rattle.pq_checks.specs.Numbers.{Limits, field_limits, enum_limits, number_in, bounds_of, is_between}
use Rattle.pq_checks.specs.Owners.{limits_by}
use Rattle.pq_checks.specs.Surroundings.{Surroundings, state_in, first_with}
use Rattle.pq_checks.specs.declared.around.surroundings.FileState.{FileState}
use Rattle.pq_checks.specs.declared.around.surroundings.FileState.TheVariants.{Missing, Unreadable, Readable}
use Rattle.pq_checks.specs.declared.errors.code.Code.{Code}
use Rattle.pq_checks.specs.declared.errors.code.Code.TheVariants as code
use Rattle.pq_checks.specs.declared.errors.fault.Fault.{Fault}
use Rattle.pq_checks.specs.declared.tree.members.Kind.TheVariants.{Package, Oneof, Enum, Extend}
use Rattle.pq_checks.specs.declared.tree.members.Reserved.{Reserved}
use Rattle.pq_checks.specs.declared.tree.numbers.Bounds.{Bounds}

-- ---- how a line is said

-- `at item p c text` is the error of the code `c` with the message `text` at the part `p` of the item
-- `item`
abbrev pub at : ℕ → Part → Code → List ℕ → Fault
at item p c text = record { item = item; part = p; code = c; text = text }

-- `when holds f` lists `f` if `holds`
abbrev pub when : Bool → Fault → List Fault
when holds f = cond holds (f ∷ []) []

-- `quoted name` is `name` between quotation marks
abbrev pub quoted : List ℕ → List ℕ
quoted name = codes "\"" ++ name ++ codes "\""

-- `same_item a b` is whether `a` and `b` are the same number of a statement, or both `None`
abbrev pub same_item : Option ℕ → Option ℕ → Bool
same_item = option_eq nat_eq

-- `number_text n` is the decimal text of the number `n`
abbrev pub number_text : Option ℤ → List ℕ
number_text None = []
number_text (Some z) = signed_decimal z

-- ---- P020 to P022: skipped constructs

-- `kind_faults kind item nth` is P020 and P022 of a constant of the kind `kind`, that of the option
-- `nth` of the item `item`
abbrev pub kind_faults : ConstantKind → ℕ → ℕ → List Fault
kind_faults Aggregate item nth = at item (part.Constant nth) code.AggregateConstant (codes "aggregate option value is not read") ∷ []
kind_faults Float item nth = at item (part.Constant nth) code.FloatConstant (codes "float literal is not read") ∷ []
kind_faults _ item nth = []

-- `constant_faults a` is the errors of the constant `a` of an option
abbrev pub constant_faults : Assigned → List Fault
constant_faults a = kind_faults a.kind a.item a.nth

-- `extend_faults item` is P021 of the extend block `item`
abbrev pub extend_faults : ℕ → List Fault
extend_faults item = at item part.Whole code.ExtendBlock (codes "extend block is not read") ∷ []

-- ---- P101: the package

-- `package_faults earlier p` is the error of the package `p` after the packages `earlier`
abbrev pub package_faults : List ℕ → ℕ → List Fault
package_faults [] p = []
package_faults (q ∷ qs) p = at p part.Name code.PackageTwice (codes "package is given twice") ∷ []

-- ---- P102 to P106: imports

-- `state_faults state i` is P102 and P104 of the import `i` of a file in the state `state`
abbrev pub state_faults : FileState → ImportName → List Fault
state_faults Missing i = at i.item part.Name code.ImportNotFound (codes "import " ++ quoted i.value ++ codes " is not found") ∷ []
state_faults Unreadable i = at i.item part.Name code.ImportWithError (codes "import " ++ quoted i.value ++ codes " has a syntax fault") ∷ []
state_faults Readable i = []

-- `is_listed name earlier` is whether one of the imports `earlier` has the name `name`
abbrev pub is_listed : List ℕ → List ImportName → Bool
is_listed name earlier = list_any (λ (e : ImportName). bytes_eq name e.value) earlier

-- `arrowed files last` is the names `files` and then `last`, with arrows between
abbrev pub arrowed : List (List ℕ) → List ℕ → List ℕ
arrowed [] last = last
arrowed (f ∷ fs) last = f ++ codes " -> " ++ arrowed fs last

-- `ring_text ring` is the message about the ring of imports `ring`: its first name comes again at
-- the end
abbrev pub ring_text : List (List ℕ) → List ℕ
ring_text [] = codes "import cycle: "
ring_text (f ∷ fs) = codes "import cycle: " ++ arrowed (f ∷ fs) f

-- `ring_faults ring next repeated i` is P105 of the import `i`, whose name is `repeated` or not, in a
-- file with the ring `ring` and the first bad import `next`
abbrev pub ring_faults : Option (List (List ℕ)) → Option (List ℕ) → Bool → ImportName → List Fault
ring_faults (Some ring) (Some next) repeated i =
    when (bytes_eq i.value next && not repeated) (at i.item part.Name code.ImportCycle (ring_text ring))
ring_faults _ _ repeated i = []

-- `listed_faults repeated i` is P103 of the import `i`, whose name is `repeated` or not
abbrev pub listed_faults : Bool → ImportName → List Fault
listed_faults repeated i = when repeated (at i.item part.Name code.ImportTwice (codes "import " ++ quoted i.value ++ codes " is listed twice"))

-- `named_faults state ring next repeated i` is P102 to P105 of the import `i`, where `state` is the
-- state of its file
abbrev pub named_faults : FileState → Option (List (List ℕ)) → Option (List ℕ) → Bool → ImportName → List Fault
named_faults state ring next repeated i = state_faults state i ++ listed_faults repeated i ++ ring_faults ring next repeated i

-- `import_faults_by state ring next repeated i` is these of a name that is UTF-8; of another name
-- only P106 is said
abbrev pub import_faults_by : FileState → Option (List (List ℕ)) → Option (List ℕ) → Bool → ImportName → List Fault
import_faults_by state ring next repeated i =
    cond (is_utf8 i.value) (named_faults state ring next repeated i) (at i.item part.Name code.ImportNotText (codes "import name is not UTF-8") ∷ [])

-- `import_faults s earlier i` is the errors of the import `i` after the imports `earlier`, in a
-- file with the surroundings `s`
abbrev pub import_faults : Surroundings → List ImportName → ImportName → List Fault
import_faults s earlier i = import_faults_by (state_in s.imported i.value) s.ring s.next (is_listed i.value earlier) i

-- ---- P110 and P111: definitions

-- `twice_faults earlier d` is P110 of the definition `d` after the definitions `earlier`
abbrev pub twice_faults : List Definition → Definition → List Fault
twice_faults earlier d =
    when (list_any (λ (e : Definition). bytes_eq d.full_name e.full_name) earlier) (at d.item part.Name code.DefinedTwice (quoted d.full_name ++ codes " is already defined"))

-- `deepest kind` is the depth of a statement at file level that defines something of the kind
-- `kind`: a message, an enum or a service at no depth, a value in an enum at file level. Other
-- definitions are never at file level.
abbrev pub deepest : DefinitionKind → Option ℕ
deepest kinds.Message = Some 0
deepest kinds.Enum = Some 0
deepest kinds.Service = Some 0
deepest kinds.Value = Some 1
deepest _ = None

-- `is_at_top nodes d` is whether the definition `d` of a file with the statements `nodes` is at
-- file level
abbrev pub is_at_top : List Node → Definition → Bool
is_at_top nodes d = by (deepest d.kind) (slice_get nodes d.item)
  where
    by : Option ℕ → Option Node → Bool
    by (Some depth) (Some n) = nat_eq n.depth depth
    by _ _ = false

-- `other_faults other d` is P111 of the definition `d`, where `other` is the first other visible
-- file that defines its full name
abbrev pub other_faults : Option (List ℕ) → Definition → List Fault
other_faults None d = []
other_faults (Some file) d =
    at d.item part.Name code.DefinedElsewhere (quoted d.full_name ++ codes " is already defined in " ++ file) ∷ []

-- `elsewhere_faults others nodes d` is P111 of the definition `d` of a file with the statements
-- `nodes` that also sees the files `others`
abbrev pub elsewhere_faults : List FileDefs → List Node → Definition → List Fault
elsewhere_faults others nodes d =
    cond (is_at_top nodes d) (other_faults (first_with d.full_name others) d) []

-- ---- P120 to P125: fields and reserved ranges

-- `has_number limits owner number members` is whether one of `members` of the message or enum
-- `owner` has the number `number`, which is within `limits`
abbrev pub has_number : Limits → Option ℕ → Option ℤ → List Member → Bool
has_number limits owner None members = false
has_number limits owner (Some z) members =
    list_any (λ (e : Member). same_item owner e.owner && option_eq int_eq (Some z) (number_in limits e.number)) members

-- `covers bounds z` is whether the range `bounds` has the number `z`
abbrev pub covers : Option Bounds → ℤ → Bool
covers None z = false
covers (Some b) z = is_between b.first b.last z

-- `is_reserved owner number reserved` is whether one of the ranges `reserved` of the message or
-- enum `owner` has the number `number`
abbrev pub is_reserved : Option ℕ → Option ℤ → List Reserved → Bool
is_reserved owner None reserved = false
is_reserved owner (Some z) reserved =
    list_any (λ (r : Reserved). same_item owner r.owner && covers (bounds_of (limits_by r.in_enum) r.range) z) reserved

-- `is_reserved_name owner name names` is whether one of the reserved names `names` of the message
-- or enum `owner` is `name`
abbrev pub is_reserved_name : Option ℕ → List ℕ → List ReservedName → Bool
is_reserved_name owner name names =
    list_any (λ (r : ReservedName). same_item owner r.owner && bytes_eq name r.value) names

-- `is_for_protobuf number` is whether `number` is from 19000 to 19999
abbrev pub is_for_protobuf : Option ℤ → Bool
is_for_protobuf None = false
is_for_protobuf (Some z) = is_between (pos 19000) (pos 19999) z

-- `field_faults number twice reserved f` is P120 to P123 of the field `f` of the number `number`:
-- `twice` is whether a field before it has the number, and `reserved` whether that is reserved
abbrev pub field_faults : Option ℤ → Bool → Bool → Member → List Fault
field_faults number twice reserved f =
    when (not (is_some number)) (at f.item part.Number code.FieldNumberOutOfRange (codes "field number must be from 1 to 536870911"))
    ++ when (is_for_protobuf number) (at f.item part.Number code.FieldNumberOfProtobuf (codes "field numbers 19000 to 19999 are reserved"))
    ++ when twice (at f.item part.Number code.FieldNumberTwice (codes "field number " ++ number_text number ++ codes " is used twice"))
    ++ when reserved (at f.item part.Number code.FieldNumberReserved (codes "field number " ++ number_text number ++ codes " is reserved"))

-- `field_number_faults reserved earlier f` is P120 to P123 of the field `f` after the fields
-- `earlier`, where `reserved` lists the reserved ranges
abbrev pub field_number_faults : List Reserved → List Member → Member → List Fault
field_number_faults reserved earlier f = let number = number_in field_limits f.number in
    field_faults number (has_number field_limits f.owner number earlier) (is_reserved f.owner number reserved) f

-- `name_faults c before names m` is the error of the code `c` of the field or enum value `m`, if its
-- name is one of the reserved names `names`; its message begins with `before`
abbrev pub name_faults : Code → List ℕ → List ReservedName → Member → List Fault
name_faults c before names m =
    when (is_reserved_name m.owner m.name.text names) (at m.item part.Name c (before ++ quoted m.name.text ++ codes " is reserved"))

-- `range_faults r` is P125 of the reserved range `r`
abbrev pub range_faults : Reserved → List Fault
range_faults r =
    when (not (is_some (bounds_of (limits_by r.in_enum) r.range))) (at r.item (part.Range r.nth) code.BadRange (codes "reserved range is empty or out of range"))

-- ---- P126 to P135: oneofs and enums

-- `is_empty body members` is whether none of `members` is in the body of the statement `body`
abbrev pub is_empty : ℕ → List Member → Bool
is_empty body members = not (list_any (λ (m : Member). same_item (Some body) m.holder) members)

-- `body_faults c text members b` is the error of the code `c` with the message `text` of the statement
-- `b`, if none of `members` is in its body
abbrev pub body_faults : Code → List ℕ → List Member → ℕ → List Fault
body_faults c text members b = when (is_empty b members) (at b part.Name c text)

-- `is_named name parts` is whether an option's name with the parts `parts` is the one name `name`
abbrev pub is_named : List ℕ → List NamePart → Bool
is_named name (part ∷ []) = not part.is_extension && bytes_eq part.text name
is_named name _ = false

-- `is_identifier kind` is whether `kind` is that of identifiers
abbrev pub is_identifier : ConstantKind → Bool
is_identifier Identifier = true
is_identifier _ = false

-- `is_true c` is whether the constant `c` is the identifier `true`
abbrev pub is_true : Constant → Bool
is_true c = is_identifier c.kind && bytes_eq c.text (codes "true")

-- `is_alias_of enum o` is whether `o` is the option `allow_alias` of the enum `enum`
abbrev pub is_alias_of : Option ℕ → Opted → Bool
is_alias_of enum o = same_item o.holder enum && is_named (codes "allow_alias") o.setting.parts

-- `last_alias so_far options enum` is whether the last option `allow_alias` of the enum `enum`
-- among `options` is true, or `so_far` if there is none
abbrev pub last_alias : Bool → List Opted → Option ℕ → Bool
last_alias so_far [] enum = so_far
last_alias so_far (o ∷ os) enum = last_alias (cond (is_alias_of enum o) (is_true o.setting.constant) so_far) os enum

-- `allows_alias options enum` is whether the enum `enum` allows two values with one number
abbrev pub allows_alias : List Opted → Option ℕ → Bool
allows_alias options enum = last_alias false options enum

-- `is_first v earlier` is whether the enum value `v` is the first of its enum, after the values
-- `earlier`
abbrev pub is_first : Member → List Member → Bool
is_first v earlier = not (list_any (λ (e : Member). same_item v.owner e.owner) earlier)

-- `is_zero number` is whether `number` is 0
abbrev pub is_zero : Option ℤ → Bool
is_zero None = false
is_zero (Some z) = int_eq z (pos 0)

-- `value_faults number first twice reserved v` is P131 to P134 of the enum value `v` of the number
-- `number`: `first` is whether it is the first of its enum, `twice` whether one before it has the
-- number with no alias allowed, and `reserved` whether the number is reserved
abbrev pub value_faults : Option ℤ → Bool → Bool → Bool → Member → List Fault
value_faults number first twice reserved v =
    when (first && not (is_zero number)) (at v.item part.Number code.FirstValueNotZero (codes "the first enum value must be 0"))
    ++ when (not (is_some number)) (at v.item part.Number code.EnumNumberOutOfRange (codes "enum number must be from -2147483648 to 2147483647"))
    ++ when twice (at v.item part.Number code.EnumNumberTwice (codes "enum number " ++ number_text number ++ codes " is used twice without allow_alias"))
    ++ when reserved (at v.item part.Number code.EnumNumberReserved (codes "enum number " ++ number_text number ++ codes " is reserved"))

-- `value_number_faults reserved options earlier v` is P131 to P134 of the enum value `v` after the
-- values `earlier`, where `reserved` lists the reserved ranges and `options` the options
abbrev pub value_number_faults : List Reserved → List Opted → List Member → Member → List Fault
value_number_faults reserved options earlier v = let number = number_in enum_limits v.number in
    value_faults number (is_first v earlier) (has_number enum_limits v.owner number earlier && not (allows_alias options v.owner)) (is_reserved v.owner number reserved) v

-- ---- P150 to P153: type references

-- `is_method p` is whether a type reference of the part `p` is one of a method
abbrev pub is_method : TypePart → Bool
is_method types.«Type» = false
is_method types.Input = true
is_method types.Output = true

-- `resolution_faults item p name r` is the errors of the type reference with the name `name`, the
-- type `p` of the item `item`, which resolves to `r`
abbrev pub resolution_faults : ℕ → TypePart → List ℕ → Resolution → List Fault
resolution_faults item p name resolutions.NotFound = at item (part.«Type» p) code.TypeNotFound (codes "type " ++ quoted name ++ codes " is not found") ∷ []
resolution_faults item p name (resolutions.NotVisible file) = at item (part.«Type» p) code.TypeNotImported (codes "type " ++ quoted name ++ codes " is in " ++ file ++ codes ", which is not imported") ∷ []
resolution_faults item p name resolutions.NotAType = at item (part.«Type» p) code.NotAType (quoted name ++ codes " is not a type") ∷ []
resolution_faults item p name (resolutions.«Type» target) =
    when (is_method p && target.is_enum) (at item (part.«Type» p) code.NotAMessage (quoted name ++ codes " is not a message"))

-- `named_type p s` is the name of the type that the part `p` of the statement `s` is
abbrev pub named_type : TypePart → Statement → Option Name
named_type types.«Type» (Field label kind name number options) = Some kind
named_type types.«Type» (MapField key value name number options) = Some value
named_type types.Input (Method name input output) = Some input.type_name
named_type types.Output (Method name input output) = Some output.type_name
named_type _ _ = None

-- `reference_faults nodes r` is the errors of the type reference `r` of the statements `nodes`
abbrev pub reference_faults : List Node → ResolvedReference → List Fault
reference_faults nodes r = of_node (slice_get nodes r.item)
  where
    of_name : Option Name → List Fault
    of_name None = []
    of_name (Some name) = resolution_faults r.item r.part name.text r.resolution

    of_node : Option Node → List Fault
    of_node None = []
    of_node (Some n) = of_name (named_type r.part n.statement)

-- ---- the table

-- `unread_table all` is P020 to P022 of the statements `all`
abbrev pub unread_table : List Sited → List Line
unread_table all =
    each constant_faults (constants all)
    ∷ each extend_faults (of_kind Extend all)
    ∷ []

-- `link_table s all` is P101 to P106 of the statements `all`
abbrev pub link_table : Surroundings → List Sited → List Line
link_table s all =
    after package_faults (of_kind Package all)
    ∷ after (import_faults s) (imports all)
    ∷ []

-- `in_good s l` is the line `l` of a file with the surroundings `s` that is good; a bad file has no
-- error of it
abbrev pub in_good : Surroundings → Line → Line
in_good s l = unless (is_some s.ring) l

-- `definition_table s nodes` is P110 and P111
abbrev pub definition_table : Surroundings → List Node → List Line
definition_table s nodes =
    after twice_faults s.definitions
    ∷ in_good s (each (elsewhere_faults s.others nodes) s.definitions)
    ∷ []

-- `message_table all` is P120 to P126 of the statements `all`
abbrev pub message_table : List Sited → List Line
message_table all =
    after (field_number_faults (ranges all)) (fields all)
    ∷ each (name_faults code.FieldNameReserved (codes "field name ") (reserved_names all)) (fields all)
    ∷ each range_faults (ranges all)
    ∷ each (body_faults code.EmptyOneof (codes "oneof has no field") (fields all)) (of_kind Oneof all)
    ∷ []

-- `enumeration_table all` is P130 to P135 of the statements `all`
abbrev pub enumeration_table : List Sited → List Line
enumeration_table all =
    each (body_faults code.EmptyEnum (codes "enum has no value") (values all)) (of_kind Enum all)
    ∷ after (value_number_faults (ranges all) (option_statements all)) (values all)
    ∷ each (name_faults code.EnumValueNameReserved (codes "enum value name ") (reserved_names all)) (values all)
    ∷ []

-- `type_table s nodes` is P150 to P153
abbrev pub type_table : Surroundings → List Node → List Line
type_table s nodes =
    in_good s (each (reference_faults nodes) s.references)
    ∷ []

-- `table s nodes` is the table of errors of a file with the statements `nodes` and the surroundings
-- `s`
abbrev pub table : Surroundings → List Node → List Line
table s nodes =
    unread_table (sited nodes)
    ++ link_table s (sited nodes)
    ++ definition_table s nodes
    ++ message_table (sited nodes)
    ++ enumeration_table (sited nodes)
    ++ type_table s nodes

-- `faults s nodes` lists the errors of that file: all that the lines of the table say
abbrev pub faults : Surroundings → List Node → List Fault
faults s nodes = all_said (table s nodes)

-- `IsFault s nodes x` is that `x` is an error of that file: one line says it
abbrev pub IsFault : Surroundings → List Node → Fault → Type 0
IsFault s nodes x = IsSaidByOne (table s nodes) x
