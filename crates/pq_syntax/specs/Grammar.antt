-- The grammar of proto3 as data (proto3 language specification, "Proto file"). The published rule
-- is in the comment before each rule. A keyword is a name that its position makes a keyword: a
-- field's type, for instance, does not begin with a keyword of another statement of a message.
-- Messages and brackets nest up to a limit: `n` levels of brackets, `levels` of messages.
use Rattle.std.specs.Prelude.{ℕ, zero, suc, Bool, true, false}
use Rattle.pq_syntax.specs.Rule.{Rule}
use Rattle.pq_syntax.specs.Rule.Rule.{Single, Empty, Seq, Alt, Star}
use Rattle.pq_syntax.specs.declared.terminal.Terminal.{Terminal}
use Rattle.pq_syntax.specs.declared.terminal.Terminal.TheVariants.{SyntaxWord, ImportWord, PackageWord, OptionWord, MessageWord, EnumWord, ServiceWord, MethodWord, ReturnsWord, StreamWord, OneofWord, MapWord, ReservedWord, ExtendWord, ToWord, MaxWord, ImportKindWord, LabelWord, KeyTypeName, InfOrNan, AnyIdentifier, FieldTypeName, MemberTypeName, ValueName, MethodTypeName, AnyInteger, AnyFloat, AnyText, Version, Semicolon, Equals, Comma, Dot, Minus, Plus, OpenBrace, CloseBrace, OpenBracket, CloseBracket, OpenParenthesis, CloseParenthesis, Less, Greater, Plain}

infixr 30 ◌▸◌
abbrev pub ◌▸◌ : Rule Terminal → Rule Terminal → Rule Terminal
a ▸ b = Seq a b

infixr 20 ◌∣◌
abbrev pub ◌∣◌ : Rule Terminal → Rule Terminal → Rule Terminal
a ∣ b = Alt a b

-- [ a ]
abbrev pub opt : Rule Terminal → Rule Terminal
opt a = a ∣ Empty

-- dotted = { "." ident }
abbrev pub dotted : Rule Terminal
dotted = Star (Single Dot ▸ Single AnyIdentifier)

-- full = ident { "." ident }
abbrev pub full : Rule Terminal
full = Single AnyIdentifier ▸ dotted

-- strs = string { string }
abbrev pub strs : Rule Terminal
strs = Single AnyText ▸ Star (Single AnyText)

-- `nested n` is any token but a bracket, or a pair of brackets with balanced tokens between, `n`
-- levels deep.
unfoldable pub nested : ℕ → Rule Terminal
nested zero = Single Plain
nested (suc n) =
    Single Plain ∣ (Single OpenBrace ▸ Star (nested n) ▸ Single CloseBrace) ∣ (Single OpenBracket ▸ Star (nested n) ▸ Single CloseBracket) ∣
    (Single OpenParenthesis ▸ Star (nested n) ▸ Single CloseParenthesis)

-- `balanced n` is any tokens in which { }, [ ] and ( ) are balanced, `n` levels deep.
abbrev pub balanced : ℕ → Rule Terminal
balanced n = Star (nested n)

-- `paired_by open close n` is balanced tokens between two brackets; `block n` is "{" balanced "}".
abbrev pub paired_by : Terminal → Terminal → ℕ → Rule Terminal
paired_by open' close' n = Single open' ▸ balanced n ▸ Single close'

abbrev pub block : ℕ → Rule Terminal
block n = paired_by OpenBrace CloseBrace n

-- type = [ "." ] full
abbrev pub type' : Rule Terminal
type' = opt (Single Dot) ▸ full

-- `type_from t` is a type whose first name, if no dot precedes it, is accepted by `t`.
abbrev pub type_from : Terminal → Rule Terminal
type_from t = (Single Dot ▸ full) ∣ (Single t ▸ dotted)

-- optpart = ident | "(" [ "." ] full ")"
abbrev pub optpart : Rule Terminal
optpart = Single AnyIdentifier ∣ (Single OpenParenthesis ▸ type' ▸ Single CloseParenthesis)

-- `separated separator item` is: item { separator item }
abbrev pub separated : Terminal → Rule Terminal → Rule Terminal
separated separator item = item ▸ Star (Single separator ▸ item)

-- optname = optpart { "." optpart }
abbrev pub optname : Rule Terminal
optname = separated Dot optpart

-- `unsigned` is what may follow a sign: integer | float | "inf" | "nan"
abbrev pub unsigned : Rule Terminal
unsigned = Single AnyInteger ∣ Single AnyFloat ∣ Single InfOrNan

-- constant = full | [ sign ] integer | [ sign ] float | sign ( "inf" | "nan" ) | strs | "{"
-- balanced "}"
abbrev pub constant : ℕ → Rule Terminal
constant n = full ∣ ((Single Minus ∣ Single Plus) ▸ unsigned) ∣ Single AnyInteger ∣ Single AnyFloat ∣ strs ∣ block n

-- optset = optname "=" constant
abbrev pub optset : ℕ → Rule Terminal
optset n = optname ▸ Single Equals ▸ constant n

-- option = "option" optset ";"
abbrev pub option : ℕ → Rule Terminal
option n = Single OptionWord ▸ optset n ▸ Single Semicolon

-- opts = "[" optset { "," optset } "]"
abbrev pub opts : ℕ → Rule Terminal
opts n = Single OpenBracket ▸ separated Comma (optset n) ▸ Single CloseBracket

-- `tail n` is the end of each field: ident "=" integer [ opts ] ";"
abbrev pub tail : ℕ → Rule Terminal
tail n = Single AnyIdentifier ▸ Single Equals ▸ Single AnyInteger ▸ opt (opts n) ▸ Single Semicolon

-- field = [ "optional" | "repeated" ] type tail: `field n` without a label, `labelled n` with one
abbrev pub field : ℕ → Rule Terminal
field n = type_from FieldTypeName ▸ tail n

abbrev pub labelled : ℕ → Rule Terminal
labelled n = Single LabelWord ▸ type' ▸ tail n

-- mapfield = "map" "<" keytype "," type ">" tail; without the "<", `map` is the first name of a
-- field's type
abbrev pub entry_types : Rule Terminal
entry_types = Single Less ▸ Single KeyTypeName ▸ Single Comma ▸ type' ▸ Single Greater

abbrev pub mapped : ℕ → Rule Terminal
mapped n = Single MapWord ▸ ((entry_types ▸ tail n) ∣ (dotted ▸ tail n))

-- `bodied keyword item` is a statement with a body: keyword ident "{" { item } "}"
abbrev pub head : Terminal → Rule Terminal
head keyword = Single keyword ▸ Single AnyIdentifier ▸ Single OpenBrace

abbrev pub bodied : Terminal → Rule Terminal → Rule Terminal
bodied keyword item = head keyword ▸ Star item ▸ Single CloseBrace

-- oneof = "oneof" ident "{" { option | type tail | ";" } "}"
abbrev pub member : ℕ → Rule Terminal
member n = type_from MemberTypeName ▸ tail n

abbrev pub oneof_item : ℕ → Rule Terminal
oneof_item n = option n ∣ member n ∣ Single Semicolon

abbrev pub oneof : ℕ → Rule Terminal
oneof n = bodied OneofWord (oneof_item n)

-- `bound signs` is an integer, which a minus may precede if `signs` is true.
abbrev pub sign_where : Bool → Rule Terminal
sign_where true = opt (Single Minus)
sign_where false = Empty

abbrev pub bound : Bool → Rule Terminal
bound signs = sign_where signs ▸ Single AnyInteger

-- [ "to" ( integer | "max" ) ]
abbrev pub range_end : Bool → Rule Terminal
range_end signs = opt (Single ToWord ▸ (bound signs ∣ Single MaxWord))

-- range = integer [ "to" ( integer | "max" ) ]
abbrev pub range : Bool → Rule Terminal
range signs = bound signs ▸ range_end signs

abbrev pub ranges : Bool → Rule Terminal
ranges signs = separated Comma (range signs)

abbrev pub strings : Rule Terminal
strings = separated Comma (Single AnyText)

-- reserved = "reserved" ( range { "," range } | string { "," string } ) ";", with signs in an enum
abbrev pub reserved : Bool → Rule Terminal
reserved signs = Single ReservedWord ▸ (ranges signs ∣ strings) ▸ Single Semicolon

-- value = ident "=" [ "-" ] integer [ opts ] ";"
abbrev pub value : ℕ → Rule Terminal
value n = Single ValueName ▸ Single Equals ▸ bound true ▸ opt (opts n) ▸ Single Semicolon

-- enum = "enum" ident "{" { option | reserved | value | ";" } "}"
abbrev pub enum_item : ℕ → Rule Terminal
enum_item n = option n ∣ reserved true ∣ value n ∣ Single Semicolon

abbrev pub enum : ℕ → Rule Terminal
enum n = bodied EnumWord (enum_item n)

-- [ "stream" ] type, in which `stream` is always the keyword
abbrev pub streamed : Rule Terminal
streamed = (Single StreamWord ▸ type') ∣ type_from MethodTypeName

-- rpc = "rpc" ident "(" [ "stream" ] type ")" "returns" "(" [ "stream" ] type ")" ( "{" { option |
-- ";" } "}" | ";" )
abbrev pub method_item : ℕ → Rule Terminal
method_item n = option n ∣ Single Semicolon

abbrev pub method_end : ℕ → Rule Terminal
method_end n = (Single OpenBrace ▸ Star (method_item n) ▸ Single CloseBrace) ∣ Single Semicolon

abbrev pub in_parentheses : Rule Terminal
in_parentheses = Single OpenParenthesis ▸ streamed ▸ Single CloseParenthesis

abbrev pub method : ℕ → Rule Terminal
method n = Single MethodWord ▸ Single AnyIdentifier ▸ in_parentheses ▸ Single ReturnsWord ▸ in_parentheses ▸ method_end n

-- service = "service" ident "{" { option | rpc | ";" } "}"
abbrev pub service_item : ℕ → Rule Terminal
service_item n = option n ∣ method n ∣ Single Semicolon

abbrev pub service : ℕ → Rule Terminal
service n = bodied ServiceWord (service_item n)

-- extend = "extend" type "{" balanced "}"
abbrev pub extend : ℕ → Rule Terminal
extend n = Single ExtendWord ▸ type' ▸ block n

-- `statement n` is a statement of a message other than a message.
abbrev pub statement : ℕ → Rule Terminal
statement n = enum n ∣ extend n ∣ option n ∣ oneof n ∣ reserved false ∣ labelled n ∣ mapped n ∣ Single Semicolon ∣ field n

-- message = "message" ident "{" { field | enum | message | extend | option | oneof | mapfield |
-- reserved | ";" } "}"
abbrev pub message_of : Rule Terminal → Rule Terminal
message_of item = bodied MessageWord item

-- `item n levels` is a statement of a message within which messages nest `levels` deep.
unfoldable pub item : ℕ → ℕ → Rule Terminal
item n zero = statement n
item n (suc levels) = message_of (item n levels) ∣ statement n

abbrev pub message : ℕ → ℕ → Rule Terminal
message n levels = message_of (item n levels)

-- import = "import" [ "public" | "weak" ] strs ";"
abbrev pub import' : Rule Terminal
import' = Single ImportWord ▸ opt (Single ImportKindWord) ▸ strs ▸ Single Semicolon

-- package = "package" full ";"
abbrev pub package' : Rule Terminal
package' = Single PackageWord ▸ full ▸ Single Semicolon

-- syntax = "syntax" "=" version ";", in which the version is one string of the value proto3
abbrev pub syntax' : Rule Terminal
syntax' = Single SyntaxWord ▸ Single Equals ▸ Single Version ▸ Single Semicolon

-- file = syntax { import | package | option | message | enum | service | extend | ";" }
abbrev pub file_item : ℕ → ℕ → Rule Terminal
file_item n levels = import' ∣ package' ∣ option n ∣ message n levels ∣ enum n ∣ service n ∣ extend n ∣ Single Semicolon

abbrev pub file : ℕ → ℕ → Rule Terminal
file n levels = syntax' ▸ Star (file_item n levels)

-- `proto_file` is the grammar of this project. Messages nest 64 deep, the outermost being the first
-- level, and so do the brackets of an aggregate or an extend block, its outer brace being the
-- first. So 63 levels lie within the first.
abbrev pub proto_file : Rule Terminal
proto_file = file 63 63

-- `deeper_file` is the same grammar with each limit one higher. An error that it does not have is
-- an error of depth alone.
abbrev pub deeper_file : Rule Terminal
deeper_file = file 64 64
