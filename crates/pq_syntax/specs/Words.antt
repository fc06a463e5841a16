-- The words of a sentence are tokens with their spellings. This file says which words each terminal
-- accepts (proto3 language specification, "Lexical elements": ident, intLit, floatLit, strLit, the
-- keywords and the symbols).
use Rattle.std.specs.Prelude.{ℕ, Bool, true, false, not, ◌&&◌, List, [], ◌∷◌, map, codes}
use Rattle.std.specs.List.{list_any}
use Rattle.std.specs.Str.{bytes_eq}
use Rattle.pq_lex.specs.declared.token.Kind.{Kind}
use Rattle.pq_lex.specs.declared.token.Kind.TheVariants.{Identifier, Integer, Float, Text, Symbol}
use Rattle.pq_lex.specs.declared.token.Span.{Span}
use Rattle.pq_lex.specs.declared.token.Token.{Token}
use Rattle.pq_lex.specs.Values.{spelling, text_value_of}
use Rattle.pq_syntax.specs.declared.terminal.Terminal.{Terminal}
use Rattle.pq_syntax.specs.declared.terminal.Terminal.TheVariants.{SyntaxWord, ImportWord, PackageWord, OptionWord, MessageWord, EnumWord, ServiceWord, MethodWord, ReturnsWord, StreamWord, OneofWord, MapWord, ReservedWord, ExtendWord, ToWord, MaxWord, ImportKindWord, LabelWord, KeyTypeName, InfOrNan, AnyIdentifier, FieldTypeName, MemberTypeName, ValueName, MethodTypeName, AnyInteger, AnyFloat, AnyText, Version, Semicolon, Equals, Comma, Dot, Minus, Plus, OpenBrace, CloseBrace, OpenBracket, CloseBracket, OpenParenthesis, CloseParenthesis, Less, Greater, Plain}

-- `Word` is a token with its spelling.
pub record Word : Type 0 where
  pub kind : Kind
  pub span : Span
  pub text : List ℕ

-- `word text t` is the token `t` of `text` as a word.
abbrev pub word : List ℕ → Token → Word
word text t = record { kind = t.kind; span = t.span; text = spelling text t.span }

-- `words text ts` is the tokens `ts` of `text` as words.
abbrev pub words : List ℕ → List Token → List Word
words text ts = map (word text) ts

-- `among a texts` is whether `a` is one of `texts`.
abbrev pub among : List ℕ → List (List ℕ) → Bool
among a texts = list_any (bytes_eq a) texts

-- `is_identifier kind`, `is_integer kind` and so on are whether `kind` is that sort of token.
abbrev pub is_identifier : Kind → Bool
is_identifier Identifier = true
is_identifier _ = false

abbrev pub is_integer : Kind → Bool
is_integer Integer = true
is_integer _ = false

abbrev pub is_float : Kind → Bool
is_float Float = true
is_float _ = false

abbrev pub is_text : Kind → Bool
is_text Text = true
is_text _ = false

abbrev pub is_symbol : Kind → Bool
is_symbol Symbol = true
is_symbol _ = false

-- `Class` is what a terminal asks of a word:
--     Named            a name
--     Keyword k        the name `k`
--     OneOf ks         a name among `ks`
--     NameBut ks       a name that is not among `ks`
--     Whole, Real      an integer; a float
--     Str, Valued v    a string; a string of the value `v`
--     Sign s           the symbol `s`
--     NoBracket        any word but a brace, a bracket or a parenthesis
pub data Class : Type 0 where
  Named : Class
  Keyword : List ℕ → Class
  OneOf : List (List ℕ) → Class
  NameBut : List (List ℕ) → Class
  Whole : Class
  Real : Class
  Str : Class
  Valued : List ℕ → Class
  Sign : List ℕ → Class
  NoBracket : Class

-- `brackets` is the symbols that have to be balanced.
abbrev pub brackets : List (List ℕ)
brackets = codes "{" ∷ codes "}" ∷ codes "[" ∷ codes "]" ∷ codes "(" ∷ codes ")" ∷ []

-- `accepts_class class w` is whether `w` is what `class` asks for.
abbrev pub accepts_class : Class → Word → Bool
accepts_class Named w = is_identifier w.kind
accepts_class (Keyword k) w = is_identifier w.kind && bytes_eq w.text k
accepts_class (OneOf ks) w = is_identifier w.kind && among w.text ks
accepts_class (NameBut ks) w = is_identifier w.kind && not (among w.text ks)
accepts_class Whole w = is_integer w.kind
accepts_class Real w = is_float w.kind
accepts_class Str w = is_text w.kind
accepts_class (Valued v) w = is_text w.kind && bytes_eq (text_value_of w.text) v
accepts_class (Sign s) w = is_symbol w.kind && bytes_eq w.text s
accepts_class NoBracket w = not (is_symbol w.kind && among w.text brackets)

-- `message_words`, `oneof_words` and `enum_words` are the names that cannot begin a field's type in
-- a message, a field's type in a oneof, or a value in an enum: the keywords of the other statements
-- there. `required` and, in a oneof, the labels begin no statement. For `map` the grammar has a
-- rule of its own.
abbrev pub message_words : List (List ℕ)
message_words =
    codes "message" ∷ codes "enum" ∷ codes "extend" ∷ codes "option" ∷ codes "oneof" ∷ codes "reserved" ∷ codes "optional" ∷ codes "repeated" ∷
    codes "required" ∷ codes "map" ∷ []

abbrev pub oneof_words : List (List ℕ)
oneof_words = codes "option" ∷ codes "optional" ∷ codes "repeated" ∷ codes "required" ∷ []

abbrev pub enum_words : List (List ℕ)
enum_words = codes "option" ∷ codes "reserved" ∷ []

-- `key_types` is the types that a map's key may have (proto3 language specification, "Map field").
abbrev pub key_types : List (List ℕ)
key_types =
    codes "int32" ∷ codes "int64" ∷ codes "uint32" ∷ codes "uint64" ∷ codes "sint32" ∷ codes "sint64" ∷ codes "fixed32" ∷ codes "fixed64" ∷
    codes "sfixed32" ∷ codes "sfixed64" ∷ codes "bool" ∷ codes "string" ∷ []

-- `class terminal` is what `terminal` asks of a word.
abbrev pub class : Terminal → Class
class SyntaxWord = Keyword (codes "syntax")
class ImportWord = Keyword (codes "import")
class PackageWord = Keyword (codes "package")
class OptionWord = Keyword (codes "option")
class MessageWord = Keyword (codes "message")
class EnumWord = Keyword (codes "enum")
class ServiceWord = Keyword (codes "service")
class MethodWord = Keyword (codes "rpc")
class ReturnsWord = Keyword (codes "returns")
class StreamWord = Keyword (codes "stream")
class OneofWord = Keyword (codes "oneof")
class MapWord = Keyword (codes "map")
class ReservedWord = Keyword (codes "reserved")
class ExtendWord = Keyword (codes "extend")
class ToWord = Keyword (codes "to")
class MaxWord = Keyword (codes "max")
class ImportKindWord = OneOf (codes "public" ∷ codes "weak" ∷ [])
class LabelWord = OneOf (codes "optional" ∷ codes "repeated" ∷ [])
class KeyTypeName = OneOf key_types
class InfOrNan = OneOf (codes "inf" ∷ codes "nan" ∷ [])
class AnyIdentifier = Named
class FieldTypeName = NameBut message_words
class MemberTypeName = NameBut oneof_words
class ValueName = NameBut enum_words
class MethodTypeName = NameBut (codes "stream" ∷ [])
class AnyInteger = Whole
class AnyFloat = Real
class AnyText = Str
class Version = Valued (codes "proto3")
class Semicolon = Sign (codes ";")
class Equals = Sign (codes "=")
class Comma = Sign (codes ",")
class Dot = Sign (codes ".")
class Minus = Sign (codes "-")
class Plus = Sign (codes "+")
class OpenBrace = Sign (codes "{")
class CloseBrace = Sign (codes "}")
class OpenBracket = Sign (codes "[")
class CloseBracket = Sign (codes "]")
class OpenParenthesis = Sign (codes "(")
class CloseParenthesis = Sign (codes ")")
class Less = Sign (codes "<")
class Greater = Sign (codes ">")
class Plain = NoBracket

-- `accepts terminal w` is whether `terminal` accepts `w`.
abbrev pub accepts : Terminal → Word → Bool
accepts t w = accepts_class (class t) w

-- `is_version terminal` is whether `terminal` is the version, the one terminal that looks at a
-- string's value.
abbrev pub is_version : Terminal → Bool
is_version Version = true
is_version _ = false
