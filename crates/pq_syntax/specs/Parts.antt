-- The parts of statements, read off their parses: names, numbers, strings, options, ranges and
-- types. Each view is a total function. Its cases are the shapes that a parse of its rule has; the
-- last case is for any other parse.
use Rattle.std.specs.Prelude.{ℕ, Bool, true, false, cond, List, [], ◌∷◌, ◌++◌, None}
use Rattle.std.specs.Str.Lossy.{utf8_lossy}
use Rattle.pq_lex.specs.declared.token.Span.{Span}
use Rattle.pq_lex.specs.Values.{integer_value_of, text_value_of}
use Rattle.pq_syntax.specs.Rule.{Parse}
use Rattle.pq_syntax.specs.Rule.Parse.{Leaf, Nil, Pair, Left, Right}
use Rattle.pq_syntax.specs.Yield.{yield_of}
use Rattle.pq_syntax.specs.Words.{Word}
use Rattle.pq_syntax.specs.declared.parts.Name.{Name}
use Rattle.pq_syntax.specs.declared.parts.Number.{Number}
use Rattle.pq_syntax.specs.declared.parts.Strings.{Strings}
use Rattle.pq_syntax.specs.declared.parts.NamePart.{NamePart}
use Rattle.pq_syntax.specs.declared.parts.ConstantKind.{ConstantKind}
use Rattle.pq_syntax.specs.declared.parts.ConstantKind.TheVariants.{Identifier, Integer, Float, Text, Aggregate}
use Rattle.pq_syntax.specs.declared.parts.Constant.{Constant}
use Rattle.pq_syntax.specs.declared.parts.Setting.{Setting}
use Rattle.pq_syntax.specs.declared.parts.Range.{Range}
use Rattle.pq_syntax.specs.declared.parts.RangeEnd.{RangeEnd}
use Rattle.pq_syntax.specs.declared.parts.RangeEnd.TheVariants.{Alone, To, Max}
use Rattle.pq_syntax.specs.declared.parts.MethodType.{MethodType}

-- `end_of end ws` is the end of the last of `ws`, or `end` if there is none.
abbrev pub end_of : ℕ → List Word → ℕ
end_of end [] = end
end_of end (w ∷ ws) = end_of w.span.end ws

-- `span_across ws` is the span from the first of `ws` to the last.
abbrev pub span_across : List Word → Span
span_across [] = record { start = 0; end = 0 }
span_across (w ∷ ws) = record { start = w.span.start; end = end_of w.span.end ws }

-- `joined ws` is the spellings of `ws`, with nothing between them.
abbrev pub joined : List Word → List ℕ
joined [] = []
joined (w ∷ ws) = w.text ++ joined ws

abbrev pub space : ℕ
space = 32

-- `behind_spaces ws` is the spellings of `ws`, each after a space.
abbrev pub behind_spaces : List Word → List ℕ
behind_spaces [] = []
behind_spaces (w ∷ ws) = space ∷ (w.text ++ behind_spaces ws)

-- `spaced ws` is the spellings of `ws`, with one space between them.
abbrev pub spaced : List Word → List ℕ
spaced [] = []
spaced (w ∷ ws) = w.text ++ behind_spaces ws

-- `values ws` is the joined values of the strings `ws`.
abbrev pub values : List Word → List ℕ
values [] = []
values (w ∷ ws) = text_value_of w.text ++ values ws

-- `span_of p` is the span from the first token of `p` to the last.
abbrev pub span_of : Parse Word → Span
span_of p = span_across (yield_of p)

-- `name_of p` is the name that the tokens of `p` make: their spellings, joined. A byte sequence
-- that is not UTF-8 would become U+FFFD; names are ASCII.
abbrev pub name_of : Parse Word → Name
name_of p = record { text = utf8_lossy (joined (yield_of p)); span = span_of p }

-- `strings_of p` is the joined value of the strings of `p`.
abbrev pub strings_of : Parse Word → Strings
strings_of p = record { value = values (yield_of p); span = span_of p }

-- `number_of p` is the integer `p`, without a sign.
abbrev pub number_of : Parse Word → Number
number_of (Leaf w) = record { negative = false; value = integer_value_of w.text; span = w.span }
number_of _ = record { negative = false; value = None; span = record { start = 0; end = 0 } }

-- `bound_of p` is the integer `p`, which a minus may precede.
abbrev pub bound_of : Parse Word → Number
bound_of (Pair (Left minus) (Leaf w)) = record { negative = true; value = integer_value_of w.text; span = span_of (Pair (Left minus) (Leaf w)) }
bound_of (Pair _ number) = number_of number
bound_of _ = number_of Nil

-- `part_of p` is one part of an option's name: `ident`, or "(" type ")" for an extension.
abbrev pub part_of : Parse Word → NamePart
part_of (Right (Pair open' (Pair name close'))) = record { is_extension = true; text = utf8_lossy (joined (yield_of name)); span = span_of (Right (Pair open' (Pair name close'))) }
part_of p = record { is_extension = false; text = utf8_lossy (joined (yield_of p)); span = span_of p }

-- `list_of view p` is what `view` reads off each of the repetitions `p`, in order.
abbrev pub list_of : {W X : Type 0} → (Parse W → List X) → Parse W → List X
list_of view (Pair p ps) = view p ++ list_of view ps
list_of view _ = []

-- `behind view p` is what `view` reads off the item of `p`, a separator and an item, as a list of
-- one.
abbrev pub behind : {X : Type 0} → (Parse Word → X) → Parse Word → List X
behind view (Pair separator p) = view p ∷ []
behind view _ = []

-- `listed view p` is what `view` reads off each item of `p`, a list with separators.
abbrev pub listed : {X : Type 0} → (Parse Word → X) → Parse Word → List X
listed view (Pair first more) = view first ∷ list_of (behind view) more
listed view _ = []

-- `unsigned_kind p` is the kind of a constant that is a sign and `p`: integer | float | "inf" |
-- "nan".
abbrev pub unsigned_kind : Parse Word → ConstantKind
unsigned_kind (Left integer) = Integer
unsigned_kind _ = Float

-- `kind_of p` is the kind of the constant `p`: full | sign unsigned | integer | float | strs |
-- block.
abbrev pub kind_of : Parse Word → ConstantKind
kind_of (Left name) = Identifier
kind_of (Right (Left (Pair sign number))) = unsigned_kind number
kind_of (Right (Right (Left integer))) = Integer
kind_of (Right (Right (Right (Left float)))) = Float
kind_of (Right (Right (Right (Right (Left strings))))) = Text
kind_of _ = Aggregate

-- `is_spaced kind` is whether the text of a constant of `kind` has a space between tokens.
abbrev pub is_spaced : ConstantKind → Bool
is_spaced Identifier = false
is_spaced Integer = false
is_spaced Float = false
is_spaced Text = true
is_spaced Aggregate = true

-- `constant_of p` is the constant `p` with its text.
abbrev pub constant_of : Parse Word → Constant
constant_of p = record { kind = kind_of p; text = utf8_lossy (cond (is_spaced (kind_of p)) (spaced (yield_of p)) (joined (yield_of p))); span = span_of p }

-- `setting_of p` is the option `p`: its name and its constant.
abbrev pub setting_of : Parse Word → Setting
setting_of (Pair name (Pair equals constant)) = record { parts = listed part_of name; constant = constant_of constant; span = span_of (Pair name (Pair equals constant)) }
setting_of p = record { parts = []; constant = constant_of p; span = span_of p }

-- `settings_of p` is the options of `p`: [ "[" optset { "," optset } "]" ].
abbrev pub settings_of : Parse Word → List Setting
settings_of (Left (Pair open' (Pair settings close'))) = listed setting_of settings
settings_of _ = []

-- `end_of_range p` is the end of a range: [ "to" ( integer | "max" ) ].
abbrev pub end_of_range : Parse Word → RangeEnd
end_of_range (Left (Pair to (Left last))) = To (bound_of last)
end_of_range (Left (Pair to (Right max))) = Max
end_of_range _ = Alone

-- `range_of p` is the range `p`: its first number and its end.
abbrev pub range_of : Parse Word → Range
range_of (Pair first last) = record { first = bound_of first; last = end_of_range last; span = span_of (Pair first last) }
range_of p = record { first = bound_of p; last = Alone; span = span_of p }

-- `method_type_of p` is the type of a method's input or output: [ "stream" ] type.
abbrev pub method_type_of : Parse Word → MethodType
method_type_of (Left (Pair stream type')) = record { is_stream = true; type_name = name_of type' }
method_type_of p = record { is_stream = false; type_name = name_of p }

-- `enclosed_type_of p` is the same in parentheses: "(" [ "stream" ] type ")".
abbrev pub enclosed_type_of : Parse Word → MethodType
enclosed_type_of (Pair open' (Pair kind close')) = method_type_of kind
enclosed_type_of p = method_type_of p

-- `head_name p` is the name of a statement with a body: keyword ident "{".
abbrev pub head_name : Parse Word → Name
head_name (Pair keyword (Pair name open')) = name_of name
head_name p = name_of p

-- `entry_of p` is the types of a map's key and value: "<" keytype "," type ">".
abbrev pub entry_of : Parse Word → Name × Name
entry_of (Pair less (Pair key (Pair comma (Pair value greater)))) = (name_of key, name_of value)
entry_of p = (name_of p, name_of p)
