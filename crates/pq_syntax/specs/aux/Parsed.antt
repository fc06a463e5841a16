-- Auxiliary: the outcome of parsing a text, as a function. The laws `each_parse`, `one_tree` and
-- `one_fault` tie `parsed` to `IsTree` and `FaultStands`, which are its meaning.
use Rattle.std.specs.Prelude.{ℕ, Bool, ◌-◌, cond, List, [], ◌∷◌, length, drop, Option, Some, None, Result, Ok, Err}
use Rattle.pq_lex.specs.declared.token.Kind.{Kind}
use Rattle.pq_lex.specs.declared.token.Span.{Span}
use Rattle.pq_lex.specs.declared.token.Token.{Token}
use Rattle.pq_lex.specs.declared.token.Code.{Code as LexicalCode}
use Rattle.pq_lex.specs.aux.Reading.{Reading, tokens_of}
use Rattle.pq_syntax.specs.FaultPlace.{is_version_fault, end_code}
use Rattle.pq_syntax.specs.aux.Reading.{reading, passes}
use Rattle.pq_syntax.specs.declared.fault.Code.{Code}
use Rattle.pq_syntax.specs.declared.fault.Code.TheVariants.{Lexical, OnlyProto3, TooDeep, UnexpectedToken}
use Rattle.pq_syntax.specs.declared.fault.Parsed.{Parsed}
use Rattle.pq_syntax.specs.declared.fault.Parsed.TheVariants.{Tree, Fault}
use Rattle.pq_syntax.specs.declared.tree.Node.{Node}

-- `at_fault f` is the outcome of an error.
abbrev pub at_fault : Span × Code → Parsed
at_fault f = Fault f.0 f.1

-- `token_code before kind deeper` is the code of an error at a token of `kind` after `before`
-- tokens, where `deeper` says whether the raised limits accept the token.
abbrev pub token_code : ℕ → Kind → Bool → Code
token_code before kind deeper = cond (is_version_fault before kind) OnlyProto3 (cond deeper TooDeep UnexpectedToken)

-- `fault_of text before from stop deeper` is the error after `before` tokens of `text`, before the
-- tokens `from` and the lexical error `stop`.
abbrev pub fault_of : List ℕ → ℕ → List Token → Option (Span × LexicalCode) → Bool → Span × Code
fault_of text before (t ∷ ts) stop deeper = (t.span, token_code before t.kind deeper)
fault_of text before [] (Some f) deeper = (f.0, Lexical f.1)
fault_of text before [] None deeper = (record { start = length text; end = length text }, end_code before)

-- `whole nodes stop` is the outcome of a sentence with these nodes, before the lexical error
-- `stop`.
abbrev pub whole : List Node → Option (Span × LexicalCode) → Parsed
whole nodes None = Tree nodes
whole nodes (Some f) = Fault f.0 (Lexical f.1)

-- `answer text r read deeper` is the outcome of `text` with the tokens `r`, read as `read` by the
-- grammar and as `deeper` with the raised limits.
abbrev pub answer : List ℕ → Reading → Result (List Node) ℕ → Result (List Node) ℕ → Parsed
answer text r (Ok nodes) deeper = whole nodes r.fault
answer text r (Err left) deeper = let before = length r.tokens - left in at_fault (fault_of text before (drop before r.tokens) r.fault (passes left deeper))

-- `parsed text` is the outcome of `text`: its tree, or its first error.
abbrev pub parsed : List ℕ → Parsed
parsed text = answer text (tokens_of text) (reading 63 63 text (tokens_of text).tokens) (reading 64 64 text (tokens_of text).tokens)
