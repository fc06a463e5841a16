-- The meaning of a text: its tree, or the place and the code of its first error. A syntax error is
-- at the first token with which no sentence of the grammar continues (`IsFaultPlace`). Its code
-- says more of it.
use Rattle.std.specs.Prelude.{◌≡◌, ℕ, ◌==◌, Bool, true, false, ◌&&◌, ◌||◌, cond, List, [], ◌∷◌, ◌++◌, length, Option, Some, None}
use Rattle.pq_lex.specs.declared.token.Kind.{Kind}
use Rattle.pq_lex.specs.declared.token.Span.{Span}
use Rattle.pq_lex.specs.declared.token.Token.{Token}
use Rattle.pq_lex.specs.declared.token.Code.{Code as LexicalCode}
use Rattle.pq_lex.specs.Tokens.{Lexes}
use Rattle.pq_syntax.specs.Rule.{Parse, Derives, IsSentence, IsFaultPlace, GoesOn}
use Rattle.pq_syntax.specs.Grammar.{proto_file, deeper_file}
use Rattle.pq_syntax.specs.Tree.{file_nodes}
use Rattle.pq_syntax.specs.Words.{Word, word, words, accepts, is_text}
use Rattle.pq_syntax.specs.declared.fault.Code.{Code}
use Rattle.pq_syntax.specs.declared.fault.Code.TheVariants.{Lexical, OnlyProto3, TooDeep, UnexpectedToken, UnexpectedEnd}
use Rattle.pq_syntax.specs.declared.fault.Parsed.{Parsed}
use Rattle.pq_syntax.specs.declared.fault.Parsed.TheVariants.{Tree, Fault}
use Rattle.pq_syntax.specs.declared.tree.Node.{Node}

-- `is_version_fault before kind` is whether an error at a token of `kind` after `before` tokens is
-- in the version: at the first token, which has to be `syntax`, or at a string in third place,
-- which has to be "proto3".
abbrev pub is_version_fault : ℕ → Kind → Bool
is_version_fault before kind = before == 0 || (before == 2 && is_text kind)

-- `end_code before` is the code of an error at the end of a text of `before` tokens.
abbrev pub end_code : ℕ → Code
end_code before = cond (before == 0) OnlyProto3 UnexpectedEnd

-- `GoesDeeper text before t` is: with each limit of nesting one higher, some sentence begins with
-- the tokens `before` and `t` of `text`.
abbrev pub GoesDeeper : List ℕ → List Token → Token → Type 0
GoesDeeper text before t = GoesOn accepts (deeper_file ∷ []) (words text before) (word text t)

-- `IsFault text before from stop span code` is: if the first syntax error of `text` is after the
-- tokens `before`, its span and code are these. It is at the first token of `from`; if there is
-- none, it is the lexical error `stop`; if there is none either, the empty span at the end of
-- `text`.
pub data IsFault (text : List ℕ) (before : List Token) : List Token → Option (Span × LexicalCode) → Span → Code → Type 0 where
  other_version : {t : Token} {ts : List Token} {stop : Option (Span × LexicalCode)} → is_version_fault (length before) t.kind ≡ true → IsFault text before (t ∷ ts) stop t.span OnlyProto3
  by_depth : {t : Token} {ts : List Token} {stop : Option (Span × LexicalCode)} → is_version_fault (length before) t.kind ≡ false → GoesDeeper text before t → IsFault text before (t ∷ ts) stop t.span TooDeep
  unexpected : {t : Token} {ts : List Token} {stop : Option (Span × LexicalCode)} → is_version_fault (length before) t.kind ≡ false → (GoesDeeper text before t → ⊥) → IsFault text before (t ∷ ts) stop t.span UnexpectedToken
  not_lexed : {span : Span} {code : LexicalCode} → IsFault text before [] (Some (span, code)) span (Lexical code)
  at_end : IsFault text before [] None (record { start = length text; end = length text }) (end_code (length before))

-- `IsTree text nodes` is: `text` has no lexical error, its tokens are a sentence of the grammar,
-- and `nodes` is the tree of a derivation.
pub record IsTree (text : List ℕ) (nodes : List Node) : Type 0 where
  pub tokens : List Token
  pub lexes : Lexes 0 text tokens None
  pub parse : Parse Word
  pub derives : Derives accepts (proto_file ∷ []) (words text tokens) (parse ∷ [])
  pub is : nodes ≡ file_nodes 63 parse

-- `FaultStands text span code` is: the first error of `text` is at `span` and has this code. It is
-- the syntax error of its tokens, or, if these are a sentence, its lexical error.
pub data FaultStands (text : List ℕ) : Span → Code → Type 0 where
  syntactic : (before from : List Token) {stop : Option (Span × LexicalCode)} {span : Span} {code : Code} → Lexes 0 text (before ++ from) stop → IsFaultPlace accepts (proto_file ∷ []) (words text before) (words text from) → IsFault text before from stop span code → FaultStands text span code
  lexical : (tokens : List Token) {span : Span} {code : LexicalCode} → Lexes 0 text tokens (Some (span, code)) → IsSentence accepts (proto_file ∷ []) (words text tokens) → FaultStands text span (Lexical code)

-- `IfTree P p` is: if `p` is a tree, `P` holds of its nodes.
abbrev pub IfTree : (List Node → Type 0) → Parsed → Type 0
IfTree P (Tree nodes) = P nodes
IfTree P (Fault span code) = Unit {0}

-- `IfFaulty P p` is: if `p` is an error, `P` holds of its span and its code.
abbrev pub IfFaulty : (Span → Code → Type 0) → Parsed → Type 0
IfFaulty P (Tree nodes) = Unit {0}
IfFaulty P (Fault span code) = P span code
