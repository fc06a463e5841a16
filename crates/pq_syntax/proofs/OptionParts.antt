-- The parts of options, from the tokens taken.
use Rattle.std.proofs.Common.{◌≡◌, ℕ, true, false, List, [], ◌++◌, refl}
use Rattle.std.specs.Str.Lossy.{utf8_lossy}
use Rattle.pq_lex.specs.declared.token.Span.{Span}
use Rattle.pq_lex.specs.declared.token.Token.{Token}
use Rattle.pq_syntax.specs.Grammar.{constant, opt, option, optname, optpart, opts, optset, separated, type'}
use Rattle.pq_syntax.specs.Parts.{constant_of, joined, listed, part_of, setting_of, settings_of}
use Rattle.pq_syntax.specs.Rule.{Rule, Parse}
use Rattle.pq_syntax.specs.Rule.Rule.{Single, Seq}
use Rattle.pq_syntax.specs.Rule.Parse.{Leaf, Nil, Pair, Left, Right}
use Rattle.pq_syntax.specs.Yield.{yield_of}
use Rattle.pq_syntax.specs.aux.Takes.{starts_at}
use Rattle.pq_syntax.specs.Words.{Word, word, words, accepts}
use Rattle.pq_syntax.specs.aux.Steps.{TakesToken, Passes, Reads, Adds, Fails}
use Rattle.pq_syntax.specs.declared.failure.Failure.{Failure}
use Rattle.pq_syntax.specs.declared.parts.NamePart.{NamePart}
use Rattle.pq_syntax.specs.declared.parts.Constant.{Constant}
use Rattle.pq_syntax.specs.declared.parts.Setting.{Setting}
use Rattle.pq_syntax.specs.declared.terminal.Terminal.{Terminal}
use Rattle.pq_syntax.specs.declared.terminal.Terminal.TheVariants.{AnyIdentifier, CloseBracket, CloseParenthesis, Comma, Equals, OpenBracket, OpenParenthesis, OptionWord, Semicolon}
use Rattle.pq_syntax.specs.declared.tree.Node.{Node}
use Rattle.pq_syntax.specs.declared.tree.Statement.TheVariants.{Option as OptionStatement}
use Rattle.pq_syntax.specs.Tree.{option_nodes}
use Rattle.pq_syntax.proofs.Bodies.{Across, Pushed}
use Rattle.pq_syntax.proofs.Choices.{by_word, chooses_first, chosen_fails, starts_word}
use Rattle.pq_syntax.proofs.Rules.{takes_left, takes_none, takes_right, takes_then}
use Rattle.pq_syntax.proofs.Steps.{starts_token}

-- the text of the words before what is left
abbrev pub Joined : List ℕ → List Token → List Token → List ℕ → Type 0
Joined text tokens rest t = (ws : List Word) → words text tokens ≡ ws ++ words text rest → t ≡ utf8_lossy (joined ws)

-- a name alone
pub part_named : {text : List ℕ} {tokens rest : List Token} {t : Token} {name : List ℕ} {span : Span}
    → starts_at accepts (Single AnyIdentifier) (words text tokens) ≡ true
    → TakesToken text AnyIdentifier tokens rest t
    → Joined text tokens rest name
    → Across tokens rest span
    → Reads text optpart part_of tokens rest (record { is_extension = false; text = name; span = span })
part_named {text} {tokens} {rest} {t} {name} {span} h s j a =
    let n = j (yield_of (Leaf (word text t))) s.takes.read in
    let m = a text (yield_of (Leaf (word text t))) s.takes.read in
    record { parse = Left (Leaf (word text t)); takes = takes_left h s.takes; is = rw (n, m) refl }

-- the name of an extension, in parentheses
pub part_enclosed : {text : List ℕ} {tokens opened closing rest : List Token} {t u : Token} {name : List ℕ} {span : Span}
    → starts_at accepts (Single AnyIdentifier) (words text tokens) ≡ false
    → TakesToken text OpenParenthesis tokens opened t
    → Passes text type' opened closing
    → TakesToken text CloseParenthesis closing rest u
    → Joined text opened closing name
    → Across tokens rest span
    → Reads text optpart part_of tokens rest (record { is_extension = true; text = name; span = span })
part_enclosed {text} {tokens} {opened} {closing} {rest} {t} {u} {name} {span} h o p c j a =
    let all = takes_then o.takes (takes_then p.takes c.takes) in
    let whole : Parse Word = Pair (Leaf (word text t)) (Pair p.parse (Leaf (word text u))) in
    let n = j (yield_of p.parse) p.takes.read in
    let m = a text (yield_of whole) all.read in
    record { parse = Right whole; takes = takes_right h refl all; is = rw (n, m) refl }

-- a name, and the constant that it is set to
pub setting_reads :
    {text : List ℕ} (brackets : ℕ) {tokens named rest left : List Token} {t : Token} {parts : List NamePart} {value : Constant} {span : Span}
    → Reads text optname (listed part_of) tokens named parts
    → TakesToken text Equals named rest t
    → Reads text (constant brackets) constant_of rest left value
    → Across tokens left span
    → Reads text (optset brackets) setting_of tokens left (record { parts = parts; constant = value; span = span })
setting_reads {text} brackets {t = t} n e k a =
    let all = takes_then n.takes (takes_then e.takes k.takes) in
    let whole : Parse Word = Pair n.parse (Pair (Leaf (word text t)) k.parse) in
    let m = a text (yield_of whole) all.read in
    record { parse = whole; takes = all; is = rw (n.is, k.is, m) refl }

-- what follows the bracket that opens options
abbrev in_brackets : ℕ → Rule Terminal
in_brackets brackets = Seq (separated Comma (optset brackets)) (Single CloseBracket)

-- options in brackets
pub settings_present : {text : List ℕ} (brackets : ℕ) {tokens opened rest left : List Token} {t u : Token} {settings : List Setting}
    → TakesToken text OpenBracket tokens opened t
    → Reads text (separated Comma (optset brackets)) (listed setting_of) opened rest settings
    → TakesToken text CloseBracket rest left u
    → Reads text (opt (opts brackets)) settings_of tokens left settings
settings_present {text} brackets {tokens} {t = t} {u = u} o s c = record {
  parse = Left (Pair (Leaf (word text t)) (Pair s.parse (Leaf (word text u))));
  takes = takes_left (starts_word text OpenBracket (in_brackets brackets) tokens true (starts_token o)) (takes_then o.takes (takes_then s.takes c.takes));
  is = s.is;
}

pub settings_absent : (text : List ℕ) (brackets : ℕ) (tokens : List Token) {settings : List Setting}
    → starts_at accepts (Single OpenBracket) (words text tokens) ≡ false
    → settings ≡ []
    → Reads text (opt (opts brackets)) settings_of tokens tokens settings
settings_absent text brackets tokens h e = record { parse = Right Nil; takes = takes_none (starts_word text OpenBracket (in_brackets brackets) tokens false h) refl; is = e }

-- an error in options that their bracket opens
pub settings_fail : {text : List ℕ} (brackets : ℕ) {tokens : List Token} {e : Failure}
    → starts_at accepts (Single OpenBracket) (words text tokens) ≡ true
    → Fails text (opts brackets) tokens e
    → Fails text (opt (opts brackets)) tokens e
settings_fail {text} brackets {tokens} h f = chosen_fails (chooses_first by_word h) f

-- an option statement, whose node is pushed
pub option_adds :
    {text : List ℕ} (brackets : ℕ) {tokens rest closing left : List Token} {t u : Token} {setting : Setting} {old new : List Node} (depth : ℕ)
    → TakesToken text OptionWord tokens rest t
    → Reads text (optset brackets) setting_of rest closing setting
    → TakesToken text Semicolon closing left u
    → Pushed text depth tokens left (OptionStatement setting) old new
    → Adds text (option brackets) (option_nodes depth) tokens left old new
option_adds {text} brackets {t = t} {u = u} {setting} depth w s c push =
    let all = takes_then w.takes (takes_then s.takes c.takes) in
    let whole : Parse Word = Pair (Leaf (word text t)) (Pair s.parse (Leaf (word text u))) in
    let n = push text (yield_of whole) all.read in
    record { parse = whole; takes = all; is = rw (n, s.is) refl }
