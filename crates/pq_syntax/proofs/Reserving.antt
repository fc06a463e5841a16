-- Reserved names, and the statements that reserve numbers or names.
use Rattle.std.proofs.Common.{◌≡◌, ℕ, Bool, true, false, List, [], ◌∷◌, ◌++◌, ap, ◌∙◌}
use Rattle.pq_lex.specs.declared.token.Token.{Token}
use Rattle.pq_syntax.specs.Rule.{Parse}
use Rattle.pq_syntax.specs.Rule.Rule.{Single, Alt}
use Rattle.pq_syntax.specs.Rule.Parse.{Leaf, Pair, Left, Right}
use Rattle.pq_syntax.specs.Grammar.{ranges, strings, reserved}
use Rattle.pq_syntax.specs.Yield.{yield_of}
use Rattle.pq_syntax.specs.Parts.{listed, range_of, strings_of}
use Rattle.pq_syntax.specs.aux.Steps.{TakesToken, Passes, Reads, Adds, Fails}
use Rattle.pq_syntax.specs.aux.Takes.{starts_at}
use Rattle.pq_syntax.specs.Words.{Word, word, words, accepts}
use Rattle.pq_syntax.specs.declared.failure.Failure.{Failure}
use Rattle.pq_syntax.specs.declared.parts.Strings.{Strings}
use Rattle.pq_syntax.specs.declared.terminal.Terminal.TheVariants.{AnyText, ReservedWord, Semicolon}
use Rattle.pq_syntax.specs.declared.parts.Range.{Range}
use Rattle.pq_syntax.specs.declared.tree.Node.{Node}
use Rattle.pq_syntax.specs.declared.tree.Statement.TheVariants.{ReservedNumbers, ReservedNames}
use Rattle.pq_syntax.specs.Tree.{reserved_nodes, node_of}
use Rattle.pq_syntax.proofs.Bodies.{Pushed}
use Rattle.pq_syntax.proofs.Bounds.{ranges_skip_not}
use Rattle.pq_syntax.proofs.Rules.{takes_then, takes_left, takes_right}
use Rattle.pq_syntax.proofs.Steps.{fails_first, fails_then, fails_token, fails_left, fails_right}

-- one string, from what it is taken to say
pub string_reads : {text : List ℕ} {tokens left : List Token} {t : Token} {s : Strings}
    → TakesToken text AnyText tokens left t
    → ((p : Parse Word) → words text tokens ≡ yield_of p ++ words text left → s ≡ strings_of p)
    → Reads text (Single AnyText) strings_of tokens left s
string_reads {text} {t = t} taken says = record { parse = Leaf (word text t); takes = taken.takes; is = says (Leaf (word text t)) taken.takes.read }

module _ {text : List ℕ} {tokens opened : List Token} {s : Token} (signs : Bool) (reserving : TakesToken text ReservedWord tokens opened s) where
  -- an error in the numbers, and one after them
  pub reserved_fails_numbers : {e : Failure}
      → starts_at accepts (ranges signs) (words text opened) ≡ true
      → Fails text (ranges signs) opened e
      → Fails text (reserved signs) tokens e
  reserved_fails_numbers h f = fails_token reserving (fails_first (fails_left h f))

  pub reserved_fails_past_numbers : {rest : List Token} {x : List Range} {e : Failure}
      → starts_at accepts (ranges signs) (words text opened) ≡ true
      → Reads text (ranges signs) (listed range_of) opened rest x
      → Fails text (Single Semicolon) rest e
      → Fails text (reserved signs) tokens e
  reserved_fails_past_numbers {rest} h r f =
      let passed : Passes text (Alt (ranges signs) strings) opened rest = record { parse = _; takes = takes_left h r.takes } in
      fails_token reserving (fails_then passed f)

  -- an error in the names, and one after them
  pub reserved_fails_names : {e : Failure}
      → starts_at accepts (ranges signs) (words text opened) ≡ false
      → Fails text strings opened e
      → Fails text (reserved signs) tokens e
  reserved_fails_names h f = fails_token reserving (fails_first (fails_right h (ranges_skip_not signs) f))

  pub reserved_fails_past_names : {rest : List Token} {x : List Strings} {e : Failure}
      → starts_at accepts (ranges signs) (words text opened) ≡ false
      → Reads text strings (listed strings_of) opened rest x
      → Fails text (Single Semicolon) rest e
      → Fails text (reserved signs) tokens e
  reserved_fails_past_names {rest} h r f =
      let passed : Passes text (Alt (ranges signs) strings) opened rest = record { parse = _; takes = takes_right h (ranges_skip_not signs) r.takes } in
      fails_token reserving (fails_then passed f)

  pub reserved_numbers : {rest left : List Token} {x : List Range} {t : Token} {old new : List Node} (depth : ℕ)
      → starts_at accepts (ranges signs) (words text opened) ≡ true
      → Reads text (ranges signs) (listed range_of) opened rest x
      → TakesToken text Semicolon rest left t
      → Pushed text depth tokens left (ReservedNumbers x) old new
      → Adds text (reserved signs) (reserved_nodes depth) tokens left old new
  reserved_numbers {rest} {left} {x} {t} {old} depth h r semicolon push =
      let all = takes_then reserving.takes (takes_then (takes_left {b = strings} h r.takes) semicolon.takes) in
      let whole : Parse Word = Pair (Leaf (word text s)) (Pair (Left r.parse) (Leaf (word text t))) in
      record {
        parse = whole;
        takes = all;
        is = push text (yield_of whole) all.read ∙ ap (λ (y : List Range). old ++ node_of depth whole (ReservedNumbers y) ∷ []) r.is;
      }

  pub reserved_names : {rest left : List Token} {x : List Strings} {t : Token} {old new : List Node} (depth : ℕ)
      → starts_at accepts (ranges signs) (words text opened) ≡ false
      → Reads text strings (listed strings_of) opened rest x
      → TakesToken text Semicolon rest left t
      → Pushed text depth tokens left (ReservedNames x) old new
      → Adds text (reserved signs) (reserved_nodes depth) tokens left old new
  reserved_names {rest} {left} {x} {t} {old} depth h r semicolon push =
      let all = takes_then reserving.takes (takes_then (takes_right {a = ranges signs} h (ranges_skip_not signs) r.takes) semicolon.takes) in
      let whole : Parse Word = Pair (Leaf (word text s)) (Pair (Right r.parse) (Leaf (word text t))) in
      record {
        parse = whole;
        takes = all;
        is = push text (yield_of whole) all.read ∙ ap (λ (y : List Strings). old ++ node_of depth whole (ReservedNames y) ∷ []) r.is;
      }
