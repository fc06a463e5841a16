-- Items, each after a separator, as a loop reads them.
use Rattle.std.proofs.Common.{◌≡◌, ℕ, ◌<◌, length, arith, true, false, List, [], ◌∷◌, ◌++◌, ap, ◌∙◌}
use Rattle.pq_lex.specs.declared.token.Token.{Token}
use Rattle.pq_syntax.specs.Rule.{Rule, Parse}
use Rattle.pq_syntax.specs.Rule.Rule.{Single, Seq, Star}
use Rattle.pq_syntax.specs.Rule.Parse.{Leaf, Pair}
use Rattle.pq_syntax.specs.Parts.{list_of}
use Rattle.pq_syntax.specs.Parts.{behind, listed}
use Rattle.pq_syntax.specs.aux.Takes.{starts_at}
use Rattle.pq_syntax.specs.Words.{Word, words, accepts}
use Rattle.pq_syntax.specs.aux.Steps.{TakesToken, Reads, Adds, Adding, Fails}
use Rattle.pq_syntax.specs.declared.failure.Failure.{Failure}
use Rattle.pq_syntax.specs.declared.terminal.Terminal.{Terminal}
use Rattle.pq_syntax.proofs.Rules.{takes_then}
use Rattle.pq_syntax.proofs.Steps.{starts_token, fails_first, fails_token, adding_goes, adding_ends, adding_fails}
use Rattle.pq_syntax.proofs.Choices.{starts_word}
use Rattle.pq_syntax.proofs.Shorter.{reads_within, token_shorter}

module _ {X : Type 0} {text : List ℕ} {c : Terminal} {r : Rule Terminal} {view : Parse Word → X} {tokens rest : List Token} {old new : List X} where
  -- a further item is pushed
  pub separated_goes : {next after : List Token} {t : Token} {x : X} {newer : List X}
      → Adding text (Seq (Single c) r) (behind view) tokens rest old new
      → TakesToken text c rest next t
      → Reads text r view next after x
      → newer ≡ new ++ x ∷ []
      → Adding text (Seq (Single c) r) (behind view) tokens after old newer
  separated_goes l s i push = adding_goes l (record {
    in_first = starts_word text c r rest true (starts_token s);
    adds = record {
      parse = Pair (Leaf _) i.parse;
      takes = takes_then s.takes i.takes;
      is = push ∙ ap (λ y. new ++ y ∷ []) i.is;
    };
  })

  pub separated_ends : Adding text (Seq (Single c) r) (behind view) tokens rest old new
      → starts_at accepts (Single c) (words text rest) ≡ false
      → Adds text (Star (Seq (Single c) r)) (list_of (behind view)) tokens rest old new
  separated_ends l h = adding_ends l (starts_word text c r rest false h)

  -- an error at a separator
  pub separated_fails_token : {e : Failure}
      → Adding text (Seq (Single c) r) (behind view) tokens rest old new
      → starts_at accepts (Single c) (words text rest) ≡ true
      → Fails text (Single c) rest e
      → Fails text (Star (Seq (Single c) r)) tokens e
  separated_fails_token l h f = adding_fails l (record { in_first = λ n e. starts_word text c r rest true h; fails = fails_first f })

  -- an error in the item after a separator
  pub separated_fails_item : {next : List Token} {t : Token} {e : Failure}
      → Adding text (Seq (Single c) r) (behind view) tokens rest old new
      → TakesToken text c rest next t
      → Fails text r next e
      → Fails text (Star (Seq (Single c) r)) tokens e
  separated_fails_item l s f = adding_fails l (record { in_first = λ n e. starts_word text c r rest true (starts_token s); fails = fails_token s f })

-- a separator and an item are one token at least
pub separated_shorter : {X : Type 0} {text : List ℕ} {c : Terminal} {r : Rule Terminal} {view : Parse Word → X} {rest next after : List Token} {t : Token} {x : X}
    → TakesToken text c rest next t
    → Reads text r view next after x
    → length after < length rest
separated_shorter s i =
    let separator = token_shorter s in
    let item = reads_within i in
    omega (arith, separator, item)

-- a first item alone in its list, and more of them
pub separated_listed :
    {X : Type 0} {text : List ℕ} {c : Terminal} {r : Rule Terminal} {view : Parse Word → X} {tokens rest left : List Token} {x : X} {none first all : List X}
    → Reads text r view tokens rest x
    → none ≡ []
    → first ≡ none ++ x ∷ []
    → Adds text (Star (Seq (Single c) r)) (list_of (behind view)) rest left first all
    → Reads text (Seq r (Star (Seq (Single c) r))) (listed view) tokens left all
separated_listed {view = view} {x = x} i empty push more = record {
  parse = Pair i.parse more.parse;
  takes = takes_then i.takes more.takes;
  is = more.is ∙ ap (λ l. l ++ list_of (behind view) more.parse) (push ∙ ap (λ l. l ++ x ∷ []) empty) ∙ ap (λ y. y ∷ list_of (behind view) more.parse) i.is;
}
