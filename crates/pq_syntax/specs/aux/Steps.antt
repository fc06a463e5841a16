-- Auxiliary: what the functions of the parser promise (used by their contracts and proofs only).
-- `reading` and the law of `parse_file` lead from here to the sentences of the grammar.
use Rattle.std.specs.Prelude.{◌≡◌, ℕ, true, List, ◌++◌}
use Rattle.pq_lex.specs.declared.token.Token.{Token}
use Rattle.pq_syntax.specs.Rule.{Rule, Parse}
use Rattle.pq_syntax.specs.Rule.Rule.{Single}
use Rattle.pq_syntax.specs.Rule.Parse.{Leaf}
use Rattle.pq_syntax.specs.Words.{Word, word, words, accepts}
use Rattle.pq_syntax.specs.aux.Takes.{Takes, Stops, starts_at}
use Rattle.pq_syntax.specs.aux.Loop.{Loop}
use Rattle.pq_syntax.specs.declared.failure.Failure.{Failure}
use Rattle.pq_syntax.specs.declared.failure.Failure.TheVariants.{Memory, Fault}
use Rattle.pq_syntax.specs.declared.terminal.Terminal.{Terminal}

-- `TakesToken text c tokens left t`: the first of `tokens` is `t`, of the terminal `c`, and `left`
-- are the others
pub record TakesToken (text : List ℕ) (c : Terminal) (tokens left : List Token) (t : Token) : Type 0 where
  pub takes : Takes accepts (Single c) (words text tokens) (words text left) (Leaf (word text t))
  pub accepted : accepts c (word text t) ≡ true

-- `Passes text r tokens left`: the rule `r` takes the tokens before `left`
pub record Passes (text : List ℕ) (r : Rule Terminal) (tokens left : List Token) : Type 0 where
  pub parse : Parse Word
  pub takes : Takes accepts r (words text tokens) (words text left) parse

-- `Reads text r view tokens left x`: the rule `r` takes the tokens before `left`, and `view` reads
-- them as `x`
pub record Reads {X : Type 0} (text : List ℕ) (r : Rule Terminal) (view : Parse Word → X) (tokens left : List Token) (x : X) : Type 0 where
  pub parse : Parse Word
  pub takes : Takes accepts r (words text tokens) (words text left) parse
  pub is : x ≡ view parse

-- `Adds text r view tokens left old new`: the rule `r` takes the tokens before `left`; `new` is
-- `old` and what `view` reads
pub record Adds {X : Type 0} (text : List ℕ) (r : Rule Terminal) (view : Parse Word → List X) (tokens left : List Token) (old new : List X) : Type 0 where
  pub parse : Parse Word
  pub takes : Takes accepts r (words text tokens) (words text left) parse
  pub is : new ≡ old ++ view parse

-- `Begins text r view tokens left old new`: the rule `r` begins at the first of `tokens`, and
-- `Adds` what it reads
pub record Begins {X : Type 0} (text : List ℕ) (r : Rule Terminal) (view : Parse Word → List X) (tokens left : List Token) (old new : List X) : Type 0 where
  pub in_first : starts_at accepts r (words text tokens) ≡ true
  pub adds : Adds text r view tokens left old new

-- `PassesFrom text r tokens left`: the rule `r` begins at the first of `tokens`, and takes those
-- before `left`
pub record PassesFrom (text : List ℕ) (r : Rule Terminal) (tokens left : List Token) : Type 0 where
  pub in_first : starts_at accepts r (words text tokens) ≡ true
  pub passes : Passes text r tokens left

-- `Adding text r view start rest old new`: items of the rule `r` are between `start` and `rest`;
-- `new` is `old` and what they stand for
pub record Adding {X : Type 0} (text : List ℕ) (r : Rule Terminal) (view : Parse Word → List X) (start rest : List Token) (old new : List X) : Type 0 where
  pub items : List X
  pub loop : Loop accepts r view (words text start) (words text rest) items
  pub is : new ≡ old ++ items

-- `Fails text r tokens e`: if `e` is a fault, it is within the rule `r`, and `e` holds the number
-- of tokens left there
pub record Fails (text : List ℕ) (r : Rule Terminal) (tokens : List Token) (e : Failure) : Type 0 where
  pub stops : (n : ℕ) → e ≡ Fault n → Stops accepts r (words text tokens) n

-- `FailsWithin text r tokens e`: if `e` is a fault, the rule `r` begins at the first of `tokens`,
-- and `e` is within it
pub record FailsWithin (text : List ℕ) (r : Rule Terminal) (tokens : List Token) (e : Failure) : Type 0 where
  pub in_first : (n : ℕ) → e ≡ Fault n → starts_at accepts r (words text tokens) ≡ true
  pub fails : Fails text r tokens e

-- `IfFault e P` is `P n` where `e` is a fault with `n` tokens left, and always holds where an
-- allocation failed
abbrev pub IfFault : Failure → (ℕ → Type 0) → Type 0
IfFault Memory P = Unit {0}
IfFault (Fault n) P = P n
