-- Statements of messages: an extend block, and whether a message or another statement begins.
use Rattle.std.proofs.Common.{◌≡◌, ℕ, zero, suc, ◌-◌, ◌<◌, true, false, List, [], ◌∷◌, ◌++◌, Bor, Result, Ok, Err, refl, ap, ◌∙◌, arith, subst}
use Rattle.std.specs.Prelude.{IfOk, IfErr}
use Rattle.pq_lex.specs.declared.token.Token.{Token}
use Rattle.pq_syntax.specs.Rule.{Parse}
use Rattle.pq_syntax.specs.Rule.Rule.{Single}
use Rattle.pq_syntax.specs.Rule.Parse.{Leaf, Pair, Left, Right}
use Rattle.pq_syntax.specs.Grammar.{type', block, extend, statement, item, message}
use Rattle.pq_syntax.specs.Yield.{yield_of}
use Rattle.pq_syntax.specs.Parts.{name_of, span_across}
use Rattle.pq_syntax.specs.aux.Steps.{TakesToken, Passes, Reads, Adds, Begins, Fails, FailsWithin}
use Rattle.pq_syntax.specs.aux.Openings.{Closed, NoMessage}
use Rattle.pq_syntax.specs.aux.Takes.{starts_at}
use Rattle.pq_syntax.specs.Tree.{extend_nodes, statement_nodes, item_nodes, message_nodes}
use Rattle.pq_syntax.specs.Words.{Word, word, words, accepts}
use Rattle.pq_syntax.specs.declared.failure.Failure.{Failure}
use Rattle.pq_syntax.specs.declared.parts.Name.{Name}
use Rattle.pq_syntax.specs.declared.terminal.Terminal.TheVariants.{ExtendWord, MessageWord}
use Rattle.pq_syntax.specs.declared.tree.Node.{Node}
use Rattle.pq_syntax.specs.declared.tree.Statement.TheVariants.{Extend}
use Rattle.pq_syntax.proofs.Bodies.{Pushed}
use Rattle.pq_syntax.proofs.Choices.{Chooses, Enters, by_phrase, chooses_itself, chooses_past, chosen_begins, chosen_within, enters_first, entered_adds, entered_fails}
use Rattle.pq_syntax.proofs.Openings.{closed_past}
use Rattle.pq_syntax.proofs.Rules.{takes_then}

-- an extend block: what is cited in this order is its keyword, its type, its block and the node
-- pushed
pub extend_adds : {text : List ℕ} {tokens kind body left : List Token} {old new : List Node} {t : Token} {name : Name} (depth n : ℕ)
    → TakesToken text ExtendWord tokens kind t
    → Reads text type' name_of kind body name
    → Passes text (block n) body left
    → Pushed text depth tokens left (Extend name) old new
    → Adds text (extend n) (extend_nodes depth) tokens left old new
extend_adds {text} {old = old} {t = t} depth n keyword type_name block' push =
    let all = takes_then keyword.takes (takes_then type_name.takes block'.takes) in
    let whole : Parse Word = Pair (Leaf (word text t)) (Pair type_name.parse block'.parse) in
    record {
      parse = whole;
      takes = all;
      is = push text (yield_of whole) all.read ∙ ap (λ (x : Name). old ++ record { depth = depth; span = span_across (yield_of whole); statement = Extend x } ∷ []) type_name.is;
    }

-- at these tokens no message begins: an item is a statement
pub record IsOther (text : List ℕ) (n levels : ℕ) (tokens : List Token) : Type 0 where
  pub within : Parse Word → Parse Word
  pub chooses : Chooses text (item n levels) (statement n) tokens within
  pub same : (depth : ℕ) (p : Parse Word) → statement_nodes depth p ≡ item_nodes levels depth (within p)
  pub ends : Closed text (statement n) tokens → Closed text (item n levels) tokens

module _ (text : List ℕ) (n : ℕ) (tokens : List Token) where
  other_at_zero : IsOther text n zero tokens
  unfolding item item_nodes
  other_at_zero = record { within = λ p. p; chooses = chooses_itself; same = λ depth p. refl; ends = λ e. e }

  other_at_more : (less : ℕ) → starts_at accepts (Single MessageWord) (words text tokens) ≡ false → IsOther text n (suc less) tokens
  unfolding item item_nodes
  other_at_more less h = record {
    within = λ p. Right p;
    chooses = chooses_past by_phrase h chooses_itself;
    same = λ depth p. refl;
    ends = λ e. closed_past by_phrase h e;
  }

  message_enters : (less : ℕ)
      → starts_at accepts (Single MessageWord) (words text tokens) ≡ true
      → Enters text (item n (suc less)) (message n less) tokens (λ p. Left p)
  unfolding item
  message_enters less h = enters_first by_phrase h

  message_same : (less depth : ℕ) (p : Parse Word) → message_nodes less depth p ≡ item_nodes (suc less) depth (Left p)
  unfolding item_nodes
  message_same less depth p = refl

  pub other : (levels : ℕ) → NoMessage text levels tokens → IsOther text n levels tokens
  other zero h = other_at_zero
  other (suc less) h = other_at_more less (h (omega arith))

  -- a message, where one more level is allowed than within it
  pub begins_message : (levels : ℕ)
      → 0 < levels
      → starts_at accepts (Single MessageWord) (words text tokens) ≡ true
      → (depth : ℕ) (old new : List Node) (answer : Result (Bor (List Token)) Failure)
      → IfOk answer (λ rest. Adds text (message n (levels - 1)) (message_nodes (levels - 1) depth) tokens rest.now old new)
      → IfOk answer (λ rest. Begins text (item n levels) (item_nodes levels depth) tokens rest.now old new)
  begins_message zero some h depth old new answer a = absurd (omega (arith, some))
  begins_message (suc less) some h depth old new (Ok rest) a =
      let one_less : suc less - 1 ≡ less = omega arith in
      entered_adds (message_enters less h) (subst (λ k. Adds text (message n k) (message_nodes k depth) tokens rest.now old new) one_less a) (message_same less depth)
  begins_message (suc less) some h depth old new (Err e) a = a

  pub message_fails : (levels : ℕ)
      → 0 < levels
      → starts_at accepts (Single MessageWord) (words text tokens) ≡ true
      → (answer : Result (Bor (List Token)) Failure)
      → IfErr answer (λ e. Fails text (message n (levels - 1)) tokens e)
      → IfErr answer (λ e. FailsWithin text (item n levels) tokens e)
  message_fails zero some h answer a = absurd (omega (arith, some))
  message_fails (suc less) some h (Ok rest) a = a
  message_fails (suc less) some h (Err e) a =
      let one_less : suc less - 1 ≡ less = omega arith in
      entered_fails (message_enters less h) (subst (λ k. Fails text (message n k) tokens e) one_less a)

-- what is said of the answer of a statement's function, as said of an item's
module _ {text : List ℕ} {n levels : ℕ} {tokens : List Token} (other : IsOther text n levels tokens) where
  pub other_taken : (depth : ℕ) (old new : List Node) (r : Result (Bor (List Token)) Failure)
      → IfOk r (λ rest. Begins text (statement n) (statement_nodes depth) tokens rest.now old new)
      → IfOk r (λ rest. Begins text (item n levels) (item_nodes levels depth) tokens rest.now old new)
  other_taken depth old new (Ok rest) h = chosen_begins other.chooses h (other.same depth)
  other_taken depth old new (Err e) h = h

  pub other_fault : (r : Result (Bor (List Token)) Failure)
      → IfErr r (λ e. FailsWithin text (statement n) tokens e)
      → IfErr r (λ e. FailsWithin text (item n levels) tokens e)
  other_fault (Ok rest) h = h
  other_fault (Err e) h = chosen_within other.chooses h
