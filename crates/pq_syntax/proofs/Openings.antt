-- Which alternative of a rule begins, by what leads it alone. FIRST sets that are apart rule the
-- other alternatives out, so neither their order nor the order in which the code looks for them
-- matters.
use Rattle.std.proofs.Common.{◌≡◌, ℕ, Bool, true, false, not, ◌&&◌, cond, List, [], ◌∷◌, refl}
use Rattle.std.proofs.lemmas.Bool.{and_parts, false_from_ne_true, not-true}
use Rattle.pq_lex.specs.declared.token.Token.{Token}
use Rattle.pq_syntax.specs.aux.LL1Test.{first_set, all_apart}
use Rattle.pq_syntax.specs.aux.Machine.{nullable, in_first}
use Rattle.pq_syntax.specs.Rule.{Rule, Parse}
use Rattle.pq_syntax.specs.Rule.Rule.{Alt}
use Rattle.pq_syntax.specs.Rule.Parse.{Left, Right}
use Rattle.pq_syntax.specs.Words.{Word, word, words, accepts}
use Rattle.pq_syntax.specs.aux.Openings.{Closed}
use Rattle.pq_syntax.specs.aux.Steps.{Adds, Begins, Passes, Fails, FailsWithin}
use Rattle.pq_syntax.specs.aux.Takes.{starts_at}
use Rattle.pq_syntax.specs.declared.failure.Failure.{Failure}
use Rattle.pq_syntax.specs.declared.terminal.Terminal.{Terminal}
use Rattle.pq_syntax.specs.declared.tree.Node.{Node}
use Rattle.pq_syntax.specs.Tree.{no_nodes}
use Rattle.pq_syntax.proofs.Apart.{apart, apart_sound}
use Rattle.pq_syntax.proofs.Choices.{Enters, Led, adds_nothing, enters_first, enters_itself, enters_past, entered_adds, entered_fails}
use Rattle.pq_syntax.proofs.LL1Decided.{started, apart_all}
use Rattle.pq_syntax.proofs.Rules.{starts_neither}

-- no word begins both rules, and the second is never empty
abbrev pub passed : Rule Terminal → Rule Terminal → Bool
passed lead a = all_apart apart (first_set lead) (first_set a) && not (nullable a)

-- the alternative of a rule that begins as the lead does
abbrev pub opened : Rule Terminal → Rule Terminal → Rule Terminal
opened lead (Alt a b) = cond (passed lead a) (opened lead b) a
opened lead r = r

-- a parse of that alternative, as the rule holds it
abbrev pub held : Rule Terminal → Rule Terminal → Parse Word → Parse Word
held lead (Alt a b) p = cond (passed lead a) (Right (held lead b p)) (Left p)
held lead r p = p

-- where the lead begins, a rule apart from it does not
not_begun : (lead a : Rule Terminal) (text : List ℕ) (tokens : List Token)
    → all_apart apart (first_set lead) (first_set a) ≡ true
    → starts_at accepts lead (words text tokens) ≡ true
    → starts_at accepts a (words text tokens) ≡ false
not_begun lead a text [] d h = refl
not_begun lead a text (t ∷ ts) d h =
    false_from_ne_true (in_first accepts a (word text t))
    (λ f. apart_all accepts apart apart_sound (first_set lead) (first_set a) (word text t) d (started accepts lead (word text t) h) (started accepts a (word text t) f))

module _ {text : List ℕ} {x : List Token} where
  -- one alternative and the others
  or_opening : (lead a b m : Rule Terminal) (within : Parse Word → Parse Word) (t : Bool)
      → passed lead a ≡ t
      → Led (cond t m a) lead
      → starts_at accepts lead (words text x) ≡ true
      → (Led m lead → Enters text b m x within)
      → Enters text (Alt a b) (cond t m a) x (λ p. cond t (Right (within p)) (Left p))
  or_opening lead a b m within true e l h next =
      let p = and_parts (all_apart apart (first_set lead) (first_set a)) (not (nullable a)) e in
      let itself : Led a a = record { in_first = λ text tokens t g. g; stands = not-true (nullable a) p.1 } in
      enters_past itself (not_begun lead a text x p.0 h) (next l)
  or_opening lead a b m within false e l h next = enters_first l h

  pub opening : (r lead : Rule Terminal) → Led (opened lead r) lead → starts_at accepts lead (words text x) ≡ true → Enters text r (opened lead r) x (held lead r)
  opening (Alt a b) lead l h = or_opening lead a b (opened lead b) (held lead b) (passed lead a) refl l h (λ k. opening b lead k h)
  opening r lead l h = enters_itself l h

  -- what is said of the alternative, as said of the rule of all statements
  module _ {r : Rule Terminal} (lead : Rule Terminal) (l : Led (opened lead r) lead) (h : starts_at accepts lead (words text x) ≡ true) where
    pub begun : {X : Type 0} {y : List Token} {view whole : Parse Word → List X} {old new : List X}
        → ((p : Parse Word) → view p ≡ whole (held lead r p))
        → Adds text (opened lead r) view x y old new
        → Begins text r whole x y old new
    begun same a = entered_adds (opening r lead l h) a same

    -- an empty statement adds nothing
    pub begun_empty : {y : List Token} {whole : Parse Word → List Node} {old : List Node}
        → ((p : Parse Word) → no_nodes p ≡ whole (held lead r p))
        → Passes text (opened lead r) x y
        → Begins text r whole x y old old
    begun_empty same p = entered_adds (opening r lead l h) (adds_nothing p) same

    pub begun_fails : {e : Failure} → Fails text (opened lead r) x e → FailsWithin text r x e
    begun_fails f = entered_fails (opening r lead l h) f

-- where none of the leads begins, no alternative does
module _ {text : List ℕ} {x : List Token} where
  pub closed : {a lead : Rule Terminal} → Led a lead → starts_at accepts lead (words text x) ≡ false → Closed text a x
  closed l h = record { in_first = l.in_first text x false h }

  pub closed_past : {a b lead : Rule Terminal} → Led a lead → starts_at accepts lead (words text x) ≡ false → Closed text b x → Closed text (Alt a b) x
  closed_past {a} {b} l h k = record { in_first = starts_neither accepts a b (words text x) (l.in_first text x false h) k.in_first }
