-- Which alternative of a rule begins or is taken, by one look at what begins it.
use Rattle.std.proofs.Common.{◌≡◌, ℕ, Bool, true, false, ◌&&◌, List, ◌++◌, refl, sym, ap, ◌∙◌}
use Rattle.std.proofs.lemmas.List.{append-nil}
use Rattle.pq_lex.specs.declared.token.Token.{Token}
use Rattle.pq_syntax.specs.Rule.{Rule, Parse}
use Rattle.pq_syntax.specs.Rule.Rule.{Single, Seq, Alt}
use Rattle.pq_syntax.specs.Rule.Parse.{Left, Right}
use Rattle.pq_syntax.specs.aux.Machine.{nullable}
use Rattle.pq_syntax.specs.Grammar.{type_from}
use Rattle.pq_syntax.specs.aux.Takes.{Takes, starts_at}
use Rattle.pq_syntax.specs.Words.{Word, words, accepts}
use Rattle.pq_syntax.specs.aux.Steps.{Passes, PassesFrom, Reads, Adds, Begins, Fails, FailsWithin}
use Rattle.pq_syntax.specs.Tree.{no_nodes}
use Rattle.pq_syntax.specs.declared.failure.Failure.{Failure}
use Rattle.pq_syntax.specs.declared.terminal.Terminal.{Terminal}
use Rattle.pq_syntax.specs.declared.tree.Node.{Node}
use Rattle.pq_syntax.proofs.Rules.{takes_left, takes_right, starts_left, starts_right, starts_then}
use Rattle.pq_syntax.proofs.Steps.{fails_left, fails_right}

-- `Led a lead`: the rule `a` begins where its lead does and nowhere else, and is never empty
pub record Led (a lead : Rule Terminal) : Type 0 where
  pub in_first : (text : List ℕ) (tokens : List Token) (t : Bool) → starts_at accepts lead (words text tokens) ≡ t → starts_at accepts a (words text tokens) ≡ t
  pub stands : nullable a ≡ false

-- a rule that goes on after a token begins where the token does
pub starts_word : (text : List ℕ) (c : Terminal) (more : Rule Terminal) (tokens : List Token) (t : Bool)
    → starts_at accepts (Single c) (words text tokens) ≡ t
    → starts_at accepts (Seq (Single c) more) (words text tokens) ≡ t
starts_word text c more tokens t h = starts_then accepts (Single c) more (words text tokens) t refl h

-- and so does one that goes on after such a rule
pub starts_phrase : (text : List ℕ) (c : Terminal) (more further : Rule Terminal) (tokens : List Token) (t : Bool)
    → starts_at accepts (Single c) (words text tokens) ≡ t
    → starts_at accepts (Seq (Seq (Single c) more) further) (words text tokens) ≡ t
starts_phrase text c more further tokens t h = starts_then accepts (Seq (Single c) more) further (words text tokens) t refl (starts_word text c more tokens t h)

-- a token alone, what begins by a token, by what begins by one, by another rule, and by a type
pub by_token : {c : Terminal} → Led (Single c) (Single c)
by_token = record { in_first = λ text tokens t h. h; stands = refl }

pub by_word : {c : Terminal} {more : Rule Terminal} → Led (Seq (Single c) more) (Single c)
by_word {c} {more} = record { in_first = λ text tokens t h. starts_word text c more tokens t h; stands = refl }

pub by_phrase : {c : Terminal} {more further : Rule Terminal} → Led (Seq (Seq (Single c) more) further) (Single c)
by_phrase {c} {more} {further} = record { in_first = λ text tokens t h. starts_phrase text c more further tokens t h; stands = refl }

pub by_first : {a more : Rule Terminal} → nullable a ≡ false → Led (Seq a more) a
by_first {a} {more} n = record { in_first = λ text tokens t h. starts_then accepts a more (words text tokens) t n h; stands = ap (λ b. b && nullable more) n }

pub by_type : {c : Terminal} {more : Rule Terminal} → Led (Seq (type_from c) more) (type_from c)
by_type = by_first refl

-- `Chooses text r a x within`: at the tokens `x` the rule `r` takes its alternative `a`, whose
-- parse it holds by `within`
pub record Chooses (text : List ℕ) (r a : Rule Terminal) (x : List Token) (within : Parse Word → Parse Word) : Type 0 where
  pub in_first : starts_at accepts a (words text x) ≡ true → starts_at accepts r (words text x) ≡ true
  pub takes : (y : List Word) (p : Parse Word) → Takes accepts a (words text x) y p → Takes accepts r (words text x) y (within p)
  pub fails : (e : Failure) → Fails text a x e → Fails text r x e

-- the same, where a begins at the tokens
pub record Enters (text : List ℕ) (r a : Rule Terminal) (x : List Token) (within : Parse Word → Parse Word) : Type 0 where
  pub chooses : Chooses text r a x within
  pub in_first : starts_at accepts a (words text x) ≡ true

module _ {text : List ℕ} {x : List Token} where
  pub chooses_itself : {a : Rule Terminal} → Chooses text a a x (λ p. p)
  chooses_itself = record { in_first = λ h. h; takes = λ y p t. t; fails = λ e f. f }

  pub chooses_first : {a b lead : Rule Terminal} → Led a lead → starts_at accepts lead (words text x) ≡ true → Chooses text (Alt a b) a x (λ p. Left p)
  chooses_first {a} {b} l h = record {
    in_first = λ e. starts_left accepts a b (words text x) e;
    takes = λ y p t. takes_left (l.in_first text x true h) t;
    fails = λ e f. fails_left (l.in_first text x true h) f;
  }

  pub chooses_past : {a b c lead : Rule Terminal} {within : Parse Word → Parse Word}
      → Led a lead
      → starts_at accepts lead (words text x) ≡ false
      → Chooses text b c x within
      → Chooses text (Alt a b) c x (λ p. Right (within p))
  chooses_past {a} {b} l h n = record {
    in_first = λ e. starts_right accepts a b (words text x) (n.in_first e);
    takes = λ y p t. takes_right (l.in_first text x false h) l.stands (n.takes y p t);
    fails = λ e f. fails_right (l.in_first text x false h) l.stands (n.fails e f);
  }

  pub enters_itself : {a lead : Rule Terminal} → Led a lead → starts_at accepts lead (words text x) ≡ true → Enters text a a x (λ p. p)
  enters_itself l h = record { chooses = chooses_itself; in_first = l.in_first text x true h }

  pub enters_first : {a b lead : Rule Terminal} → Led a lead → starts_at accepts lead (words text x) ≡ true → Enters text (Alt a b) a x (λ p. Left p)
  enters_first l h = record { chooses = chooses_first l h; in_first = l.in_first text x true h }

  pub enters_past : {a b c lead : Rule Terminal} {within : Parse Word → Parse Word}
      → Led a lead
      → starts_at accepts lead (words text x) ≡ false
      → Enters text b c x within
      → Enters text (Alt a b) c x (λ p. Right (within p))
  enters_past l h n = record { chooses = chooses_past l h n.chooses; in_first = n.in_first }

  -- what is said of the alternative, as said of the rule
  module _ {r a : Rule Terminal} {within : Parse Word → Parse Word} where
    pub chosen_passes : {y : List Token} → Chooses text r a x within → Passes text a x y → Passes text r x y
    chosen_passes {y} n p = record { parse = within p.parse; takes = n.takes (words text y) p.parse p.takes }

    pub chosen_fails : {e : Failure} → Chooses text r a x within → Fails text a x e → Fails text r x e
    chosen_fails {e} n f = n.fails e f

    pub chosen_within : {e : Failure} → Chooses text r a x within → FailsWithin text a x e → FailsWithin text r x e
    chosen_within {e} n f = record { in_first = λ k h. n.in_first (f.in_first k h); fails = n.fails e f.fails }

    -- an alternative of which every parse is read as the same
    pub chosen_reads : {X : Type 0} {y : List Token} {view : Parse Word → X} {v : X}
        → Chooses text r a x within
        → Passes text a x y
        → ((p : Parse Word) → v ≡ view (within p))
        → Reads text r view x y v
    chosen_reads {y = y} n p same = record { parse = _; takes = n.takes (words text y) p.parse p.takes; is = same p.parse }

    -- an alternative whose parse is read as the same in the rule
    pub chosen_begins : {X : Type 0} {y : List Token} {view whole : Parse Word → List X} {old new : List X}
        → Chooses text r a x within
        → Begins text a view x y old new
        → ((p : Parse Word) → view p ≡ whole (within p))
        → Begins text r whole x y old new
    chosen_begins {y = y} {old = old} n b same = record {
      in_first = n.in_first b.in_first;
      adds = record { parse = within b.adds.parse; takes = n.takes (words text y) b.adds.parse b.adds.takes; is = b.adds.is ∙ ap (λ l. old ++ l) (same b.adds.parse) };
    }

    pub entered_passes : {y : List Token} → Enters text r a x within → Passes text a x y → PassesFrom text r x y
    entered_passes n p = record { in_first = n.chooses.in_first n.in_first; passes = chosen_passes n.chooses p }

    pub entered_fails : {e : Failure} → Enters text r a x within → Fails text a x e → FailsWithin text r x e
    entered_fails n f = chosen_within n.chooses (record { in_first = λ k h. n.in_first; fails = f })

    pub entered_adds : {X : Type 0} {y : List Token} {view whole : Parse Word → List X} {old new : List X}
        → Enters text r a x within
        → Adds text a view x y old new
        → ((p : Parse Word) → view p ≡ whole (within p))
        → Begins text r whole x y old new
    entered_adds n b same = chosen_begins n.chooses (record { in_first = n.in_first; adds = b }) same

-- a rule that is only passed adds nothing
pub adds_nothing : {text : List ℕ} {r : Rule Terminal} {tokens left : List Token} {old : List Node} → Passes text r tokens left → Adds text r no_nodes tokens left old old
adds_nothing {old = old} s = record { parse = s.parse; takes = s.takes; is = sym (append-nil old) }
