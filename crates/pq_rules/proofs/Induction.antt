-- Induction over right answers. Let `F` hold of each input with its value, of each key with the
-- value that its rule makes of reads of which `F` holds, and of each cycle. Then `F` holds of every
-- key with its answer (`means_fits`).
--
-- The proof goes by levels, and in a level by heights. A rule set proves by it that its keys stay
-- in a finite list, where the key of a question comes out of an answer.
use Rattle.std.proofs.Common.{◌≡◌, ℕ, zero, suc, List, [], ◌∷◌, sym, subst, inl, inr, arith}
use Rattle.pq_rules.specs.declared.turn.Turn.TheVariants.{Done}
use Rattle.pq_rules.specs.declared.turn.Answer.{Answer}
use Rattle.pq_rules.specs.declared.turn.Answer.TheVariants.{Value, Cycle}
use Rattle.pq_rules.specs.Turns.{Instance}
use Rattle.pq_rules.specs.Relations.{Each}
use Rattle.pq_rules.specs.Value.{Trace, Right, Settles, IsSettled, Answers, Below, Means, RightRead, ComesBy}
use Rattle.pq_rules.proofs.Settled.{each_map, settled_trace}
use Rattle.pq_rules.proofs.Uniqueness.{means_below}
use Rattle.pq_rules.proofs.Characterisation.{RightAt, right_told, at_means}

module _ {K P V : Type 0} (m : Instance K P V) (F : K → Answer K V → Type 0)
    (input : (k : K) → m.level k ≡ 0 → F k (Value (m.input k)))
    (done : (k : K) (v : V) (es : Trace K V) → ComesBy m k es (Done v) → Each (λ e. F e.0 e.1) es → F k (Value v))
    (ring : (k : K) (r : List K) → Means m k (Cycle r) → F k (Cycle r)) where
  each_fits : (l h : ℕ) → ((k : K) (a : Answer K V) → Below m l k a → F k a)
      → ((k : K) (v : V) → m.level k ≡ l → Settles m (Below m l) l h k v → F k (Value v))
      → (es : Trace K V) → Each (Right m (Below m l) (Settles m (Below m l) l h) l) es → Each (λ e. F e.0 e.1) es
  unfolding Right
  each_fits l h low same [] r = tt
  each_fits l h low same (e ∷ es) (inl b, rs) = (low e.0 e.1 b, each_fits l h low same es rs)
  each_fits l h low same (e ∷ es) (inr s, rs) =
      (subst (λ (a : Answer K V). F e.0 a) (sym s.2) (same e.0 s.0 s.1 s.3), each_fits l h low same es rs)

  settled_fits : (l h : ℕ) → ((k : K) (a : Answer K V) → Below m (suc l) k a → F k a)
      → (k : K) (v : V) → m.level k ≡ suc l → Settles m (Below m (suc l)) (suc l) h k v → F k (Value v)
  unfolding Settles
  settled_fits l zero low k v at s = absurd s
  settled_fits l (suc h) low k v at s = done k v s.0
      (record {
        follows = s.1;
        told = subst (λ (i : ℕ). Each (RightRead m i) s.0) (sym at)
            (each_map (RightAt m (suc l)) (RightRead m (suc l)) s.0 (right_told m l)
            (settled_trace m (Below m (suc l)) (suc l) h s.0 s.2));
      })
      (each_fits (suc l) h low (settled_fits l h low) s.0 s.2)

  at_fits : (l : ℕ) → ((k : K) (a : Answer K V) → Below m l k a → F k a)
      → (k : K) (a : Answer K V) → m.level k ≡ l → Answers m (Below m l) l k a → F k a
  unfolding Answers IsSettled
  at_fits zero low k a at s = subst (λ (x : Answer K V). F k x) (sym s) (input k at)
  at_fits (suc l) low k (Value v) at s = settled_fits l s.0 low k v at s.1
  at_fits (suc l) low k (Cycle r) at s = ring k r (at_means m (suc l) k (Cycle r) at s)

  below_fits : (l : ℕ) (k : K) (a : Answer K V) → Below m l k a → F k a
  unfolding Below
  below_fits zero k a b = absurd b
  below_fits (suc l) k a (inl b) = below_fits l k a b.1
  below_fits (suc l) k a (inr b) = at_fits l (below_fits l) k a b.0 b.1

  pub means_fits : (k : K) (a : Answer K V) → Means m k a → F k a
  means_fits k a h = below_fits (suc (m.level k)) k a (means_below m (suc (m.level k)) k a (omega arith) h)
