-- A query of a sum that asks one key of a lower level and ends: what its answers are, where it is
-- known what is read of the answers of that key.
use Rattle.std.proofs.Common.{ℕ, ◌≡◌, ◌<◌, ap, subst, ◌∙◌}
use Rattle.pq_rules.specs.declared.turn.Turn.{Turn}
use Rattle.pq_rules.specs.declared.turn.Turn.TheVariants.{Ask, Done}
use Rattle.pq_rules.specs.declared.turn.Answer.{Answer}
use Rattle.pq_rules.specs.declared.turn.Answer.TheVariants.{Value}
use Rattle.pq_rules.specs.Turns.{Instance}
use Rattle.pq_rules.specs.Value.{Means}
use Rattle.pq_rules.specs.InSum.{ReadInSum}
use Rattle.pq_rules.proofs.OneRead.{once, makes_once}

-- `HasValue m key value read w` is that the answer of each key `key x` is the value of `w x`, and
-- that it reads as that
pub record HasValue {X K P V W : Type 0} (m : Instance K P V) (key : X → K) (value : W → V) (read : Answer K V → W) (w : X → W) : Type 0 where
  pub is : (x : X) (a : Answer K V) → Means m (key x) a → a ≡ Value (value (w x))
  pub means : (x : X) → Means m (key x) (Value (value (w x)))
  pub read_is : (x : X) (a : Answer K V) → Means m (key x) a → read a ≡ w x

module _ {X K P V Q W B : Type 0} {level : ℕ} {starts : X → Turn K Q W} {advances : (X → K) → (Answer K V → W) → Q → Answer K V → Turn K Q W}
    (m : Instance K P V) (s : ReadInSum m level starts advances)
    (asked : X → K) (held : X → Q) (read : Answer K V → B) (made : B → W)
    (asks : (x : X) → starts x ≡ Ask (asked x) (held x)) (ends : (x : X) (a : Answer K V) → advances s.key s.read (held x) a ≡ Done (made (read a)))
    (lower : (x : X) → m.level (asked x) < level)
    (at : X → B) (reads : (x : X) (a : Answer K V) → Means m (asked x) a → read a ≡ at x) (answered : (x : X) → (a : Answer K V) × Means m (asked x) a) where
  is : (x : X) (a : Answer K V) → Means m (s.key x) a → a ≡ Value (s.value (made (at x)))
  is x a h =
      let o = once m s.key s.part s.value level starts (advances s.key s.read) s.embeds asked held (λ y b. made (read b)) asks ends lower x a h in
      o.2 ∙ ap (λ (b : B). Value (s.value (made b))) (reads x o.0 o.1)

  means : (x : X) → Means m (s.key x) (Value (s.value (made (at x))))
  means x =
      let b = answered x in
      subst (λ (y : B). Means m (s.key x) (Value (s.value (made y)))) (reads x b.0 b.1)
      (makes_once m s.key s.part s.value level starts (advances s.key s.read) s.embeds asked held (λ y c. made (read c)) asks ends lower x b.0 b.1)

  -- the answer of the query's key is the value of what is made of what is read
  pub asked_once : HasValue m s.key s.value s.read (λ x. made (at x))
  asked_once = record {
    is = is;
    means = means;
    read_is = λ x a h. ap s.read (is x a h) ∙ s.back (made (at x));
  }
