-- A turn that was applied (`Applies`), by what the calls did.
use Rattle.std.proofs.Common.{◌≡◌, ℕ, ◌<◌, ◌^◌, List, [], ◌∷◌, ◌++◌, refl, sym, subst}
use Rattle.pq_rules.specs.declared.turn.Turn.{Turn}
use Rattle.pq_rules.specs.declared.turn.Turn.TheVariants.{Ask, Done}
use Rattle.pq_rules.specs.declared.turn.Answer.TheVariants.{Value}
use Rattle.pq_rules.specs.aux.AnswerTable.{Finished, Covers}
use Rattle.pq_rules.specs.declared.scratch.Frame.{Frame}
use Rattle.pq_rules.specs.Turns.{Instance}
use Rattle.pq_rules.specs.aux.Evaluator.{Applies}

pub applies_ask : {K P V : Type 0} (m : Instance K P V) (key : K) (turn : Turn K P V) (asked : K) (part : P)
    (done : List (Finished K V)) (stack rest : List (Frame K P)) (left : ℕ × ℕ)
    → turn ≡ Ask asked part → left ≡ m.left part → left.0 < 2 ^ 32 → left.1 < 2 ^ 64
    → rest ≡ stack ++ record { key = key; asked = asked; part = part } ∷ []
    → Applies m key turn done stack done rest
unfolding Applies
applies_ask {K} {P} {V} m key turn asked part done stack rest left is same high low r =
    subst (λ (t : Turn K P V). Applies m key t done stack done rest) (sym is)
    (refl, r, subst (λ (l : ℕ × ℕ). (l.0 < 2 ^ 32) × (l.1 < 2 ^ 64)) same (high, low))

pub applies_done : {K P V : Type 0} (m : Instance K P V) (key : K) (turn : Turn K P V) (value : V)
    (done after : List (Finished K V)) (stack : List (Frame K P))
    → turn ≡ Done value → Covers (done ++ record { key = key; answer = Value value } ∷ []) after
    → Applies m key turn done stack after stack
unfolding Applies
applies_done {K} {P} {V} m key turn value done after stack is a =
    subst (λ (t : Turn K P V). Applies m key t done stack after stack) (sym is) (a, refl)
