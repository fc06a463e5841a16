-- Causes to start a rule. The names are those of `specs/Sound`.
use Rattle.std.specs.Prelude.{ℕ, ◌≡◌, List, ◌∷◌, ◌++◌}
use Rattle.std.specs.declared.cmp.Ordering.{Ordering}
use Rattle.pq_inputs.specs.Sources.{Sources}
use Rattle.pq_rules.specs.declared.turn.Answer.{Answer}
use Rattle.pq_rules.specs.Turns.{Machine}
use Rattle.pq_rules.specs.Relations.{Each}
use Rattle.pq_rules.specs.Value.{Means}
use Rattle.pq_memo.specs.declared.table.look.Why.{Why}
use Rattle.pq_memo.specs.declared.table.look.Why.TheVariants.{Fresh, Changed, Ring}
use Rattle.pq_memo.specs.Sound.{Memo, at}
use Rattle.pq_memo.specs.Kept.{Differs}
use Rattle.pq_memo.specs.Look.{HasLapsed, IsOnItsRing}

-- `IsSame order m history since now q` is that `q` has now the answer that it had at `since`
pub record IsSame {K P V : Type 0} (order : K → K → Ordering) (m : Machine K P V) (history : List Sources) (since now : ℕ) (q : K) : Type 0 where
  pub answer : Answer K V
  pub then_ : Means (at order m history since) q answer
  pub now_ : Means (at order m history now) q answer

-- `FirstChanged order m history now memo q` is that the read `q` of `memo` had another answer at
-- some revision after the memo was verified, and that each read before it has now the answer that
-- it had
pub record FirstChanged {K P V : Type 0} (order : K → K → Ordering) (m : Machine K P V) (history : List Sources) (now : ℕ) (memo : Memo K V) (q : K) : Type 0 where
  pub front : List K
  pub back : List K
  pub whole : memo.reads ≡ front ++ q ∷ back
  pub same : Each (IsSame order m history memo.verified now) front
  pub differs : Differs order m history memo.verified now q

-- `IsCause order m history now Has k why` is that the table gives the cause `why` to start the rule
-- of `k`
abbrev pub IsCause : {K P V : Type 0} → (K → K → Ordering) → Machine K P V → List Sources → ℕ → (K → Memo K V → Type 0) → K → Why K → Type 0
IsCause {K} {P} {V} order m history now Has k Fresh = (memo : Memo K V) → Has k memo → ⊥
IsCause {K} {P} {V} order m history now Has k (Changed q) = (memo : Memo K V) × Has k memo × FirstChanged order m history now memo q
IsCause {K} {P} {V} order m history now Has k Ring =
    (memo : Memo K V) × Has k memo × IsOnItsRing k memo × HasLapsed history memo
