-- A query of a sum: the keys, the parts and the values that it has there, and that its runs are
-- those of its own functions.
use Rattle.std.specs.Prelude.{ℕ, ◌≡◌}
use Rattle.pq_rules.specs.declared.turn.Turn.{Turn}
use Rattle.pq_rules.specs.declared.turn.Answer.{Answer}
use Rattle.pq_rules.specs.declared.turn.Answer.TheVariants.{Value}
use Rattle.pq_rules.specs.Turns.{Instance}
use Rattle.pq_rules.specs.Embedding.{Embeds}

-- `InSum m level starts advances` is that the query with the functions `starts` and `advances key`
-- is one of the rule set `m`. Its keys are `key x`, of the level `level`, its parts `part q` and
-- its values `value w`.
pub record InSum {X K P V Q W : Type 0} (m : Instance K P V) (level : ℕ) (starts : X → Turn K Q W)
    (advances : (X → K) → Q → Answer K V → Turn K Q W) : Type 0 where
  pub key : X → K
  pub part : Q → P
  pub value : W → V
  pub embeds : Embeds m key part value level starts (advances key)

-- `ReadInSum m level starts advances` is the same of a query with the functions `starts` and
-- `advances key read`, where `read a` is what other queries read of an answer `a`. A value reads as
-- what it was made of.
pub record ReadInSum {X K P V Q W : Type 0} (m : Instance K P V) (level : ℕ) (starts : X → Turn K Q W)
    (advances : (X → K) → (Answer K V → W) → Q → Answer K V → Turn K Q W) : Type 0 where
  pub key : X → K
  pub part : Q → P
  pub value : W → V
  pub read : Answer K V → W
  pub back : (w : W) → read (Value (value w)) ≡ w
  pub embeds : Embeds m key part value level starts (advances key read)
