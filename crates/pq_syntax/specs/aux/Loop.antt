-- Auxiliary: a list that is read item by item (used by proofs and invariants only).
use Rattle.std.specs.Prelude.{◌≡◌, ℕ, Bool, List, ◌++◌}
use Rattle.pq_syntax.specs.Rule.{Rule, Parse}
use Rattle.pq_syntax.specs.Rule.Rule.{Star}
use Rattle.pq_syntax.specs.Parts.{list_of}
use Rattle.pq_syntax.specs.aux.Takes.{Takes, Stops}

-- `Loop accepts r view start rest sofar`: the items between `start` and `rest` stand for `sofar`.
-- Whatever goes on from `rest` goes on from `start`, and an error after `rest` is one after
-- `start`.
pub record Loop {A W X : Type 0} (accepts : A → W → Bool) (r : Rule A) (view : Parse W → List X) (start rest : List W) (sofar : List X) : Type 0 where
  pub takes : (left : List W) (p : Parse W) → Takes accepts (Star r) rest left p → (q : Parse W) × Takes accepts (Star r) start left q × (list_of view q ≡ sofar ++ list_of view p)
  pub stops : (n : ℕ) → Stops accepts (Star r) rest n → Stops accepts (Star r) start n
