-- Auxiliary: what is left of a body while it is walked.
use Rattle.std.specs.Prelude.{◌≡◌, ℕ, suc, ◌+◌, ◌<◌, get_or, drop, length, List}
use Rattle.pq_syntax.specs.declared.tree.Node.{Node}
use Rattle.pq_proto.specs.Bodies.{Body, Empty, Holds, body_at}

-- `record { depth = d; number = n; nodes = ss }` is the rest of a body with statements of the depth
-- `d`, where `ss` are the statements left in the file, the first of which has the number `n`
pub record Rest : Type 0 where
  pub depth : ℕ
  pub number : ℕ
  pub nodes : List Node

-- `left r` is the rest `r` of a body
abbrev pub left : Rest → Body
left r = body_at r.depth r.number r.nodes

-- `IsNext depth nodes k` is that `k` is the index in `nodes` of the next statement of a body with
-- statements of the depth `depth`
pub record IsNext (depth : ℕ) (nodes : List Node) (k : ℕ) : Type 0 where
  pub within : k < length nodes
  pub at : (s : Node) → s ≡ get_or nodes k s → s.depth ≡ depth
  pub is : (n : ℕ) (s : Node) → s ≡ get_or nodes k s → body_at depth n nodes
      ≡ Holds (record { number = n + k; node = s }) (body_at (suc depth) (suc (n + k)) (drop (k + 1) nodes)) (body_at depth (suc (n + k)) (drop (k + 1) nodes))

-- `IsLast depth nodes` is that no statement is left of a body with statements of the depth `depth`
pub record IsLast (depth : ℕ) (nodes : List Node) : Type 0 where
  pub is : (n : ℕ) → body_at depth n nodes ≡ Empty
