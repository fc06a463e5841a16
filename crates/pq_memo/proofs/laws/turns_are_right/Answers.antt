use Rattle.std.proofs.Common.{refl}
use Rattle.pq_rules.specs.declared.turn.Turn.TheVariants.{Done}
use Rattle.pq_memo.specs.Table.{memo_at, HasIn}
use Rattle.pq_memo.proofs.Frames.{starts, came_reads}
use Rattle.pq_memo.proofs.laws.turns_are_right.Goals as goal

pub returns-clause-starts : goal.returns-clause-starts
returns-clause-starts g c inputs kept k why because =
    starts g.R.Key.Ord.cmp (g.R.Rules.machine c.args._memos.now.rules) inputs.history inputs.revision (memo_at g.R.Key.Ord.cmp c.args._memos.now.places) kept k why because

pub returns-clause-ends : goal.returns-clause-ends
returns-clause-ends g c inputs latest k v reads came =
    came_reads g.R.Key.Ord.cmp (g.R.Rules.machine c.args._memos.now.rules) inputs.history inputs.revision inputs.files latest
    (HasIn (memo_at g.R.Key.Ord.cmp c.args._memos.now.places)) k (Done v) v reads came refl
