use Rattle.std.proofs.lemmas.Result.{IfOk-weaker}
use Rattle.pq_memo.specs.Table.{memo_at}
use Rattle.pq_memo.proofs.RoundClosed.{walked_front, walk_within}
use Rattle.pq_memo.proofs.table.memos.Memos.frame_reads.Goals as goal

pub walked_reads-requires : goal.walked_reads-requires
walked_reads-requires g c =
    walk_within g.R.Key.Ord.cmp (g.R.Rules.machine c.args.self.now.rules) c.args._inputs.now.history c.args._inputs.now.revision (memo_at g.R.Key.Ord.cmp c.args.self.now.places)
    c.args.frame.now.key c.args.frame.now.stage c.in-Walking.place c.in-Walking.is c.requires

pub returns-in-Walking : goal.returns-in-Walking
returns-in-Walking g c =
    IfOk-weaker c.walked_reads.result _ _
    (λ v h. walked_front g.R.Key.Ord.cmp (g.R.Rules.machine c.args.self.now.rules) c.args._inputs.now.history c.args._inputs.now.revision (memo_at g.R.Key.Ord.cmp c.args.self.now.places)
    c.args.frame.now.key c.args.frame.now.stage c.in-Walking.place v.items c.in-Walking.is h)
    c.walked_reads.ensures
