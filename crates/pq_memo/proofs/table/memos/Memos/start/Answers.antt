use Rattle.std.proofs.Common.{[], ◌∙◌, ap}
use Rattle.pq_memo.specs.Table.{memo_at}
use Rattle.pq_memo.proofs.Frames.{starts}
use Rattle.pq_memo.proofs.Stacked.{came_as}
use Rattle.pq_memo.proofs.table.memos.Memos.start.Goals as goal

pub run-requires-clause-came : goal.run-requires-clause-came
run-requires-clause-came g c =
    came_as g.R.Key.Ord.cmp (g.R.Rules.machine c.args.self.now.rules) c.args.inputs.now (memo_at g.R.Key.Ord.cmp c.args.self.now.places) c.args.key
    ((g.R.Rules.machine c.args.self.now.rules).start c.args.key) c.in_ok-turn.turn [] c.new.result.items
    ((c.in_ok-turn.ensures {u = tt}).turn ∙ ap (λ (r : g.row.R.Denot). (g.R.Rules.machine r).start c.args.key) c.rules-2.ensures) c.new.ensures.items
    (starts g.R.Key.Ord.cmp (g.R.Rules.machine c.args.self.now.rules) c.args.inputs.now.history c.args.inputs.now.revision
    (memo_at g.R.Key.Ord.cmp c.args.self.now.places) c.requires.kept c.args.key c.args.why c.requires.because)
