use Rattle.std.proofs.Common.{refl}
use Rattle.pq_rules.proofs.Order.{strict}
use Rattle.pq_memo.specs.Table.{memo_at}
use Rattle.pq_memo.proofs.Frames.{walks_at}
use Rattle.pq_memo.proofs.table.memos.Memos.walk.Goals as goal

pub returns-in-Ok-Behind-clause-step : goal.returns-in-Ok-Behind-clause-step
returns-in-Ok-Behind-clause-step g c =
    let f = rw c.in-Ok-Behind.is at c.found-found.ensures.found in
    let s = rw c.in-Ok-Behind.field-0-is at f in (
      (λ q. refl),
      refl,
      tt,
      walks_at g.R.Key.Ord.cmp (strict g.R.Key.Ord.cmp g.met.R.Key.Ord.total) (g.R.Rules.machine c.args.self.now.rules) c.args.inputs.now.history c.args.inputs.now.revision
          c.now-latest.ensures.counted (memo_at g.R.Key.Ord.cmp c.args.self.now.places) c.requires.kept c.args.key c.in-Ok-Behind.i c.in-Ok-Behind.read s.0 s.1 s.2,
      s.3,
    )
