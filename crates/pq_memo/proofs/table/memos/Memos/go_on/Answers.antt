use Rattle.std.proofs.Common.{false, refl, subst}
use Rattle.pq_rules.specs.declared.turn.Answer.{Answer}
use Rattle.pq_rules.proofs.Order.{strict}
use Rattle.pq_memo.specs.Sound.{sources_at}
use Rattle.pq_memo.specs.aux.Frames.{Passes}
use Rattle.pq_memo.proofs.Frames.{goes_on}
use Rattle.pq_memo.proofs.table.memos.Memos.go_on.Goals as goal

pub returns-in-Ok-clause-step : goal.returns-in-Ok-clause-step
returns-in-Ok-clause-step g c =
    let laws = g.met.R.Rules.lawful c.args.self.now.rules (sources_at c.args.inputs.now.history c.args.inputs.now.revision) in (
      (λ q. refl),
      refl,
      refl,
      goes_on g.R.Key.Ord.cmp (strict g.R.Key.Ord.cmp g.met.R.Key.Ord.total) (g.R.Rules.machine c.args.self.now.rules) c.args.inputs.now c.now-latest.ensures.counted c.now-latest.ensures.last
          c.args.self.now.places c.requires.kept c.args.key c.args.asked c.args.part c.args.reads.items c.args.answer c.requires.sits c.requires.read
          laws.no_higher
          (subst (λ (a : Answer g.row.R-Key.Denot g.row.R-Value.Denot). Passes false (g.R.Rules.machine c.args.self.now.rules) c.args.key c.args.asked a) c.get.ensures.value (c.if-passes.ensures {u = tt}))
          c.push.new.self.items c.in-Ok.ensures.items,
      c.in-Ok.ensures.items,
    )
