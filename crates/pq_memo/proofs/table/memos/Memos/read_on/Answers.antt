use Rattle.std.proofs.Common.{◌≡◌, sym, ◌∙◌, ap, subst, inr}
use Rattle.pq_rules.specs.declared.turn.Turn.{Turn}
use Rattle.pq_rules.proofs.Order.{strict}
use Rattle.pq_memo.specs.Sound.{sources_at}
use Rattle.pq_memo.specs.Table.{View, memo_at, HasIn}
use Rattle.pq_memo.specs.Frames.{Came}
use Rattle.pq_memo.specs.aux.Demand.{IsLater}
use Rattle.pq_memo.proofs.Frames.{goes_on}
use Rattle.pq_memo.proofs.Advancing.{later_on}
use Rattle.pq_memo.proofs.table.memos.Memos.read_on.Goals as goal

pub returns-in-None-clause-later : goal.returns-in-None-clause-later
returns-in-None-clause-later g c =
    subst (λ (t : Turn g.row.R-Key.Denot g.row.R-Part.Denot g.row.R-Value.Denot). IsLater (g.R.Rules.machine c.args.self.now.rules) c.args.turn t) c.in-Ask.is c.turns.invariant.later

pub turns-preserved : goal.turns-preserved
turns-preserved g c =
    let laws = g.met.R.Rules.lawful c.args.self.now.rules (sources_at c.args.inputs.now.history c.args.inputs.now.revision) in
    let hand = c.in-Some.ensures in
    let next : c.in-Ok.next ≡ (g.R.Rules.machine c.args.self.now.rules).advance c.in-Ask.part c.in-Some.answer.now =
    c.in-Ok.ensures.turn
    ∙ ap (λ (v : View g.row.R.Denot g.row.R-Key.Denot g.row.R-Value.Denot). (g.R.Rules.machine v.rules).advance c.in-Ask.part c.in-Some.answer.now) c.self.view_is in
    record {
      came = subst (λ (t : Turn g.row.R-Key.Denot g.row.R-Part.Denot g.row.R-Value.Denot).
          Came g.R.Key.Ord.cmp (g.R.Rules.machine c.args.self.now.rules) c.args.inputs.now.history c.args.inputs.now.revision (HasIn (memo_at g.R.Key.Ord.cmp c.args.self.now.places))
          c.args._key.now t c.push.new.items.items) (sym next)
          (goes_on g.R.Key.Ord.cmp (strict g.R.Key.Ord.cmp g.met.R.Key.Ord.total) (g.R.Rules.machine c.args.self.now.rules) c.args.inputs.now c.now-latest.ensures.counted c.now-latest.ensures.last
          c.args.self.now.places c.requires.kept c.args._key.now c.in-Ask.asked c.in-Ask.part c.turns.reads.items c.in-Some.answer.now
          (subst (λ (t : Turn g.row.R-Key.Denot g.row.R-Part.Denot g.row.R-Value.Denot).
          Came g.R.Key.Ord.cmp (g.R.Rules.machine c.args.self.now.rules) c.args.inputs.now.history c.args.inputs.now.revision (HasIn (memo_at g.R.Key.Ord.cmp c.args.self.now.places))
          c.args._key.now t c.turns.reads.items) c.in-Ask.is c.turns.invariant.came)
          (inr (hand.memo, hand.has, hand.verified, hand.answer_is)) laws.no_higher (λ _. (hand.value, hand.value_is))
          c.push.new.items.items c.in_ok-push-in-Some.ensures.added);
      later = later_on (g.R.Rules.machine c.args.self.now.rules) laws.falls c.args.turn c.turns.turn c.in-Ok.next c.in-Ask.asked c.in-Ask.part c.in-Some.answer.now
          c.in-Ask.is next c.turns.invariant.later;
    }
