use Rattle.std.proofs.Common.{List, subst}
use Rattle.pq_inputs.specs.Sources.{Sources}
use Rattle.pq_rules.specs.declared.turn.Answer.TheVariants.{Cycle}
use Rattle.pq_rules.specs.Turns.{over}
use Rattle.pq_rules.specs.Relations.{Each}
use Rattle.pq_rules.proofs.Order.{strict}
use Rattle.pq_memo.specs.Sound.{sources_at, HasReads}
use Rattle.pq_memo.specs.Table.{memo_at}
use Rattle.pq_memo.specs.Writes.{ring_keys}
use Rattle.pq_memo.proofs.Reading.{now_files}
use Rattle.pq_memo.proofs.RoundClosed.{round_all, round_closed}
use Rattle.pq_memo.proofs.table.memos.Memos.publish_round_hinted.Goals as goal

pub members_of-requires : goal.members_of-requires
members_of-requires g c =
    round_all g.R.Key.Ord.cmp (g.R.Rules.machine c.args.self.now.rules) c.args.inputs.now.history c.args.inputs.now.revision (memo_at g.R.Key.Ord.cmp c.args.self.now.places) c.args.frames.now c.requires.round

pub publish_ring_hinted-requires-clause-ruled : goal.publish_ring_hinted-requires-clause-ruled
publish_ring_hinted-requires-clause-ruled g c =
    let laws = g.met.R.Rules.lawful c.args.self.now.rules (sources_at c.args.inputs.now.history c.args.inputs.now.revision) in
    (round_closed g.R.Key.Ord.cmp (g.R.Rules.machine c.args.self.now.rules) c.args.inputs.now.history c.args.inputs.now.revision (memo_at g.R.Key.Ord.cmp c.args.self.now.places)
    (strict g.R.Key.Ord.cmp g.met.R.Key.Ord.total) laws.no_higher c.args.frames.now c.in_ok-members.members.items c.requires.round (c.in_ok-members.ensures {u = tt})).ruled

pub publish_ring_hinted-requires-clause-some : goal.publish_ring_hinted-requires-clause-some
publish_ring_hinted-requires-clause-some g c =
    let laws = g.met.R.Rules.lawful c.args.self.now.rules (sources_at c.args.inputs.now.history c.args.inputs.now.revision) in
    (round_closed g.R.Key.Ord.cmp (g.R.Rules.machine c.args.self.now.rules) c.args.inputs.now.history c.args.inputs.now.revision (memo_at g.R.Key.Ord.cmp c.args.self.now.places)
    (strict g.R.Key.Ord.cmp g.met.R.Key.Ord.total) laws.no_higher c.args.frames.now c.in_ok-members.members.items c.requires.round (c.in_ok-members.ensures {u = tt})).some

pub publish_ring_hinted-requires-clause-reads : goal.publish_ring_hinted-requires-clause-reads
publish_ring_hinted-requires-clause-reads g c =
    let laws = g.met.R.Rules.lawful c.args.self.now.rules (sources_at c.args.inputs.now.history c.args.inputs.now.revision) in
    subst (λ (s : Sources). Each (λ (e : g.row.R-Key.Denot × List g.row.R-Key.Denot). HasReads (over g.R.Key.Ord.cmp (g.R.Rules.machine c.args.self.now.rules) s) e.0 (Cycle (ring_keys c.in_ok-members.members.items)) e.1) c.in_ok-members.members.items)
    (now_files c.args.inputs.now.history c.args.inputs.now.revision c.args.inputs.now.files c.now-latest.ensures.last)
    (round_closed g.R.Key.Ord.cmp (g.R.Rules.machine c.args.self.now.rules) c.args.inputs.now.history c.args.inputs.now.revision (memo_at g.R.Key.Ord.cmp c.args.self.now.places)
    (strict g.R.Key.Ord.cmp g.met.R.Key.Ord.total) laws.no_higher c.args.frames.now c.in_ok-members.members.items c.requires.round (c.in_ok-members.ensures {u = tt})).reads

pub publish_ring_hinted-requires-clause-up_to_date : goal.publish_ring_hinted-requires-clause-up_to_date
publish_ring_hinted-requires-clause-up_to_date g c =
    let laws = g.met.R.Rules.lawful c.args.self.now.rules (sources_at c.args.inputs.now.history c.args.inputs.now.revision) in
    (round_closed g.R.Key.Ord.cmp (g.R.Rules.machine c.args.self.now.rules) c.args.inputs.now.history c.args.inputs.now.revision (memo_at g.R.Key.Ord.cmp c.args.self.now.places)
    (strict g.R.Key.Ord.cmp g.met.R.Key.Ord.total) laws.no_higher c.args.frames.now c.in_ok-members.members.items c.requires.round (c.in_ok-members.ensures {u = tt})).fresh

pub returns-in-Ok-clause-published : goal.returns-in-Ok-clause-published
returns-in-Ok-clause-published g c =
    let laws = g.met.R.Rules.lawful c.args.self.now.rules (sources_at c.args.inputs.now.history c.args.inputs.now.revision) in
    let w = c.in-Ok.ensures.published in (
      c.in_ok-members.members.items,
      w.0,
      (round_closed g.R.Key.Ord.cmp (g.R.Rules.machine c.args.self.now.rules) c.args.inputs.now.history c.args.inputs.now.revision (memo_at g.R.Key.Ord.cmp c.args.self.now.places)
          (strict g.R.Key.Ord.cmp g.met.R.Key.Ord.total) laws.no_higher c.args.frames.now c.in_ok-members.members.items c.requires.round (c.in_ok-members.ensures {u = tt})).keys,
      w.1,
    )
