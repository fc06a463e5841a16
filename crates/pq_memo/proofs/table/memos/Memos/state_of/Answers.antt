use Rattle.std.proofs.Common.{sym, ◌∙◌, inl, inr}
use Rattle.pq_memo.specs.Table.{memo_at, HasIn}
use Rattle.pq_memo.specs.declared.table.state.Passed.TheVariants.{All, Stale, Newer}
use Rattle.pq_memo.proofs.Reading.{pass_as}
use Rattle.pq_memo.proofs.table.memos.Memos.state_of.Goals as goal

pub returns-then-lasts : goal.returns-then-lasts
returns-then-lasts g c =
    inl (record { has = c.requires.has; earlier = λ e. c.if-verified-number.false (c.verified.ensures ∙ e ∙ sym c.now.ensures.now ∙ sym c.number.ensures) }, c.if-lasts.ensures {u = tt})

pub returns-in-All : goal.returns-in-All
returns-in-All g c =
    inr (
      record {
        old = record { has = c.requires.has; earlier = λ e. c.if-verified-number.false (c.verified.ensures ∙ e ∙ sym c.now.ensures.now ∙ sym c.number.ensures) };
        lapsed = c.if-lasts.ensures {u = tt};
        no_ring = c.if-is_on_its_ring.ensures {u = tt};
      },
      pass_as (g.R.Rules.machine c.args.self.now.rules) c.args.inputs.now.history c.args.inputs.now.revision (HasIn (memo_at g.R.Key.Ord.cmp c.args.self.now.places))
          c.verified-2.result c.args.entry.now.verified c.reads.result.now c.args.entry.now.reads All c.verified-2.ensures c.reads.ensures (c.in-All.ensures {u = tt}),
    )

pub returns-in-Stale : goal.returns-in-Stale
returns-in-Stale g c = (
  record {
    old = record { has = c.requires.has; earlier = λ e. c.if-verified-number.false (c.verified.ensures ∙ e ∙ sym c.now.ensures.now ∙ sym c.number.ensures) };
    lapsed = c.if-lasts.ensures {u = tt};
    no_ring = c.if-is_on_its_ring.ensures {u = tt};
  },
  pass_as (g.R.Rules.machine c.args.self.now.rules) c.args.inputs.now.history c.args.inputs.now.revision (HasIn (memo_at g.R.Key.Ord.cmp c.args.self.now.places))
      c.verified-2.result c.args.entry.now.verified c.reads.result.now c.args.entry.now.reads (Stale c.in-Stale.i) c.verified-2.ensures c.reads.ensures (c.in-Stale.ensures {u = tt}),
)

pub returns-in-Newer : goal.returns-in-Newer
returns-in-Newer g c = (
  record {
    old = record { has = c.requires.has; earlier = λ e. c.if-verified-number.false (c.verified.ensures ∙ e ∙ sym c.now.ensures.now ∙ sym c.number.ensures) };
    lapsed = c.if-lasts.ensures {u = tt};
    no_ring = c.if-is_on_its_ring.ensures {u = tt};
  },
  pass_as (g.R.Rules.machine c.args.self.now.rules) c.args.inputs.now.history c.args.inputs.now.revision (HasIn (memo_at g.R.Key.Ord.cmp c.args.self.now.places))
      c.verified-2.result c.args.entry.now.verified c.reads.result.now c.args.entry.now.reads (Newer c.in-Newer.i) c.verified-2.ensures c.reads.ensures (c.in-Newer.ensures {u = tt}),
)
