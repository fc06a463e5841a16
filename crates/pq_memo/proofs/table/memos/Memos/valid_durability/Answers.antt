use Rattle.std.proofs.Common.{sym, ◌∙◌, inl, inr}
use Rattle.pq_memo.specs.Table.{memo_at, HasIn}
use Rattle.pq_memo.specs.declared.table.state.Passed.TheVariants.{All}
use Rattle.pq_memo.proofs.Reading.{pass_as}
use Rattle.pq_memo.proofs.table.memos.Memos.valid_durability.Goals as goal

pub returns-then-lasts-clause-green : goal.returns-then-lasts-clause-green
returns-then-lasts-clause-green g c = (
  c.args.entry.now,
  inl (record { has = c.requires; earlier = λ e. c.if-verified-number.false (c.verified.ensures ∙ e ∙ sym c.now.ensures.now ∙ sym c.number.ensures) }, c.if-lasts.ensures {u = tt}),
)

pub returns-in-Some-clause-green : goal.returns-in-Some-clause-green
returns-in-Some-clause-green g c = (
  c.args.entry.now,
  inr (
    record {
      old = record { has = c.requires; earlier = λ e. c.if-verified-number.false (c.verified.ensures ∙ e ∙ sym c.now.ensures.now ∙ sym c.number.ensures) };
      lapsed = c.if-lasts.ensures {u = tt};
      no_ring = c.if-is_on_its_ring.ensures {u = tt};
    },
    pass_as (g.R.Rules.machine c.args.self.now.rules) c.args.inputs.now.history c.args.inputs.now.revision (HasIn (memo_at g.R.Key.Ord.cmp c.args.self.now.places))
        c.verified-2.result c.args.entry.now.verified c.reads.result.now c.args.entry.now.reads All c.verified-2.ensures c.reads.ensures c.in-Some.ensures.still,
  ),
)
