use Rattle.std.proofs.Common.{[], ◌∙◌, ap, arith, refl, inl, inr, ◌<◌, ◌^◌}
use Rattle.pq_rules.proofs.Weight.{Exact}
use Rattle.pq_memo.specs.declared.stepping.frame.Stage.TheVariants.{Waiting}
use Rattle.pq_memo.proofs.Wrote.{wrote_published}
use Rattle.pq_memo.proofs.Stacked.{fits_left}
use Rattle.pq_memo.proofs.TableCalls.{kept_same}
use Rattle.pq_memo.proofs.table.memos.Memos.take_turn.Goals as goal

pub returns-in-Ok-clause-taken : goal.returns-in-Ok-clause-taken
returns-in-Ok-clause-taken g c =
    let laws = g.met.R.Rules.lawful c.args.self.now.rules [] in
    let exact : Exact g.R.Key.Ord.cmp = record { total = g.met.R.Key.Ord.total; exact = laws.exact } in
    inr (
      wrote_published g.R.Key.Ord.cmp exact (g.R.Rules.machine c.args.self.now.rules) c.args.inputs.now c.args.self.now.places c.args.key c.publish_hinted.new.self.places
          c.in_ok-answer-in-Done.answer c.args.reads.items c.in-Ok.ensures.published,
      refl,
    )

pub returns-in_ok-push-in-Ask-clause-taken : goal.returns-in_ok-push-in-Ask-clause-taken
returns-in_ok-push-in-Ask-clause-taken g c =
    let high : c.left-left.result.0 < 2 ^ 32 = omega arith in
    let low : c.left-left.result.1 < 2 ^ 64 = omega arith in
    inl (record {
      asked = c.in-Ask.asked;
      part = c.in-Ask.part;
      frame = record { key = c.args.key; stage = Waiting c.in-Ask.part c.in-Ask.asked c.args.reads };
      asks = c.in-Ask.is;
      fits = fits_left ((g.R.Rules.machine c.args.self.now.rules).left c.in-Ask.part) c.left-left.result.0 c.left-left.result.1
          (c.left-left.ensures.left ∙ ap (λ (r : g.row.R.Denot). (g.R.Rules.machine r).left c.in-Ask.part) c.rules.ensures) high low;
      same = c.claim_asked.ensures.same;
      key_is = refl;
      waits = (refl, refl, refl);
      pushed = c.in_ok-push-in-Ask.ensures {u = tt};
    })

pub returns-in_err-hints-in-Ask-clause-kept : goal.returns-in_err-hints-in-Ask-clause-kept
returns-in_err-hints-in-Ask-clause-kept g c =
    kept_same g.R.Key.Ord.cmp (g.R.Rules.machine c.args.self.now.rules) c.args.inputs.now c.args.self.now.places c.claim_asked.new.self.places
    c.claim_asked.ensures.same c.requires.kept

pub returns-in_err-push-in-Ask-clause-kept : goal.returns-in_err-push-in-Ask-clause-kept
returns-in_err-push-in-Ask-clause-kept g c =
    kept_same g.R.Key.Ord.cmp (g.R.Rules.machine c.args.self.now.rules) c.args.inputs.now c.args.self.now.places c.claim_asked.new.self.places
    c.claim_asked.ensures.same c.requires.kept

pub returns-in_ok-push-in-Ask-clause-kept : goal.returns-in_ok-push-in-Ask-clause-kept
returns-in_ok-push-in-Ask-clause-kept g c =
    kept_same g.R.Key.Ord.cmp (g.R.Rules.machine c.args.self.now.rules) c.args.inputs.now c.args.self.now.places c.claim_asked.new.self.places
    c.claim_asked.ensures.same c.requires.kept
