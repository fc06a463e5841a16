use Rattle.std.proofs.Common.{◌∙◌, sym, arith}
use Rattle.pq_lex.proofs.CommentEnds.{rest_length, none_to_star, none_past_star, none_to_end}
use Rattle.pq_lex.proofs.RunLemmas.{close_one}
use Rattle.pq_lex.proofs.steps.close_at.Goals as goal

pub returns-then-closes : goal.returns-then-closes
returns-then-closes c =
    let text = c.args.bytes.now in
    let found = c.in-Some.ensures.0 in
    close_one text c.args.from _ (omega (arith, c.loop-n.invariant.ordered)) (omega (arith, found.high, rest_length text c.loop-n.at c.loop-n.invariant.within, c.loop-n.invariant.within)) (none_to_star text c.args.from c.loop-n.at c.loop-n.invariant.within c.loop-n.invariant.none c.in-Some.n found.before) (λ h. sym c.closes.ensures ∙ c.if-closes.true)

pub loop-n-preserved : goal.loop-n-preserved
loop-n-preserved c =
    let text = c.args.bytes.now in
    let found = c.in-Some.ensures.0 in
    record {
      ordered = omega (arith, c.loop-n.invariant.ordered);
      within = omega (arith, found.high, rest_length text c.loop-n.at c.loop-n.invariant.within, c.loop-n.invariant.within);
      none = none_past_star text c.args.from c.loop-n.at c.loop-n.invariant.within c.loop-n.invariant.none c.in-Some.n found.before (sym c.closes.ensures ∙ c.if-closes.false);
    }

pub returns : goal.returns
returns c =
    let text = c.args.bytes.now in
    let within = c.loop-n.invariant.within in
    close_one text c.args.from _ (omega (arith, c.loop-n.invariant.ordered, within)) (omega arith) (none_to_end text c.args.from c.loop-n.at within c.loop-n.invariant.none c.in_default.ensures) (λ h. absurd (omega (arith, h)))
