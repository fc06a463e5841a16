use Rattle.std.proofs.Common.{ℕ, ◌+◌, ◌-◌, ◌/◌, ◌<◌, length, arith}
use Rattle.pq_lex.specs.aux.Kept.{numbers_of}
use Rattle.pq_lex.proofs.Marked.{above_all, below_all, number_at, numbers_count}
use Rattle.pq_lex.proofs.lines.wide_of.Goals as goal

pub loop-low-preserved-then-here-number-2 : goal.loop-low-preserved-then-here-number-2
loop-low-preserved-then-here-number-2 c =
    let m : ℕ = c.loop-low.low + (c.loop-low.high - c.loop-low.low) / 2 in
    let inside : m < length c.args.wide.now = omega (arith, c.loop-low-test.true, c.loop-low.invariant.within) in
    let at = number_at c.args.wide.now m c.index-wide-middle.result inside in
    record {
      ordered = omega (arith, c.loop-low-test.true);
      within = c.loop-low.invariant.within;
      before = below_all (numbers_of c.args.wide.now) c.requires m c.args.number (omega (arith, inside, numbers_count c.args.wide.now)) (omega (arith, at, c.if-here-number-2.true));
      after = c.loop-low.invariant.after;
    }

pub loop-low-preserved : goal.loop-low-preserved
loop-low-preserved c =
    let m : ℕ = c.loop-low.low + (c.loop-low.high - c.loop-low.low) / 2 in
    let inside : m < length c.args.wide.now = omega (arith, c.loop-low-test.true, c.loop-low.invariant.within) in
    let at = number_at c.args.wide.now m c.index-wide-middle.result inside in
    record {
      ordered = omega arith;
      within = omega (arith, inside);
      before = c.loop-low.invariant.before;
      after = above_all (numbers_of c.args.wide.now) c.requires m c.args.number (omega (arith, at, c.if-here-number-2.false)) (λ e. c.if-here-number.false (omega (arith, at, e)));
    }
