use Rattle.std.proofs.Common.{◌+◌, ℕ, List, length, get_or, take, sym, ap, arith}
use Rattle.pq_schema.proofs.ScopeRanges.{range_more, ranges_more}
use Rattle.pq_schema.proofs.search.scope_ranges.ranges_of.Goals as goal

pub bytes-preserved : goal.bytes-preserved
bytes-preserved c =
    let files = c.args.files.now in
    let lead = c.args.lead.now in
    let at = c.bytes.at in
    let same = c.as_bytes-bytes.ensures.value in
    let range = range_more files lead c.in-Some.part.now c.bytes.start at _ c.inside-range.result c.bytes.invariant.0 (omega (arith, ap length same, c.bytes-test.true))
    (ap (λ (b : List ℕ). get_or b at 0) (sym same)) c.if-bytes-at-ne46.false c.in-Some.ensures.part (c.inside-range.ensures.range files (take c.bytes.start lead) c.bytes.invariant.1) in (
      omega arith,
      range,
      ranges_more files lead c.bytes.ranges.items c.push.new.self.items (at + 1) c.inside-range.result c.in_ok-push.ensures.items c.bytes.invariant.2 range,
    )
