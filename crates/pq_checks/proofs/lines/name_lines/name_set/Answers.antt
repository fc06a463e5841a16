use Rattle.std.proofs.Common.{map, refl}
use Rattle.pq_checks.specs.aux.Lines.{name_cmp}
use Rattle.pq_checks.specs.aux.Seen.{name_seen}
use Rattle.pq_checks.specs.aux.Sets.{is_name}
use Rattle.pq_checks.proofs.Flags.{seen_at, seen_within, seen_past}
use Rattle.pq_checks.proofs.Sets.{has_more, has_all}
use Rattle.pq_checks.proofs.Ties.{name_back}
use Rattle.pq_checks.proofs.lines.name_lines.name_set.Goals as goal

pub each-preserved : goal.each-preserved
each-preserved c =
    let xs = c.args.names.now in
    let i = c.each.i in
    let x = c.index-names-i.result in
    has_more name_cmp is_name c.each.set c.insert.new.self (map name_seen xs) i (name_seen x) (x.owner, c.as_slice.result)
    (seen_within name_seen xs i c.each-test.true) (seen_at name_seen xs i x c.each-test.true c.index-names-i.is) (λ q. name_back (x.owner, c.as_slice.result) q (name_seen x) refl c.as_slice.ensures) c.in_ok-insert.ensures.updates.0 c.each.invariant

pub returns : goal.returns
returns c = record {
  names = has_all name_cmp is_name c.each.set (map name_seen c.args.names.now) c.each.i (seen_past name_seen c.args.names.now c.each.i c.each-test.false) c.each.invariant;
}
