use Rattle.std.proofs.Common.{◌∙◌, ◌+◌, ◌-◌, ◌/◌, ◌<◌, ◌≡◌, ℕ, get_or, refl, sym, ap, arith}
use Rattle.std.specs.Ordering.{is_lt, nat_cmp, ordering_then}
use Rattle.pq_schema.specs.aux.NameCodes.{code_of, code_order}
use Rattle.pq_schema.specs.aux.NameParts.{name_order}
use Rattle.pq_schema.proofs.Alike.{lower_half, met_more, none_met, none_seen, parted_all, seen_more, upper_half}
use Rattle.pq_schema.proofs.define.index.lower_bound.Goals as goal

pub halves-init : goal.halves-init
halves-init c = (parted_all c.args.index.now c.args.name.now, (none_seen c.args.index.now c.args.name.now _ refl, none_met c.args.index.now c.args.name.now _ _ (omega arith)))

pub halves-preserved-then-is_lt : goal.halves-preserved-then-is_lt
halves-preserved-then-is_lt c =
    let low = c.halves.low in
    let high = c.halves.high in
    let name = c.args.name.now in
    let more : low < high = c.halves-test.true in
    let middle = low + (high - low) / 2 in
    let own = (get_or c.args.index.now middle c.index-index-middle.result).0 in (
      lower_half c.args.index.now name low middle high c.index-index-middle.result c.requires.sorted (omega arith) c.halves.invariant.0 (omega arith)
          (sym c.if-is_lt.true ∙ c.is_lt.ensures ∙ ap is_lt (c.compare_alike-order.ensures.order)
          ∙ ap (λ (k : ℕ). is_lt (ordering_then (nat_cmp (code_of own) k) (name_order own name))) c.requires.code),
      c.halves.invariant.1,
    )

pub halves-preserved : goal.halves-preserved
halves-preserved c =
    let low = c.halves.low in
    let high = c.halves.high in
    let name = c.args.name.now in
    let more : low < high = c.halves-test.true in
    let middle = low + (high - low) / 2 in
    let own = (get_or c.args.index.now middle c.index-index-middle.result).0 in
    let order : c.compare_alike-order.result ≡ code_order own name =
    c.compare_alike-order.ensures.order ∙ ap (λ (k : ℕ). ordering_then (nat_cmp (code_of own) k) (name_order own name)) c.requires.code in (
      upper_half c.args.index.now name low middle high c.index-index-middle.result c.requires.sorted (omega arith) c.halves.invariant.0 (omega arith)
          (sym c.if-is_lt.false ∙ c.is_lt.ensures ∙ ap is_lt order),
      (
        seen_more c.args.index.now name middle c.halves.seen c.seen_at-seen.result c.index-index-middle.result c.compare_alike-order.result order c.seen_at-seen.ensures.is c.halves.invariant.1.0,
        met_more c.args.index.now name middle c.halves.seen c.seen_at-seen.result c.index-index-middle.result c.compare_alike-order.result order c.seen_at-seen.ensures.is,
      ),
    )
