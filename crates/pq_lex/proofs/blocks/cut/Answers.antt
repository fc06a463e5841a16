use Rattle.std.proofs.Common.{◌≡◌, ◌+◌, ◌≤◌, drop, get_or, length, slice_range, sym, ◌∙◌, ap, subst, arith}
use Rattle.pq_lex.proofs.BlockEdits.{IsCutTo, cut_done, cut_none, cut_on}
use Rattle.pq_lex.proofs.blocks.cut.Goals as goal

pub walk-init : goal.walk-init
walk-init c = cut_none c.args.text.now c.new-blocks.result.items c.new-blocks.ensures.items

pub overflow_sub-text : goal.overflow_sub-text
overflow_sub-text c = c.walk.invariant.within

pub range-requires-clause-start_boundary : goal.range-requires-clause-start_boundary
range-requires-clause-start_boundary c = c.walk.invariant.boundary

pub range_from-requires : goal.range_from-requires
range_from-requires c = c.walk.invariant.boundary

pub walk-smaller : goal.walk-smaller
walk-smaller c =
    let low : c.walk.at + 4096 ≤ c.ceil_char_boundary-end.result = c.ceil_char_boundary-end.ensures.bound (omega (arith, c.walk-test.true)) in
    let within : c.ceil_char_boundary-end.result ≤ length c.args.text.now = c.ceil_char_boundary-end.ensures.boundary.0 in
    omega (arith, low, within, c.walk-test.true)

pub walk-preserved : goal.walk-preserved
walk-preserved c =
    let low : c.walk.at + 4096 ≤ c.ceil_char_boundary-end.result = c.ceil_char_boundary-end.ensures.bound (omega (arith, c.walk-test.true)) in
    let within : c.ceil_char_boundary-end.result ≤ length c.args.text.now = c.ceil_char_boundary-end.ensures.boundary.0 in
    let bytes : c.new.result.bytes ≡ slice_range c.args.text.now c.walk.at c.ceil_char_boundary-end.result = ap (λ b. b.bytes) c.new.ensures ∙ c.in_ok-part.ensures.ok ∙ c.range.ensures.value in
    let next : c.new.result.next ≡ get_or c.args.text.now c.ceil_char_boundary-end.result 0 = ap (λ b. b.next) c.new.ensures ∙ ap (λ t. get_or t c.ceil_char_boundary-end.result 0) c.as_bytes.ensures.value in
    subst (IsCutTo c.args.text.now c.ceil_char_boundary-end.result) (sym c.in_ok-push.ensures.items)
    (cut_on c.args.text.now c.walk.at c.ceil_char_boundary-end.result c.walk.blocks.items c.new.result c.walk.invariant (omega (arith, low)) (omega (arith, within, c.if-end-text.false)) c.ceil_char_boundary-end.ensures.boundary bytes next)

pub returns : goal.returns
returns c =
    let bytes : c.new-2.result.bytes ≡ drop c.walk.at c.args.text.now = ap (λ b. b.bytes) c.new-2.ensures ∙ c.in_ok-part-2.ensures.ok ∙ c.range_from.ensures.value in
    rw c.in_ok-push-2.ensures.items
    (cut_done c.args.text.now c.walk.at c.args.next c.walk.blocks.items c.new-2.result c.walk.invariant bytes (ap (λ b. b.next) c.new-2.ensures))
