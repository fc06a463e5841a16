use Rattle.std.proofs.Common.{◌≡◌, ℕ, ◌+◌, ◌-◌, List, get_or, length, replicate, ap, subst, ◌∙◌, arith}
use Rattle.std.proofs.lemmas.List.{get_or-replicate, length-replicate}
use Rattle.pq_proto.proofs.FirstSteps.{KnownFrom, known_none, known_more}
use Rattle.pq_proto.proofs.descriptor.references.firsts_of.Goals as goal

pub references-init : goal.references-init
references-init c =
    let refs = c.args.references.now in
    let all : c.in_ok-firsts.firsts.items ≡ replicate c.args.count (length refs) = c.in_ok-firsts.ensures.items_if_clones_equal (λ y h. h) in
    let len : length c.in_ok-firsts.firsts.items ≡ c.args.count = ap length all ∙ length-replicate c.args.count (length refs) in
    known_none refs c.args.part c.args.count c.in_ok-firsts.firsts.items len
    (λ n l. ap (λ (xs : List ℕ). get_or xs n 0) all ∙ get_or-replicate c.args.count n (length refs) 0 (omega arith))

pub references-preserved : goal.references-preserved
references-preserved c =
    let refs = c.args.references.now in
    let some = c.references-test.true in
    let at : c.references.index ≡ c.references.index - 1 + 1 = omega arith in
    known_more refs c.args.part c.args.count (c.references.index - 1) c.references.firsts.items c.put_first.new.firsts.items c.index-references-index.result c.index-references-index.is
    c.put_first.ensures.len c.put_first.ensures.put
    (subst (λ (i : ℕ). KnownFrom refs c.args.part c.args.count i c.references.firsts.items) at c.references.invariant)
