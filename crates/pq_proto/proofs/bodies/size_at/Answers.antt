use Rattle.std.proofs.Common.{◌≡◌, ℕ, ◌+◌, ◌-◌, drop, get_or, sym, ap, ◌∙◌, arith}
use Rattle.std.proofs.lemmas.List.{get_or_default}
use Rattle.pq_syntax.specs.declared.tree.Node.{Node}
use Rattle.pq_proto.specs.aux.Sizes.{deeper}
use Rattle.pq_proto.proofs.SizeSteps.{HoppedTo, hopped_more, hopped_end, hopped_less, size_is}
use Rattle.pq_proto.proofs.bodies.size_at.Goals as goal

pub returns-then-nodes-next : goal.returns-then-nodes-next
returns-then-nodes-next c =
    let nodes = c.args.nodes.now in
    let s = c.index-nodes-index.result in
    let t = c.index-nodes-next.result in
    let d = (get_or nodes c.args.index s).depth in
    let same : s.depth ≡ d = ap (λ (n : Node). n.depth) c.index-nodes-index.is in
    let there : t.depth ≡ (get_or nodes c.nodes.next t).depth = ap (λ (n : Node). n.depth) c.index-nodes-next.is in
    let less = c.if-nodes-next.true in
    size_is nodes c.args.index (c.nodes.next - c.args.index - 1) s c.requires.within c.index-nodes-index.is
    (hopped_less d nodes c.args.index c.nodes.next t c.nodes-test.true c.index-nodes-next.is (omega arith) c.nodes.invariant
    ∙ ap (λ (m : ℕ). deeper m (drop (c.args.index + 1) nodes)) (sym same))

pub nodes-preserved : goal.nodes-preserved
nodes-preserved c =
    let nodes = c.args.nodes.now in
    let s = c.index-nodes-index.result in
    let t = c.index-nodes-next.result in
    let d = (get_or nodes c.args.index s).depth in
    let there : t.depth ≡ (get_or nodes c.nodes.next t).depth = ap (λ (n : Node). n.depth) c.index-nodes-next.is in
    let more = c.if-nodes-next.false in
    let n = c.requires.sized.len in
    let inside = c.nodes-test.true in
    hopped_more d nodes c.args.sizes.now c.args.index c.nodes.next (get_or c.args.sizes.now c.nodes.next 0) t inside c.index-nodes-next.is (omega arith)
    (get_or_default c.args.sizes.now c.nodes.next 0 (get_or c.args.sizes.now c.nodes.next 0) (omega arith)) c.requires.sized c.nodes.invariant

pub overflow_add-next-in-nodes-2 : goal.overflow_add-next-in-nodes-2
overflow_add-next-in-nodes-2 c =
    let nodes = c.args.nodes.now in
    let s = c.index-nodes-index.result in
    let t = c.index-nodes-next.result in
    let d = (get_or nodes c.args.index s).depth in
    let there : t.depth ≡ (get_or nodes c.nodes.next t).depth = ap (λ (n : Node). n.depth) c.index-nodes-next.is in
    let more = c.if-nodes-next.false in
    let n = c.requires.sized.len in
    let inside = c.nodes-test.true in
    let ends : HoppedTo d nodes c.args.index (c.nodes.next + 1 + get_or c.args.sizes.now c.nodes.next 0) =
    hopped_more d nodes c.args.sizes.now c.args.index c.nodes.next (get_or c.args.sizes.now c.nodes.next 0) t inside c.index-nodes-next.is (omega arith)
    (get_or_default c.args.sizes.now c.nodes.next 0 (get_or c.args.sizes.now c.nodes.next 0) (omega arith)) c.requires.sized c.nodes.invariant in
    let to = ends.to in
    omega arith

pub returns : goal.returns
returns c =
    let nodes = c.args.nodes.now in
    let s = c.index-nodes-index.result in
    let d = (get_or nodes c.args.index s).depth in
    let same : s.depth ≡ d = ap (λ (n : Node). n.depth) c.index-nodes-index.is in
    size_is nodes c.args.index (c.nodes.next - c.args.index - 1) s c.requires.within c.index-nodes-index.is
    (hopped_end d nodes c.args.index c.nodes.next c.nodes-test.false c.nodes.invariant
    ∙ ap (λ (m : ℕ). deeper m (drop (c.args.index + 1) nodes)) (sym same))
