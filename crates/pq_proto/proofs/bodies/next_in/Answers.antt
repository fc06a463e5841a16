use Rattle.std.proofs.Common.{◌≡◌, sym, ap, ◌∙◌, arith}
use Rattle.pq_syntax.specs.declared.tree.Node.{Node}
use Rattle.pq_proto.proofs.BodySteps.{skipped_none, skipped_more, ends_less, ends_all, next_at}
use Rattle.pq_proto.proofs.bodies.next_in.Goals as goal

pub nodes-init : goal.nodes-init
nodes-init c = skipped_none c.args.depth c.args.nodes.now

pub returns-then-found-depth : goal.returns-then-found-depth
returns-then-found-depth c =
    let node = c.index-nodes-index.result in
    let depth : c.from-found.result ≡ node.depth = c.from-found.ensures ∙ ap (λ (n : Node). n.depth) (sym c.index-nodes-index.is) in
    ends_less c.args.depth c.args.nodes.now c.nodes.index node c.nodes-test.true c.index-nodes-index.is (omega arith) c.nodes.invariant

pub returns-then-found-depth-2 : goal.returns-then-found-depth-2
returns-then-found-depth-2 c =
    let node = c.index-nodes-index.result in
    let depth : c.from-found.result ≡ node.depth = c.from-found.ensures ∙ ap (λ (n : Node). n.depth) (sym c.index-nodes-index.is) in
    next_at c.args.depth c.args.nodes.now c.nodes.index node c.nodes-test.true c.index-nodes-index.is (omega arith) c.nodes.invariant

pub nodes-preserved : goal.nodes-preserved
nodes-preserved c =
    let node = c.index-nodes-index.result in
    let depth : c.from-found.result ≡ node.depth = c.from-found.ensures ∙ ap (λ (n : Node). n.depth) (sym c.index-nodes-index.is) in
    skipped_more c.args.depth c.args.nodes.now c.nodes.index node c.nodes-test.true c.index-nodes-index.is (omega arith) c.nodes.invariant

pub returns : goal.returns
returns c = ends_all c.args.depth c.args.nodes.now c.nodes.index c.nodes-test.false c.nodes.invariant
