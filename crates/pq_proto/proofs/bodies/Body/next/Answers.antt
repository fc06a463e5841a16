use Rattle.std.proofs.Common.{◌≡◌, ◌+◌, drop, get_or, length, sym, ap, ◌∙◌, arith}
use Rattle.std.proofs.lemmas.List.{get_or_default}
use Rattle.pq_syntax.specs.declared.tree.Node.{Node}
use Rattle.pq_syntax.proofs.Walk.{item_at}
use Rattle.pq_proto.specs.Bodies.{Body, Holds, body_at}
use Rattle.pq_proto.specs.aux.Rests.{IsNext, Rest, left}
use Rattle.pq_proto.proofs.SizeSteps.{after_within, next_past}
use Rattle.pq_proto.proofs.bodies.Body.next.Goals as goal

pub overflow_add-index-3 : goal.overflow_add-index-3
overflow_add-index-3 c =
    let s = c.self.inside in
    let k = c.in_ok-index.index in
    let next : IsNext s.depth s.nodes.now k = c.in_ok-index.ensures in
    let within = next.within in
    let size = c.self.invariant.1.each k (omega arith) within in
    let ends = after_within s.nodes.now k c.index-self-index.result within c.index-self-index.is in
    let small = c.self.invariant.0 in
    omega arith

pub from-later-requires : goal.from-later-requires
from-later-requires c =
    let s = c.self.inside in
    let k = c.in_ok-index.index in
    let next : IsNext s.depth s.nodes.now k = c.in_ok-index.ensures in
    let within = next.within in
    let size = c.self.invariant.1.each k (omega arith) within in
    let ends = after_within s.nodes.now k c.index-self-index.result within c.index-self-index.is in
    let seen : length s.nodes.now ≡ length c.args.self.now.nodes = ap (λ (r : Rest). length r.nodes) c.self.view_is in
    omega arith

pub returns-clause-body : goal.returns-clause-body
returns-clause-body c =
    let s = c.self.inside in
    let k = c.in_ok-index.index in
    let d = s.depth in
    let e = c.from-depth.result in
    let z = get_or s.sizes.now k 0 in
    let one = c.index-self-index.result in
    let two = c.index-self-index-2.result in
    let next : IsNext d s.nodes.now k = c.in_ok-index.ensures in
    let depth : e ≡ one.depth = c.from-depth.ensures ∙ ap (λ (n : Node). n.depth) (get_or_default s.nodes.now k two one next.within ∙ sym c.index-self-index.is) in
    let size = c.self.invariant.1.each k (omega arith) next.within in
    let inner : body_at (e + 1) (s.number + (k + 1)) (drop (k + 1) s.nodes.now) ≡ left c.from-inside.result =
    ap (λ (r : Rest). body_at (e + 1) (r.number + (k + 1)) (drop (k + 1) r.nodes)) c.self.view_is ∙ sym (ap left c.from-inside.ensures) in
    let later : body_at d (s.number + (k + 1 + z)) (drop (k + 1 + z) s.nodes.now) ≡ left c.from-later.result =
    ap (λ (r : Rest). body_at d (r.number + (k + 1 + z)) (drop (k + 1 + z) r.nodes)) c.self.view_is ∙ sym (ap left c.from-later.ensures) in
    sym (ap left c.self.view_is)
    ∙ next_past d s.number k e z s.nodes.now one next c.index-self-index.is depth size
    ∙ ap (λ (b : Body). Holds (item_at (s.number + k) one) b (body_at d (s.number + (k + 1 + z)) (drop (k + 1 + z) s.nodes.now))) inner
    ∙ ap (λ (n : Node). Holds (item_at (s.number + k) n) (left c.from-inside.result) (body_at d (s.number + (k + 1 + z)) (drop (k + 1 + z) s.nodes.now))) c.index-self-index.is
    ∙ ap (λ (b : Body). Holds (item_at (s.number + k) (get_or s.nodes.now k one)) (left c.from-inside.result) b) (later ∙ sym (ap left c.self-2.view_is))
