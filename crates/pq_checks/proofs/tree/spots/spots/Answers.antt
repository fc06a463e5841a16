use Rattle.std.proofs.Common.{◌≡◌, ℕ, List, ◌∷◌, ◌++◌, map, unwrap_or, ap, ◌∙◌}
use Rattle.std.proofs.lemmas.List.{map-append}
use Rattle.pq_syntax.specs.Places.{places}
use Rattle.pq_syntax.specs.Stacks.{closed, innermost}
use Rattle.pq_syntax.proofs.Walk.{walked_none, walked_more, walked_all, inner_at, item_at}
use Rattle.pq_checks.specs.aux.Spots.{outside, sited_by}
use Rattle.pq_checks.specs.declared.tree.spots.Around.{Around}
use Rattle.pq_checks.proofs.Spotting.{keep, emit, given_seen}
use Rattle.pq_checks.proofs.tree.spots.spots.Goals as goal

pub items-init : goal.items-init
items-init c =
    rw (c.new-stack.ensures, c.in_ok-spots.ensures.items) (walked_none keep outside emit c.args.nodes.now)

pub items-preserved : goal.items-preserved
items-preserved c =
    let node = c.index-nodes-item.result in
    let around = c.innermost-around.result in
    let shut : c.close_to.new.self ≡ closed node.depth c.items.stack = c.close_to.ensures in
    let inner : around ≡ inner_at outside c.items.stack node.depth =
    c.innermost-around.ensures ∙ ap (λ (es : List (ℕ × Around)). unwrap_or (innermost es) outside) shut in
    let opens : c.open.new.self ≡ (node.depth, keep (item_at c.items.item node) around) ∷ closed node.depth c.items.stack =
    c.in_ok-open.ensures.opened ∙ ap (λ (a : Around). (node.depth, a) ∷ c.close_to.new.self) c.opened-inside.ensures
    ∙ ap (λ (es : List (ℕ × Around)). (node.depth, keep (item_at c.items.item node) around) ∷ es) shut in
    let more : map sited_by c.push.new.self.items ≡ map sited_by c.items.spots.items ++ emit around (item_at c.items.item node) =
    ap (map sited_by) c.in_ok-push.ensures.items ∙ map-append sited_by c.items.spots.items _ in
    walked_more keep outside emit c.args.nodes.now c.items.stack c.open.new.self c.items.item (map sited_by c.items.spots.items) (map sited_by c.push.new.self.items) node around
    c.items-test.true c.index-nodes-item.is inner opens more c.items.invariant

pub returns : goal.returns
returns c = record {
  spots = walked_all keep outside emit c.args.nodes.now c.items.stack c.items.item (map sited_by c.items.spots.items) c.items-test.false c.items.invariant
      ∙ given_seen (places c.args.nodes.now);
}
