use Rattle.std.proofs.Common.{◌≡◌, ℕ, List, ◌∷◌, unwrap_or, ap, ◌∙◌}
use Rattle.pq_syntax.specs.Stacks.{closed, innermost}
use Rattle.pq_schema.proofs.NumberedNames.{walk_all, walk_more, walk_none}
use Rattle.pq_schema.proofs.define.copies.copies_in.Goals as goal

pub items-init : goal.items-init
items-init c = λ root. walk_none root c.args.nodes.now _ _ c.new-stack.ensures c.in_ok-numbering.ensures.none.0 c.in_ok-numbering.ensures.none.1

pub items-preserved : goal.items-preserved
items-preserved c =
    let node = c.index-nodes-item.result in
    let shut : c.close_to.new.self ≡ closed node.depth c.items.stack = c.close_to.ensures in
    λ root. walk_more root c.args.nodes.now c.items.stack c.open.new.self c.items.item c.items.numbering c.add_all.new.self node c.innermost-scope.result.now c.in_ok-inside.inside
    c.items-test.true c.index-nodes-item.is
    (c.innermost-scope.ensures ∙ ap (λ (es : List (ℕ × ℕ)). unwrap_or (innermost es) 0) shut)
    (c.in_ok-open.ensures.opened ∙ ap (λ (es : List (ℕ × ℕ)). (node.depth, c.in_ok-inside.inside) ∷ es) shut)
    c.in_ok-inside.ensures.added (c.items.invariant root)

pub returns : goal.returns
returns c = record { copies = λ root. walk_all root c.args.nodes.now c.items.stack c.items.item c.items.numbering c.items-test.false (c.items.invariant root) }
