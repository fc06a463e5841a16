use Rattle.std.proofs.Common.{◌≡◌, ℕ, List, ◌∷◌, unwrap_or, ap, ◌∙◌}
use Rattle.pq_syntax.specs.Places.{Item}
use Rattle.pq_syntax.specs.Stacks.{closed, innermost}
use Rattle.pq_syntax.proofs.Walk.{walked_none, walked_more, walked_all, inner_at, item_at}
use Rattle.pq_schema.specs.declared.search.references.Reference.{Reference}
use Rattle.pq_schema.specs.Definitions.{scope_of}
use Rattle.pq_schema.specs.References.{references_by}
use Rattle.pq_schema.proofs.search.references.references_under.Goals as goal

abbrev keep : Item → List ℕ → List ℕ
keep i outer = scope_of i.node.statement outer

abbrev emit : List ℕ → Item → List Reference
emit scope i = references_by scope i.number i.node.statement

pub items-init : goal.items-init
items-init c =
    rw (c.new-stack.ensures, c.new-references.ensures.items) (walked_none keep c.args.root.now emit c.args.nodes.now)

pub items-preserved : goal.items-preserved
items-preserved c =
    let node = c.index-nodes-item.result in
    let shut : c.close_to.new.self ≡ closed node.depth c.items.stack = c.close_to.ensures in
    let inner : c.innermost-scope.result.now ≡ inner_at c.args.root.now c.items.stack node.depth =
    c.innermost-scope.ensures ∙ ap (λ (es : List (ℕ × List ℕ)). unwrap_or (innermost es) c.args.root.now) shut in
    let opened : c.open.new.self ≡ (node.depth, keep (item_at c.items.item node) c.innermost-scope.result.now) ∷ closed node.depth c.items.stack =
    c.in_ok-open.ensures.opened ∙ ap (λ (s : List ℕ). (node.depth, s) ∷ c.close_to.new.self) c.in_ok-inside.ensures
    ∙ ap (λ (es : List (ℕ × List ℕ)). (node.depth, keep (item_at c.items.item node) c.innermost-scope.result.now) ∷ es) shut in
    walked_more keep c.args.root.now emit c.args.nodes.now c.items.stack c.open.new.self c.items.item c.items.references.items c.refer.new.out.items node c.innermost-scope.result.now
    c.items-test.true c.index-nodes-item.is inner opened c.in_ok-refer.ensures c.items.invariant

pub returns : goal.returns
returns c = walked_all keep c.args.root.now emit c.args.nodes.now c.items.stack c.items.item c.items.references.items c.items-test.false c.items.invariant
