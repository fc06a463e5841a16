use Rattle.std.proofs.Common.{◌≡◌, ℕ, List, [], ◌∷◌, ◌++◌, length, map, sym, ap, subst, ◌∙◌}
use Rattle.pq_syntax.specs.Places.{places}
use Rattle.pq_syntax.specs.Stacks.{closed}
use Rattle.pq_syntax.proofs.Walk.{walked_none, walked_more, walked_all, item_at}
use Rattle.pq_schema.specs.declared.search.asked.Asked.{Asked}
use Rattle.pq_schema.specs.aux.Asked.{AreAsked}
use Rattle.pq_schema.specs.aux.Inside.{used}
use Rattle.pq_schema.proofs.Answered.{asked_closed, asked_opened, nested_more, nested_none, none_open}
use Rattle.pq_schema.proofs.Inside.{Fits, emit, fit_inner, fit_more, given_found, inner_opened, keep}
use Rattle.pq_schema.proofs.search.walk.find_under.Goals as goal

pub items-init : goal.items-init
items-init c =
    rw (c.new-stack.ensures, c.new-uses.ensures.items) (
      walked_none keep (c.args.outward.root.now, []) (emit c.args.files.now) c.args.nodes.now,
      tt,
      c.requires.near,
      nested_none c.args.outward.root.now,
      subst (λ (xs : List Asked). AreAsked c.args.files.now [] xs) (sym c.new-asked.ensures.items) (none_open c.args.files.now),
    )

pub refer-requires : goal.refer-requires
refer-requires c =
    let root = c.args.outward.root.now in
    let node = c.index-nodes-item.result in
    let inner = inner_opened root c.args.root.now c.items.stack c.close_to.new.self node.depth c.innermost-outer.result.now c.requires.root c.close_to.ensures c.innermost-outer.ensures in
    record {
      walk = record {
        outward = c.requires.outward;
        inner = subst (Fits root) (sym (c.get-scope.ensures.value ∙ inner)) (fit_inner root c.items.stack node.depth c.items.invariant.1);
        near = c.items.invariant.2;
        asked = subst (λ (s : List ℕ × List (List ℕ)). AreAsked c.args.files.now s.1 c.truncate.new.self.items) (sym c.get-scope.ensures.value)
            (asked_closed c.args.files.now root c.items.stack node.depth c.innermost-outer.result.now c.items.walk.asked.items c.truncate.new.self.items c.depth.result
            inner (c.depth.ensures.depth ∙ ap (λ (s : List ℕ × List (List ℕ)). length s.1) c.get-scope.ensures.value) c.truncate.ensures.items c.items.invariant.3 c.items.invariant.4);
      };
    }

pub items-preserved : goal.items-preserved
items-preserved c =
    let root = c.args.outward.root.now in
    let node = c.index-nodes-item.result in
    let scope = c.innermost-outer.result.now in
    let inner = inner_opened root c.args.root.now c.items.stack c.close_to.new.self node.depth scope c.requires.root c.close_to.ensures c.innermost-outer.ensures in
    let fits = subst (Fits root) (sym inner) (fit_inner root c.items.stack node.depth c.items.invariant.1) in
    let asked = subst (λ (s : List ℕ × List (List ℕ)). AreAsked c.args.files.now s.1 c.refer.new.self.asked.items) c.get-scope.ensures.value c.in_ok-refer.ensures.walk.asked in
    let range = c.packages_in-packages.ensures.packages c.args.files.now root scope c.packages_in-outermost.ensures.range fits
    (subst (λ (xs : List Asked). AreAsked c.args.files.now scope.1 xs) (sym c.deref.ensures.value) asked) in
    let opened : c.open.new.self ≡ (node.depth, keep (item_at c.items.item node) scope) ∷ closed node.depth c.items.stack =
    c.in_ok-open.ensures.opened ∙ ap (λ (s : List ℕ × List (List ℕ)). (node.depth, s) ∷ c.close_to.new.self) c.in_ok-inside.ensures
    ∙ ap (λ (es : List (ℕ × (List ℕ × List (List ℕ)))). (node.depth, keep (item_at c.items.item node) scope) ∷ es) c.close_to.ensures in (
      walked_more keep (root, []) (emit c.args.files.now) c.args.nodes.now c.items.stack c.open.new.self c.items.item (map used c.items.walk.uses.items) (map used c.refer.new.self.uses.items) node scope
          c.items-test.true c.index-nodes-item.is inner opened
          (c.in_ok-refer.ensures.found ∙ ap (λ (s : List ℕ × List (List ℕ)). map used c.items.walk.uses.items ++ emit c.args.files.now s (item_at c.items.item node)) c.get-scope.ensures.value)
          c.items.invariant.0,
      fit_more root c.items.stack c.open.new.self node.depth (item_at c.items.item node) scope opened fits c.items.invariant.1,
      c.in_ok-refer.ensures.walk.near,
      nested_more root node.depth c.items.stack c.open.new.self (item_at c.items.item node) scope inner opened c.items.invariant.3,
      asked_opened c.args.files.now root node.depth (item_at c.items.item node) scope c.open.new.self (closed node.depth c.items.stack) c.refer.new.self.asked.items c.open_scopes.new.asked.items
          c.depth-in-items.result c.packages_in-packages.result
          opened (c.depth-in-items.ensures.depth ∙ ap (λ (s : List ℕ × List (List ℕ)). length s.1) (c.get.ensures.value ∙ c.in_ok-inside.ensures)) range c.in_ok-open_scopes.ensures.asked asked,
    )

pub returns : goal.returns
returns c =
    let root = c.args.outward.root.now in
    record {
      found = walked_all keep (root, []) (emit c.args.files.now) c.args.nodes.now c.items.stack c.items.item (map used c.items.walk.uses.items) c.items-test.false c.items.invariant.0
          ∙ given_found c.args.files.now root (places c.args.nodes.now);
    }
