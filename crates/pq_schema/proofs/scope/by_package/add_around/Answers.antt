use Rattle.std.proofs.Common.{◌≡◌, ℕ, List, [], ◌∷◌, ◌++◌, get_or, true≢false, refl, sym, ap, subst, ◌∙◌}
use Rattle.std.proofs.lemmas.List.{get_or_default}
use Rattle.pq_rules.specs.Relations.{In}
use Rattle.pq_rules.specs.aux.Lists.{in_append_left}
use Rattle.pq_schema.proofs.Around.{placed_all, placed_more, placed_past}
use Rattle.pq_schema.proofs.scope.by_package.add_around.Goals as goal

pub entries-preserved-then-not-is_around : goal.entries-preserved-then-not-is_around
entries-preserved-then-not-is_around c =
    let packages = c.args.packages.now in
    let scope = c.args.scope.now in
    let n = c.entries.at in
    let is : c.as_str.result.now ≡ (get_or packages n ([], 0)).0 =
    c.as_str.ensures.same
    ∙ ap (λ (x : List ℕ × ℕ). x.0) (get_or_default packages n c.index-packages-at.result ([], 0) c.entries-test.true) in
    record {
      kept = c.entries.invariant.kept;
      placed = placed_past packages scope c.entries.near.items n
          (λ root k among at. true≢false (sym (c.if-not-is_around.ensures.all root (is ∙ ap (λ (x : List ℕ × ℕ). x.0) at)
          among)))
          c.entries.invariant.placed;
    }

pub entries-preserved : goal.entries-preserved
entries-preserved c =
    let packages = c.args.packages.now in
    let n = c.entries.at in
    let old = c.entries.near.items in
    let e = get_or packages n ([], 0) in
    let added : c.push.new.self.items ≡ old ++ e.1 ∷ [] =
    c.in_ok-push.ensures.items ∙ ap (λ (x : List ℕ × ℕ). old ++ x.1 ∷ []) (get_or_default packages n _ ([], 0) c.entries-test.true) in
    record {
      kept = λ k there. subst (λ (ks : List ℕ). In k ks) (sym added) (in_append_left k old (e.1 ∷ []) (c.entries.invariant.kept k there));
      placed = placed_more packages c.args.scope.now old c.push.new.self.items n e refl added c.entries.invariant.placed;
    }

pub returns-clause-places : goal.returns-clause-places
returns-clause-places c = placed_all c.args.packages.now c.args.scope.now c.entries.near.items c.entries.at c.entries-test.false c.entries.invariant.placed
