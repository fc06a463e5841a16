use Rattle.std.proofs.Common.{◌≡◌, ℕ, List, [], get_or, ap, ◌∙◌, arith}
use Rattle.std.proofs.lemmas.List.{get_or_default}
use Rattle.pq_schema.proofs.PartsAlong.{all_meet_more, all_meet_sorted, met_next, met_sorted}
use Rattle.pq_schema.proofs.search.along.parts_along.Goals as goal

pub packages-preserved : goal.packages-preserved
packages-preserved c =
    let packages = c.args.packages.now in
    let root = c.args.root.now in
    let n = c.packages.at in
    let item = c.index-packages-at.result in
    let entry = c.as_bytes-entry.result.now in
    let old = c.packages.parts.items in
    let new = c.add_package.new.parts.items in
    let a = c.in_ok-covered.ensures in
    let is : entry ≡ (get_or packages n ([], 0)).0 =
    c.as_bytes-entry.ensures.value ∙ c.as_str.ensures.same
    ∙ ap (λ (x : List ℕ × ℕ). x.0) (get_or_default packages n item ([], 0) c.packages-test.true) in
    record {
      covered = a.covered;
      meet = all_meet_more packages old new root entry n c.packages-test.true is a.meet c.packages.invariant.meet;
      met = met_next packages old new root entry n is a.kept a.met c.packages.invariant.met;
    }

pub returns-clause-meet : goal.returns-clause-meet
returns-clause-meet c =
    all_meet_sorted c.packages.parts.items c.sort.new.self.items c.args.packages.now c.args.root.now c.in_ok-sort.ensures.permutation c.packages.invariant.meet

pub returns-clause-met : goal.returns-clause-met
returns-clause-met c = λ k within.
    let past = c.packages-test.false in
    met_sorted c.packages.parts.items c.sort.new.self.items c.args.root.now (get_or c.args.packages.now k ([], 0)).0
    c.in_ok-sort.ensures.permutation (c.packages.invariant.met k (omega arith))
