use Rattle.std.proofs.Common.{◌≡◌, sym, ◌∙◌}
use Rattle.std.proofs.lemmas.List.Kept.{IsStrictlySortedBy-dedup, Contains-dedup, Contains-from_dedup}
use Rattle.std.proofs.lemmas.List.Sorted.{Contains-permutation, IsPermutation-sym}
use Rattle.std.proofs.lemmas.List.Filters.{dedup_is}
use Rattle.std.proofs.lemmas.Map.Views.{tells_apart}
use Rattle.std.specs.List.{dedup}
use Rattle.pq_checks.specs.InOrder.{in_order}
use Rattle.pq_checks.proofs.OneOrder.{one_order, sorted-in_order, kept-in_order, from-in_order}
use Rattle.pq_checks.proofs.queries.order.put_in_order.Goals as goal

pub returns : goal.returns
returns g c =
    let o = g.met.T.Ord.total in
    let R = g.T.Ord.cmp in
    let E = g.T.PartialEq.eq in
    let xs = c.args.items.now.items in
    let zs = c.sort.new.self.items in
    let exact = c.requires.exact in
    let moved = c.in_ok-sort.ensures.permutation in
    let is : c.dedup.new.self.items ≡ dedup E zs = dedup_is E zs c.dedup.new.self.items c.dedup.ensures.filtered in
    let ties = g.met.T.Ord.matches_eq in
    record {
      ordered = is ∙ one_order o exact (dedup E zs) (in_order R xs)
          (IsStrictlySortedBy-dedup o ties zs c.in_ok-sort.ensures.sorted)
          (sorted-in_order o xs)
          (λ x h. kept-in_order o exact xs x (Contains-permutation zs xs x (IsPermutation-sym xs zs moved) (Contains-from_dedup E zs x h)))
          (λ x h. Contains-dedup g.met.T.Eq.laws (λ a b e. tells_apart exact a b (sym (ties a b) ∙ e)) zs x (Contains-permutation xs zs x moved (from-in_order o exact xs x h)));
    }
