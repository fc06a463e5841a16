use Rattle.std.proofs.Common.{sym, ap, ◌∙◌, subst, List}
use Rattle.std.proofs.lemmas.Result.{IfOk-weaker}
use Rattle.std.proofs.lemmas.List.Sorted.{list_any-IsPermutation}
use Rattle.pq_checks.specs.aux.Cover.{is_covered, is_within, raised, Climbs}
use Rattle.pq_checks.proofs.Covering.{raised_covers, raised_climbs, ascends_sorted}
use Rattle.pq_checks.proofs.lines.cover.stairs.Goals as goal

pub returns-clause-climbs : goal.returns-clause-climbs
returns-clause-climbs g c =
    let R = g.T.Ord.cmp in
    let o = g.met.T.Ord.total in
    let zs = c.sort.new.self.items in
    let e = c.as_slice.ensures.value in
    IfOk-weaker c.raised.result _ _ (λ rs is. subst (λ (xs : List (g.row.T.Denot × g.row.T.Denot)). Climbs R xs) (sym (is ∙ ap (raised R) e)) (raised_climbs o zs (ascends_sorted o zs c.in_ok-sort.ensures.sorted))) c.raised.ensures.raised

pub returns-clause-same : goal.returns-clause-same
returns-clause-same g c =
    let R = g.T.Ord.cmp in
    let o = g.met.T.Ord.total in
    let zs = c.sort.new.self.items in
    let e = c.as_slice.ensures.value in
    IfOk-weaker c.raised.result _ _ (λ rs is x.
    ap (λ ys. is_covered R ys x) (is ∙ ap (raised R) e) ∙ raised_covers o zs x (ascends_sorted o zs c.in_ok-sort.ensures.sorted)
    ∙ sym (list_any-IsPermutation (is_within R x) c.args.ranges.items zs c.in_ok-sort.ensures.permutation)) c.raised.ensures.raised
