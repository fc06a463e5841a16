use Rattle.std.proofs.Common.{◌<◌, true, false, length, take, sym, ◌∙◌, arith, rules}
use Rattle.std.proofs.lemmas.List.{get_or-set_same}
use Rattle.std.proofs.lemmas.Slice.Eq.{bytes_eq-Decides}
use Rattle.pq_schema.proofs.Marks.{no_scope, one_scope}
use Rattle.pq_schema.proofs.search.spots.mark.Goals as goal

pub returns-in-None-clause-marked : goal.returns-in-None-clause-marked
returns-in-None-clause-marked c =
    no_scope c.args.marks.now c.args.root.now c.args.name.now c.scope-scope.result c.count_within.result
    c.scope-scope.ensures.dotted c.scope-scope.ensures.plain c.count_within.ensures.count c.in-None.is

pub returns-then-not-marks-count-clause-marked : goal.returns-then-not-marks-count-clause-marked
returns-then-not-marks-count-clause-marked c =
    let within : c.in-Some.count < length c.args.marks.now = omega (arith, c.in-Some.ensures.within, c.requires) in
    one_scope c.args.marks.now _ c.args.root.now c.args.name.now c.scope-scope.result 0 c.in-Some.count true
    c.scope-scope.ensures.dotted c.scope-scope.ensures.plain c.in-Some.ensures.count c.requires
    (λ front. get_or-set_same c.args.marks.now c.in-Some.count c.is.result false within ∙ c.is.ensures.is
    ∙ (bytes_eq-Decides c.scope-scope.result (take c.in-Some.count c.args.root.now)).1 (sym front))

pub returns-else-not-marks-count-clause-marked : goal.returns-else-not-marks-count-clause-marked
returns-else-not-marks-count-clause-marked c =
    one_scope c.args.marks.now c.args.marks.now c.args.root.now c.args.name.now c.scope-scope.result 0 c.in-Some.count true
    c.scope-scope.ensures.dotted c.scope-scope.ensures.plain c.in-Some.ensures.count c.requires
    (λ front. search rules)
