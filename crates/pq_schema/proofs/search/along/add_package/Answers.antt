use Rattle.pq_schema.proofs.PartsAlong.{met_further, covered_further, met_within, covered_still}
use Rattle.pq_schema.proofs.search.along.add_package.Goals as goal

pub returns-then-covered-start-clause-covered : goal.returns-then-covered-start-clause-covered
returns-then-covered-start-clause-covered c =
    let e = c.innermost_start-start.ensures in
    let a = c.in_ok-add_parts.ensures in
    let root = c.args.root.now in
    let entry = c.args.entry.now in
    let old = c.args.parts.now.items in
    let new = c.add_parts.new.parts.items in
    let start = c.innermost_start-start.result in
    covered_further root entry old new c.args.covered start c.requires.covered a.kept e.start e.same e.last
    (met_further root entry old new c.args.covered start c.requires.covered a.kept e.start e.same e.last c.if-covered-start.true a.met)

pub returns-clause-met : goal.returns-clause-met
returns-clause-met c =
    let e = c.innermost_start-start.ensures in
    let a = c.in_ok-add_parts-2.ensures in
    met_within c.args.root.now c.args.entry.now c.args.parts.now.items c.add_parts-2.new.parts.items c.args.covered c.innermost_start-start.result
    c.requires.covered a.kept e.start e.same e.last c.if-covered-start.false a.met

pub returns-clause-covered : goal.returns-clause-covered
returns-clause-covered c =
    covered_still c.args.root.now c.args.parts.now.items c.add_parts-2.new.parts.items c.args.covered c.requires.covered c.in_ok-add_parts-2.ensures.kept
