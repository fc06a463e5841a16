use Rattle.std.proofs.Common.{sym, subst}
use Rattle.pq_schema.specs.Contents.{Defs}
use Rattle.pq_schema.specs.aux.Fronts.{AreAlike, BeginAlike}
use Rattle.pq_schema.proofs.Alike.{index_alike}
use Rattle.pq_schema.proofs.define.definitions.Defs.find_alike.Goals as goal

pub first_named-requires-clause-alike : goal.first_named-requires-clause-alike
first_named-requires-clause-alike c =
    let own = c.self.inside in
    let name = c.args.name.now in
    let alike : BeginAlike c.args.count name own.definitions.items =
    subst (λ (d : Defs). BeginAlike c.args.count name d.definitions) (sym c.self.view_is) c.requires.alike in
    subst (AreAlike c.args.count name) (sym c.deref.ensures.value)
    (index_alike c.args.count name own.index.items own.definitions.items c.self.invariant.2 alike)
