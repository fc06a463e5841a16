use Rattle.pq_checks.proofs.ByAnswers.{checks_given}
use Rattle.pq_checks.proofs.laws.checks_by_answers.Goals as goal

pub returns : goal.returns
returns g c = record {
  gives = checks_given (record {
    items = g.S.LinkKeys.items;
    imports = g.S.LinkKeys.imports;
    linked = g.S.LinkKeys.linked;
    defs = g.S.SchemaKeys.defs;
    scope = g.S.SchemaKeys.scope;
    resolved = g.S.CheckKeys.resolved;
    itemed = g.S.LinkKeys.itemed;
    imported = g.S.LinkKeys.imported;
    ring = g.S.CheckKeys.ring;
    defined = g.S.SchemaKeys.defined;
    scoped = g.S.SchemaKeys.scoped;
    referred = g.S.CheckKeys.referred;
  });
}
