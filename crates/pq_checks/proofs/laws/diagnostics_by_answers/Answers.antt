use Rattle.pq_checks.proofs.DiagnosticsGiven.{diagnostics_given}
use Rattle.pq_checks.proofs.laws.diagnostics_by_answers.Goals as goal

pub returns : goal.returns
returns g c = record { gives = diagnostics_given g.S.CheckKeys.checks g.S.LinkKeys.parse g.S.CheckKeys.checked g.S.LinkKeys.parsed }
