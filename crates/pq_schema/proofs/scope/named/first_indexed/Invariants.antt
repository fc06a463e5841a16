use Rattle.pq_schema.proofs.NearNames.{Asked}
use Rattle.pq_schema.proofs.scope.named.first_indexed.Given as goal

-- the entries of the code so far are of files that do not define the name
abbrev pub invariant-entries : goal.invariant-entries
invariant-entries l = Asked l.names l.files l.name l.first l.at
