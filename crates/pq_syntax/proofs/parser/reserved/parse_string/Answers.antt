use Rattle.pq_syntax.proofs.Reserving.{string_reads}
use Rattle.pq_syntax.proofs.parser.reserved.parse_string.Goals as goal

pub returns-clause-taken : goal.returns-clause-taken
returns-clause-taken c = string_reads c.in_ok-rest.ensures.taken c.in_ok-read_strings.ensures
