use Rattle.pq_lex.proofs.Places.{places}
use Rattle.pq_lex.proofs.laws.positions_of_lines.Goals as goal

pub returns : goal.returns
returns c = places
