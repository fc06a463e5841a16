use Rattle.pq_lex.proofs.Readings.{whole}
use Rattle.pq_lex.proofs.laws.each_text.Goals as goal

pub returns : goal.returns
returns c = whole
