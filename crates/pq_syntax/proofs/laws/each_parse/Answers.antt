use Rattle.pq_syntax.proofs.Meaning.{parsed_stands}
use Rattle.pq_syntax.proofs.laws.each_parse.Goals as goal

pub returns : goal.returns
returns c = parsed_stands c.each_text.ensures
