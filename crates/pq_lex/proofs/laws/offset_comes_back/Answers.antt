use Rattle.pq_lex.proofs.ComingBack.{comes_back}
use Rattle.pq_lex.proofs.laws.offset_comes_back.Goals as goal

pub returns : goal.returns
returns c text offset answer within start ahead = comes_back text offset within start ahead answer
