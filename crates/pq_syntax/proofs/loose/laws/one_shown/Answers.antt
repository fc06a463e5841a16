use Rattle.pq_syntax.proofs.OneShown.{one_list}
use Rattle.pq_syntax.proofs.loose.laws.one_shown.Goals as goal

pub returns : goal.returns
returns c = one_list c.one_lexing.ensures
