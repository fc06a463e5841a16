use Rattle.pq_syntax.proofs.OneShown.{each_list}
use Rattle.pq_syntax.proofs.loose.laws.each_shown.Goals as goal

pub returns : goal.returns
returns c = each_list c.each_text.ensures c.tokens_in_order.ensures.fault
