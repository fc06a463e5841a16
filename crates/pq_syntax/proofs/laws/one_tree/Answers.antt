use Rattle.pq_syntax.proofs.Meaning.{one_tree}
use Rattle.pq_syntax.proofs.laws.one_tree.Goals as goal

pub returns : goal.returns
returns c = λ text nodes others. one_tree c.one_lexing.ensures c.each_text.ensures text nodes others
