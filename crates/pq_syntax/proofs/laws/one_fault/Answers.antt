use Rattle.pq_syntax.proofs.Meaning.{one_fault, no_fault}
use Rattle.pq_syntax.proofs.laws.one_fault.Goals as goal

pub returns-clause-one : goal.returns-clause-one
returns-clause-one c = λ text span other code another. one_fault c.one_lexing.ensures c.each_text.ensures text span other code another

pub returns-clause-none : goal.returns-clause-none
returns-clause-none c = λ text nodes span code. no_fault c.one_lexing.ensures c.each_text.ensures text nodes span code
