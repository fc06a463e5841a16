use Rattle.std.proofs.Common.{refl}
use Rattle.pq_syntax.proofs.Taken.{across_some}
use Rattle.pq_syntax.proofs.parser.texts.across.Goals as goal

pub returns : goal.returns
returns c = λ text ws e. across_some text _ _ ws _ _ refl c.if-tokens-rest.false e
