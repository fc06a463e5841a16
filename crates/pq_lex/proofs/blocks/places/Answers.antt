use Rattle.pq_lex.specs.aux.Blocks.{text_of}
use Rattle.pq_lex.proofs.LineSearch.{bad_first}
use Rattle.pq_lex.proofs.blocks.places.Goals as goal

pub returns-in-None : goal.returns-in-None
returns-in-None c new = bad_first (text_of c.args.blocks.now) c.args.start c.args.end new (c.in-None.ensures {u = tt})
