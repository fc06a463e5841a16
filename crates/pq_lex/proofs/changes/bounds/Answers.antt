use Rattle.pq_lex.proofs.LineSearch.{bad_first, first_found}
use Rattle.pq_lex.proofs.changes.bounds.Goals as goal

pub line_from-requires : goal.line_from-requires
line_from-requires c = first_found c.args.bytes.now

pub returns-in-None : goal.returns-in-None
returns-in-None c new = bad_first c.args.bytes.now c.args.start c.args.end new (c.in-None.ensures {u = tt})
