use Rattle.pq_lex.proofs.CommentEnds.{comment_end, comment_to_end}
use Rattle.pq_lex.proofs.steps.line_comment_end.Goals as goal

pub returns-in-Some : goal.returns-in-Some
returns-in-Some c = comment_end c.args.bytes.now c.args.from c.requires c.in-Some.n c.in-Some.ensures

pub returns-in-None : goal.returns-in-None
returns-in-None c = comment_to_end c.args.bytes.now c.args.from c.requires c.in-None.ensures
