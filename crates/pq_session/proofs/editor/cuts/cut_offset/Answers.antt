use Rattle.std.proofs.Common.{Some, None}
use Rattle.pq_lex.proofs.LineSearch.{cut_at}
use Rattle.pq_session.proofs.CutLemmas.{cut_known}
use Rattle.pq_session.proofs.editor.cuts.cut_offset.Goals as goal

pub returns-in-Some-clause-is : goal.returns-in-Some-clause-is
returns-in-Some-clause-is c = cut_known c.args.text.now c.args.position (Some c.in-Some.offset) (c.in-Some.ensures.of_text c.args.text.now c.requires)

pub returns-in-Some-clause-split : goal.returns-in-Some-clause-split
returns-in-Some-clause-split c = cut_at c.args.text.now c.args.position c.in-Some.offset (c.in-Some.ensures.of_text c.args.text.now c.requires)

pub returns-in-None-clause-is : goal.returns-in-None-clause-is
returns-in-None-clause-is c = cut_known c.args.text.now c.args.position None (c.in-None.ensures.of_text c.args.text.now c.requires)
