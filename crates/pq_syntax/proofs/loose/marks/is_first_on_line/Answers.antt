use Rattle.std.proofs.Common.{sym, ◌∙◌}
use Rattle.pq_syntax.proofs.Blanks.{blank_goes, blank_stops}
use Rattle.pq_syntax.proofs.loose.marks.is_first_on_line.Goals as goal

pub blanks-preserved : goal.blanks-preserved
blanks-preserved c = blank_goes c.args.text.now c.blanks.at (sym c.follows_blank.ensures.is ∙ c.blanks-test.true) ∙ c.blanks.invariant

pub returns : goal.returns
returns c = c.starts_line.ensures ∙ blank_stops c.args.text.now c.blanks.at (sym c.follows_blank.ensures.is ∙ c.blanks-test.false) ∙ c.blanks.invariant
