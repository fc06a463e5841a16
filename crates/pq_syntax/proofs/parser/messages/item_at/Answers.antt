use Rattle.pq_syntax.proofs.MessageItems.{other}
use Rattle.pq_syntax.proofs.parser.messages.item_at.Goals as goal

pub returns-then-looks_at_message : goal.returns-then-looks_at_message
returns-then-looks_at_message c = c.looks_at_message.ensures.yes c.if-looks_at_message.true

pub returns-in-Some : goal.returns-in-Some
returns-in-Some c = (c.looks_at_message.ensures.no c.if-looks_at_message.false, c.in-Some.ensures)

pub returns-in-None : goal.returns-in-None
returns-in-None c =
    (other c.args.context.text.now c.args.context.brackets c.args.tokens.now c.args.levels (c.looks_at_message.ensures.no c.if-looks_at_message.false)).ends
    c.in-None.ensures
