use Rattle.std.proofs.Common.{sym, ◌∙◌}
use Rattle.std.proofs.lemmas.Str.{IsCharBoundary-start}
use Rattle.pq_syntax.proofs.LexedOn.{left_all, left_goes, left_ends}
use Rattle.pq_syntax.proofs.loose.going_on.lex_on.Goals as goal

pub parts-init : goal.parts-init
parts-init c = record {
  boundary = IsCharBoundary-start c.args.text.now c.utf8.text;
  left = rw c.new-tokens.ensures.items (left_all c.args.text.now);
}

pub parts-preserved : goal.parts-preserved
parts-preserved c =
    let after = rw c.in-Some.is at c.in_ok-next.ensures.after in
    record {
      boundary = after.1;
      left = left_goes c.args.text.now c.parts.from c.in-Some.next c.parts.tokens.items c.lex_part.new.tokens.items c.in_ok-next.ensures.added (sym c.in-Some.is ∙ c.in_ok-next.ensures.next) after.0 after.1.0 c.parts.invariant.left;
    }

pub returns-in-None : goal.returns-in-None
returns-in-None c = left_ends c.args.text.now c.parts.from c.parts.tokens.items c.lex_part.new.tokens.items c.in_ok-next.ensures.added (sym c.in-None.is ∙ c.in_ok-next.ensures.next) c.parts.invariant.boundary.0 c.parts.invariant.left
