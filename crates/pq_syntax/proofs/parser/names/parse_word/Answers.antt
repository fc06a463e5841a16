use Rattle.pq_syntax.specs.Rule.Parse.{Leaf}
use Rattle.pq_syntax.specs.Words.{word}
use Rattle.pq_syntax.proofs.parser.names.parse_word.Goals as goal

pub returns-clause-taken : goal.returns-clause-taken
returns-clause-taken c = record {
  parse = Leaf (word c.args.context.text.now c.in_ok-rest.field-0-0);
  takes = c.in_ok-rest.ensures.taken.takes;
  is = c.in_ok-read_name.ensures (Leaf (word c.args.context.text.now c.in_ok-rest.field-0-0)) c.in_ok-rest.ensures.taken.takes.read;
}
