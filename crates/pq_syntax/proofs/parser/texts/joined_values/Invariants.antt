use Rattle.std.proofs.Common.{◌≡◌, ◌++◌, drop}
use Rattle.pq_syntax.specs.Parts.{values}
use Rattle.pq_syntax.specs.Words.{words}
use Rattle.pq_syntax.proofs.parser.texts.joined_values.Given as goal

abbrev pub invariant-loop-token : goal.invariant-loop-token
invariant-loop-token l = l.bytes.items ++ values (words l.text (drop l.token-index l.tokens)) ≡ values (words l.text l.tokens)
