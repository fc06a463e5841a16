use Rattle.std.proofs.Common.{◌≡◌, ◌++◌, drop}
use Rattle.pq_syntax.specs.Parts.{joined}
use Rattle.pq_syntax.specs.Words.{words}
use Rattle.pq_syntax.proofs.parser.texts.joined.Given as goal

abbrev pub invariant-loop-token : goal.invariant-loop-token
invariant-loop-token l = l.bytes.items ++ joined (words l.text (drop l.token-index l.tokens)) ≡ joined (words l.text l.tokens)
