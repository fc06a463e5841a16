use Rattle.std.proofs.Common.{◌≡◌, ◌++◌, drop}
use Rattle.pq_syntax.specs.Parts.{behind_spaces, spaced}
use Rattle.pq_syntax.specs.Words.{words}
use Rattle.pq_syntax.proofs.parser.texts.spaced.Given as goal

abbrev pub invariant-loop-token : goal.invariant-loop-token
invariant-loop-token l = l.bytes.items ++ behind_spaces (words l.text (drop l.token-index l.token-items)) ≡ spaced (words l.text l.tokens)
