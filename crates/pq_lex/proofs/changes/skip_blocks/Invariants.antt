use Rattle.std.proofs.Common.{◌≡◌, ◌+◌, ◌-◌, ◌≤◌, length}
use Rattle.pq_lex.specs.Lines.{line_number}
use Rattle.pq_lex.proofs.changes.skip_blocks.Given as goal

abbrev pub invariant-blocks-2 : goal.invariant-blocks-2
invariant-blocks-2 l = record {
  within : l.at ≤ length l.bytes;
  number : line_number l.bytes l.at + l.left ≡ line_number l.bytes l.from + l.count;
  same : l.left ≡ 0 → l.at ≡ l.from;
}

abbrev pub decreases-blocks-2 : goal.decreases-blocks-2
decreases-blocks-2 l = length l.bytes - l.at
