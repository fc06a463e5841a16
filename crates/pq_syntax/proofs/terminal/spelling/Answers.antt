use Rattle.std.proofs.Common.{inl, inr}
use Rattle.pq_syntax.proofs.Spelling.{spelled, unspelled}
use Rattle.pq_syntax.proofs.terminal.spelling.Goals as goal
use Rattle.pq_syntax.proofs.terminal.spelling.Goals.{else-span-via-then-span+else-span-bytes, else-span-via-else-span}

pub returns-then-span-bytes : goal.returns-then-span-bytes
returns-then-span-bytes c = spelled _ _ c.args.span c.as_bytes-bytes.ensures.value c.if-span.true c.if-span-bytes.true

pub returns-else-span : goal.returns-else-span
returns-else-span c =
    elim c.else-span.branch [
      | else-span-via-then-span+else-span-bytes w ↦ unspelled _ _ c.args.span c.as_bytes-bytes.ensures.value (inr w.if-span-bytes.false)
      | else-span-via-else-span w ↦ unspelled _ _ c.args.span c.as_bytes-bytes.ensures.value (inl w.if-span.false)
    ]
