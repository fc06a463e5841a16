use Rattle.std.proofs.Common.{arith}
use Rattle.pq_lex.proofs.escapes.escape_at.Goals as goal

pub short_escape-requires : goal.short_escape-requires
short_escape-requires c = record { near = omega arith }
