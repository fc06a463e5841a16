use Rattle.std.proofs.Common.{take}
use Rattle.pq_schema.specs.aux.Inside.{AreShort}
use Rattle.pq_schema.proofs.scope.files.longest_of.Given as goal

abbrev pub invariant-files : goal.invariant-files
invariant-files l = AreShort l.longest (take l.i l.files)
