use Rattle.std.proofs.Common.{◌≡◌, drop}
use Rattle.pq_schema.specs.aux.Digests.{digest_from}
use Rattle.pq_schema.proofs.define.digests.digest_of.Given as goal

-- the number so far, with the definitions that are left after it, is that of all
abbrev pub invariant-definitions : goal.invariant-definitions
invariant-definitions l = digest_from l.digest (drop l.i l.definitions) ≡ digest_from 0 l.definitions
