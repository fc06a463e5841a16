use Rattle.std.proofs.Common.{◌≡◌, ◌++◌, drop, map}
use Rattle.pq_proto.specs.aux.RuleSet.{own_name}
use Rattle.pq_proto.proofs.rules.reads.files_of.Given as goal

abbrev pub invariant-keys : goal.invariant-keys
invariant-keys l = l.files.items ++ map own_name (drop l.key-index l.keys) ≡ map own_name l.keys
