use Rattle.std.proofs.Common.{◌≡◌, ◌++◌, map, take}
use Rattle.pq_checks.specs.aux.Seen.{name_seen}
use Rattle.pq_checks.specs.Members.{reserved_name}
use Rattle.pq_checks.proofs.tree.members.push_names.Given as goal

abbrev pub invariant-each : goal.invariant-each
invariant-each l = map name_seen l.names.items ≡ map name_seen l.fn.names.items ++ map (reserved_name l.owner) (take l.value-index l.values)
