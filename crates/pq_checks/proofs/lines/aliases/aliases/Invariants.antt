use Rattle.std.proofs.Common.{◌≡◌, map, drop, ℕ}
use Rattle.std.specs.Prelude.{Option}
use Rattle.pq_checks.specs.Faults.{last_alias, allows_alias}
use Rattle.pq_checks.specs.aux.Seen.{allowed, opted_seen}
use Rattle.pq_checks.proofs.lines.aliases.aliases.Given as goal

abbrev pub invariant-each : goal.invariant-each
invariant-each l = (e : Option ℕ) → last_alias (allowed l.aliases e) (map opted_seen (drop l.option-index l.options)) e ≡ allows_alias (map opted_seen l.options) e
