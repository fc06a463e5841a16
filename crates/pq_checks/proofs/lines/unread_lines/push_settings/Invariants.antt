use Rattle.std.proofs.Common.{◌≡◌, ◌++◌, drop}
use Rattle.std.specs.List.{enumerate_from}
use Rattle.std.specs.Prelude.{flat_map}
use Rattle.pq_checks.specs.aux.Seen.{setting_faults}
use Rattle.pq_checks.proofs.lines.unread_lines.push_settings.Given as goal

abbrev pub invariant-settings : goal.invariant-settings
invariant-settings l =
    l.faults.items ++ flat_map (setting_faults l.item) (drop l.nth (enumerate_from 0 l.settings))
    ≡ l.fn.faults.items ++ flat_map (setting_faults l.item) (enumerate_from 0 l.settings)
