use Rattle.std.proofs.Common.{◌≡◌, List, ◌++◌, [], map, take, drop}
use Rattle.std.specs.Option.{option_copied}
use Rattle.pq_checks.specs.Earlier.{of_each_after}
use Rattle.pq_checks.specs.Faults.{import_faults}
use Rattle.pq_checks.specs.aux.Imports.{IsStateMap, by_imports}
use Rattle.pq_checks.specs.aux.Seen.{import_seen}
use Rattle.pq_checks.specs.aux.Sets.{Has, is_import}
use Rattle.pq_checks.specs.aux.Views.{lent_cmp}
use Rattle.pq_checks.specs.declared.around.surroundings.Imported.{Imported}
use Rattle.pq_checks.proofs.around.import_lines.push_each.Given as goal

abbrev pub invariant-imports : goal.invariant-imports
invariant-imports l = record {
  said : (imported : List Imported) → IsStateMap l.states imported
      → l.faults.items ++ of_each_after (import_faults (by_imports imported (option_copied l.ring) (option_copied l.next))) (take l.i (map import_seen l.imports)) (drop l.i (map import_seen l.imports))
      ≡ l.fn.faults.items ++ of_each_after (import_faults (by_imports imported (option_copied l.ring) (option_copied l.next))) [] (map import_seen l.imports);
  listed : Has lent_cmp is_import l.seen (take l.i (map import_seen l.imports));
}
