use Rattle.std.proofs.Common.{◌≡◌, false, take}
use Rattle.std.specs.List.{list_any}
use Rattle.pq_checks.specs.aux.Views.{is_other}
use Rattle.pq_checks.proofs.around.definition_lines.sees_another.Given as goal

abbrev pub invariant-files : goal.invariant-files
invariant-files l = list_any (is_other l.file) (take l.visible-index l.scope.visible) ≡ false
