use Rattle.std.proofs.Common.{◌≡◌, List, [], ◌++◌, map, ap, ◌∙◌}
use Rattle.std.proofs.lemmas.Result.{IfOk-weaker}
use Rattle.std.specs.Option.{option_copied}
use Rattle.pq_checks.specs.Earlier.{of_each_after}
use Rattle.pq_checks.specs.Faults.{import_faults}
use Rattle.pq_checks.specs.Members as members
use Rattle.pq_checks.specs.Members.{imports}
use Rattle.pq_checks.specs.aux.Imports.{by_imports}
use Rattle.pq_checks.specs.aux.Seen.{import_seen}
use Rattle.pq_checks.specs.aux.Spots.{sited_in}
use Rattle.pq_checks.specs.declared.tree.members.ImportName.{ImportName}
use Rattle.pq_checks.proofs.around.import_lines.push_import_faults.Goals as goal

pub returns : goal.returns
returns c =
    let s = by_imports c.args.imported.now (option_copied c.args.ring) (option_copied c.args.next) in
    record {
      said = IfOk-weaker c.push_each.result _ _ (λ _ h.
          let all : map import_seen c.as_slice.result.now ≡ imports (sited_in c.args.spots.now) =
          ap (λ (is : List ImportName). map import_seen is) c.as_slice.ensures.value ∙ c.in_ok-imports.ensures.imports in
          h ∙ ap (λ (is : List members.ImportName). c.args.faults.now.items ++ of_each_after (import_faults s) [] is) all)
          (c.push_each.ensures.said c.args.imported.now c.in_ok-states.ensures.states);
    }
