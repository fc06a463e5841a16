use Rattle.std.proofs.Common.{◌++◌, map, take, ap, ◌∙◌}
use Rattle.std.specs.Option.{option_copied}
use Rattle.pq_checks.specs.Faults.{import_faults, is_listed}
use Rattle.pq_checks.specs.Surroundings.{state_in}
use Rattle.pq_checks.specs.aux.Imports.{by_imports}
use Rattle.pq_checks.specs.aux.Seen.{import_seen}
use Rattle.pq_checks.specs.aux.Sets.{is_import}
use Rattle.pq_checks.specs.aux.Views.{lent_cmp}
use Rattle.pq_checks.proofs.Flags.{seen_at, seen_within, seen_past}
use Rattle.pq_checks.proofs.Importing.{import_said}
use Rattle.pq_checks.proofs.Passes.{after_more, after_all}
use Rattle.pq_checks.proofs.Sets.{has_more, has_it}
use Rattle.pq_checks.proofs.Ties.{text_back}
use Rattle.pq_checks.proofs.around.import_lines.push_each.Goals as goal

pub imports-preserved : goal.imports-preserved
imports-preserved c =
    let xs = c.args.imports.now in
    let all = map import_seen xs in
    let i = c.imports.i in
    let x = c.index-imports-i.result in
    let d = import_seen x in
    let k = c.as_slice.result in
    let key = c.as_slice.ensures in
    let lt = seen_within import_seen xs i c.imports-test.true in
    let at = seen_at import_seen xs i x c.imports-test.true c.index-imports-i.is in
    let repeated = has_it lent_cmp is_import c.imports.seen (take i all) k c.in_ok-is_new.is_new c.in_ok-is_new.ensures.added c.imports.invariant.listed
    ∙ ap (λ n. is_listed n (take i all)) key in
    record {
      said = λ imported states.
          let state = c.state_named-state.ensures.state imported states ∙ ap (state_in imported) c.as_slice-in-imports.ensures in
          after_more (import_faults (by_imports imported (option_copied c.args.ring) (option_copied c.args.next))) _ _ _ all i d lt at
          (c.in_ok-push_import.ensures.said
          ∙ ap (λ fs. c.imports.faults.items ++ fs) (import_said imported (option_copied c.args.ring) (option_copied c.args.next) (take i all) d _ _ state repeated))
          (c.imports.invariant.said imported states);
      listed = has_more lent_cmp is_import c.imports.seen c.insert.new.self all i d k lt at (λ q. text_back k.now q.now d.value key)
          c.in_ok-is_new.ensures.updates.0 c.imports.invariant.listed;
    }

pub returns : goal.returns
returns c = record {
  said = λ imported states.
      after_all (import_faults (by_imports imported (option_copied c.args.ring) (option_copied c.args.next))) _ _ _ _
      (seen_past import_seen c.args.imports.now c.imports.i c.imports-test.false) (c.imports.invariant.said imported states);
}
