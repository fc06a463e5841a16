use Rattle.std.proofs.Common.{◌≡◌, ◌+◌, ◌-◌, ◌<◌, cond, drop, length, sym, ap, ◌∙◌, arith}
use Rattle.std.specs.Prelude.{Some, bytes_eq}
use Rattle.std.specs.BTreeMap.{get}
use Rattle.std.proofs.lemmas.Map.Text.{is_eq-slice_cmp}
use Rattle.pq_checks.specs.aux.Imports.{found_in}
use Rattle.pq_checks.specs.aux.Views.{lent_cmp}
use Rattle.pq_checks.proofs.Importing.{found_more}
use Rattle.pq_checks.proofs.around.import_lines.states_of.Goals as goal

pub files-preserved : goal.files-preserved
files-preserved c =
    let imported = c.args.imported.now in
    let i = c.files.left - 1 in
    let d = c.index-imported-left.result in
    let lt : i < length imported = let within = c.files.invariant.within in let some = c.files-test.true in omega arith in
    let left : c.files.left ≡ i + 1 = let some = c.files-test.true in omega arith in
    let key = c.as_bytes.ensures.value ∙ c.as_str.ensures.same in
    record {
      within = let within = c.files.invariant.within in omega arith;
      states = λ q.
          c.in_ok-insert.ensures.updates.0 q
          ∙ ap (λ b. cond b (Some d.state) (get lent_cmp c.files.states q)) (is_eq-slice_cmp c.as_bytes.result.now q.now ∙ ap (λ n. bytes_eq n q.now) key)
          ∙ ap (λ o. cond (bytes_eq d.file q.now) (Some d.state) o) (c.files.invariant.states q ∙ ap (λ n. found_in (drop n imported) q.now) left)
          ∙ sym (found_more imported i d q.now lt c.index-imported-left.is);
    }
