use Rattle.std.proofs.Common.{ℕ, List, ◌++◌, ap, ◌∙◌}
use Rattle.std.specs.Prelude.{flat_map}
use Rattle.std.proofs.lemmas.Result.{IfOk-weaker}
use Rattle.pq_checks.specs.Faults.{constant_faults, extend_faults}
use Rattle.pq_checks.specs.Members.{constant_at}
use Rattle.pq_checks.specs.aux.Spots.{in_spot}
use Rattle.pq_checks.specs.declared.errors.fault.Fault.{Fault}
use Rattle.pq_checks.proofs.Joined.{in_turn, last_turn}
use Rattle.pq_checks.proofs.SaidOfParts.{of_parts}
use Rattle.pq_checks.proofs.Spotting.{spotted}
use Rattle.pq_checks.proofs.lines.unread_lines.push_unread_faults.Goals as goal

pub returns : goal.returns
returns c =
    let spots = c.args.spots.now in
    let constants = of_parts constant_faults (in_spot constant_at) spots ∙ ap (flat_map constant_faults) (spotted constant_at spots) in
    let extends = c.as_slice.ensures.value ∙ c.in_ok-extends.ensures.items in
    record {
      said = IfOk-weaker c.push_extends.result _ _ (λ _ h.
          in_turn c.args.faults.now.items c.push_all_constants.new.faults.items c.push_extends.new.faults.items _ _
          (c.in_ok-push_all_constants.ensures ∙ ap (λ (ys : List Fault). c.args.faults.now.items ++ ys) constants)
          (last_turn c.push_all_constants.new.faults.items c.push_extends.new.faults.items _ (h ∙ ap (λ (es : List ℕ). c.push_all_constants.new.faults.items ++ flat_map extend_faults es) extends))) c.push_extends.ensures;
    }
