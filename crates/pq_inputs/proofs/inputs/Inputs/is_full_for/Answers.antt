use Rattle.std.proofs.Common.{◌≡◌, true, false, length, refl, sym, ap, ◌∙◌}
use Rattle.std.specs.Prelude.{is_some}
use Rattle.pq_inputs.specs.Sources.{Sources, Table}
use Rattle.pq_inputs.specs.Refusal.{was_set}
use Rattle.pq_inputs.proofs.EntryLemmas.{was_set_is, length_sources, copied_some}
use Rattle.pq_inputs.proofs.FileTests.{at_limit}
use Rattle.pq_inputs.proofs.inputs.Inputs.is_full_for.Goals as goal

pub returns-then-is_some : goal.returns-then-is_some
returns-then-is_some c =
    let files = ap (λ (t : Table). t.files) c.self.view_is in
    let set : was_set c.args.self.now.files c.args.name.now ≡ true = ap (λ (s : Sources). was_set s c.args.name.now) (sym files) ∙ was_set_is c.self.inside.files c.args.name.now ∙ ap is_some (sym c.get.ensures) ∙ copied_some c.get.result ∙ sym (c.if-is_some.ensures {u = tt}) in
    rw set refl

pub returns : goal.returns
returns c =
    let files = ap (λ (t : Table). t.files) c.self.view_is in
    let few = c.self.invariant.few in
    let limit = ap (λ (t : Table). t.limit) c.self.view_is in
    let unset : was_set c.args.self.now.files c.args.name.now ≡ false = ap (λ (s : Sources). was_set s c.args.name.now) (sym files) ∙ was_set_is c.self.inside.files c.args.name.now ∙ ap is_some (sym c.get.ensures) ∙ copied_some c.get.result ∙ sym (c.if-is_some.ensures {u = tt}) in
    rw (unset, c.len.ensures, ← files, ← limit, length_sources) (at_limit (length c.self.inside.files) c.self.inside.limit few)
