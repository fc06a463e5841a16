use Rattle.std.proofs.Common.{◌≡◌, ◌++◌, sym, ap, ◌∙◌, append-nil}
use Rattle.std.specs.Prelude.{None, Some, slice_get}
use Rattle.std.specs.Option.{option_copied}
use Rattle.pq_checks.specs.Faults.{named_type}
use Rattle.pq_checks.proofs.References.{no_statement, no_name}
use Rattle.pq_checks.proofs.around.reference_lines.push_reference.Goals as goal

pub returns-in-None-named_type : goal.returns-in-None-named_type
returns-in-None-named_type c =
    let r = c.args.reference.now in
    let node : slice_get c.args.nodes.now r.item ≡ Some c.in-Some.node.now = sym c.statement_at.ensures.statement ∙ ap option_copied c.in-Some.is in
    let none : named_type r.part c.in-Some.node.now.statement ≡ None = sym c.named_type.ensures.name ∙ ap option_copied c.in-None-named_type.is in
    record { said = sym (append-nil c.args.faults.now.items) ∙ ap (λ fs. c.args.faults.now.items ++ fs) (sym (no_name c.args.nodes.now r c.in-Some.node.now node none)) }

pub returns-in-None : goal.returns-in-None
returns-in-None c =
    let r = c.args.reference.now in
    let none : slice_get c.args.nodes.now r.item ≡ None = sym c.statement_at.ensures.statement ∙ ap option_copied c.in-None.is in
    record { said = sym (append-nil c.args.faults.now.items) ∙ ap (λ fs. c.args.faults.now.items ++ fs) (sym (no_statement c.args.nodes.now r none)) }
