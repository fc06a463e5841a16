use Rattle.std.proofs.Common.{List, get_or, sym, ap, ◌∙◌}
use Rattle.std.specs.Prelude.{Option}
use Rattle.std.specs.Option.{option_map_or}
use Rattle.pq_schema.specs.declared.queries.resolved.ResolvedReference.{ResolvedReference}
use Rattle.pq_proto.specs.Types.{no_type, type_to}
use Rattle.pq_proto.proofs.FirstSteps.{at_index, first_is}
use Rattle.pq_proto.proofs.descriptor.references.References.first.Goals as goal

pub returns : goal.returns
returns c =
    let refs = c.args.self.now in
    let k = get_or c.firsts-firsts.result.now c.args.item 0 in
    first_is refs c.args.item c.args.part
    ∙ ap (at_index refs) (sym (c.firsts-firsts.ensures.each c.args.item c.if-item-firsts.false))
    ∙ ap (λ (rs : List ResolvedReference). at_index rs k) (sym c.self.view_is)
    ∙ ap (λ (o : Option ResolvedReference). option_map_or (λ (r : ResolvedReference). type_to r.resolution) o no_type) (sym c.at.ensures)
