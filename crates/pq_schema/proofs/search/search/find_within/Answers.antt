use Rattle.std.proofs.Common.{List, map, ap, ◌∙◌}
use Rattle.std.specs.Prelude.{flat_map, slice_get}
use Rattle.pq_syntax.specs.declared.tree.Node.{Node}
use Rattle.pq_syntax.specs.Places.{places}
use Rattle.pq_schema.specs.References.{references_at}
use Rattle.pq_schema.specs.declared.search.uses.Use.{Use}
use Rattle.pq_schema.specs.aux.Inside.{found_use, used_as}
use Rattle.pq_schema.proofs.ResolvedRuns.{one_alone}
use Rattle.pq_schema.proofs.search.search.find_within.Goals as goal

pub returns : goal.returns
returns c =
    let files = c.args.files.now in
    let within = c.args.within.now in
    record {
      is = c.hit_or_nothing.ensures.is ∙ ap (λ (us : List Use). found_use (slice_get us 0)) c.deref.ensures.value
          ∙ one_alone files within c.args.name.now c.in_ok-uses.uses.items c.in_ok-node.node c.in_ok-node.ensures.first
          (c.in_ok-uses.ensures.found ∙ ap (λ (ns : List Node). map (used_as files) (flat_map (references_at within) (places ns))) c.from_ref.ensures.value);
    }
