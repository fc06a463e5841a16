use Rattle.std.proofs.Common.{◌+◌, false, drop, sym, ap, ◌∙◌}
use Rattle.pq_schema.specs.Resolution.{Meaning, found_by}
use Rattle.pq_schema.specs.aux.Hits.{found_at}
use Rattle.pq_schema.specs.aux.Outward.{in_spots}
use Rattle.pq_schema.specs.declared.search.search.Hit.{Hit}
use Rattle.pq_schema.proofs.OutwardSearch.{spots_step, spots_end}
use Rattle.pq_schema.proofs.Walks.{stays_type}
use Rattle.pq_schema.proofs.search.outward.find_in_spots.Goals as goal

pub returns-in-Type : goal.returns-in-Type
returns-in-Type c =
    let files = c.args.files.now in
    let name = c.args.name.now in
    record {
      is = sym (spots_step files name c.args.spots.now c.spots.spot-index c.spot-item.result (found_at c.spots.best) (found_at c.defined_at.result) (found_at c.unless_type-best.result) _
          c.spots-test.true (sym c.spot-item.is) (c.defined_at.ensures.is ∙ ap (λ (m : Meaning). found_by false m) c.look_in_spot-place.ensures.first) c.unless_type-best.ensures.is c.spots.invariant
          ∙ stays_type (found_at c.unless_type-best.result) (in_spots files (drop (c.spots.spot-index + 1) c.args.spots.now) name) c.in-Type.field-0.file.now c.in-Type.field-0.definition.now
          (ap (λ (h : Hit). found_at h) c.in-Type.is));
    }

pub spots-preserved : goal.spots-preserved
spots-preserved c =
    let files = c.args.files.now in
    let name = c.args.name.now in
    spots_step files name c.args.spots.now c.spots.spot-index c.spot-item.result (found_at c.spots.best) (found_at c.defined_at.result) (found_at c.unless_type-best.result) _
    c.spots-test.true (sym c.spot-item.is) (c.defined_at.ensures.is ∙ ap (λ (m : Meaning). found_by false m) c.look_in_spot-place.ensures.first) c.unless_type-best.ensures.is c.spots.invariant

pub returns : goal.returns
returns c = record {
  is = sym (spots_end c.args.files.now c.args.name.now c.args.spots.now c.spots.spot-index (found_at c.spots.best) _ c.spots-test.false c.spots.invariant);
}
