use Rattle.std.proofs.Common.{ℕ, List, sym, ap, subst}
use Rattle.pq_rules.specs.Relations.{Each}
use Rattle.pq_schema.specs.aux.Fronts.{IsSpotOf}
use Rattle.pq_schema.specs.aux.Hits.{found_at}
use Rattle.pq_schema.specs.declared.search.search.Hit.{Hit}
use Rattle.pq_schema.proofs.Marks.{near_spots}
use Rattle.pq_schema.proofs.OutwardSearch.{single_nothing, single_other, single_type}
use Rattle.pq_schema.proofs.CommonFronts.{spots_of}
use Rattle.pq_schema.proofs.search.outward.single_outward.Goals as goal

pub find_in_spots-requires : goal.find_in_spots-requires
find_in_spots-requires c =
    let files = c.args.files.now in
    let root = c.args.outward.root.now in
    let spots = c.args.outward.spots.now in
    record {
      near = near_spots c.args.near.now files root spots c.args.name.now c.requires.outward.are_spots c.requires.plain c.requires.near;
      files = c.requires.outward.of_files;
      spots = subst (λ (r : List ℕ). Each (IsSpotOf r) spots) (sym c.requires.outward.of_root) (spots_of files root spots c.requires.outward.are_spots);
    }

pub returns-in-Type : goal.returns-in-Type
returns-in-Type c =
    record {
      is = single_type c.args.files.now c.args.outward.root.now c.args.outward.spots.now c.args.name.now (found_at c.find_in_spots.result) c.in-Type.place.file.now c.in-Type.place.definition.now
          c.requires.outward.are_spots c.requires.plain c.find_in_spots.ensures.is (ap (λ (h : Hit). found_at h) c.in-Type.is);
    }

pub returns-in-Other : goal.returns-in-Other
returns-in-Other c =
    record {
      is = single_other c.args.files.now c.args.outward.root.now c.args.outward.spots.now c.args.name.now (found_at c.find_in_spots.result)
          c.requires.outward.are_spots c.requires.plain c.find_in_spots.ensures.is (ap (λ (h : Hit). found_at h) c.in-Other.is);
    }

pub returns-then-is_some : goal.returns-then-is_some
returns-then-is_some c =
    record {
      is = single_nothing c.args.files.now c.args.outward.along.now c.args.outward.root.now c.args.outward.spots.now c.args.name.now (found_at c.find_in_spots.result) c.innermost.result _
          c.requires.outward c.requires.plain c.find_in_spots.ensures.is (ap (λ (h : Hit). found_at h) c.in-Nothing.is) c.innermost.ensures c.if-is_some.ensures;
    }

pub returns-else-is_some : goal.returns-else-is_some
returns-else-is_some c =
    record {
      is = single_nothing c.args.files.now c.args.outward.along.now c.args.outward.root.now c.args.outward.spots.now c.args.name.now (found_at c.find_in_spots.result) c.innermost.result _
          c.requires.outward c.requires.plain c.find_in_spots.ensures.is (ap (λ (h : Hit). found_at h) c.in-Nothing.is) c.innermost.ensures c.if-is_some.ensures;
    }
