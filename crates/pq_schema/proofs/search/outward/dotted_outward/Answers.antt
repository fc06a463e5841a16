use Rattle.std.proofs.Common.{◌≡◌, ℕ, List, Some, sym, subst, ◌∙◌}
use Rattle.std.specs.Option.{option_copied}
use Rattle.std.proofs.lemmas.Result.{IfOk-weaker}
use Rattle.pq_rules.specs.Relations.{Each}
use Rattle.pq_schema.specs.Resolution.{dotted, scopes}
use Rattle.pq_schema.specs.aux.Fronts.{IsSpotOf}
use Rattle.pq_schema.proofs.Marks.{near_spots}
use Rattle.pq_schema.proofs.OutwardSearch.{beyond_none, beyond_spot, dotted_spots, place_boundary, place_in}
use Rattle.pq_schema.proofs.CommonFronts.{beyond_same, find_has, spots_of}
use Rattle.pq_schema.proofs.search.outward.dotted_outward.Goals as goal

pub open_spot-spot-requires : goal.open_spot-spot-requires
open_spot-spot-requires c =
    let files = c.args.files.now in
    let root = c.args.outward.root.now in
    let spots = c.args.outward.spots.now in
    record {
      near = near_spots c.args.near.now files root spots c.args.first.now c.requires.outward.are_spots c.requires.plain c.requires.near;
      files = c.requires.outward.of_files;
      spots = subst (λ (r : List ℕ). Each (IsSpotOf r) spots) (sym c.requires.outward.of_root) (spots_of files root spots c.requires.outward.are_spots);
    }

pub find_in_spot-requires : goal.find_in_spot-requires
find_in_spot-requires c =
    let files = c.args.files.now in
    let root = c.args.outward.root.now in
    let spots = c.args.outward.spots.now in
    let spot = option_copied c.open_spot-spot.result in
    let there : Some c.in-Some.spot.now ≡ spot = beyond_same spot c.innermost-package.result c.in-Some.spot.now c.in-Some.ensures.is in
    record {
      files = c.requires.outward.of_files;
      spot = subst (λ (r : List ℕ). IsSpotOf r c.in-Some.spot.now) (sym c.requires.outward.of_root)
          (find_has (IsSpotOf root) _ spots c.in-Some.spot.now (spots_of files root spots c.requires.outward.are_spots) (there ∙ c.open_spot-spot.ensures.first));
    }

pub find_from-requires : goal.find_from-requires
find_from-requires c =
    let root = c.args.outward.root.now in
    let place = place_in c.args.outward.along.now c.args.files.now root c.args.first.now c.innermost-package.result c.requires.outward.of_files c.requires.outward.of_root c.innermost-package.ensures in
    record {
      files = c.requires.outward.of_files;
      root = c.requires.outward.of_root;
      boundary = place_boundary root c.requires.outward.of_text _ c.innermost-package.result place;
    }

pub returns-in-Some : goal.returns-in-Some
returns-in-Some c =
    let files = c.args.files.now in
    let root = c.args.outward.root.now in
    let first = c.args.first.now in
    let name = c.args.name.now in
    let spot = option_copied c.open_spot-spot.result in
    let place = c.innermost-package.result in
    let whole = dotted files (scopes root) first name in
    let at = place_in c.args.outward.along.now files root first place c.requires.outward.of_files c.requires.outward.of_root c.innermost-package.ensures in
    let chooses = dotted_spots files root c.args.outward.spots.now first name spot place c.requires.outward.are_spots c.requires.plain c.open_spot-spot.ensures.first at in
    record {
      is = IfOk-weaker c.find_in_spot.result _ _
          (λ hit h. h ∙ sym (beyond_spot files root name spot place whole chooses c.in-Some.spot.now (sym c.in-Some.ensures.is)))
          c.find_in_spot.ensures.is;
    }

pub returns-in-None : goal.returns-in-None
returns-in-None c =
    let files = c.args.files.now in
    let root = c.args.outward.root.now in
    let first = c.args.first.now in
    let name = c.args.name.now in
    let spot = option_copied c.open_spot-spot.result in
    let place = c.innermost-package.result in
    let whole = dotted files (scopes root) first name in
    let at = place_in c.args.outward.along.now files root first place c.requires.outward.of_files c.requires.outward.of_root c.innermost-package.ensures in
    let chooses = dotted_spots files root c.args.outward.spots.now first name spot place c.requires.outward.are_spots c.requires.plain c.open_spot-spot.ensures.first at in
    record {
      is = IfOk-weaker c.find_from.result _ _
          (λ hit h. h ∙ sym (beyond_none files root name spot place whole chooses (sym c.in-None.ensures.is)))
          c.find_from.ensures.is;
    }
