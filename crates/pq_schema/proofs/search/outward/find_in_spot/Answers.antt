use Rattle.std.proofs.Common.{ℕ, List, ◌++◌, sym, ap, ◌∙◌, length, append-nil}
use Rattle.std.specs.List.{concat}
use Rattle.std.proofs.lemmas.Result.{IfOk-weaker}
use Rattle.pq_schema.specs.Resolution.{found, meaning}
use Rattle.pq_schema.specs.aux.NameParts.{leading}
use Rattle.pq_schema.proofs.CommonFronts.{spot_range, spot_whole}
use Rattle.pq_schema.proofs.search.outward.find_in_spot.Goals as goal

pub returns-then-start-count : goal.returns-then-start-count
returns-then-start-count c =
    let spot = spot_whole c.args.spot.now (leading c.args.along.now.root) c.requires.spot (sym (ap length c.as_str-start.ensures.same) ∙ c.if-start-count.true ∙ c.count.ensures.count) in
    record {
      is = IfOk-weaker c.find_in_package.result _ _ (λ hit h. h ∙ ap (λ (l : List ℕ). found c.args.files.now (l ++ c.args.name.now)) (sym spot))
          c.find_in_package.ensures.is;
    }

pub find_full-requires : goal.find_full-requires
find_full-requires c =
    let files = c.args.files.now in
    let spot = c.args.spot.now in
    let parts = ap (λ (ps : List (List ℕ)). concat ps) c.from_ref-lead.ensures.value ∙ append-nil spot in
    record {
      packages = spot_range files c.args.along.now.files c.args.along.now.root spot (concat c.from_ref-lead.result.now) (length c.as_str-start.result.now) c.packages_at-packages.result
          c.requires.files c.requires.spot (ap length c.as_str-start.ensures.same) parts c.packages_at-packages.ensures.range;
      place = c.look_in_spot-place.ensures.first ∙ ap (λ (l : List ℕ). meaning files (l ++ c.args.name.now)) (sym parts);
    }

pub returns-in-Some : goal.returns-in-Some
returns-in-Some c =
    let parts = ap (λ (ps : List (List ℕ)). concat ps) c.from_ref-lead.ensures.value ∙ append-nil c.args.spot.now in
    record {
      is = IfOk-weaker c.find_full.result _ _ (λ hit h. h ∙ ap (λ (l : List ℕ). found c.args.files.now (l ++ c.args.name.now)) parts) c.find_full.ensures.is;
    }

pub find_any-requires : goal.find_any-requires
find_any-requires c =
    let spot = c.args.spot.now in
    record {
      packages = spot_range c.args.files.now c.args.along.now.files c.args.along.now.root spot (concat c.from_ref-lead.result.now) (length c.as_str-start.result.now) c.packages_at-packages.result
          c.requires.files c.requires.spot (ap length c.as_str-start.ensures.same)
          (ap (λ (ps : List (List ℕ)). concat ps) c.from_ref-lead.ensures.value ∙ append-nil spot) c.packages_at-packages.ensures.range;
    }

pub returns-in-None : goal.returns-in-None
returns-in-None c =
    let parts = ap (λ (ps : List (List ℕ)). concat ps) c.from_ref-lead.ensures.value ∙ append-nil c.args.spot.now in
    record {
      is = IfOk-weaker c.find_any.result _ _ (λ hit h. h ∙ ap (λ (l : List ℕ). found c.args.files.now (l ++ c.args.name.now)) parts) c.find_any.ensures.is;
    }
