use Rattle.std.proofs.Common.{List, ℕ, length, sym, ap, subst}
use Rattle.pq_schema.specs.aux.Grouping.{AreNear, around}
use Rattle.pq_schema.proofs.CommonFronts.{spot_both}
use Rattle.pq_schema.proofs.search.outward.look_in_spot.Goals as goal

pub definition_along-requires : goal.definition_along-requires
definition_along-requires c =
    record {
      near = subst (λ (x : List ℕ). AreNear c.args.near.now c.args.files.now (around x)) (sym c.spell-full.ensures.name) c.requires.near;
      files = c.requires.files;
      front = spot_both c.args.along.now.root c.args.spot.now c.args.name.now c.spell-full.result (length c.as_str.result.now) c.requires.spot
          (ap length c.as_str.ensures.same) c.spell-full.ensures.name;
    }
