use Rattle.std.proofs.Common.{subst}
use Rattle.pq_schema.specs.aux.Along.{IsAlong}
use Rattle.pq_schema.proofs.AlongPackages.{along_from}
use Rattle.pq_schema.proofs.search.along.table.Goals as goal

pub returns : goal.returns
returns c =
    let parts = c.in_ok-parts.parts.items in
    let packages = c.packages.result.now in
    let a = c.in_ok-parts.ensures in
    record {
      along = subst (IsAlong parts c.args.files.now) c.as_bytes.ensures.value
          (along_from parts packages c.args.files.now c.as_bytes.result.now c.packages.ensures.index a.sorted a.meet a.met);
    }
