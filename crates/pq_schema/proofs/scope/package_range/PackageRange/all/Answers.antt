use Rattle.std.proofs.Common.{refl}
use Rattle.pq_schema.proofs.PackageRanges.{all_range}
use Rattle.pq_schema.proofs.scope.package_range.PackageRange.all.Goals as goal

pub returns : goal.returns
returns c = record { range = λ files index. all_range files _ index refl }
