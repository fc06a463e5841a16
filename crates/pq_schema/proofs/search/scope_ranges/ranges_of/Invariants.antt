use Rattle.std.proofs.Common.{◌≤◌, take}
use Rattle.pq_schema.specs.aux.PackageRange.{AreRanges, IsRange}
use Rattle.pq_schema.proofs.search.scope_ranges.ranges_of.Given as goal

-- the packages of the scopes so far, the last of which is `range`
abbrev pub invariant-bytes : goal.invariant-bytes
invariant-bytes l = (l.start ≤ l.at) × IsRange l.files (take l.start l.lead) l.range × AreRanges l.files l.lead l.ranges.items
