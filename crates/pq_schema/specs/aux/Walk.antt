-- Auxiliary: where a search begins, and the walk over the references of a file (used by proofs and
-- contracts of private functions only).
use Rattle.std.specs.Prelude.{ℕ, List}
use Rattle.pq_schema.specs.declared.search.origin.Origin.{Origin}
use Rattle.pq_schema.specs.declared.search.walk.Walk.{Walk}
use Rattle.pq_schema.specs.Resolution.{scopes}
use Rattle.pq_schema.specs.aux.Asked.{AreAsked}
use Rattle.pq_schema.specs.aux.Grouping.{AreNear}
use Rattle.pq_schema.specs.aux.Inside.{AreInner, IsNear}
use Rattle.pq_schema.specs.aux.Outward.{IsOutward}

-- `IsOrigin o places` is that the scope of `o` is in a file of its package, and that `places` has the
-- places of the files whose package is one of the scopes from it outwards
pub record IsOrigin (o : Origin) (places : List ℕ) : Type 0 where
  pub outward : IsOutward o.files.now o.outward.along.now o.outward.root.now o.outward.spots.now
  pub inner : AreInner o.scope.now.1 o.outward.root.now o.scope.now.0
  pub near : AreNear places o.files.now (scopes o.scope.now.0)

-- `IsWalk o w` is that the scope of `o` is in a file of its package, and that what the walk `w` keeps
-- is right, where the scopes from that of `o` up to the package are open
pub record IsWalk (o : Origin) (w : Walk) : Type 0 where
  pub outward : IsOutward o.files.now o.outward.along.now o.outward.root.now o.outward.spots.now
  pub inner : AreInner o.scope.now.1 o.outward.root.now o.scope.now.0
  pub near : IsNear o.files.now w.near
  pub asked : AreAsked o.files.now o.scope.now.1 w.asked.items
