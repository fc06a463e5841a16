use Rattle.std.proofs.Common.{ℕ, List, Bool, sym, subst}
use Rattle.pq_schema.specs.aux.Along.{Contents}
use Rattle.pq_schema.specs.aux.Fronts.{AreFronts}
use Rattle.pq_schema.proofs.search.along.Along.fronts.Goals as goal

pub returns : goal.returns
returns c =
    record {
      fronts = subst (λ (a : Contents). AreFronts c.deref.result.now a.files a.root) c.self.view_is
          (subst (λ (ns : List (ℕ × Bool)). AreFronts ns c.self.inside.files.now c.self.inside.root.now) (sym c.deref.ensures.value) c.self.invariant.1);
    }
