use Rattle.pq_names.proofs.OrderLemmas.{number_at, only_number, gap_free}
use Rattle.pq_names.proofs.table.Names.find.Goals as goal

pub returns-in-Ok : goal.returns-in-Ok
returns-in-Ok c =
    let sorted = rw c.self.view_is at c.self.invariant.0 in
    let found = rw (c.deref.ensures.value, c.deref-2.ensures.value, c.self.view_is) at c.in-Ok.ensures.found in
    only_number sorted c.args.text.now c.index.result.now (number_at sorted c.args.text.now c.in-Ok.place c.index.result.now found c.index.ensures)

pub returns-in-Err : goal.returns-in-Err
returns-in-Err c =
    let sorted = rw c.self.view_is at c.self.invariant.0 in
    let gap = rw (c.deref.ensures.value, c.deref-2.ensures.value, c.self.view_is) at c.in-Err.ensures.gap in
    λ id. (λ wrong. absurd (cc), λ is. absurd (gap_free sorted gap id is))
