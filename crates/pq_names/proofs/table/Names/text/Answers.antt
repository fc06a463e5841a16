use Rattle.std.proofs.Common.{length, refl, arith}
use Rattle.std.proofs.lemmas.Option.{slice_get_read}
use Rattle.pq_names.proofs.OrderLemmas.{one_place}
use Rattle.pq_names.proofs.table.Names.text.Goals as goal

-- the table has each text once
pub returns-clause-once : goal.returns-clause-once
returns-clause-once c =
    let sorted = rw c.self.view_is at c.self.invariant.0 in
    let at_number = slice_get_read c.self.inside.texts.items (length c.self.inside.texts.items) c.number.result c.index.result.now refl (let within = rw (← c.self.view_is) at c.requires in omega (arith, within, c.number.ensures)) c.index.ensures in
    let at_id = rw (c.self.view_is, c.number.ensures, ← c.as_str.ensures.same) at at_number in
    λ other is. one_place sorted c.as_str.result.now other c.args.id is at_id
