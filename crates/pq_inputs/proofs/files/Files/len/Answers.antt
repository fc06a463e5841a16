use Rattle.std.proofs.Common.{length, ap, arith}
use Rattle.pq_inputs.proofs.EntryLemmas.{side_length}
use Rattle.pq_inputs.proofs.files.Files.len.Goals as goal

-- there are as many records as entries
pub returns : goal.returns
returns c =
    let entries = ap length c.self.view_is in
    omega (arith, side_length c.self.inside.names c.self.inside.records.items c.self.invariant, entries)
