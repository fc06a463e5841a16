use Rattle.std.proofs.Common.{◌≡◌, ◌++◌, true, false, drop}
use Rattle.pq_schema.specs.Definitions.{camel}
use Rattle.pq_schema.proofs.define.map_entries.entry_name.Given as goal

abbrev pub invariant-bytes : goal.invariant-bytes
invariant-bytes l = l.camel.bytes.items ++ camel l.camel.first l.camel.after (drop l.byte-index l.field) ≡ camel true false l.field
