use Rattle.std.proofs.Common.{◌≡◌, ◌++◌, drop}
use Rattle.std.specs.Prelude.{string_bytes}
use Rattle.std.specs.List.{concat}
use Rattle.pq_schema.proofs.names.full_name.push_parts.Given as goal

abbrev pub invariant-parts : goal.invariant-parts
invariant-parts l =
    string_bytes l.text ++ concat (drop l.part-index l.parts) ≡ string_bytes l.initial.text ++ concat l.parts
