use Rattle.std.proofs.Common.{◌++◌}
use Rattle.std.specs.Prelude.{codes, string_bytes}
use Rattle.pq_syntax.specs.declared.parts.NamePart.{NamePart}
use Rattle.pq_proto.specs.Settings.{part_text}
use Rattle.pq_proto.proofs.ListSteps.{PrintedTo}
use Rattle.pq_proto.proofs.descriptor.settings.add_parts.Given as goal

abbrev pub invariant-parts : goal.invariant-parts
invariant-parts l =
    PrintedTo (λ (p : NamePart). codes "." ++ part_text p) (string_bytes l.fn.name) (string_bytes l.name) l.parts l.part-index
