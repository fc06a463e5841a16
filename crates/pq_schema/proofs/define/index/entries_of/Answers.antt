use Rattle.std.proofs.Common.{Bool, List, sym, subst}
use Rattle.pq_schema.specs.declared.define.definitions.Definition.{Definition}
use Rattle.pq_schema.specs.aux.Copies.{AreCopies, full_names}
use Rattle.pq_schema.proofs.define.index.entries_of.Goals as goal

pub entries_without-requires-2 : goal.entries_without-requires-2
entries_without-requires-2 c =
    let defined = c.requires.defined in
    record {
      copies = subst (λ (flags : List Bool). AreCopies flags (full_names c.args.definitions.now)) (sym c.deref-3.ensures.value)
          (subst (λ (ds : List Definition). AreCopies c.in_ok-copies.copies.items (full_names ds)) (sym defined.1) (c.in_ok-copies.ensures.copies defined.0));
    }
