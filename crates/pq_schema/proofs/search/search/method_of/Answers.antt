use Rattle.std.proofs.Common.{◌∷◌, [], ℕ, List, ap}
use Rattle.pq_links.specs.declared.places.TypePart.TheVariants.{Input, Output}
use Rattle.pq_schema.proofs.search.search.method_of.Goals as goal

pub returns : goal.returns
returns c =
    let other = c.in_ok-type_of-2.field-0.type_name.text in
    record {
      first = λ within n. (
        Input,
        record { item = n; part = Output; within = within; name = other } ∷ [],
        ap (λ (t : List ℕ). record { item = n; part = Input; within = within; name = t } ∷ record { item = n; part = Output; within = within; name = other } ∷ []) c.in_ok-type_of.ensures.name,
      );
    }
