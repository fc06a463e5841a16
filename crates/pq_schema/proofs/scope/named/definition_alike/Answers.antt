use Rattle.std.proofs.Common.{ℕ, List, Some, sym, ap, ◌∙◌}
use Rattle.std.specs.Prelude.{find, bytes_eq}
use Rattle.std.proofs.lemmas.Option.{slice_get-get_or}
use Rattle.pq_schema.specs.Contents.{Defs}
use Rattle.pq_schema.specs.declared.define.definitions.Definition.{Definition}
use Rattle.pq_schema.proofs.FirstNear.{definition_there}
use Rattle.pq_schema.proofs.scope.named.definition_alike.Goals as goal

pub returns : goal.returns
returns c =
    let files = c.args.files.now in
    let name = c.args.name.now in
    let f = c.in_ok-f.f.now in
    let at = slice_get-get_or files _ f c.in_ok-f.ensures.lookup.3.0 ∙ ap Some (sym (c.in_ok-f.ensures.lookup.3.1 f)) in
    record {
      is = ap (λ (n : List ℕ). Some (n, c.in_ok-definition.definition.now)) c.get-3.ensures.value
          ∙ definition_there files c.args.place name f c.in_ok-definition.definition.now at
          (c.in_ok-definition.ensures.first
          ∙ ap (λ (d : Defs). find (λ (x : Definition). bytes_eq x.full_name name) d.definitions) c.get-2.ensures.value);
    }
