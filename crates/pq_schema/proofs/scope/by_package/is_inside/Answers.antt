use Rattle.std.proofs.Common.{Some, sym, ap, ◌∙◌, ◌&&◌, nat_eq}
use Rattle.std.specs.List.{starts_with}
use Rattle.std.proofs.lemmas.Bool.Decides.{Decides-eqb}
use Rattle.std.proofs.lemmas.Option.{slice_get-get_or}
use Rattle.pq_schema.proofs.Dotted.{inside_at, other_byte}
use Rattle.pq_schema.proofs.scope.by_package.is_inside.Goals as goal

pub returns-then-byte-eq46 : goal.returns-then-byte-eq46
returns-then-byte-eq46 c =
    let e = c.args.entry.now in
    let q = c.args.name.now in
    let b = c.in-Some.byte.now in
    let at = slice_get-get_or e _ b c.in-Some.ensures.lookup.3.0 ∙ ap Some (sym (c.in-Some.ensures.lookup.3.1 b)) in
    record {
      is = c.starts_with.ensures.value
          ∙ sym (ap (λ t. t && starts_with nat_eq e q) ((Decides-eqb b 46).1 c.if-byte-eq46.true))
          ∙ inside_at e q b at;
    }

pub returns-else-byte-eq46 : goal.returns-else-byte-eq46
returns-else-byte-eq46 c =
    let e = c.args.entry.now in
    let q = c.args.name.now in
    let b = c.in-Some.byte.now in
    let at = slice_get-get_or e _ b c.in-Some.ensures.lookup.3.0 ∙ ap Some (sym (c.in-Some.ensures.lookup.3.1 b)) in
    record { is = other_byte b (starts_with nat_eq e q) c.if-byte-eq46.false ∙ inside_at e q b at }
