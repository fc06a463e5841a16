use Rattle.std.proofs.Common.{ℕ, List, Some, sym, ap, ◌∙◌, nat_eq}
use Rattle.std.specs.List.{starts_with}
use Rattle.std.proofs.lemmas.Option.{slice_get-get_or, slice_get_past}
use Rattle.pq_schema.specs.aux.InPackage.{dotted}
use Rattle.pq_schema.proofs.PackageRanges.{has_entry, has_none}
use Rattle.pq_schema.proofs.scope.package_range.PackageRange.has.Goals as goal

pub returns-in-Some : goal.returns-in-Some
returns-in-Some c =
    let r = c.args.self.now in
    let name = c.args.name.now in
    let e = c.in-Some.entry.now in
    let at = slice_get-get_or r.entries.now c.first_from.result e c.in-Some.ensures.lookup.3.0 ∙ ap Some (sym (c.in-Some.ensures.lookup.3.1 e)) in
    record {
      is = λ files lead range some.
          c.is_inside.ensures.is
          ∙ ap (λ (x : List ℕ). starts_with nat_eq c.rest_of.result.now (dotted x)) c.as_bytes.ensures.value
          ∙ ap (λ (x : List ℕ). starts_with nat_eq x (dotted name)) c.rest_of.ensures.rest
          ∙ has_entry files lead name r c.first_from.result e range (c.first_from.ensures.first files lead range) at some;
    }

pub returns-in-None : goal.returns-in-None
returns-in-None c =
    let r = c.args.self.now in
    record {
      is = λ files lead range some.
          has_none files lead c.args.name.now r c.first_from.result range (c.first_from.ensures.first files lead range)
          (slice_get_past r.entries.now _ c.in-None.ensures.lookup.3) some;
    }
