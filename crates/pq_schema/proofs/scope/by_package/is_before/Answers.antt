use Rattle.std.proofs.Common.{Some, sym, ap, ◌∙◌}
use Rattle.std.specs.Ordering.{is_lt}
use Rattle.std.proofs.lemmas.Option.{slice_get-get_or, slice_get_past}
use Rattle.pq_schema.proofs.Dotted.{before_inside, before_end, before_outside}
use Rattle.pq_schema.proofs.scope.by_package.is_before.Goals as goal

pub returns-in-Some : goal.returns-in-Some
returns-in-Some c =
    let e = c.args.entry.now in
    let b = c.in-Some.byte.now in
    let at = slice_get-get_or e _ b c.in-Some.ensures.lookup.3.0 ∙ ap Some (sym (c.in-Some.ensures.lookup.3.1 b)) in
    record { is = before_inside e c.args.name.now b (sym c.starts_with.ensures.value ∙ c.if-starts_with.true) at }

pub returns-in-None : goal.returns-in-None
returns-in-None c =
    let e = c.args.entry.now in
    record { is = before_end e c.args.name.now (sym c.starts_with.ensures.value ∙ c.if-starts_with.true) (slice_get_past e _ c.in-None.ensures.lookup.3) }

pub returns-else-starts_with : goal.returns-else-starts_with
returns-else-starts_with c = record {
  is = c.is_lt.ensures ∙ ap is_lt c.cmp.ensures ∙ before_outside c.args.entry.now c.args.name.now (sym c.starts_with.ensures.value ∙ c.if-starts_with.false);
}
