use Rattle.std.proofs.Common.{sym, ap, ◌∙◌}
use Rattle.std.specs.Option.{option_copied}
use Rattle.std.proofs.lemmas.Option.{get_or_from_slice_get, slice_get_within}
use Rattle.pq_links.proofs.AddSteps.{has_at}
use Rattle.pq_links.proofs.linked.names.is_at.Goals as goal

pub returns-in-Some : goal.returns-in-Some
returns-in-Some c =
    let names = c.args.names.now in
    let own = c.in-Some.own.now in
    let at = sym c.at.ensures.item ∙ ap option_copied c.in-Some.is in
    record {
      there = λ same. has_at names c.args.place own c.args.name.now (slice_get_within names c.args.place own at)
          (sym (get_or_from_slice_get names c.args.place own own at)) (sym c.eq.ensures ∙ same);
    }
