use Rattle.std.proofs.Common.{inl, inr, ◌<◌, length, sum, refl, sym, ◌∙◌, ap, subst, arith}
use Rattle.std.proofs.lemmas.List.{length-map}
use Rattle.pq_lex.specs.aux.Kept.{IsCounted}
use Rattle.pq_lex.specs.Lines.{units_of}
use Rattle.pq_lex.proofs.Columns.{kept_plain, kept_wide, wide_some, row_sum}
use Rattle.pq_lex.proofs.lines.add_wide.Goals as goal

pub returns-then-plain : goal.returns-then-plain
returns-then-plain c = inl (refl, kept_plain c.args.line.now (c.requires c.if-plain.true))

pub returns-then-is_ascii : goal.returns-then-is_ascii
returns-then-is_ascii c = inl (refl, kept_plain c.args.line.now c.if-is_ascii.ensures.cases)

pub counts_kept-requires : goal.counts_kept-requires
counts_kept-requires c =
    let kept = c.deref.ensures.value ∙ c.in_ok-units.ensures in
    omega (arith, c.deref.type_inv, ap length kept, ap sum kept, row_sum c.args.line.now, length-map c.args.line.now units_of)

pub returns : goal.returns
returns c =
    let other = c.if-is_ascii.ensures.cases in
    inr (
      record { number = c.args.number; units = c.in_ok-units.units; counts = c.in_ok-counts.counts },
      c.in_ok-push.ensures.items,
      record {
        number = refl;
        units = c.in_ok-units.ensures ∙ sym (kept_wide c.args.line.now other);
        some = subst (λ u. 0 < length u) (sym c.in_ok-units.ensures) (wide_some c.args.line.now other);
        counted = subst (λ u. IsCounted u c.in_ok-counts.counts.items) c.deref.ensures.value c.in_ok-counts.ensures;
      },
    )
