use Rattle.std.proofs.Common.{◌≤◌, ◌<◌, ℕ, List, length, get_or, refl, sym, ap, subst, ◌∙◌, arith}
use Rattle.pq_schema.specs.aux.NearNames.{IsFrom}
use Rattle.pq_schema.specs.aux.Hits.{placed}
use Rattle.pq_schema.proofs.FirstNear.{is_placed}
use Rattle.pq_schema.proofs.NearNames.{asked_more, has_some, none_asked, none_first, none_of, some_first, with_first, without}
use Rattle.pq_schema.proofs.scope.named.first_indexed.Goals as goal

pub entries-init : goal.entries-init
entries-init c = none_asked c.args.names.now c.args.files.now c.args.name.now c.first_from-first.result

pub entries-preserved : goal.entries-preserved
entries-preserved c =
    let found = c.definition_at-found.result in
    asked_more c.args.names.now c.args.files.now c.args.name.now c.first_from-first.result c.entries.at (get_or c.args.names.now c.entries.at (0, 0)).1 refl
    (sym c.definition_at-found.ensures.is ∙ none_of (placed found) (is_placed found ∙ sym c.is_some.ensures ∙ c.if-is_some.false)) c.entries.invariant

pub returns-then-names-at : goal.returns-then-names-at
returns-then-names-at c =
    let names = c.args.names.now in
    let files = c.args.files.now in
    let places = c.args._places.now in
    let name = c.args.name.now in
    let p = c.first_from-first.result in
    let i = c.entries.at in
    let from = subst (λ (k : ℕ). IsFrom names k p) c.code-code.ensures.code (c.first_from-first.ensures.from c.requires.names.sorted) in
    record {
      first = sym (without files places name c.requires.rising
          (none_first names files places name p c.requires.names from i c.entries.invariant c.entries.auto.at (λ within is. c.if-names-at.true (is ∙ sym c.code-code.ensures.code))));
    }

pub returns-then-is_some : goal.returns-then-is_some
returns-then-is_some c =
    let names = c.args.names.now in
    let files = c.args.files.now in
    let places = c.args._places.now in
    let name = c.args.name.now in
    let p = c.first_from-first.result in
    let i = c.entries.at in
    let from = subst (λ (k : ℕ). IsFrom names k p) c.code-code.ensures.code (c.first_from-first.ensures.from c.requires.names.sorted) in
    let found = c.definition_at-found.result in
    let k = (get_or names i (0, 0)).1 in
    record {
      first = c.definition_at-found.ensures.is
          ∙ sym (with_first files places name k c.requires.rising
          (some_first names files places name p c.requires.names from i c.entries.invariant c.entries-test.true (c.if-names-at.false ∙ c.code-code.ensures.code)
          (has_some files k name (placed found) c.definition_at-found.ensures.is (is_placed found ∙ sym c.is_some.ensures ∙ c.if-is_some.true))));
    }

pub returns : goal.returns
returns c =
    let names = c.args.names.now in
    let files = c.args.files.now in
    let places = c.args._places.now in
    let name = c.args.name.now in
    let p = c.first_from-first.result in
    let i = c.entries.at in
    let from = subst (λ (k : ℕ). IsFrom names k p) c.code-code.ensures.code (c.first_from-first.ensures.from c.requires.names.sorted) in
    record {
      first = sym (without files places name c.requires.rising
          (none_first names files places name p c.requires.names from i c.entries.invariant c.entries.auto.at (λ within is. absurd (omega (arith, within, c.entries-test.false)))));
    }
