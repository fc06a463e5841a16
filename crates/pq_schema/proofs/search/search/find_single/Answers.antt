use Rattle.std.proofs.Common.{◌++◌, ◌+◌, ◌<◌, ◌≤◌, ℕ, List, arith, length, sym, ap, subst, ◌∙◌}
use Rattle.std.specs.Prelude.{drop}
use Rattle.pq_schema.specs.Resolution.{Found, found, meaning, single, scopes, unless_type}
use Rattle.pq_schema.specs.aux.Hits.{found_at}
use Rattle.pq_schema.specs.aux.Inside.{single_from}
use Rattle.pq_schema.specs.aux.PackageRange.{IsRangeOf}
use Rattle.pq_schema.specs.declared.search.search.Hit.{Hit}
use Rattle.pq_schema.specs.declared.search.asked.Asked.{Asked}
use Rattle.pq_schema.specs.aux.Asked.{AreAsked}
use Rattle.pq_schema.proofs.Inside.{near_outer, single_end, single_step}
use Rattle.pq_schema.proofs.Walks.{stays_type}
use Rattle.pq_schema.proofs.search.search.find_single.Goals as goal

pub look_inside-requires : goal.look_inside-requires
look_inside-requires c =
    record {
      origin = c.requires.origin;
      at = omega (arith, c.scopes-test.true, c.depth-depth.ensures.depth);
      plain = c.requires.plain;
      asked = c.scopes.invariant.1;
    }

pub find_full-requires : goal.find_full-requires
find_full-requires c =
    let o = c.args.origin in
    let files = o.files.now in
    let parts = c.parts-parts.ensures.parts ∙ c.lead-lead.ensures.lead in
    record {
      packages = subst (λ (l : List ℕ). IsRangeOf files c.packages_at-packages.result l) (sym parts)
          (c.packages_at-packages.ensures.packages files (subst (λ (xs : List Asked). AreAsked files o.scope.now.1 xs) (sym c.deref.ensures.value) c.in_ok-place.ensures.asked));
      place = c.in_ok-place.ensures.first ∙ ap (λ (l : List ℕ). meaning files (l ++ c.args.name.now)) (sym parts);
    }

pub returns-in-Type : goal.returns-in-Type
returns-in-Type c =
    let o = c.args.origin in
    let files = o.files.now in
    let name = c.args.name.now in
    let leads = o.scope.now.1 in
    let outer = single files (scopes o.outward.root.now) name in
    let best = found_at c.unless_type-best.result in
    let within : c.scopes.i < length leads = omega (arith, c.scopes-test.true, c.depth-depth.ensures.depth) in
    record {
      is = sym (single_step files name leads c.scopes.i (found_at c.scopes.best) (found_at c.in_ok-find_full.field-0) best outer _ within
          (c.in_ok-find_full.ensures.is ∙ ap (λ (l : List ℕ). found files (l ++ name)) (c.parts-parts.ensures.parts ∙ c.lead-lead.ensures.lead)) c.unless_type-best.ensures.is c.scopes.invariant.0
          ∙ stays_type best (single_from files (drop (c.scopes.i + 1) leads) outer name) c.in-Type.field-0.file.now c.in-Type.field-0.definition.now
          (ap (λ (h : Hit). found_at h) c.in-Type.is));
      asked = c.in_ok-place.ensures.asked;
    }

pub scopes-preserved : goal.scopes-preserved
scopes-preserved c =
    let o = c.args.origin in
    let files = o.files.now in
    let name = c.args.name.now in
    let leads = o.scope.now.1 in
    let within : c.scopes.i < length leads = omega (arith, c.scopes-test.true, c.depth-depth.ensures.depth) in (
      single_step files name leads c.scopes.i (found_at c.scopes.best) (found_at c.in_ok-find_full.field-0) (found_at c.unless_type-best.result)
          (single files (scopes o.outward.root.now) name) _ within
          (c.in_ok-find_full.ensures.is ∙ ap (λ (l : List ℕ). found files (l ++ name)) (c.parts-parts.ensures.parts ∙ c.lead-lead.ensures.lead)) c.unless_type-best.ensures.is c.scopes.invariant.0,
      c.in_ok-place.ensures.asked,
    )

pub single_outward-further-requires : goal.single_outward-further-requires
single_outward-further-requires c =
    let o = c.args.origin in
    let are = c.requires.origin in
    record {
      near = near_outer c.args.near.now o.files.now o.scope.now.1 o.outward.root.now o.scope.now.0 are.inner are.near;
      outward = are.outward;
      some = c.requires.some;
      plain = c.requires.plain;
    }

pub returns : goal.returns
returns c =
    let o = c.args.origin in
    let files = o.files.now in
    let name = c.args.name.now in
    let best = found_at c.scopes.best in
    let past : length o.scope.now.1 ≤ c.scopes.i = omega (arith, c.scopes-test.false, c.depth-depth.ensures.depth) in
    record {
      is = c.unless_type.ensures.is
          ∙ ap (λ (f : Found). unless_type best f) c.single_outward-further.ensures.is
          ∙ sym (single_end files name o.scope.now.1 c.scopes.i best (single files (scopes o.outward.root.now) name) _ past c.scopes.invariant.0);
      asked = c.scopes.invariant.1;
    }
