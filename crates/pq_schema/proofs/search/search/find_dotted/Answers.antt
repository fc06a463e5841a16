use Rattle.std.proofs.Common.{◌++◌, ◌≤◌, [], get_or, List, ℕ, arith, length, true, false, sym, ap, subst, ◌∙◌}
use Rattle.std.proofs.lemmas.Result.{IfOk-weaker}
use Rattle.pq_schema.specs.Resolution.{decides, dotted, found, meaning, scopes}
use Rattle.pq_schema.specs.aux.Fronts.{Begins}
use Rattle.pq_schema.specs.aux.NameParts.{leading}
use Rattle.pq_schema.specs.aux.PackageRange.{IsRangeOf}
use Rattle.pq_schema.specs.declared.search.asked.Asked.{Asked}
use Rattle.pq_schema.specs.aux.Asked.{AreAsked}
use Rattle.pq_schema.proofs.Answered.{asked_on}
use Rattle.pq_schema.proofs.Inside.{dotted_end, dotted_step, each_at, near_outer}
use Rattle.pq_schema.proofs.CommonFronts.{full_begins}
use Rattle.pq_schema.proofs.search.search.find_dotted.Goals as goal

pub look_inside-requires : goal.look_inside-requires
look_inside-requires c =
    record {
      origin = c.requires.origin;
      at = omega (arith, c.scopes-test.true, c.depth-depth.ensures.depth);
      plain = c.requires.plain;
      asked = c.scopes.invariant.1;
    }

pub decides-requires : goal.decides-requires
decides-requires c =
    let o = c.args.origin in
    let files = o.files.now in
    let parts = c.parts-parts.ensures.parts ∙ c.lead-lead.ensures.lead in
    record {
      packages = subst (λ (l : List ℕ). IsRangeOf files c.packages_at-packages.result l) (sym parts)
          (c.packages_at-packages.ensures.packages files (subst (λ (xs : List Asked). AreAsked files o.scope.now.1 xs) (sym c.deref.ensures.value) c.in_ok-place.ensures.asked));
      place = c.in_ok-place.ensures.first ∙ ap (λ (l : List ℕ). meaning files (l ++ c.args.first.now)) (sym parts);
    }

pub find_below-requires : goal.find_below-requires
find_below-requires c =
    let o = c.args.origin in
    let files = o.files.now in
    let leads = o.scope.now.1 in
    let root = o.outward.root.now in
    let name = c.args.name.now in
    let are = c.requires.origin in
    let parts = c.parts-parts.ensures.parts ∙ c.lead-lead.ensures.lead in
    record {
      files = are.outward.of_files;
      front = full_begins root o.outward.along.now.root (get_or leads c.scopes.i []) name _ are.outward.of_root (ap (λ (l : List ℕ). l ++ name) parts)
          (each_at (λ (l : List ℕ). Begins (leading root) l) leads c.scopes.i [] are.inner.begin (omega (arith, c.scopes-test.true, c.depth-depth.ensures.depth)));
      packages = subst (λ (l : List ℕ). IsRangeOf files c.packages_at-packages.result l) (sym parts)
          (c.packages_at-packages.ensures.packages files (subst (λ (xs : List Asked). AreAsked files leads xs) (sym c.deref.ensures.value) c.in_ok-place.ensures.asked));
    }

pub returns-then-branch : goal.returns-then-branch
returns-then-branch c =
    let o = c.args.origin in
    let files = o.files.now in
    let first = c.args.first.now in
    let name = c.args.name.now in
    let parts = c.parts-parts.ensures.parts ∙ c.lead-lead.ensures.lead in
    let step = dotted_step files first name o.scope.now.1 c.scopes.i true (dotted files (scopes o.outward.root.now) first name) _
    (omega (arith, c.scopes-test.true, c.depth-depth.ensures.depth))
    (sym c.if-branch.true ∙ c.in_ok-decides.ensures.is ∙ ap (λ (l : List ℕ). decides files (l ++ first)) parts) c.scopes.invariant.0 in
    record {
      is = IfOk-weaker c.find_below.result _ _
          (λ hit h. h ∙ ap (λ (l : List ℕ). found files (l ++ name)) parts ∙ sym step)
          c.find_below.ensures.is;
      asked = asked_on c.find_below.result c.in_ok-place.ensures.asked;
    }

pub scopes-preserved : goal.scopes-preserved
scopes-preserved c =
    let o = c.args.origin in
    let files = o.files.now in
    let first = c.args.first.now in
    let name = c.args.name.now in (
      dotted_step files first name o.scope.now.1 c.scopes.i false (dotted files (scopes o.outward.root.now) first name) _
          (omega (arith, c.scopes-test.true, c.depth-depth.ensures.depth))
          (sym c.if-branch.false ∙ c.in_ok-decides.ensures.is ∙ ap (λ (l : List ℕ). decides files (l ++ first)) (c.parts-parts.ensures.parts ∙ c.lead-lead.ensures.lead)) c.scopes.invariant.0,
      c.in_ok-place.ensures.asked,
    )

pub dotted_outward-requires : goal.dotted_outward-requires
dotted_outward-requires c =
    let o = c.args.origin in
    let are = c.requires.origin in
    record {
      near = near_outer c.args.near.now o.files.now o.scope.now.1 o.outward.root.now o.scope.now.0 are.inner are.near;
      outward = are.outward;
      some = c.requires.some;
      plain = c.requires.plain;
    }

pub returns : goal.returns
returns c =
    let o = c.args.origin in
    let files = o.files.now in
    let first = c.args.first.now in
    let name = c.args.name.now in
    let past : length o.scope.now.1 ≤ c.scopes.i = omega (arith, c.scopes-test.false, c.depth-depth.ensures.depth) in
    record {
      is = IfOk-weaker c.dotted_outward.result _ _
          (λ hit h. h ∙ sym (dotted_end files first name o.scope.now.1 c.scopes.i (dotted files (scopes o.outward.root.now) first name) _ past c.scopes.invariant.0))
          c.dotted_outward.ensures.is;
      asked = asked_on c.dotted_outward.result c.scopes.invariant.1;
    }
