use Rattle.std.proofs.Common.{◌≡◌, ℕ, List, map, ap, inl, inr, subst, ◌∙◌}
use Rattle.std.specs.Prelude.{flat_map}
use Rattle.std.proofs.lemmas.Result.{IfOk-weaker}
use Rattle.pq_syntax.specs.Places.{places}
use Rattle.pq_schema.specs.Compile.{resolved_in}
use Rattle.pq_schema.specs.References.{references_at}
use Rattle.pq_schema.specs.declared.scope.scope.FileDefs.{FileDefs}
use Rattle.pq_schema.specs.declared.search.uses.Use.{Use}
use Rattle.pq_schema.specs.aux.Inside.{AreThere, resolved_uses, used, used_as}
use Rattle.pq_schema.proofs.ResolvedRuns.{resolved_all}
use Rattle.pq_schema.proofs.queries.resolved.resolve_nodes.Goals as goal

pub returns-then-sees_all : goal.returns-then-sees_all
returns-then-sees_all c =
    let s = c.args.scope.now in
    let root = c.args.root.now in
    let nodes = c.args.nodes.now in
    let refs = flat_map (references_at root) (places nodes) in
    let visible = c.in_ok-visible.visible.items in
    let seen : map used visible ≡ map (used_as s.visible) refs =
    c.in_ok-visible.ensures.found ∙ ap (λ (fs : List FileDefs). map (used_as fs) refs) c.visible_files.ensures.value in
    let all : s.visible ≡ s.reach = c.sees_all.ensures.all c.if-sees_all.true in
    let further = inl (seen ∙ ap (λ (fs : List FileDefs). map (used_as fs) refs) all) in
    record {
      resolved = IfOk-weaker c.resolve_uses.result _ _
          (λ rs h. h
          ∙ ap (λ (us : List Use). resolved_uses us c.deref-then-sees_all.result.now 0) c.deref.ensures.value
          ∙ ap (λ (us : List Use). resolved_uses visible us 0) c.deref-then-sees_all.ensures.value
          ∙ resolved_all s refs visible visible seen further
          ∙ ap (λ (r : List ℕ). map (resolved_in s) (flat_map (references_at r) (places nodes))) c.requires.root)
          c.resolve_uses.ensures.resolved;
    }

-- no reference is nothing in the visible files, so none is looked for further
pub returns-then-not-is_missing : goal.returns-then-not-is_missing
returns-then-not-is_missing c =
    let s = c.args.scope.now in
    let root = c.args.root.now in
    let nodes = c.args.nodes.now in
    let refs = flat_map (references_at root) (places nodes) in
    let visible = c.in_ok-visible.visible.items in
    let seen : map used visible ≡ map (used_as s.visible) refs =
    c.in_ok-visible.ensures.found ∙ ap (λ (fs : List FileDefs). map (used_as fs) refs) c.visible_files.ensures.value in
    let there : AreThere visible = subst AreThere c.deref-2.ensures.value (c.is_missing.ensures.there c.if-not-is_missing.true) in
    record {
      resolved = IfOk-weaker c.resolve_uses-then-not-is_missing.result _ _
          (λ rs h. h
          ∙ ap (λ (us : List Use). resolved_uses us c.deref-then-not-is_missing-2.result.now 0) c.deref-then-not-is_missing.ensures.value
          ∙ ap (λ (us : List Use). resolved_uses visible us 0) c.deref-then-not-is_missing-2.ensures.value
          ∙ resolved_all s refs visible visible seen (inr there)
          ∙ ap (λ (r : List ℕ). map (resolved_in s) (flat_map (references_at r) (places nodes))) c.requires.root)
          c.resolve_uses-then-not-is_missing.ensures.resolved;
    }

pub returns : goal.returns
returns c =
    let s = c.args.scope.now in
    let root = c.args.root.now in
    let nodes = c.args.nodes.now in
    let refs = flat_map (references_at root) (places nodes) in
    let visible = c.in_ok-visible.visible.items in
    let reached = c.in_ok-reached.reached.items in
    let seen : map used visible ≡ map (used_as s.visible) refs =
    c.in_ok-visible.ensures.found ∙ ap (λ (fs : List FileDefs). map (used_as fs) refs) c.visible_files.ensures.value in
    let further : map used reached ≡ map (used_as s.reach) refs =
    c.in_ok-reached.ensures.found ∙ ap (λ (fs : List FileDefs). map (used_as fs) refs) c.in_ok-files.ensures.files in
    record {
      resolved = IfOk-weaker c.resolve_uses-2.result _ _
          (λ rs h. h
          ∙ ap (λ (us : List Use). resolved_uses us c.deref-4.result.now 0) c.deref-3.ensures.value
          ∙ ap (λ (us : List Use). resolved_uses visible us 0) c.deref-4.ensures.value
          ∙ resolved_all s refs visible reached seen (inl further)
          ∙ ap (λ (r : List ℕ). map (resolved_in s) (flat_map (references_at r) (places nodes))) c.requires.root)
          c.resolve_uses-2.ensures.resolved;
    }
