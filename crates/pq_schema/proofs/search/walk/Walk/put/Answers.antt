use Rattle.std.proofs.Common.{◌++◌, ◌∷◌, [], ℕ, List, map, ap, ◌∙◌}
use Rattle.pq_links.specs.declared.places.TypePart.{TypePart}
use Rattle.pq_schema.specs.Resolution.{Found, scopes, search}
use Rattle.pq_schema.specs.declared.search.uses.Use.{Use}
use Rattle.pq_schema.specs.aux.Inside.{used}
use Rattle.pq_schema.proofs.ResolvedRuns.{put_more}
use Rattle.pq_schema.proofs.search.walk.Walk.put.Goals as goal

pub returns : goal.returns
returns c =
    let o = c.args.origin in
    let kept = c.in_ok-hit.ensures.walk in
    let same = c.in_ok-hit.ensures.is ∙ ap (λ (n : List ℕ). search o.files.now (scopes o.scope.now.0) n) c.as_str.ensures.same in
    let found : ℕ × (TypePart × Found) = (c.args.item, (c.args.part, search o.files.now (scopes o.scope.now.0) c.args.name.now.text)) in
    record {
      found = put_more c.find.new.self.uses.items c.push.new.self.items _ found c.in_ok-push.ensures.items (ap (λ (f : Found). (c.args.item, (c.args.part, f))) same)
          ∙ ap (λ (us : List Use). map used us ++ found ∷ []) c.in_ok-hit.ensures.uses;
      walk = record { outward = kept.outward; inner = kept.inner; near = kept.near; asked = kept.asked };
    }
