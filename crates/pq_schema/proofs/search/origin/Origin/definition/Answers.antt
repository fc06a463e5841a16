use Rattle.std.proofs.Common.{◌≡◌, ◌++◌, ℕ, List, [], get_or, sym, ap, subst, ◌∙◌}
use Rattle.pq_schema.specs.Resolution.{meaning}
use Rattle.pq_schema.specs.aux.Fronts.{Begins}
use Rattle.pq_schema.specs.aux.Grouping.{AreNear, around}
use Rattle.pq_schema.specs.aux.NameParts.{leading}
use Rattle.pq_schema.proofs.CommonFronts.{full_begins}
use Rattle.pq_schema.proofs.Inside.{each_at, near_inner}
use Rattle.pq_schema.proofs.search.origin.Origin.definition.Goals as goal

pub definition_below-requires : goal.definition_below-requires
definition_below-requires c =
    let o = c.args.self in
    let files = o.files.now in
    let near = c.args.near.now in
    let name = c.args.name.now in
    let leads = o.scope.now.1 in
    let root = o.outward.root.now in
    let are = c.requires.origin in
    let spelled : c.spell-full.result ≡ get_or leads c.args.at [] ++ name = c.spell-full.ensures.name ∙ ap (λ (l : List ℕ). l ++ name) c.lead-lead.ensures.lead in
    record {
      near = subst (λ (n : List ℕ). AreNear near files (around n)) (sym spelled)
          (each_at (λ (l : List ℕ). AreNear near files (around (l ++ name))) leads c.args.at []
          (near_inner near files leads root o.scope.now.0 are.inner are.near name c.requires.plain) c.requires.at);
      files = are.outward.of_files;
      front = full_begins root o.outward.along.now.root (get_or leads c.args.at []) name _ are.outward.of_root spelled
          (each_at (λ (l : List ℕ). Begins (leading root) l) leads c.args.at [] are.inner.begin c.requires.at);
    }

pub returns : goal.returns
returns c =
    let o = c.args.self in
    record {
      first = c.definition_below.ensures.first
          ∙ ap (λ (n : List ℕ). meaning o.files.now n) (c.spell-full.ensures.name ∙ ap (λ (l : List ℕ). l ++ c.args.name.now) c.lead-lead.ensures.lead);
    }
