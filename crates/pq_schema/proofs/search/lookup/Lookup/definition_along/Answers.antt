use Rattle.std.proofs.Common.{List, sym, subst, ◌∙◌}
use Rattle.pq_schema.specs.declared.scope.scope.FileDefs.{FileDefs}
use Rattle.pq_rules.specs.Relations.{Each}
use Rattle.pq_schema.specs.aux.Grouping.{IsBelow}
use Rattle.pq_schema.proofs.CommonFronts.{along_guides}
use Rattle.pq_schema.proofs.search.lookup.Lookup.definition_along.Goals as goal

pub definition_guided-requires : goal.definition_guided-requires
definition_guided-requires c =
    record {
      files = c.files.ensures.value ∙ c.self.view_is;
      below = subst (λ (fs : List FileDefs). Each IsBelow fs) (sym c.files.ensures.value) c.files.ensures.below;
      near = c.requires.near;
      guides = along_guides c.fronts.result.now c.args.start c.files.result.now c.args.along.now.files c.args.along.now.root c.args.name.now
          c.fronts.ensures.fronts (c.requires.files ∙ sym (c.files.ensures.value ∙ c.self.view_is)) (subst (λ (fs : List FileDefs). Each IsBelow fs) (sym c.files.ensures.value) c.files.ensures.below) c.requires.front;
    }
