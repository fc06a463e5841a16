use Rattle.std.proofs.Common.{List, sym, subst, ◌∙◌}
use Rattle.pq_schema.specs.declared.scope.scope.FileDefs.{FileDefs}
use Rattle.pq_rules.specs.Relations.{Each}
use Rattle.pq_schema.specs.aux.Grouping.{IsBelow}
use Rattle.pq_schema.proofs.CommonFronts.{no_guides}
use Rattle.pq_schema.proofs.search.lookup.Lookup.definition.Goals as goal

pub definition_guided-requires : goal.definition_guided-requires
definition_guided-requires c =
    record {
      files = c.files.ensures.value ∙ c.self.view_is;
      below = subst (λ (fs : List FileDefs). Each IsBelow fs) (sym c.files.ensures.value) c.files.ensures.below;
      near = c.requires.near;
      guides = no_guides c.files.result.now c.args.name.now;
    }
