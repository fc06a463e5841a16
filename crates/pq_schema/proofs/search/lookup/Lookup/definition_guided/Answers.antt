use Rattle.std.proofs.Common.{ℕ, List, Option, sym, ap, subst, ◌∙◌}
use Rattle.std.specs.Prelude.{Vec}
use Rattle.std.specs.declared.alloc.Global.{Global}
use Rattle.pq_schema.specs.declared.scope.scope.FileDefs.{FileDefs}
use Rattle.pq_schema.specs.Resolution.{meaning}
use Rattle.pq_schema.specs.aux.FirstOf.{definition_in, first_near}
use Rattle.pq_schema.specs.aux.Grouping.{AreNear, around}
use Rattle.pq_schema.specs.aux.NearNames.{HasAll, Rises}
use Rattle.pq_schema.proofs.FirstNear.{near_meaning, rises_from}
use Rattle.pq_schema.proofs.NearNames.{Entry}
use Rattle.pq_schema.proofs.search.lookup.Lookup.definition_guided.Goals as goal

pub first_indexed-requires-clause-rising : goal.first_indexed-requires-clause-rising
first_indexed-requires-clause-rising c =
    let all = c.self.inside.all.items in
    let near : (roots : List (List ℕ)) → AreNear all c.self.inside.files.now roots =
    subst (λ (o : Option (Vec Entry Global)). HasAll o all c.self.inside.files.now) c.in-Some.is c.self.invariant.1 in
    subst Rises (sym c.deref.ensures.value) (rises_from all (near (around c.args.name.now)).rising)

pub returns-in-Some : goal.returns-in-Some
returns-in-Some c =
    let files = c.args.files.now in
    let all = c.self.inside.all.items in
    let name = c.args.name.now in
    let near : (roots : List (List ℕ)) → AreNear all c.self.inside.files.now roots =
    subst (λ (o : Option (Vec Entry Global)). HasAll o all c.self.inside.files.now) c.in-Some.is c.self.invariant.1 in
    record {
      first = near_meaning files all name c.first_indexed.result
          (subst (λ (fs : List FileDefs). AreNear all fs (around name)) (c.self.view_is ∙ sym c.requires.files) (near (around name))) c.requires.below
          (c.first_indexed.ensures.first ∙ ap (first_near (definition_in name) files) c.deref.ensures.value)
          ∙ ap (λ (fs : List FileDefs). meaning fs name) c.requires.files;
    }

pub returns-in-None : goal.returns-in-None
returns-in-None c =
    let files = c.args.files.now in
    let near = c.args.near.now in
    let name = c.args.name.now in
    record {
      first = near_meaning files near name c.first_definition.result (subst (λ (fs : List FileDefs). AreNear near fs (around name)) (sym c.requires.files) c.requires.near)
          c.requires.below c.first_definition.ensures.first
          ∙ ap (λ (fs : List FileDefs). meaning fs name) c.requires.files;
    }
