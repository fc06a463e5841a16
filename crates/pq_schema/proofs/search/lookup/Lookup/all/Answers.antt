use Rattle.std.proofs.Common.{ℕ, List, Bool, sym, subst}
use Rattle.pq_schema.specs.declared.scope.scope.FileDefs.{FileDefs}
use Rattle.pq_schema.specs.aux.Grouping.{AreNear}
use Rattle.pq_schema.specs.aux.Inside.{AsksAll}
use Rattle.pq_schema.proofs.search.lookup.Lookup.all.Goals as goal

pub returns-then-self : goal.returns-then-self
returns-then-self c =
    let files = c.self.inside.files.now in
    let all = c.self.inside.all.items in
    let near : (roots : List (List ℕ)) → AreNear all files roots =
    subst (λ (b : Bool). AsksAll b all files) c.if-self.true c.self.invariant.2 in
    record {
      all = λ roots. subst (λ (ks : List ℕ). AreNear ks c.args.self.now roots) (sym c.deref.ensures.value)
          (subst (λ (fs : List FileDefs). AreNear all fs roots) c.self.view_is (near roots));
    }
