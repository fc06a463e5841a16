use Rattle.std.proofs.Common.{List, ℕ, Option, sym, subst}
use Rattle.std.specs.Prelude.{Vec}
use Rattle.std.specs.declared.alloc.Global.{Global}
use Rattle.pq_schema.specs.aux.NearNames.{AreNames, IsNamesOf}
use Rattle.pq_schema.proofs.NearNames.{Entry}
use Rattle.pq_schema.proofs.scope.named.first_listed.Goals as goal

pub first_indexed-requires-clause-names : goal.first_indexed-requires-clause-names
first_indexed-requires-clause-names c =
    subst (λ (es : List Entry). IsNamesOf es c.args.files.now c.args.places.now) (sym c.deref.ensures.value)
    (subst (λ (o : Option (Vec Entry Global)). AreNames o c.args.files.now c.args.places.now) c.in-Some.is c.requires.names)
