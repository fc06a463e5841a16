use Rattle.std.proofs.Common.{◌≡◌, None}
use Rattle.std.proofs.lemmas.Result.{IfOk-weaker}
use Rattle.std.specs.BTreeMap.{get}
use Rattle.std.specs.Cmp.Lexicographic.{slice_cmp}
use Rattle.std.specs.Ordering.{nat_cmp}
use Rattle.pq_schema.proofs.Gathering.{added_first}
use Rattle.pq_schema.proofs.scope.collected.add_file.Goals as goal

pub returns-in-None : goal.returns-in-None
returns-in-None c =
    let none : get (slice_cmp nat_cmp) c.args.index.now c.args.file.now.file ≡ None = cc (c.in-None.ensures.value, c.in-None.is) in
    record {
      first = IfOk-weaker c.add_new.result _ _
          (λ x h. added_first (λ n. get (slice_cmp nat_cmp) c.args.index.now n) (λ n. get (slice_cmp nat_cmp) c.add_new.new.index n) c.args.file.now none h)
          c.add_new.ensures.added;
    }
