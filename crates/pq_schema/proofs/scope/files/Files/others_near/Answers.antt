use Rattle.std.proofs.Common.{List, ap, ◌∙◌}
use Rattle.std.specs.Prelude.{filter}
use Rattle.std.proofs.lemmas.Result.{IfOk-weaker}
use Rattle.pq_schema.specs.declared.scope.scope.FileDefs.{FileDefs}
use Rattle.pq_schema.specs.aux.FirstOf.{is_other_at}
use Rattle.pq_schema.proofs.scope.files.Files.others_near.Goals as goal

pub returns : goal.returns
returns c =
    let file = c.args.file.now in
    record {
      others = IfOk-weaker c.others_of.result _ _
          (λ v h. record {
            near = c.in_ok-near.near.items;
            are = c.in_ok-near.ensures.near;
            is = h
                ∙ ap (λ (fs : List FileDefs). filter (is_other_at file fs) c.deref-2.result.now) (c.deref.ensures.value ∙ c.self.view_is)
                ∙ ap (filter (is_other_at file c.args.self.now)) c.deref-2.ensures.value;
          })
          c.others_of.ensures.others;
    }
