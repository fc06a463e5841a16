use Rattle.std.proofs.Common.{ap, ◌∙◌}
use Rattle.std.proofs.lemmas.Result.{IfOk-weaker}
use Rattle.pq_schema.specs.ScopeContents.{Scope}
use Rattle.pq_schema.specs.Others.{first_other}
use Rattle.pq_schema.proofs.FirstNear.{others_first}
use Rattle.pq_schema.proofs.scope.scope.Scope.first_other.Goals as goal

pub returns : goal.returns
returns c =
    let file = c.args.file.now in
    let name = c.args.full_name.now in
    record {
      first = IfOk-weaker c.first_other.result _ _
          (λ o h. h ∙ others_first file name c.self.inside.visible ∙ ap (λ (s : Scope). first_other file name s) c.self.view_is)
          c.first_other.ensures.first;
    }
