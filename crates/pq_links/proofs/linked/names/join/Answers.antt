use Rattle.std.proofs.Common.{◌∷◌, ◌++◌, [], ap, ◌∙◌}
use Rattle.std.proofs.lemmas.Result.{IfOk-weaker}
use Rattle.pq_links.specs.Visibility.{links_by}
use Rattle.pq_links.proofs.JoinSteps.{links_last}
use Rattle.pq_links.proofs.linked.names.join.Goals as goal

pub returns : goal.returns
returns c =
    let own = c.in_ok-file.ensures.value ∙ c.in_ok-copy.ensures.copy in
    record {
      links = IfOk-weaker c.new-2.result _ _
          (λ all e. e ∙ links_last c.in_ok-file.file c.args.pairs.now c.args.last.now c.args.links.now c.in_ok-exports.exports c.in_ok-visible.visible c.in_ok-reach.reach
          c.in_ok-exports.ensures.names c.in_ok-visible.ensures.names c.in_ok-reach.ensures.names
          ∙ ap (λ file. links_by file (c.args.pairs.now ++ (c.args.last.now, c.args.links.now) ∷ [])) own)
          c.new-2.ensures.value;
    }
