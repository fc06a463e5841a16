use Rattle.std.proofs.Common.{false}
use Rattle.std.proofs.lemmas.Result.{IfOk-weaker}
use Rattle.pq_proto.proofs.RuleMeaning.{proto_means}
use Rattle.pq_proto.proofs.rules.compilation.compile.Goals as goal

pub returns : goal.returns
returns c = record {
  compiled = IfOk-weaker c.from_scratch.result _ _ (λ a h. (proto_means false c.args.inputs.now.files c.args.key.now a).0 h) c.from_scratch.ensures.value;
}
