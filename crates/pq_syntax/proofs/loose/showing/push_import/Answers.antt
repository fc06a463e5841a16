use Rattle.std.proofs.lemmas.Result.{IfOk-weaker}
use Rattle.pq_syntax.proofs.SpannedNodes.{import_node}
use Rattle.pq_syntax.proofs.loose.showing.push_import.Goals as goal

pub returns : goal.returns
returns c =
    IfOk-weaker c.push_node.result _ _
    (λ u h. import_node c.args.text.now c.args.count c.args.before c.args.depth c.args.tokens.now c.first-spanned.result.now c.after.result.now c.kind_at-kind.result c.in_ok-file.file _ _ c.first-spanned.ensures c.after.ensures c.kind_at-kind.ensures c.in_ok-file.ensures (h c.args.text.now))
    c.push_node.ensures
