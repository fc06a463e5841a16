use Rattle.std.proofs.lemmas.Result.{IfOk-weaker}
use Rattle.pq_syntax.specs.declared.tree.Statement.TheVariants as statement
use Rattle.pq_syntax.proofs.SpannedNodes.{named_node}
use Rattle.pq_syntax.proofs.loose.showing.push_shown.Goals as goal

pub returns-in_ok-name-in-Package : goal.returns-in_ok-name-in-Package
returns-in_ok-name-in-Package c =
    rw c.in-Package.is
    (IfOk-weaker c.push_node.result _ _
    (λ u h. named_node (λ n. statement.Package n) c.args.text.now c.in-Package.count c.args.depth c.args.tokens.now c.first-spanned.result.now c.in_ok-name-in-Package.name _ _ c.first-spanned.ensures c.in_ok-name-in-Package.ensures (h c.args.text.now))
    c.push_node.ensures)
