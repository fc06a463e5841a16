use Rattle.std.proofs.Common.{◌≡◌, ◌+◌, [], drop, sym, ap, ◌∙◌}
use Rattle.std.proofs.lemmas.Result.{IfOk-weaker}
use Rattle.pq_syntax.specs.declared.tree.Statement.{Statement}
use Rattle.pq_schema.specs.Definitions.{first_package, package_of}
use Rattle.pq_schema.proofs.Packages.{no_package, package_at, package_end}
use Rattle.pq_schema.proofs.define.outline.package_of.Goals as goal

pub returns-in-Package : goal.returns-in-Package
returns-in-Package c =
    let nodes = c.args.nodes.now in
    let n = c.nodes.node-index in
    let is : c.in-Package.name.text ≡ package_of nodes =
    sym (ap (λ (s : Statement). first_package s (package_of (drop (n + 1) nodes))) c.in-Package.is)
    ∙ sym (package_at nodes n c.node-item.result c.nodes-test.true c.node-item.is) ∙ c.nodes.invariant in
    IfOk-weaker c.copy.result _ _ (λ _ h. h ∙ is) c.copy.ensures.copy

pub nodes-preserved : goal.nodes-preserved
nodes-preserved c =
    let nodes = c.args.nodes.now in
    let n = c.nodes.node-index in
    sym (no_package c.node-item.result.statement (package_of (drop (n + 1) nodes)) c.in_default.not-Package)
    ∙ sym (package_at nodes n c.node-item.result c.nodes-test.true c.node-item.is) ∙ c.nodes.invariant

pub returns : goal.returns
returns c =
    let nodes = c.args.nodes.now in
    let is : [] ≡ package_of nodes = sym (package_end nodes c.nodes.node-index c.nodes-test.false) ∙ c.nodes.invariant in
    IfOk-weaker c.new.result _ _ (λ _ h. h ∙ is) c.new.ensures.copy
