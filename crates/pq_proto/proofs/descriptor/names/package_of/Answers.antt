use Rattle.std.proofs.Common.{◌+◌, drop, sym, ap, ◌∙◌}
use Rattle.pq_syntax.specs.declared.tree.Statement.{Statement}
use Rattle.pq_schema.specs.Definitions.{first_package, package_of}
use Rattle.pq_schema.proofs.Packages.{no_package, package_at, package_end}
use Rattle.pq_proto.proofs.descriptor.names.package_of.Goals as goal

pub returns-in-Package : goal.returns-in-Package
returns-in-Package c =
    let nodes = c.args.nodes.now in
    let n = c.nodes.node-index in
    c.as_str.ensures.same
    ∙ sym (ap (λ (s : Statement). first_package s (package_of (drop (n + 1) nodes))) c.in-Package.is)
    ∙ sym (package_at nodes n c.node-item.result c.nodes-test.true c.node-item.is) ∙ c.nodes.invariant

pub nodes-preserved : goal.nodes-preserved
nodes-preserved c =
    let nodes = c.args.nodes.now in
    let n = c.nodes.node-index in
    sym (no_package c.node-item.result.statement (package_of (drop (n + 1) nodes)) c.in_default.not-Package)
    ∙ sym (package_at nodes n c.node-item.result c.nodes-test.true c.node-item.is) ∙ c.nodes.invariant

pub returns : goal.returns
returns c =
    let nodes = c.args.nodes.now in
    sym (package_end nodes c.nodes.node-index c.nodes-test.false) ∙ c.nodes.invariant
