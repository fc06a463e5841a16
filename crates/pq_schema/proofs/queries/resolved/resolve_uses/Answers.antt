use Rattle.std.proofs.Common.{sym, ◌∙◌}
use Rattle.pq_schema.proofs.ResolvedRuns.{resolved_end, resolved_more}
use Rattle.pq_schema.proofs.queries.resolved.resolve_uses.Goals as goal

pub uses-preserved : goal.uses-preserved
uses-preserved c =
    resolved_more c.args.visible.now c.args.reached.now c.uses.resolved.items c.push.new.self.items _ c.uses.i
    c.index-visible-i.result c.in_ok-resolve_at.field-0 _
    c.uses-test.true (sym c.index-visible-i.is) c.hit_or_nothing-further.ensures.is
    c.in_ok-resolve_at.ensures.resolved c.in_ok-push.ensures.items c.uses.invariant

pub returns : goal.returns
returns c = record { resolved = c.new.ensures ∙ resolved_end c.args.visible.now c.args.reached.now c.uses.resolved.items _ c.uses.i c.uses-test.false c.uses.invariant }
