use Rattle.pq_checks.specs.aux.Seen.{setting_faults}
use Rattle.pq_checks.proofs.Passes.{each_more, each_all, numbered_at, numbered_within, numbered_past}
use Rattle.pq_checks.proofs.lines.unread_lines.push_settings.Goals as goal

pub settings-preserved : goal.settings-preserved
settings-preserved c =
    let settings = c.args.settings.now in
    let i = c.settings.nth in
    let x = c.index-settings-nth.result in
    each_more (setting_faults c.args.item) _ _ _ _ i (i, x) (numbered_within settings i c.settings-test.true)
    (numbered_at settings i x c.settings-test.true c.index-settings-nth.is) c.in_ok-push_kind.ensures c.settings.invariant

pub returns : goal.returns
returns c = each_all (setting_faults c.args.item) _ _ _ _ (numbered_past c.args.settings.now c.settings.nth c.settings-test.false) c.settings.invariant
