use Rattle.std.proofs.Common.{string_bytes}
use Rattle.pq_session.specs.Cuts.{after_cuts}
use Rattle.pq_session.proofs.CutLemmas.{one_more, no_more}
use Rattle.pq_session.proofs.editor.cuts.after_each.Goals as goal

pub changes-preserved : goal.changes-preserved
changes-preserved c =
    one_more (string_bytes c.changes.text) (string_bytes c.in_ok-text-2.text) (after_cuts c.args.before.now c.args.changes.now) c.args.changes.now c.changes.k c.index-changes-k.result c.changes-test.true c.index-changes-k.is (c.in_ok-text-2.ensures {u = tt}) c.changes.invariant

pub returns : goal.returns
returns c = no_more (string_bytes c.changes.text) (after_cuts c.args.before.now c.args.changes.now) c.args.changes.now c.changes.k c.changes-test.false c.changes.invariant
