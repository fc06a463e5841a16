use Rattle.std.proofs.Common.{◌≡◌, List}
use Rattle.pq_rules.specs.Relations.{Each}
use Rattle.pq_memo.specs.declared.stepping.frame.Frame.{Frame}
use Rattle.pq_memo.specs.Table.{memo_at}
use Rattle.pq_memo.specs.Frames.{AreMembers, frame_keys}
use Rattle.pq_core.specs.aux.Rings.{HasFrame}
use Rattle.pq_core.proofs.RingMembers.{IsMade}
use Rattle.pq_core.proofs.steps.closing.ring_members.Given as goal

abbrev pub invariant-keys : goal.invariant-keys
invariant-keys g l =
    (fs : List (Frame g.row.R-Key.Denot g.row.R-Part.Denot)) → frame_keys fs ≡ l.ring → Each (HasFrame l.runs.items) fs
    → IsMade (λ done. AreMembers g.R.Key.Ord.cmp (g.R.Rules.machine l.memos.rules) l.inputs.history l.inputs.revision (memo_at g.R.Key.Ord.cmp l.memos.places) done l.members.items) l.i fs
