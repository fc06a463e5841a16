use Rattle.std.proofs.Common.{List, refl, inr, sym, subst}
use Rattle.pq_memo.specs.Table.{memo_at, HasIn}
use Rattle.pq_memo.specs.Frames.{Came}
use Rattle.pq_core.proofs.runs.frames.Frames.start.Goals as goal

pub returns-clause-frames_kept : goal.returns-clause-frames_kept
returns-clause-frames_kept g c = (
  c.requires.below,
  inr (
    (g.R.Rules.machine c.args.memos.now.rules).start c.args.key,
    subst (λ (l : List g.row.R-Key.Denot). Came g.R.Key.Ord.cmp (g.R.Rules.machine c.args.memos.now.rules) c.args.inputs.now.history c.args.inputs.now.revision
        (HasIn (memo_at g.R.Key.Ord.cmp c.args.memos.now.places)) c.args.key ((g.R.Rules.machine c.args.memos.now.rules).start c.args.key) l)
        (sym c.new-reads.ensures.items)
        (c.turns_are_right.ensures.starts c.args.inputs.now c.requires.kept c.args.key c.args.why c.requires.because),
  ),
)

pub returns-clause-away : goal.returns-clause-away
returns-clause-away g c = (record { key = c.args.key; reads = c.new-reads.result }, refl, refl)
