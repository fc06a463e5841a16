use Rattle.std.proofs.Common.{List, [], ◌++◌, ◌∷◌, Option, refl, sym, ◌∙◌, subst}
use Rattle.pq_memo.specs.Sound.{Memo}
use Rattle.pq_memo.specs.Table.{memo_at, KeptOver}
use Rattle.pq_memo.specs.Writes.{IsConfirmed}
use Rattle.pq_memo.specs.Frames.{frame_keys}
use Rattle.pq_memo.specs.aux.Demand.{HasConfirmed}
use Rattle.pq_memo.proofs.Confirming.{confirmed_none, confirmed_step}
use Rattle.pq_memo.proofs.table.memos.Memos.confirm.Goals as goal

pub marks-init : goal.marks-init
marks-init g c = record {
  rules = refl;
  kept = c.requires.kept;
  confirmed = confirmed_none (g.R.Rules.machine c.args.self.now.rules) c.args.inputs.now.revision (memo_at g.R.Key.Ord.cmp c.args.self.now.places)
      (frame_keys (c.args._stack.now ++ c.args.frame.now ∷ []));
}

pub returns-then-not-start-clause-confirmed : goal.returns-then-not-start-clause-confirmed
returns-then-not-start-clause-confirmed g c =
    confirmed_none (g.R.Rules.machine c.args.self.now.rules) c.args.inputs.now.revision (memo_at g.R.Key.Ord.cmp c.args.self.now.places)
    (frame_keys (c.args._stack.now ++ c.args.frame.now ∷ []))

pub returns-then-not-confirm_slot-clause-confirmed : goal.returns-then-not-confirm_slot-clause-confirmed
returns-then-not-confirm_slot-clause-confirmed g c =
    subst (λ (now : List (g.row.R-Key.Denot × Option (Memo g.row.R-Key.Denot g.row.R-Value.Denot))). HasConfirmed (g.R.Rules.machine c.args.self.now.rules) c.args.inputs.now.revision
    (memo_at g.R.Key.Ord.cmp c.args.self.now.places) (memo_at g.R.Key.Ord.cmp now) (frame_keys (c.args._stack.now ++ c.args.frame.now ∷ [])))
    (sym (c.confirm_slot.ensures.left c.if-not-confirm_slot.true)) c.marks.invariant.confirmed

pub marks-preserved : goal.marks-preserved
marks-preserved g c = record {
  rules = c.confirm_slot.ensures.rules ∙ c.marks.invariant.rules;
  kept = subst (λ (r : g.row.R.Denot). KeptOver g.R.Key.Ord.cmp (g.R.Rules.machine r) c.args.inputs.now c.confirm_slot.new.self.places)
      c.marks.invariant.rules c.confirm_slot.ensures.kept;
  confirmed = confirmed_step g.R.Key.Ord.cmp (record { total = g.met.R.Key.Ord.total; exact = (g.met.R.Rules.lawful c.args.self.now.rules []).exact })
      (g.R.Rules.machine c.args.self.now.rules) c.args.inputs.now (memo_at g.R.Key.Ord.cmp c.args.self.now.places) c.marks.self.places c.in-Some.next
      c.confirm_slot.new.self.places c.args._stack.now c.args.frame.now c.requires.linked c.requires.stale c.requires.caused
      c.marks.invariant.kept c.marks.invariant.confirmed (c.is_other.ensures c.if-not-is_other.false)
      (subst (λ (r : g.row.R.Denot). IsConfirmed g.R.Key.Ord.cmp (g.R.Rules.machine r) c.args.inputs.now c.marks.self.places c.in-Some.next c.confirm_slot.new.self.places)
      c.marks.invariant.rules (c.confirm_slot.ensures.confirmed c.if-not-confirm_slot.false));
}
