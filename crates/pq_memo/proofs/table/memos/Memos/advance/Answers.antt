use Rattle.std.proofs.Common.{[], ◌∷◌, ◌++◌, Option, refl, sym, ap, subst, inl, inr}
use Rattle.pq_rules.specs.declared.turn.Answer.{Answer}
use Rattle.pq_rules.specs.Relations.{In}
use Rattle.pq_rules.proofs.Weight.{Exact}
use Rattle.pq_memo.specs.Sound.{Memo}
use Rattle.pq_memo.specs.Table.{memo_at, HasIn}
use Rattle.pq_memo.specs.Frames.{Came, Awaits, frame_keys}
use Rattle.pq_memo.specs.aux.Demand.{Linked, HasGone, HasEntered}
use Rattle.pq_memo.proofs.Wrote.{wrote_finished}
use Rattle.pq_memo.proofs.Stacked.{linked_last}
use Rattle.pq_memo.proofs.RoundTurned.{last_apart}
use Rattle.pq_memo.proofs.Advancing.{needs_awaits, needs_linked, needs_distinct, one_table, moved_to}
use Rattle.pq_memo.proofs.table.memos.Memos.advance.Goals as goal

pub step_hinted-requires-clause-frame : goal.step_hinted-requires-clause-frame
step_hinted-requires-clause-frame g c =
    (linked_last g.R.Key.Ord.cmp (g.R.Rules.machine c.args.self.now.rules) c.args.inputs.now (memo_at g.R.Key.Ord.cmp c.args.self.now.places)
    c.args.stack.now c.args.frame c.requires.linked).0

pub enter-requires-clause-linked : goal.enter-requires-clause-linked
enter-requires-clause-linked g c =
    let s = rw c.in-Ok-Needs.field-0-is at c.in-Ok-Needs.ensures.step in
    moved_to (λ (r : g.row.R.Denot) (t : g.row.R-Key.Denot → Option (Memo g.row.R-Key.Denot g.row.R-Value.Denot)).
    Linked g.R.Key.Ord.cmp (g.R.Rules.machine r) c.args.inputs.now t (c.args.stack.now ++ c.in-Ok-Needs.frame ∷ []))
    c.args.self.now.rules c.step_hinted.new.self.rules (memo_at g.R.Key.Ord.cmp c.args.self.now.places) (memo_at g.R.Key.Ord.cmp c.step_hinted.new.self.places)
    c.step_hinted.ensures.rules (one_table (memo_at g.R.Key.Ord.cmp c.args.self.now.places) (memo_at g.R.Key.Ord.cmp c.step_hinted.new.self.places) s.0)
    (needs_linked g.R.Key.Ord.cmp (g.R.Rules.machine c.args.self.now.rules) c.args.inputs.now (memo_at g.R.Key.Ord.cmp c.args.self.now.places)
    c.args.stack.now c.args.frame c.in-Ok-Needs.frame c.in-Ok-Needs.next s.1 s.2 s.3 c.requires.linked)

pub enter-requires-clause-distinct : goal.enter-requires-clause-distinct
enter-requires-clause-distinct g c =
    let s = rw c.in-Ok-Needs.field-0-is at c.in-Ok-Needs.ensures.step in
    needs_distinct c.args.stack.now c.args.frame c.in-Ok-Needs.frame s.1 c.requires.distinct

pub enter-requires-clause-awaits : goal.enter-requires-clause-awaits
enter-requires-clause-awaits g c =
    let s = rw c.in-Ok-Needs.field-0-is at c.in-Ok-Needs.ensures.step in
    moved_to (λ (r : g.row.R.Denot) (t : g.row.R-Key.Denot → Option (Memo g.row.R-Key.Denot g.row.R-Value.Denot)).
    Awaits g.R.Key.Ord.cmp (g.R.Rules.machine r) c.args.inputs.now.history c.args.inputs.now.revision (HasIn t) c.in-Ok-Needs.frame.key c.in-Ok-Needs.frame.stage c.in-Ok-Needs.next)
    c.args.self.now.rules c.step_hinted.new.self.rules (memo_at g.R.Key.Ord.cmp c.args.self.now.places) (memo_at g.R.Key.Ord.cmp c.step_hinted.new.self.places)
    c.step_hinted.ensures.rules (one_table (memo_at g.R.Key.Ord.cmp c.args.self.now.places) (memo_at g.R.Key.Ord.cmp c.step_hinted.new.self.places) s.0)
    (needs_awaits g.R.Key.Ord.cmp (g.R.Rules.machine c.args.self.now.rules) c.args.inputs.now (memo_at g.R.Key.Ord.cmp c.args.self.now.places)
    c.args.stack.now c.args.frame c.in-Ok-Needs.frame c.in-Ok-Needs.next s.1 s.2 s.3)

pub start-requires-clause-off : goal.start-requires-clause-off
start-requires-clause-off g c =
    let s = rw c.in-Ok-Starts.field-0-is at c.in-Ok-Starts.ensures.step in
    λ i. last_apart c.args.stack.now c.args.frame c.requires.distinct (subst (λ (k : g.row.R-Key.Denot). In k (frame_keys c.args.stack.now)) s.1 i)

pub resume-requires-clause-off : goal.resume-requires-clause-off
resume-requires-clause-off g c =
    let s = rw c.in-Ok-GoesOn.field-0-is at c.in-Ok-GoesOn.ensures.step in
    λ i. last_apart c.args.stack.now c.args.frame c.requires.distinct (subst (λ (k : g.row.R-Key.Denot). In k (frame_keys c.args.stack.now)) s.1 i)

pub resume-requires-clause-came : goal.resume-requires-clause-came
resume-requires-clause-came g c =
    let s = rw c.in-Ok-GoesOn.field-0-is at c.in-Ok-GoesOn.ensures.step in
    moved_to (λ (r : g.row.R.Denot) (t : g.row.R-Key.Denot → Option (Memo g.row.R-Key.Denot g.row.R-Value.Denot)).
    Came g.R.Key.Ord.cmp (g.R.Rules.machine r) c.args.inputs.now.history c.args.inputs.now.revision (HasIn t) c.in-Ok-GoesOn.key
    ((g.R.Rules.machine r).advance c.in-Ok-GoesOn.part c.get.result.now) c.in-Ok-GoesOn.reads.items)
    c.args.self.now.rules c.step_hinted.new.self.rules (memo_at g.R.Key.Ord.cmp c.args.self.now.places) (memo_at g.R.Key.Ord.cmp c.step_hinted.new.self.places)
    c.step_hinted.ensures.rules (one_table (memo_at g.R.Key.Ord.cmp c.args.self.now.places) (memo_at g.R.Key.Ord.cmp c.step_hinted.new.self.places) s.0)
    (moved_to (λ (k : g.row.R-Key.Denot) (a : Answer g.row.R-Key.Denot g.row.R-Value.Denot).
    Came g.R.Key.Ord.cmp (g.R.Rules.machine c.args.self.now.rules) c.args.inputs.now.history c.args.inputs.now.revision (HasIn (memo_at g.R.Key.Ord.cmp c.args.self.now.places)) k
    ((g.R.Rules.machine c.args.self.now.rules).advance c.in-Ok-GoesOn.part a) c.in-Ok-GoesOn.reads.items)
    c.args.frame.key c.in-Ok-GoesOn.key c.in-Ok-GoesOn.answer c.get.result.now s.1 c.get.ensures.value s.3)

pub returns-in-Ok-Finished-clause-advanced : goal.returns-in-Ok-Finished-clause-advanced
returns-in-Ok-Finished-clause-advanced g c =
    let laws = g.met.R.Rules.lawful c.args.self.now.rules [] in
    let exact : Exact g.R.Key.Ord.cmp = record { total = g.met.R.Key.Ord.total; exact = laws.exact } in
    let s = rw c.in-Ok-Finished.field-0-is at c.in-Ok-Finished.ensures.step in
    inr (
      refl,
      inl (
        wrote_finished g.R.Key.Ord.cmp exact (g.R.Rules.machine c.args.self.now.rules) c.args.inputs.now c.args.self.now.places c.args.frame.key c.step_hinted.new.self.places
            c.requires.stale s,
        refl,
      ),
    )

pub returns-in-Ok-Needs-clause-advanced : goal.returns-in-Ok-Needs-clause-advanced
returns-in-Ok-Needs-clause-advanced g c =
    let s = rw c.in-Ok-Needs.field-0-is at c.in-Ok-Needs.ensures.step in
    inr (
      refl,
      inr (inl (record {
        frame = c.in-Ok-Needs.frame;
        next = c.in-Ok-Needs.next;
        key_is = s.1;
        stays = s.2;
        awaits = s.3;
        stale = s.4;
        entered = subst (λ (t : g.row.R-Key.Denot → Option (Memo g.row.R-Key.Denot g.row.R-Value.Denot)).
            HasEntered c.args.inputs.now.revision t (memo_at g.R.Key.Ord.cmp c.enter.new.self.places) (c.args.stack.now ++ c.in-Ok-Needs.frame ∷ []) c.in-Ok-Needs.next c.enter.new.stack)
            (one_table (memo_at g.R.Key.Ord.cmp c.args.self.now.places) (memo_at g.R.Key.Ord.cmp c.step_hinted.new.self.places) s.0)
            c.in_ok-enter-in-Ok-Needs.ensures.entered;
      })),
    )

pub returns-in-Ok-Starts-clause-advanced : goal.returns-in-Ok-Starts-clause-advanced
returns-in-Ok-Starts-clause-advanced g c =
    let s = rw c.in-Ok-Starts.field-0-is at c.in-Ok-Starts.ensures.step in
    inl (
      record { key = c.in-Ok-Starts.key; revision = c.args.inputs.now.revision; why = c.in-Ok-Starts.why },
      record {
        why = c.in-Ok-Starts.why;
        walked = s.2;
        because = s.3;
        entry_is = ap (λ (k : g.row.R-Key.Denot). record { key = k; revision = c.args.inputs.now.revision; why = c.in-Ok-Starts.why }) s.1;
        gone = subst (λ (k : g.row.R-Key.Denot).
            HasGone g.R.Key.Ord.cmp (g.R.Rules.machine c.args.self.now.rules) c.args.inputs.now (memo_at g.R.Key.Ord.cmp c.args.self.now.places) (memo_at g.R.Key.Ord.cmp c.start.new.self.places)
            k ((g.R.Rules.machine c.args.self.now.rules).start k) c.args.stack.now c.start.new.stack) s.1
            (moved_to (λ (r : g.row.R.Denot) (t : g.row.R-Key.Denot → Option (Memo g.row.R-Key.Denot g.row.R-Value.Denot)).
            HasGone g.R.Key.Ord.cmp (g.R.Rules.machine r) c.args.inputs.now t (memo_at g.R.Key.Ord.cmp c.start.new.self.places)
            c.in-Ok-Starts.key ((g.R.Rules.machine r).start c.in-Ok-Starts.key) c.args.stack.now c.start.new.stack)
            c.step_hinted.new.self.rules c.args.self.now.rules (memo_at g.R.Key.Ord.cmp c.step_hinted.new.self.places) (memo_at g.R.Key.Ord.cmp c.args.self.now.places)
            (sym c.step_hinted.ensures.rules) (sym (one_table (memo_at g.R.Key.Ord.cmp c.args.self.now.places) (memo_at g.R.Key.Ord.cmp c.step_hinted.new.self.places) s.0))
            c.in_ok-start-in-Ok-Starts.ensures.gone);
      },
      c.in_ok-start-in-Ok-Starts.ensures.carried,
    )

pub returns-in-Ok-GoesOn-clause-advanced : goal.returns-in-Ok-GoesOn-clause-advanced
returns-in-Ok-GoesOn-clause-advanced g c =
    let s = rw c.in-Ok-GoesOn.field-0-is at c.in-Ok-GoesOn.ensures.step in
    inr (
      refl,
      inr (inr (record {
        part = c.in-Ok-GoesOn.part;
        answer = c.in-Ok-GoesOn.answer;
        waited = s.2;
        gone = moved_to (λ (k : g.row.R-Key.Denot) (a : Answer g.row.R-Key.Denot g.row.R-Value.Denot).
            HasGone g.R.Key.Ord.cmp (g.R.Rules.machine c.args.self.now.rules) c.args.inputs.now (memo_at g.R.Key.Ord.cmp c.args.self.now.places) (memo_at g.R.Key.Ord.cmp c.resume.new.self.places)
            k ((g.R.Rules.machine c.args.self.now.rules).advance c.in-Ok-GoesOn.part a) c.args.stack.now c.resume.new.stack)
            c.in-Ok-GoesOn.key c.args.frame.key c.get.result.now c.in-Ok-GoesOn.answer (sym s.1) (sym c.get.ensures.value)
            (moved_to (λ (r : g.row.R.Denot) (t : g.row.R-Key.Denot → Option (Memo g.row.R-Key.Denot g.row.R-Value.Denot)).
            HasGone g.R.Key.Ord.cmp (g.R.Rules.machine r) c.args.inputs.now t (memo_at g.R.Key.Ord.cmp c.resume.new.self.places)
            c.in-Ok-GoesOn.key ((g.R.Rules.machine r).advance c.in-Ok-GoesOn.part c.get.result.now) c.args.stack.now c.resume.new.stack)
            c.step_hinted.new.self.rules c.args.self.now.rules (memo_at g.R.Key.Ord.cmp c.step_hinted.new.self.places) (memo_at g.R.Key.Ord.cmp c.args.self.now.places)
            (sym c.step_hinted.ensures.rules) (sym (one_table (memo_at g.R.Key.Ord.cmp c.args.self.now.places) (memo_at g.R.Key.Ord.cmp c.step_hinted.new.self.places) s.0))
            c.in_ok-resume-in-Ok-GoesOn.ensures.gone);
      })),
    )
