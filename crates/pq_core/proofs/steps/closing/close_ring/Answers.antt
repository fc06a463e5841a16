use Rattle.std.proofs.Common.{[], ◌≤◌, ◌+◌, List, Option, drop, refl, sym, ◌∙◌, subst, inl, arith}
use Rattle.pq_rules.specs.Relations.{In}
use Rattle.pq_rules.proofs.Weight.{Exact}
use Rattle.pq_memo.specs.Sound.{Memo}
use Rattle.pq_memo.specs.Table.{memo_at}
use Rattle.pq_memo.specs.aux.Demand.{Wrote}
use Rattle.pq_memo.proofs.Advancing.{one_table}
use Rattle.pq_memo.proofs.Wrote.{wrote_ring}
use Rattle.pq_core.specs.aux.Runs.{RunsKept}
use Rattle.pq_core.proofs.RingRuns.{ring_stale, ring_top}
use Rattle.pq_core.proofs.RingBegun.{all_part, at_in, next_part, on_up, still_on}
use Rattle.pq_core.proofs.RingLeaving.{IsLeaving, drop_next, drop_none, leaving_first, leaving_last, leaving_next, ring_renewed, seen_left}
use Rattle.pq_core.proofs.steps.closing.close_ring.Goals as goal

pub returns-in_err-publish_ring-clause-runs_kept : goal.returns-in_err-publish_ring-clause-runs_kept
returns-in_err-publish_ring-clause-runs_kept g c =
    subst (λ (t : g.row.R-Key.Denot → Option (Memo g.row.R-Key.Denot g.row.R-Value.Denot)).
    RunsKept g.R.Key.Ord.cmp (g.R.Rules.machine c.args.memos.now.rules) c.args.inputs.now t c.args.claims.now c.args.runs.now.items)
    (sym (one_table (memo_at g.R.Key.Ord.cmp c.args.memos.now.places) (memo_at g.R.Key.Ord.cmp c.publish_ring.new.memos.places) c.in_err-publish_ring.ensures.refused)) c.requires.runs_kept

pub keys-init : goal.keys-init
keys-init g c =
    let exact : Exact g.R.Key.Ord.cmp = record { total = g.met.R.Key.Ord.total; exact = (g.met.R.Rules.lawful c.args.memos.now.rules []).exact } in
    let p = c.in_ok-publish_ring.ensures.published in
    let wrote = subst (λ (ks : List g.row.R-Key.Denot). Wrote c.args.inputs.now.revision (memo_at g.R.Key.Ord.cmp c.args.memos.now.places) (memo_at g.R.Key.Ord.cmp c.publish_ring.new.memos.places) ks) p.2
    (wrote_ring c.args.inputs.now.revision (memo_at g.R.Key.Ord.cmp c.args.memos.now.places) (memo_at g.R.Key.Ord.cmp c.publish_ring.new.memos.places) p.0 p.1 p.3) in
    let stale = ring_stale g.R.Key.Ord.cmp (g.R.Rules.machine c.args.memos.now.rules) c.args.inputs.now (memo_at g.R.Key.Ord.cmp c.args.memos.now.places) c.args.claims.now c.args.runs.now.items
    c.claims_are_sound.ensures.sound c.requires.runs_kept c.args.id c.requires.closes.0 c.args.ring.now c.requires.within c.requires.closes.1 c.requires.closes.2 c.requires.closes.3 in (
      leaving_first g.R.Key.Ord.cmp exact (g.R.Rules.machine c.args.memos.now.rules) c.args.inputs.now (memo_at g.R.Key.Ord.cmp c.args.memos.now.places) (memo_at g.R.Key.Ord.cmp c.publish_ring.new.memos.places) c.args.ring.now wrote stale c.args.claims.now c.args.runs.now.items
          c.requires.runs_kept
          (ring_top g.R.Key.Ord.cmp (g.R.Rules.machine c.args.memos.now.rules) c.args.inputs.now (memo_at g.R.Key.Ord.cmp c.args.memos.now.places) c.args.claims.now c.args.runs.now.items
          c.claims_are_sound.ensures.sound c.requires.runs_kept c.args.id c.requires.closes.0 c.args.ring.now c.requires.within c.requires.closes.1 c.requires.closes.2 c.requires.closes.3),
      λ r. refl,
      λ n a. a,
      (let l : c.args.runs.now.room ≤ c.args.runs.now.room = omega arith in l),
      λ k b. inl b,
      all_part c.args.claims.now,
    )

pub leave_key-requires-clause-tops : goal.leave_key-requires-clause-tops
leave_key-requires-clause-tops g c = λ r run h holds.
    let next = drop_next c.args.ring.now c.keys.i c.index-ring-i.result c.keys-test.true c.index-ring-i.is in
    c.keys.invariant.0.tops r run c.index-ring-i.result h holds (subst (λ (ks : List g.row.R-Key.Denot). In c.index-ring-i.result ks) (sym next) (inl refl))

pub keys-preserved : goal.keys-preserved
keys-preserved g c =
    let next = drop_next c.args.ring.now c.keys.i c.index-ring-i.result c.keys-test.true c.index-ring-i.is in
    let i = c.keys.invariant in (
      leaving_next g.R.Key.Ord.cmp (g.R.Rules.machine c.args.memos.now.rules) c.args.inputs.now (memo_at g.R.Key.Ord.cmp c.publish_ring.new.memos.places) c.keys.claims c.leave_key.new.claims c.keys.runs.items c.leave_key.new.runs.items c.index-ring-i.result
          c.leave_key.ensures.left (drop (c.keys.i + 1) c.args.ring.now)
          (subst (λ (ks : List g.row.R-Key.Denot). IsLeaving g.R.Key.Ord.cmp (g.R.Rules.machine c.args.memos.now.rules) c.args.inputs.now (memo_at g.R.Key.Ord.cmp c.publish_ring.new.memos.places) c.keys.claims c.keys.runs.items ks) next i.0),
      λ r. seen_left g.R.Key.Ord.cmp (g.R.Rules.machine c.args.memos.now.rules) c.args.inputs.now (memo_at g.R.Key.Ord.cmp c.publish_ring.new.memos.places) c.keys.claims c.leave_key.new.claims c.keys.runs.items c.leave_key.new.runs.items c.index-ring-i.result
          c.leave_key.ensures.left r ∙ i.1 r,
      λ n a. c.leave_key.ensures.above n (i.2 n a),
      (let a : c.args.runs.now.room ≤ c.keys.runs.room = i.3 in let b : c.keys.runs.room ≤ c.leave_key.new.runs.room = c.leave_key.ensures.room in let l : c.args.runs.now.room ≤ c.leave_key.new.runs.room = omega arith in l),
      still_on g.R.Key.Ord.cmp c.args.claims.now c.args.id c.requires.closes.3.next c.args.ring.now c.claims_are_sound.ensures.sound c.requires.closes.3.closed.round c.keys.claims c.leave_key.new.claims c.keys.runs.items c.leave_key.new.runs.items c.index-ring-i.result
          c.leave_key.ensures.left i.5 c.args.inputs.now.revision (at_in c.args.ring.now c.keys.i c.index-ring-i.result c.keys-test.true c.index-ring-i.is) i.0.claimed c.args.runs.now.items i.4,
      next_part g.R.Key.Ord.cmp c.args.claims.now c.args.id c.requires.closes.3.next c.args.ring.now c.claims_are_sound.ensures.sound c.requires.closes.3.closed.round c.keys.claims c.leave_key.new.claims c.keys.runs.items c.leave_key.new.runs.items c.index-ring-i.result
          c.leave_key.ensures.left i.5,
    )

pub returns-clause-renewed : goal.returns-clause-renewed
returns-clause-renewed g c =
    let exact : Exact g.R.Key.Ord.cmp = record { total = g.met.R.Key.Ord.total; exact = (g.met.R.Rules.lawful c.args.memos.now.rules []).exact } in
    let p = c.in_ok-publish_ring.ensures.published in
    let wrote = subst (λ (ks : List g.row.R-Key.Denot). Wrote c.args.inputs.now.revision (memo_at g.R.Key.Ord.cmp c.args.memos.now.places) (memo_at g.R.Key.Ord.cmp c.publish_ring.new.memos.places) ks) p.2
    (wrote_ring c.args.inputs.now.revision (memo_at g.R.Key.Ord.cmp c.args.memos.now.places) (memo_at g.R.Key.Ord.cmp c.publish_ring.new.memos.places) p.0 p.1 p.3) in
    let stale = ring_stale g.R.Key.Ord.cmp (g.R.Rules.machine c.args.memos.now.rules) c.args.inputs.now (memo_at g.R.Key.Ord.cmp c.args.memos.now.places) c.args.claims.now c.args.runs.now.items
    c.claims_are_sound.ensures.sound c.requires.runs_kept c.args.id c.requires.closes.0 c.args.ring.now c.requires.within c.requires.closes.1 c.requires.closes.2 c.requires.closes.3 in
    ring_renewed g.R.Key.Ord.cmp exact (g.R.Rules.machine c.args.memos.now.rules) c.args.inputs.now (memo_at g.R.Key.Ord.cmp c.args.memos.now.places) (memo_at g.R.Key.Ord.cmp c.publish_ring.new.memos.places) c.args.ring.now wrote stale

pub returns-clause-runs_kept : goal.returns-clause-runs_kept
returns-clause-runs_kept g c =
    leaving_last g.R.Key.Ord.cmp (g.R.Rules.machine c.args.memos.now.rules) c.args.inputs.now (memo_at g.R.Key.Ord.cmp c.publish_ring.new.memos.places) c.keys.claims c.keys.runs.items (drop c.keys.i c.args.ring.now)
    (drop_none c.args.ring.now c.keys.i c.keys-test.false) c.keys.invariant.0

pub returns-in_err-publish_ring-clause-begun : goal.returns-in_err-publish_ring-clause-begun
returns-in_err-publish_ring-clause-begun g c = λ k b. inl b

pub returns-clause-begun : goal.returns-clause-begun
returns-clause-begun g c =
    let p = c.in_ok-publish_ring.ensures.published in
    let wrote = subst (λ (ks : List g.row.R-Key.Denot). Wrote c.args.inputs.now.revision (memo_at g.R.Key.Ord.cmp c.args.memos.now.places) (memo_at g.R.Key.Ord.cmp c.publish_ring.new.memos.places) ks) p.2
    (wrote_ring c.args.inputs.now.revision (memo_at g.R.Key.Ord.cmp c.args.memos.now.places) (memo_at g.R.Key.Ord.cmp c.publish_ring.new.memos.places) p.0 p.1 p.3) in
    on_up (g.R.Rules.machine c.args.memos.now.rules) c.args.inputs.now.revision (memo_at g.R.Key.Ord.cmp c.args.memos.now.places) (memo_at g.R.Key.Ord.cmp c.publish_ring.new.memos.places) c.args.ring.now c.args.runs.now.items c.keys.runs.items wrote c.keys.invariant.4
