use Rattle.std.proofs.Common.{List, [], ◌∷◌, ◌++◌, refl, ◌∙◌, ap}
use Rattle.pq_memo.specs.Frames.{frame_keys}
use Rattle.pq_claims.specs.Claims.{Hold, hold_of}
use Rattle.pq_core.proofs.Claiming.{got_keys, held_keys, held_up, lowered_held, set_own}
use Rattle.pq_core.proofs.Stepping.{closed_same, ended_same, got_apart, got_wait, held_wait}
use Rattle.pq_core.proofs.runs.frames.Frames.enter.Goals as goal

pub returns-in-Got-clause-entered : goal.returns-in-Got-clause-entered
returns-in-Got-clause-entered g c =
    let told = rw c.in-Got.is at c.in-Ok.ensures.claimed in (
      refl,
      refl,
      got_wait g.R.Key.Ord.cmp c.args.id c.args.next c.args.claims.now c.claim.new.self told,
      got_apart g.R.Key.Ord.cmp c.args.id c.args.next c.args.claims.now c.claim.new.self (frame_keys c.args.self.now.stack) c.requires.claimed told,
    )

pub returns-in-Got-clause-claimed : goal.returns-in-Got-clause-claimed
returns-in-Got-clause-claimed g c =
    let told = rw c.in-Got.is at c.in-Ok.ensures.claimed in
    got_keys c.args.id c.args.claims.now c.claim.new.self g.R.Key.Ord.cmp c.args.next told ∙ ap (λ (ks : List g.row.R-Key.Denot). ks ++ c.args.next ∷ []) c.requires.claimed

pub returns-in-HeldBy-clause-entered : goal.returns-in-HeldBy-clause-entered
returns-in-HeldBy-clause-entered g c =
    let told = rw c.in-HeldBy.is at c.in-Ok.ensures.claimed in (
      c.lower.ensures.lowered,
      held_up c.args.id c.args.claims.now c.claim.new.self g.R.Key.Ord.cmp c.args.next c.in-HeldBy.other told,
      held_wait g.R.Key.Ord.cmp c.args.id c.args.next c.args.claims.now c.claim.new.self c.in-HeldBy.other told,
    )

pub returns-in-HeldBy-clause-claimed : goal.returns-in-HeldBy-clause-claimed
returns-in-HeldBy-clause-claimed g c =
    let told = rw c.in-HeldBy.is at c.in-Ok.ensures.claimed in
    lowered_held (hold_of c.claim.new.self c.args.id).keys c.args.self.now.stack c.lower.new.self.stack c.lower.new.self.top c.lower.ensures.lowered
    (held_keys c.args.id c.args.claims.now c.claim.new.self g.R.Key.Ord.cmp c.args.next c.in-HeldBy.other told ∙ c.requires.claimed)

pub returns-in-Ring-clause-entered : goal.returns-in-Ring-clause-entered
returns-in-Ring-clause-entered g c =
    let told = rw c.in-Ring.is at c.in-Ok.ensures.claimed in (
      c.lower-in-Ring.ensures.lowered,
      closed_same g.R.Key.Ord.cmp c.args.id c.args.claims.now c.claim.new.self (ended_same g.R.Key.Ord.cmp c.args.id c.args.claims.now c.claim.new.self c.requires.awake told.1) c.args.next
          c.in-Ring.ring.items told.0,
      ap (λ (h : Hold g.row.R-Key.Denot). h.wait) (set_own c.args.id c.args.claims.now c.claim.new.self _ told.1),
    )

pub returns-in-Ring-clause-claimed : goal.returns-in-Ring-clause-claimed
returns-in-Ring-clause-claimed g c =
    let told = rw c.in-Ring.is at c.in-Ok.ensures.claimed in
    lowered_held (hold_of c.claim.new.self c.args.id).keys c.args.self.now.stack c.lower-in-Ring.new.self.stack c.lower-in-Ring.new.self.top c.lower-in-Ring.ensures.lowered
    (ap (λ (h : Hold g.row.R-Key.Denot). h.keys) (set_own c.args.id c.args.claims.now c.claim.new.self _ told.1) ∙ c.requires.claimed)

pub returns-in-Err-clause-entered : goal.returns-in-Err-clause-entered
returns-in-Err-clause-entered g c =
    (c.lower-in-Err.ensures.lowered, ap (λ (h : Hold g.row.R-Key.Denot). h.wait) (c.in-Err.ensures.claimed c.args.id) ∙ c.requires.awake)

pub returns-in-Err-clause-claimed : goal.returns-in-Err-clause-claimed
returns-in-Err-clause-claimed g c =
    lowered_held (hold_of c.claim.new.self c.args.id).keys c.args.self.now.stack c.lower-in-Err.new.self.stack c.lower-in-Err.new.self.top c.lower-in-Err.ensures.lowered
    (ap (λ (h : Hold g.row.R-Key.Denot). h.keys) (c.in-Err.ensures.claimed c.args.id) ∙ c.requires.claimed)
