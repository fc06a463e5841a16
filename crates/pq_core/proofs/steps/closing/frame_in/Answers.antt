use Rattle.std.proofs.Common.{◌≡◌, Bool, true, false, inl, inr, subst}
use Rattle.pq_rules.specs.Relations.{In}
use Rattle.pq_memo.specs.Frames.{frame_keys}
use Rattle.pq_core.proofs.RingRuns.{frame_found, in_key, top_key}
use Rattle.pq_core.proofs.steps.closing.frame_in.Goals.{in-At+else-is_same_key, in_default}
use Rattle.pq_core.proofs.steps.closing.frame_in.Goals as goal

not_both : (b : Bool) → b ≡ true → b ≡ false → ⊥
not_both b e f = cc

pub returns-in-Some-clause-found : goal.returns-in-Some-clause-found
returns-in-Some-clause-found g c =
    let f = frame_found c.frames.result.now c.args.frames.now.stack c.in-Some.place c.index-frames-place.result c.args.key.now c.frames.ensures c.index-frames-place.is c.in-Some.ensures.found in
    (f.0, inl f.1)

pub returns-in-None-clause-none : goal.returns-in-None-clause-none
returns-in-None-clause-none g c = λ f i e.
    elim i [
      | inl j ↦ c.in-None.ensures.none (subst (λ (k : g.row.R-Key.Denot). In k (frame_keys c.args.frames.now.stack)) e (in_key c.args.frames.now.stack f j))
      | inr t ↦ elim c.match-frames.branch [
        | in-At+else-is_same_key w ↦
            not_both w.is_same_key.result (w.is_same_key.ensures.1 (top_key c.args.frames.now.top f w.in-At.frame c.args.key.now t w.in-At.is e)) w.if-is_same_key.false
        | in_default w ↦ w.in_default.not-At f t
      ]
    ]
