use Rattle.std.proofs.Common.{take, drop, sym, ◌∙◌, subst, List, ℕ}
use Rattle.std.proofs.lemmas.List.{take-append-drop}
use Rattle.pq_frame.specs.Frames.{HasFault}
use Rattle.pq_frame.proofs.HeaderLemmas.{header_fault}
use Rattle.pq_frame.proofs.FrameLemmas.{split_twice}
use Rattle.pq_frame.proofs.beginning.read_beginning.Goals as goal

pub returns-in-Err : goal.returns-in-Err
returns-in-Err c =
    let bytes = c.args.bytes.now in
    let header = take c.in-Some.end bytes in
    subst (λ (s : List ℕ). HasFault s c.in-Err.fault) (take-append-drop c.in-Some.end bytes)
    (header_fault header (drop c.in-Some.end bytes) c.in-Err.fault c.in-Some.ensures.found.1 (rw (← c.split_at.ensures.front) (sym c.body_len.ensures ∙ c.in-Err.is)))

pub returns-else-after-needed : goal.returns-else-after-needed
returns-else-after-needed c =
    split_twice c.args.bytes.now c.split_at.result.0.now c.split_at.result.1.now c.split_at-else-after-needed.result.0.now c.split_at-else-after-needed.result.1.now c.in-Some.end c.in-Ok.needed
    c.split_at.ensures.front c.split_at.ensures.back c.split_at-else-after-needed.ensures.front c.split_at-else-after-needed.ensures.back c.if-after-needed.false
    (rw c.split_at.ensures.front c.in-Some.ensures.found.1) (sym c.body_len.ensures ∙ c.in-Ok.is)
