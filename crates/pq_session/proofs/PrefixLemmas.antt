-- A script that stops within its input.
use Rattle.std.proofs.Common.{ℕ, List, sym, subst}
use Rattle.pq_frame.specs.Frames.{Frames, State}
use Rattle.pq_frame.proofs.OneReading.{frames_front}
use Rattle.pq_session.specs.Responses.{ScriptState}
use Rattle.std.specs.Io.{StartsWith}
use Rattle.pq_session.specs.Output.{Output, Outputs}
use Rattle.pq_session.specs.Script.{StopsWithin}

pub stops_at_prefix : (start : ScriptState) (bytes out : List ℕ) (bodies : List (List ℕ)) (state : State) → Frames bytes bodies state → StopsWithin bytes start out → (o : Output) × Outputs start bodies o × StartsWith o.bytes out
stops_at_prefix start bytes out all t k (prefix, later, bodies, s, whole, h, stopped) =
    let rest = frames_front prefix later bodies s all t h (subst (λ (r : List ℕ). Frames r all t) whole k) in
    subst (λ (list : List (List ℕ)). (o : Output) × Outputs start list o × StartsWith o.bytes out) (sym rest.1) (stopped rest.0)
