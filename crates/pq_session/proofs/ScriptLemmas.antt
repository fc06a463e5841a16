-- A script, piece by piece.
use Rattle.std.proofs.lemmas.List.{length-take}
use Rattle.std.proofs.Math.Nat.{min-le_right}
use Rattle.std.proofs.Common.{◌+◌, ◌≤◌, length, take, arith, refl, ◌≡◌, ◌≢◌, ℕ, List, [], ◌∷◌, ◌++◌, Option, Some, None, Result, Ok, Err, sym, ◌∙◌, ap, subst, inr, append_assoc}
use Rattle.std.specs.Prelude.{MatchResult}
use Rattle.pq_frame.specs.Frames.{Frames, State, Reading, Failed}
use Rattle.pq_session.specs.declared.fault.ScriptFault.{ScriptFault}
use Rattle.pq_session.specs.declared.fault.ScriptFault.TheVariants.{Write, Memory, Frame, Cut, Edit, BadRange, Read, TooManyReads}
use Rattle.pq_session.specs.Responses.{ScriptState}
use Rattle.pq_session.specs.Output.{exits, refused, at_bad_range}
use Rattle.pq_session.specs.aux.Answered.{Answered}
use Rattle.pq_session.specs.Script.{StopsWithin, Ended, Scripts, FailsToRead, FailsToWrite, ShowsInLastPiece, max_piece}
use Rattle.pq_session.specs.aux.Steps.{Takes}
use Rattle.pq_session.proofs.OutputLemmas.{answered_append, stopped_append, no_more, no_more_after}

-- the frames before a rest, after which others may come
frames_head : (bytes : List ℕ) (seen : List (List ℕ)) (rest : List ℕ) → Frames bytes seen (Reading rest) → (head : List ℕ) × (bytes ≡ head ++ rest) × ((more : List ℕ) (others : List (List ℕ)) (state : State) → Frames more others state → Frames (head ++ more) (seen ++ others) state)
frames_head bytes [] rest h = ([], h.0, λ more others state k. k)
frames_head bytes (body ∷ seen) rest (frame, left, is, whole, h) =
    let t = frames_head left seen rest h in (
      frame ++ t.0,
      whole ∙ ap (λ (s : List ℕ). frame ++ s) t.1 ∙ sym (append_assoc frame t.0 rest),
      λ more others state k. (frame, t.0 ++ more, is, append_assoc frame t.0 more, t.2 more others state k),
    )

grown : (bytes head rest piece : List ℕ) → bytes ≡ head ++ rest → bytes ++ piece ≡ head ++ (rest ++ piece)
grown bytes head rest piece e = ap (λ (s : List ℕ). s ++ piece) e ∙ append_assoc head rest piece

pub frames_grow : (bytes : List ℕ) (seen : List (List ℕ)) (rest piece : List ℕ) (others : List (List ℕ)) (state : State) → Frames bytes seen (Reading rest) → Frames (rest ++ piece) others state → Frames (bytes ++ piece) (seen ++ others) state
frames_grow bytes seen rest piece others state h k =
    let t = frames_head bytes seen rest h in
    subst (λ (s : List ℕ). Frames s (seen ++ others) state) (sym (grown bytes t.0 rest piece t.1)) (t.2 (rest ++ piece) others state k)

script_stops : (start : ScriptState) (bytes : List ℕ) (seen : List (List ℕ)) (rest piece out also : List ℕ) (n : ScriptState) → Frames bytes seen (Reading rest) → Answered start seen out None n → StopsWithin (rest ++ piece) n also → StopsWithin (bytes ++ piece) start (out ++ also)
script_stops start bytes seen rest piece out also n h answered (prefix, later, bodies, state, whole, framed, stopped) =
    let t = frames_head bytes seen rest h in (
      t.0 ++ prefix,
      later,
      seen ++ bodies,
      state,
      grown bytes t.0 rest piece t.1 ∙ ap (λ (s : List ℕ). t.0 ++ s) whole ∙ sym (append_assoc t.0 prefix later),
      t.2 prefix bodies state framed,
      stopped_append start n seen bodies out also answered stopped,
    )

pub piece_fits : (count : ℕ) (buffer : List ℕ) → length buffer ≡ max_piece → length (take count buffer) ≤ max_piece
piece_fits count buffer e = omega (arith, length-take count buffer, min-le_right count (length buffer), e)

-- what ended the script came with the last piece
shown_last : (start : ScriptState) (bytes : List ℕ) (seen : List (List ℕ)) (rest piece out : List ℕ) (n : ScriptState) → length piece ≤ max_piece → Frames bytes seen (Reading rest) → Answered start seen out None n → ShowsInLastPiece start (bytes ++ piece)
shown_last start bytes seen rest piece out n fits h answered = (bytes, piece, out, rest, refl, fits, (seen, h, no_more start n seen out answered))

pub script_fault : (start : ScriptState) (P Q : Type 0) (bytes : List ℕ) (seen : List (List ℕ)) (rest piece out also : List ℕ) (n m : ScriptState) (new : State) (e : ScriptFault) → length piece ≤ max_piece → Frames bytes seen (Reading rest) → Answered start seen out None n → Takes (rest ++ piece) n also (Err e) new m → Scripts start P Q (bytes ++ piece) (out ++ also) (Err e)
script_fault start P Q bytes seen rest piece out also n m new (Frame f) fits h answered (bodies, framed, more) =
    ((seen ++ bodies, frames_grow bytes seen rest piece bodies (Failed f) h framed, no_more start m (seen ++ bodies) (out ++ also) (answered_append start n m seen bodies out also None answered more)), shown_last start bytes seen rest piece out n fits h answered)
script_fault start P Q bytes seen rest piece out also n m new (Edit f) fits h answered (bodies, state, framed, more) =
    (seen ++ bodies, state, frames_grow bytes seen rest piece bodies state h framed, no_more_after start n (seen ++ bodies) (out ++ also) (refused f) (answered_append start n n seen bodies out also (Some (refused f)) answered more), shown_last start bytes seen rest piece out n fits h answered)
script_fault start P Q bytes seen rest piece out also n m new BadRange fits h answered (bodies, state, framed, more) =
    (seen ++ bodies, state, frames_grow bytes seen rest piece bodies state h framed, no_more_after start n (seen ++ bodies) (out ++ also) at_bad_range (answered_append start n n seen bodies out also (Some at_bad_range) answered more), shown_last start bytes seen rest piece out n fits h answered)
script_fault start P Q bytes seen rest piece out also n m new Write fits h answered stop = script_stops start bytes seen rest piece out also n h answered stop
script_fault start P Q bytes seen rest piece out also n m new Memory fits h answered stop = script_stops start bytes seen rest piece out also n h answered stop
script_fault start P Q bytes seen rest piece out also n m new Cut fits h answered stop = absurd stop
script_fault start P Q bytes seen rest piece out also n m new Read fits h answered stop = absurd stop
script_fault start P Q bytes seen rest piece out also n m new TooManyReads fits h answered stop = absurd stop

pub script_ended : (start : ScriptState) (bytes : List ℕ) (seen : List (List ℕ)) (rest piece out also : List ℕ) (n m : ScriptState) (new : State) (status : ℕ) → length piece ≤ max_piece → Frames bytes seen (Reading rest) → Answered start seen out None n → Takes (rest ++ piece) n also (Ok (Some status)) new m → Ended start (bytes ++ piece) (out ++ also) (exits status)
script_ended start bytes seen rest piece out also n m new status fits h answered (bodies, state, framed, more) =
    (seen ++ bodies, state, frames_grow bytes seen rest piece bodies state h framed, no_more_after start m (seen ++ bodies) (out ++ also) (exits status) (answered_append start n m seen bodies out also (Some (exits status)) answered more), shown_last start bytes seen rest piece out n fits h answered)

pub script_at_end : (start : ScriptState) (P Q : Type 0) (bytes : List ℕ) (bodies : List (List ℕ)) (rest out : List ℕ) (n : ScriptState) (result : Result ℕ ScriptFault) → Frames bytes bodies (Reading rest) → Answered start bodies out None n → MatchResult result (λ status. (status ≡ 1) × (rest ≡ [])) (λ e. (e ≡ Cut) × (rest ≢ [])) → P → Scripts start P Q bytes out result
script_at_end start P Q bytes bodies rest out n (Ok status) h answered (one, none) end =
    inr (one, end, (bodies, subst (λ (s : List ℕ). Frames bytes bodies (Reading s)) none h, no_more start n bodies out answered))
script_at_end start P Q bytes bodies rest out n (Err e) h answered (cut, some) end =
    subst (λ (f : ScriptFault). Scripts start P Q bytes out (Err f)) (sym cut) (rest, some, end, (bodies, h, no_more start n bodies out answered))

pub end_reads : (result : Result ℕ ScriptFault) (rest : List ℕ) (a b : ℕ) → MatchResult result (λ status. (status ≡ 1) × (rest ≡ [])) (λ e. (e ≡ Cut) × (rest ≢ [])) → b ≡ a → FailsToRead result a b
end_reads (Ok status) rest a b h e = e
end_reads (Err f) rest a b h e = subst (λ (g : ScriptFault). FailsToRead {A = ℕ} (Err g) a b) (sym h.0) e

pub end_writes : (result : Result ℕ ScriptFault) (rest : List ℕ) (a b : ℕ) → MatchResult result (λ status. (status ≡ 1) × (rest ≡ [])) (λ e. (e ≡ Cut) × (rest ≢ [])) → b ≡ a → FailsToWrite result a b
end_writes (Ok status) rest a b h e = e
end_writes (Err f) rest a b h e = subst (λ (g : ScriptFault). FailsToWrite {A = ℕ} (Err g) a b) (sym h.0) e

-- the error of a piece is not `Read`
pub take_reads : (bytes out : List ℕ) (n m : ScriptState) (new : State) (e : ScriptFault) (a b : ℕ) → Takes bytes n out (Err e) new m → b ≡ a → FailsToRead {A = ℕ} (Err e) a b
take_reads bytes out n m new (Frame f) a b h e = e
take_reads bytes out n m new (Edit f) a b h e = e
take_reads bytes out n m new BadRange a b h e = e
take_reads bytes out n m new Write a b h e = e
take_reads bytes out n m new Memory a b h e = e
take_reads bytes out n m new Cut a b h e = e
take_reads bytes out n m new Read a b h e = absurd h
take_reads bytes out n m new TooManyReads a b h e = e

pub shown_by : (e : ScriptFault) (a b c : ℕ) → b ≡ a → FailsToWrite {A = Option ℕ} (Err e) b c → FailsToWrite {A = ℕ} (Err e) a c
shown_by (Frame f) a b c h k = k ∙ h
shown_by (Edit f) a b c h k = k ∙ h
shown_by BadRange a b c h k = k ∙ h
shown_by Write a b c h k = k ∙ ap (λ (n : ℕ). n + 1) h
shown_by Memory a b c h k = k ∙ h
shown_by Cut a b c h k = k ∙ h
shown_by Read a b c h k = k ∙ h
shown_by TooManyReads a b c h k = k ∙ h
