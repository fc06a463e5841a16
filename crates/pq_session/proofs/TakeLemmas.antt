-- What one piece does.
use Rattle.std.proofs.Common.{◌≡◌, ℕ, List, [], ◌∷◌, ◌++◌, Option, Some, None, Ok, Err, length, refl, sym, subst, arith}
use Rattle.std.proofs.lemmas.List.{append-nil}
use Rattle.pq_frame.specs.Frames.{Frames, State, Reading, Failed, Feeds, HasFault}
use Rattle.pq_frame.specs.declared.fault.FrameFault.{FrameFault}
use Rattle.pq_frame.specs.declared.fault.FrameFault.TheVariants.{HeaderTooLong, NoLength, BadLength, TooLong}
use Rattle.pq_frame.specs.declared.fault.FrameFault.TheVariants as frame
use Rattle.pq_frame.proofs.RunLemmas.{at_first}
use Rattle.pq_frame.proofs.OneReading.{frames_same}
use Rattle.pq_session.specs.declared.fault.ScriptFault.{ScriptFault}
use Rattle.pq_session.specs.declared.fault.ScriptFault.TheVariants.{Write, Memory, Frame, Cut, Edit, BadRange, Read, TooManyReads}
use Rattle.pq_session.specs.Responses.{ScriptState}
use Rattle.pq_session.specs.Output.{exits, Stopped}
use Rattle.pq_session.specs.aux.Answered.{Answered}
use Rattle.pq_session.specs.Script.{StopsWithin, FailsToWrite}
use Rattle.pq_session.specs.aux.Steps.{Takes, Fails}
use Rattle.pq_session.specs.Faults.{fault_of}
use Rattle.pq_session.proofs.OutputLemmas.{answered_none, stopped_none, answered_stops}

pub stops_before : (bytes : List ℕ) (n : ScriptState) → StopsWithin bytes n []
stops_before bytes n = ([], bytes, [], Reading [], refl, at_first, stopped_none n [])

stops_after : (bytes : List ℕ) (n : ScriptState) (bodies : List (List ℕ)) (state : State) (out : List ℕ) → Frames bytes bodies state → Stopped n bodies out → StopsWithin bytes n out
stops_after bytes n bodies state out h stopped = (bytes, [], bodies, state, sym (append-nil bytes), h, stopped)

pub take_fault : (rest piece : List ℕ) (n : ScriptState) (f : FrameFault) (new : State) → Feeds (Reading rest) piece (Err f) new → Takes (rest ++ piece) n [] (Err (fault_of f)) new n
take_fault rest piece n frame.Memory new fed = stops_before (rest ++ piece) n
take_fault rest piece n HeaderTooLong new fed = ([], fed.0, answered_none n)
take_fault rest piece n NoLength new fed = ([], fed.0, answered_none n)
take_fault rest piece n BadLength new fed = ([], fed.0, answered_none n)
take_fault rest piece n TooLong new fed = ([], fed.0, answered_none n)

pub take_none : (rest piece : List ℕ) (n : ScriptState) (bodies : List (List ℕ)) (new : State) → Feeds (Reading rest) piece (Ok bodies) new → length bodies ≡ 0 → Takes (rest ++ piece) n [] (Ok None) new n
take_none rest piece n [] (Reading r) fed none = ([], r, fed.0, refl, answered_none n)
take_none rest piece n [] (Failed f) fed none = let bad = fed.1 f refl in absurd (omega (arith, bad))
take_none rest piece n (body ∷ bodies) new fed none = absurd (omega (arith, none))

pub take_ends : (rest piece : List ℕ) (n m : ScriptState) (bodies : List (List ℕ)) (mid : State) (out : List ℕ) (status : ℕ) → Feeds (Reading rest) piece (Ok bodies) mid → Answered n bodies out (Some (exits status)) m → Takes (rest ++ piece) n out (Ok (Some status)) mid m
take_ends rest piece n m bodies mid out status fed ends = (bodies, mid, fed.0, ends)

pub take_fails : (rest piece : List ℕ) (n m : ScriptState) (bodies : List (List ℕ)) (mid : State) (out : List ℕ) (e : ScriptFault) → Feeds (Reading rest) piece (Ok bodies) mid → Fails n bodies out e → Takes (rest ++ piece) n out (Err e) mid m
take_fails rest piece n m bodies mid out Write fed fails = stops_after (rest ++ piece) n bodies mid out fed.0 fails
take_fails rest piece n m bodies mid out Memory fed fails = stops_after (rest ++ piece) n bodies mid out fed.0 fails
take_fails rest piece n m bodies mid out (Edit f) fed fails = (bodies, mid, fed.0, fails)
take_fails rest piece n m bodies mid out BadRange fed fails = (bodies, mid, fed.0, fails)
take_fails rest piece n m bodies mid out (Frame f) fed fails = absurd fails
take_fails rest piece n m bodies mid out Cut fed fails = absurd fails
take_fails rest piece n m bodies mid out Read fed fails = absurd fails
take_fails rest piece n m bodies mid out TooManyReads fed fails = absurd fails

-- the rest that a reader keeps is all that is left
kept_rest : (bytes : List ℕ) (bodies : List (List ℕ)) (rest : List ℕ) → Frames bytes bodies (Reading rest) → Frames rest [] (Reading rest)
kept_rest bytes [] rest h = (refl, h.1)
kept_rest bytes (body ∷ bodies) rest (frame, more, is, whole, h) = kept_rest more bodies rest h

pub take_all : (rest piece : List ℕ) (n m : ScriptState) (bodies others : List (List ℕ)) (mid new : State) (out : List ℕ) → Feeds (Reading rest) piece (Ok bodies) mid → Answered n bodies out None m → Feeds mid [] (Ok others) new → Takes (rest ++ piece) n out (Ok None) new m
take_all rest piece n m bodies others (Failed f) new out fed answered again = absurd again
take_all rest piece n m bodies others (Reading r) new out fed answered again =
    let nothing : Frames r others new = subst (λ (s : List ℕ). Frames s others new) (append-nil r) again.0 in
    let same = frames_same r [] (Reading r) others new (kept_rest (rest ++ piece) bodies r fed.0) nothing in
    (bodies, r, fed.0, sym same.1, answered)

waiting_fault : (bytes : List ℕ) (n m : ScriptState) (bodies : List (List ℕ)) (f : FrameFault) (new : State) (out : List ℕ) → Frames bytes bodies (Failed f) → Answered n bodies out None m → Takes bytes n out (Err (fault_of f)) new m
waiting_fault bytes n m bodies frame.Memory new out h answered = stops_after bytes n bodies (Failed frame.Memory) out h (answered_stops n m bodies out answered)
waiting_fault bytes n m bodies HeaderTooLong new out h answered = (bodies, h, answered)
waiting_fault bytes n m bodies NoLength new out h answered = (bodies, h, answered)
waiting_fault bytes n m bodies BadLength new out h answered = (bodies, h, answered)
waiting_fault bytes n m bodies TooLong new out h answered = (bodies, h, answered)

never : (bytes : List ℕ) (bodies : List (List ℕ)) (r : List ℕ) (f : FrameFault) → Frames bytes bodies (Reading r) → HasFault (r ++ []) f → ⊥
never bytes bodies r f h fails =
    let same = frames_same r [] (Reading r) [] (Failed f) (kept_rest bytes bodies r h) (subst (λ (s : List ℕ). HasFault s f) (append-nil r) fails) in
    let bad = same.1 in absurd (cc bad)

pub take_waiting : (rest piece : List ℕ) (n m : ScriptState) (bodies : List (List ℕ)) (mid new : State) (f : FrameFault) (out : List ℕ) → Feeds (Reading rest) piece (Ok bodies) mid → Answered n bodies out None m → Feeds mid [] (Err f) new → Takes (rest ++ piece) n out (Err (fault_of f)) new m
take_waiting rest piece n m bodies (Failed g) new f out fed answered again =
    subst (λ (e : FrameFault). Takes (rest ++ piece) n out (Err (fault_of e)) new m) (sym again.0) (waiting_fault (rest ++ piece) n m bodies g new out fed.0 answered)
take_waiting rest piece n m bodies (Reading r) new frame.Memory out fed answered again = stops_after (rest ++ piece) n bodies (Reading r) out fed.0 (answered_stops n m bodies out answered)
take_waiting rest piece n m bodies (Reading r) new HeaderTooLong out fed answered again = absurd (never (rest ++ piece) bodies r HeaderTooLong fed.0 again.0)
take_waiting rest piece n m bodies (Reading r) new NoLength out fed answered again = absurd (never (rest ++ piece) bodies r NoLength fed.0 again.0)
take_waiting rest piece n m bodies (Reading r) new BadLength out fed answered again = absurd (never (rest ++ piece) bodies r BadLength fed.0 again.0)
take_waiting rest piece n m bodies (Reading r) new TooLong out fed answered again = absurd (never (rest ++ piece) bodies r TooLong fed.0 again.0)

pub none_shown : (f : FrameFault) (a b : ℕ) → b ≡ a → FailsToWrite {A = Option ℕ} (Err (fault_of f)) a b
none_shown frame.Memory a b e = e
none_shown HeaderTooLong a b e = e
none_shown NoLength a b e = e
none_shown BadLength a b e = e
none_shown TooLong a b e = e

-- counts of failed calls, over two calls of which the first had none
pub shown_later : (e : ScriptFault) (a b c : ℕ) → b ≡ a → FailsToWrite {A = Option ℕ} (Err e) b c → FailsToWrite {A = Option ℕ} (Err e) a c
shown_later e a b c h k = subst (λ (n : ℕ). FailsToWrite {A = Option ℕ} (Err e) n c) h k
