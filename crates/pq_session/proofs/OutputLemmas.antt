-- What is written for bodies, and then for the bodies after them.
use Rattle.std.proofs.Common.{◌≡◌, ℕ, ◌+◌, ◌<◌, List, [], ◌∷◌, ◌++◌, Option, Some, None, length, take, drop, get_or, refl, sym, ◌∙◌, ap, subst, append_assoc}
use Rattle.std.proofs.lemmas.List.{take_more, map-append, take-append-drop, append-nil}
use Rattle.std.specs.declared.alloc.Global.{Global}
use Rattle.std.specs.declared.vec.Vec.{Vec}
use Rattle.pq_frame.specs.Written.{written}
use Rattle.pq_inputs.specs.declared.fault.InputFault.{InputFault}
use Rattle.pq_session.specs.declared.fault.ScriptFault.{ScriptFault}
use Rattle.pq_session.specs.declared.fault.ScriptFault.TheVariants.{Write, Memory, Frame, Cut, Edit, BadRange, Read, TooManyReads}
use Rattle.pq_session.specs.Responses.{Response, replies, silent, finishes, refuses, bad_range, ScriptState, Responds}
use Rattle.std.specs.Io.{StartsWith}
use Rattle.std.proofs.Transfers.{starts_with_of_append}
use Rattle.pq_session.specs.Output.{Ending, exits, refused, at_bad_range, Output, Outputs, After, no_output, prefixed, ended, Stopped}
use Rattle.pq_session.specs.aux.Answered.{Answered}
use Rattle.std.specs.Prelude.{Err}
use Rattle.pq_session.specs.Script.{FailsToWrite, StopsWriting}
use Rattle.pq_session.specs.aux.Steps.{Refuses, Fails}
use Rattle.pq_frame.specs.Bodies.{bodies_of}
use Rattle.pq_session.proofs.Total.{tells_some}

-- ---- an output that begins

pub starts_rest : (out bytes : List ℕ) → StartsWith bytes out → bytes ≡ out ++ drop (length out) bytes
starts_rest out bytes h = sym (take-append-drop (length out) bytes) ∙ ap (λ (s : List ℕ). s ++ drop (length out) bytes) h

with_bytes : List ℕ → Output → Output
with_bytes bytes o = record { bytes = bytes; ending = o.ending }

prefixed_twice : (out also : List ℕ) (o : Output) → prefixed out (prefixed also o) ≡ prefixed (out ++ also) o
unfolding with_bytes
prefixed_twice out also o = ap (λ (bytes : List ℕ). with_bytes bytes o) (sym (append_assoc out also o.bytes))

prefixed_nil : (how : Ending) (out : List ℕ) → prefixed out (ended how) ≡ record { bytes = out; ending = Some how }
unfolding with_bytes
prefixed_nil how out = ap (λ (bytes : List ℕ). with_bytes bytes (ended how)) (append-nil out)

-- ---- there is always some output

after_some : (told : Response) (P : Output → Type 0) → ((o : Output) × P o) → (o : Output) × After told P o
after_some (replies reply) P (rest, holds) = (prefixed (written reply) rest, (rest, holds, refl))
after_some silent P some = some
after_some (finishes status) P some = (ended (exits status), refl)
after_some (refuses fault) P some = (ended (refused fault), refl)
after_some bad_range P some = (ended at_bad_range, refl)

pub some_output : (state : ScriptState) (bodies : List (List ℕ)) → (o : Output) × Outputs state bodies o
some_output state [] = (no_output, refl)
some_output state (body ∷ bodies) =
    let one = tells_some state body in
    let all = after_some one.0 (Outputs one.1 bodies) (some_output one.1 bodies) in
    (all.0, (one.0, one.1, one.2, all.1))

-- ---- lists of bodies, one after the other

pub answered_none : (state : ScriptState) → Answered state [] [] None state
answered_none state more o left = left

pub answered_append : (start mid end : ScriptState) (xs ys : List (List ℕ)) (out also : List ℕ) (ending : Option Ending) → Answered start xs out None mid → Answered mid ys also ending end → Answered start (xs ++ ys) (out ++ also) ending end
answered_append start mid end xs ys out also ending h k more o left =
    subst (λ (bodies : List (List ℕ)). Outputs start bodies (prefixed (out ++ also) o)) (sym (append_assoc xs ys more))
    (subst (Outputs start (xs ++ (ys ++ more))) (prefixed_twice out also o) (h (ys ++ more) (prefixed also o) (k more o left)))

pub stopped_append : (start mid : ScriptState) (xs ys : List (List ℕ)) (out also : List ℕ) → Answered start xs out None mid → Stopped mid ys also → Stopped start (xs ++ ys) (out ++ also)
stopped_append start mid xs ys out also h k more =
    let rest = k more in (
      prefixed out rest.0,
      subst (λ (bodies : List (List ℕ)). Outputs start bodies (prefixed out rest.0)) (sym (append_assoc xs ys more)) (h (ys ++ more) rest.0 rest.1),
      starts_with_of_append (out ++ rest.0.bytes) (out ++ also) (drop (length also) rest.0.bytes) (ap (λ (s : List ℕ). out ++ s) (starts_rest also rest.0.bytes rest.2) ∙ sym (append_assoc out also (drop (length also) rest.0.bytes))),
    )

-- the end stays the end, whatever bodies come after it
pub ended_append : (start end later : ScriptState) (xs ys : List (List ℕ)) (out : List ℕ) (how : Ending) → Answered start xs out (Some how) end → Answered start (xs ++ ys) out (Some how) later
ended_append start end later xs ys out how h more o left =
    subst (λ (bodies : List (List ℕ)). Outputs start bodies (prefixed out o)) (sym (append_assoc xs ys more)) (h (ys ++ more) o left)

pub stopped_more : (start : ScriptState) (xs ys : List (List ℕ)) (out : List ℕ) → Stopped start xs out → Stopped start (xs ++ ys) out
stopped_more start xs ys out h more = subst (λ (bodies : List (List ℕ)). (o : Output) × Outputs start bodies o × StartsWith o.bytes out) (sym (append_assoc xs ys more)) (h (ys ++ more))

pub answered_stops : (n m : ScriptState) (bodies : List (List ℕ)) (out : List ℕ) → Answered n bodies out None m → Stopped n bodies out
answered_stops n m bodies out h more =
    let rest = some_output m more in
    (prefixed out rest.0, h more rest.0 rest.1, starts_with_of_append (out ++ rest.0.bytes) out rest.0.bytes refl)

-- ---- nothing more comes

pub no_more : (start m : ScriptState) (bodies : List (List ℕ)) (out : List ℕ) → Answered start bodies out None m → Outputs start bodies (record { bytes = out; ending = None })
unfolding with_bytes
no_more start m bodies out h =
    subst (λ (all : List (List ℕ)). Outputs start all (with_bytes out no_output)) (append-nil bodies)
    (subst (λ (bytes : List ℕ). Outputs start (bodies ++ []) (with_bytes bytes no_output)) (append-nil out) (h [] no_output refl))

pub no_more_after : (start m : ScriptState) (bodies : List (List ℕ)) (out : List ℕ) (how : Ending) → Answered start bodies out (Some how) m → Outputs start bodies (record { bytes = out; ending = Some how })
unfolding with_bytes
no_more_after start m bodies out how h =
    subst (λ (all : List (List ℕ)). Outputs start all (with_bytes out (ended how))) (append-nil bodies)
    (subst (λ (bytes : List ℕ). Outputs start (bodies ++ []) (with_bytes bytes (ended how))) (append-nil out) (h [] (ended how) refl))

-- ---- one body

pub one_says : (n m : ScriptState) (body reply : List ℕ) → Responds n body (replies reply) m → Answered n (body ∷ []) (written reply) None m
one_says n m body reply h more o left = (replies reply, m, h, (o, left, refl))

pub one_quiet : (n m : ScriptState) (body : List ℕ) → Responds n body silent m → Answered n (body ∷ []) [] None m
one_quiet n m body h more o left = (silent, m, h, left)

pub one_ends : (n m later : ScriptState) (body : List ℕ) (status : ℕ) → Responds n body (finishes status) m → Answered n (body ∷ []) [] (Some (exits status)) later
one_ends n m later body status h more o left = (finishes status, m, h, left)

pub one_refuses : (n m later : ScriptState) (body : List ℕ) (fault : InputFault) → Responds n body (refuses fault) m → Answered n (body ∷ []) [] (Some (refused fault)) later
one_refuses n m later body fault h more o left = (refuses fault, m, h, left)

pub one_misranged : (n m later : ScriptState) (body : List ℕ) → Responds n body bad_range m → Answered n (body ∷ []) [] (Some at_bad_range) later
one_misranged n m later body h more o left = (bad_range, m, h, left)

pub stopped_none : (n : ScriptState) (bodies : List (List ℕ)) → Stopped n bodies []
stopped_none n bodies more =
    let all = some_output n (bodies ++ more) in
    (all.0, all.1, starts_with_of_append all.0.bytes [] all.0.bytes refl)

pub one_stopped : (n m : ScriptState) (body reply out : List ℕ) → Responds n body (replies reply) m → StartsWith (written reply) out → Stopped n (body ∷ []) out
one_stopped n m body reply out h part more =
    let rest = some_output m more in (
      prefixed (written reply) rest.0,
      (replies reply, m, h, (rest.0, rest.1, refl)),
      starts_with_of_append (written reply ++ rest.0.bytes) out (drop (length out) (written reply) ++ rest.0.bytes) (ap (λ (s : List ℕ). s ++ rest.0.bytes) (starts_rest out (written reply) part) ∙ append_assoc out (drop (length out) (written reply)) rest.0.bytes),
    )

-- ---- the bodies in the vector

pub one_more_body : (bodies : List (Vec ℕ Global)) (i : ℕ) (v : Vec ℕ Global) → i < length bodies → v ≡ get_or bodies i v → bodies_of (take (i + 1) bodies) ≡ bodies_of (take i bodies) ++ v.items ∷ []
one_more_body bodies i v h is = rw (take_more bodies i v h, map-append (λ (w : Vec ℕ Global). w.items) (take i bodies) (get_or bodies i v ∷ []), ← is) refl

pub and_later : (bodies : List (Vec ℕ Global)) (i : ℕ) → bodies_of bodies ≡ bodies_of (take i bodies) ++ bodies_of (drop i bodies)
and_later bodies i = sym (ap bodies_of (take-append-drop i bodies)) ∙ map-append (λ (w : Vec ℕ Global). w.items) (take i bodies) (drop i bodies)

-- the bodies are those so far, one more, and others
pub split_at_body : (bodies : List (Vec ℕ Global)) (i : ℕ) (v : Vec ℕ Global) (body : List ℕ) → i < length bodies → v ≡ get_or bodies i v → body ≡ v.items → bodies_of bodies ≡ (bodies_of (take i bodies) ++ body ∷ []) ++ bodies_of (drop (i + 1) bodies)
split_at_body bodies i v body h is same = and_later bodies (i + 1) ∙ ap (λ (s : List (List ℕ)). s ++ bodies_of (drop (i + 1) bodies)) (one_more_body bodies i v h is ∙ ap (λ (b : List ℕ). bodies_of (take i bodies) ++ b ∷ []) (sym same))

pub loop_stopped : (start n : ScriptState) (bodies : List (Vec ℕ Global)) (i : ℕ) (v : Vec ℕ Global) (body out also : List ℕ) → i < length bodies → v ≡ get_or bodies i v → body ≡ v.items → Answered start (bodies_of (take i bodies)) out None n → Stopped n (body ∷ []) also → Stopped start (bodies_of bodies) (out ++ also)
loop_stopped start n bodies i v body out also h is same answered stopped =
    subst (λ (all : List (List ℕ)). Stopped start all (out ++ also)) (sym (split_at_body bodies i v body h is same))
    (stopped_more start (bodies_of (take i bodies) ++ body ∷ []) (bodies_of (drop (i + 1) bodies)) (out ++ also) (stopped_append start n (bodies_of (take i bodies)) (body ∷ []) out also answered stopped))

pub loop_ended : (start n end later : ScriptState) (bodies : List (Vec ℕ Global)) (i : ℕ) (v : Vec ℕ Global) (body out also : List ℕ) (how : Ending) → i < length bodies → v ≡ get_or bodies i v → body ≡ v.items → Answered start (bodies_of (take i bodies)) out None n → Answered n (body ∷ []) also (Some how) end → Answered start (bodies_of bodies) (out ++ also) (Some how) later
loop_ended start n end later bodies i v body out also how h is same answered ends_here =
    subst (λ (all : List (List ℕ)). Answered start all (out ++ also) (Some how) later) (sym (split_at_body bodies i v body h is same))
    (ended_append start end later (bodies_of (take i bodies) ++ body ∷ []) (bodies_of (drop (i + 1) bodies)) (out ++ also) how (answered_append start n end (bodies_of (take i bodies)) (body ∷ []) out also (Some how) answered ends_here))

pub loop_answered : (start n end : ScriptState) (bodies : List (Vec ℕ Global)) (i : ℕ) (v : Vec ℕ Global) (body out also : List ℕ) → i < length bodies → v ≡ get_or bodies i v → body ≡ v.items → Answered start (bodies_of (take i bodies)) out None n → Answered n (body ∷ []) also None end → Answered start (bodies_of (take (i + 1) bodies)) (out ++ also) None end
loop_answered start n end bodies i v body out also h is same answered one =
    subst (λ (all : List (List ℕ)). Answered start all (out ++ also) None end) (ap (λ (b : List ℕ). bodies_of (take i bodies) ++ b ∷ []) same ∙ sym (one_more_body bodies i v h is))
    (answered_append start n end (bodies_of (take i bodies)) (body ∷ []) out also None answered one)

pub loop_fails : (start n : ScriptState) (bodies : List (Vec ℕ Global)) (i : ℕ) (v : Vec ℕ Global) (body out also : List ℕ) (fault : ScriptFault) → i < length bodies → v ≡ get_or bodies i v → body ≡ v.items → Answered start (bodies_of (take i bodies)) out None n → Fails n (body ∷ []) also fault → Fails start (bodies_of bodies) (out ++ also) fault
loop_fails start n bodies i v body out also (Edit fault) h is same answered fails = loop_ended start n n start bodies i v body out also (refused fault) h is same answered fails
loop_fails start n bodies i v body out also BadRange h is same answered fails = loop_ended start n n start bodies i v body out also at_bad_range h is same answered fails
loop_fails start n bodies i v body out also Write h is same answered fails = loop_stopped start n bodies i v body out also h is same answered fails
loop_fails start n bodies i v body out also Memory h is same answered fails = loop_stopped start n bodies i v body out also h is same answered fails
loop_fails start n bodies i v body out also (Frame fault) h is same answered fails = absurd fails
loop_fails start n bodies i v body out also Cut h is same answered fails = absurd fails
loop_fails start n bodies i v body out also Read h is same answered fails = absurd fails
loop_fails start n bodies i v body out also TooManyReads h is same answered fails = absurd fails

-- a body that has no answer
pub refused_fails : (n m : ScriptState) (body : List ℕ) (fault : ScriptFault) → Refuses n body fault m → Fails n (body ∷ []) [] fault
refused_fails n m body (Edit fault) h = one_refuses n m n body fault h
refused_fails n m body BadRange h = one_misranged n m n body h
refused_fails n m body Memory h = stopped_none n (body ∷ [])
refused_fails n m body Write h = absurd h
refused_fails n m body (Frame fault) h = absurd h
refused_fails n m body Cut h = absurd h
refused_fails n m body Read h = absurd h
refused_fails n m body TooManyReads h = absurd h

pub refused_counts : (n m : ScriptState) (body : List ℕ) (fault : ScriptFault) (a : ℕ) → Refuses n body fault m → FailsToWrite {A = Option ℕ} (Err fault) a a
refused_counts n m body (Edit fault) a h = refl
refused_counts n m body BadRange a h = refl
refused_counts n m body Memory a h = refl
refused_counts n m body Write a h = absurd h
refused_counts n m body (Frame fault) a h = refl
refused_counts n m body Cut a h = refl
refused_counts n m body Read a h = refl
refused_counts n m body TooManyReads a h = refl

-- a reply that was not written in full
pub reply_fails : (n m : ScriptState) (body reply out : List ℕ) (fault : ScriptFault) → Responds n body (replies reply) m → StopsWriting (written reply) out fault → Fails n (body ∷ []) out fault
reply_fails n m body reply out Write h part = one_stopped n m body reply out h part
reply_fails n m body reply out Memory h none = subst (λ (s : List ℕ). Stopped n (body ∷ []) s) (sym none) (stopped_none n (body ∷ []))
reply_fails n m body reply out (Edit fault) h part = absurd part
reply_fails n m body reply out BadRange h part = absurd part
reply_fails n m body reply out (Frame fault) h part = absurd part
reply_fails n m body reply out Cut h part = absurd part
reply_fails n m body reply out Read h part = absurd part
reply_fails n m body reply out TooManyReads h part = absurd part
