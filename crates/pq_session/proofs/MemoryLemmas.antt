-- An allocation failure is neither an error of frames nor the refusal of an edit.
use Rattle.std.proofs.Common.{◌≡◌, ◌≢◌, ℕ, List, [], ◌∷◌, ◌++◌, Bool, true, false, Option, Some, None, Result, Ok, Err, refl, sym, ◌∙◌, ap, subst}
use Rattle.std.specs.Prelude.{MatchResult, if◌then◌else◌}
use Rattle.pq_frame.specs.Frames.{Frames, State, Failed}
use Rattle.pq_frame.specs.declared.fault.FrameFault.{FrameFault}
use Rattle.pq_frame.specs.declared.fault.FrameFault.TheVariants as frame
use Rattle.pq_inputs.specs.declared.fault.InputFault.{InputFault}
use Rattle.pq_inputs.specs.declared.fault.InputFault.TheVariants.{TextTooLong, TooManyFiles, RevisionsUsedUp}
use Rattle.pq_inputs.specs.declared.fault.InputFault.TheVariants as input
use Rattle.pq_inputs.specs.Sources.{Table}
use Rattle.pq_inputs.specs.Refusal.{refusal}
use Rattle.pq_core.specs.Moves.{text_made, file_of}
use Rattle.pq_session.specs.declared.fault.ScriptFault.{ScriptFault}
use Rattle.pq_session.specs.declared.fault.ScriptFault.TheVariants.{Write, Memory, Frame, Cut, Edit, BadRange, Read, TooManyReads}
use Rattle.pq_frame.specs.Messages.{message_of}
use Rattle.pq_session.specs.Session.{Meaning, asks, says, edits, withdraws, ignores, ends, meaning_of, next_phase}
use Rattle.pq_session.specs.Responses.{ScriptState, replies, silent, finishes, refuses, bad_range, edit_response, edit_refusal, in_phase, RespondsTo, Responds}
use Rattle.pq_session.specs.Output.{Ending, exits, refused, at_bad_range, Output, Outputs, ended}
use Rattle.pq_session.specs.Script.{IsMemoryAlone}
use Rattle.pq_session.specs.aux.Steps.{Takes}

by_tests : Bool → Bool → Bool → Option InputFault
by_tests long many last = if long then Some TextTooLong else (if many then Some TooManyFiles else (if last then Some RevisionsUsedUp else None))

never_by_tests : (long many last : Bool) → by_tests long many last ≡ Some input.Memory → ⊥
unfolding by_tests
never_by_tests true many last e = absurd (cc e)
never_by_tests false true last e = absurd (cc e)
never_by_tests false false true e = absurd (cc e)
never_by_tests false false false e = absurd (cc e)

never_refused : (table : Table) (name : List ℕ) (text : Option (List ℕ)) → refusal table name text ≡ Some input.Memory → ⊥
unfolding by_tests
never_refused table name text e = never_by_tests _ _ _ e

never_edit : (made : Option (Option (List ℕ))) (why : Option InputFault) → (why ≡ Some input.Memory → ⊥) → edit_response made why ≡ refuses input.Memory → ⊥
never_edit None why other e = absurd (cc e)
never_edit (Some text) None other e = absurd (cc e)
never_edit (Some text) (Some fault) other e = let same : fault ≡ input.Memory = cc e in other (ap (λ (f : InputFault). Some f) same)

never_meant : (state : ScriptState) (message : Meaning) (after : ScriptState) → RespondsTo state message (refuses input.Memory) after → ⊥
never_meant state (asks label query) after (text, is, e, same) = absurd (cc e)
never_meant state (says text) after (e, same) = absurd (cc e)
never_meant state (edits change) after (e, same) = never_edit (text_made state.files change) (edit_refusal state change) (never_refused (record { files = state.files; revision = state.revision; history = []; limit = state.limit }) change.file (file_of state.files change).text) (sym e)
never_meant state (withdraws label) after (e, same) = absurd (cc e)
never_meant state ignores after (e, same) = absurd (cc e)
never_meant state (ends status) after (e, same) = absurd (cc e)

never_told : (state : ScriptState) (body : List ℕ) (after : ScriptState) → Responds state body (refuses input.Memory) after → ⊥
unfolding Responds
never_told state body after (json, is, tells) = never_meant (in_phase (next_phase state.phase (message_of json)) state) (meaning_of state.phase (message_of json)) after tells

never_ends : (state : ScriptState) (bodies : List (List ℕ)) (o : Output) → Outputs state bodies o → o.ending ≡ Some (refused input.Memory) → ⊥
never_ends state [] o is e = let bad : ◌≡◌ {A = Option Ending} None (Some (refused input.Memory)) = sym (ap (λ (p : Output). p.ending) is) ∙ e in absurd (cc bad)
never_ends state (body ∷ bodies) o (replies text, after, tells, (rest, more, is)) e = never_ends after bodies rest more (sym (ap (λ (p : Output). p.ending) is) ∙ e)
never_ends state (body ∷ bodies) o (silent, after, tells, more) e = never_ends after bodies o more e
never_ends state (body ∷ bodies) o (finishes status, after, tells, is) e = let bad : Some (exits status) ≡ Some (refused input.Memory) = sym (ap (λ (p : Output). p.ending) is) ∙ e in absurd (cc bad)
never_ends state (body ∷ bodies) o (refuses fault, after, tells, is) e =
    let same : Some (refused fault) ≡ Some (refused input.Memory) = sym (ap (λ (p : Output). p.ending) is) ∙ e in
    let memory : fault ≡ input.Memory = cc same in
    never_told state body after (subst (λ (f : InputFault). Responds state body (refuses f) after) memory tells)
never_ends state (body ∷ bodies) o (bad_range, after, tells, is) e = let bad : Some at_bad_range ≡ Some (refused input.Memory) = sym (ap (λ (p : Output). p.ending) is) ∙ e in absurd (cc bad)

never_failed : (bytes : List ℕ) (bodies : List (List ℕ)) → Frames bytes bodies (Failed frame.Memory) → ⊥
never_failed bytes [] h = absurd h
never_failed bytes (body ∷ bodies) (first, more, is, whole, h) = never_failed more bodies h

pub take_memory : (bytes out : List ℕ) (n m : ScriptState) (new : State) (e : ScriptFault) → Takes bytes n out (Err e) new m → IsMemoryAlone {A = ℕ} (Err e)
take_memory bytes out n m new (Frame f) (bodies, framed, more) = λ same. never_failed bytes bodies (subst (λ (g : FrameFault). Frames bytes bodies (Failed g)) same framed)
take_memory bytes out n m new (Edit f) (bodies, state, framed, more) = λ same. never_ends n (bodies ++ []) _ (more [] (ended (refused f)) refl) (ap (λ (g : InputFault). Some (refused g)) same)
take_memory bytes out n m new BadRange h = tt
take_memory bytes out n m new Write h = tt
take_memory bytes out n m new Memory h = tt
take_memory bytes out n m new Cut h = tt
take_memory bytes out n m new Read h = tt
take_memory bytes out n m new TooManyReads h = tt

pub end_memory : (result : Result ℕ ScriptFault) (rest : List ℕ) → MatchResult result (λ status. (status ≡ 1) × (rest ≡ [])) (λ e. (e ≡ Cut) × (rest ≢ [])) → IsMemoryAlone result
end_memory (Ok status) rest h = tt
end_memory (Err f) rest h = subst (λ (g : ScriptFault). IsMemoryAlone {A = ℕ} (Err g)) (sym h.0) tt
