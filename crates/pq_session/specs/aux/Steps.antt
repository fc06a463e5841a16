-- Auxiliary (used by proofs and private clauses only): what the parts of a script do with a body,
-- with a list of bodies, and with a piece of the input.
use Rattle.std.specs.Prelude.{◌≡◌, ℕ, List, Option, Some, None, Result, Ok, Err}
use Rattle.pq_frame.specs.Frames.{Frames, State, Reading, Failed}
use Rattle.pq_session.specs.declared.fault.ScriptFault.{ScriptFault}
use Rattle.pq_session.specs.declared.fault.ScriptFault.TheVariants.{Write, Memory, Frame, Edit, BadRange}
use Rattle.pq_inputs.specs.Sources.{file_in}
use Rattle.pq_core.specs.Changes.{BodyView, text_after}
use Rattle.pq_session.specs.Session.{Meaning}
use Rattle.pq_session.specs.Responses.{refuses, bad_range, ScriptState, Responds, RespondsTo}
use Rattle.pq_session.specs.Output.{Ending, exits, refused, at_bad_range, Stopped}
use Rattle.pq_session.specs.Script.{StopsWithin}
use Rattle.pq_session.specs.aux.Answered.{Answered}

-- `Makes state file body text` is that `body` makes `text` of the text of `file` in `state`.
abbrev pub Makes : ScriptState → List ℕ → BodyView → Option (List ℕ) → Type 0
Makes state file body text = text_after (file_in state.files file).text body ≡ Some text

-- `IsTextFault state file body fault` is that `fault` is why there is no text that `body` makes of the
-- text of `file` in `state`: a range is bad, or an allocation failed.
abbrev pub IsTextFault : ScriptState → List ℕ → BodyView → ScriptFault → Type 0
IsTextFault state file body BadRange = text_after (file_in state.files file).text body ≡ None
IsTextFault state file body Memory = Unit {0}
IsTextFault state file body _ = ⊥

-- `RefusesMeaning state meaning fault after` is that a message of this meaning gets no response, by
-- the error `fault`: its edit was refused or has a bad range, or an allocation failed.
abbrev pub RefusesMeaning : ScriptState → Meaning → ScriptFault → ScriptState → Type 0
RefusesMeaning state meaning (Edit fault) after = RespondsTo state meaning (refuses fault) after
RefusesMeaning state meaning BadRange after = RespondsTo state meaning bad_range after
RefusesMeaning state meaning Memory after = Unit {0}
RefusesMeaning state meaning _ after = ⊥

-- `Refuses state body fault after` is that `body` gets no response, by the error `fault`.
abbrev pub Refuses : ScriptState → List ℕ → ScriptFault → ScriptState → Type 0
Refuses state body (Edit fault) after = Responds state body (refuses fault) after
Refuses state body BadRange after = Responds state body bad_range after
Refuses state body Memory after = Unit {0}
Refuses state body _ after = ⊥

-- `Fails start bodies out fault` is that the answering of `bodies` stops by the error `fault`,
-- after `out` was written.
abbrev pub Fails : ScriptState → List (List ℕ) → List ℕ → ScriptFault → Type 0
Fails start bodies out (Edit fault) = Answered start bodies out (Some (refused fault)) start
Fails start bodies out BadRange = Answered start bodies out (Some at_bad_range) start
Fails start bodies out Write = Stopped start bodies out
Fails start bodies out Memory = Stopped start bodies out
Fails start bodies out _ = ⊥

-- `exit_of status` is the ending by `exit` with a status, if there is one.
abbrev pub exit_of : Option ℕ → Option Ending
exit_of None = None
exit_of (Some status) = Some (exits status)

-- `Takes bytes start out result new state` is that a piece, which with the kept bytes is `bytes`,
-- takes a script from `start` to `state` and its reader to `new`. `out` is written.
abbrev pub Takes : List ℕ → ScriptState → List ℕ → Result (Option ℕ) ScriptFault → State → ScriptState → Type 0
-- All bodies were answered.
Takes bytes start out (Ok None) new state = (bodies : List (List ℕ)) × (rest : List ℕ) × Frames bytes bodies (Reading rest) × (new ≡ Reading rest) × Answered start bodies out None state
-- One of them ended the session.
Takes bytes start out (Ok (Some status)) new state = (bodies : List (List ℕ)) × (reader : State) × Frames bytes bodies reader × Answered start bodies out (Some (exits status)) state
-- All bodies were answered, and the bytes after them have an error.
Takes bytes start out (Err (Frame fault)) new state = (bodies : List (List ℕ)) × Frames bytes bodies (Failed fault) × Answered start bodies out None state
-- An edit was refused, or has a bad range.
Takes bytes start out (Err (Edit fault)) new state = (bodies : List (List ℕ)) × (reader : State) × Frames bytes bodies reader × Answered start bodies out (Some (refused fault)) start
Takes bytes start out (Err BadRange) new state = (bodies : List (List ℕ)) × (reader : State) × Frames bytes bodies reader × Answered start bodies out (Some at_bad_range) start
Takes bytes start out (Err Write) new state = StopsWithin bytes start out
Takes bytes start out (Err Memory) new state = StopsWithin bytes start out
Takes bytes start out _ new state = ⊥
