-- What a script may write for a list of bodies: the frames of the responses in order, up to the
-- first message that ends the session and the first edit that is refused or has a bad range.
use Rattle.std.specs.Prelude.{◌≡◌, ℕ, List, [], ◌∷◌, ◌++◌, Option, Some, None}
use Rattle.std.specs.Io.{StartsWith}
use Rattle.pq_frame.specs.Written.{written}
use Rattle.pq_inputs.specs.declared.fault.InputFault.{InputFault}
use Rattle.pq_session.specs.Responses.{Response, replies, silent, finishes, refuses, bad_range, ScriptState, Responds}

-- The ending of a session: by `exit` with a status, by the refusal of an edit, or by a bad range.
pub data Ending : Type 0 where
  exits : ℕ → Ending
  refused : InputFault → Ending
  at_bad_range : Ending

-- An output: the bytes that are written, and the ending, if there is one.
pub record Output : Type 0 where
  pub bytes : List ℕ
  pub ending : Option Ending

-- `no_output` is the output for no bodies.
abbrev pub no_output : Output
no_output = record { bytes = []; ending = None }

-- `ended how` is the output for a body that ends the session by `how`.
abbrev pub ended : Ending → Output
ended how = record { bytes = []; ending = Some how }

-- `prefixed out rest` is the output `rest` after the bytes `out`.
abbrev pub prefixed : List ℕ → Output → Output
prefixed out rest = record { bytes = out ++ rest.bytes; ending = rest.ending }

-- `After response P o` is that `o` is the output for a body with this response and the bodies after
-- it, for which `P` holds of the output.
abbrev pub After : Response → (Output → Type 0) → Output → Type 0
After (replies text) P o = (rest : Output) × P rest × (o ≡ prefixed (written text) rest)
After silent P o = P o
After (finishes status) P o = o ≡ ended (exits status)
After (refuses fault) P o = o ≡ ended (refused fault)
After bad_range P o = o ≡ ended at_bad_range

-- `Outputs state bodies o` is that a script in `state` may write `o` for `bodies`.
abbrev pub Outputs : ScriptState → List (List ℕ) → Output → Type 0
Outputs state [] o = o ≡ no_output
Outputs state (body ∷ bodies) o = (response : Response) × (after : ScriptState) × Responds state body response after × After response (Outputs after bodies) o

-- `Stopped start bodies out` is that `out` is a prefix of some output for `bodies` and any bodies
-- after them.
abbrev pub Stopped : ScriptState → List (List ℕ) → List ℕ → Type 0
Stopped start bodies out = (more : List (List ℕ)) → (o : Output) × Outputs start (bodies ++ more) o × StartsWith o.bytes out
