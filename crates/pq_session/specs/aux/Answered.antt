-- Auxiliary (used by proofs and private clauses only): bodies answered so far, in continuation
-- form. What is written for them and an output of the bodies after them are an output of all.
use Rattle.std.specs.Prelude.{◌≡◌, ℕ, List, ◌++◌, Option, Some, None}
use Rattle.pq_session.specs.Responses.{ScriptState}
use Rattle.pq_session.specs.Output.{Ending, Output, Outputs, ended, prefixed}

-- `LeftAfter ending state bodies o` is that `o` may be written for `bodies` in `state`, or nothing
-- after an ending.
abbrev pub LeftAfter : Option Ending → ScriptState → List (List ℕ) → Output → Type 0
LeftAfter None state bodies o = Outputs state bodies o
LeftAfter (Some how) state bodies o = o ≡ ended how

-- `Answered start bodies out ending state` is that for each output `o` of the bodies after
-- `bodies`, `out` and then `o` is an output of all of them. `bodies` took the script from `start`
-- to `state`, or ended it by `ending`.
abbrev pub Answered : ScriptState → List (List ℕ) → List ℕ → Option Ending → ScriptState → Type 0
Answered start bodies out ending state = (more : List (List ℕ)) (o : Output) → LeftAfter ending state more o → Outputs start (bodies ++ more) (prefixed out o)
