-- What a script may respond to the body of a message, and its state after it.
use Rattle.std.specs.Prelude.{◌≡◌, ◌⊎◌, Bool, false, ℕ, ◌+◌, List, [], Option, Some, None, unwrap_or}
use Rattle.serde_json.specs.Data.{Data}
use Rattle.pq_frame.specs.Json.{IsJson}
use Rattle.pq_frame.specs.Labels.{LabelModel}
use Rattle.pq_frame.specs.Messages.{message_of}
use Rattle.pq_inputs.specs.declared.fault.InputFault.{InputFault}
use Rattle.pq_inputs.specs.Sources.{Sources, Table, with_file}
use Rattle.pq_inputs.specs.Refusal.{max_files, refusal}
use Rattle.pq_rules.specs.declared.turn.Answer.{Answer}
use Rattle.pq_core.specs.Changes.{ChangeView}
use Rattle.pq_core.specs.Moves.{text_made, file_of}
use Rattle.pq_proto.specs.Compile.{Compiles}
use Rattle.pq_proto.specs.declared.key.ProtoKey.{ProtoKey}
use Rattle.pq_proto.specs.declared.value.ProtoValue.{ProtoValue}
use Rattle.pq_session.specs.declared.state.phase.Phase.{Phase}
use Rattle.pq_session.specs.declared.state.phase.Phase.TheVariants.{Fresh}
use Rattle.pq_session.specs.Session.{Meaning, asks, says, edits, withdraws, ignores, ends, meaning_of, next_phase, root_in}
use Rattle.pq_session.specs.Reply.{out_of_memory_text}
use Rattle.pq_session.specs.Replies.{answer_text}

-- The state of a script: whether braces are read, the phase of the session, the sources now, the
-- number of their revision (one for each file that was set before the script, and one for each edit),
-- and the number of files that can be set.
pub record ScriptState : Type 0 where
  pub loose : Bool
  pub phase : Phase
  pub files : Sources
  pub revision : ℕ
  pub limit : ℕ

-- `started loose inputs` is the state of a script at its start, over these inputs. Braces are read if
-- `loose`.
abbrev pub started : Bool → Table → ScriptState
started loose inputs = record { loose = loose; phase = Fresh; files = inputs.files; revision = inputs.revision; limit = inputs.limit }

-- `fresh` is the state of a script that starts without files, and reads no braces.
abbrev pub fresh : ScriptState
fresh = record { loose = false; phase = Fresh; files = []; revision = 0; limit = max_files }

-- The response to a message: a text, nothing, the end of the session with a status, or an edit that
-- ends the script, since it is refused or has a bad range.
pub data Response : Type 0 where
  replies : List ℕ → Response
  silent : Response
  finishes : ℕ → Response
  refuses : InputFault → Response
  bad_range : Response

-- `root_of state` is the root of the files, and empty outside of `initialize` and `shutdown`.
abbrev pub root_of : ScriptState → List ℕ
root_of state = unwrap_or (root_in state.phase) []

-- `IsAnswer state label key text` is that `text` gives an answer of `key` at the sources of
-- `state`, or says that an allocation failed.
abbrev pub IsAnswer : ScriptState → LabelModel → ProtoKey → List ℕ → Type 0
IsAnswer state label key text =
    ((answer : Answer ProtoKey ProtoValue) × Compiles state.loose state.files key answer × (text ≡ answer_text (root_of state) label state.revision answer))
    ⊎ (text ≡ out_of_memory_text label)

-- `edit_refusal state change` is the error of an edit that makes `change`, if the text that it makes
-- is refused.
abbrev pub edit_refusal : ScriptState → ChangeView → Option InputFault
edit_refusal state change = refusal (record { files = state.files; revision = state.revision; history = []; limit = state.limit }) change.file (file_of state.files change).text

-- `edit_response made refusal` is the response to an edit that makes the text `made`, which has this
-- refusal. `made` is None for a bad range. An accepted edit has no response.
abbrev pub edit_response : Option (Option (List ℕ)) → Option InputFault → Response
edit_response None refusal = bad_range
edit_response (Some text) None = silent
edit_response (Some text) (Some fault) = refuses fault

-- `edited state change made refusal` is the state after an edit that makes the text `made`, which has
-- this refusal. An accepted edit makes a revision, in which `change` is made.
abbrev pub edited : ScriptState → ChangeView → Option (Option (List ℕ)) → Option InputFault → ScriptState
edited state change None refusal = state
edited state change (Some text) None = record { loose = state.loose; phase = state.phase; files = with_file state.files change.file (file_of state.files change); revision = state.revision + 1; limit = state.limit }
edited state change (Some text) (Some fault) = state

-- `RespondsTo state meaning response after` is that a script in `state` may give `response` to a
-- message of this meaning, and is then in the state `after`.
abbrev pub RespondsTo : ScriptState → Meaning → Response → ScriptState → Type 0
RespondsTo state (asks label key) response after = (text : List ℕ) × IsAnswer state label key text × (response ≡ replies text) × (after ≡ state)
RespondsTo state (says text) response after = (response ≡ replies text) × (after ≡ state)
RespondsTo state (edits change) response after = (response ≡ edit_response (text_made state.files change) (edit_refusal state change)) × (after ≡ edited state change (text_made state.files change) (edit_refusal state change))
RespondsTo state (withdraws label) response after = (response ≡ silent) × (after ≡ state)
RespondsTo state ignores response after = (response ≡ silent) × (after ≡ state)
RespondsTo state (ends status) response after = (response ≡ finishes status) × (after ≡ state)

-- `in_phase phase state` is `state` with this phase.
abbrev pub in_phase : Phase → ScriptState → ScriptState
in_phase phase state = record { loose = state.loose; phase = phase; files = state.files; revision = state.revision; limit = state.limit }

-- `Responds state body response after` is that a script in `state` may give `response` to `body`,
-- and is then in the state `after`. The message that `body` is has its meaning by the phase before
-- it.
unfoldable pub Responds : ScriptState → List ℕ → Response → ScriptState → Type 0
Responds state body response after = (json : Option Data) × IsJson body json × RespondsTo (in_phase (next_phase state.phase (message_of json)) state) (meaning_of state.phase (message_of json)) response after
