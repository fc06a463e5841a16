-- A script has a response to each body, in each state.
use Rattle.std.proofs.Common.{◌≡◌, ℕ, List, Option, Some, None, Bool, true, false, refl, sym, ◌∙◌, inr}
use Rattle.std.specs.Str.{is_utf8}
use Rattle.std.proofs.lemmas.Str.{IsUtf8-from_is_utf8, is_utf8-from_IsUtf8}
use Rattle.serde_json.specs.Data.{Data}
use Rattle.serde_json.specs.Read.{read}
use Rattle.pq_frame.specs.Json.{IsJson}
use Rattle.pq_frame.specs.Messages.{message_of}
use Rattle.pq_core.specs.Moves.{text_made}
use Rattle.pq_session.specs.Session.{Meaning, asks, says, edits, withdraws, ignores, ends, meaning_of, next_phase}
use Rattle.pq_session.specs.Reply.{out_of_memory_text}
use Rattle.pq_session.specs.Responses.{Response, replies, silent, finishes, edit_response, edit_refusal, edited, in_phase, ScriptState, RespondsTo, Responds}

none_some : (d : Data) → ◌≡◌ {A = Option Data} None (Some d) → ⊥
none_some d e = absurd (cc e)

json_by : (bytes : List ℕ) (valid : Bool) (value : Option Data) → is_utf8 bytes ≡ valid → read bytes ≡ value → (json : Option Data) × IsJson bytes json
json_by bytes true (Some d) u e = (Some d, (IsUtf8-from_is_utf8 bytes u, e))
json_by bytes true None u e = (None, λ d utf8 is. none_some d (sym e ∙ is))
json_by bytes false value u e = (None, λ d utf8 is. let bad : true ≡ false = sym (is_utf8-from_IsUtf8 bytes utf8) ∙ u in absurd (cc bad))

-- bytes are JSON, or they are not
json_some : (bytes : List ℕ) → (json : Option Data) × IsJson bytes json
json_some bytes = json_by bytes (is_utf8 bytes) (read bytes) refl refl

meant_some : (state : ScriptState) (message : Meaning) → (told : Response) × (after : ScriptState) × RespondsTo state message told after
meant_some state (asks label key) = (replies (out_of_memory_text label), state, (out_of_memory_text label, inr refl, refl, refl))
meant_some state (says text) = (replies text, state, (refl, refl))
meant_some state (edits change) = (edit_response (text_made state.files change) (edit_refusal state change), edited state change (text_made state.files change) (edit_refusal state change), (refl, refl))
meant_some state (withdraws label) = (silent, state, (refl, refl))
meant_some state ignores = (silent, state, (refl, refl))
meant_some state (ends status) = (finishes status, state, (refl, refl))

pub tells_some : (state : ScriptState) (body : List ℕ) → (told : Response) × (after : ScriptState) × Responds state body told after
unfolding Responds
tells_some state body =
    let json = json_some body in
    let one = meant_some (in_phase (next_phase state.phase (message_of json.0)) state) (meaning_of state.phase (message_of json.0)) in
    (one.0, one.1, (json.0, json.1, one.2))
