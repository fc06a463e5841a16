-- The message that a body is (JSON-RPC 2.0, "Request object", "Notification", "Response object";
-- LSP 3.17, "Base Protocol").
use Rattle.std.specs.Prelude.{◌≢◌, ℕ, List, codes, Bool, true, false, ◌&&◌, ◌||◌, Option, Some, None, option_map, option_and_then, is_some, if◌then◌else◌, unwrap_or, string_bytes}
use Rattle.std.specs.Str.{bytes_eq}
use Rattle.serde_json.specs.Data.{Data, null, boolean, number, string, array, object}
use Rattle.serde_json.specs.Find.{get, as_str, as_object}
use Rattle.serde_json.specs.View.{view}
use Rattle.pq_frame.specs.Labels.{LabelModel, no_label, label_model, HasOneForm, id_label, label_of}
use Rattle.pq_frame.specs.declared.messages.Message.{Message}
use Rattle.pq_frame.specs.declared.messages.Message.TheVariants.{BadJson, Invalid, Ask, Notice, Response}

-- A message as contracts see it: without its address in memory.
pub data MessageModel : Type 0 where
  bad_json : MessageModel
  -- the label of the response
  invalid : LabelModel → MessageModel
  -- label, method, params
  ask : LabelModel → List ℕ → Option Data → MessageModel
  -- method, params
  notice : List ℕ → Option Data → MessageModel
  response : MessageModel

-- `is_id d` is whether `d` is a label.
abbrev pub is_id : Data → Bool
is_id d = is_some (id_label d)

-- `is_text d` is whether `d` is a string.
abbrev pub is_text : Data → Bool
is_text d = is_some (as_str d)

-- `is_version version` is whether the member `jsonrpc` is "2.0".
abbrev pub is_version : Option Data → Bool
is_version None = false
is_version (Some d) = unwrap_or (option_map (λ text. bytes_eq text (codes "2.0")) (as_str d)) false

-- `if_there test member` is whether `member` is absent or passes `test`.
abbrev pub if_there : (Data → Bool) → Option Data → Bool
if_there test None = true
if_there test (Some d) = test d

-- `unless_null d` is `d` if it is not `null`.
abbrev pub unless_null : Data → Option Data
unless_null null = None
unless_null (boolean b) = Some (boolean b)
unless_null (number n) = Some (number n)
unless_null (string text) = Some (string text)
unless_null (array ds) = Some (array ds)
unless_null (object ms) = Some (object ms)

-- `params_of d` is the member `params` of `d`. `null` counts as absent.
abbrev pub params_of : Data → Option Data
params_of d = option_and_then unless_null (get (codes "params") d)

-- `is_answer d` is whether `d` has a member `result` or `error`, of any value.
abbrev pub is_answer : Data → Bool
is_answer d = is_some (get (codes "result") d) || is_some (get (codes "error") d)

-- `kind_of id method params answers` is the message of these well-formed members: a request has
-- `id` and `method`, a notification has no `id`, a response has no `method`. `answers` is whether
-- it has a result or an error.
abbrev pub kind_of : Option Data → Option (List ℕ) → Option Data → Bool → MessageModel
kind_of id None params answers = if answers then response else invalid (label_of id)
kind_of None (Some method) params answers = notice method params
kind_of (Some d) (Some method) params answers = ask (label_of (Some d)) method params

-- `message_by_members d version id method` is the message of the object `d` with these members
-- `jsonrpc`, `id` and `method`. A malformed one makes the message invalid, whatever else `d` holds.
abbrev pub message_by_members : Data → Option Data → Option Data → Option Data → MessageModel
message_by_members d version id method =
    if is_version version && if_there is_text method && if_there is_id id
    then kind_of id (option_and_then as_str method) (params_of d) (is_answer d)
    else invalid (label_of id)

-- `message_of json` is the message of a body that writes the value `json`, or of one that is not
-- JSON.
unfoldable pub message_of : Option Data → MessageModel
message_of None = bad_json
message_of (Some d) = if is_some (as_object d) then message_by_members d (get (codes "jsonrpc") d) (get (codes "id") d) (get (codes "method") d) else invalid no_label

-- `message_model message` is `message` as contracts see it.
abbrev pub message_model : Message → MessageModel
message_model BadJson = bad_json
message_model (Invalid label) = invalid (label_model label)
message_model (Ask label method params) = ask (label_model label) (string_bytes method) (option_map view params)
message_model (Notice method params) = notice (string_bytes method) (option_map view params)
message_model Response = response

-- `IsLabelled message` is that `message`, if it is a request, has a label.
abbrev pub IsLabelled : MessageModel → Type 0
IsLabelled bad_json = Unit {0}
IsLabelled (invalid label) = Unit {0}
IsLabelled (ask label method params) = label ≢ no_label
IsLabelled (notice method params) = Unit {0}
IsLabelled response = Unit {0}

-- `HasOneLabel message` is that the label of `message`, if it has one, has its one form.
abbrev pub HasOneLabel : Message → Type 0
HasOneLabel BadJson = Unit {0}
HasOneLabel (Invalid label) = HasOneForm label
HasOneLabel (Ask label method params) = HasOneForm label
HasOneLabel (Notice method params) = Unit {0}
HasOneLabel Response = Unit {0}
