-- What the messages of a client mean, by the phase of the session (LSP 3.17, "Server lifecycle",
-- "Text Document Synchronization", "Document Diagnostics", "Document Symbols Request", "Goto
-- Definition Request", "Cancellation Support"; JSON-RPC 2.0, "Request object", "Notification").
use Rattle.std.specs.Prelude.{ℕ, nat_le, List, [], ◌∷◌, codes, if◌then◌else◌, Option, Some, None, option_and_then, option_map, is_some}
use Rattle.std.specs.Str.{bytes_eq}
use Rattle.serde_json.specs.Data.{Data, Items, no_items, item}
use Rattle.serde_json.specs.Find.{get, as_array, as_null, as_str, as_number, as_u64}
use Rattle.pq_frame.specs.Labels.{LabelModel, no_label, integer_label, text_label, label_of}
use Rattle.pq_frame.specs.Messages.{MessageModel, bad_json, invalid, ask, notice, response}
use Rattle.pq_inputs.specs.declared.durability.Durability.TheVariants.{Low}
use Rattle.pq_lex.specs.declared.position.Position.{Position}
use Rattle.pq_lex.specs.TextChanges.{TextChangeView}
use Rattle.pq_core.specs.Changes.{BodyView, set, ranged, ChangeView}
use Rattle.pq_proto.specs.declared.key.Place.{Place}
use Rattle.pq_proto.specs.declared.key.ProtoKey.{ProtoKey}
use Rattle.pq_proto.specs.declared.key.ProtoKey.TheVariants as keys
use Rattle.pq_session.specs.declared.protocol.methods.QueryMethod.{QueryMethod}
use Rattle.pq_session.specs.declared.protocol.methods.QueryMethod.TheVariants.{DocumentDiagnostic, DocumentSymbol, Definition, Descriptor}
use Rattle.pq_session.specs.declared.protocol.methods.RequestMethod.{RequestMethod}
use Rattle.pq_session.specs.declared.protocol.methods.RequestMethod.TheVariants.{Initialize, Shutdown, Query}
use Rattle.pq_session.specs.declared.protocol.methods.NotificationMethod.{NotificationMethod}
use Rattle.pq_session.specs.declared.protocol.methods.NotificationMethod.TheVariants.{Exit, DidOpen, DidChange, RemoveFile, CancelRequest}
use Rattle.pq_session.specs.declared.state.phase.Phase.{Phase}
use Rattle.pq_session.specs.declared.state.phase.Phase.TheVariants.{Fresh, Serving, Closing}
use Rattle.pq_session.specs.declared.protocol.refusals.Refusal.TheVariants.{ParseError, InvalidRequest, MethodNotFound, InvalidParams, NotInitialized}
use Rattle.pq_session.specs.Uri.{root_of, file_of}
use Rattle.pq_session.specs.Reply.{refusal_text, initialized_text, null_text}

-- The meaning of a message.
pub data Meaning : Type 0 where
  -- The response to the request of this label is the answer of this key at the sources.
  asks : LabelModel → ProtoKey → Meaning
  -- The response has this text, whatever the sources are.
  says : List ℕ → Meaning
  -- This change of the sources is made.
  edits : ChangeView → Meaning
  -- The requests with this label that have no response yet are withdrawn.
  withdraws : LabelModel → Meaning
  ignores : Meaning
  -- The session ends with this status.
  ends : ℕ → Meaning

-- ---- the methods

-- `query_method name` is the method of a query of this name.
abbrev pub query_method : List ℕ → Option QueryMethod
query_method name =
    if bytes_eq name (codes "textDocument/diagnostic") then Some DocumentDiagnostic else
    (if bytes_eq name (codes "textDocument/documentSymbol") then Some DocumentSymbol else
    (if bytes_eq name (codes "textDocument/definition") then Some Definition else
    (if bytes_eq name (codes "proto/descriptor") then Some Descriptor else None)))

-- `request_method name` is the method of a request of this name. Any other name is unknown in a
-- request.
abbrev pub request_method : List ℕ → Option RequestMethod
request_method name =
    if bytes_eq name (codes "initialize") then Some Initialize else
    (if bytes_eq name (codes "shutdown") then Some Shutdown else
    option_map (λ query. Query query) (query_method name))

-- `notification_method name` is the method of a notification of this name. Any other name is
-- unknown in a notification, also `textDocument/didClose`: a file that is closed keeps its text.
abbrev pub notification_method : List ℕ → Option NotificationMethod
notification_method name =
    if bytes_eq name (codes "exit") then Some Exit else
    (if bytes_eq name (codes "textDocument/didOpen") then Some DidOpen else
    (if bytes_eq name (codes "textDocument/didChange") then Some DidChange else
    (if bytes_eq name (codes "proto/removeFile") then Some RemoveFile else
    (if bytes_eq name (codes "$/cancelRequest") then Some CancelRequest else None))))

-- ---- the parameters

-- `text_member name value` is the string member `name` of `value`.
abbrev pub text_member : List ℕ → Option Data → Option (List ℕ)
text_member name value = option_and_then as_str (option_and_then (get name) value)

-- `document_text name params` is the string member `name` of the member `textDocument` of `params`
-- (LSP 3.17, "TextDocumentIdentifier", "TextDocumentItem").
abbrev pub document_text : List ℕ → Option Data → Option (List ℕ)
document_text name params = text_member name (option_and_then (get (codes "textDocument")) params)

-- `max_coordinate` is the largest line and the largest column of a position (LSP 3.17, "Position",
-- "uinteger").
abbrev pub max_coordinate : ℕ
max_coordinate = 2147483647

-- `small n` is `n`, if it is at most `max_coordinate`.
abbrev pub small : ℕ → Option ℕ
small n = if nat_le n max_coordinate then Some n else None

-- `coordinate name position` is the member `name` of `position`, if it is an integer from 0 to
-- `max_coordinate`.
abbrev pub coordinate : List ℕ → Data → Option ℕ
coordinate name position = option_and_then small (option_and_then as_u64 (option_and_then as_number (get name position)))

-- `place_by line character` is the place of a line and a column, if there are both.
abbrev pub place_by : Option ℕ → Option ℕ → Option Place
place_by line character = option_and_then (λ l. option_map (λ c. record { line = l; character = c }) character) line

-- `place_named params` is the place in the member `position` of `params`, if its members `line` and
-- `character` are coordinates (LSP 3.17, "TextDocumentPositionParams").
abbrev pub place_named : Option Data → Option Place
place_named params = option_and_then (λ p. place_by (coordinate (codes "line") p) (coordinate (codes "character") p)) (option_and_then (get (codes "position")) params)

-- `position_by line character` is the position of a line and a column, if there are both.
abbrev pub position_by : Option ℕ → Option ℕ → Option Position
position_by line character = option_and_then (λ l. option_map (λ c. record { line = l; character = c }) character) line

-- `position_in name range` is the position in the member `name` of `range`, if the members `line`
-- and `character` of that position are coordinates (LSP 3.17, "Position").
abbrev pub position_in : List ℕ → Data → Option Position
position_in name range = option_and_then (λ p. position_by (coordinate (codes "line") p) (coordinate (codes "character") p)) (get name range)

-- `range_in range` is the positions in the members `start` and `end` of `range`, if both are readable
-- (LSP 3.17, "Range").
abbrev pub range_in : Data → Option (Position × Position)
range_in range = option_and_then (λ start. option_map (λ end. (start, end)) (position_in (codes "end") range)) (position_in (codes "start") range)

-- `change_range range` is the range of a change whose member `range` is this, if it is readable. A
-- change without the member, or with null, has no range: the result is Some None.
abbrev pub change_range : Option Data → Option (Option (Position × Position))
change_range None = Some None
change_range (Some range) = if is_some (as_null range) then Some None else option_map (λ r. Some r) (range_in range)

-- `change_by range text` is the change of this range and this text, if both are readable.
abbrev pub change_by : Option (Option (Position × Position)) → Option (List ℕ) → Option TextChangeView
change_by range text = option_and_then (λ r. option_map (λ t. record { range = r; text = t }) text) range

-- `change_member change` is the change that the JSON value `change` says, if its member `range` is
-- readable and its member `text` is a string. Its other members are not read (LSP 3.17,
-- "TextDocumentContentChangeEvent").
abbrev pub change_member : Data → Option TextChangeView
change_member change = change_by (change_range (get (codes "range") change)) (text_member (codes "text") (Some change))

-- `change_members changes` is the changes that the items of `changes` say, in their order, if each
-- item is readable.
abbrev pub change_members : Items → Option (List TextChangeView)
change_members no_items = Some []
change_members (item change changes) = option_and_then (λ first. option_map (λ others. first ∷ others) (change_members changes)) (change_member change)

-- `changes_in params` is the list in the member `contentChanges` of `params` (LSP 3.17,
-- "DidChangeTextDocumentParams").
abbrev pub changes_in : Option Data → Option Items
changes_in params = option_and_then as_array (option_and_then (get (codes "contentChanges")) params)

-- `changed_members params` is the changes that the list in `params` says, if each of them is readable.
abbrev pub changed_members : Option Data → Option (List TextChangeView)
changed_members params = option_and_then change_members (changes_in params)

-- ---- requests, by phase and method

-- `file_named root uri` is the name of the file of `uri`, if there is a `uri` that names a file.
abbrev pub file_named : List ℕ → Option (List ℕ) → Option (List ℕ)
file_named root uri = option_and_then (file_of root) uri

-- `query_key query file place` is the key that answers a query about `file`, where `place` is the
-- place in its parameters, if it is readable. A definition alone needs one.
abbrev pub query_key : QueryMethod → List ℕ → Option Place → Option ProtoKey
query_key DocumentDiagnostic file place = Some (keys.Diagnostics file)
query_key DocumentSymbol file place = Some (keys.Symbols file)
query_key Definition file place = option_map (λ p. keys.Definition file p) place
query_key Descriptor file place = Some (keys.Descriptor file)

-- `key_named root query params` is the key that answers a query with these parameters, if they are
-- readable and their URI names a file.
abbrev pub key_named : List ℕ → QueryMethod → Option Data → Option ProtoKey
key_named root query params = option_and_then (λ file. query_key query file (place_named params)) (file_named root (document_text (codes "uri") params))

-- `query_meaning label key` is the meaning of a query that `key` answers, or of one with unreadable
-- parameters.
abbrev pub query_meaning : LabelModel → Option ProtoKey → Meaning
query_meaning label None = says (refusal_text label InvalidParams)
query_meaning label (Some key) = asks label key

-- `request_meaning phase label method params` is the meaning of a request. All but `initialize` is
-- refused before it, all after `shutdown`, and a second `initialize`.
abbrev pub request_meaning : Phase → LabelModel → Option RequestMethod → Option Data → Meaning
request_meaning Fresh label (Some Initialize) params = says (initialized_text label)
request_meaning Fresh label (Some Shutdown) params = says (refusal_text label NotInitialized)
request_meaning Fresh label (Some (Query query)) params = says (refusal_text label NotInitialized)
request_meaning Fresh label None params = says (refusal_text label NotInitialized)
request_meaning (Serving root) label (Some Initialize) params = says (refusal_text label InvalidRequest)
request_meaning (Serving root) label (Some Shutdown) params = says (null_text label)
request_meaning (Serving root) label (Some (Query query)) params = query_meaning label (key_named root query params)
request_meaning (Serving root) label None params = says (refusal_text label MethodNotFound)
request_meaning Closing label method params = says (refusal_text label InvalidRequest)

-- ---- notifications, by phase and method

-- `exit_status phase` is the status of a session that `exit` ends in `phase`: 0 after `shutdown`,
-- else 1.
abbrev pub exit_status : Phase → ℕ
exit_status Fresh = 1
exit_status (Serving root) = 1
exit_status Closing = 0

-- `unreadable_parameters` is the status of a session that an edit of unreadable parameters ends.
abbrev pub unreadable_parameters : ℕ
unreadable_parameters = 3

-- `edit_meaning file body` is the meaning of an edit of `file`: `body` says what becomes of its text,
-- and its durability becomes Low. An edit whose URI names no file is ignored.
abbrev pub edit_meaning : Option (List ℕ) → BodyView → Meaning
edit_meaning None body = ignores
edit_meaning (Some file) body = edits (record { file = file; body = body; durability = Low })

-- `members_meaning file changes` is the meaning of an edit of `file` by `changes`, which are made in
-- their order. An edit without changes is ignored.
abbrev pub members_meaning : Option (List ℕ) → List TextChangeView → Meaning
members_meaning file [] = ignores
members_meaning file (change ∷ changes) = edit_meaning file (ranged (change ∷ changes))

-- `open_meaning root uri text` is the meaning of `textDocument/didOpen`. Its parameters are
-- unreadable if `uri` or `text` is absent or not a string.
abbrev pub open_meaning : List ℕ → Option (List ℕ) → Option (List ℕ) → Meaning
open_meaning root None text = ends unreadable_parameters
open_meaning root (Some uri) None = ends unreadable_parameters
open_meaning root (Some uri) (Some text) = edit_meaning (file_of root uri) (set (Some text))

-- `change_meaning root uri changes` is the meaning of `textDocument/didChange`: `changes` are made in
-- the file of `uri`. Its parameters are unreadable if `uri` or one of the changes is.
abbrev pub change_meaning : List ℕ → Option (List ℕ) → Option (List TextChangeView) → Meaning
change_meaning root None changes = ends unreadable_parameters
change_meaning root (Some uri) None = ends unreadable_parameters
change_meaning root (Some uri) (Some changes) = members_meaning (file_of root uri) changes

-- `remove_meaning root uri` is the meaning of `proto/removeFile`.
abbrev pub remove_meaning : List ℕ → Option (List ℕ) → Meaning
remove_meaning root None = ends unreadable_parameters
remove_meaning root (Some uri) = edit_meaning (file_of root uri) (set None)

-- `cancelled_id params` is the member `id` of `params` (LSP 3.17, "CancelParams").
abbrev pub cancelled_id : Option Data → Option Data
cancelled_id params = option_and_then (get (codes "id")) params

-- `withdrawal_meaning label` is the meaning of `$/cancelRequest` of the request of this label. It is
-- ignored if its `id` is no label: neither an integer of 64 bits nor a string.
abbrev pub withdrawal_meaning : LabelModel → Meaning
withdrawal_meaning no_label = ignores
withdrawal_meaning (integer_label n) = withdraws (integer_label n)
withdrawal_meaning (text_label text) = withdraws (text_label text)

-- `served_meaning root method params` is the meaning of a notification between `initialize` and
-- `shutdown`, other than `exit`.
abbrev pub served_meaning : List ℕ → NotificationMethod → Option Data → Meaning
served_meaning root Exit params = ends (exit_status (Serving root))
served_meaning root DidOpen params = open_meaning root (document_text (codes "uri") params) (document_text (codes "text") params)
served_meaning root DidChange params = change_meaning root (document_text (codes "uri") params) (changed_members params)
served_meaning root RemoveFile params = remove_meaning root (document_text (codes "uri") params)
served_meaning root CancelRequest params = withdrawal_meaning (label_of (cancelled_id params))

-- `notification_meaning phase method params` is the meaning of a notification. Between `initialize`
-- and `shutdown` edits and withdrawals count, and `exit` always does.
abbrev pub notification_meaning : Phase → Option NotificationMethod → Option Data → Meaning
notification_meaning phase None params = ignores
notification_meaning Fresh (Some Exit) params = ends (exit_status Fresh)
notification_meaning Fresh (Some method) params = ignores
notification_meaning (Serving root) (Some method) params = served_meaning root method params
notification_meaning Closing (Some Exit) params = ends (exit_status Closing)
notification_meaning Closing (Some method) params = ignores

-- ---- messages

-- `meaning_of phase message` is the meaning of `message` in a session of this phase.
unfoldable pub meaning_of : Phase → MessageModel → Meaning
meaning_of phase bad_json = says (refusal_text no_label ParseError)
meaning_of phase (invalid label) = says (refusal_text label InvalidRequest)
meaning_of phase (ask label method params) = request_meaning phase label (request_method method) params
meaning_of phase (notice method params) = notification_meaning phase (notification_method method) params
meaning_of phase response = ignores

-- `phase_after phase method params` is the phase after a request. The root is read of `initialize`,
-- and stays up to `shutdown` (LSP 3.17, "InitializeParams").
abbrev pub phase_after : Phase → Option RequestMethod → Option Data → Phase
phase_after Fresh (Some Initialize) params = Serving (root_of (text_member (codes "rootUri") params))
phase_after Fresh (Some Shutdown) params = Fresh
phase_after Fresh (Some (Query query)) params = Fresh
phase_after (Serving root) (Some Initialize) params = Serving root
phase_after (Serving root) (Some Shutdown) params = Closing
phase_after (Serving root) (Some (Query query)) params = Serving root
phase_after Closing (Some method) params = Closing
phase_after phase None params = phase

-- `next_phase phase message` is the phase after `message`. Requests alone change it.
unfoldable pub next_phase : Phase → MessageModel → Phase
next_phase phase bad_json = phase
next_phase phase (invalid label) = phase
next_phase phase (ask label method params) = phase_after phase (request_method method) params
next_phase phase (notice method params) = phase
next_phase phase response = phase

-- `root_in phase` is the root of a session in `phase`, between `initialize` and `shutdown`.
abbrev pub root_in : Phase → Option (List ℕ)
root_in Fresh = None
root_in (Serving root) = Some root
root_in Closing = None
