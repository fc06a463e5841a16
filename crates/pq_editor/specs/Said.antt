-- What the server says of itself: messages, and the progress of its reading (LSP 3.17, "LogMessage
-- Notification", "ShowMessage Notification", "Work Done Progress", "Refresh Diagnostics"). The
-- members of an object are in the order of their names, without white space.
use Rattle.std.specs.Prelude.{ℕ, List, codes, false}
use Rattle.serde_json.specs.Data.{Data, boolean, number, string, object, unsigned, member, no_members}
use Rattle.serde_json.specs.Written.{compact_text}
use Rattle.pq_editor.specs.declared.said.Kind.{Kind}
use Rattle.pq_editor.specs.declared.said.Kind.TheVariants.{Error, Warning, Info, Log}

-- `kind_number kind` is the number of the kind of a message (LSP 3.17, "MessageType")
abbrev pub kind_number : Kind → ℕ
kind_number Error = 1
kind_number Warning = 2
kind_number Info = 3
kind_number Log = 4

-- `notified method params` is the notification of `method` (JSON-RPC 2.0, "Notification")
abbrev pub notified : List ℕ → Data → Data
notified method params =
    object (member (codes "jsonrpc") (string (codes "2.0")) (member (codes "method") (string method) (member (codes "params") params no_members)))

-- `message_data method kind text` is the notification of `method` that says `text` (LSP 3.17,
-- "LogMessageParams", "ShowMessageParams")
abbrev pub message_data : List ℕ → Kind → List ℕ → Data
message_data method kind text =
    notified method (object (member (codes "message") (string text) (member (codes "type") (number (unsigned (kind_number kind))) no_members)))

-- `log_text kind text` is the notification that puts `text` into the log of the editor
abbrev pub log_text : Kind → List ℕ → List ℕ
log_text kind text = compact_text (message_data (codes "window/logMessage") kind text)

-- `show_text kind text` is the notification that shows `text` to the user of the editor
abbrev pub show_text : Kind → List ℕ → List ℕ
show_text kind text = compact_text (message_data (codes "window/showMessage") kind text)

-- `refresh_data` is the request that asks an editor to ask again for all diagnostics (LSP 3.17,
-- "Refresh Diagnostics")
abbrev pub refresh_data : Data
refresh_data =
    object (member (codes "id") (string (codes "pq_server:refresh")) (member (codes "jsonrpc") (string (codes "2.0"))
    (member (codes "method") (string (codes "workspace/diagnostic/refresh")) no_members)))

-- `progress_token` is the token of the progress of reading
abbrev pub progress_token : Data
progress_token = string (codes "pq_server:read")

-- `begin_progress_data` is the request that creates the progress of reading (LSP 3.17,
-- "WorkDoneProgressCreateParams")
abbrev pub begin_progress_data : Data
begin_progress_data =
    object (member (codes "id") progress_token (member (codes "jsonrpc") (string (codes "2.0"))
    (member (codes "method") (string (codes "window/workDoneProgress/create"))
    (member (codes "params") (object (member (codes "token") progress_token no_members)) no_members))))

-- `progress_data value` is the notification that the progress of reading is `value` (LSP 3.17,
-- "ProgressParams")
abbrev pub progress_data : Data → Data
progress_data value =
    notified (codes "$/progress") (object (member (codes "token") progress_token (member (codes "value") value no_members)))

-- `begun_data title` is the notification that reading begins (LSP 3.17, "WorkDoneProgressBegin")
abbrev pub begun_data : List ℕ → Data
begun_data title =
    progress_data (object (member (codes "cancellable") (boolean false) (member (codes "kind") (string (codes "begin")) (member (codes "title") (string title) no_members))))

-- `ended_data` is the notification that reading is over (LSP 3.17, "WorkDoneProgressEnd")
abbrev pub ended_data : Data
ended_data = progress_data (object (member (codes "kind") (string (codes "end")) no_members))

-- `begun_text title` is the text of the notification that reading begins
abbrev pub begun_text : List ℕ → List ℕ
begun_text title = compact_text (begun_data title)

-- `ended_text` is the text of the notification that reading is over
abbrev pub ended_text : List ℕ
ended_text = compact_text ended_data
