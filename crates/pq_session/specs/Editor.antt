-- What one editor is shown (LSP 3.17, "Diagnostic", "PublishDiagnosticsParams"): the diagnostics of
-- a file with their severities and messages, the lists that are sent without being asked for, and the
-- texts that edits make.
use Rattle.std.specs.Prelude.{ℕ, ◌-◌, ℤ, Bool, true, false, not, ◌&&◌, ◌==◌, nat_le, List, [], ◌∷◌, ◌++◌, length, take, filter, flat_map, map, codes, decimal, if◌then◌else◌, Option, Some, None, option_and_then, option_map}
use Rattle.std.specs.Fmt.{signed_decimal}
use Rattle.std.specs.List.{list_any}
use Rattle.std.specs.Option.{option_eq}
use Rattle.std.specs.Ordering.{int_eq}
use Rattle.std.specs.Str.{bytes_eq}
use Rattle.serde_json.specs.Data.{Data, Members, number, string, object, unsigned, member, no_members}
use Rattle.serde_json.specs.Find.{of_integer}
use Rattle.serde_json.specs.Written.{compact_text}
use Rattle.pq_frame.specs.Labels.{LabelModel, label_data}
use Rattle.pq_links.specs.declared.files.ParsedFile.{ParsedFile}
use Rattle.pq_rules.specs.declared.turn.Answer.{Answer}
use Rattle.pq_rules.specs.declared.turn.Answer.TheVariants.{Value, Cycle}
use Rattle.pq_checks.specs.Codes.{code_text, severity, severity_number}
use Rattle.pq_checks.specs.declared.errors.code.Code.{Code}
use Rattle.pq_checks.specs.declared.errors.code.Code.TheVariants.{AggregateConstant, ExtendBlock, FloatConstant, ImportNotFound, ImportWithError, TypeNotFound}
use Rattle.pq_checks.specs.declared.errors.code.Severity.TheVariants.{Information}
use Rattle.pq_checks.specs.declared.errors.diagnostic.Diagnostic.{Diagnostic}
use Rattle.pq_checks.specs.declared.errors.diagnostic.Diagnosed.{Diagnosed}
use Rattle.pq_proto.specs.Compile.{position_in}
use Rattle.pq_proto.specs.Lists.{list_data}
use Rattle.pq_proto.specs.Ranges.{range_data}
use Rattle.pq_proto.specs.Keys.{own_name}
use Rattle.pq_proto.specs.declared.key.ProtoKey.{ProtoKey}
use Rattle.pq_proto.specs.declared.key.ProtoKey.TheVariants as keys
use Rattle.pq_proto.specs.declared.value.Location.{Location}
use Rattle.pq_proto.specs.declared.value.ProtoValue.{ProtoValue}
use Rattle.pq_proto.specs.declared.value.ProtoValue.TheVariants as values
use Rattle.pq_core.specs.declared.values.request.Want.{Want}
use Rattle.pq_core.specs.declared.values.request.Want.TheVariants.{Demand, Fixed}
use Rattle.pq_core.specs.declared.values.outcome.Outcome.{Outcome}
use Rattle.pq_core.specs.declared.values.outcome.Outcome.TheVariants.{Answered, Plain, Cancelled, Starved, Withdrawn}
use Rattle.pq_core.specs.Replies.{ReplyView}
use Rattle.pq_session.specs.Labels.{label_model}
use Rattle.pq_session.specs.Reply.{reply_data, located_text}
use Rattle.pq_session.specs.Replies.{reply_text}

-- ---- which are shown, and their severities

-- `is_unsaid c` is whether `c` is the code of a part of a file that is not read: a value of a message, a
-- block of `extend`, or a value with a fraction. No editor is told of it, since the file is correct.
abbrev pub is_unsaid : Code → Bool
is_unsaid AggregateConstant = true
is_unsaid ExtendBlock = true
is_unsaid FloatConstant = true
is_unsaid _ = false

-- `has_unsaid ds` is whether one of the diagnostics `ds` is of a part that is not read.
abbrev pub has_unsaid : List Diagnostic → Bool
has_unsaid ds = list_any (λ (f : Diagnostic). is_unsaid f.code) ds

-- `is_unread c` is whether `c` is the code of an import that is not read: the imported file has an
-- error of its own, so it has no fields and values, and has the definitions that its braces show.
abbrev pub is_unread : Code → Bool
is_unread ImportWithError = true
is_unread _ = false

-- `has_unread ds` is whether one of the diagnostics `ds` is an import that is not read.
abbrev pub has_unread : List Diagnostic → Bool
has_unread ds = list_any (λ (f : Diagnostic). is_unread f.code) ds

-- `may_follow c` is whether an error of the code `c` may follow from an import that is not read: a
-- name of a type that resolves to nothing.
abbrev pub may_follow : Code → Bool
may_follow TypeNotFound = true
may_follow _ = false

-- `is_shown unread f` is whether the diagnostic `f` is shown, where `unread` is whether an import of
-- the file is not read: that import is not told, since the imported file shows its error itself. Nor is
-- a part of the file that is not read.
abbrev pub is_shown : Bool → Diagnostic → Bool
is_shown unread f = not (unread && is_unread f.code) && not (is_unsaid f.code)

-- `shown_severity unread c` is the number of the severity that is shown of an error of the code `c`,
-- where `unread` is whether an import of the file is not read: what may follow from that is
-- information.
abbrev pub shown_severity : Bool → Code → ℕ
shown_severity unread c = if unread && may_follow c then severity_number Information else severity_number (severity c)

-- ---- the messages

-- `is_missing c` is whether `c` is the code of an import that is not found.
abbrev pub is_missing : Code → Bool
is_missing ImportNotFound = true
is_missing _ = false

-- `has_missing ds` is whether one of the diagnostics `ds` is an import that is not found.
abbrev pub has_missing : List Diagnostic → Bool
has_missing ds = list_any (λ (f : Diagnostic). is_missing f.code) ds

-- `shown_message looked f` is the message that is shown of the diagnostic `f`: its own, and `looked`
-- after it if `f` is an import that is not found. Then `looked` says where it was looked for.
abbrev pub shown_message : List ℕ → Diagnostic → List ℕ
shown_message looked f = if is_missing f.code then f.text ++ looked else f.text

-- `later_folders folders` is the paths `folders`, each after a comma.
abbrev pub later_folders : List (List ℕ) → List ℕ
later_folders folders = flat_map (λ folder. codes ", " ++ folder) folders

-- `folders_text folders` is the paths `folders`, with commas between.
abbrev pub folders_text : List (List ℕ) → List ℕ
folders_text [] = []
folders_text (folder ∷ folders) = folder ++ later_folders folders

-- `most_named` is how many folders are named at most.
abbrev pub most_named : ℕ
most_named = 8

-- `more_folders n` is that there are `n` folders beside those that are named.
abbrev pub more_folders : ℕ → List ℕ
more_folders n = if n == 0 then [] else (if n == 1 then codes " and 1 more folder" else codes " and " ++ (decimal n ++ codes " more folders"))

-- `looked_in folders` is the text that says that an import was looked for below `folders`. It names the
-- first ones, and counts the others. It is empty where there is no folder.
abbrev pub looked_in : List (List ℕ) → List ℕ
looked_in folders =
    if length folders == 0 then [] else codes " (looked for in " ++ (folders_text (take most_named folders) ++ (more_folders (length folders - most_named) ++ codes ")"))

-- ---- lists and reports

-- `item_data number message file f` is the error `f` of a file that is read as `file`, with the
-- severity of this number and this message (LSP 3.17, "Diagnostic").
abbrev pub item_data : ℕ → List ℕ → ParsedFile → Diagnostic → Data
item_data n message file f =
    object (member (codes "code") (string (code_text f.code)) (member (codes "message") (string message)
    (member (codes "range") (range_data (position_in file f.start) (position_in file f.end))
    (member (codes "severity") (number (unsigned n)) (member (codes "source") (string (codes "proto")) no_members)))))

-- `shown_data unread looked file f` is the error `f` of a file that is read as `file`, as it is shown
-- where imports were looked for as `looked` says.
abbrev pub shown_data : Bool → List ℕ → ParsedFile → Diagnostic → Data
shown_data unread looked file f = item_data (shown_severity unread f.code) (shown_message looked f) file f

-- `shown_items unread looked d` is the list of those of the diagnostics `d` that are shown, as they are
-- shown.
abbrev pub shown_items : Bool → List ℕ → Diagnosed → Data
shown_items unread looked d = list_data (map (shown_data unread looked d.file) (filter (is_shown unread) d.diagnostics))

-- `shown_list looked d` is the text of the list of the diagnostics `d`, as they are shown.
unfoldable pub shown_list : List ℕ → Diagnosed → List ℕ
shown_list looked d = compact_text (shown_items (has_unread d.diagnostics) looked d)

-- `shown_report unread looked d revision` is the report of the diagnostics `d` at a revision of the
-- sources, its `resultId` (LSP 3.17, "RelatedFullDocumentDiagnosticReport"), as they are shown.
abbrev pub shown_report : Bool → List ℕ → Diagnosed → ℕ → Data
shown_report unread looked d revision =
    object (member (codes "items") (shown_items unread looked d) (member (codes "kind") (string (codes "full")) (member (codes "resultId") (string (decimal revision)) no_members)))

-- `shown_text label unread looked d revision` is the text of the response that reports the diagnostics
-- `d` at `revision`, as they are shown.
unfoldable pub shown_text : LabelModel → Bool → List ℕ → Diagnosed → ℕ → List ℕ
shown_text label unread looked d revision = compact_text (reply_data (label_data label) (shown_report unread looked d revision))

-- ---- what a reply answers

-- `value_diagnostics value` is the diagnostics that `value` is, if it is diagnostics.
abbrev pub value_diagnostics : ProtoValue → Option Diagnosed
value_diagnostics (values.Diagnostics d) = Some d
value_diagnostics _ = None

-- `value_file value` is the file of the definition that `value` is, if it is one.
abbrev pub value_file : ProtoValue → Option (List ℕ)
value_file (values.Definition d) = option_map (λ (l : Location). l.file) d
value_file _ = None

-- `value_location value` is the location of the definition that `value` is, if it is one.
abbrev pub value_location : ProtoValue → Option Location
value_location (values.Definition d) = d
value_location _ = None

-- `answer_value answer` is the value of `answer`, if it is not a cycle.
abbrev pub answer_value : Answer ProtoKey ProtoValue → Option ProtoValue
answer_value (Value value) = Some value
answer_value (Cycle ring) = None

-- `outcome_value outcome` is the value of a request that ended in `outcome`, if it was answered with
-- one.
abbrev pub outcome_value : {M : Type 0} → Outcome ProtoKey ProtoValue M → Option ProtoValue
outcome_value (Answered answer stamp) = answer_value answer
outcome_value Plain = None
outcome_value (Cancelled started seen) = None
outcome_value Starved = None
outcome_value Withdrawn = None

-- `answered_diagnostics reply` is the diagnostics that `reply` answers, if it answers some.
abbrev pub answered_diagnostics : {M : Type 0} → ReplyView ProtoKey ProtoValue M → Option Diagnosed
answered_diagnostics reply = option_and_then value_diagnostics (outcome_value reply.outcome)

-- `definition_file reply` is the file of the definition that `reply` answers, if it answers one.
abbrev pub definition_file : {M : Type 0} → ReplyView ProtoKey ProtoValue M → Option (List ℕ)
definition_file reply = option_and_then value_file (outcome_value reply.outcome)

-- `answered_location reply` is the location of the definition that `reply` answers, if it answers
-- one.
abbrev pub answered_location : {M : Type 0} → ReplyView ProtoKey ProtoValue M → Option Location
answered_location reply = option_and_then value_location (outcome_value reply.outcome)

-- `ListView` is a list of diagnostics that is shown: the revision at which it holds, and its text.
pub record ListView : Type 0 where
  pub revision : ℕ
  pub text : List ℕ

-- `list_of looked reply` is the list of the diagnostics that `reply` answers, at the revision of
-- `reply`. Imports were looked for as `looked` says.
abbrev pub list_of : {M : Type 0} → List ℕ → ReplyView ProtoKey ProtoValue M → Option ListView
list_of looked reply = option_map (λ d. record { revision = reply.revision; text = shown_list looked d }) (answered_diagnostics reply)

-- `shown_or_text uri looked reply answered place` is the text of `reply`, where `answered` is the
-- diagnostics and `place` the location that it answers. Diagnostics are as they are shown. A location
-- is in the file of `uri`. Any other text has no URI: it is the same for each root (the law
-- `located_as_it_is`), so it is that of the empty root.
abbrev pub shown_or_text : {M : Type 0} → List ℕ → List ℕ → ReplyView ProtoKey ProtoValue M → Option Diagnosed → Option Location → List ℕ
shown_or_text uri looked reply (Some d) place = shown_text (label_model reply.request.label) (has_unread d.diagnostics) looked d reply.revision
shown_or_text uri looked reply None (Some l) = located_text (label_model reply.request.label) uri l
shown_or_text uri looked reply None None = reply_text [] reply

-- `editor_reply_text uri looked reply` is the text of `reply` for an editor, where `uri` is the URI of
-- the file of the definition that it answers, as the editor is to see it. Imports were looked for as
-- `looked` says.
abbrev pub editor_reply_text : {M : Type 0} → List ℕ → List ℕ → ReplyView ProtoKey ProtoValue M → List ℕ
editor_reply_text uri looked reply = shown_or_text uri looked reply (answered_diagnostics reply) (answered_location reply)

-- ---- lists that are sent

-- `version_text version` is the member `version` of a notification, if it has one.
abbrev pub version_text : Option ℤ → List ℕ
version_text None = codes ""
version_text (Some version) = codes ",\"version\":" ++ signed_decimal version

-- `published_text uri version list` is the notification that the file of `uri` has the diagnostics
-- whose list is the JSON text `list` (LSP 3.17, "PublishDiagnostics Notification"). The law
-- `published_spliced` says of which data it is the compact text.
unfoldable pub published_text : List ℕ → Option ℤ → List ℕ → List ℕ
published_text uri version list =
    codes "{\"jsonrpc\":\"2.0\",\"method\":\"textDocument/publishDiagnostics\",\"params\":{\"diagnostics\":"
    ++ (list ++ (codes ",\"uri\":" ++ (compact_text (string uri) ++ (version_text version ++ codes "}}"))))

-- `version_member version` is the members of the parameters from `version` on.
abbrev pub version_member : Option ℤ → Members
version_member None = no_members
version_member (Some version) = member (codes "version") (number (of_integer version)) no_members

-- `published_data uri version d` is the notification that the file of `uri` has the list `d` of
-- diagnostics (LSP 3.17, "PublishDiagnosticsParams").
abbrev pub published_data : List ℕ → Option ℤ → Data → Data
published_data uri version d =
    object (member (codes "jsonrpc") (string (codes "2.0"))
    (member (codes "method") (string (codes "textDocument/publishDiagnostics"))
    (member (codes "params") (object (member (codes "diagnostics") d (member (codes "uri") (string uri) (version_member version))))
    no_members)))

-- `LastView` is what was sent for a document: the revision of the last list that was taken, and the
-- version and the text that were sent last, if a list was. The version is that of the document (LSP
-- 3.17, "PublishDiagnosticsParams").
pub record LastView : Type 0 where
  pub revision : ℕ
  pub version : Option ℤ
  pub text : Option (List ℕ)

-- `is_last last text version` is whether a list was sent, and `text` and `version` are those that were
-- sent last.
abbrev pub is_last : LastView → List ℕ → Option ℤ → Bool
is_last last text version = elim last.text [ None ↦ false | Some sent ↦ bytes_eq sent text && option_eq int_eq last.version version ]

-- `is_current last list` is whether `list` is of no older revision than the last one that was taken.
abbrev pub is_current : LastView → ListView → Bool
is_current last list = nat_le last.revision list.revision

-- `is_news last list version` is whether `list`, for the document at `version`, is to be sent. Then it
-- is not older than the last one that was taken, and its text or the version is not the one that was
-- sent last.
abbrev pub is_news : LastView → ListView → Option ℤ → Bool
is_news last list version = is_current last list && not (is_last last list.text version)

-- `after last list version` is what was sent after `list` came, for the document at `version`: an
-- older list changes nothing.
abbrev pub after : LastView → ListView → Option ℤ → LastView
after last list version = if is_current last list then record { revision = list.revision; version = version; text = Some list.text } else last

-- ---- requests

-- `with_file key name` is the query of `key`, about the file `name`.
abbrev pub with_file : ProtoKey → List ℕ → ProtoKey
with_file (keys.Input file) name = keys.Input name
with_file (keys.Parse file) name = keys.Parse name
with_file (keys.Items file) name = keys.Items name
with_file (keys.Imports file) name = keys.Imports name
with_file (keys.Linked file) name = keys.Linked name
with_file (keys.Defs file) name = keys.Defs name
with_file (keys.Scope file) name = keys.Scope name
with_file (keys.Resolved file) name = keys.Resolved name
with_file (keys.Checks file) name = keys.Checks name
with_file (keys.Diagnostics file) name = keys.Diagnostics name
with_file (keys.Descriptor file) name = keys.Descriptor name
with_file (keys.Symbols file) name = keys.Symbols name
with_file (keys.Definition file place) name = keys.Definition name place

-- `asked_file want` is the file that a request asks about. A request with a fixed text asks about
-- no file.
abbrev pub asked_file : Want ProtoKey → Option (List ℕ)
asked_file (Demand key) = Some (own_name key)
asked_file (Fixed text) = None

-- `renamed want name` is what answers the same request about the file `name`. A fixed text stays.
abbrev pub renamed : Want ProtoKey → List ℕ → Want ProtoKey
renamed (Demand key) name = Demand (with_file key name)
renamed (Fixed text) name = Fixed text
