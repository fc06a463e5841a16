-- The texts of responses (JSON-RPC 2.0, "Response object", "Error object"; LSP 3.17, "Response
-- Message"). The members of an object are in the order of their names, without white space.
use Rattle.std.specs.Prelude.{ℕ, ℤ, pos, neg_ℤ, List, ◌++◌, map, codes, true, false, decimal, Option, Some, None}
use Rattle.serde_json.specs.Data.{Data, null, boolean, number, string, object, unsigned, member, no_members}
use Rattle.serde_json.specs.Find.{of_integer}
use Rattle.serde_json.specs.Written.{compact_text}
use Rattle.pq_frame.specs.Labels.{LabelModel, label_data}
use Rattle.pq_lex.specs.declared.position.Position.{Position}
use Rattle.pq_links.specs.declared.files.ParsedFile.{ParsedFile}
use Rattle.pq_checks.specs.Codes.{code_text, severity, severity_number}
use Rattle.pq_checks.specs.declared.errors.diagnostic.Diagnostic.{Diagnostic}
use Rattle.pq_checks.specs.declared.errors.diagnostic.Diagnosed.{Diagnosed}
use Rattle.pq_proto.specs.Compile.{position_in}
use Rattle.pq_proto.specs.Lists.{list_data}
use Rattle.pq_proto.specs.Ranges.{range_data}
use Rattle.pq_proto.specs.declared.key.Place.{Place}
use Rattle.pq_proto.specs.declared.value.Location.{Location}
use Rattle.pq_session.specs.declared.protocol.refusals.Refusal.{Refusal}
use Rattle.pq_session.specs.declared.protocol.refusals.Refusal.TheVariants.{ParseError, InvalidRequest, MethodNotFound, InvalidParams, OutOfMemory, NotInitialized, ContentModified, RequestCancelled}
use Rattle.pq_session.specs.Uri.{uri_of}

-- ---- errors

-- `error_code refusal` is the code of an error (JSON-RPC 2.0, "Error object"; LSP 3.17,
-- "ErrorCodes").
abbrev pub error_code : Refusal → ℤ
error_code ParseError = neg_ℤ (pos 32700)
error_code InvalidRequest = neg_ℤ (pos 32600)
error_code MethodNotFound = neg_ℤ (pos 32601)
error_code InvalidParams = neg_ℤ (pos 32602)
error_code OutOfMemory = neg_ℤ (pos 32603)
error_code NotInitialized = neg_ℤ (pos 32002)
error_code ContentModified = neg_ℤ (pos 32801)
error_code RequestCancelled = neg_ℤ (pos 32800)

-- `error_message refusal` is the message of an error.
abbrev pub error_message : Refusal → List ℕ
error_message ParseError = codes "parse error"
error_message InvalidRequest = codes "invalid request"
error_message MethodNotFound = codes "method not found"
error_message InvalidParams = codes "invalid params"
error_message OutOfMemory = codes "out of memory"
error_message NotInitialized = codes "not initialized"
error_message ContentModified = codes "content modified"
error_message RequestCancelled = codes "request cancelled"

-- `error_data id code message` is the response of an error to the request `id`.
abbrev pub error_data : Data → ℤ → List ℕ → Data
error_data id code message =
    object (member (codes "error") (object (member (codes "code") (number (of_integer code)) (member (codes "message") (string message) no_members)))
    (member (codes "id") id (member (codes "jsonrpc") (string (codes "2.0")) no_members)))

-- `cancelled_data id started seen` is the response to the request `id` that was started at the
-- revision `started` and stopped at the revision `seen`, since an edit was made between.
abbrev pub cancelled_data : Data → ℕ → ℕ → Data
cancelled_data id started seen =
    object (member (codes "error") (object (member (codes "code") (number (of_integer (error_code ContentModified)))
    (member (codes "data") (object (member (codes "seen") (number (unsigned seen)) (member (codes "started") (number (unsigned started)) no_members)))
    (member (codes "message") (string (error_message ContentModified)) no_members))))
    (member (codes "id") id (member (codes "jsonrpc") (string (codes "2.0")) no_members)))

-- `error_text label code message` is the text of an error.
unfoldable pub error_text : LabelModel → ℤ → List ℕ → List ℕ
error_text label code message = compact_text (error_data (label_data label) code message)

-- `refusal_text label refusal` is the text of the response that refuses a request.
unfoldable pub refusal_text : LabelModel → Refusal → List ℕ
refusal_text label refusal = error_text label (error_code refusal) (error_message refusal)

-- `out_of_memory_text label` is the text of the response to a query after an allocation failure.
abbrev pub out_of_memory_text : LabelModel → List ℕ
out_of_memory_text label = refusal_text label OutOfMemory

-- `withdrawn_text label` is the text of the response to a request that its client withdrew.
abbrev pub withdrawn_text : LabelModel → List ℕ
withdrawn_text label = refusal_text label RequestCancelled

-- `cancelled_text label started seen` is the text of the response to a request that was started at
-- one revision and stopped at another.
unfoldable pub cancelled_text : LabelModel → ℕ → ℕ → List ℕ
cancelled_text label started seen = compact_text (cancelled_data (label_data label) started seen)

-- ---- results

-- `reply_data id answer` is the response of the result `answer` to the request `id`.
abbrev pub reply_data : Data → Data → Data
reply_data id answer =
    object (member (codes "id") id (member (codes "jsonrpc") (string (codes "2.0")) (member (codes "result") answer no_members)))

-- `initialized_data` is the capabilities of the server (LSP 3.17, "InitializeResult"). A change of
-- a file has a range ("TextDocumentSyncKind", `Incremental`).
abbrev pub initialized_data : Data
initialized_data =
    object (member (codes "capabilities") (object
    (member (codes "definitionProvider") (boolean true)
    (member (codes "diagnosticProvider") (object (member (codes "interFileDependencies") (boolean true) (member (codes "workspaceDiagnostics") (boolean false) no_members)))
    (member (codes "documentSymbolProvider") (boolean true)
    (member (codes "positionEncoding") (string (codes "utf-16"))
    (member (codes "textDocumentSync") (object (member (codes "change") (number (unsigned 2)) (member (codes "openClose") (boolean true) no_members)))
    no_members))))))
    (member (codes "serverInfo") (object (member (codes "name") (string (codes "pq_server")) no_members)) no_members))

-- `initialized_text label` is the text of the response to `initialize`.
unfoldable pub initialized_text : LabelModel → List ℕ
initialized_text label = compact_text (reply_data (label_data label) initialized_data)

-- `sync_data` is which notifications of documents an editor is to send: that one is opened, changed by
-- ranges, saved or closed (LSP 3.17, "TextDocumentSyncOptions").
abbrev pub sync_data : Data
sync_data = object (member (codes "change") (number (unsigned 2)) (member (codes "openClose") (boolean true) (member (codes "save") (boolean true) no_members)))

-- `folders_data` is that the folders of an editor may change (LSP 3.17,
-- "WorkspaceFoldersServerCapabilities").
abbrev pub folders_data : Data
folders_data = object (member (codes "workspaceFolders") (object (member (codes "changeNotifications") (boolean true) (member (codes "supported") (boolean true) no_members))) no_members)

-- `diagnostics_data` is that diagnostics of one file and of all files can be asked for (LSP 3.17,
-- "DiagnosticOptions").
abbrev pub diagnostics_data : Data
diagnostics_data = object (member (codes "interFileDependencies") (boolean true) (member (codes "workspaceDiagnostics") (boolean true) no_members))

-- `editor_capabilities_data` is the capabilities of the server for an editor. Beside those of other
-- clients it has diagnostics of all files, links of documents ("DocumentLinkOptions"), notifications of
-- saved documents, and folders that change.
abbrev pub editor_capabilities_data : Data
editor_capabilities_data =
    object (member (codes "definitionProvider") (boolean true)
    (member (codes "diagnosticProvider") diagnostics_data
    (member (codes "documentLinkProvider") (object (member (codes "resolveProvider") (boolean false) no_members))
    (member (codes "documentSymbolProvider") (boolean true)
    (member (codes "positionEncoding") (string (codes "utf-16"))
    (member (codes "textDocumentSync") sync_data
    (member (codes "workspace") folders_data no_members)))))))

-- `editor_initialized_data` is the result of `initialize` for an editor (LSP 3.17, "InitializeResult").
abbrev pub editor_initialized_data : Data
editor_initialized_data =
    object (member (codes "capabilities") editor_capabilities_data
    (member (codes "serverInfo") (object (member (codes "name") (string (codes "pq_server")) no_members)) no_members))

-- `editor_initialized_text label` is the text of the response to `initialize` for an editor.
unfoldable pub editor_initialized_text : LabelModel → List ℕ
editor_initialized_text label = compact_text (reply_data (label_data label) editor_initialized_data)

-- `null_text label` is the text of the response of the result `null`.
unfoldable pub null_text : LabelModel → List ℕ
null_text label = compact_text (reply_data (label_data label) null)

-- ---- diagnostics

-- `diagnostic_data file f` is the error `f` of a file that is read as `file` (LSP 3.17,
-- "Diagnostic").
abbrev pub diagnostic_data : ParsedFile → Diagnostic → Data
diagnostic_data file f =
    object (member (codes "code") (string (code_text f.code)) (member (codes "message") (string f.text)
    (member (codes "range") (range_data (position_in file f.start) (position_in file f.end))
    (member (codes "severity") (number (unsigned (severity_number (severity f.code)))) (member (codes "source") (string (codes "proto")) no_members)))))

-- `report_data d revision` is the report of the diagnostics `d` at a revision of the sources, its
-- `resultId` (LSP 3.17, "RelatedFullDocumentDiagnosticReport").
abbrev pub report_data : Diagnosed → ℕ → Data
report_data d revision =
    object (member (codes "items") (list_data (map (diagnostic_data d.file) d.diagnostics)) (member (codes "kind") (string (codes "full")) (member (codes "resultId") (string (decimal revision)) no_members)))

-- `diagnostics_text label d revision` is the text of the response that reports the diagnostics `d`
-- at `revision`.
unfoldable pub diagnostics_text : LabelModel → Diagnosed → ℕ → List ℕ
diagnostics_text label d revision = compact_text (reply_data (label_data label) (report_data d revision))

-- ---- definitions

-- `as_position place` is `place` as a position.
abbrev pub as_position : Place → Position
as_position place = record { line = place.line; character = place.character }

-- `located_data uri start end` is the location from `start` to `end` in the file of `uri` (LSP 3.17,
-- "Location").
abbrev pub located_data : List ℕ → Position → Position → Data
located_data uri start end =
    object (member (codes "range") (range_data start end) (member (codes "uri") (string uri) no_members))

-- `located_text label uri l` is the text of the response of the range of the location `l`, in the
-- file of `uri`.
unfoldable pub located_text : LabelModel → List ℕ → Location → List ℕ
located_text label uri l = compact_text (reply_data (label_data label) (located_data uri (as_position l.start) (as_position l.end)))

-- `location_text label root l` is the text of the response of the location `l`, with the URI that
-- its file has below `root`.
abbrev pub location_text : LabelModel → List ℕ → Location → List ℕ
location_text label root l = located_text label (uri_of root l.file) l

-- `definition_text label root d` is the text of the response of the definition `d`, and of the
-- result `null` if there is none (LSP 3.17, "Goto Definition Request").
abbrev pub definition_text : LabelModel → List ℕ → Option Location → List ℕ
definition_text label root None = null_text label
definition_text label root (Some l) = location_text label root l

-- ---- results that are printed before the response

-- `result_start label` is the text of a response up to its result.
abbrev pub result_start : LabelModel → List ℕ
result_start label = codes "{\"id\":" ++ (compact_text (label_data label) ++ codes ",\"jsonrpc\":\"2.0\",\"result\":")

-- `result_text label text` is the text of the response whose result is the JSON text `text`. The
-- law `symbols_spliced` says of which data it is the compact text.
unfoldable pub result_text : LabelModel → List ℕ → List ℕ
result_text label text = result_start label ++ (text ++ codes "}")

-- `symbols_text label symbols` is the text of the response of the symbols that are printed as
-- `symbols` (LSP 3.17, "Document Symbols Request").
abbrev pub symbols_text : LabelModel → List ℕ → List ℕ
symbols_text label symbols = result_text label symbols

-- `descriptor_data d revision` is the result of the descriptor `d` at a revision of the sources.
abbrev pub descriptor_data : Data → ℕ → Data
descriptor_data d revision = object (member (codes "file") d (member (codes "revision") (string (decimal revision)) no_members))

-- `descriptor_text label descriptor revision` is the text of the response of the descriptor that is
-- printed as `descriptor`, at `revision`. The law `descriptor_spliced` says of which data it is the
-- compact text.
unfoldable pub descriptor_text : LabelModel → List ℕ → ℕ → List ℕ
descriptor_text label descriptor revision =
    result_start label ++ (codes "{\"file\":" ++ (descriptor ++ (codes ",\"revision\":\"" ++ (decimal revision ++ codes "\"}}"))))
