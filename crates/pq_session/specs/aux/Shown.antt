-- Auxiliary (used by proofs and private clauses only): what is printed of diagnostics, for any client
-- and for an editor.
use Rattle.std.specs.Prelude.{ℕ, cond, codes, decimal, filter, map, List, []}
use Rattle.json.specs.Token.{Token}
use Rattle.serde_json.specs.Data.{Data, string, object, member, no_members}
use Rattle.pq_checks.specs.declared.errors.diagnostic.Diagnostic.{Diagnostic}
use Rattle.pq_checks.specs.declared.errors.diagnostic.Diagnosed.{Diagnosed}
use Rattle.pq_frame.specs.Labels.{LabelModel}
use Rattle.pq_links.specs.declared.files.ParsedFile.{ParsedFile}
use Rattle.pq_proto.specs.Lists.{list_data}
use Rattle.pq_proto.specs.aux.Printed.{tokens_of}
use Rattle.pq_session.specs.Editor.{is_shown, shown_data, shown_text}
use Rattle.pq_session.specs.Reply.{diagnostic_data, diagnostics_text}
use Rattle.pq_session.specs.declared.protocol.severities.Reader.{Reader}
use Rattle.pq_session.specs.declared.protocol.severities.Reader.TheVariants.{Any, Editor}

-- `shown_tokens reader looked file f` is the tokens of the diagnostic `f` of a file that is read as
-- `file`, and none if `reader` does not get it.
abbrev pub shown_tokens : Reader → List ℕ → ParsedFile → Diagnostic → List Token
shown_tokens Any looked file f = tokens_of (diagnostic_data file f)
shown_tokens (Editor unread) looked file f = cond (is_shown unread f) (tokens_of (shown_data unread looked file f)) []

-- `printed_data reader looked file fs` is those of the diagnostics `fs` that `reader` gets.
abbrev pub printed_data : Reader → List ℕ → ParsedFile → List Diagnostic → List Data
printed_data Any looked file fs = map (diagnostic_data file) fs
printed_data (Editor unread) looked file fs = map (shown_data unread looked file) (filter (is_shown unread) fs)

-- `printed_items reader looked d` is the list of them.
abbrev pub printed_items : Reader → List ℕ → Diagnosed → Data
printed_items reader looked d = list_data (printed_data reader looked d.file d.diagnostics)

-- `printed_report reader looked d revision` is the report of them.
abbrev pub printed_report : Reader → List ℕ → Diagnosed → ℕ → Data
printed_report reader looked d revision =
    object (member (codes "items") (printed_items reader looked d) (member (codes "kind") (string (codes "full")) (member (codes "resultId") (string (decimal revision)) no_members)))

-- `printed_text label reader looked d revision` is the text of the response that reports them.
abbrev pub printed_text : LabelModel → Reader → List ℕ → Diagnosed → ℕ → List ℕ
printed_text label Any looked d revision = diagnostics_text label d revision
printed_text label (Editor unread) looked d revision = shown_text label unread looked d revision
