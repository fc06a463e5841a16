-- The diagnostic of a file that is not read, and its report (LSP 3.17, "Diagnostic",
-- "FullDocumentDiagnosticReport").
use Rattle.std.specs.Prelude.{ℕ, List, [], ◌∷◌, ◌++◌, codes, decimal}
use Rattle.serde_json.specs.Data.{Data, number, string, object, unsigned, member, no_members}
use Rattle.serde_json.specs.Written.{compact_text}
use Rattle.pq_editor.specs.Json.{file_start, list_data, range_data}
use Rattle.pq_editor.specs.declared.faults.FileFault.{FileFault}
use Rattle.pq_editor.specs.declared.faults.FileFault.TheVariants.{TooLong, NotUtf8, TooMany}

-- `max_text` is how many bytes the text of a file can have
abbrev pub max_text : ℕ
max_text = 1048576

-- `max_files` is how many files can be open or imported
abbrev pub max_files : ℕ
max_files = 65536

-- `fault_message fault` is what is said of a file that is not read
abbrev pub fault_message : FileFault → List ℕ
fault_message TooLong = codes "the file is not checked: its text has more than " ++ (decimal max_text ++ codes " bytes")
fault_message NotUtf8 = codes "the file is not checked: its text is not UTF-8"
fault_message TooMany = codes "the file is not checked: more than " ++ (decimal max_files ++ codes " files are open or imported")

-- `fault_data fault` is the diagnostic of a file that is not read: an error at its first position
-- (LSP 3.17, "Diagnostic", "DiagnosticSeverity")
abbrev pub fault_data : FileFault → Data
fault_data fault =
    object (member (codes "message") (string (fault_message fault)) (member (codes "range") (range_data file_start file_start)
    (member (codes "severity") (number (unsigned 1)) (member (codes "source") (string (codes "proto")) no_members))))

-- `fault_items fault` is the list of the diagnostics of a file that is not read
abbrev pub fault_items : FileFault → Data
fault_items fault = list_data (fault_data fault ∷ [])

-- `list_text fault` is the text of that list
abbrev pub list_text : FileFault → List ℕ
list_text fault = compact_text (fault_items fault)

-- `report_data fault` is the report of a file that is not read, without a `resultId`
abbrev pub report_data : FileFault → Data
report_data fault = object (member (codes "items") (fault_items fault) (member (codes "kind") (string (codes "full")) no_members))

-- `report_text fault` is the text of that report
abbrev pub report_text : FileFault → List ℕ
report_text fault = compact_text (report_data fault)
