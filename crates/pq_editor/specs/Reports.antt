-- The report of the diagnostics of all files (LSP 3.17, "Workspace Diagnostics",
-- "WorkspaceFullDocumentDiagnosticReport", "WorkspaceUnchangedDocumentDiagnosticReport").
use Rattle.std.specs.Prelude.{◌≡◌, ℕ, ℤ, List, [], ◌∷◌, ◌++◌, codes, decimal, Option, Some, None, string_bytes, flat_map, map, option_map}
use Rattle.std.specs.Fmt.{signed_decimal}
use Rattle.serde_json.specs.Data.{Data, Members, null, number, string, object, member, no_members}
use Rattle.serde_json.specs.Find.{of_integer}
use Rattle.serde_json.specs.Written.{compact_text}
use Rattle.pq_editor.specs.Json.{list_data}
use Rattle.pq_editor.specs.declared.reports.FileReport.{FileReport}

-- `version_text version` is the JSON text of the version of a document, and `null` of a file that is
-- not open
abbrev pub version_text : Option ℤ → List ℕ
version_text None = codes "null"
version_text (Some version) = signed_decimal version

-- `kind_text list` is the report of a file up to its kind: full with the JSON text `list` of its
-- diagnostics, and unchanged without one
abbrev pub kind_text : Option (List ℕ) → List ℕ
kind_text None = codes "{\"kind\":\"unchanged\""
kind_text (Some list) = codes "{\"items\":" ++ (list ++ codes ",\"kind\":\"full\"")

-- `rest_text r` is the members of the report `r` after its kind, and its end
abbrev pub rest_text : FileReport → List ℕ
rest_text r =
    codes ",\"resultId\":\"" ++ (decimal r.result ++ (codes "\",\"uri\":" ++ (compact_text (string (string_bytes r.uri))
    ++ (codes ",\"version\":" ++ (version_text r.version ++ codes "}")))))

-- `file_text r` is the report `r` of one file
abbrev pub file_text : FileReport → List ℕ
file_text r = kind_text (option_map string_bytes r.list) ++ rest_text r

-- `later_text rs` is the reports `rs`, each after a comma
abbrev pub later_text : List FileReport → List ℕ
later_text rs = flat_map (λ r. codes "," ++ file_text r) rs

-- `files_text rs` is the reports `rs`, with commas between
abbrev pub files_text : List FileReport → List ℕ
files_text [] = []
files_text (r ∷ rs) = file_text r ++ later_text rs

-- `workspace_text rs` is the report of the files of `rs`, in their order. The law `workspace_spliced`
-- says of which data it is the compact text.
abbrev pub workspace_text : List FileReport → List ℕ
workspace_text rs = codes "{\"items\":[" ++ (files_text rs ++ codes "]}")

-- ---- the data of the report

-- `version_data version` is the version of a document, and `null` of a file that is not open
abbrev pub version_data : Option ℤ → Data
version_data None = null
version_data (Some version) = number (of_integer version)

-- `rest_members r` is the members of the report `r` after its kind
abbrev pub rest_members : FileReport → Members
rest_members r =
    member (codes "resultId") (string (decimal r.result)) (member (codes "uri") (string (string_bytes r.uri))
    (member (codes "version") (version_data r.version) no_members))

-- `file_data r list` is the report `r` of one file, with the list `list` of its diagnostics if it is
-- sent
abbrev pub file_data : FileReport → Option Data → Data
file_data r None = object (member (codes "kind") (string (codes "unchanged")) (rest_members r))
file_data r (Some list) = object (member (codes "items") list (member (codes "kind") (string (codes "full")) (rest_members r)))

-- `HasList list_of r` is that the list of the report `r` is the compact text of what `list_of` gives
-- for it
abbrev pub HasList : (FileReport → Option Data) → FileReport → Type 0
HasList list_of r = option_map string_bytes r.list ≡ option_map compact_text (list_of r)

-- `workspace_data list_of rs` is the report of the files of `rs`, whose lists are those that `list_of`
-- gives
abbrev pub workspace_data : (FileReport → Option Data) → List FileReport → Data
workspace_data list_of rs = object (member (codes "items") (list_data (map (λ r. file_data r (list_of r)) rs)) no_members)
