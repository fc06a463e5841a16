-- Imports as links (LSP 3.17, "Document Link Request", "Goto Definition Request", "Location").
use Rattle.std.specs.Prelude.{ℕ, Bool, ◌==◌, ◌&&◌, ◌||◌, List, map, codes, nat_le, nat_lt, string_bytes}
use Rattle.serde_json.specs.Data.{Data, string, object, member, no_members}
use Rattle.serde_json.specs.Written.{compact_text}
use Rattle.pq_lex.specs.declared.position.Position.{Position}
use Rattle.pq_editor.specs.Json.{file_start, list_data, range_data}
use Rattle.pq_editor.specs.declared.imports.Import.{Import}
use Rattle.pq_editor.specs.declared.links.Link.{Link}

-- `is_until p q` is whether the position `p` is `q` or before it
abbrev pub is_until : Position → Position → Bool
is_until p q = nat_lt p.line q.line || (p.line == q.line && nat_le p.character q.character)

-- `holds p i` is whether the position `p` is within the strings of the import `i`, or at their end
abbrev pub holds : Position → Import → Bool
holds p i = is_until i.start p && is_until p i.end

-- `link_data l` is the link `l` (LSP 3.17, "DocumentLink")
abbrev pub link_data : Link → Data
link_data l = object (member (codes "range") (range_data l.start l.end) (member (codes "target") (string (string_bytes l.uri)) no_members))

-- `links_text links` is the text of the list of `links`
abbrev pub links_text : List Link → List ℕ
links_text links = compact_text (list_data (map link_data links))

-- `start_data uri` is the location of the first position of the file of `uri` (LSP 3.17, "Location")
abbrev pub start_data : List ℕ → Data
start_data uri = object (member (codes "range") (range_data file_start file_start) (member (codes "uri") (string uri) no_members))

-- `start_text uri` is the text of that location
abbrev pub start_text : List ℕ → List ℕ
start_text uri = compact_text (start_data uri)
