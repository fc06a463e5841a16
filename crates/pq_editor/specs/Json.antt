-- Positions, ranges and lists as data (LSP 3.17, "Position", "Range"; RFC 8259, "Arrays").
use Rattle.std.specs.Prelude.{List, codes}
use Rattle.serde_json.specs.Data.{Data, number, object, array, unsigned, member, no_members}
use Rattle.serde_json.specs.View.{items_of}
use Rattle.pq_lex.specs.declared.position.Position.{Position}

-- `list_data values` is the list of `values`
abbrev pub list_data : List Data → Data
list_data values = array (items_of values)

-- `position_data p` is the position `p`
abbrev pub position_data : Position → Data
position_data p =
    object (member (codes "character") (number (unsigned p.character)) (member (codes "line") (number (unsigned p.line)) no_members))

-- `range_data start end` is the range from `start` to `end`
abbrev pub range_data : Position → Position → Data
range_data start end = object (member (codes "end") (position_data end) (member (codes "start") (position_data start) no_members))

-- `file_start` is the first position of each file
abbrev pub file_start : Position
file_start = record { line = 0; character = 0 }
