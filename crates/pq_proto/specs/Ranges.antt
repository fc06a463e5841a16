-- Positions and ranges as data (LSP 3.17, "Position", "Range").
use Rattle.std.specs.Prelude.{codes}
use Rattle.serde_json.specs.Data.{Data, number, object, unsigned, member, no_members}
use Rattle.pq_lex.specs.declared.position.Position.{Position}

-- `position_data p` is the position `p`
abbrev pub position_data : Position → Data
position_data p =
    object (member (codes "character") (number (unsigned p.character)) (member (codes "line") (number (unsigned p.line)) no_members))

-- `range_data start end` is the range from `start` to `end`
abbrev pub range_data : Position → Position → Data
range_data start end = object (member (codes "end") (position_data end) (member (codes "start") (position_data start) no_members))
