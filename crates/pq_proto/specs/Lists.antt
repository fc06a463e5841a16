-- Lists of values as JSON (RFC 8259, "Arrays").
use Rattle.std.specs.Prelude.{ℕ, List, map}
use Rattle.serde_json.specs.Data.{Data, string, array}
use Rattle.serde_json.specs.View.{items_of}

-- `list_data values` is the list of `values`
abbrev pub list_data : List Data → Data
list_data values = array (items_of values)

-- `texts_data texts` is the list of `texts`
abbrev pub texts_data : List (List ℕ) → Data
texts_data texts = list_data (map (λ t. string t) texts)
