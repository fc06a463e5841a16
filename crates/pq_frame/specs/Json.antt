-- Which bytes are JSON (RFC 8259): those that `serde_json` reads. Arrays and objects nest at most
-- 127 deep. Of members of one name the last counts. A number outside a double's range is an error.
-- An integer stays an integer.
use Rattle.std.specs.Prelude.{◌≡◌, ℕ, List, Option, Some, None}
use Rattle.std.specs.Str.{IsUtf8}
use Rattle.serde_json.specs.Data.{Data}
use Rattle.serde_json.specs.Read.{read}

-- `IsJson bytes json` is that `json` is the value that `bytes` write, or `None` if `bytes` are not
-- JSON.
abbrev pub IsJson : List ℕ → Option Data → Type 0
IsJson bytes (Some d) = IsUtf8 bytes × (read bytes ≡ Some d)
IsJson bytes None = (d : Data) → IsUtf8 bytes → read bytes ≡ Some d → ⊥
