-- The label of a request, which its response repeats as `id` (JSON-RPC 2.0, "Request object" and
-- "Response object"; LSP 3.17, "Request Message" and "Response Message").
use Rattle.std.specs.Prelude.{◌≡◌, ℕ, ℤ, pos, int_lt, true, List, Option, Some, None, option_map, option_and_then, unwrap_or, string_bytes}
use Rattle.serde_json.specs.Data.{Data, null, boolean, number, string, array, object}
use Rattle.serde_json.specs.Find.{as_integer, of_integer}
use Rattle.pq_frame.specs.declared.labels.Label.{Label}
use Rattle.pq_frame.specs.declared.labels.Label.TheVariants.{Unsigned, Negative, Text, None as NoLabel}

-- A label as contracts see it: without the form of its number and its address in memory.
pub data LabelModel : Type 0 where
  no_label : LabelModel
  integer_label : ℤ → LabelModel
  text_label : List ℕ → LabelModel

-- `label_model label` is `label` as contracts see it.
abbrev pub label_model : Label → LabelModel
label_model NoLabel = no_label
label_model (Unsigned n) = integer_label (pos n)
label_model (Negative z) = integer_label z
label_model (Text text) = text_label (string_bytes text)

-- `HasOneForm label` is that a number in `label` is `Negative` only below 0, so each integer has
-- one form.
abbrev pub HasOneForm : Label → Type 0
HasOneForm NoLabel = Unit {0}
HasOneForm (Unsigned n) = Unit {0}
HasOneForm (Negative z) = int_lt z (pos 0) ≡ true
HasOneForm (Text text) = Unit {0}

-- `label_data label` is `label` as the member `id` of a response.
abbrev pub label_data : LabelModel → Data
label_data no_label = null
label_data (integer_label z) = number (of_integer z)
label_data (text_label text) = string text

-- `id_label id` is the label that `id` is, if `id` is an integer of 64 bits or a string.
abbrev pub id_label : Data → Option LabelModel
id_label null = None
id_label (boolean b) = None
id_label (number n) = option_map integer_label (as_integer n)
id_label (string text) = Some (text_label text)
id_label (array ds) = None
id_label (object ms) = None

-- `label_of id` is the label of the response to a message whose member `id` is `id`. It is
-- `no_label` if the member is absent or not a label.
abbrev pub label_of : Option Data → LabelModel
label_of id = unwrap_or (option_and_then id_label id) no_label
