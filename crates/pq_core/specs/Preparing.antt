-- What contracts see of a change whose text was made before its edit.
use Rattle.std.specs.Prelude.{ℕ, List, Option, Result, Ok, Err, string_bytes}
use Rattle.std.specs.declared.string.String.{String}
use Rattle.std.specs.Option.{option_map}
use Rattle.pq_core.specs.Changes.{ChangeView}
use Rattle.pq_core.specs.declared.values.fault.EditRefused.{EditRefused}

-- `PreparedView` is a change, and the text of its file from which the text after it was made
pub record PreparedView : Type 0 where
  pub change : ChangeView
  pub before : Option (List ℕ)

-- `bytes_made made` is the text `made`, in bytes: None where a range is bad, and in it None where the
-- file is removed
abbrev pub bytes_made : {A : Type 0} → Option (Option (String A)) → Option (Option (List ℕ))
bytes_made made = option_map (λ text. option_map string_bytes text) made

-- `revision_of answer` is `answer` without the body that comes back with the revision
abbrev pub revision_of : {B : Type 0} → Result (ℕ × B) EditRefused → Result ℕ EditRefused
revision_of (Ok made) = Ok made.0
revision_of (Err refused) = Err refused
