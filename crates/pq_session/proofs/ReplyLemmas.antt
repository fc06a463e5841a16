-- No response that is printed from a value has a float.
use Rattle.std.proofs.Common.{◌≡◌, refl, ℕ, ℤ, pos, negsuc, List, false}
use Rattle.serde_json.specs.Data.{null}
use Rattle.serde_json.specs.Find.{of_integer, is_float}
use Rattle.serde_json.specs.Written.{has_float}
use Rattle.pq_frame.specs.Labels.{LabelModel, no_label, integer_label, text_label, label_data}
use Rattle.pq_session.specs.Reply.{cancelled_data, error_data, reply_data, initialized_data, editor_initialized_data}

integer_is_no_float : (z : ℤ) → is_float (of_integer z) ≡ false
integer_is_no_float (pos n) = refl
integer_is_no_float (negsuc n) = refl

pub label_has_no_float : (label : LabelModel) → has_float (label_data label) ≡ false
label_has_no_float no_label = refl
label_has_no_float (integer_label z) = integer_is_no_float z
label_has_no_float (text_label text) = refl

pub error_has_no_float : (label : LabelModel) (code : ℤ) (message : List ℕ) → has_float (error_data (label_data label) code message) ≡ false
error_has_no_float label code message = rw (integer_is_no_float code, label_has_no_float label) refl

pub cancelled_has_no_float : (label : LabelModel) (started seen : ℕ) → has_float (cancelled_data (label_data label) started seen) ≡ false
cancelled_has_no_float label started seen = rw (label_has_no_float label) refl

pub initialized_has_no_float : (label : LabelModel) → has_float (reply_data (label_data label) initialized_data) ≡ false
initialized_has_no_float label = rw (label_has_no_float label) refl

pub editor_initialized_has_no_float : (label : LabelModel) → has_float (reply_data (label_data label) editor_initialized_data) ≡ false
editor_initialized_has_no_float label = rw (label_has_no_float label) refl

pub null_has_no_float : (label : LabelModel) → has_float (reply_data (label_data label) null) ≡ false
null_has_no_float label = rw (label_has_no_float label) refl
