-- The label of a request, as the core keeps it, is seen as the label of a message is.
use Rattle.std.specs.Prelude.{◌≡◌, pos, int_lt, true}
use Rattle.pq_frame.specs.Labels.{LabelModel, no_label, integer_label, text_label}
use Rattle.pq_core.specs.declared.values.label.Label.{Label}
use Rattle.pq_core.specs.declared.values.label.Label.TheVariants.{Unsigned, Negative, Text, None as NoLabel}

-- `label_model label` is `label` as contracts see it: without the form of its number.
abbrev pub label_model : Label → LabelModel
label_model NoLabel = no_label
label_model (Unsigned n) = integer_label (pos n)
label_model (Negative z) = integer_label z
label_model (Text text) = text_label text

-- `HasOneForm label` is that a number in `label` is `Negative` only below 0, so each integer has
-- one form.
abbrev pub HasOneForm : Label → Type 0
HasOneForm NoLabel = Unit {0}
HasOneForm (Unsigned n) = Unit {0}
HasOneForm (Negative z) = int_lt z (pos 0) ≡ true
HasOneForm (Text text) = Unit {0}
