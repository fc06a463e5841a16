-- Auxiliary (used by private clauses only): what a function that makes an item promises of it.
use Rattle.std.specs.Prelude.{◌≡◌, Option}
use Rattle.pq_core.specs.declared.values.label.Label.{Label}
use Rattle.pq_proto.specs.declared.key.ProtoKey.{ProtoKey}
use Rattle.pq_session.specs.declared.state.items.Item.{Item}
use Rattle.pq_session.specs.Session.{Meaning}
use Rattle.pq_session.specs.Items.{item_meaning, item_label, HasFittingWant}

-- `IsItemOf meaning label item` is that `item` has this meaning and this label, and fits.
abbrev pub IsItemOf : Meaning → Option Label → Item ProtoKey → Type 0
IsItemOf meaning label item = (item_meaning item ≡ meaning) × (item_label item ≡ label) × HasFittingWant item
