-- The items of a session: what the item of a message means, and the label of the response to it.
use Rattle.std.specs.Prelude.{◌≡◌, Bool, true, false, Option, Some, None}
use Rattle.pq_frame.specs.Labels.{LabelModel, no_label}
use Rattle.pq_frame.specs.Messages.{MessageModel, bad_json, invalid, ask, notice, response}
use Rattle.pq_proto.specs.declared.key.ProtoKey.{ProtoKey}
use Rattle.pq_core.specs.declared.values.label.Label.{Label}
use Rattle.pq_core.specs.declared.values.request.Want.{Want}
use Rattle.pq_core.specs.declared.values.request.Want.TheVariants.{Demand, Fixed}
use Rattle.pq_core.specs.declared.values.request.Request.{Request}
use Rattle.pq_session.specs.declared.state.items.Item.{Item}
use Rattle.pq_session.specs.declared.state.items.Item.TheVariants.{Ask, Say, Edit, Withdraw, Ignore, End}
use Rattle.pq_session.specs.Labels.{label_model, HasOneForm}
use Rattle.pq_session.specs.Session.{Meaning, asks, says, edits, withdraws, ignores, ends}

-- `reply_label message` is the label of the response to `message`, if it gets one.
abbrev pub reply_label : MessageModel → Option LabelModel
reply_label bad_json = Some no_label
reply_label (invalid label) = Some label
reply_label (ask label method params) = Some label
reply_label (notice method params) = None
reply_label response = None

-- `want_meaning label want` is the meaning of a request with this label that is answered with
-- `want`.
abbrev pub want_meaning : LabelModel → Want ProtoKey → Meaning
want_meaning label (Demand key) = asks label key
want_meaning label (Fixed text) = says text

-- `answer_meaning request` is the meaning of `request`.
abbrev pub answer_meaning : Request ProtoKey → Meaning
answer_meaning request = want_meaning (label_model request.label) request.want

-- `item_meaning item` is the meaning of a message that asks for `item`.
abbrev pub item_meaning : Item ProtoKey → Meaning
item_meaning (Ask request) = answer_meaning request
item_meaning (Say request) = answer_meaning request
item_meaning (Edit change) = edits change
item_meaning (Withdraw label) = withdraws (label_model label)
item_meaning Ignore = ignores
item_meaning (End status) = ends status

-- `item_label item` is the label of the request in `item`, if there is one.
abbrev pub item_label : Item ProtoKey → Option Label
item_label (Ask request) = Some request.label
item_label (Say request) = Some request.label
item_label (Edit change) = None
item_label (Withdraw label) = None
item_label Ignore = None
item_label (End status) = None

-- `is_demand want` is whether `want` is a demand.
abbrev pub is_demand : Want ProtoKey → Bool
is_demand (Demand key) = true
is_demand (Fixed text) = false

-- `HasFittingWant item` is that an `Ask` has a demand, and a `Say` a fixed response; and that the
-- label of a `Withdraw` has its one form, as those of requests have.
abbrev pub HasFittingWant : Item ProtoKey → Type 0
HasFittingWant (Ask request) = is_demand request.want ≡ true
HasFittingWant (Say request) = is_demand request.want ≡ false
HasFittingWant (Edit change) = Unit {0}
HasFittingWant (Withdraw label) = HasOneForm label
HasFittingWant Ignore = Unit {0}
HasFittingWant (End status) = Unit {0}
