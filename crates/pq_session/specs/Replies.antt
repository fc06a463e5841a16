-- The text of the reply to a request, by its outcome and by the kind of its answer.
use Rattle.std.specs.Prelude.{ℕ, List}
use Rattle.pq_frame.specs.Labels.{LabelModel}
use Rattle.pq_rules.specs.declared.turn.Answer.{Answer}
use Rattle.pq_rules.specs.declared.turn.Answer.TheVariants.{Value, Cycle}
use Rattle.pq_proto.specs.declared.key.ProtoKey.{ProtoKey}
use Rattle.pq_proto.specs.declared.value.ProtoValue.{ProtoValue}
use Rattle.pq_proto.specs.declared.value.ProtoValue.TheVariants as values
use Rattle.pq_core.specs.declared.values.request.Want.{Want}
use Rattle.pq_core.specs.declared.values.request.Want.TheVariants.{Demand, Fixed}
use Rattle.pq_core.specs.declared.values.outcome.Outcome.{Outcome}
use Rattle.pq_core.specs.declared.values.outcome.Outcome.TheVariants.{Answered, Plain, Cancelled, Starved, Withdrawn}
use Rattle.pq_core.specs.Replies.{ReplyView}
use Rattle.pq_session.specs.Labels.{label_model}
use Rattle.pq_session.specs.Reply.{null_text, out_of_memory_text, withdrawn_text, cancelled_text, diagnostics_text, symbols_text, definition_text, descriptor_text}

-- `value_text root label revision value` is the text of the response of the value `value`. The URI
-- of a definition is below `root`. No request asks for a value of another kind: its result is null.
abbrev pub value_text : List ℕ → LabelModel → ℕ → ProtoValue → List ℕ
value_text root label revision (values.Diagnostics d) = diagnostics_text label d revision
value_text root label revision (values.Symbols t) = symbols_text label t
value_text root label revision (values.Definition d) = definition_text label root d
value_text root label revision (values.Descriptor t) = descriptor_text label t revision
value_text root label revision _ = null_text label

-- `answer_text root label revision answer` is the text of the response of `answer`, which holds at
-- `revision`. No request asks for a key that may be on a cycle: its result is null.
abbrev pub answer_text : List ℕ → LabelModel → ℕ → Answer ProtoKey ProtoValue → List ℕ
answer_text root label revision (Value value) = value_text root label revision value
answer_text root label revision (Cycle ring) = null_text label

-- `fixed_text label want` is the text of the response to a request that no query answers: its own
-- text, and the result null for a demand, which always has another outcome.
abbrev pub fixed_text : LabelModel → Want ProtoKey → List ℕ
fixed_text label (Fixed text) = text
fixed_text label (Demand key) = null_text label

-- `outcome_text root label want revision outcome` is the text of the reply to a request that ended
-- in `outcome` at `revision`.
abbrev pub outcome_text : {M : Type 0} → List ℕ → LabelModel → Want ProtoKey → ℕ → Outcome ProtoKey ProtoValue M → List ℕ
outcome_text root label want revision (Answered answer stamp) = answer_text root label revision answer
outcome_text root label want revision Plain = fixed_text label want
outcome_text root label want revision (Cancelled started seen) = cancelled_text label started seen
outcome_text root label want revision Starved = out_of_memory_text label
outcome_text root label want revision Withdrawn = withdrawn_text label

-- `reply_text root reply` is the text of `reply` in a session with the root `root`.
abbrev pub reply_text : {M : Type 0} → List ℕ → ReplyView ProtoKey ProtoValue M → List ℕ
reply_text root reply = outcome_text root (label_model reply.request.label) reply.request.want reply.revision reply.outcome
