use Rattle.std.proofs.Common.{◌≡◌, refl, None, sym, ◌∙◌, true, false, subst}
use Rattle.serde_json.specs.Errors.{IsMemory}
use Rattle.serde_json.specs.Read.{read}
use Rattle.pq_frame.specs.Messages.{message_of, IsLabelled}
use Rattle.pq_frame.proofs.MessageLemmas.{said_labelled, if_ok_weaker}
use Rattle.pq_frame.proofs.messages.Message.read.Goals as goal

pub returns-in-Ok-clause-labelled : goal.returns-in-Ok-clause-labelled
returns-in-Ok-clause-labelled c = if_ok_weaker c.message_by_value.result c.message_by_value.ensures.message (λ m e. subst IsLabelled (sym e) (said_labelled _))

-- an error other than an allocation failure means that the bytes are not JSON
pub returns-else-is_memory-clause-message : goal.returns-else-is_memory-clause-message
unfolding message_of
returns-else-is_memory-clause-message c = (None, λ d utf8 is. let not_memory = λ (e : IsMemory c.in-Err.error). let t : c.is_memory.result ≡ true = c.is_memory.ensures.1 e in let bad : true ≡ false = sym t ∙ c.if-is_memory.false in absurd (cc bad) in let none : read c.args.body.now ≡ None = c.in-Err.ensures.err not_memory utf8 in cc, refl)
