use Rattle.pq_syntax.proofs.Meaning.{fault_parsed}
use Rattle.pq_syntax.proofs.answer.parse_exactly.Goals as goal

pub returns : goal.returns
returns c = fault_parsed _ _ _ _ _ _ c.in_ok-lexed.ensures.exact c.as_slice-tokens.ensures.value c.in-Err-Fault.field-0-is c.in-Err-Fault.ensures.fault c.fault_at.ensures
