use Rattle.std.proofs.Common.{refl}
use Rattle.std.proofs.lemmas.Result.{IfErr-weaker, IfOk-weaker}
use Rattle.pq_syntax.specs.Grammar.{type_from}
use Rattle.pq_syntax.specs.Rule.Rule.{Single}
use Rattle.pq_syntax.specs.declared.terminal.Terminal.TheVariants.{OptionWord, MemberTypeName, Semicolon}
use Rattle.pq_syntax.proofs.Choices.{by_token, by_type, by_word}
use Rattle.pq_syntax.proofs.Openings.{begun, begun_empty, begun_fails}
use Rattle.pq_syntax.proofs.parser.oneofs.parse_oneof_item.Goals as goal

pub returns-in-Option-clause-taken : goal.returns-in-Option-clause-taken
returns-in-Option-clause-taken c = IfOk-weaker _ _ _ (λ rest. begun (Single OptionWord) by_word (rw c.in-Option.is at c.requires) (λ p. refl)) c.parse_option.ensures.taken

pub returns-in-Option-clause-fault : goal.returns-in-Option-clause-fault
returns-in-Option-clause-fault c = IfErr-weaker _ _ _ (λ e. begun_fails (Single OptionWord) by_word (rw c.in-Option.is at c.requires)) c.parse_option.ensures.fault

pub returns-in-Member-clause-taken : goal.returns-in-Member-clause-taken
returns-in-Member-clause-taken c = IfOk-weaker _ _ _ (λ rest. begun (type_from MemberTypeName) by_type (rw c.in-Member.is at c.requires) (λ p. refl)) c.parse_field.ensures.taken

pub returns-in-Member-clause-fault : goal.returns-in-Member-clause-fault
returns-in-Member-clause-fault c = IfErr-weaker _ _ _ (λ e. begun_fails (type_from MemberTypeName) by_type (rw c.in-Member.is at c.requires)) c.parse_field.ensures.fault

pub returns-in-Empty-clause-taken : goal.returns-in-Empty-clause-taken
returns-in-Empty-clause-taken c = IfOk-weaker _ _ _ (λ rest. begun_empty (Single Semicolon) by_token (rw c.in-Empty.is at c.requires) (λ p. refl)) c.skip_empty.ensures.taken

pub returns-in-Empty-clause-fault : goal.returns-in-Empty-clause-fault
returns-in-Empty-clause-fault c = IfErr-weaker _ _ _ (λ e. begun_fails (Single Semicolon) by_token (rw c.in-Empty.is at c.requires)) c.skip_empty.ensures.fault
