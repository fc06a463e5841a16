use Rattle.std.proofs.Common.{refl}
use Rattle.std.proofs.lemmas.Result.{IfErr-weaker, IfOk-weaker}
use Rattle.pq_syntax.specs.Grammar.{type_from}
use Rattle.pq_syntax.specs.Rule.Rule.{Single}
use Rattle.pq_syntax.specs.declared.terminal.Terminal.TheVariants.{FieldTypeName, EnumWord, ExtendWord, OptionWord, OneofWord, ReservedWord, LabelWord, MapWord, Semicolon}
use Rattle.pq_syntax.proofs.Choices.{by_phrase, by_token, by_type, by_word}
use Rattle.pq_syntax.proofs.Openings.{begun, begun_empty, begun_fails}
use Rattle.pq_syntax.proofs.parser.messages.parse_statement.Goals as goal

pub returns-in-Field-clause-taken : goal.returns-in-Field-clause-taken
returns-in-Field-clause-taken c = IfOk-weaker _ _ _ (λ rest. begun (type_from FieldTypeName) by_type (rw c.in-Field.is at c.requires.lead) (λ p. refl)) c.parse_field.ensures.taken

pub returns-in-Field-clause-fault : goal.returns-in-Field-clause-fault
returns-in-Field-clause-fault c = IfErr-weaker _ _ _ (λ e. begun_fails (type_from FieldTypeName) by_type (rw c.in-Field.is at c.requires.lead)) c.parse_field.ensures.fault

pub returns-in-Enum-clause-taken : goal.returns-in-Enum-clause-taken
returns-in-Enum-clause-taken c = IfOk-weaker _ _ _ (λ rest. begun (Single EnumWord) by_phrase (rw c.in-Enum.is at c.requires.lead) (λ p. refl)) c.parse_enum.ensures.taken

pub returns-in-Enum-clause-fault : goal.returns-in-Enum-clause-fault
returns-in-Enum-clause-fault c = IfErr-weaker _ _ _ (λ e. begun_fails (Single EnumWord) by_phrase (rw c.in-Enum.is at c.requires.lead)) c.parse_enum.ensures.fault

pub returns-in-Extend-clause-taken : goal.returns-in-Extend-clause-taken
returns-in-Extend-clause-taken c = IfOk-weaker _ _ _ (λ rest. begun (Single ExtendWord) by_word (rw c.in-Extend.is at c.requires.lead) (λ p. refl)) c.parse_extend.ensures.taken

pub returns-in-Extend-clause-fault : goal.returns-in-Extend-clause-fault
returns-in-Extend-clause-fault c = IfErr-weaker _ _ _ (λ e. begun_fails (Single ExtendWord) by_word (rw c.in-Extend.is at c.requires.lead)) c.parse_extend.ensures.fault

pub returns-in-Option-clause-taken : goal.returns-in-Option-clause-taken
returns-in-Option-clause-taken c = IfOk-weaker _ _ _ (λ rest. begun (Single OptionWord) by_word (rw c.in-Option.is at c.requires.lead) (λ p. refl)) c.parse_option.ensures.taken

pub returns-in-Option-clause-fault : goal.returns-in-Option-clause-fault
returns-in-Option-clause-fault c = IfErr-weaker _ _ _ (λ e. begun_fails (Single OptionWord) by_word (rw c.in-Option.is at c.requires.lead)) c.parse_option.ensures.fault

pub returns-in-Oneof-clause-taken : goal.returns-in-Oneof-clause-taken
returns-in-Oneof-clause-taken c = IfOk-weaker _ _ _ (λ rest. begun (Single OneofWord) by_phrase (rw c.in-Oneof.is at c.requires.lead) (λ p. refl)) c.parse_oneof.ensures.taken

pub returns-in-Oneof-clause-fault : goal.returns-in-Oneof-clause-fault
returns-in-Oneof-clause-fault c = IfErr-weaker _ _ _ (λ e. begun_fails (Single OneofWord) by_phrase (rw c.in-Oneof.is at c.requires.lead)) c.parse_oneof.ensures.fault

pub returns-in-Reserved-clause-taken : goal.returns-in-Reserved-clause-taken
returns-in-Reserved-clause-taken c = IfOk-weaker _ _ _ (λ rest. begun (Single ReservedWord) by_word (rw c.in-Reserved.is at c.requires.lead) (λ p. refl)) c.parse_reserved.ensures.taken

pub returns-in-Reserved-clause-fault : goal.returns-in-Reserved-clause-fault
returns-in-Reserved-clause-fault c = IfErr-weaker _ _ _ (λ e. begun_fails (Single ReservedWord) by_word (rw c.in-Reserved.is at c.requires.lead)) c.parse_reserved.ensures.fault

pub returns-in-Labelled-clause-taken : goal.returns-in-Labelled-clause-taken
returns-in-Labelled-clause-taken c = IfOk-weaker _ _ _ (λ rest. begun (Single LabelWord) by_word (rw c.in-Labelled.is at c.requires.lead) (λ p. refl)) c.parse_labelled.ensures.taken

pub returns-in-Labelled-clause-fault : goal.returns-in-Labelled-clause-fault
returns-in-Labelled-clause-fault c = IfErr-weaker _ _ _ (λ e. begun_fails (Single LabelWord) by_word (rw c.in-Labelled.is at c.requires.lead)) c.parse_labelled.ensures.fault

pub returns-in-Mapped-clause-taken : goal.returns-in-Mapped-clause-taken
returns-in-Mapped-clause-taken c = IfOk-weaker _ _ _ (λ rest. begun (Single MapWord) by_word (rw c.in-Mapped.is at c.requires.lead) (λ p. refl)) c.parse_mapped.ensures.taken

pub returns-in-Mapped-clause-fault : goal.returns-in-Mapped-clause-fault
returns-in-Mapped-clause-fault c = IfErr-weaker _ _ _ (λ e. begun_fails (Single MapWord) by_word (rw c.in-Mapped.is at c.requires.lead)) c.parse_mapped.ensures.fault

pub returns-in-Empty-clause-taken : goal.returns-in-Empty-clause-taken
returns-in-Empty-clause-taken c = IfOk-weaker _ _ _ (λ rest. begun_empty (Single Semicolon) by_token (rw c.in-Empty.is at c.requires.lead) (λ p. refl)) c.skip_empty.ensures.taken

pub returns-in-Empty-clause-fault : goal.returns-in-Empty-clause-fault
returns-in-Empty-clause-fault c = IfErr-weaker _ _ _ (λ e. begun_fails (Single Semicolon) by_token (rw c.in-Empty.is at c.requires.lead)) c.skip_empty.ensures.fault
