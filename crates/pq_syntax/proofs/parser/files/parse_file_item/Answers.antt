use Rattle.std.proofs.Common.{refl}
use Rattle.std.proofs.lemmas.Result.{IfErr-weaker, IfOk-weaker}
use Rattle.pq_syntax.specs.Rule.Rule.{Single}
use Rattle.pq_syntax.specs.declared.terminal.Terminal.TheVariants.{ImportWord, PackageWord, OptionWord, MessageWord, EnumWord, ServiceWord, ExtendWord, Semicolon}
use Rattle.pq_syntax.proofs.Choices.{by_phrase, by_token, by_word}
use Rattle.pq_syntax.proofs.Openings.{begun, begun_empty, begun_fails}
use Rattle.pq_syntax.proofs.parser.files.parse_file_item.Goals as goal

pub returns-in-Import-clause-taken : goal.returns-in-Import-clause-taken
returns-in-Import-clause-taken c = IfOk-weaker _ _ _ (λ rest. begun (Single ImportWord) by_word (rw c.in-Import.is at c.requires.lead) (λ p. refl)) c.parse_import.ensures.taken

pub returns-in-Import-clause-fault : goal.returns-in-Import-clause-fault
returns-in-Import-clause-fault c = IfErr-weaker _ _ _ (λ e. begun_fails (Single ImportWord) by_word (rw c.in-Import.is at c.requires.lead)) c.parse_import.ensures.fault

pub returns-in-Package-clause-taken : goal.returns-in-Package-clause-taken
returns-in-Package-clause-taken c = IfOk-weaker _ _ _ (λ rest. begun (Single PackageWord) by_word (rw c.in-Package.is at c.requires.lead) (λ p. refl)) c.parse_package.ensures.taken

pub returns-in-Package-clause-fault : goal.returns-in-Package-clause-fault
returns-in-Package-clause-fault c = IfErr-weaker _ _ _ (λ e. begun_fails (Single PackageWord) by_word (rw c.in-Package.is at c.requires.lead)) c.parse_package.ensures.fault

pub returns-in-Option-clause-taken : goal.returns-in-Option-clause-taken
returns-in-Option-clause-taken c = IfOk-weaker _ _ _ (λ rest. begun (Single OptionWord) by_word (rw c.in-Option.is at c.requires.lead) (λ p. refl)) c.parse_option.ensures.taken

pub returns-in-Option-clause-fault : goal.returns-in-Option-clause-fault
returns-in-Option-clause-fault c = IfErr-weaker _ _ _ (λ e. begun_fails (Single OptionWord) by_word (rw c.in-Option.is at c.requires.lead)) c.parse_option.ensures.fault

pub returns-in-Message-clause-taken : goal.returns-in-Message-clause-taken
returns-in-Message-clause-taken c = IfOk-weaker _ _ _ (λ rest. begun (Single MessageWord) by_phrase (rw c.in-Message.is at c.requires.lead) (λ p. refl)) c.parse_message.ensures.taken

pub returns-in-Message-clause-fault : goal.returns-in-Message-clause-fault
returns-in-Message-clause-fault c = IfErr-weaker _ _ _ (λ e. begun_fails (Single MessageWord) by_phrase (rw c.in-Message.is at c.requires.lead)) c.parse_message.ensures.fault

pub returns-in-Enum-clause-taken : goal.returns-in-Enum-clause-taken
returns-in-Enum-clause-taken c = IfOk-weaker _ _ _ (λ rest. begun (Single EnumWord) by_phrase (rw c.in-Enum.is at c.requires.lead) (λ p. refl)) c.parse_enum.ensures.taken

pub returns-in-Enum-clause-fault : goal.returns-in-Enum-clause-fault
returns-in-Enum-clause-fault c = IfErr-weaker _ _ _ (λ e. begun_fails (Single EnumWord) by_phrase (rw c.in-Enum.is at c.requires.lead)) c.parse_enum.ensures.fault

pub returns-in-Service-clause-taken : goal.returns-in-Service-clause-taken
returns-in-Service-clause-taken c = IfOk-weaker _ _ _ (λ rest. begun (Single ServiceWord) by_phrase (rw c.in-Service.is at c.requires.lead) (λ p. refl)) c.parse_service.ensures.taken

pub returns-in-Service-clause-fault : goal.returns-in-Service-clause-fault
returns-in-Service-clause-fault c = IfErr-weaker _ _ _ (λ e. begun_fails (Single ServiceWord) by_phrase (rw c.in-Service.is at c.requires.lead)) c.parse_service.ensures.fault

pub returns-in-Extend-clause-taken : goal.returns-in-Extend-clause-taken
returns-in-Extend-clause-taken c = IfOk-weaker _ _ _ (λ rest. begun (Single ExtendWord) by_word (rw c.in-Extend.is at c.requires.lead) (λ p. refl)) c.parse_extend.ensures.taken

pub returns-in-Extend-clause-fault : goal.returns-in-Extend-clause-fault
returns-in-Extend-clause-fault c = IfErr-weaker _ _ _ (λ e. begun_fails (Single ExtendWord) by_word (rw c.in-Extend.is at c.requires.lead)) c.parse_extend.ensures.fault

pub returns-in-Empty-clause-taken : goal.returns-in-Empty-clause-taken
returns-in-Empty-clause-taken c = IfOk-weaker _ _ _ (λ rest. begun_empty (Single Semicolon) by_token (rw c.in-Empty.is at c.requires.lead) (λ p. refl)) c.skip_empty.ensures.taken

pub returns-in-Empty-clause-fault : goal.returns-in-Empty-clause-fault
returns-in-Empty-clause-fault c = IfErr-weaker _ _ _ (λ e. begun_fails (Single Semicolon) by_token (rw c.in-Empty.is at c.requires.lead)) c.skip_empty.ensures.fault
