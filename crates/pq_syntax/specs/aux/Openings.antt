-- Auxiliary: which statement of a body begins (used by contracts and proofs of the parser only). A
-- statement is recognised by what leads it; `opening` of proofs/Openings leads from there to the
-- alternative of the body's rule.
use Rattle.std.specs.Prelude.{◌≡◌, ℕ, ◌<◌, true, false, List, Option, Some, None}
use Rattle.pq_lex.specs.declared.token.Token.{Token}
use Rattle.pq_syntax.specs.Grammar.{item, type_from}
use Rattle.pq_syntax.specs.Rule.{Rule}
use Rattle.pq_syntax.specs.Rule.Rule.{Single}
use Rattle.pq_syntax.specs.Words.{words, accepts}
use Rattle.pq_syntax.specs.aux.Takes.{starts_at}
use Rattle.pq_syntax.specs.declared.terminal.Terminal.{Terminal}
use Rattle.pq_syntax.specs.declared.terminal.Terminal.TheVariants.{ImportWord, PackageWord, OptionWord, MessageWord, EnumWord, ServiceWord, MethodWord, OneofWord, MapWord, ReservedWord, ExtendWord, LabelWord, FieldTypeName, MemberTypeName, ValueName, Semicolon}
use Rattle.pq_syntax.specs.declared.parser.enums.EnumStart.{EnumStart}
use Rattle.pq_syntax.specs.declared.parser.enums.EnumStart.TheVariants as of_enum
use Rattle.pq_syntax.specs.declared.parser.files.FileStart.{FileStart}
use Rattle.pq_syntax.specs.declared.parser.files.FileStart.TheVariants as of_file
use Rattle.pq_syntax.specs.declared.parser.messages.ItemStart.{ItemStart}
use Rattle.pq_syntax.specs.declared.parser.messages.ItemStart.TheVariants as of_item
use Rattle.pq_syntax.specs.declared.parser.messages.StatementStart.{StatementStart}
use Rattle.pq_syntax.specs.declared.parser.messages.StatementStart.TheVariants as of_statement
use Rattle.pq_syntax.specs.declared.parser.oneofs.OneofStart.{OneofStart}
use Rattle.pq_syntax.specs.declared.parser.oneofs.OneofStart.TheVariants as of_oneof
use Rattle.pq_syntax.specs.declared.parser.services.MethodStart.{MethodStart}
use Rattle.pq_syntax.specs.declared.parser.services.MethodStart.TheVariants as of_method
use Rattle.pq_syntax.specs.declared.parser.services.ServiceStart.{ServiceStart}
use Rattle.pq_syntax.specs.declared.parser.services.ServiceStart.TheVariants as of_service

-- `Leads text lead tokens s`: the first of `tokens` begins what leads the statement `s`
abbrev pub Leads : {S : Type 0} → List ℕ → (S → Rule Terminal) → List Token → S → Type 0
Leads text lead tokens s = starts_at accepts (lead s) (words text tokens) ≡ true

-- `Closed text r tokens`: the rule `r` does not begin at the first of `tokens`
pub record Closed (text : List ℕ) (r : Rule Terminal) (tokens : List Token) : Type 0 where
  pub in_first : starts_at accepts r (words text tokens) ≡ false

-- `Opens text r lead tokens found`: the statement found is led by the first of `tokens`; where none
-- is found, the rule `r` of all statements does not begin there
abbrev pub Opens : {S : Type 0} → List ℕ → Rule Terminal → (S → Rule Terminal) → List Token → Option S → Type 0
Opens text r lead tokens (Some s) = Leads text lead tokens s
Opens text r lead tokens None = Closed text r tokens

-- `file_lead s` is what leads the statement `s` of a file
abbrev pub file_lead : FileStart → Rule Terminal
file_lead of_file.Import = Single ImportWord
file_lead of_file.Package = Single PackageWord
file_lead of_file.Option = Single OptionWord
file_lead of_file.Message = Single MessageWord
file_lead of_file.Enum = Single EnumWord
file_lead of_file.Service = Single ServiceWord
file_lead of_file.Extend = Single ExtendWord
file_lead of_file.Empty = Single Semicolon

-- `statement_lead s` is what leads the statement `s` of a message
abbrev pub statement_lead : StatementStart → Rule Terminal
statement_lead of_statement.Field = type_from FieldTypeName
statement_lead of_statement.Enum = Single EnumWord
statement_lead of_statement.Extend = Single ExtendWord
statement_lead of_statement.Option = Single OptionWord
statement_lead of_statement.Oneof = Single OneofWord
statement_lead of_statement.Reserved = Single ReservedWord
statement_lead of_statement.Labelled = Single LabelWord
statement_lead of_statement.Mapped = Single MapWord
statement_lead of_statement.Empty = Single Semicolon

-- `oneof_lead s` is what leads the statement `s` of a oneof
abbrev pub oneof_lead : OneofStart → Rule Terminal
oneof_lead of_oneof.Option = Single OptionWord
oneof_lead of_oneof.Member = type_from MemberTypeName
oneof_lead of_oneof.Empty = Single Semicolon

-- `enum_lead s` is what leads the statement `s` of an enum
abbrev pub enum_lead : EnumStart → Rule Terminal
enum_lead of_enum.Option = Single OptionWord
enum_lead of_enum.Reserved = Single ReservedWord
enum_lead of_enum.Value = Single ValueName
enum_lead of_enum.Empty = Single Semicolon

-- `service_lead s` is what leads the statement `s` of a service
abbrev pub service_lead : ServiceStart → Rule Terminal
service_lead of_service.Option = Single OptionWord
service_lead of_service.Method = Single MethodWord
service_lead of_service.Empty = Single Semicolon

-- `method_lead s` is what leads the statement `s` of a method
abbrev pub method_lead : MethodStart → Rule Terminal
method_lead of_method.Option = Single OptionWord
method_lead of_method.Empty = Single Semicolon

-- `NoMessage text levels tokens`: within `levels` levels no message begins at the first of `tokens`
abbrev pub NoMessage : List ℕ → ℕ → List Token → Type 0
NoMessage text levels tokens = 0 < levels → starts_at accepts (Single MessageWord) (words text tokens) ≡ false

-- `ItemLeads text levels tokens s`: the first of `tokens` leads the item `s` of a message with
-- `levels` levels of messages within
abbrev pub ItemLeads : List ℕ → ℕ → List Token → ItemStart → Type 0
ItemLeads text levels tokens of_item.Message = (0 < levels) × (starts_at accepts (Single MessageWord) (words text tokens) ≡ true)
ItemLeads text levels tokens (of_item.Statement s) = NoMessage text levels tokens × Leads text statement_lead tokens s

-- `ItemOpens text brackets levels tokens found`: the same of the item found; where none is found,
-- no item begins there
abbrev pub ItemOpens : List ℕ → ℕ → ℕ → List Token → Option ItemStart → Type 0
ItemOpens text brackets levels tokens (Some s) = ItemLeads text levels tokens s
ItemOpens text brackets levels tokens None = Closed text (item brackets levels) tokens
