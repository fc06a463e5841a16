-- The codes of errors as they are printed, and the severity of each (Language Server Protocol 3.17,
-- "DiagnosticSeverity"); the code and the message of each syntax error.
use Rattle.std.specs.Prelude.{ℕ, Bool, true, false, cond, ◌&&◌, List, codes}
use Rattle.pq_lex.specs.declared.token.Code.TheVariants as lexical
use Rattle.pq_syntax.specs.declared.fault.Code.{Code as SyntaxCode}
use Rattle.pq_syntax.specs.declared.fault.Code.TheVariants as syntax
use Rattle.pq_checks.specs.declared.errors.code.Code.{Code}
use Rattle.pq_checks.specs.declared.errors.code.Code.TheVariants as code
use Rattle.pq_checks.specs.declared.errors.code.Severity.{Severity}
use Rattle.pq_checks.specs.declared.errors.code.Severity.TheVariants.{Error, Information}

-- `code_text c` is the code `c` as it is printed
abbrev pub code_text : Code → List ℕ
code_text code.UnclosedComment = codes "P001"
code_text code.UnclosedString = codes "P002"
code_text code.BadEscape = codes "P003"
code_text code.NumberRunsOn = codes "P004"
code_text code.OtherCharacter = codes "P005"
code_text code.OnlyProto3 = codes "P010"
code_text code.TooDeep = codes "P011"
code_text code.UnexpectedToken = codes "P012"
code_text code.AggregateConstant = codes "P020"
code_text code.ExtendBlock = codes "P021"
code_text code.FloatConstant = codes "P022"
code_text code.OtherVersion = codes "P023"
code_text code.PackageTwice = codes "P101"
code_text code.ImportNotFound = codes "P102"
code_text code.ImportTwice = codes "P103"
code_text code.ImportWithError = codes "P104"
code_text code.ImportCycle = codes "P105"
code_text code.ImportNotText = codes "P106"
code_text code.DefinedTwice = codes "P110"
code_text code.DefinedElsewhere = codes "P111"
code_text code.FieldNumberOutOfRange = codes "P120"
code_text code.FieldNumberOfProtobuf = codes "P121"
code_text code.FieldNumberTwice = codes "P122"
code_text code.FieldNumberReserved = codes "P123"
code_text code.FieldNameReserved = codes "P124"
code_text code.BadRange = codes "P125"
code_text code.EmptyOneof = codes "P126"
code_text code.EmptyEnum = codes "P130"
code_text code.FirstValueNotZero = codes "P131"
code_text code.EnumNumberOutOfRange = codes "P132"
code_text code.EnumNumberTwice = codes "P133"
code_text code.EnumNumberReserved = codes "P134"
code_text code.EnumValueNameReserved = codes "P135"
code_text code.TypeNotFound = codes "P150"
code_text code.TypeNotImported = codes "P151"
code_text code.NotAType = codes "P152"
code_text code.NotAMessage = codes "P153"

-- `severity c` is the severity of the code `c`: information for a part that is not read, else an error
abbrev pub severity : Code → Severity
severity code.AggregateConstant = Information
severity code.ExtendBlock = Information
severity code.FloatConstant = Information
severity code.OtherVersion = Information
severity _ = Error

-- `severity_number s` is the number of the severity `s` in the protocol
abbrev pub severity_number : Severity → ℕ
severity_number Error = 1
severity_number Information = 3

-- `syntax_code c` is the code of the syntax error `c`
abbrev pub syntax_code : SyntaxCode → Code
syntax_code (syntax.Lexical lexical.UnclosedComment) = code.UnclosedComment
syntax_code (syntax.Lexical lexical.UnclosedString) = code.UnclosedString
syntax_code (syntax.Lexical lexical.BadEscape) = code.BadEscape
syntax_code (syntax.Lexical lexical.NumberRunsOn) = code.NumberRunsOn
syntax_code (syntax.Lexical lexical.OtherCharacter) = code.OtherCharacter
syntax_code syntax.OnlyProto3 = code.OnlyProto3
syntax_code syntax.TooDeep = code.TooDeep
syntax_code syntax.UnexpectedToken = code.UnexpectedToken
syntax_code syntax.UnexpectedEnd = code.UnexpectedToken

-- `syntax_text c` is the message of the syntax error `c`
abbrev pub syntax_text : SyntaxCode → List ℕ
syntax_text (syntax.Lexical lexical.UnclosedComment) = codes "comment is not closed"
syntax_text (syntax.Lexical lexical.UnclosedString) = codes "string is not closed"
syntax_text (syntax.Lexical lexical.BadEscape) = codes "bad escape"
syntax_text (syntax.Lexical lexical.NumberRunsOn) = codes "number runs into a name or digit"
syntax_text (syntax.Lexical lexical.OtherCharacter) = codes "character is not allowed here"
syntax_text syntax.OnlyProto3 = codes "only syntax = \"proto3\" is read"
syntax_text syntax.TooDeep = codes "nesting is deeper than 64"
syntax_text syntax.UnexpectedToken = codes "unexpected token"
syntax_text syntax.UnexpectedEnd = codes "unexpected end of file"

-- `is_of_version c` is whether the syntax error `c` is that of the version
abbrev pub is_of_version : SyntaxCode → Bool
is_of_version syntax.OnlyProto3 = true
is_of_version _ = false

-- `said_code other c` is the code that is said of the syntax error `c` of a text, which is of another
-- version of the language if `other`: of such a text the version is no error
abbrev pub said_code : Bool → SyntaxCode → Code
said_code other c = cond (other && is_of_version c) code.OtherVersion (syntax_code c)

-- `said_text other c` is the message that is said of it
abbrev pub said_text : Bool → SyntaxCode → List ℕ
said_text other c = cond (other && is_of_version c) (codes "only the definitions of this file are read") (syntax_text c)
