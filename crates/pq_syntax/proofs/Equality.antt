-- What `==` tells of trees, errors and outcomes: it holds exactly of two that are the same. Of trees and
-- their parts that is in `specs/aux/SameNodes`.
use Rattle.pq_lex.specs.contracts.token as token
use Rattle.pq_syntax.specs.contracts.fault as fault
pub use Rattle.pq_syntax.specs.aux.SameNodes.{Told, no_field, one_field, fields, of_struct, no_variant, sides, variants, of_enum, of_bare, option, span, name, number, strings, name_part, constant_kind, constant, setting, range_end, range, method_type, import_kind, label, statement, node, nodes}

-- ---- errors and outcomes

pub lexical_code : Told token.CodePartialEq.TheImpl.ghosts.eq
lexical_code = of_bare token.Code.the_type tt

pub code : Told fault.CodePartialEq.TheImpl.ghosts.eq
code = of_enum fault.Code.enum (variants (one_field lexical_code) (variants no_field (variants no_field (variants no_field (variants no_field no_variant)))))

pub parsed : Told fault.ParsedPartialEq.TheImpl.ghosts.eq
parsed = of_enum fault.Parsed.enum (variants (one_field nodes) (variants (fields span (one_field code)) no_variant))
