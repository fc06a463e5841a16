-- Worked rows of the table of errors.
use Rattle.std.specs.Prelude.{◌≡◌, ℕ, List, [], ◌∷◌, codes, refl, map, Some, None, false}
use Rattle.pq_lex.specs.declared.token.Span.{Span}
use Rattle.pq_syntax.specs.Places.{enclosing, places_after}
use Rattle.pq_syntax.specs.declared.parts.ConstantKind.TheVariants.{Identifier}
use Rattle.pq_syntax.specs.declared.parts.Name.{Name}
use Rattle.pq_syntax.specs.declared.parts.Number.{Number}
use Rattle.pq_syntax.specs.declared.parts.Range.{Range}
use Rattle.pq_syntax.specs.declared.parts.RangeEnd.TheVariants.{To, Max}
use Rattle.pq_syntax.specs.declared.parts.Setting.{Setting}
use Rattle.pq_syntax.specs.declared.tree.Node.{Node}
use Rattle.pq_syntax.specs.declared.tree.Statement.{Statement}
use Rattle.pq_syntax.specs.declared.tree.Statement.TheVariants as statements
use Rattle.pq_checks.specs.Earlier.{of_each_after}
use Rattle.pq_checks.specs.Faults.{faults}
use Rattle.pq_checks.specs.Surroundings.{Surroundings}
use Rattle.pq_checks.specs.declared.errors.code.Code.{Code}
use Rattle.pq_checks.specs.declared.errors.code.Code.TheVariants as code
use Rattle.pq_checks.specs.declared.errors.fault.Fault.{Fault}

abbrev at : ℕ → Span
at s = record { start = s; end = s }

abbrev name : List ℕ → ℕ → Name
name text s = record { text = text; span = at s }

abbrev number : ℕ → ℕ → Number
number v s = record { negative = false; value = Some v; span = at s }

abbrev node : ℕ → Statement → Node
node depth s = record { depth = depth; span = at 0; statement = s }

abbrev from_to : ℕ → ℕ → ℕ → Range
from_to first last s = record { first = number first s; last = To (number last s); span = at s }

abbrev alias : List ℕ → Setting
alias text = record {
  parts = record { is_extension = false; text = codes "allow_alias"; span = at 0 } ∷ [];
  constant = record { kind = Identifier; text = text; span = at 0 };
  span = at 0;
}

abbrev alone : Surroundings
alone = record { imported = []; ring = None; next = None; definitions = []; others = []; references = [] }

abbrev told : Fault → ℕ × Code
told f = (f.item, f.code)

-- message M { reserved 2 to 3, 9 to max; oneof o { int32 a = 1; } map<string, int32> b = 1;
-- int32 d = 3; }: a field of a oneof is one of the message, and the last number of a range counts
abbrev message : List Node
message =
    node 0 (statements.Message (name (codes "M") 0))
    ∷ node 1 (statements.ReservedNumbers (from_to 2 3 1 ∷ record { first = number 9 1; last = Max; span = at 1 } ∷ []))
    ∷ node 1 (statements.Oneof (name (codes "o") 2))
    ∷ node 2 (statements.Field None (name (codes "int32") 3) (name (codes "a") 3) (number 1 3) [])
    ∷ node 1 (statements.MapField (name (codes "string") 4) (name (codes "int32") 4) (name (codes "b") 4) (number 1 5) [])
    ∷ node 1 (statements.Field None (name (codes "int32") 6) (name (codes "d") 6) (number 3 7) [])
    ∷ []

pub of_message : map {B = ℕ × Code} told (faults alone message) ≡ (4, code.FieldNumberTwice) ∷ (5, code.FieldNumberReserved) ∷ []
unfolding enclosing places_after of_each_after
of_message = refl

-- enum E { option allow_alias = true; option allow_alias = false; A = 1; B = 1; reserved 3 to 2; }
-- message M { oneof o {} }: the last option counts, and the first value has to be 0
abbrev enumeration : List Node
enumeration =
    node 0 (statements.Enum (name (codes "E") 0))
    ∷ node 1 (statements.Option (alias (codes "true")))
    ∷ node 1 (statements.Option (alias (codes "false")))
    ∷ node 1 (statements.Value (name (codes "A") 1) (number 1 1) [])
    ∷ node 1 (statements.Value (name (codes "B") 2) (number 1 2) [])
    ∷ node 1 (statements.ReservedNumbers (from_to 3 2 3 ∷ []))
    ∷ node 0 (statements.Message (name (codes "M") 0))
    ∷ node 1 (statements.Oneof (name (codes "o") 4))
    ∷ []

pub of_enumeration : map {B = ℕ × Code} told (faults alone enumeration)
    ≡ (5, code.BadRange) ∷ (7, code.EmptyOneof) ∷ (3, code.FirstValueNotZero) ∷ (4, code.EnumNumberTwice) ∷ []
unfolding enclosing places_after of_each_after
of_enumeration = refl
