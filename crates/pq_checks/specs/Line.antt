-- A line of a table of errors: what it says of each element of a list. The errors that a table lists,
-- and when something is one of them, are said here once for every table.
use Rattle.std.specs.Prelude.{◌≡◌, ◌⊎◌, Bool, cond, false, List, [], ◌∷◌, ◌++◌, flat_map, Contains}
use Rattle.pq_checks.specs.Earlier.{of_each_after, IsSaidOfOne}
use Rattle.pq_checks.specs.declared.errors.fault.Fault.{Fault}

-- A `Line` is a line of a table: `each f xs` says `f x` of each element `x` of `xs`, `after f xs` says
-- `f before x`, where `before` lists the elements before `x`, and `unless b l` says what the line `l`
-- says if `b` is false
pub data Line : Type 1 where
  each : {A : Type 0} → (A → List Fault) → List A → Line
  after : {A : Type 0} → (List A → A → List Fault) → List A → Line
  unless : Bool → Line → Line

-- `said l` lists what the line `l` says
abbrev pub said : Line → List Fault
said (each f xs) = flat_map f xs
said (after f xs) = of_each_after f [] xs
said (unless b l) = cond b [] (said l)

-- `all_said ls` lists what the lines `ls` say, in order
abbrev pub all_said : List Line → List Fault
all_said [] = []
all_said (l ∷ ls) = said l ++ all_said ls

-- `IsSaidOf f xs x` is that `x` is among what `f` says of an element of `xs`
abbrev pub IsSaidOf : {A B : Type 0} → (A → List B) → List A → B → Type 0
IsSaidOf {A = A} f xs x = (y : A) × Contains xs y × Contains (f y) x

-- `IsSaid l x` is that the line `l` says `x` of an element of its list
abbrev pub IsSaid : Line → Fault → Type 0
IsSaid (each f xs) x = IsSaidOf f xs x
IsSaid (after f xs) x = IsSaidOfOne f xs x
IsSaid (unless b l) x = (b ≡ false) × IsSaid l x

-- `IsSaidByOne ls x` is that one of the lines `ls` says `x`
abbrev pub IsSaidByOne : List Line → Fault → Type 0
IsSaidByOne [] x = ⊥
IsSaidByOne (l ∷ ls) x = IsSaid l x ⊎ IsSaidByOne ls x
