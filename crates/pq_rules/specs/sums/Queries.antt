-- The two queries of the example, by the keys and readers of the rule set in which they are used.
--
-- The sum of a file is 1 and the sums of the names in its text, in order, at most `largest_sum`.
-- The total of a file is its sum, or 0 where that is a cycle.
use Rattle.std.specs.Prelude.{ℕ, ◌+◌, List, [], ◌∷◌, min, length, unwrap_or, Option}
use Rattle.pq_rules.specs.declared.turn.Turn.{Turn}
use Rattle.pq_rules.specs.declared.turn.Turn.TheVariants.{Ask, Done}
use Rattle.pq_rules.specs.declared.sums.queries.SumPart.{SumPart}
use Rattle.pq_rules.specs.declared.sums.queries.SumPart.TheVariants.{Read, Add}
use Rattle.pq_rules.specs.sums.Names.{names_of}

-- `sum_level` is the level of sums, `total_level` that of totals
abbrev pub sum_level : ℕ
sum_level = 1

abbrev pub total_level : ℕ
total_level = 2

-- `largest_sum` is the largest sum; a larger one counts as this
abbrev pub largest_sum : ℕ
largest_sum = 1000000

-- `sum_starts input name` is the first turn of the sum of the file `name`: it asks for the text
abbrev pub sum_starts : {K : Type 0} → (List ℕ → K) → List ℕ → Turn K SumPart ℕ
sum_starts input name = Ask (input name) Read

-- `add_next sum names n` is the turn that asks for the sum of the first of `names`; without one it
-- is done with `n`
abbrev pub add_next : {K : Type 0} → (List ℕ → K) → List (List ℕ) → ℕ → Turn K SumPart ℕ
add_next sum [] n = Done n
add_next sum (g ∷ gs) n = Ask (sum g) (Add gs n)

-- `sum_advances sum text number part` is the turn after an answer, read as `text` and as `number`:
-- the sum starts at 1 with the text of its file, and grows by the sum of a name
abbrev pub sum_advances : {K : Type 0} → (List ℕ → K) → Option (List ℕ) → Option ℕ → SumPart → Turn K SumPart ℕ
sum_advances sum text number Read = add_next sum (names_of text) 1
sum_advances sum text number (Add gs n) = add_next sum gs (min (n + unwrap_or number 0) largest_sum)

-- `sum_left part` is what is left to ask at `part`
abbrev pub sum_left : SumPart → ℕ × ℕ
sum_left Read = (1, 0)
sum_left (Add gs n) = (0, length gs)

-- `total_starts sum name` is the first turn of the total of the file `name`: it asks for its sum
abbrev pub total_starts : {K : Type 0} → (List ℕ → K) → List ℕ → Turn K (Unit {0}) ℕ
total_starts sum name = Ask (sum name) tt

-- `total_advances number` is the turn after that: it is done with the sum, or with 0 for a cycle
abbrev pub total_advances : {K : Type 0} → Option ℕ → Turn K (Unit {0}) ℕ
total_advances number = Done (unwrap_or number 0)
