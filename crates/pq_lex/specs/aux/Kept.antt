-- Auxiliary: the lines of an index as `LineMark`s (used by proofs and invariants only).
use Rattle.std.specs.Prelude.{◌≡◌, ◌*◌, ◌-◌, ◌/◌, ◌<◌, ◌≤◌, ◌==◌, ◌^◌, ◌⊎◌, cond, List, [], ◌∷◌, ◌++◌, ℕ, suc, ⊤, Option, Some, None, length, map, slice_index, slice_range, sum, take}
use Rattle.pq_lex.specs.declared.lines.Marks.{Marks}
use Rattle.pq_lex.specs.declared.lines.WideLine.{WideLine}
use Rattle.pq_lex.specs.aux.LineMarks.{LineMark, lines_of, units_kept}

-- `interval` is the bytes of a line from one count of UTF-16 units to the next.
abbrev pub interval : ℕ
interval = 64

-- `count_before counts block` is, by `counts`, the units before the block of `interval` bytes with
-- the number `block`.
abbrev pub count_before : List ℕ → ℕ → ℕ
count_before counts block = cond (block == 0) 0 (slice_index counts (block - 1))

-- `IsCounted units counts` is: `counts` are the units before each block but the first, in a line
-- with these `units`.
pub record IsCounted (units counts : List ℕ) : Type 0 where
  pub blocks : length counts ≡ length units / interval
  pub each : (block : ℕ) → block ≤ length counts → count_before counts block ≡ sum (take (block * interval) units)

-- `line_mark bytes start end` is the line of `bytes` from `start` to `end` as a mark.
abbrev pub line_mark : List ℕ → ℕ → ℕ → LineMark
line_mark bytes start end = record { start = start; end = end; units = units_kept (slice_range bytes start end) }

-- `IsWide n line w` is: `w` is what is kept of the bytes `line`, which are not all ASCII, of the
-- line number `n`.
pub record IsWide (n : ℕ) (line : List ℕ) (w : WideLine) : Type 0 where
  pub number : w.number ≡ n
  pub units : w.units.items ≡ units_kept line
  pub some : 0 < length w.units.items
  pub counted : IsCounted w.units.items w.counts.items

-- `WideMore n line old new` is: `new` are the lines `old` and what is kept of the bytes `line` of the
-- line number `n`: nothing if all are ASCII.
abbrev pub WideMore : ℕ → List ℕ → List WideLine → List WideLine → Type 0
WideMore n line old new = ((new ≡ old) × (units_kept line ≡ [])) ⊎ ((w : WideLine) × (new ≡ old ++ w ∷ []) × IsWide n line w)

-- `units_at number wide` is the units of the line number `number` if it is one of `wide`, and [] if
-- it is not.
unfoldable pub units_at : ℕ → List WideLine → List ℕ
units_at number [] = []
units_at number (w ∷ ws) = cond (w.number == number) w.units.items (units_at number ws)

-- `numbers_of wide` is the numbers of the lines `wide`.
abbrev pub numbers_of : List WideLine → List ℕ
numbers_of wide = map (λ w. w.number) wide

-- `IsRising numbers` is: each of `numbers` is above those before it.
abbrev pub IsRising : List ℕ → Type 0
IsRising numbers = (i j : ℕ) → i < j → j < length numbers → slice_index numbers i < slice_index numbers j

-- `IsPlace x numbers place` is: `place` is the index of `x` in `numbers`, or `None` if `numbers` do
-- not have it.
abbrev pub IsPlace : ℕ → List ℕ → Option ℕ → Type 0
IsPlace x numbers None = (k : ℕ) → k < length numbers → slice_index numbers k ≡ x → ⊥
IsPlace x numbers (Some k) = (k < length numbers) × (slice_index numbers k ≡ x)

-- `AreWide low high wide` is: the numbers of `wide` rise, from `low` on and below `high`, and each
-- has units and their counts.
unfoldable pub AreWide : ℕ → ℕ → List WideLine → Type 0
AreWide low high [] = ⊤
AreWide low high (w ∷ ws) = (low ≤ w.number) × (w.number < high) × (0 < length w.units.items) × IsCounted w.units.items w.counts.items × AreWide (suc w.number) high ws

-- `marks_from n starts ends wide` is the lines from the number `n` on as marks.
unfoldable pub marks_from : ℕ → List ℕ → List ℕ → List WideLine → List LineMark
marks_from n [] ends wide = []
marks_from n (s ∷ starts) [] wide = []
marks_from n (s ∷ starts) (e ∷ ends) wide = record { start = s; end = e; units = units_at n wide } ∷ marks_from (suc n) starts ends wide

-- `marks_of m` is the lines of `m` as marks: what contracts see of an index.
abbrev pub marks_of : Marks → List LineMark
marks_of m = marks_from 0 m.starts m.ends m.wide.items

-- `mark_at m number` is the line number `number` of `m` as a mark.
abbrev pub mark_at : Marks → ℕ → LineMark
mark_at m number = record { start = slice_index m.starts number; end = slice_index m.ends number; units = units_at number m.wide.items }

-- `IsMarked m` is: `m` has an end for each start, and its lines that are not ASCII in order.
pub record IsMarked (m : Marks) : Type 0 where
  pub ends : length m.ends ≡ length m.starts
  pub wide : AreWide 0 (length m.starts) m.wide.items

-- `IsIndexed m` is the invariant of an index: `m` has the lines of some text.
pub record IsIndexed (m : Marks) : Type 0 where
  pub text : List ℕ
  pub small : length text < 2 ^ 63
  pub is : marks_of m ≡ lines_of text
  pub marked : IsMarked m
