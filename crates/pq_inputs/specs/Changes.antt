-- The last revision that changed a file, and the last one that changed a file of at least some
-- durability.
-- (The Salsa book, "The red-green algorithm", "Durability".)
use Rattle.std.specs.Prelude.{◌≡◌, ℕ, ◌+◌, ◌≤◌, List}
use Rattle.pq_inputs.specs.declared.durability.Durability.{Durability}
use Rattle.pq_inputs.specs.declared.durability.Durability.TheVariants.{Low, Medium, High}
use Rattle.pq_inputs.specs.Sources.{Sources, file_in, ChangesAt}

-- `level durability` is its rank: Low is below Medium, and Medium below High
abbrev pub level : Durability → ℕ
level Low = 0
level Medium = 1
level High = 2

-- `ChangesOfAt history durability revision` says that between `revision` and the next one some file
-- changed whose durability before the change was at least `durability`
pub record ChangesOfAt (history : List Sources) (durability : Durability) (revision : ℕ) : Type 0 where
  pub name : List ℕ
  pub change : ChangesAt history name revision
  pub lasting : level durability ≤ level (file_in change.before name).durability

-- `IsLast Happens revision` says that something last happened between the revision before
-- `revision` and `revision`. Where it never happened, `revision` is 0
pub record IsLast (Happens : ℕ → Type 0) (revision : ℕ) : Type 0 where
  pub happened : (before : ℕ) → revision ≡ before + 1 → Happens before
  pub latest : (before : ℕ) → revision ≤ before → Happens before → ⊥

-- `IsLastChange history name revision` says that `revision` is the last one at which the file of
-- this name changed, or 0
abbrev pub IsLastChange : List Sources → List ℕ → ℕ → Type 0
IsLastChange history name revision = IsLast (ChangesAt history name) revision

-- `IsLastChangeOf history durability revision` says that `revision` is the last one at which a file
-- changed whose durability before the change was at least `durability`, or 0
abbrev pub IsLastChangeOf : List Sources → Durability → ℕ → Type 0
IsLastChangeOf history durability revision = IsLast (ChangesOfAt history durability) revision
