-- Auxiliary: the packages that a search from a scope outwards meets, by the parts of their names
-- (used by proofs and contracts of private functions only).
use Rattle.std.specs.Prelude.{◌≡◌, ◌≢◌, ◌⊎◌, ℕ, ◌+◌, ◌-◌, ◌<◌, ◌≤◌, true, get_or, length, take, List, [], Option, Some, None}
use Rattle.std.specs.List.{Contains}
use Rattle.std.specs.List.Sorted.{IsSorted}
use Rattle.pq_schema.specs.declared.scope.scope.FileDefs.{FileDefs}
use Rattle.pq_schema.specs.Definitions.{qualified}
use Rattle.pq_schema.specs.Resolution.{is_package}
use Rattle.pq_schema.specs.aux.Grouping.{root_order}

-- Files, and the package `root` from which a search goes outwards
pub record Contents : Type 0 where
  pub files : List FileDefs
  pub root : List ℕ

-- `IsPlain name` is that `name` is not empty and has no dot
pub record IsPlain (name : List ℕ) : Type 0 where
  pub some : 0 < length name
  pub plain : (i : ℕ) → i < length name → get_or name i 0 ≢ 46

-- `IsStart root start` is that a name in one of the scopes from `root` outwards begins at the byte
-- `start` of its full name: in the empty scope at 0, in others after their bytes and the dot
pub record IsStart (root : List ℕ) (start : ℕ) : Type 0 where
  pub within : start ≤ length root + 1
  pub after : 0 < start → (1 < start) × (get_or root (start - 1) 46 ≡ 46)

-- `scope_before root start` is the scope whose names begin at `start`
abbrev pub scope_before : List ℕ → ℕ → List ℕ
scope_before root start = take (start - 1) root

-- `IsAlong parts files root` is that `parts` has each name that is a package of `files` in one of
-- the scopes from `root` outwards, with the start of the names of the scope, and is sorted
pub record IsAlong (parts : List (List ℕ × ℕ)) (files : List FileDefs) (root : List ℕ) : Type 0 where
  pub sorted : IsSorted root_order parts
  pub each : (name : List ℕ) (start : ℕ) → Contains parts (name, start) → IsPlain name
      → IsStart root start × (is_package files (qualified (scope_before root start) name) ≡ true)
  pub all : (name : List ℕ) (start : ℕ) → IsPlain name → IsStart root start
      → is_package files (qualified (scope_before root start) name) ≡ true → Contains parts (name, start)

-- `IsSame root entry n` is that the first `n` bytes of `entry` are those of `root` with a dot after
-- it
abbrev pub IsSame : List ℕ → List ℕ → ℕ → Type 0
IsSame root entry n = (i : ℕ) → i < n → get_or entry i 0 ≡ get_or root i 46

-- `Meets root entry name start` is that `entry` begins with the bytes of `root` before `start`, with
-- `name`, and with a dot
pub record Meets (root entry name : List ℕ) (start : ℕ) : Type 0 where
  pub front : IsSame root entry start
  pub part : (i : ℕ) → i < length name → get_or entry (start + i) 0 ≡ get_or name i 0
  pub dot : get_or entry (start + length name) 0 ≡ 46

-- `AllMeet parts packages root` is that each of `parts` is what one of `packages` meets
abbrev pub AllMeet : List (List ℕ × ℕ) → List (List ℕ × ℕ) → List ℕ → Type 0
AllMeet parts packages root = (name : List ℕ) (start : ℕ) → Contains parts (name, start)
    → IsStart root start × (k : ℕ) × (k < length packages) × Meets root (get_or packages k ([], 0)).0 name start

-- `AreKept old new` is that the parts `new` have all of `old`
abbrev pub AreKept : List (List ℕ × ℕ) → List (List ℕ × ℕ) → Type 0
AreKept old new = (name : List ℕ) (start : ℕ) → Contains old (name, start) → Contains new (name, start)

-- `MeetBeside old new root entry` is that what the parts `new` have beside `old` is what `entry`
-- meets
abbrev pub MeetBeside : List (List ℕ × ℕ) → List (List ℕ × ℕ) → List ℕ → List ℕ → Type 0
MeetBeside old new root entry = (name : List ℕ) (start : ℕ) → Contains new (name, start)
    → Contains old (name, start) ⊎ (IsStart root start × Meets root entry name start)

-- `HasMet parts root entry` is that `parts` has what `entry` meets
abbrev pub HasMet : List (List ℕ × ℕ) → List ℕ → List ℕ → Type 0
HasMet parts root entry = (name : List ℕ) (start : ℕ) → IsPlain name → IsStart root start
    → Meets root entry name start → Contains parts (name, start)

-- `IsCovered parts root covered` is that `parts` has what an entry meets before the last scope that
-- it is in, of those whose names begin at `covered` or before
pub record IsCovered (parts : List (List ℕ × ℕ)) (root : List ℕ) (covered : ℕ) : Type 0 where
  pub start : IsStart root covered
  pub has : (entry name : List ℕ) (start inner : ℕ) → IsStart root inner → inner ≤ covered → IsSame root entry inner
      → start < inner → IsPlain name → IsStart root start → Meets root entry name start → Contains parts (name, start)

-- `IsLastStart parts name answer` is that `answer` is the greatest start that `parts` has for
-- `name`, or `None` if it has none
abbrev pub IsLastStart : List (List ℕ × ℕ) → List ℕ → Option ℕ → Type 0
IsLastStart parts name None = (start : ℕ) → Contains parts (name, start) → ⊥
IsLastStart parts name (Some start) =
    Contains parts (name, start) × ((other : ℕ) → Contains parts (name, other) → other ≤ start)
