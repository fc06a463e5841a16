-- Auxiliary: the least durability of reads.
use Rattle.std.specs.Prelude.{◌≡◌, ◌⊎◌, ◌≤◌, List, [], ◌∷◌, ◌++◌}
use Rattle.pq_inputs.specs.declared.durability.Durability.{Durability}
use Rattle.pq_inputs.specs.declared.durability.Durability.TheVariants.{High}
use Rattle.pq_inputs.specs.Sources.{Sources}
use Rattle.pq_inputs.specs.Changes.{level}
use Rattle.pq_rules.specs.Turns.{Machine}
use Rattle.pq_rules.specs.Relations.{In}
use Rattle.pq_memo.specs.Sound.{Memo, file_at}

-- `IsKnown m Has k` is that `k` is an input or has a memo
abbrev pub IsKnown : {K P V : Type 0} → Machine K P V → (K → Memo K V → Type 0) → K → Type 0
IsKnown {K} {P} {V} m Has k = (m.level k ≡ 0) ⊎ ((memo : Memo K V) × Has k memo)

-- `HasDurability m files Has q durability` is that `durability` is that of the file of the input
-- `q`, or of its memo
abbrev pub HasDurability : {K P V : Type 0} → Machine K P V → Sources → (K → Memo K V → Type 0) → K → Durability → Type 0
HasDurability {K} {P} {V} m files Has q durability =
    ((m.level q ≡ 0) × ((file_at files (m.file q)).durability ≡ durability))
    ⊎ ((memo : Memo K V) × Has q memo × (memo.durability ≡ durability))

-- `IsLeastRead m files Has Among durability` is that `durability` is the least of the keys of
-- `Among`, and High where there are none
pub record IsLeastRead {K P V : Type 0} (m : Machine K P V) (files : Sources) (Has : K → Memo K V → Type 0) (Among : K → Type 0) (durability : Durability) : Type 0 where
  pub lower : (q : K) → Among q → (e : Durability) × HasDurability m files Has q e × (level durability ≤ level e)
  pub attained : (durability ≡ High) ⊎ ((q : K) × Among q × HasDurability m files Has q durability)

-- `IsFront reads q` is that `q` is a read of `reads` before the last
abbrev pub IsFront : {K : Type 0} → List K → K → Type 0
IsFront {K} reads q = (front : List K) × (last : K) × (reads ≡ front ++ last ∷ []) × In q front

-- `IsFrontRead members q` is that `q` is a read of one of `members` before the last of that member
abbrev pub IsFrontRead : {K : Type 0} → List (K × List K) → K → Type 0
IsFrontRead {K} members q = (x : K) × (reads : List K) × In (x, reads) members × IsFront reads q
