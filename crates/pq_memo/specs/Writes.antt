-- What a call writes into the table. The names are those of `specs/Sound`.
use Rattle.std.specs.Prelude.{ℕ, ◌≡◌, ◌⊎◌, List, [], ◌∷◌, Option, Some}
use Rattle.std.specs.declared.cmp.Ordering.{Ordering}
use Rattle.pq_inputs.specs.declared.durability.Durability.{Durability}
use Rattle.pq_inputs.specs.Sources.{Table}
use Rattle.pq_rules.specs.declared.turn.Answer.{Answer}
use Rattle.pq_rules.specs.declared.turn.Answer.TheVariants.{Cycle}
use Rattle.pq_rules.specs.Turns.{Machine}
use Rattle.pq_rules.specs.Relations.{In}
use Rattle.pq_memo.specs.Sound.{Memo}
use Rattle.pq_memo.specs.Kept.{IsLeastAt}
use Rattle.pq_memo.specs.Look.{IsGreen}
use Rattle.pq_memo.specs.Table.{key_at, memo_at, HasIn, IsPut}

-- `IsDated now Has k answer changed` is that `changed` is the changed revision of `answer` for `k`:
-- that of the memo that the table has of `k`, if its answer is equal, and else now
abbrev pub IsDated : {K V : Type 0} → ℕ → (K → Memo K V → Type 0) → K → Answer K V → ℕ → Type 0
IsDated {K} {V} now Has k answer changed =
    ((old : Memo K V) × Has k old × (old.answer ≡ answer) × (changed ≡ old.changed))
    ⊎ ((changed ≡ now) × ((old : Memo K V) → Has k old → (old.answer ≡ answer → ⊥)))

-- `Dated now Has k memo` is that the changed revision of `memo` is that of its answer for `k`
abbrev pub Dated : {K V : Type 0} → ℕ → (K → Memo K V → Type 0) → K → Memo K V → Type 0
Dated now Has k memo = IsDated now Has k memo.answer memo.changed

-- `remarked memo revision durability` is `memo`, verified at `revision`, with `durability`
abbrev pub remarked : {K V : Type 0} → Memo K V → ℕ → Durability → Memo K V
remarked memo revision durability = record memo { verified = revision; durability = durability }

-- `IsMarked order m inputs before k after` is that in the places `after` the memo of `k` is
-- verified now, with the least durability below `k`, and that every other key has the memo of
-- `before`
pub record IsMarked {K P V : Type 0} (order : K → K → Ordering) (m : Machine K P V) (inputs : Table) (before : List (K × Option (Memo K V)))
    (k : K) (after : List (K × Option (Memo K V))) : Type 0 where
  pub memo : Memo K V
  pub has : HasIn (memo_at order before) k memo
  pub durability : Durability
  pub least : IsLeastAt order m inputs.history inputs.revision k durability
  pub put : IsPut order (memo_at order before) k (remarked memo inputs.revision durability) (memo_at order after)

-- `IsConfirmed order m inputs before n after` is that the place `n` of `before` has a key whose memo is
-- valid, and that in the places `after` this memo is verified now
abbrev pub IsConfirmed : {K P V : Type 0} → (K → K → Ordering) → Machine K P V → Table → List (K × Option (Memo K V)) → ℕ
    → List (K × Option (Memo K V)) → Type 0
IsConfirmed {K} order m inputs before n after =
    (k : K) × (key_at before n ≡ Some k) × IsGreen m inputs.history inputs.revision (HasIn (memo_at order before)) k × IsMarked order m inputs before k after

-- `IsPublished order m inputs before k answer reads after` is that in the places `after` the key
-- `k` has a memo of `answer` and `reads`, verified now, with the least durability below `k` and the
-- changed revision of `answer`, and that every other key has the memo of `before`
pub record IsPublished {K P V : Type 0} (order : K → K → Ordering) (m : Machine K P V) (inputs : Table) (before : List (K × Option (Memo K V)))
    (k : K) (answer : Answer K V) (reads : List K) (after : List (K × Option (Memo K V))) : Type 0 where
  pub changed : ℕ
  pub dated : IsDated inputs.revision (HasIn (memo_at order before)) k answer changed
  pub durability : Durability
  pub least : IsLeastAt order m inputs.history inputs.revision k durability
  pub put : IsPut order (memo_at order before) k
      (record { answer = answer; verified = inputs.revision; changed = changed; reads = reads; durability = durability }) (memo_at order after)

-- `ring_keys members` is the keys of `members`, each of which is a key of a ring with its reads
abbrev pub ring_keys : {K : Type 0} → List (K × List K) → List K
ring_keys [] = []
ring_keys (e ∷ es) = e.0 ∷ ring_keys es

-- `fronts reads` is `reads` without the last
abbrev pub fronts : {K : Type 0} → List K → List K
fronts [] = []
fronts (x ∷ []) = []
fronts (x ∷ (y ∷ ys)) = x ∷ fronts (y ∷ ys)

-- `RingWritten now Has After members durability` is that the table `After` has of each key of
-- `members` a memo that is verified now and whose answer is their ring, with the key's reads and
-- the one `durability`, and that every other key has the memo of the table `Has`
pub record RingWritten {K V : Type 0} (now : ℕ) (Has After : K → Memo K V → Type 0) (members : List (K × List K)) (durability : Durability) : Type 0 where
  pub news : (x : K) (reads : List K) → In (x, reads) members
      → (memo : Memo K V) × After x memo × (memo.answer ≡ Cycle (ring_keys members)) × (memo.reads ≡ reads) × (memo.verified ≡ now)
      × (memo.durability ≡ durability) × Dated now Has x memo
  pub to : (q : K) (memo : Memo K V) → (In q (ring_keys members) → ⊥) → Has q memo → After q memo
  pub from : (q : K) (memo : Memo K V) → (In q (ring_keys members) → ⊥) → After q memo → Has q memo
  pub one : (q : K) (a b : Memo K V) → After q a → After q b → a ≡ b
