-- The invariant of a table of memos. It is stronger than soundness, which validation by durability,
-- backdating and rings do not preserve by itself. The names are those of `specs/Sound`.
use Rattle.std.specs.Prelude.{ℕ, ◌≡◌, ◌⊎◌, ◌<◌, ◌≤◌, List}
use Rattle.std.specs.declared.cmp.Ordering.{Ordering}
use Rattle.pq_inputs.specs.declared.durability.Durability.{Durability}
use Rattle.pq_inputs.specs.declared.durability.Durability.TheVariants.{High}
use Rattle.pq_inputs.specs.Sources.{Sources}
use Rattle.pq_inputs.specs.Changes.{level, ChangesOfAt}
use Rattle.pq_rules.specs.declared.turn.Answer.{Answer}
use Rattle.pq_rules.specs.declared.turn.Answer.TheVariants.{Cycle}
use Rattle.pq_rules.specs.Turns.{Instance, Machine}
use Rattle.pq_rules.specs.Relations.{In}
use Rattle.pq_rules.specs.Value.{Means}
use Rattle.pq_memo.specs.Sound.{Memo, sources_at, at, file_at, HasReads, IsBelow}

-- `Quiet history durability since upto` is that after the revision `since`, up to `upto`, no file
-- changed that was of at least this durability before the change
abbrev pub Quiet : List Sources → Durability → ℕ → ℕ → Type 0
Quiet history durability since upto =
    (before : ℕ) → since ≤ before → before < upto → ChangesOfAt history durability before → ⊥

-- `IsLeast s m files k durability` is that `durability` is the least that the inputs below `k` have
-- in the sources `files`, and High where there are none
pub record IsLeast {K P V : Type 0} (s : Instance K P V) (m : Machine K P V) (files : Sources) (k : K) (durability : Durability) : Type 0 where
  pub lasting : (x : K) → IsBelow s k x → level durability ≤ level (file_at files (m.file x)).durability
  pub attained : (durability ≡ High) ⊎ ((x : K) × IsBelow s k x × ((file_at files (m.file x)).durability ≡ durability))

-- `IsLeastAt order m history revision k durability` is that `durability` is the least of the inputs
-- below `k` at `revision`
abbrev pub IsLeastAt : {K P V : Type 0} → (K → K → Ordering) → Machine K P V → List Sources → ℕ → K → Durability → Type 0
IsLeastAt order m history revision k durability =
    IsLeast (at order m history revision) m (sources_at history revision) k durability

-- `Differs order m history since upto q` is that at some revision after `since`, up to `upto`, the
-- answer of `q` differs from that at `since`, or, for an input, its file's text or durability does
pub record Differs {K P V : Type 0} (order : K → K → Ordering) (m : Machine K P V) (history : List Sources) (since upto : ℕ) (q : K) : Type 0 where
  pub revision : ℕ
  pub after : since < revision
  pub within : revision ≤ upto
  pub differs : ((earlier : Answer K V) × (later : Answer K V) × Means (at order m history since) q earlier
      × Means (at order m history revision) q later × (earlier ≡ later → ⊥))
      ⊎ ((m.level q ≡ 0) × (file_at (sources_at history since) (m.file q) ≡ file_at (sources_at history revision) (m.file q) → ⊥))

-- `KeptMemo order m history now Has k memo` is the invariant of `memo`, which the table has of `k`
pub record KeptMemo {K P V : Type 0} (order : K → K → Ordering) (m : Machine K P V) (history : List Sources) (now : ℕ)
    (Has : K → Memo K V → Type 0) (k : K) (memo : Memo K V) : Type 0 where
  pub ruled : 0 < m.level k
  pub in_order : (memo.changed ≤ memo.verified) × (memo.verified ≤ now)
  pub changed : Means (at order m history memo.changed) k memo.answer
  pub reads : HasReads (at order m history memo.verified) k memo.answer memo.reads
  -- its durability is the least of the inputs below it
  pub least : IsLeastAt order m history memo.verified k memo.durability
  -- each read that has a rule has a memo
  pub covered : (q : K) → In q memo.reads → 0 < m.level q → (read : Memo K V) × Has q read
  -- a read that did not change since has the answer that it had, and one that did had another
  -- answer in between
  pub unchanged : (q : K) (read : Memo K V) → In q memo.reads → Has q read → read.changed ≤ memo.verified
      → Means (at order m history memo.verified) q read.answer
  pub witnessed : (q : K) (read : Memo K V) → In q memo.reads → Has q read → memo.verified < read.changed
      → Differs order m history memo.verified now q
  -- the keys of a ring are valid together: one that was verified earlier has the same answer, is as
  -- durable, and nothing so durable changed in between
  pub together : (ring : List K) → memo.answer ≡ Cycle ring → In k ring → (x : K) → In x ring
      → (other : Memo K V) × Has x other × ((memo.verified ≤ other.verified)
      ⊎ ((other.answer ≡ memo.answer) × (level memo.durability ≤ level other.durability)
      × Quiet history memo.durability other.verified memo.verified))

-- `Kept order m history now Has` is the invariant of the table
pub record Kept {K P V : Type 0} (order : K → K → Ordering) (m : Machine K P V) (history : List Sources) (now : ℕ)
    (Has : K → Memo K V → Type 0) : Type 0 where
  pub memos : (k : K) (memo : Memo K V) → Has k memo → KeptMemo order m history now Has k memo
