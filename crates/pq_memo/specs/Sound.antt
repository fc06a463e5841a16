-- A sound table of memos: each memo's answer is right at the revision at which it was verified and
-- at the one at which it last changed, its reads are those of its rule, and its durability promises
-- no more than the inputs below it keep.
-- (The Salsa book, "The red-green algorithm", "Durability".)
--
-- A table is given by a relation `Has`: `Has k memo` says that the table has `memo` of the key `k`.
-- `order` is the order of the keys, `m` the rule set, `history` the sources at each revision, and
-- `now` the last revision.
use Rattle.std.specs.Prelude.{ℕ, ◌≡◌, ◌<◌, ◌≤◌, List, [], ◌∷◌, ◌++◌, Option, Some, None, slice_index_or}
use Rattle.std.specs.declared.cmp.Ordering.{Ordering}
use Rattle.pq_inputs.specs.declared.durability.Durability.{Durability}
use Rattle.pq_inputs.specs.Sources.{File, Sources, never_set, file_in}
use Rattle.pq_inputs.specs.Changes.{level}
use Rattle.pq_rules.specs.declared.turn.Turn.TheVariants.{Ask, Done}
use Rattle.pq_rules.specs.declared.turn.Answer.{Answer}
use Rattle.pq_rules.specs.declared.turn.Answer.TheVariants.{Value, Cycle}
use Rattle.pq_rules.specs.Turns.{Instance, Machine, over}
use Rattle.pq_rules.specs.Relations.{In, Leads}
use Rattle.pq_rules.specs.Value.{Trace, Means, ComesBy, ComesTo}

-- `Memo K V` is what the table keeps of a key: its answer, the revision at which it was last
-- verified, the one at which the answer last changed, what the rule read, in order, and the
-- durability of what the answer depends on
pub record Memo (K V : Type 0) : Type 0 where
  pub answer : Answer K V
  pub verified : ℕ
  pub changed : ℕ
  pub reads : List K
  pub durability : Durability

-- `sources_at history revision` is the sources at `revision`
abbrev pub sources_at : List Sources → ℕ → Sources
sources_at history revision = slice_index_or history revision []

-- `at order m history revision` is the rule set `m` over the sources at `revision`
abbrev pub at : {K P V : Type 0} → (K → K → Ordering) → Machine K P V → List Sources → ℕ → Instance K P V
at order m history revision = over order m (sources_at history revision)

-- `file_at files name` is what the sources `files` have of the file `name`; without a name, a file
-- that was never set
abbrev pub file_at : Sources → Option (List ℕ) → File
file_at files None = never_set
file_at files (Some name) = file_in files name

-- `asked_keys es` is the keys that were asked in the reads `es`, in order
abbrev pub asked_keys : {K V : Type 0} → Trace K V → List K
asked_keys [] = []
asked_keys (e ∷ es) = e.0 ∷ asked_keys es

-- `AsksAt s k q` is that `k` has a rule, which comes, by right reads, to ask `q`
pub record AsksAt {K P V : Type 0} (s : Instance K P V) (k q : K) : Type 0 where
  pub ruled : 0 < s.level k
  pub part : P
  pub comes : ComesTo s k (Ask q part)

-- `HasReads s k answer reads` is that `reads` are the reads of the rule of `k` in order: to its
-- end, where `answer` is the value, or to the first key of its level whose answer is the cycle
-- `answer`
abbrev pub HasReads : {K P V : Type 0} → Instance K P V → K → Answer K V → List K → Type 0
HasReads {K} {P} {V} s k (Value v) reads = (es : Trace K V) × ComesBy s k es (Done v) × (reads ≡ asked_keys es)
HasReads {K} {P} {V} s k (Cycle ring) reads =
    (es : Trace K V) × (q : K) × (p : P) × ComesBy s k es (Ask q p) × (reads ≡ asked_keys es ++ q ∷ [])
    × (s.level q ≡ s.level k) × Means s q (Cycle ring)

-- `IsBelow s k x` is that the input `x` is below `k`: the questions of `k`, and theirs, lead to it
pub record IsBelow {K P V : Type 0} (s : Instance K P V) (k x : K) : Type 0 where
  pub input : s.level x ≡ 0
  pub leads : Leads (AsksAt s) k x

-- `SoundMemo order m history now Has k memo` is that `memo`, which the table has of `k`, is sound
pub record SoundMemo {K P V : Type 0} (order : K → K → Ordering) (m : Machine K P V) (history : List Sources) (now : ℕ)
    (Has : K → Memo K V → Type 0) (k : K) (memo : Memo K V) : Type 0 where
  pub in_order : (memo.changed ≤ memo.verified) × (memo.verified ≤ now)
  -- its answer is right at the revision at which it was verified, and at the one at which it
  -- changed
  pub verified : Means (at order m history memo.verified) k memo.answer
  pub changed : Means (at order m history memo.changed) k memo.answer
  pub reads : HasReads (at order m history memo.verified) k memo.answer memo.reads
  -- each input below it was at least as durable
  pub lasting : (x : K) → IsBelow (at order m history memo.verified) k x
      → level memo.durability ≤ level (file_at (sources_at history memo.verified) (m.file x)).durability
  -- a read that did not change since has the answer that it had
  pub unchanged : (q : K) (read : Memo K V) → In q memo.reads → Has q read → read.changed ≤ memo.verified
      → Means (at order m history memo.verified) q read.answer

-- `Sound order m history now Has` is that each memo of the table is sound
abbrev pub Sound : {K P V : Type 0} → (K → K → Ordering) → Machine K P V → List Sources → ℕ → (K → Memo K V → Type 0) → Type 0
Sound {K} {P} {V} order m history now Has = (k : K) (memo : Memo K V) → Has k memo → SoundMemo order m history now Has k memo
