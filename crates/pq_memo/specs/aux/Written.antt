-- Auxiliary: memos that are written into a table, and those of a ring before they are.
use Rattle.std.specs.Prelude.{ℕ, ◌≡◌, ◌⊎◌, ◌<◌, ◌≤◌, List, [], ◌∷◌, Option, Some, IsSome, cond, Bool, IsTrue, ◌↔◌}
use Rattle.std.specs.Map.{lookup}
use Rattle.std.specs.BTreeMap.{is_at}
use Rattle.std.specs.Ordering.{is_eq}
use Rattle.std.specs.declared.cmp.Ordering.{Ordering}
use Rattle.pq_inputs.specs.declared.durability.Durability.{Durability}
use Rattle.pq_inputs.specs.Sources.{Sources}
use Rattle.pq_inputs.specs.Changes.{level}
use Rattle.pq_rules.specs.declared.turn.Answer.{Answer}
use Rattle.pq_rules.specs.declared.turn.Answer.TheVariants.{Cycle}
use Rattle.pq_rules.specs.Turns.{Machine}
use Rattle.pq_rules.specs.Relations.{In}
use Rattle.pq_rules.specs.Value.{Means}
use Rattle.pq_memo.specs.Sound.{Memo, at, HasReads}
use Rattle.pq_memo.specs.Kept.{Quiet, IsLeastAt}
use Rattle.pq_memo.specs.Writes.{Dated, IsDated}

-- `NewMemo order m history now Has After k memo` is what holds of `memo`, which is written for `k`
-- into the table `Has` and makes it `After`
pub record NewMemo {K P V : Type 0} (order : K → K → Ordering) (m : Machine K P V) (history : List Sources) (now : ℕ)
    (Has After : K → Memo K V → Type 0) (k : K) (memo : Memo K V) : Type 0 where
  pub ruled : 0 < m.level k
  pub verified : memo.verified ≡ now
  pub dated : Dated now Has k memo
  pub reads : HasReads (at order m history now) k memo.answer memo.reads
  pub least : IsLeastAt order m history now k memo.durability
  pub covered : (q : K) → In q memo.reads → 0 < m.level q → (read : Memo K V) × After q read
  -- the memo of each read is right now
  pub right : (q : K) (read : Memo K V) → In q memo.reads → After q read → Means (at order m history now) q read.answer
  pub together : (ring : List K) → memo.answer ≡ Cycle ring → In k ring → (x : K) → In x ring
      → (other : Memo K V) × After x other × ((now ≤ other.verified)
      ⊎ ((other.answer ≡ memo.answer) × (level memo.durability ≤ level other.durability)
      × Quiet history memo.durability other.verified now))

-- `Written Has After New` is that the table `After` has the memos of `New`, and of every other key
-- the memo of the table `Has`
pub record Written {K V : Type 0} (Has After New : K → Memo K V → Type 0) : Type 0 where
  pub after : (k : K) (memo : Memo K V) → After k memo → New k memo ⊎ (((other : Memo K V) → New k other → ⊥) × Has k memo)
  pub news : (k : K) (memo : Memo K V) → New k memo → After k memo
  pub others : (k : K) (memo : Memo K V) → Has k memo → ((other : Memo K V) → New k other → ⊥) → After k memo
  pub decide : (k : K) → ((memo : Memo K V) × New k memo) ⊎ ((memo : Memo K V) → New k memo → ⊥)

-- `put order e table` is `table` with the memo `e.1` of the key `e.0`
abbrev pub put : {K V : Type 0} → (K → K → Ordering) → K × Memo K V → (K → Option (Memo K V)) → K → Option (Memo K V)
put order e table q = cond (is_eq (order e.0 q)) (Some e.1) (table q)

-- `put_back order es table` is `table` with all of `es`, the last first
unfoldable pub put_back : {K V : Type 0} → (K → K → Ordering) → List (K × Memo K V) → (K → Option (Memo K V)) → K → Option (Memo K V)
put_back order [] table q = table q
put_back order (e ∷ es) table q = put order e (put_back order es table) q

-- `memo_keys es` is the keys of `es`
abbrev pub memo_keys : {K V : Type 0} → List (K × Memo K V) → List K
memo_keys [] = []
memo_keys (e ∷ es) = e.0 ∷ memo_keys es

-- `HasRoom order places k` is that `k` has a place
abbrev pub HasRoom : {K V : Type 0} → (K → K → Ordering) → List (K × Option (Memo K V)) → K → Type 0
HasRoom order places k = IsSome (lookup (is_at (order k)) places)

-- `memo_of now durability member p` is the memo of `member`, a key with its reads, with the answer
-- `p.0` and its changed revision `p.1`
abbrev pub memo_of : {K V : Type 0} → ℕ → Durability → K × List K → Answer K V × ℕ → K × Memo K V
memo_of now durability member p =
    (member.0, record { answer = p.0; verified = now; changed = p.1; reads = member.1; durability = durability })

-- `memos_of now durability members ps` is the memos of `members`, with the answers and changed
-- revisions of `ps`
abbrev pub memos_of : {K V : Type 0} → ℕ → Durability → List (K × List K) → List (Answer K V × ℕ) → List (K × Memo K V)
memos_of now durability [] ps = []
memos_of now durability (e ∷ es) [] = []
memos_of now durability (e ∷ es) (p ∷ ps) = memo_of now durability e p ∷ memos_of now durability es ps

-- `IsCompared Has k answer test` is that `test` is whether the memo that the table has of `k`, if it
-- has one, has the answer `answer`
abbrev pub IsCompared : {K V : Type 0} → (K → Memo K V → Type 0) → K → Answer K V → Bool → Type 0
IsCompared {K} {V} Has k answer test = (old : Memo K V) → Has k old → IsTrue test ↔ (old.answer ≡ answer)

-- `IsPrepared now Has answer k p` is that `p` is `answer` and the changed revision of it for `k`
pub record IsPrepared {K V : Type 0} (now : ℕ) (Has : K → Memo K V → Type 0) (answer : Answer K V) (k : K) (p : Answer K V × ℕ) : Type 0 where
  pub answer_is : p.0 ≡ answer
  pub dated : IsDated now Has k answer p.1

-- `ArePrepared now Has answer members ps` is that `ps` has, for the key of each of `members`,
-- `answer` and the changed revision of it
abbrev pub ArePrepared : {K V : Type 0} → ℕ → (K → Memo K V → Type 0) → Answer K V → List (K × List K) → List (Answer K V × ℕ) → Type 0
ArePrepared now Has answer [] [] = Unit {0}
ArePrepared now Has answer [] (p ∷ ps) = ⊥
ArePrepared now Has answer (e ∷ es) [] = ⊥
ArePrepared now Has answer (e ∷ es) (p ∷ ps) = IsPrepared now Has answer e.0 p × ArePrepared now Has answer es ps

-- `AllHaveRoom order places members` is that the key of each of `members` has a place
abbrev pub AllHaveRoom : {K V : Type 0} → (K → K → Ordering) → List (K × Option (Memo K V)) → List (K × List K) → Type 0
AllHaveRoom order places [] = Unit {0}
AllHaveRoom order places (e ∷ es) = HasRoom order places e.0 × AllHaveRoom order places es
