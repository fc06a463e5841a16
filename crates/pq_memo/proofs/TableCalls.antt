-- What the calls that write keep, over the inputs and the places as contracts see them.
use Rattle.std.proofs.Common.{◌≡◌, ℕ, ◌+◌, ◌⊎◌, ◌<◌, List, [], ◌∷◌, ◌++◌, length, Result, Ok, Err, IfOk, OnOk, OnErr, slice_get, Option, Some, cond, refl, sym, ◌∙◌, ap, ap₂, subst, inl, inr, arith}
use Rattle.std.specs.declared.cmp.Ordering.{Ordering}
use Rattle.std.specs.Ordering.{is_eq}
use Rattle.std.specs.Option.{option_map}
use Rattle.pq_inputs.specs.declared.durability.Durability.{Durability}
use Rattle.pq_inputs.specs.Sources.{Sources, Table}
use Rattle.pq_rules.specs.declared.turn.Answer.{Answer}
use Rattle.pq_rules.specs.declared.turn.Answer.TheVariants.{Cycle}
use Rattle.pq_rules.specs.Turns.{Instance, Machine, over}
use Rattle.pq_rules.specs.Relations.{Each, In}
use Rattle.pq_rules.proofs.ListLemmas.{each_from}
use Rattle.pq_rules.proofs.Rings.{each_in}
use Rattle.pq_rules.proofs.Weight.{Exact}
use Rattle.pq_rules.proofs.Rings.{Strict}
use Rattle.pq_rules.proofs.Order.{strict}
use Rattle.pq_memo.proofs.DistinctRing.{ring_distinct}
use Rattle.pq_memo.proofs.Runs.{reads_mean}
use Rattle.pq_memo.specs.Sound.{Memo, sources_at, HasReads}
use Rattle.pq_memo.specs.Kept.{Kept}
use Rattle.pq_memo.specs.Look.{IsUpToDate, IsGreen, Lasts, HasLapsed}
use Rattle.pq_memo.specs.Table.{memo_at, HasIn, IsPut, IsSameTable, KeptOver, IsNext}
use Rattle.pq_memo.specs.Writes.{IsDated, ring_keys, fronts, RingWritten, IsMarked, IsPublished, remarked}
use Rattle.pq_memo.specs.aux.Durabilities.{IsKnown, IsLeastRead, IsFrontRead}
use Rattle.pq_memo.specs.aux.Written.{ArePrepared, memos_of, put_back}
use Rattle.pq_memo.proofs.Written.{kept_as, kept_edited}
use Rattle.pq_memo.proofs.Calls.{mark_kept, publish_kept}
use Rattle.pq_rules.specs.aux.Evaluator.{Distinct}
use Rattle.pq_memo.proofs.PutAll.{ring_kept, ring_is_written, put_back_as}
use Rattle.pq_memo.proofs.Reading.{now_files}

-- a table that is the same is kept
pub kept_same : {K P V : Type 0} (order : K → K → Ordering) (m : Machine K P V) (inputs : Table) (before after : List (K × Option (Memo K V)))
    → IsSameTable (memo_at order before) (memo_at order after) → KeptOver order m inputs before → KeptOver order m inputs after
kept_same order m inputs before after same kept =
    kept_as order m inputs.history inputs.revision (HasIn (memo_at order before)) (HasIn (memo_at order after))
    (λ k memo h. same k ∙ h) (λ k memo h. sym (same k) ∙ h) kept

-- a table stays kept over inputs that go on
pub kept_next : {K P V : Type 0} (order : K → K → Ordering) (m : Machine K P V) (before after : Table) (places : List (K × Option (Memo K V)))
    → IsNext before after → KeptOver order m before places → KeptOver order m after places
kept_next order m before after places next kept =
    subst (λ (r : ℕ). Kept order m after.history r (HasIn (memo_at order places))) (sym next.revision)
    (subst (λ (h : List Sources). Kept order m h (before.revision + 1) (HasIn (memo_at order places))) (sym next.history)
    (kept_edited order m before.history before.revision before.files after.files next.counted next.latest (HasIn (memo_at order places)) kept))

-- a call of `set`
pub set_kept : {K P V E : Type 0} (order : K → K → Ordering) (m : Machine K P V) (before after : Table) (places : List (K × Option (Memo K V)))
    (r : Result ℕ E) → length before.history ≡ before.revision + 1 → slice_get before.history before.revision ≡ Some before.files
    → IfOk r (λ v. (v ≡ before.revision + 1) × (after.revision ≡ v)) → OnOk r (after.history ≡ before.history ++ after.files ∷ [])
    → OnErr r (after ≡ before) → KeptOver order m before places → KeptOver order m after places
set_kept order m before after places (Ok v) counted latest revision history refused kept =
    kept_next order m before after places (record { counted = counted; latest = latest; revision = revision.1 ∙ revision.0; history = history }) kept
set_kept order m before after places (Err e) counted latest revision history refused kept =
    subst (λ (t : Table). KeptOver order m t places) (sym refused) kept

pub zero_or : (n : ℕ) → (n ≡ 0) ⊎ (0 < n)
zero_or n = grind arith

module _ {K P V : Type 0} (order : K → K → Ordering) (m : Machine K P V) (inputs : Table)
    (before : List (K × Option (Memo K V))) (kept : KeptOver order m inputs before) where
  abbrev had : K → Memo K V → Type 0
  had = HasIn (memo_at order before)

  -- each read of a memo is known
  pub known_reads : (k : K) (memo : Memo K V) → had k memo → Each (IsKnown m had) memo.reads
  known_reads k memo has = each_from (IsKnown m had) memo.reads
      (λ q i. elim (zero_or (m.level q)) [ inl low ↦ inl low | inr up ↦ inr ((kept.memos k memo has).covered q i up) ])

  -- what is up to date is known
  pub known_fresh : (reads : List K) → Each (IsUpToDate m inputs.revision had) reads → Each (IsKnown m had) reads
  known_fresh reads up = each_from (IsKnown m had) reads
      (λ q i. elim (each_in (IsUpToDate m inputs.revision had) q reads up i) [ inl low ↦ inl low | inr r ↦ inr (r.0, r.1) ])

  pub known_fronts : (entries : List (K × List K)) → Each (λ e. Each (IsUpToDate m inputs.revision had) (fronts e.1)) entries
      → Each (λ e. Each (IsKnown m had) (fronts e.1)) entries
  known_fronts [] up = tt
  known_fronts (e ∷ es) up = (known_fresh (fronts e.1) up.0, known_fronts es up.1)

-- the keys of a ring are distinct
entries_distinct : {K P V : Type 0} (s : Instance K P V) → Strict s.order → (entries : List (K × List K)) (ring : List K) → 0 < length entries
    → Each (λ e. 0 < s.level e.0) entries → Each (λ e. HasReads s e.0 (Cycle ring) e.1) entries → Distinct ring
entries_distinct s strict [] ring some ruled right = absurd (omega arith)
entries_distinct s strict (e ∷ es) ring some ruled right =
    ring_distinct s strict e.0 ring ruled.0 (reads_mean s strict e.0 (Cycle ring) e.1 ruled.0 right.0)

module _ {K P V : Type 0} (order : K → K → Ordering) (exact : Exact order) (m : Machine K P V) (inputs : Table)
    (counted : length inputs.history ≡ inputs.revision + 1) (latest : slice_get inputs.history inputs.revision ≡ Some inputs.files)
    (before : List (K × Option (Memo K V))) (kept : KeptOver order m inputs before) where
  abbrev Has : K → Memo K V → Type 0
  Has = HasIn (memo_at order before)

  files_now : sources_at inputs.history inputs.revision ≡ inputs.files
  files_now = now_files inputs.history inputs.revision inputs.files latest

  least_then : (Among : K → Type 0) (d : Durability) → IsLeastRead m inputs.files Has Among d → IsLeastRead m (sources_at inputs.history inputs.revision) Has Among d
  least_then Among d = subst (λ (s : Sources). IsLeastRead m s Has Among d) (sym files_now)

  module _ (after : List (K × Option (Memo K V))) where
    -- a call of `mark_verified`
    pub record Marked (k : K) : Type 0 where
      pub keeps : KeptOver order m inputs after
      pub marked : IsMarked order m inputs before k after

    pub mark_call : (k : K) (memo : Memo K V) (d : Durability) → Has k memo → IsGreen m inputs.history inputs.revision Has k
        → ((Lasts inputs.history memo) × (d ≡ memo.durability))
        ⊎ ((HasLapsed inputs.history memo) × IsLeastRead m inputs.files Has (λ q. In q memo.reads) d)
        → (r : ℕ) → r ≡ inputs.revision
        → ((q : K) → memo_at order after q ≡ cond (is_eq (order k q)) (option_map (λ (x : Memo K V). remarked x r d) (memo_at order before k)) (memo_at order before q))
        → Marked k
    mark_call k memo d has green which r now marks =
        let marked : (q : K) → memo_at order after q ≡ cond (is_eq (order k q)) (option_map (λ (x : Memo K V). remarked x inputs.revision d) (memo_at order before k)) (memo_at order before q) =
        subst (λ (i : ℕ). (q : K) → memo_at order after q ≡ cond (is_eq (order k q)) (option_map (λ (x : Memo K V). remarked x i d) (memo_at order before k)) (memo_at order before q)) now marks in
        let put : IsPut order (memo_at order before) k (remarked memo inputs.revision d) (memo_at order after) =
        λ q. marked q ∙ ap (λ (o : Option (Memo K V)). cond (is_eq (order k q)) (option_map (λ (x : Memo K V). remarked x inputs.revision d) o) (memo_at order before q)) has in
        let w = mark_kept order exact m inputs.history inputs.revision counted (memo_at order before) (memo_at order after) kept k memo d has green
        (elim which [ inl l ↦ inl l | inr l ↦ inr (l.0, least_then (λ q. In q memo.reads) d l.1) ]) put in
        record { keeps = w.kept; marked = record { memo = memo; has = has; durability = d; least = w.least; put = put } }

    -- a call of `publish`
    pub record Published (k : K) (answer : Answer K V) (reads : List K) : Type 0 where
      pub keeps : KeptOver order m inputs after
      pub published : IsPublished order m inputs before k answer reads after

    pub publish_call : (k : K) (answer shared : Answer K V) (reads ks : List K) (changed r : ℕ) (d : Durability) (memo : Memo K V)
        → shared ≡ answer → r ≡ inputs.revision → ks ≡ reads
        → memo ≡ record { answer = shared; verified = r; changed = changed; reads = reads; durability = d }
        → 0 < m.level k
        → HasReads (over order m inputs.files) k answer reads
        → Each (IsUpToDate m inputs.revision Has) reads
        → ((ring : List K) → answer ≡ Cycle ring → In k ring → ⊥)
        → IsDated r Has k answer changed
        → IsLeastRead m inputs.files Has (λ q. In q ks) d
        → IsPut order (memo_at order before) k memo (memo_at order after)
        → Published k answer reads
    publish_call k answer shared reads ks changed r d memo same now all made ruled right up off dates leasts put =
        let dated : IsDated inputs.revision Has k answer changed = subst (λ (i : ℕ). IsDated i Has k answer changed) now dates in
        let least : IsLeastRead m inputs.files Has (λ q. In q reads) d = subst (λ (l : List K). IsLeastRead m inputs.files Has (λ q. In q l) d) all leasts in
        let is : memo ≡ record { answer = answer; verified = inputs.revision; changed = changed; reads = reads; durability = d } =
        made ∙ ap₂ (λ (a : Answer K V) (i : ℕ). record { answer = a; verified = i; changed = changed; reads = reads; durability = d }) same now in
        let fresh : Memo K V = record { answer = answer; verified = inputs.revision; changed = changed; reads = reads; durability = d } in
        let put' : IsPut order (memo_at order before) k fresh (memo_at order after) =
        subst (λ (x : Memo K V). IsPut order (memo_at order before) k x (memo_at order after)) is put in
        let w = publish_kept order exact m inputs.history inputs.revision counted (memo_at order before) (memo_at order after) kept k fresh ruled refl dated
        (subst (λ (s : Sources). HasReads (over order m s) k answer reads) (sym files_now) right) up (λ o. off o.0 o.1 o.2)
        (least_then (λ q. In q reads) d least) put' in
        record { keeps = w.kept; published = record { changed = changed; dated = dated; durability = d; least = w.least; put = put' } }

    -- a call of `publish_ring`
    pub ring_call : (entries : List (K × List K)) (d : Durability) → RingWritten inputs.revision Has (HasIn (memo_at order after)) entries d
        → 0 < length entries
        → Each (λ e. 0 < m.level e.0) entries
        → Each (λ e. HasReads (over order m inputs.files) e.0 (Cycle (ring_keys entries)) e.1) entries
        → Each (λ e. Each (IsUpToDate m inputs.revision Has) (fronts e.1)) entries
        → IsLeastRead m inputs.files Has (IsFrontRead entries) d
        → KeptOver order m inputs after
    ring_call entries d written some ruled right up least =
        ring_kept order exact m inputs.history inputs.revision (memo_at order before) (memo_at order after) kept entries d written some ruled
        (subst (λ (s : Sources). Each (λ (e : K × List K). HasReads (over order m s) e.0 (Cycle (ring_keys entries)) e.1) entries) (sym files_now) right)
        up (least_then (IsFrontRead entries) d least)

    pub record RingCalled (entries : List (K × List K)) (d : Durability) : Type 0 where
      pub keeps : KeptOver order m inputs after
      pub written : RingWritten inputs.revision Has (HasIn (memo_at order after)) entries d

    pub ring_all : (entries : List (K × List K)) (d : Durability) (r : ℕ) (answer : Answer K V) (ps : List (Answer K V × ℕ)) (middle : List (K × Option (Memo K V)))
        → r ≡ inputs.revision → answer ≡ Cycle (ring_keys entries)
        → ArePrepared r Has answer entries ps
        → IsSameTable (memo_at order before) (memo_at order middle)
        → ((q : K) → memo_at order after q ≡ put_back order (memos_of r d entries ps) (memo_at order middle) q)
        → 0 < length entries
        → Each (λ e. 0 < m.level e.0) entries
        → Each (λ e. HasReads (over order m inputs.files) e.0 (Cycle (ring_keys entries)) e.1) entries
        → Each (λ e. Each (IsUpToDate m inputs.revision Has) (fronts e.1)) entries
        → IsLeastRead m inputs.files Has (IsFrontRead entries) d
        → RingCalled entries d
    ring_all entries d r answer ps middle now cycle prepared same put some ruled right up least =
        let dis : Distinct (ring_keys entries) = entries_distinct (over order m inputs.files) (strict order exact.total) entries (ring_keys entries) some ruled right in
        let written : RingWritten inputs.revision Has (HasIn (memo_at order after)) entries d =
        subst (λ (i : ℕ). RingWritten i Has (HasIn (memo_at order after)) entries d) now
        (ring_is_written order exact r (memo_at order before) answer d entries ps (memo_at order after) cycle dis prepared
        (λ q. put q ∙ put_back_as order (memo_at order before) (memo_at order middle) same (memos_of r d entries ps) q)) in
        record { keeps = ring_call entries d written some ruled right up least; written = written }
