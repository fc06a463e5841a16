-- The memos of a ring's keys, written together, are right now.
use Rattle.std.proofs.Common.{◌≡◌, ℕ, ◌⊎◌, ◌<◌, List, [], ◌∷◌, Option, sym, ◌∙◌, ap, subst, inl, inr, arith}
use Rattle.std.specs.declared.cmp.Ordering.{Ordering}
use Rattle.pq_inputs.specs.declared.durability.Durability.{Durability}
use Rattle.pq_inputs.specs.Sources.{Sources}
use Rattle.pq_rules.specs.declared.turn.Answer.{Answer}
use Rattle.pq_rules.specs.declared.turn.Answer.TheVariants.{Cycle}
use Rattle.pq_rules.specs.Turns.{Instance, Machine}
use Rattle.pq_rules.specs.Relations.{In}
use Rattle.pq_rules.specs.Value.{Means}
use Rattle.pq_rules.proofs.Rings.{Strict}
use Rattle.pq_rules.specs.aux.Lists.{in_append}
use Rattle.std.proofs.lemmas.Option.{same_Some}
use Rattle.pq_memo.specs.Sound.{Memo, sources_at, at, HasReads, asked_keys}
use Rattle.pq_memo.specs.Kept.{IsLeastAt, Kept}
use Rattle.pq_memo.specs.Look.{IsUpToDate}
use Rattle.pq_memo.specs.Table.{HasIn}
use Rattle.pq_memo.specs.Writes.{ring_keys, RingWritten}
use Rattle.pq_memo.specs.aux.Durabilities.{IsLeastRead, IsFrontRead}
use Rattle.pq_memo.specs.aux.Written.{NewMemo, Written}
use Rattle.pq_memo.proofs.Runs.{reads_mean}
use Rattle.pq_memo.proofs.Marks.{on_ring, OnRing}
use Rattle.pq_memo.proofs.Leasts as leasts
use Rattle.pq_memo.proofs.Makes as makes

-- the entry of a key of the ring
pub entry_of : {K : Type 0} (entries : List (K × List K)) (x : K) → In x (ring_keys entries) → (reads : List K) × In (x, reads) entries
entry_of [] x i = absurd i
entry_of {K} ((k, r) ∷ es) x (inl e) = (r, inl (ap (λ (y : K). (y, r)) e))
entry_of (e ∷ es) x (inr i) = let t = entry_of es x i in (t.0, inr t.1)

pub key_in : {K : Type 0} (entries : List (K × List K)) (x : K) (reads : List K) → In (x, reads) entries → In x (ring_keys entries)
key_in [] x reads i = absurd i
key_in {K} (e ∷ es) x reads (inl s) = inl (ap (λ (y : K × List K). y.0) s)
key_in (e ∷ es) x reads (inr i) = inr (key_in es x reads i)

module _ {K P V : Type 0} (order : K → K → Ordering) (strict : Strict order) (m : Machine K P V) (history : List Sources) (now : ℕ)
    (table : K → Option (Memo K V)) (kept : Kept order m history now (HasIn table)) (After : K → Memo K V → Type 0)
    (entries : List (K × List K)) (d : Durability) (written : RingWritten now (HasIn table) After entries d)
    (first : K) (first_in : In first (ring_keys entries))
    (ruled : (x : K) → In x (ring_keys entries) → 0 < m.level x)
    (decide_in : (q : K) → In q (ring_keys entries) ⊎ (In q (ring_keys entries) → ⊥))
    (reads_now : (x : K) (reads : List K) → In (x, reads) entries → HasReads (at order m history now) x (Cycle (ring_keys entries)) reads)
    (up : (q : K) → IsFrontRead entries q → IsUpToDate m now (HasIn table) q)
    (least : IsLeastRead m (sources_at history now) (HasIn table) (IsFrontRead entries) d) where
  abbrev ring : List K
  ring = ring_keys entries

  abbrev s : Instance K P V
  s = at order m history now

  -- the memos of the ring
  abbrev pub Fresh : K → Memo K V → Type 0
  Fresh q n = In q ring × After q n

  means : (x : K) → In x ring → Means s x (Cycle ring)
  means x i = let e = entry_of entries x i in reads_mean s strict x (Cycle ring) e.0 (ruled x i) (reads_now x e.0 e.1)

  on : OnRing s ring
  on = on_ring s strict first ring (ruled first first_in) (means first first_in) first_in

  pub ring_written : Written (HasIn table) After Fresh
  ring_written = record {
    after = λ q n a. elim (decide_in q) [
      | inl i ↦ inl (i, a)
      | inr out ↦ inr ((λ o f. out f.0), written.from q n out a)
    ];
    news = λ q n f. f.1;
    others = λ q n h none. elim (decide_in q) [
      | inl i ↦ (let e = entry_of entries q i in let w = written.news q e.0 e.1 in absurd (none w.0 (i, w.1)))
      | inr out ↦ written.to q n out h
    ];
    decide = λ q. elim (decide_in q) [
      | inl i ↦ (let e = entry_of entries q i in let w = written.news q e.0 e.1 in inl (w.0, (i, w.1)))
      | inr out ↦ inr (λ n f. out f.0)
    ];
  }

  ring_least : (x : K) → In x ring → IsLeastAt order m history now x d
  ring_least x i =
      leasts.least_of_ring s strict m (sources_at history now) ring on d
      (leasts.least_of_entries s strict m (sources_at history now) ring on (λ x reads. In (x, reads) entries) d
      (λ x reads j. (key_in entries x reads j, reads_now x reads j))
      (λ x j. entry_of entries x j)
      (makes.least_among order strict m history now table kept (IsFrontRead entries) d up least)) x i

  pub ring_made : (k : K) (memo : Memo K V) → Fresh k memo → NewMemo order m history now (HasIn table) After k memo
  ring_made k memo f =
      let e = entry_of entries k f.0 in
      let w = written.news k e.0 e.1 in
      let right : NewMemo order m history now (HasIn table) After k w.0 = record {
        ruled = ruled k f.0;
        verified = w.4;
        dated = w.6;
        reads = subst (λ (a : Answer K V). HasReads s k a w.0.reads) (sym w.2)
            (subst (λ (r : List K). HasReads s k (Cycle ring) r) (sym w.3) (reads_now k e.0 e.1));
        least = subst (λ (x : Durability). IsLeastAt order m history now k x) (sym w.5) (ring_least k f.0);
        covered = λ q i high. elim (read_case k e.0 f.0 e.1 q (subst (λ (r : List K). In q r) w.3 i)) [
          | inl j ↦ (let x = entry_of entries q j in let n = written.news q x.0 x.1 in (n.0, n.1))
          | inr front ↦ elim (decide_in q) [
            | inl j ↦ (let x = entry_of entries q j in let n = written.news q x.0 x.1 in (n.0, n.1))
            | inr out ↦ elim (up q front) [
              | inl low ↦ (let low_ : m.level q ≡ 0 = low in absurd (omega arith))
              | inr r ↦ (r.0, written.to q r.0 out r.1)
            ]
          ]
        ];
        right = λ q read i a. elim (decide_in q) [
          | inl j ↦ (let x = entry_of entries q j in let n = written.news q x.0 x.1 in
              let same : read ≡ n.0 = written.one q read n.0 a n.1 in
              subst (λ (y : Answer K V). Means s q y) (sym n.2 ∙ ap (λ (y : Memo K V). y.answer) (sym same)) (means q j))
          | inr out ↦ elim (read_case k e.0 f.0 e.1 q (subst (λ (r : List K). In q r) w.3 i)) [
            | inl j ↦ absurd (out j)
            | inr front ↦ (let h = written.from q read out a in elim (up q front) [
              | inl low ↦ (let low_ : m.level q ≡ 0 = low in let high : 0 < m.level q = (kept.memos q read h).ruled in absurd (omega arith))
              | inr r ↦ (let same : r.0 ≡ read = same_Some r.0 read (sym r.1 ∙ h) in
                  makes.now_right order strict m history now table kept q read h (ap (λ (x : Memo K V). x.verified) (sym same) ∙ r.2))
            ])
          ]
        ];
        together = λ r a i x j.
            let one : Cycle r ≡ Cycle ring = sym a ∙ w.2 in
            let same : r ≡ ring = cc in
            let y = entry_of entries x (subst (λ (ks : List K). In x ks) same j) in
            let n = written.news x y.0 y.1 in
            (n.0, n.1, inl (let v : n.0.verified ≡ now = n.4 in omega arith));
      } in
      subst (λ (x : Memo K V). NewMemo order m history now (HasIn table) After k x) (written.one k w.0 memo w.1 f.1) right
    where
      read_case : (x : K) (reads : List K) → In x ring → In (x, reads) entries → (q : K) → In q reads → In q ring ⊎ IsFrontRead entries q
      read_case x reads i j q there =
          let n = leasts.ring_reads s strict m (sources_at history now) ring on x reads i (reads_now x reads j) in
          elim (in_append q (asked_keys n.run) (n.next ∷ []) (subst (λ (ks : List K). In q ks) n.whole there)) [
            | inl f ↦ inr (x, reads, j, (asked_keys n.run, n.next, n.whole, f))
            | inr (inl e) ↦ inl (subst (λ (y : K). In y ring) (sym e) n.round)
            | inr (inr z) ↦ absurd z
          ]
