-- The memos that a call makes are right now: one that is marked by its reads, one that is
-- published, and those of a ring.
use Rattle.std.proofs.Common.{◌≡◌, ℕ, ◌+◌, ◌-◌, ◌⊎◌, ◌<◌, ◌≤◌, List, [], length, Option, Some, None, Bool, true, false, cond, refl, sym, ◌∙◌, ap, subst, inl, inr, arith}
use Rattle.std.specs.declared.cmp.Ordering.{Ordering}
use Rattle.std.specs.declared.cmp.Ordering.TheVariants.{Equal}
use Rattle.std.specs.Ordering.{is_eq}
use Rattle.std.specs.Cmp.{Equal-is, tied_itself}
use Rattle.std.proofs.lemmas.Option.{same_Some, slice_get-get_or}
use Rattle.std.proofs.lemmas.Bool.{cases_Bool}
use Rattle.pq_inputs.specs.declared.durability.Durability.{Durability}
use Rattle.pq_inputs.specs.Sources.{Sources}
use Rattle.pq_inputs.proofs.Histories.{same_since}
use Rattle.pq_rules.specs.declared.turn.Answer.TheVariants.{Value}
use Rattle.pq_rules.specs.Turns.{Instance, Machine}
use Rattle.pq_rules.specs.Relations.{Each, In}
use Rattle.pq_rules.specs.Value.{Means}
use Rattle.pq_rules.proofs.Rings.{Strict, each_in}
use Rattle.pq_rules.proofs.Characterisation.{means_input}
use Rattle.pq_rules.proofs.Weight.{Exact}
use Rattle.pq_memo.specs.Sound.{Memo, sources_at, at, file_at, HasReads}
use Rattle.pq_memo.specs.Kept.{IsLeastAt, Kept}
use Rattle.pq_memo.specs.Look.{FileChanged, IsUpToDate, HasChanged, IsStill, IsOnItsRing}
use Rattle.pq_memo.specs.Table.{HasIn}
use Rattle.pq_memo.specs.Writes.{Dated}
use Rattle.pq_memo.specs.aux.Durabilities.{HasDurability, IsLeastRead}
use Rattle.pq_memo.specs.aux.Written.{NewMemo, Written}
use Rattle.pq_memo.proofs.Runs.{Both, reads_mean, reads_still}
use Rattle.pq_memo.proofs.Still.{input_same}
use Rattle.pq_memo.proofs.Leasts as leasts
use Rattle.pq_memo.proofs.Leasts.{IsLeastOf}

-- the one new memo
abbrev pub Only : {K V : Type 0} → K → Memo K V → K → Memo K V → Type 0
Only k memo q n = (q ≡ k) × (n ≡ memo)

pub written_put : {K V : Type 0} (order : K → K → Ordering) → Exact order → (before after : K → Option (Memo K V)) (k : K) (memo : Memo K V)
    → ((q : K) → after q ≡ cond (is_eq (order k q)) (Some memo) (before q))
    → Written (HasIn before) (HasIn after) (Only k memo)
written_put {K} {V} order exact before after k memo puts = record {
  after = λ q n h. elim (cases_Bool (is_eq (order k q))) [
    | inl is ↦ (let same : k ≡ q = exact.exact k q ((Equal-is (order k q)).0 is) in
        let there : after q ≡ Some memo = puts q ∙ ap (λ (b : Bool). cond b (Some memo) (before q)) is in
        inl (sym same, same_Some n memo (sym h ∙ there)))
    | inr other ↦ (let there : after q ≡ before q = puts q ∙ ap (λ (b : Bool). cond b (Some memo) (before q)) other in
        inr ((λ o new. differs q other new.0), sym there ∙ h))
  ];
  news = λ q n new. (let tied : order k q ≡ Equal = subst (λ (x : K). order k x ≡ Equal) (sym new.0) (tied_itself exact.total k) in
      puts q ∙ ap (λ (b : Bool). cond b (Some memo) (before q)) ((Equal-is (order k q)).1 tied) ∙ ap (λ (x : Memo K V). Some x) (sym new.1));
  others = λ q n h not_new. elim (cases_Bool (is_eq (order k q))) [
    | inl is ↦ absurd (not_new memo (sym (exact.exact k q ((Equal-is (order k q)).0 is)), refl))
    | inr other ↦ puts q ∙ ap (λ (b : Bool). cond b (Some memo) (before q)) other ∙ h
  ];
  decide = λ q. elim (cases_Bool (is_eq (order k q))) [
    | inl is ↦ inl (memo, (sym (exact.exact k q ((Equal-is (order k q)).0 is)), refl))
    | inr other ↦ inr (λ n new. differs q other new.0)
  ];
}
  where
    differs : (q : K) → is_eq (order k q) ≡ false → q ≡ k → ⊥
    differs q other same =
        let tied : order k q ≡ Equal = subst (λ (x : K). order k x ≡ Equal) (sym same) (tied_itself exact.total k) in
        let is : is_eq (order k q) ≡ true = (Equal-is (order k q)).1 tied in
        cc

module _ {K P V : Type 0} (order : K → K → Ordering) (strict : Strict order) (m : Machine K P V) (history : List Sources) (now : ℕ)
    (table : K → Option (Memo K V)) (kept : Kept order m history now (HasIn table)) where
  abbrev then_ : ℕ → Instance K P V
  then_ = at order m history

  abbrev now_files : Sources
  now_files = sources_at history now

  -- a memo that was verified now is right now
  pub now_right : (q : K) (r : Memo K V) → HasIn table q r → r.verified ≡ now → Means (then_ now) q r.answer
  now_right q r h v =
      let o = kept.memos q r h in
      subst (λ (i : ℕ). Means (then_ i) q r.answer) v (reads_mean (then_ r.verified) strict q r.answer r.reads o.ruled o.reads)

  -- the durability of a read that is up to date is the least below it now
  pub now_least : (q : K) (e : Durability) → IsUpToDate m now (HasIn table) q → HasDurability m now_files (HasIn table) q e
      → IsLeastAt order m history now q e
  now_least q e (inl low) (inl d) =
      subst (λ (x : Durability). IsLeastAt order m history now q x) d.1 (leasts.least_of_input (then_ now) strict m now_files q low)
  now_least q e (inl low) (inr d) =
      let up : 0 < m.level q = (kept.memos q d.0 d.1).ruled in let low_ : m.level q ≡ 0 = low in absurd (omega arith)
  now_least q e (inr u) (inl d) =
      let up : 0 < m.level q = (kept.memos q u.0 u.1).ruled in let low_ : m.level q ≡ 0 = d.0 in absurd (omega arith)
  now_least q e (inr u) (inr d) =
      let same : u.0 ≡ d.0 = same_Some u.0 d.0 (sym u.1 ∙ d.1) in
      let v : d.0.verified ≡ now = ap (λ (x : Memo K V). x.verified) (sym same) ∙ u.2 in
      subst (λ (x : Durability). IsLeastAt order m history now q x) d.2
      (subst (λ (r : ℕ). IsLeastAt order m history r q d.0.durability) v (kept.memos q d.0 d.1).least)

  pub least_among : (Among : K → Type 0) (d : Durability) → ((q : K) → Among q → IsUpToDate m now (HasIn table) q)
      → IsLeastRead m now_files (HasIn table) Among d → IsLeastOf (then_ now) strict m now_files Among d
  least_among Among d up least = record {
    lower = λ q a. (let e = least.lower q a in (e.0, now_least q e.0 (up q a) e.1, e.2));
    attained = elim least.attained [
      | inl high ↦ inl high
      | inr q ↦ inr (q.0, q.1, now_least q.0 d (up q.0 q.1) q.2)
    ];
  }

  -- a memo whose reads are up to date and whose answer is no ring with its key on it
  pub made : (After New : K → Memo K V → Type 0) (written : Written (HasIn table) After New)
      → ((q : K) (n : Memo K V) → New q n → (0 < m.level q) × Means (then_ now) q n.answer)
      → (k : K) (memo : Memo K V) → 0 < m.level k → memo.verified ≡ now → Dated now (HasIn table) k memo
      → HasReads (then_ now) k memo.answer memo.reads
      → ((q : K) → In q memo.reads → IsUpToDate m now (HasIn table) q)
      → (IsOnItsRing k memo → ⊥)
      → IsLeastRead m now_files (HasIn table) (λ q. In q memo.reads) memo.durability
      → NewMemo order m history now (HasIn table) After k memo
  made After New written news k memo ruled verified dated reads up off least = record {
    ruled = ruled;
    verified = verified;
    dated = dated;
    reads = reads;
    least = leasts.least_of_reads (then_ now) strict m now_files k memo.answer memo.reads memo.durability ruled reads
        (least_among (λ q. In q memo.reads) memo.durability up least);
    covered = λ q i high. elim (written.decide q) [
      | inl n ↦ (n.0, written.news q n.0 n.1)
      | inr none ↦ elim (up q i) [
        | inl low ↦ (let low_ : m.level q ≡ 0 = low in absurd (omega arith))
        | inr r ↦ (r.0, written.others q r.0 r.1 none)
      ]
    ];
    right = λ q read i a. elim (written.after q read a) [
      | inl n ↦ (news q read n).1
      | inr h ↦ elim (up q i) [
        | inl low ↦ (let low_ : m.level q ≡ 0 = low in let high : 0 < m.level q = (kept.memos q read h.1).ruled in absurd (omega arith))
        | inr r ↦ (let same : r.0 ≡ read = same_Some r.0 read (sym r.1 ∙ h.1) in
            now_right q read h.1 (ap (λ (x : Memo K V). x.verified) (sym same) ∙ r.2))
      ]
    ];
    together = λ ring e i x j. absurd (off (ring, e, i));
  }

  -- a read that is up to date and did not change after the revision has one answer at both
  pub still_both : (files : Sources) → length history ≡ now + 1 → (since : ℕ) → since ≤ now
      → (k : K) (memo : Memo K V) → HasIn table k memo → memo.verified ≡ since
      → (q : K) → In q memo.reads → IsStill m history now (HasIn table) since q → Both (then_ since) (then_ now) q
  still_both files counted since le k memo has v q i still =
      by still.up_to_date still.revision still.changed still.not_after
    where
      same_file : (f : Option (List ℕ)) (r : ℕ) → FileChanged history f r → r ≤ since
          → file_at (sources_at history since) f ≡ file_at (sources_at history now) f
      same_file None r c w = refl
      same_file (Some name) r c w =
          same_since history now (sources_at history now) name r counted (slice_get-get_or history now [] (omega arith)) c
          (now - since) since (sources_at history since) (omega arith) w (slice_get-get_or history since [] (omega arith))

      by : IsUpToDate m now (HasIn table) q → (r : ℕ) → HasChanged m history (HasIn table) q r → r ≤ since → Both (then_ since) (then_ now) q
      by (inl low) r (inl c) w =
          let value = (then_ now).input q in (
            Value value,
            means_input (then_ since) q value low (sym (input_same order m (sources_at history since) (sources_at history now) q (same_file (m.file q) r c.1 w))),
            means_input (then_ now) q value low refl,
          )
      by (inl low) r (inr c) w =
          let up : 0 < m.level q = (kept.memos q c.0 c.1).ruled in let low_ : m.level q ≡ 0 = low in absurd (omega arith)
      by (inr u) r (inl c) w =
          let up : 0 < m.level q = (kept.memos q u.0 u.1).ruled in let low_ : m.level q ≡ 0 = c.0 in absurd (omega arith)
      by (inr u) r (inr c) w =
          let same : u.0 ≡ c.0 = same_Some u.0 c.0 (sym u.1 ∙ c.1) in
          let fresh : c.0.verified ≡ now = ap (λ (x : Memo K V). x.verified) (sym same) ∙ u.2 in
          let when : c.0.changed ≡ r = c.2 in (
            c.0.answer,
            subst (λ (i : ℕ). Means (then_ i) q c.0.answer) v ((kept.memos k memo has).unchanged q c.0 i c.1 (let e : memo.verified ≡ since = v in omega arith)),
            now_right q c.0 c.1 fresh,
          )

  -- a memo that its reads confirm, verified now
  pub made_by_reads : length history ≡ now + 1 → (After : K → Memo K V → Type 0) (k : K) (memo : Memo K V) (d : Durability)
      → HasIn table k memo → (IsOnItsRing k memo → ⊥)
      → Each (IsStill m history now (HasIn table) memo.verified) memo.reads
      → IsLeastRead m now_files (HasIn table) (λ q. In q memo.reads) d
      → Written (HasIn table) After (Only k (record memo { verified = now; durability = d }))
      → (q : K) (n : Memo K V) → Only k (record memo { verified = now; durability = d }) q n → NewMemo order m history now (HasIn table) After q n
  made_by_reads counted After k memo d has off still least written q n new =
      let o = kept.memos k memo has in
      let fresh : Memo K V = record memo { verified = now; durability = d } in
      let is_still : (x : K) → In x memo.reads → IsStill m history now (HasIn table) memo.verified x =
      λ x i. each_in (IsStill m history now (HasIn table) memo.verified) x memo.reads still i in
      let reads : HasReads (then_ now) k memo.answer memo.reads =
      reads_still order m (sources_at history memo.verified) now_files strict k memo.answer memo.reads o.reads
      (λ x i. still_both now_files counted memo.verified o.in_order.1 k memo has refl x i (is_still x i)) in
      let means = reads_mean (then_ now) strict k memo.answer memo.reads o.ruled reads in
      let right : NewMemo order m history now (HasIn table) After k fresh =
      made After (Only k fresh) written
      (λ x y w. (
        subst (λ (z : K). 0 < m.level z) (sym w.0) o.ruled,
        subst (λ (z : K). Means (then_ now) z y.answer) (sym w.0) (subst (λ (z : Memo K V). Means (then_ now) k z.answer) (sym w.1) means),
      ))
      k fresh o.ruled refl (inl (memo, has, refl, refl)) reads (λ x i. (is_still x i).up_to_date) off least in
      subst (λ (x : K). NewMemo order m history now (HasIn table) After x n) (sym new.0)
      (subst (λ (x : Memo K V). NewMemo order m history now (HasIn table) After k x) (sym new.1) right)

  -- a memo that is published
  pub made_published : (After : K → Memo K V → Type 0) (k : K) (memo : Memo K V)
      → 0 < m.level k → memo.verified ≡ now → Dated now (HasIn table) k memo
      → HasReads (then_ now) k memo.answer memo.reads
      → ((q : K) → In q memo.reads → IsUpToDate m now (HasIn table) q)
      → (IsOnItsRing k memo → ⊥)
      → IsLeastRead m now_files (HasIn table) (λ q. In q memo.reads) memo.durability
      → Written (HasIn table) After (Only k memo)
      → (q : K) (n : Memo K V) → Only k memo q n → NewMemo order m history now (HasIn table) After q n
  made_published After k memo ruled verified dated reads up off least written q n new =
      let means = reads_mean (then_ now) strict k memo.answer memo.reads ruled reads in
      let right : NewMemo order m history now (HasIn table) After k memo =
      made After (Only k memo) written
      (λ x y w. (
        subst (λ (z : K). 0 < m.level z) (sym w.0) ruled,
        subst (λ (z : K). Means (then_ now) z y.answer) (sym w.0) (subst (λ (z : Memo K V). Means (then_ now) k z.answer) (sym w.1) means),
      ))
      k memo ruled verified dated reads up off least in
      subst (λ (x : K). NewMemo order m history now (HasIn table) After x n) (sym new.0)
      (subst (λ (x : Memo K V). NewMemo order m history now (HasIn table) After k x) (sym new.1) right)

pub either_lt : (a b : ℕ) → (a < b) ⊎ (b ≤ a)
either_lt a b = grind arith
