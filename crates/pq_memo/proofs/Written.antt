-- A table stays kept where memos that are right now are written into it, and where the sources are
-- edited.
use Rattle.std.proofs.Common.{◌≡◌, ℕ, zero, suc, ◌+◌, ◌⊎◌, ◌<◌, ◌≤◌, List, [], ◌∷◌, ◌++◌, length, slice_get, Some, refl, sym, subst, inl, inr, arith, get_or}
use Rattle.std.specs.declared.cmp.Ordering.{Ordering}
use Rattle.pq_inputs.specs.declared.durability.Durability.{Durability}
use Rattle.pq_inputs.specs.Sources.{Sources}
use Rattle.pq_inputs.proofs.Histories.{changes_of_extended}
use Rattle.pq_rules.specs.declared.turn.Answer.{Answer}
use Rattle.pq_rules.specs.Turns.{Instance, Machine, over}
use Rattle.pq_rules.specs.Relations.{In}
use Rattle.pq_rules.specs.Value.{Means}
use Rattle.pq_rules.proofs.Rings.{Strict}
use Rattle.pq_memo.specs.Sound.{Memo, sources_at, at, file_at, HasReads, Sound}
use Rattle.pq_memo.specs.Kept.{Quiet, IsLeast, IsLeastAt, Differs, KeptMemo, Kept}
use Rattle.pq_memo.specs.aux.Written.{NewMemo, Written}
use Rattle.pq_memo.proofs.Runs.{reads_mean}

pub cases_le : (a b : ℕ) → (a ≤ b) ⊎ (b < a)
cases_le a b = grind arith

module _ {K P V : Type 0} (order : K → K → Ordering) (strict : Strict order) (m : Machine K P V) (history : List Sources) (now : ℕ)
    (Has After New : K → Memo K V → Type 0) (kept : Kept order m history now Has) (written : Written Has After New)
    (new : (k : K) (memo : Memo K V) → New k memo → NewMemo order m history now Has After k memo) where
  abbrev then_ : ℕ → Instance K P V
  then_ = at order m history

  new_means : (k : K) (memo : Memo K V) → New k memo → Means (then_ now) k memo.answer
  new_means k memo n = let w = new k memo n in reads_mean (then_ now) strict k memo.answer memo.reads w.ruled w.reads

  new_within : (k : K) (memo : Memo K V) → New k memo → memo.changed ≤ now
  new_within k memo n =
      elim (new k memo n).dated [
        | inl d ↦ (let o = (kept.memos k d.0 d.1).in_order in
            let a : d.0.changed ≤ d.0.verified = o.0 in let b : d.0.verified ≤ now = o.1 in
            let e : memo.changed ≡ d.0.changed = d.3 in omega arith)
        | inr d ↦ (let e : memo.changed ≡ now = d.0 in omega arith)
      ]

  after_within : (k : K) (memo : Memo K V) → After k memo → memo.changed ≤ now
  after_within k memo h =
      elim (written.after k memo h) [
        | inl n ↦ new_within k memo n
        | inr o ↦ (let w = (kept.memos k memo o.1).in_order in
            let a : memo.changed ≤ memo.verified = w.0 in let b : memo.verified ≤ now = w.1 in omega arith)
      ]

  new_changed : (k : K) (memo : Memo K V) → New k memo → Means (then_ memo.changed) k memo.answer
  new_changed k memo n =
      elim (new k memo n).dated [
        | inl d ↦ subst (λ (r : ℕ). Means (then_ r) k memo.answer) (sym d.3)
            (subst (λ (a : Answer K V). Means (then_ d.0.changed) k a) d.2 (kept.memos k d.0 d.1).changed)
        | inr d ↦ subst (λ (r : ℕ). Means (then_ r) k memo.answer) (sym d.0) (new_means k memo n)
      ]

  -- a memo that is written
  kept_new : (k : K) (memo : Memo K V) → New k memo → KeptMemo order m history now After k memo
  kept_new k memo n =
      let w = new k memo n in
      let v : memo.verified ≡ now = w.verified in
      let within : memo.changed ≤ now = new_within k memo n in
      record {
        ruled = w.ruled;
        in_order = (omega arith, omega arith);
        changed = new_changed k memo n;
        reads = subst (λ (r : ℕ). HasReads (then_ r) k memo.answer memo.reads) (sym v) w.reads;
        least = subst (λ (r : ℕ). IsLeastAt order m history r k memo.durability) (sym v) w.least;
        covered = w.covered;
        unchanged = λ q read i h le. subst (λ (r : ℕ). Means (then_ r) q read.answer) (sym v) (w.right q read i h);
        witnessed = λ q read i h late. (let l : read.changed ≤ now = after_within q read h in absurd (omega arith));
        together = λ ring e i x j.
            let t = w.together ring e i x j in (
              t.0,
              t.1,
              elim t.2 [
                | inl le ↦ inl (let a : now ≤ t.0.verified = le in omega arith)
                | inr s ↦ inr (s.0, s.1, subst (λ (r : ℕ). Quiet history memo.durability t.0.verified r) (sym v) s.2)
              ],
            );
      }

  old_unchanged : (k : K) (memo : Memo K V) → Has k memo → (q : K) (read : Memo K V) → In q memo.reads → New q read
      → read.changed ≤ memo.verified → Means (then_ memo.verified) q read.answer
  old_unchanged k memo h q read i n le =
      let o = kept.memos k memo h in
      elim (new q read n).dated [
        | inl d ↦ (let e : read.changed ≡ d.0.changed = d.3 in
            let le2 : d.0.changed ≤ memo.verified = omega arith in
            subst (λ (a : Answer K V). Means (then_ memo.verified) q a) d.2 (o.unchanged q d.0 i d.1 le2))
        | inr d ↦ (let e : read.changed ≡ now = d.0 in let b : memo.verified ≤ now = o.in_order.1 in
            let v : now ≡ memo.verified = omega arith in
            subst (λ (r : ℕ). Means (then_ r) q read.answer) v (new_means q read n))
      ]

  old_witnessed : (k : K) (memo : Memo K V) → Has k memo → (q : K) (read : Memo K V) → In q memo.reads → New q read
      → memo.verified < read.changed → Differs order m history memo.verified now q
  old_witnessed k memo h q read i n late =
      let o = kept.memos k memo h in
      elim (new q read n).dated [
        | inl d ↦ (let e : read.changed ≡ d.0.changed = d.3 in o.witnessed q d.0 i d.1 (omega arith))
        | inr d ↦
            (let e : read.changed ≡ now = d.0 in
            let c = o.covered q i (new q read n).ruled in
            elim (cases_le c.0.changed memo.verified) [
              | inl le ↦ record {
                revision = now;
                after = omega arith;
                within = omega arith;
                differs = inl (c.0.answer, read.answer, o.unchanged q c.0 i c.1 le, new_means q read n, d.1 c.0 c.1);
              }
              | inr lt ↦ o.witnessed q c.0 i c.1 lt
            ])
      ]

  -- a memo that stays
  kept_old : (k : K) (memo : Memo K V) → Has k memo → KeptMemo order m history now After k memo
  kept_old k memo h =
      let o = kept.memos k memo h in
      record {
        ruled = o.ruled;
        in_order = o.in_order;
        changed = o.changed;
        reads = o.reads;
        least = o.least;
        covered = λ q i up. elim (written.decide q) [
          | inl n ↦ (n.0, written.news q n.0 n.1)
          | inr none ↦ (let c = o.covered q i up in (c.0, written.others q c.0 c.1 none))
        ];
        unchanged = λ q read i a le. elim (written.after q read a) [
          | inl n ↦ old_unchanged k memo h q read i n le
          | inr x ↦ o.unchanged q read i x.1 le
        ];
        witnessed = λ q read i a late. elim (written.after q read a) [
          | inl n ↦ old_witnessed k memo h q read i n late
          | inr x ↦ o.witnessed q read i x.1 late
        ];
        together = λ ring e i x j. elim (written.decide x) [
          | inl n ↦ (
            n.0,
            written.news x n.0 n.1,
            inl (let v : n.0.verified ≡ now = (new x n.0 n.1).verified in
                let b : memo.verified ≤ now = o.in_order.1 in omega arith),
          )
          | inr none ↦ (let t = o.together ring e i x j in (t.0, written.others x t.0 t.1 none, t.2))
        ];
      }

  pub kept_written : Kept order m history now After
  kept_written = record {
    memos = λ k memo h. elim (written.after k memo h) [
      | inl n ↦ kept_new k memo n
      | inr o ↦ kept_old k memo o.1
    ];
  }

-- what is kept is sound
pub kept_sound : {K P V : Type 0} (order : K → K → Ordering) (strict : Strict order) (m : Machine K P V) (history : List Sources) (now : ℕ)
    (Has : K → Memo K V → Type 0) → Kept order m history now Has → Sound order m history now Has
kept_sound order strict m history now Has kept k memo h =
    let o = kept.memos k memo h in
    record {
      in_order = o.in_order;
      verified = reads_mean (at order m history memo.verified) strict k memo.answer memo.reads o.ruled o.reads;
      changed = o.changed;
      reads = o.reads;
      lasting = o.least.lasting;
      unchanged = o.unchanged;
    }

-- the same table, said in another way
pub kept_as : {K P V : Type 0} (order : K → K → Ordering) (m : Machine K P V) (history : List Sources) (now : ℕ)
    (Has As : K → Memo K V → Type 0) → ((k : K) (memo : Memo K V) → Has k memo → As k memo) → ((k : K) (memo : Memo K V) → As k memo → Has k memo)
    → Kept order m history now Has → Kept order m history now As
kept_as order m history now Has As to from kept = record {
  memos = λ k memo h.
      let o = kept.memos k memo (from k memo h) in
      record {
        ruled = o.ruled;
        in_order = o.in_order;
        changed = o.changed;
        reads = o.reads;
        least = o.least;
        covered = λ q i up. (let c = o.covered q i up in (c.0, to q c.0 c.1));
        unchanged = λ q read i a le. o.unchanged q read i (from q read a) le;
        witnessed = λ q read i a late. o.witnessed q read i (from q read a) late;
        together = λ ring e i x j. (let t = o.together ring e i x j in (t.0, to x t.0 t.1, t.2));
      };
}

get_before : {X : Type 0} (xs : List X) (y d : X) (i : ℕ) → i < length xs → get_or xs i d ≡ get_or (xs ++ y ∷ []) i d
get_before [] y d i h = absurd (omega arith)
get_before (x ∷ xs) y d zero h = refl
get_before (x ∷ xs) y d (suc i) h = get_before xs y d i (omega arith)

-- the sources are edited: one more revision
module _ {K P V : Type 0} (order : K → K → Ordering) (m : Machine K P V) (history : List Sources) (now : ℕ) (files next : Sources)
    (counted : length history ≡ now + 1) (latest : slice_get history now ≡ Some files)
    (Has : K → Memo K V → Type 0) (kept : Kept order m history now Has) where
  abbrev more : List Sources
  more = history ++ next ∷ []

  past : (Q : Sources → Type 0) (r : ℕ) → r ≤ now → Q (sources_at history r) → Q (sources_at more r)
  past Q r le = subst Q (get_before history next [] r (omega arith))

  still_quiet : (d : Durability) (since upto : ℕ) → upto ≤ now → Quiet history d since upto → Quiet more d since upto
  still_quiet d since upto le quiet before from under change =
      quiet before from under ((changes_of_extended history now files next counted latest d).no_more before (omega arith) change)

  still_differs : (since : ℕ) (q : K) → Differs order m history since now q → Differs order m more since (now + 1) q
  still_differs since q d =
      let within : d.revision ≤ now = d.within in
      let after : since < d.revision = d.after in
      record {
        revision = d.revision;
        after = d.after;
        within = omega arith;
        differs = elim d.differs [
          | inl a ↦ inl (
            a.0,
            a.1,
            past (λ s. Means (over order m s) q a.0) since (omega arith) a.2,
            past (λ s. Means (over order m s) q a.1) d.revision within a.3,
            a.4,
          )
          | inr b ↦ inr (
            b.0,
            past (λ s. file_at s (m.file q) ≡ file_at (sources_at more d.revision) (m.file q) → ⊥) since (omega arith)
                (past (λ s. file_at (sources_at history since) (m.file q) ≡ file_at s (m.file q) → ⊥) d.revision within b.1),
          )
        ];
      }

  pub kept_edited : Kept order m more (now + 1) Has
  kept_edited = record {
    memos = λ k memo h.
        let o = kept.memos k memo h in
        let c : memo.changed ≤ memo.verified = o.in_order.0 in
        let v : memo.verified ≤ now = o.in_order.1 in
        record {
          ruled = o.ruled;
          in_order = (c, omega arith);
          changed = past (λ s. Means (over order m s) k memo.answer) memo.changed (omega arith) o.changed;
          reads = past (λ s. HasReads (over order m s) k memo.answer memo.reads) memo.verified v o.reads;
          least = past (λ s. IsLeast (over order m s) m s k memo.durability) memo.verified v o.least;
          covered = o.covered;
          unchanged = λ q read i a le. past (λ s. Means (over order m s) q read.answer) memo.verified v (o.unchanged q read i a le);
          witnessed = λ q read i a late. still_differs memo.verified q (o.witnessed q read i a late);
          together = λ ring e i x j.
              let t = o.together ring e i x j in (
                t.0,
                t.1,
                elim t.2 [
                  | inl le ↦ inl le
                  | inr s ↦ inr (s.0, s.1, still_quiet memo.durability t.0.verified memo.verified v s.2)
                ],
              );
        };
  }
