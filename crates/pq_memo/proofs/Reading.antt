-- Passes over lists: one element more.
use Rattle.std.proofs.Common.{◌≡◌, ℕ, zero, suc, ◌⊎◌, ◌<◌, ◌≤◌, List, [], ◌∷◌, ◌++◌, length, take, get_or, slice_get, Some, refl, sym, ap, ◌∙◌, subst, inl, inr, arith}
use Rattle.pq_inputs.specs.declared.durability.Durability.{Durability}
use Rattle.pq_inputs.specs.Sources.{Sources}
use Rattle.pq_inputs.specs.Changes.{level}
use Rattle.pq_rules.specs.Turns.{Machine}
use Rattle.pq_rules.specs.Relations.{Each, In}
use Rattle.std.proofs.lemmas.Option.{slice_get_within, slice_get-get_or, same_Some}
use Rattle.pq_rules.proofs.ListLemmas.{split}
use Rattle.pq_memo.specs.Sound.{Memo}
use Rattle.pq_memo.specs.Look.{IsUpToDate, HasChanged, IsStill, IsByReads, IsReached, WalksTo, HasChangedRead}
use Rattle.pq_memo.specs.aux.Tests.{IsReachedAt, IsPass}
use Rattle.pq_memo.specs.declared.table.state.Passed.{Passed}
use Rattle.pq_memo.specs.aux.Durabilities.{HasDurability, IsLeastRead}

pub each_take : {A : Type 0} (P : A → Type 0) (xs : List A) (i : ℕ) (x : A) → i < length xs → x ≡ get_or xs i x → P x
    → Each P (take i xs) → Each P (take (suc i) xs)
each_take P [] i x h e p t = absurd (omega arith)
each_take P (y ∷ xs) zero x h e p t = (subst P e p, tt)
each_take P (y ∷ xs) (suc i) x h e p t = (t.0, each_take P xs i x (omega arith) e p t.1)

pub in_take : {K : Type 0} (xs : List K) (i : ℕ) (x q : K) → i < length xs → x ≡ get_or xs i x → In q (take (suc i) xs)
    → In q (take i xs) ⊎ (q ≡ x)
in_take [] i x q h e j = absurd (omega arith)
in_take (y ∷ xs) zero x q h e (inl p) = inr (p ∙ sym e)
in_take (y ∷ xs) zero x q h e (inr j) = absurd j
in_take (y ∷ xs) (suc i) x q h e (inl p) = inl (inl p)
in_take (y ∷ xs) (suc i) x q h e (inr j) = elim (in_take xs i x q (omega arith) e j) [ inl k ↦ inl (inr k) | inr k ↦ inr k ]

pub in_take_more : {K : Type 0} (xs : List K) (i : ℕ) (q : K) → In q (take i xs) → In q (take (suc i) xs)
in_take_more [] zero q j = absurd j
in_take_more [] (suc i) q j = absurd j
in_take_more (y ∷ xs) zero q j = absurd j
in_take_more (y ∷ xs) (suc i) q (inl p) = inl p
in_take_more (y ∷ xs) (suc i) q (inr j) = inr (in_take_more xs i q j)

pub in_take_last : {K : Type 0} (xs : List K) (i : ℕ) (x : K) → i < length xs → x ≡ get_or xs i x → In x (take (suc i) xs)
in_take_last [] i x h e = absurd (omega arith)
in_take_last (y ∷ xs) zero x h e = inl e
in_take_last (y ∷ xs) (suc i) x h e = inr (in_take_last xs i x (omega arith) e)

module _ {K P V : Type 0} (m : Machine K P V) (files : Sources) (Has : K → Memo K V → Type 0) where
  -- one read more
  pub least_more : (xs : List K) (i : ℕ) (x : K) (least d next : Durability) → i < length xs → x ≡ get_or xs i x
      → IsLeastRead m files Has (λ q. In q (take i xs)) least → HasDurability m files Has x d
      → (next ≡ least) ⊎ (next ≡ d) → level next ≤ level least → level next ≤ level d
      → IsLeastRead m files Has (λ q. In q (take (suc i) xs)) next
  least_more xs i x least d next h e before of_x which le re = record {
    lower = λ q j. elim (in_take xs i x q h e j) [
      | inl k ↦ (let f = before.lower q k in let l : level least ≤ level f.0 = f.2 in (f.0, f.1, omega arith))
      | inr k ↦ (d, subst (λ (z : K). HasDurability m files Has z d) (sym k) of_x, re)
    ];
    attained = elim which [
      | inr is ↦ inr (x, in_take_last xs i x h e, subst (λ (z : Durability). HasDurability m files Has x z) (sym is) of_x)
      | inl is ↦ elim before.attained [
        | inl high ↦ inl (is ∙ high)
        | inr q ↦ inr (q.0, in_take_more xs i q.0 q.1, subst (λ (z : Durability). HasDurability m files Has q.0 z) (sym is) q.2)
      ]
    ];
  }

-- the sources of the last revision are those of now
pub now_files : (history : List Sources) (revision : ℕ) (files : Sources) → slice_get history revision ≡ Some files → get_or history revision [] ≡ files
now_files history revision files is =
    same_Some (get_or history revision []) files (sym (slice_get-get_or history revision [] (slice_get_within history revision files is)) ∙ is)

pub at_place : {K : Type 0} (xs : List K) (i : ℕ) (q x : K) → slice_get xs i ≡ Some q → x ≡ get_or xs i x → q ≡ x
at_place xs i q x is e =
    same_Some q x (sym is ∙ slice_get-get_or xs i x (slice_get_within xs i q is) ∙ ap (λ y. Some y) (sym e))

module _ {K P V : Type 0} (m : Machine K P V) (history : List Sources) (now : ℕ) (Has : K → Memo K V → Type 0) where
  reached : (since : ℕ) (reads : List K) (i : ℕ) (q x : K) → IsReachedAt m history now Has since reads i q → q ≡ x → IsReached m history now Has since reads x
  reached since reads i q x r e =
      let within : i < length reads = slice_get_within reads i q r.there in
      let s = split reads i within in
      let item : s.item ≡ x = sym (s.at q) ∙ sym (same_Some q (get_or reads i q) (sym r.there ∙ slice_get-get_or reads i q within)) ∙ e in
      record {
        front = s.front;
        back = s.back;
        whole = s.whole ∙ ap (λ y. s.front ++ y ∷ s.back) item;
        still = subst (λ (ks : List K). Each (IsStill m history now Has since) ks) s.taken r.still;
      }

  pub read_within : (since : ℕ) (reads : List K) (i : ℕ) (q : K) → IsReachedAt m history now Has since reads i q → i < length reads
  read_within since reads i q r = slice_get_within reads i q r.there

  module _ (k : K) (memo : Memo K V) (by : IsByReads history now Has k memo) (since : ℕ) (reads : List K)
      (verified : since ≡ memo.verified) (same : reads ≡ memo.reads) where
    here : (i : ℕ) (q x : K) → IsReachedAt m history now Has since reads i q → x ≡ get_or reads i x → IsReached m history now Has memo.verified memo.reads x × (q ≡ x)
    here i q x r e =
        let one : q ≡ x = at_place reads i q x r.there e in (
          subst (λ (n : ℕ). IsReached m history now Has n memo.reads x) verified
              (subst (λ (ks : List K). IsReached m history now Has since ks x) same (reached since reads i q x r one)),
          one,
        )

    pub walks_to : (i : ℕ) (x : K) → (q : K) × IsReachedAt m history now Has since reads i q × (IsUpToDate m now Has q → ⊥)
        → x ≡ get_or reads i x → WalksTo m history now Has k x
    walks_to i x s e =
        let h = here i s.0 x s.1 e in
        (memo, by, h.0, subst (λ (y : K). IsUpToDate m now Has y → ⊥) h.1 s.2)

    pub changed_at : (i : ℕ) (x : K) → (q : K) × IsReachedAt m history now Has since reads i q × IsUpToDate m now Has q
        × ((revision : ℕ) × HasChanged m history Has q revision × (since < revision))
        → x ≡ get_or reads i x → HasChangedRead m history now Has k x
    changed_at i x s e =
        let h = here i s.0 x s.1 e in (
          memo,
          by,
          h.0,
          subst (λ (y : K). IsUpToDate m now Has y) h.1 s.2,
          (s.3.0, subst (λ (y : K). HasChanged m history Has y s.3.0) h.1 s.3.1, subst (λ (r : ℕ). r < s.3.0) verified s.3.2),
        )

-- the same of reads and a revision that are the same
pub pass_as : {K P V : Type 0} (m : Machine K P V) (history : List Sources) (now : ℕ) (Has : K → Memo K V → Type 0)
    (since verified : ℕ) (reads all : List K) (passed : Passed) → since ≡ verified → reads ≡ all
    → IsPass m history now Has since reads passed → IsPass m history now Has verified all passed
pass_as {K} {P} {V} m history now Has since verified reads all passed s r p =
    subst (λ (n : ℕ). IsPass m history now Has n all passed) s (subst (λ (ks : List K). IsPass m history now Has since ks passed) r p)

pub get_as : {K : Type 0} (xs ys : List K) (i : ℕ) (x : K) → xs ≡ ys → x ≡ get_or xs i x → x ≡ get_or ys i x
get_as {K} xs ys i x same e = subst (λ (l : List K). x ≡ get_or l i x) same e

-- a read that is not up to date, and one that changed, as copies
module _ {K P V : Type 0} (m : Machine K P V) (history : List Sources) (now : ℕ) (Has : K → Memo K V → Type 0)
    (k : K) (memo : Memo K V) (reads : List K) (same : reads ≡ memo.reads) (i : ℕ) (x y : K) (here : y ≡ get_or reads i y) (copy : x ≡ y) where
  pub behind_copy : (by : IsByReads history now Has k memo) → (q : K) × IsReachedAt m history now Has memo.verified memo.reads i q × (IsUpToDate m now Has q → ⊥)
      → (memo : Memo K V) × IsByReads history now Has k memo × IsReachedAt m history now Has memo.verified memo.reads i x × (IsUpToDate m now Has x → ⊥)
  behind_copy by s =
      let one : s.0 ≡ x = at_place memo.reads i s.0 y s.1.there (get_as reads memo.reads i y same here) ∙ sym copy in (
        memo,
        by,
        subst (λ (z : K). IsReachedAt m history now Has memo.verified memo.reads i z) one s.1,
        subst (λ (z : K). IsUpToDate m now Has z → ⊥) one s.2,
      )

  pub outdated_copy : (by : IsByReads history now Has k memo) → (q : K) × IsReachedAt m history now Has memo.verified memo.reads i q × IsUpToDate m now Has q
      × ((revision : ℕ) × HasChanged m history Has q revision × (memo.verified < revision)) → HasChangedRead m history now Has k x
  outdated_copy by s =
      subst (λ (z : K). HasChangedRead m history now Has k z) (sym copy)
      (changed_at m history now Has k memo by memo.verified memo.reads refl refl i y s (get_as reads memo.reads i y same here))
