-- In a revision a key's rule is started once, and once more for each run that lost it: what each
-- event keeps.
use Rattle.std.proofs.Common.{◌≡◌, ◌≢◌, ℕ, ◌+◌, ◌≤◌, ◌⊎◌, ◌&&◌, Bool, true, false, eqb, List, [], ◌∷◌, ◌++◌, refl, sym, ap, subst, inl, inr, arith}
use Rattle.std.specs.Ordering.{is_eq}
use Rattle.std.specs.Cmp.{IsTotalOrder, Equal-is, tied_itself}
use Rattle.std.specs.declared.cmp.Ordering.{Ordering}
use Rattle.std.specs.declared.cmp.Ordering.TheVariants.{Equal}
use Rattle.pq_rules.specs.Relations.{Each, In}
use Rattle.pq_core.specs.Starts.{Event, Log, one_if, count, events_of, IsCounted}

module _ {K : Type 0} (order : K → K → Ordering) (total : IsTotalOrder order) (exact : (a b : K) → order a b ≡ Equal → a ≡ b) where
  pub count_append : (v : ℕ) (k : K) (xs ys : List (Event K)) → count order v k (xs ++ ys) ≡ count order v k xs + count order v k ys
  unfolding count
  count_append v k [] ys = omega arith
  count_append v k (x ∷ xs) ys = let e : count order v k (xs ++ ys) ≡ count order v k xs + count order v k ys = count_append v k xs ys in omega arith

  itself : (k : K) → is_eq (order k k) ≡ true
  itself k = (Equal-is (order k k)).1 (tied_itself total k)

  one : (v : ℕ) (k : K) (run : ℕ) → count order v k (record { run = run; key = k; revision = v } ∷ []) ≡ 1
  unfolding count
  one v k run = ap (λ (b : Bool). one_if b + 0) (both (is_eq (order k k)) (eqb v v) (itself k) (same v))
    where
      same : (n : ℕ) → eqb n n ≡ true
      same n = grind arith

      both : (a b : Bool) → a ≡ true → b ≡ true → a && b ≡ true
      both a b e f = cc

  one_le : (b : Bool) → one_if b ≤ 1
  one_le true = omega arith
  one_le false = omega arith

  at_most : (v : ℕ) (k : K) (e : Event K) → count order v k (e ∷ []) ≤ 1
  unfolding count
  at_most v k e = let l : one_if (is_eq (order k e.key) && eqb e.revision v) ≤ 1 = one_le (is_eq (order k e.key) && eqb e.revision v) in omega arith

  -- of another revision, or of another key, it does not count
  other_revision : (v : ℕ) (k : K) (e : Event K) → e.revision ≢ v → count order v k (e ∷ []) ≡ 0
  unfolding count
  other_revision v k e ne = ap (λ (b : Bool). one_if b + 0) (by (is_eq (order k e.key)) (eqb e.revision v) (apart e.revision v ne))
    where
      apart : (a b : ℕ) → a ≢ b → eqb a b ≡ false
      apart a b d = grind arith

      by : (a b : Bool) → b ≡ false → a && b ≡ false
      by true b e = e
      by false b e = refl

  other_key : (v : ℕ) (k : K) (e : Event K) → is_eq (order k e.key) ≡ false → count order v k (e ∷ []) ≡ 0
  unfolding count
  other_key v k e no_key = ap (λ (b : Bool). one_if (b && eqb e.revision v) + 0) no_key

  none_yet : (now : ℕ) (k : K) (es : List (Event K)) → Each (λ e. e.revision ≤ now) es → count order (now + 1) k es ≡ 0
  unfolding count
  none_yet now k [] each = refl
  none_yet now k (e ∷ es) each =
      let head : count order (now + 1) k (e ∷ []) ≡ 0 = other_revision (now + 1) k e (later e.revision each.0) in
      let rest : count order (now + 1) k es ≡ 0 = none_yet now k es each.1 in
      omega arith
    where
      later : (r : ℕ) → r ≤ now → r ≢ now + 1
      later r l = omega arith

  each_append : (P : Event K → Type 0) (xs ys : List (Event K)) → Each P xs → Each P ys → Each P (xs ++ ys)
  each_append P [] ys a b = b
  each_append P (x ∷ xs) ys a b = (a.0, each_append P xs ys a.1 b)

  either : (b : Bool) → (b ≡ true) ⊎ (b ≡ false)
  either true = inl refl
  either false = inr refl

  same_number : (a b : ℕ) → (a ≡ b) ⊎ (a ≢ b)
  same_number a b = grind arith

  -- the rule of a key that is not taken is started: the key is taken then
  pub started_counts : (now : ℕ) (taken after : K → Type 0) (log : Log K) (run : ℕ) (key : K) → (taken key → ⊥) → after key → ((k : K) → taken k → after k)
      → IsCounted order now taken log → IsCounted order now after (record { starts = log.starts ++ record { run = run; key = key; revision = now } ∷ []; lost = log.lost })
  started_counts now taken after log run key free has more x = record {
    earlier = each_append (λ e. e.revision ≤ now) log.starts (event ∷ []) x.earlier (reflexive now, tt);
    each = λ v k. each v k;
    latest = λ k. latest k;
  }
    where
      event : Event K
      event = record { run = run; key = key; revision = now }

      reflexive : (n : ℕ) → n ≤ n
      reflexive n = omega arith

      low : (k : K) → key ≡ k → count order now k log.starts ≤ count order now k log.lost
      low k is = elim (x.latest k) [ inl l ↦ l | inr t ↦ absurd (free (subst (λ (q : K). taken q) (sym is) t)) ]

      each : (v : ℕ) (k : K) → count order v k (log.starts ++ event ∷ []) ≤ count order v k log.lost + 1
      each v k =
          let sum : count order v k (log.starts ++ event ∷ []) ≡ count order v k log.starts + count order v k (event ∷ []) = count_append v k log.starts (event ∷ []) in
          let most : count order v k (event ∷ []) ≤ 1 = at_most v k event in
          let old : count order v k log.starts ≤ count order v k log.lost + 1 = x.each v k in
          elim (same_number now v) [
            | inl e ↦ (elim (either (is_eq (order k key))) [
              | inl s ↦ (let l : count order v k log.starts ≤ count order v k log.lost =
                  subst (λ (n : ℕ). count order n k log.starts ≤ count order n k log.lost) e (low k (sym (exact k key ((Equal-is (order k key)).0 s)))) in omega arith)
              | inr no_key ↦ (let zero_ : count order v k (event ∷ []) ≡ 0 = other_key v k event no_key in omega arith)
            ])
            | inr ne ↦ (let zero_ : count order v k (event ∷ []) ≡ 0 = other_revision v k event ne in omega arith)
          ]

      latest : (k : K) → (count order now k (log.starts ++ event ∷ []) ≤ count order now k log.lost) ⊎ after k
      latest k =
          let sum : count order now k (log.starts ++ event ∷ []) ≡ count order now k log.starts + count order now k (event ∷ []) = count_append now k log.starts (event ∷ []) in
          elim (either (is_eq (order k key))) [
            | inl s ↦ inr (subst (λ (q : K). after q) (sym (exact k key ((Equal-is (order k key)).0 s))) has)
            | inr no_key ↦ (elim (x.latest k) [
              | inl l ↦ inl (let zero_ : count order now k (event ∷ []) ≡ 0 = other_key now k event no_key in omega arith)
              | inr t ↦ inr (more k t)
            ])
          ]

  -- a run that holds `keys` is stopped or starved
  pub in_count : (v run : ℕ) (k : K) (ks : List K) → In k ks → 1 ≤ count order v k (events_of run v ks)
  unfolding count
  in_count v run k [] i = absurd i
  in_count v run k (q ∷ ks) (inl e) =
      let first : count order v k (record { run = run; key = q; revision = v } ∷ []) ≡ 1 = subst (λ (y : K). count order v k (record { run = run; key = y; revision = v } ∷ []) ≡ 1) e (one v k run) in
      omega arith
  in_count v run k (q ∷ ks) (inr i) = let rest : 1 ≤ count order v k (events_of run v ks) = in_count v run k ks i in omega arith

  pub ended_counts : (now : ℕ) (taken after : K → Type 0) (log : Log K) (run revision : ℕ) (keys : List K)
      → ((k : K) → taken k → after k ⊎ (In k keys × (revision ≡ now)))
      → IsCounted order now taken log → IsCounted order now after (record { starts = log.starts; lost = log.lost ++ events_of run revision keys })
  ended_counts now taken after log run revision keys left x = record {
    earlier = x.earlier;
    each = λ v k. (
        let sum : count order v k (log.lost ++ events_of run revision keys) ≡ count order v k log.lost + count order v k (events_of run revision keys) = count_append v k log.lost (events_of run revision keys) in
        let old : count order v k log.starts ≤ count order v k log.lost + 1 = x.each v k in
        omega arith);
    latest = λ k. (
        let sum : count order now k (log.lost ++ events_of run revision keys) ≡ count order now k log.lost + count order now k (events_of run revision keys) = count_append now k log.lost (events_of run revision keys) in
        let old : count order now k log.starts ≤ count order now k log.lost + 1 = x.each now k in
        elim (x.latest k) [
          | inl l ↦ inl (omega arith)
          | inr t ↦ (elim (left k t) [
            | inl a ↦ inr a
            | inr b ↦ inl (let more : 1 ≤ count order now k (events_of run revision keys) = subst (λ (v : ℕ). 1 ≤ count order now k (events_of run v keys)) (sym b.1) (in_count now run k keys b.0) in omega arith)
          ])
        ]);
  }

  -- runs are over, and what they held is `more`
  pub lost_counts : (now : ℕ) (taken after : K → Type 0) (log : Log K) (more : List (Event K)) → ((k : K) → taken k → after k ⊎ (1 ≤ count order now k more))
      → IsCounted order now taken log → IsCounted order now after (record { starts = log.starts; lost = log.lost ++ more })
  lost_counts now taken after log more left x = record {
    earlier = x.earlier;
    each = λ v k. (
        let sum : count order v k (log.lost ++ more) ≡ count order v k log.lost + count order v k more = count_append v k log.lost more in
        let old : count order v k log.starts ≤ count order v k log.lost + 1 = x.each v k in
        omega arith);
    latest = λ k. (
        let sum : count order now k (log.lost ++ more) ≡ count order now k log.lost + count order now k more = count_append now k log.lost more in
        let old : count order now k log.starts ≤ count order now k log.lost + 1 = x.each now k in
        elim (x.latest k) [
          | inl l ↦ inl (omega arith)
          | inr t ↦ (elim (left k t) [ inl a ↦ inr a | inr b ↦ inl (omega arith) ])
        ]);
  }

  -- an edit is accepted: in the next revision no rule was started yet
  pub edited_counts : (now : ℕ) (taken after : K → Type 0) (log : Log K) → IsCounted order now taken log → IsCounted order (now + 1) after log
  edited_counts now taken after log x = record {
    earlier = later log.starts x.earlier;
    each = x.each;
    latest = λ k. inl (let none : count order (now + 1) k log.starts ≡ 0 = none_yet now k log.starts x.earlier in omega arith);
  }
    where
      later : (es : List (Event K)) → Each (λ e. e.revision ≤ now) es → Each (λ e. e.revision ≤ now + 1) es
      later [] each = tt
      later (e ∷ es) each = (let l : e.revision ≤ now = each.0 in omega arith, later es each.1)

  -- any other event: what is taken stays taken
  pub same_counts : (now : ℕ) (taken after : K → Type 0) (log : Log K) → ((k : K) → taken k → after k) → IsCounted order now taken log → IsCounted order now after log
  same_counts now taken after log more x = record {
    earlier = x.earlier;
    each = x.each;
    latest = λ k. elim (x.latest k) [ inl l ↦ inl l | inr t ↦ inr (more k t) ];
  }
