-- The calls of the slots of a table, over the list that contracts see.
use Rattle.std.proofs.Common.{◌≡◌, ℕ, zero, suc, ◌<◌, ◌≤◌, List, [], ◌∷◌, ◌++◌, length, get_or, slice_set, Option, Some, None, IsSome, refl, sym, ◌∙◌, ap, subst, inl, inr, arith, Bool, true, false, cond}
use Rattle.std.proofs.lemmas.Bool.{cases_Bool}
use Rattle.std.proofs.lemmas.Option.{same_Some}
use Rattle.std.specs.declared.cmp.Ordering.{Ordering}
use Rattle.std.specs.Ordering.{is_eq}
use Rattle.std.specs.Option.{IfNone}
use Rattle.std.specs.Map.{lookup}
use Rattle.std.specs.BTreeMap.{is_at}
use Rattle.pq_rules.proofs.Weight.{Exact}
use Rattle.pq_memo.proofs.Numbered.{found_value, not_found, has_slot, numbered_with, lookup_with, numbered_more, lookup_added, key_within, same_key, tied}
use Rattle.pq_memo.specs.Sound.{Memo}
use Rattle.pq_memo.specs.Table.{key_at, memo_at, joined, IsSameTable}
use Rattle.pq_memo.specs.aux.Slots.{value_at, with_at, IsNumbered}
use Rattle.pq_memo.specs.aux.Written.{HasRoom}

module _ {K X : Type 0} where
  pub key_get : (slots : List (K × X)) (n : ℕ) (e : K × X) → n < length slots → e ≡ get_or slots n e → key_at slots n ≡ Some e.0
  key_get [] n e h is = absurd (omega arith)
  key_get (s ∷ ss) zero e h is = ap (λ (p : K × X). Some p.0) (sym is)
  key_get (s ∷ ss) (suc n) e h is = key_get ss n e (omega arith) is

  -- no key is past the last slot
  pub key_past : (slots slice : List (K × X)) (n : ℕ) → slice ≡ slots → length slice ≤ n → key_at slots n ≡ None
  key_past slots slice n value past = subst (λ (l : List (K × X)). key_at l n ≡ None) value (none slice n past)
    where
      none : (l : List (K × X)) (i : ℕ) → length l ≤ i → key_at l i ≡ None
      none [] i past = refl
      none (e ∷ es) zero past = absurd (omega arith)
      none (e ∷ es) (suc i) past = none es i (omega arith)

  pub value_get : (slots : List (K × X)) (n : ℕ) (e : K × X) → n < length slots → e ≡ get_or slots n e → value_at slots n ≡ Some e.1
  value_get [] n e h is = absurd (omega arith)
  value_get (s ∷ ss) zero e h is = ap (λ (p : K × X). Some p.1) (sym is)
  value_get (s ∷ ss) (suc n) e h is = value_get ss n e (omega arith) is

  pub set_with : (slots : List (K × X)) (n : ℕ) (e : K × X) (x : X) → n < length slots → e ≡ get_or slots n e → slice_set slots n (e.0, x) ≡ with_at slots n x
  set_with [] n e x h is = absurd (omega arith)
  set_with (s ∷ ss) zero e x h is = ap (λ (p : K × X). (p.0, x) ∷ ss) is
  set_with (s ∷ ss) (suc n) e x h is = ap (λ (l : List (K × X)). s ∷ l) (set_with ss n e x (omega arith) is)

  -- the key of the slot that was compared
  pub slot_is : (now inside slice : List (K × X)) (n : ℕ) (e : K × X) (a k : K) → inside ≡ now → slice ≡ inside → n < length slice → e ≡ get_or slice n e
      → a ≡ e.0 → a ≡ k → key_at now n ≡ Some k
  slot_is now inside slice n e a k view value h is key same =
      subst (λ (l : List (K × X)). key_at l n ≡ Some k) (value ∙ view) (key_get slice n e h is ∙ ap (λ (y : K). Some y) (sym key ∙ same))

  -- the key of a slot that has one
  pub key_is : (now inside slice : List (K × X)) (n : ℕ) (e : K × X) (a k : K) → inside ≡ now → slice ≡ inside → n < length slice → e ≡ get_or slice n e
      → a ≡ e.0 → key_at now n ≡ Some k → a ≡ k
  key_is now inside slice n e a k view value h is key there =
      key ∙ same_Some e.0 k (sym (key_get slice n e h is) ∙ ap (λ (l : List (K × X)). key_at l n) (value ∙ view) ∙ there)

  pub slot_within : (now slots : List (K × X)) (n : ℕ) (k : K) → slots ≡ now → key_at now n ≡ Some k → n < length slots
  slot_within now slots n k view there = subst (λ (l : List (K × X)). n < length l) (sym view) (key_within now n k there)

pub if_none : {A : Type 0} {P : Type 0} (o : Option A) → (o ≡ None → P) → IfNone o P
if_none None h = h refl
if_none (Some x) h = tt

none_is : (A : Type 0) → IsSome {T = A} None → ⊥
none_is A h = cc

joined_cond : {A : Type 0} (b : Bool) (x : Option A) (o : Option (Option A)) → joined (cond b (Some x) o) ≡ cond b x (joined o)
joined_cond true x o = refl
joined_cond false x o = refl

some_cond : {A : Type 0} (b : Bool) (x : A) (o : Option A) → IsSome o → IsSome (cond b (Some x) o)
some_cond true x o h = refl
some_cond false x o h = h

module _ {K M : Type 0} where
  -- a slot that was written by a function of what it had
  pub changed_slots : (slots : List (K × Option M)) (n : ℕ) (e new : K × Option M) (F : Option M → Option M) → n < length slots → e ≡ get_or slots n e → new ≡ (e.0, F e.1)
      → slice_set slots n new ≡ with_at slots n (F (joined (value_at slots n)))
  changed_slots slots n e new F h is made =
      ap (λ (p : K × Option M). slice_set slots n p) made
      ∙ set_with slots n e (F e.1) h is
      ∙ ap (λ (o : Option (Option M)). with_at slots n (F (joined o))) (sym (value_get slots n e h is))

module _ {K V : Type 0} (order : K → K → Ordering) (exact : Exact order) (number : K → Option ℕ) (slots now : List (K × Option (Memo K V)))
    (is : IsNumbered number slots) (view : slots ≡ now) where
  here : IsNumbered number now
  here = subst (λ (l : List (K × Option (Memo K V))). IsNumbered number l) view is

  -- the memo of a slot
  pub memo_here : (slice : List (K × Option (Memo K V))) (k : K) (n : ℕ) (e : K × Option (Memo K V)) (m : Option (Memo K V)) → slice ≡ slots → key_at now n ≡ Some k
      → n < length slice → e ≡ get_or slice n e → m ≡ e.1 → m ≡ memo_at order now k
  memo_here slice k n e m value there h at made =
      made ∙ ap (λ (o : Option (Option (Memo K V))). joined o)
      (sym (value_get slice n e h at) ∙ ap (λ (l : List (K × Option (Memo K V))). value_at l n) (value ∙ view) ∙ sym (found_value order exact number now here k n there))

  pub none_here : (k : K) (r : Option ℕ) → r ≡ number k → r ≡ None → lookup (is_at (order k)) now ≡ None
  none_here k r noted none = not_found order exact number now here k (sym noted ∙ none)

  pub room_here : (k : K) (n : ℕ) → key_at now n ≡ Some k → HasRoom order now k
  room_here k n there = has_slot order exact number now here k n there

  -- a slot that was written
  module _ (new : List (K × Option (Memo K V))) (k : K) (n : ℕ) (there : key_at now n ≡ Some k) where
    pub numbered_written : (x : Option (Memo K V)) → new ≡ with_at slots n x → IsNumbered number new
    numbered_written x made = subst (λ (l : List (K × Option (Memo K V))). IsNumbered number l) (sym made) (numbered_with order exact number slots is n x)

    lookup_written : (x : Option (Memo K V)) → new ≡ with_at slots n x → (q : K) → lookup (is_at (order q)) new ≡ cond (is_eq (order k q)) (Some x) (lookup (is_at (order q)) now)
    lookup_written x made q =
        ap (λ (l : List (K × Option (Memo K V))). lookup (is_at (order q)) l) (made ∙ ap (λ (l : List (K × Option (Memo K V))). with_at l n x) view)
        ∙ lookup_with order exact number now here k n x there q

    pub memo_written : (x : Option (Memo K V)) → new ≡ with_at slots n x → (q : K) → memo_at order new q ≡ cond (is_eq (order k q)) x (memo_at order now q)
    memo_written x made q =
        ap (λ (o : Option (Option (Memo K V))). joined o) (lookup_written x made q) ∙ joined_cond (is_eq (order k q)) x (lookup (is_at (order q)) now)

    pub rooms_written : (x : Option (Memo K V)) → new ≡ with_at slots n x → (q : K) → HasRoom order now q → HasRoom order new q
    rooms_written x made q h = subst (λ (o : Option (Option (Memo K V))). IsSome o) (sym (lookup_written x made q)) (some_cond (is_eq (order k q)) x (lookup (is_at (order q)) now) h)

    pub memo_changed : (F : Option (Memo K V) → Option (Memo K V)) → new ≡ with_at slots n (F (joined (value_at slots n))) → (q : K)
        → memo_at order new q ≡ cond (is_eq (order k q)) (F (memo_at order now k)) (memo_at order now q)
    memo_changed F made q =
        memo_written (F (joined (value_at slots n))) made q
        ∙ ap (λ (o : Option (Option (Memo K V))). cond (is_eq (order k q)) (F (joined o)) (memo_at order now q))
        (ap (λ (l : List (K × Option (Memo K V))). value_at l n) view ∙ sym (found_value order exact number now here k n there))

  -- a slot that was added
  module _ (k : K) (absent : lookup (is_at (order k)) now ≡ None) where
    no_number : number k ≡ None
    no_number = decide (number k) refl
      where
        decide : (o : Option ℕ) → number k ≡ o → number k ≡ None
        decide None e = e
        decide (Some n) e = absurd (none_is (Option (Memo K V)) (subst (λ (o : Option (Option (Memo K V))). IsSome o) absent (has_slot order exact number now here k n (here.found k n e))))

    pub numbered_added : (after : K → Option ℕ) (x : Option (Memo K V)) (new kept slice : List (K × Option (Memo K V))) (copy : K) → copy ≡ k → kept ≡ slots → slice ≡ slots → new ≡ kept ++ (k, x) ∷ []
        → ((q : K) → after q ≡ cond (is_eq (order copy q)) (Some (length slice)) (number q)) → IsNumbered after new
    numbered_added after x new kept slice copy copied same value made puts =
        subst (λ (l : List (K × Option (Memo K V))). IsNumbered after l) (sym (made ∙ ap (λ (l : List (K × Option (Memo K V))). l ++ (k, x) ∷ []) same))
        (numbered_more order exact number slots is after k x no_number
        (subst (λ (l : List (K × Option (Memo K V))). (q : K) → after q ≡ cond (is_eq (order k q)) (Some (length l)) (number q)) value
        (subst (λ (y : K). (q : K) → after q ≡ cond (is_eq (order y q)) (Some (length slice)) (number q)) copied puts)))

    pub lookup_new : (x : Option (Memo K V)) (new kept : List (K × Option (Memo K V))) → kept ≡ slots → new ≡ kept ++ (k, x) ∷ [] → (q : K)
        → lookup (is_at (order q)) new ≡ cond (is_eq (order k q)) (Some x) (lookup (is_at (order q)) now)
    lookup_new x new kept same made q =
        ap (λ (l : List (K × Option (Memo K V))). lookup (is_at (order q)) l) (made ∙ ap (λ (l : List (K × Option (Memo K V))). l ++ (k, x) ∷ []) (same ∙ view))
        ∙ lookup_added order exact number now here k x no_number q

-- numbers that are the same
pub numbered_as : {K X : Type 0} (number after : K → Option ℕ) (slots kept : List (K × X)) → kept ≡ slots
    → ((q : K) → after q ≡ number q) → IsNumbered number slots → IsNumbered after kept
numbered_as {K} {X} number after slots kept same puts is =
    subst (λ (l : List (K × X)). IsNumbered after l) (sym same)
    (record { found = λ k n e. is.found k n (sym (puts k) ∙ e); known = λ k n h. puts k ∙ is.known k n h })

-- what was added to the list, for the table
module _ {K V : Type 0} (order : K → K → Ordering) (exact : Exact order) (before after : List (K × Option (Memo K V))) (k : K) where
  module _ (added : (q : K) → lookup (is_at (order q)) after ≡ cond (is_eq (order k q)) (Some None) (lookup (is_at (order q)) before)) where
    pub same_added : lookup (is_at (order k)) before ≡ None → IsSameTable (memo_at order before) (memo_at order after)
    same_added absent q = elim (cases_Bool (is_eq (order k q))) [
      | inl eq ↦ ap (λ (o : Option (Option (Memo K V))). joined o) (added q) ∙ joined_cond (is_eq (order k q)) None (lookup (is_at (order q)) before)
          ∙ ap (λ (b : Bool). cond b None (memo_at order before q)) eq
          ∙ sym (ap (λ (o : Option (Option (Memo K V))). joined o) (subst (λ (y : K). lookup (is_at (order y)) before ≡ None) (same_key order exact k q eq) absent))
      | inr ne ↦ ap (λ (o : Option (Option (Memo K V))). joined o) (added q) ∙ joined_cond (is_eq (order k q)) None (lookup (is_at (order q)) before)
          ∙ ap (λ (b : Bool). cond b None (memo_at order before q)) ne
    ]

    pub room_added : (key : K) → k ≡ key → HasRoom order after key
    room_added key same = subst (λ (y : K). HasRoom order after y) same
        (subst (λ (o : Option (Option (Memo K V))). IsSome o)
        (sym (added k ∙ ap (λ (b : Bool). cond b (Some None) (lookup (is_at (order k)) before)) (tied order exact k k refl))) refl)

    pub rooms_added : (q : K) → HasRoom order before q → HasRoom order after q
    rooms_added q h = subst (λ (o : Option (Option (Memo K V))). IsSome o) (sym (added q)) (some_cond (is_eq (order k q)) None (lookup (is_at (order q)) before) h)

-- a slot without a memo, which was added for a key that had none
module _ {K V : Type 0} (order : K → K → Ordering) (exact : Exact order) (number after : K → Option ℕ) (slots now new kept slice : List (K × Option (Memo K V)))
    (is : IsNumbered number slots) (view : slots ≡ now) (key copy shared : K) (copied : copy ≡ key) (shares : shared ≡ key)
    (had : None ≡ number copy) (same : kept ≡ slots) (made : new ≡ kept ++ (shared, None) ∷ []) where
  absent : lookup (is_at (order key)) now ≡ None
  absent = none_here order exact number slots now is view key None (had ∙ ap (λ (k : K). number k) copied) refl

  made_so : new ≡ kept ++ (key, None) ∷ []
  made_so = made ∙ ap (λ (k : K). kept ++ (k, None) ∷ []) shares

  added : (q : K) → lookup (is_at (order q)) new ≡ cond (is_eq (order key q)) (Some None) (lookup (is_at (order q)) now)
  added = lookup_new order exact number slots now is view key absent None new kept same made_so

  pub fresh_numbered : slice ≡ slots → ((q : K) → after q ≡ cond (is_eq (order copy q)) (Some (length slice)) (number q)) → IsNumbered after new
  fresh_numbered value puts = numbered_added order exact number slots now is view key absent after None new kept slice copy copied same value made_so puts

  pub fresh_same : IsSameTable (memo_at order now) (memo_at order new)
  fresh_same = same_added order exact now new key added absent

  pub fresh_room : HasRoom order new key
  fresh_room = room_added order exact now new key added key refl

  pub fresh_rooms : (q : K) → HasRoom order now q → HasRoom order new q
  fresh_rooms = rooms_added order exact now new key added

-- a key that has a number
pub known_room : {K V : Type 0} (order : K → K → Ordering) → Exact order → (number : K → Option ℕ) (slots kept : List (K × Option (Memo K V))) → IsNumbered number slots
    → (key copy : K) (n : ℕ) → copy ≡ key → Some n ≡ number copy → kept ≡ slots → HasRoom order kept key
known_room {K} {V} order exact number slots kept is key copy n copied had same =
    subst (λ (l : List (K × Option (Memo K V))). HasRoom order l key) (sym same)
    (has_slot order exact number slots is key n (is.found key n (sym (had ∙ ap (λ (k : K). number k) copied))))
