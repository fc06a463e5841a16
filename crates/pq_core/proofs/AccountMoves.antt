-- What an account keeps, after each call.
use Rattle.std.proofs.Common.{◌≡◌, ◌≢◌, ℕ, zero, suc, ◌+◌, ◌-◌, ◌<◌, ◌≤◌, ◌^◌, ◌⊎◌, List, [], ◌∷◌, ◌++◌, length, drop, slice_get, slice_set, get_or, Some, None, refl, sym, ◌∙◌, ap, subst, inl, inr, arith, length-drop}
use Rattle.pq_core.specs.Lanes.{ReadyView}
use Rattle.pq_core.specs.Accounts.{AccountView, next_of, IsStage, with_stage, with_request, first_stage, Collects, MaySee, seen_below, Sees}
use Rattle.pq_core.specs.declared.values.request.Request.{Request}
use Rattle.pq_core.specs.declared.values.request.Want.{Want}
use Rattle.pq_core.specs.declared.values.request.Want.TheVariants.{Demand, Fixed}
use Rattle.pq_core.specs.aux.Accounts.{noted, made_one, made_count, AccountKept}
use Rattle.pq_core.specs.declared.store.account.Stage.{Stage}
use Rattle.pq_core.specs.declared.store.account.Stage.TheVariants.{Waiting, Running, Made, Collected}
use Rattle.pq_rules.proofs.ListLemmas.{get_last}
use Rattle.pq_core.proofs.Lists.{some_one, get_set, get_append, get_longer, get_within, set_same, set_other, set_long, append_long}
use Rattle.pq_core.proofs.Writes.{nothing_there, one_entry}

-- ---- lists

-- a place of a list without its first elements
pub get_drop : {A : Type 0} (xs : List A) (k i j : ℕ) → j ≡ k + i → slice_get (drop k xs) i ≡ slice_get xs j
get_drop xs zero i j e = let f : i ≡ j = omega arith in ap (slice_get xs) f
get_drop [] (suc k) i j e = refl
get_drop (x ∷ xs) (suc k) i zero e = absurd (omega arith)
get_drop (x ∷ xs) (suc k) i (suc j) e = get_drop xs k i j (omega arith)

-- one element less
drop_suc : {A : Type 0} (xs : List A) (k : ℕ) → drop 1 (drop k xs) ≡ drop (suc k) xs
drop_suc [] zero = refl
drop_suc [] (suc k) = refl
drop_suc (x ∷ xs) zero = refl
drop_suc (x ∷ xs) (suc k) = drop_suc xs k

pub drop_more : {A : Type 0} (xs ys : List A) (k n : ℕ) → ys ≡ drop k xs → n ≡ k + 1 → drop 1 ys ≡ drop n xs
drop_more xs ys k n e f =
    let g : suc k ≡ n = omega arith in
    ap (drop 1) e ∙ drop_suc xs k ∙ ap (λ (m : ℕ). drop m xs) g

pub before_or_not : (m n : ℕ) → (m < n) ⊎ (n ≤ m)
before_or_not m zero = inr (omega arith)
before_or_not zero (suc n) = inl (omega arith)
before_or_not (suc m) (suc n) = elim (before_or_not m n) [ inl h ↦ inl (let g : m < n = h in omega arith) | inr h ↦ inr (let g : n ≤ m = h in omega arith) ]

-- what is read at a place
pub read_at : {A : Type 0} (xs : List A) (i : ℕ) (x y : A) → slice_get xs i ≡ Some y → x ≡ get_or xs i x → x ≡ y
read_at [] i x y h e = nothing_there y h
read_at (z ∷ xs) zero x y h e = e ∙ some_one z y h
read_at (z ∷ xs) (suc i) x y h e = read_at xs i x y h e

pub there_read : {A : Type 0} (xs : List A) (i : ℕ) (x : A) → i < length xs → x ≡ get_or xs i x → slice_get xs i ≡ Some x
there_read [] i x h e = absurd (omega arith)
there_read (z ∷ xs) zero x h e = ap Some (sym e)
there_read (z ∷ xs) (suc i) x h e = there_read xs i x (omega arith) e

-- ---- counts

module _ {K T : Type 0} where
  pub not_made : {P : Type 0} (stage : Stage K T) (ready : T) → stage ≡ Made ready → made_one stage ≡ 0 → P
  not_made stage ready e f = let g : made_one stage ≡ 1 = ap made_one e in absurd (omega arith)

  one_at_most : (stage : Stage K T) → made_one stage ≤ 1
  one_at_most (Waiting request accepted) = omega arith
  one_at_most (Running begun) = omega arith
  one_at_most (Made ready) = omega arith
  one_at_most Collected = omega arith

  pub set_count : (xs : List (Stage K T)) (i : ℕ) (s t : Stage K T) → slice_get xs i ≡ Some s → made_count (slice_set xs i t) + made_one s ≡ made_count xs + made_one t
  set_count [] i s t h = nothing_there s h
  set_count (x ∷ xs) zero s t h = let f : made_one x ≡ made_one s = ap made_one (some_one x s h) in omega arith
  set_count (x ∷ xs) (suc i) s t h =
      let r : made_count (slice_set xs i t) + made_one s ≡ made_count xs + made_one t = set_count xs i s t h in
      omega arith

  pub append_count : (xs : List (Stage K T)) (s : Stage K T) → made_count (xs ++ s ∷ []) ≡ made_count xs + made_one s
  append_count [] s = omega arith
  append_count (x ∷ xs) s = let r : made_count (xs ++ s ∷ []) ≡ made_count xs + made_one s = append_count xs s in omega arith

  count_long : (xs : List (Stage K T)) → made_count xs ≤ length xs
  count_long [] = omega arith
  count_long (x ∷ xs) =
      let r : made_count xs ≤ length xs = count_long xs in
      let o = one_at_most x in
      omega arith

  count_less : (xs : List (Stage K T)) (i : ℕ) (s : Stage K T) → slice_get xs i ≡ Some s → made_one s ≡ 0 → made_count xs < length xs
  count_less [] i s h z = nothing_there s h
  count_less (x ∷ xs) zero s h z =
      let f : made_one x ≡ made_one s = ap made_one (some_one x s h) in
      let r = count_long xs in
      omega arith
  count_less (x ∷ xs) (suc i) s h z =
      let r : made_count xs < length xs = count_less xs i s h z in
      let o = one_at_most x in
      omega arith

  drop_count : (xs : List (Stage K T)) (k : ℕ) → ((i : ℕ) → i < k → slice_get xs i ≡ Some Collected) → made_count (drop k xs) ≡ made_count xs
  drop_count xs zero f = refl
  drop_count [] (suc k) f = refl
  drop_count (x ∷ xs) (suc k) f =
      let e : made_one x ≡ 0 = ap made_one (some_one x Collected (f 0 (omega arith))) in
      let r : made_count (drop k xs) ≡ made_count xs = drop_count xs k (λ i h. f (suc i) (omega arith)) in
      omega arith

-- ---- numbers

module _ {K V M : Type 0} where
  -- `IsNumbered n stage` is that the reply, if it is made, has the number `n`
  abbrev pub IsNumbered : ℕ → Stage K (ReadyView K V M) → Type 0
  IsNumbered n (Waiting request accepted) = Unit {0}
  IsNumbered n (Running begun) = Unit {0}
  IsNumbered n (Made ready) = ready.reply.number ≡ n
  IsNumbered n Collected = Unit {0}

module _ {K : Type 0} (V M : Type 0) where
  first_numbered : (c n : ℕ) (request : Request K) (revision : ℕ) (want : Want K) → IsNumbered n (first_stage {V = V} {M = M} c n request revision want)
  first_numbered c n request revision (Demand key) = tt
  first_numbered c n request revision (Fixed text) = refl

-- ---- accounts

module _ {K V M : Type 0} where
  pub one_stage : (a : AccountView K V M) (n : ℕ) (s t : Stage K (ReadyView K V M)) → IsStage a n s → IsStage a n t → s ≡ t
  one_stage a n s t h k = one_entry a.stages (n - a.seen) s t h.here k.here

  pub stage_within : (a : AccountView K V M) (n : ℕ) (s : Stage K (ReadyView K V M)) → IsStage a n s → n < next_of a
  stage_within a n s h =
      let past = h.past in
      let within = get_within a.stages (n - a.seen) s h.here in
      omega arith

  -- a stage that is written
  pub set_at : (a : AccountView K V M) (n : ℕ) (s t : Stage K (ReadyView K V M)) → IsStage a n s → IsStage (with_stage a n t) n t
  set_at a n s t h = record { past = h.past; here = set_same a.stages (n - a.seen) t (get_within a.stages (n - a.seen) s h.here) }

  pub other_at : (a : AccountView K V M) (n m : ℕ) (s t : Stage K (ReadyView K V M)) → a.seen ≤ n → m ≢ n → IsStage a m s → IsStage (with_stage a n t) m s
  other_at a n m s t past ne h =
      let late = h.past in
      let apart : m - a.seen ≢ n - a.seen = omega arith in
      record { past = h.past; here = set_other a.stages (n - a.seen) t (m - a.seen) apart ∙ h.here }

  pub was_at : (a : AccountView K V M) (n m : ℕ) (s t : Stage K (ReadyView K V M)) → a.seen ≤ n → IsStage (with_stage a n t) m s → ((m ≡ n) × (s ≡ t)) ⊎ ((m ≢ n) × IsStage a m s)
  was_at a n m s t past h =
      let late : a.seen ≤ m = h.past in
      elim (get_set a.stages (n - a.seen) t (m - a.seen) s h.here) [
        | inl w ↦ inl (let e : m - a.seen ≡ n - a.seen = w.0 in omega arith, w.1)
        | inr w ↦ inr (let e : m - a.seen ≢ n - a.seen = w.0 in omega arith, record { past = late; here = w.1 })
      ]

  -- a request that is added
  pub longer_at : (a : AccountView K V M) (m : ℕ) (s t : Stage K (ReadyView K V M)) → IsStage a m s → IsStage (with_request a t) m s
  longer_at a m s t h = record { past = h.past; here = get_longer a.stages (t ∷ []) (m - a.seen) s h.here }

  pub added_at : (a : AccountView K V M) (t : Stage K (ReadyView K V M)) → IsStage (with_request a t) (next_of a) t
  added_at a t =
      let e : next_of a - a.seen ≡ length a.stages = omega arith in
      record { past = omega arith; here = ap (slice_get (a.stages ++ t ∷ [])) e ∙ get_last a.stages t }

  pub was_before : (a : AccountView K V M) (m : ℕ) (s t : Stage K (ReadyView K V M)) → IsStage (with_request a t) m s → ((m ≡ next_of a) × (s ≡ t)) ⊎ IsStage a m s
  was_before a m s t h =
      let late : a.seen ≤ m = h.past in
      elim (get_append a.stages t (m - a.seen) s h.here) [
        | inl w ↦ inl (let e : m - a.seen ≡ length a.stages = w.0 in omega arith, w.1)
        | inr w ↦ inr (record { past = late; here = w })
      ]

  -- ---- what is kept

  pub roomier : (a : AccountView K V M) (made : List ℕ) (room more : ℕ) → AccountKept a made room → room ≤ more → AccountKept a made more
  roomier a made room more k h =
      let r = k.room_for in
      record { bounded = k.bounded; room_for = omega arith; counted = k.counted; each = k.each; all = k.all; once = k.once; numbered = k.numbered }

  -- there is room for one number more
  pub room_left : (a : AccountView K V M) (made : List ℕ) (room n : ℕ) (s : Stage K (ReadyView K V M)) → AccountKept a made room → IsStage a n s → made_one s ≡ 0 → length made < room
  room_left a made room n s k h z =
      let less = count_less a.stages (n - a.seen) s h.here z in
      let r = k.room_for in
      let counted = k.counted in
      omega arith

  -- a request is added whose reply is not made
  plain_kept : (a : AccountView K V M) (made : List ℕ) (room : ℕ) (t : Stage K (ReadyView K V M)) → AccountKept a made room → next_of a + 1 < 2 ^ 64 → length a.stages + 1 ≤ room → made_one t ≡ 0 → AccountKept (with_request a t) made room
  plain_kept a made room t k bound fits z =
      let long = append_long a.stages t in
      let more = append_count a.stages t in
      let counted = k.counted in
      record {
        bounded = omega arith;
        room_for = omega arith;
        counted = omega arith;
        each = λ i m get. let w = k.each i m get in (w.0, longer_at a m (Made w.0) t w.1);
        all = λ m ready h. elim (was_before a m (Made ready) t h) [
          | inl w ↦ not_made t ready (sym w.1) z
          | inr w ↦ k.all m ready w
        ];
        once = k.once;
        numbered = λ m ready h. elim (was_before a m (Made ready) t h) [
          | inl w ↦ not_made t ready (sym w.1) z
          | inr w ↦ k.numbered m ready w
        ];
      }

  -- a request is added whose reply is made
  made_kept : (a : AccountView K V M) (made : List ℕ) (room : ℕ) (first : ReadyView K V M) → AccountKept a made room → next_of a + 1 < 2 ^ 64 → length a.stages + 1 ≤ room → first.reply.number ≡ next_of a → AccountKept (with_request a (Made first)) (made ++ next_of a ∷ []) room
  made_kept a made room first k bound fits number =
      let long = append_long a.stages (Made first) in
      let more = append_count a.stages (Made first) in
      let most = append_long made (next_of a) in
      let counted = k.counted in
      let apart : (i m : ℕ) → slice_get made i ≡ Some m → m ≡ next_of a → ⊥ =
      (λ i m get e. let w = k.each i m get in let within = stage_within a m (Made w.0) w.1 in absurd (omega arith)) in
      record {
        bounded = omega arith;
        room_for = omega arith;
        counted = omega arith;
        each = λ i m get. elim (get_append made (next_of a) i m get) [
          | inl w ↦ (first, subst (λ (x : ℕ). IsStage (with_request a (Made first)) x (Made first)) (sym w.1) (added_at a (Made first)))
          | inr w ↦ let o = k.each i m w in (o.0, longer_at a m (Made o.0) (Made first) o.1)
        ];
        all = λ m ready h. elim (was_before a m (Made ready) (Made first) h) [
          | inl w ↦ (length made, get_last made (next_of a) ∙ ap Some (sym w.0))
          | inr w ↦ let o = k.all m ready w in (o.0, get_longer made (next_of a ∷ []) o.0 m o.1)
        ];
        once = λ i j m x y. elim (get_append made (next_of a) i m x) [
          | inl w ↦ elim (get_append made (next_of a) j m y) [
            | inl v ↦ w.0 ∙ sym v.0
            | inr v ↦ absurd (apart j m v w.1)
          ]
          | inr w ↦ elim (get_append made (next_of a) j m y) [
            | inl v ↦ absurd (apart i m w v.1)
            | inr v ↦ k.once i j m w v
          ]
        ];
        numbered = λ m ready h. elim (was_before a m (Made ready) (Made first) h) [
          | inl w ↦ let e : ready ≡ first = (let f = w.1 in cc) in ap (λ (r : ReadyView K V M). r.reply.number) e ∙ number ∙ sym w.0
          | inr w ↦ k.numbered m ready w
        ];
      }

  -- a request is added
  pub request_kept : (a : AccountView K V M) (made : List ℕ) (room : ℕ) (t : Stage K (ReadyView K V M)) → AccountKept a made room → next_of a + 1 < 2 ^ 64 → length a.stages + 1 ≤ room → IsNumbered (next_of a) t → AccountKept (with_request a t) (noted made (next_of a) t) room
  request_kept a made room (Waiting request accepted) k bound fits number = plain_kept a made room (Waiting request accepted) k bound fits refl
  request_kept a made room (Running begun) k bound fits number = plain_kept a made room (Running begun) k bound fits refl
  request_kept a made room (Made ready) k bound fits number = made_kept a made room ready k bound fits number
  request_kept a made room Collected k bound fits number = plain_kept a made room Collected k bound fits refl

  -- a request is accepted
  pub accept_kept : (a : AccountView K V M) (made : List ℕ) (room more c n : ℕ) (request : Request K) (revision : ℕ) → AccountKept a made room → room ≤ more → next_of a + 1 < 2 ^ 64 → length a.stages + 1 ≤ more → n ≡ next_of a
      → AccountKept (with_request a (first_stage c n request revision request.want)) (noted made n (first_stage {V = V} {M = M} c n request revision request.want)) more
  accept_kept a made room more c n request revision k grows bound fits e =
      subst (λ (m : ℕ). AccountKept (with_request a (first_stage c m request revision request.want)) (noted made m (first_stage {V = V} {M = M} c m request revision request.want)) more)
      (sym e)
      (request_kept a made more (first_stage c (next_of a) request revision request.want) (roomier a made room more k grows) bound fits (first_numbered V M c (next_of a) request revision request.want))

  -- a request goes on, whose reply is not made
  pub stage_kept : (a : AccountView K V M) (made : List ℕ) (room n : ℕ) (s t : Stage K (ReadyView K V M)) → AccountKept a made room → IsStage a n s → made_one s ≡ 0 → made_one t ≡ 0 → AccountKept (with_stage a n t) made room
  stage_kept a made room n s t k h y z =
      let long = set_long a.stages (n - a.seen) t in
      let same = set_count a.stages (n - a.seen) s t h.here in
      let counted = k.counted in
      let bound = k.bounded in
      let r = k.room_for in
      record {
        bounded = omega arith;
        room_for = omega arith;
        counted = omega arith;
        each = λ i m get. let w = k.each i m get in
            let ne : m ≢ n = (λ e. not_made s w.0 (one_stage a n s (Made w.0) h (subst (λ (x : ℕ). IsStage a x (Made w.0)) e w.1)) y) in
            (w.0, other_at a n m (Made w.0) t h.past ne w.1);
        all = λ m ready g. elim (was_at a n m (Made ready) t h.past g) [
          | inl w ↦ not_made t ready (sym w.1) z
          | inr w ↦ k.all m ready w.1
        ];
        once = k.once;
        numbered = λ m ready g. elim (was_at a n m (Made ready) t h.past g) [
          | inl w ↦ not_made t ready (sym w.1) z
          | inr w ↦ k.numbered m ready w.1
        ];
      }

  -- a reply is made
  pub finish_kept : (a : AccountView K V M) (made : List ℕ) (room n : ℕ) (s : Stage K (ReadyView K V M)) (new : ReadyView K V M) → AccountKept a made room → IsStage a n s → made_one s ≡ 0 → new.reply.number ≡ n → AccountKept (with_stage a n (Made new)) (made ++ n ∷ []) room
  finish_kept a made room n s new k h y number =
      let long = set_long a.stages (n - a.seen) (Made new) in
      let same = set_count a.stages (n - a.seen) s (Made new) h.here in
      let most = append_long made n in
      let counted = k.counted in
      let bound = k.bounded in
      let r = k.room_for in
      let apart : (i m : ℕ) → slice_get made i ≡ Some m → m ≡ n → ⊥ =
      (λ i m get e. let w = k.each i m get in not_made s w.0 (one_stage a n s (Made w.0) h (subst (λ (x : ℕ). IsStage a x (Made w.0)) e w.1)) y) in
      record {
        bounded = omega arith;
        room_for = omega arith;
        counted = omega arith;
        each = λ i m get. elim (get_append made n i m get) [
          | inl w ↦ (new, subst (λ (x : ℕ). IsStage (with_stage a n (Made new)) x (Made new)) (sym w.1) (set_at a n s (Made new) h))
          | inr w ↦ let o = k.each i m w in (o.0, other_at a n m (Made o.0) (Made new) h.past (λ e. apart i m w e) o.1)
        ];
        all = λ m ready g. elim (was_at a n m (Made ready) (Made new) h.past g) [
          | inl w ↦ (length made, get_last made n ∙ ap Some (sym w.0))
          | inr w ↦ let o = k.all m ready w.1 in (o.0, get_longer made (n ∷ []) o.0 m o.1)
        ];
        once = λ i j m x z. elim (get_append made n i m x) [
          | inl w ↦ elim (get_append made n j m z) [
            | inl v ↦ w.0 ∙ sym v.0
            | inr v ↦ absurd (apart j m v w.1)
          ]
          | inr w ↦ elim (get_append made n j m z) [
            | inl v ↦ absurd (apart i m w v.1)
            | inr v ↦ k.once i j m w v
          ]
        ];
        numbered = λ m ready g. elim (was_at a n m (Made ready) (Made new) h.past g) [
          | inl w ↦ let e : ready ≡ new = (let f = w.1 in cc) in ap (λ (v : ReadyView K V M). v.reply.number) e ∙ number ∙ sym w.0
          | inr w ↦ k.numbered m ready w.1
        ];
      }

  -- a reply is collected
  collects : (a : AccountView K V M) (made : List ℕ) (room n : ℕ) (ready : ReadyView K V M) → AccountKept a (n ∷ made) room → IsStage a n (Made ready) → AccountKept (with_stage a n Collected) made room
  collects a made room n ready k h =
      let long = set_long a.stages (n - a.seen) Collected in
      let same = set_count a.stages (n - a.seen) (Made ready) Collected h.here in
      let counted : suc (length made) ≡ made_count a.stages = k.counted in
      let bound = k.bounded in
      let r = k.room_for in
      record {
        bounded = omega arith;
        room_for = omega arith;
        counted = omega arith;
        each = λ i m get. let w = k.each (suc i) m get in
            let ne : m ≢ n = (λ e. let two : suc i ≡ 0 = k.once (suc i) 0 n (subst (λ (x : ℕ). slice_get made i ≡ Some x) e get) refl in absurd (omega arith)) in
            (w.0, other_at a n m (Made w.0) Collected h.past ne w.1);
        all = λ m other g. elim (was_at a n m (Made other) Collected h.past g) [
          | inl w ↦ not_made Collected other (sym w.1) refl
          | inr w ↦ rest_has m w.0 (k.all m other w.1)
        ];
        once = λ i j m x y. let e : suc i ≡ suc j = k.once (suc i) (suc j) m x y in omega arith;
        numbered = λ m other g. elim (was_at a n m (Made other) Collected h.past g) [
          | inl w ↦ not_made Collected other (sym w.1) refl
          | inr w ↦ k.numbered m other w.1
        ];
      }
    where
      rest_has : (m : ℕ) → m ≢ n → (i : ℕ) × (slice_get (n ∷ made) i ≡ Some m) → (i : ℕ) × (slice_get made i ≡ Some m)
      rest_has m ne (zero, get) = absurd (ne (sym (some_one n m get)))
      rest_has m ne (suc i, get) = (i, get)

  pub first_made : (a : AccountView K V M) (old made : List ℕ) (room n : ℕ) → AccountKept a old room → old ≡ n ∷ made → (ready : ReadyView K V M) × IsStage a n (Made ready)
  first_made a old made room n k e = k.each 0 n (ap (λ (xs : List ℕ). slice_get xs 0) e)

  pub collect_kept : (a : AccountView K V M) (old made : List ℕ) (room n : ℕ) (ready : ReadyView K V M) → AccountKept a old room → old ≡ n ∷ made → IsStage a n (Made ready) → AccountKept (with_stage a n Collected) made room
  collect_kept a old made room n ready k e h = collects a made room n ready (subst (λ (xs : List ℕ). AccountKept a xs room) e k) h

  -- what a collection answers
  pub collect_one : (a : AccountView K V M) (n : ℕ) (ready : ReadyView K V M) (stage : Stage K (ReadyView K V M)) → IsStage a n (Made ready) → ready.reply.number ≡ n → stage ≡ Collected → Collects (Some ready) a (with_stage a n stage)
  collect_one a n ready stage h e is = (
    subst (λ (m : ℕ). IsStage a m (Made ready)) (sym e) h,
    ap (λ (t : Stage K (ReadyView K V M)). with_stage a n t) is ∙ ap (λ (m : ℕ). with_stage a m Collected) (sym e),
  )

  pub collect_none : (a : AccountView K V M) (made : List ℕ) (room : ℕ) → AccountKept a made room → length made ≡ 0 → Collects None a a
  collect_none a made room k empty =
      (λ n ready h. let w = k.all n ready h in let within = get_within made w.0 n w.1 in absurd (omega arith), refl)

  -- the first replies are acknowledged
  pub may_within : (a : AccountView K V M) (n : ℕ) → MaySee a n → n ≤ next_of a
  may_within a n h = by (before_or_not a.seen n)
    where
      by : (a.seen < n) ⊎ (n ≤ a.seen) → n ≤ next_of a
      by (inl less) =
          let last = stage_within a (n - 1) Collected (h.collected (n - 1) (omega arith) (omega arith)) in
          omega arith
      by (inr same) = omega arith

  -- the first stages of an account to which they may be acknowledged
  pub gone_of : (a : AccountView K V M) (n : ℕ) → MaySee a n → (i : ℕ) → i < n - a.seen → slice_get a.stages i ≡ Some Collected
  gone_of a n h i less =
      let later = h.later in
      let e : (a.seen + i) - a.seen ≡ i = omega arith in
      ap (slice_get a.stages) (sym e) ∙ (h.collected (a.seen + i) (omega arith) (omega arith)).here

  pub may_see : (a : AccountView K V M) (n : ℕ) → a.seen ≤ n → ((i : ℕ) → i < n - a.seen → slice_get a.stages i ≡ Some Collected) → MaySee a n
  may_see a n later all = record { later = later; collected = λ i past less. record { past = past; here = all (i - a.seen) (omega arith) } }

  pub see_early : (a : AccountView K V M) (n : ℕ) → n < a.seen → Sees n a a
  see_early a n less = record { told = λ h. let later = h.later in absurd (omega arith); ignored = λ f. refl }

  pub see_far : (a : AccountView K V M) (n : ℕ) → next_of a < n → Sees n a a
  see_far a n less = record { told = λ h. let within = may_within a n h in absurd (omega arith); ignored = λ f. refl }

  pub see_open : (a : AccountView K V M) (n : ℕ) → (((i : ℕ) → i < n - a.seen → slice_get a.stages i ≡ Some Collected) → ⊥) → Sees n a a
  see_open a n none = record { told = λ h. absurd (none (gone_of a n h)); ignored = λ f. refl }

  pub see_done : (a : AccountView K V M) (n : ℕ) (stages : List (Stage K (ReadyView K V M))) → MaySee a n → stages ≡ drop (n - a.seen) a.stages → Sees n a (record { seen = n; stages = stages })
  see_done a n stages h e = record {
    told = λ _. ap (λ (ss : List (Stage K (ReadyView K V M))). record { seen = n; stages = ss }) e;
    ignored = λ f. absurd (f h);
  }

  pub seen_here : (a : AccountView K V M) (n m : ℕ) → a.seen ≤ n → n ≤ m → slice_get (drop (n - a.seen) a.stages) (m - n) ≡ slice_get a.stages (m - a.seen)
  seen_here a n m later past = get_drop a.stages (n - a.seen) (m - n) (m - a.seen) (omega arith)

  pub was_seen : (a : AccountView K V M) (n m : ℕ) (s : Stage K (ReadyView K V M)) → a.seen ≤ n → IsStage (seen_below a n) m s → IsStage a m s
  was_seen a n m s later h =
      let past : n ≤ m = h.past in
      record { past = omega arith; here = sym (seen_here a n m later past) ∙ h.here }

  pub see_kept : (a : AccountView K V M) (made : List ℕ) (room n : ℕ) → AccountKept a made room → MaySee a n → AccountKept (seen_below a n) made room
  see_kept a made room n k h =
      let later = h.later in
      let within = may_within a n h in
      let long = length-drop (n - a.seen) a.stages in
      let gone : made_count (drop (n - a.seen) a.stages) ≡ made_count a.stages =
      drop_count a.stages (n - a.seen) (gone_of a n h) in
      let counted = k.counted in
      let bound = k.bounded in
      let r = k.room_for in
      record {
        bounded = omega arith;
        room_for = omega arith;
        counted = omega arith;
        each = λ i m get. let w = k.each i m get in
            let past : n ≤ m = elim (before_or_not m n) [
              | inl less ↦ not_made Collected w.0 (one_stage a m Collected (Made w.0) (h.collected m w.1.past less) w.1) refl
              | inr late ↦ late
            ] in
            (w.0, record { past = past; here = seen_here a n m later past ∙ w.1.here });
        all = λ m ready g. k.all m ready (was_seen a n m (Made ready) later g);
        once = k.once;
        numbered = λ m ready g. k.numbered m ready (was_seen a n m (Made ready) later g);
      }

-- whether numbers may be acknowledged
module _ {K V M : Type 0} where
  -- whether the first `k` stages are of replies that were collected
  all_or_not : (stages : List (Stage K (ReadyView K V M))) (k : ℕ) → ((i : ℕ) → i < k → slice_get stages i ≡ Some Collected) ⊎ (((i : ℕ) → i < k → slice_get stages i ≡ Some Collected) → ⊥)
  all_or_not stages zero = inl (λ i less. absurd (omega arith))
  all_or_not [] (suc k) = inr (λ f. nothing_there Collected (f 0 (omega arith)))
  all_or_not (Waiting request accepted ∷ stages) (suc k) = inr (λ f. let e = some_one (Waiting request accepted) Collected (f 0 (omega arith)) in cc)
  all_or_not (Running begun ∷ stages) (suc k) = inr (λ f. let e = some_one (Running begun) Collected (f 0 (omega arith)) in cc)
  all_or_not (Made ready ∷ stages) (suc k) = inr (λ f. let e = some_one (Made ready) Collected (f 0 (omega arith)) in cc)
  all_or_not (Collected ∷ stages) (suc k) = elim (all_or_not stages k) [
    | inl f ↦ inl (first_too f)
    | inr f ↦ inr (λ g. f (λ i less. g (suc i) (omega arith)))
  ]
    where
      first_too : ((i : ℕ) → i < k → slice_get stages i ≡ Some Collected) → (i : ℕ) → i < suc k → slice_get (Collected ∷ stages) i ≡ Some Collected
      first_too f zero less = refl
      first_too f (suc i) less = f i (omega arith)

  pub may_or_not : (a : AccountView K V M) (n : ℕ) → MaySee a n ⊎ (MaySee a n → ⊥)
  may_or_not a n = elim (before_or_not n a.seen) [
    | inl early ↦ inr (λ h. let later = h.later in absurd (omega arith))
    | inr late ↦ elim (all_or_not a.stages (n - a.seen)) [
      | inl f ↦ inl (may_see a n late f)
      | inr f ↦ inr (λ h. f (gone_of a n h))
    ]
  ]
