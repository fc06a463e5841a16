-- The places of the keys of a stack, when frames are pushed and popped, and the search of a key.
use Rattle.std.proofs.Common.{◌≡◌, ℕ, zero, suc, ◌+◌, ◌<◌, List, [], ◌∷◌, ◌++◌, ◌⊎◌, length, take, get_or, ◌≤◌, Option, Some, None, refl, sym, ◌∙◌, ap, subst, inl, inr, arith, Bool, true, cond}
use Rattle.std.specs.declared.cmp.Ordering.{Ordering}
use Rattle.std.specs.Ordering.{is_eq}
use Rattle.std.specs.Cmp.{Equal-is, tied_itself}
use Rattle.std.proofs.lemmas.Option.{same_Some}
use Rattle.std.proofs.lemmas.Bool.{cases_Bool}
use Rattle.pq_rules.proofs.Weight.{Exact}
use Rattle.pq_rules.specs.Relations.{In}
use Rattle.pq_memo.specs.declared.stepping.frame.Frame.{Frame}
use Rattle.pq_memo.specs.Frames.{frame_keys}
use Rattle.pq_memo.specs.aux.Stack.{place_in, IsNoted, nth, IsMapped}
use Rattle.pq_memo.proofs.Stacked.{keys_append}

-- a place that was put
pub noted_by : {K : Type 0} (order : K → K → Ordering) → Exact order → (before after : List (K × ℕ)) (k copy : K) (place : ℕ) → copy ≡ k
    → ((q : K) → place_in order after q ≡ cond (is_eq (order copy q)) (Some place) (place_in order before q)) → IsNoted order before k place after
noted_by {K} order exact before after k copy place same puts = record {
  here = puts k ∙ ap (λ (b : Bool). cond b (Some place) (place_in order before k)) tied;
  others = λ q other. elim (cases_Bool (is_eq (order copy q))) [
    | inl is ↦ absurd (other (sym (exact.exact copy q ((Equal-is (order copy q)).0 is)) ∙ same))
    | inr not ↦ puts q ∙ ap (λ (b : Bool). cond b (Some place) (place_in order before q)) not
  ];
}
  where
    tied : is_eq (order copy k) ≡ true
    tied = subst (λ (x : K). is_eq (order copy x) ≡ true) same ((Equal-is (order copy copy)).1 (tied_itself exact.total copy))

pub no_place : (place : ℕ) → None ≡ Some place → ⊥
no_place place e = cc

no_key : {A : Type 0} (x : A) → None ≡ Some x → ⊥
no_key x e = cc

module _ {K : Type 0} where
  pub nth_in : (ks : List K) (i : ℕ) (k : K) → nth ks i ≡ Some k → In k ks
  nth_in [] i k h = absurd (no_key k h)
  nth_in (q ∷ ks) zero k h = inl (sym (same_Some q k h))
  nth_in (q ∷ ks) (suc i) k h = inr (nth_in ks i k h)

  pub in_nth : (ks : List K) (k : K) → In k ks → (i : ℕ) × (nth ks i ≡ Some k)
  in_nth [] k j = absurd j
  in_nth (q ∷ ks) k (inl e) = (0, ap (λ (x : K). Some x) (sym e))
  in_nth (q ∷ ks) k (inr j) = let r = in_nth ks k j in (suc r.0, r.1)

  pub nth_within : (ks : List K) (i : ℕ) (k : K) → nth ks i ≡ Some k → i < length ks
  nth_within [] i k h = absurd (no_key k h)
  nth_within (q ∷ ks) zero k h = omega arith
  nth_within (q ∷ ks) (suc i) k h = let l : i < length ks = nth_within ks i k h in omega arith

  nth_front : (ks more : List K) (i : ℕ) (k : K) → nth ks i ≡ Some k → nth (ks ++ more) i ≡ Some k
  nth_front [] more i k h = absurd (no_key k h)
  nth_front (q ∷ ks) more zero k h = h
  nth_front (q ∷ ks) more (suc i) k h = nth_front ks more i k h

  nth_pushed : (ks : List K) (new : K) (i : ℕ) (k : K) → nth (ks ++ new ∷ []) i ≡ Some k → (nth ks i ≡ Some k) ⊎ ((i ≡ length ks) × (k ≡ new))
  nth_pushed [] new zero k h = inr (refl, sym (same_Some new k h))
  nth_pushed [] new (suc i) k h = absurd (no_key k h)
  nth_pushed (q ∷ ks) new zero k h = inl h
  nth_pushed (q ∷ ks) new (suc i) k h = elim (nth_pushed ks new i k h) [
    | inl j ↦ inl j
    | inr j ↦ inr (ap (λ (n : ℕ). suc n) j.0, j.1)
  ]

-- the keys of frames
pub nth_frame : {K P : Type 0} (fs : List (Frame K P)) (i : ℕ) (f : Frame K P) → i < length fs → f ≡ get_or fs i f → nth (frame_keys fs) i ≡ Some f.key
nth_frame [] i f h is = absurd (omega arith)
nth_frame {K} {P} (g ∷ gs) zero f h is = ap (λ (x : Frame K P). Some x.key) (sym is)
nth_frame (g ∷ gs) (suc i) f h is = nth_frame gs i f (omega arith) is

pub keys_length : {K P : Type 0} (fs : List (Frame K P)) → length (frame_keys fs) ≡ length fs
keys_length [] = refl
keys_length (f ∷ fs) = ap (λ (n : ℕ). suc n) (keys_length fs)

module _ {K : Type 0} (order : K → K → Ordering) where
  -- one key more is mapped
  pub mapped_next : (before after : List (K × ℕ)) (mapped : ℕ) (ks : List K) (k : K) → mapped < length ks → nth ks mapped ≡ Some k → IsNoted order before k mapped after
      → IsMapped order before mapped ks → IsMapped order after (mapped + 1) ks
  mapped_next before after mapped ks k low there noted x = record {
    within = omega arith;
    indexed = λ i q below h. elim (at_or i below) [
      | inl last ↦ (let at : nth ks mapped ≡ Some q = subst (λ (n : ℕ). nth ks n ≡ Some q) last h in
          subst (λ (y : K). place_in order after y ≡ Some i) (same_Some k q (sym there ∙ at)) (noted.here ∙ ap (λ (n : ℕ). Some n) (sym last)))
      | inr lower ↦ noted.others q (λ e. no_less i mapped lower (x.distinct i mapped k (subst (λ (y : K). nth ks i ≡ Some y) e h) there)) ∙ x.indexed i q lower h
    ];
    distinct = x.distinct;
  }
    where
      at_or : (i : ℕ) → i < mapped + 1 → (i ≡ mapped) ⊎ (i < mapped)
      at_or i h = grind arith

      no_less : (i n : ℕ) → i < n → i ≡ n → ⊥
      no_less i n h e = omega arith

  pub mapped_pushed : (places : List (K × ℕ)) (mapped : ℕ) (ks : List K) (new : K) → (In new ks → ⊥) → IsMapped order places mapped ks
      → IsMapped order places mapped (ks ++ new ∷ [])
  mapped_pushed places mapped ks new out x = record {
    within = longer ks new x.within;
    indexed = λ i k low h. elim (nth_pushed ks new i k h) [
      | inl j ↦ x.indexed i k low j
      | inr j ↦ absurd (too_low i low j.0)
    ];
    distinct = λ i j k h g. elim (nth_pushed ks new i k h) [
      | inl a ↦ elim (nth_pushed ks new j k g) [
        | inl b ↦ x.distinct i j k a b
        | inr b ↦ absurd (out (subst (λ (y : K). In y ks) b.1 (nth_in ks i k a)))
      ]
      | inr a ↦ elim (nth_pushed ks new j k g) [
        | inl b ↦ absurd (out (subst (λ (y : K). In y ks) a.1 (nth_in ks j k b)))
        | inr b ↦ a.0 ∙ sym b.0
      ]
    ];
  }
    where
      longer : (ls : List K) (q : K) → mapped ≤ length ls → mapped ≤ length (ls ++ q ∷ [])
      longer ls q h = let e : length (ls ++ q ∷ []) ≡ length ls + 1 = one_more ls q in omega arith
        where
          one_more : (ls : List K) (q : K) → length (ls ++ q ∷ []) ≡ length ls + 1
          one_more [] q = refl
          one_more (l ∷ ls) q = let e : length (ls ++ q ∷ []) ≡ length ls + 1 = one_more ls q in omega arith

      too_low : (i : ℕ) → i < mapped → i ≡ length ks → ⊥
      too_low i low e = let w : mapped ≤ length ks = x.within in omega arith

  -- the first of the keys
  pub mapped_front : (places : List (K × ℕ)) (mapped lower : ℕ) (all ks more : List K) → all ≡ ks ++ more → lower ≤ mapped → lower ≤ length ks
      → IsMapped order places mapped all → IsMapped order places lower ks
  mapped_front places mapped lower all ks more whole low short x = record {
    within = short;
    indexed = λ i k below h. x.indexed i k (omega arith) (there i k h);
    distinct = λ i j k h g. x.distinct i j k (there i k h) (there j k g);
  }
    where
      there : (i : ℕ) (k : K) → nth ks i ≡ Some k → nth all i ≡ Some k
      there i k h = subst (λ (l : List K). nth l i ≡ Some k) (sym whole) (nth_front ks more i k h)

  -- a key that is neither scanned nor at its noted place is not on the stack
  pub not_there : (places : List (K × ℕ)) (mapped : ℕ) (k : K) (ks : List K) → IsMapped order places mapped ks
      → ((i : ℕ) → mapped ≤ i → nth ks i ≡ Some k → ⊥) → (place : ℕ) → place_in order places k ≡ Some place
      → (nth ks place ≡ Some k → ⊥) → In k ks → ⊥
  not_there places mapped k ks x scanned place is other j =
      let r = in_nth ks k j in
      elim (low_or r.0) [
        | inl low ↦ other (subst (λ (n : ℕ). nth ks n ≡ Some k) (same_Some r.0 place (sym (x.indexed r.0 k low r.1) ∙ is)) r.1)
        | inr high ↦ scanned r.0 high r.1
      ]
    where
      low_or : (i : ℕ) → (i < mapped) ⊎ (mapped ≤ i)
      low_or i = grind arith

  pub not_noted : (places : List (K × ℕ)) (mapped : ℕ) (k : K) (ks : List K) → IsMapped order places mapped ks
      → ((i : ℕ) → mapped ≤ i → nth ks i ≡ Some k → ⊥) → ((place : ℕ) → place_in order places k ≡ Some place → ⊥) → In k ks → ⊥
  not_noted places mapped k ks x scanned none j =
      let r = in_nth ks k j in
      elim (low_or r.0) [
        | inl low ↦ none r.0 (x.indexed r.0 k low r.1)
        | inr high ↦ scanned r.0 high r.1
      ]
    where
      low_or : (i : ℕ) → (i < mapped) ⊎ (mapped ≤ i)
      low_or i = grind arith

pub not_scanned : {K : Type 0} (mapped : ℕ) (k : K) (ks : List K) → mapped ≡ 0 → ((i : ℕ) → mapped ≤ i → nth ks i ≡ Some k → ⊥) → In k ks → ⊥
not_scanned mapped k ks low scanned j = let r = in_nth ks k j in scanned r.0 (omega arith) r.1

-- the frames that a scan passed
module _ {K P : Type 0} where
  pub passed_none : (fs : List (Frame K P)) (from : ℕ) (key : K) (i : ℕ) → from ≤ i → i < from → nth (frame_keys fs) i ≡ Some key → ⊥
  passed_none fs from key i low high h = omega arith

  pub passed_next : (fs : List (Frame K P)) (from place : ℕ) (key : K) (f : Frame K P) → place < length fs → f ≡ get_or fs place f → ((get_or fs place f).key ≡ key → ⊥)
      → ((i : ℕ) → from ≤ i → i < place → nth (frame_keys fs) i ≡ Some key → ⊥)
      → (i : ℕ) → from ≤ i → i < place + 1 → nth (frame_keys fs) i ≡ Some key → ⊥
  passed_next fs from place key f within is other before i low high h = elim (at_or i high) [
    | inl last ↦ other (ap (λ (g : Frame K P). g.key) (sym is) ∙ same_Some f.key key (sym (nth_frame fs place f within is) ∙ subst (λ (n : ℕ). nth (frame_keys fs) n ≡ Some key) last h))
    | inr lower ↦ before i low lower h
  ]
    where
      at_or : (i : ℕ) → i < place + 1 → (i ≡ place) ⊎ (i < place)
      at_or i h = grind arith

  pub passed_all : (fs : List (Frame K P)) (from place : ℕ) (key : K) → length fs ≤ place
      → ((i : ℕ) → from ≤ i → i < place → nth (frame_keys fs) i ≡ Some key → ⊥)
      → (i : ℕ) → from ≤ i → nth (frame_keys fs) i ≡ Some key → ⊥
  passed_all fs from place key long before i low h =
      let w : i < length (frame_keys fs) = nth_within (frame_keys fs) i key h in
      let l : length (frame_keys fs) ≡ length fs = keys_length fs in
      before i low (let z : i < place = omega arith in z) h

module _ {K P : Type 0} (order : K → K → Ordering) where
  pub next_mapped : (before after : List (K × ℕ)) (mapped : ℕ) (fs : List (Frame K P)) (f : Frame K P) → mapped < length fs → f ≡ get_or fs mapped f
      → IsNoted order before (get_or fs mapped f).key mapped after → IsMapped order before mapped (frame_keys fs) → IsMapped order after (mapped + 1) (frame_keys fs)
  next_mapped before after mapped fs f low is noted x =
      mapped_next order before after mapped (frame_keys fs) f.key (let l : length (frame_keys fs) ≡ length fs = keys_length fs in let z : mapped < length (frame_keys fs) = omega arith in z)
      (nth_frame fs mapped f low is) (subst (λ (g : Frame K P). IsNoted order before g.key mapped after) (sym is) noted) x

  pub pushed_mapped : (places : List (K × ℕ)) (mapped : ℕ) (now slice fs new : List (Frame K P)) (f : Frame K P) → slice ≡ fs → fs ≡ now → new ≡ fs ++ f ∷ []
      → (In f.key (frame_keys now) → ⊥) → IsMapped order places mapped (frame_keys slice) → IsMapped order places mapped (frame_keys new)
  pushed_mapped places mapped now slice fs new f value view pushed out x =
      subst (λ (l : List K). IsMapped order places mapped l) (sym (ap (λ (l : List (Frame K P)). frame_keys l) pushed ∙ keys_append fs (f ∷ [])))
      (mapped_pushed order places mapped (frame_keys fs) f.key (subst (λ (l : List (Frame K P)). In f.key (frame_keys l) → ⊥) (sym view) out)
      (subst (λ (l : List (Frame K P)). IsMapped order places mapped (frame_keys l)) value x))

  pub popped_mapped : (places : List (K × ℕ)) (mapped lower : ℕ) (all fs gs slice : List (Frame K P)) → all ≡ fs ++ gs → slice ≡ fs → lower ≤ mapped → lower ≤ length slice
      → IsMapped order places mapped (frame_keys all) → IsMapped order places lower (frame_keys fs)
  popped_mapped places mapped lower all fs gs slice whole value low short x =
      mapped_front order places mapped lower (frame_keys all) (frame_keys fs) (frame_keys gs) (ap (λ (l : List (Frame K P)). frame_keys l) whole ∙ keys_append fs gs) low
      (let l : length (frame_keys fs) ≡ length fs = keys_length fs in let v : length slice ≡ length fs = ap (λ (l : List (Frame K P)). length l) value in
      let z : lower ≤ length (frame_keys fs) = omega arith in z) x

  pub taken_mapped : (places : List (K × ℕ)) (mapped lower place : ℕ) (all now new : List (Frame K P)) → new ≡ take place all → all ≡ now → place < length now
      → lower ≤ mapped → lower ≤ place → IsMapped order places mapped (frame_keys all) → IsMapped order places lower (frame_keys new)
  taken_mapped places mapped lower place all now new is view within low short x =
      let len : length all ≡ length now = ap (λ (l : List (Frame K P)). length l) view in
      subst (λ (l : List (Frame K P)). IsMapped order places lower (frame_keys l)) (sym is)
      (record {
        within = (let t : length (frame_keys (take place all)) ≡ place = taken place all (let z : place ≤ length all = omega arith in z) in let z : lower ≤ length (frame_keys (take place all)) = omega arith in z);
        indexed = λ i k below h. x.indexed i k (let z : i < mapped = omega arith in z) (there place all i k h);
        distinct = λ i j k h g. x.distinct i j k (there place all i k h) (there place all j k g);
      })
    where
      taken : (n : ℕ) (fs : List (Frame K P)) → n ≤ length fs → length (frame_keys (take n fs)) ≡ n
      taken zero fs h = refl
      taken (suc n) [] h = absurd (omega arith)
      taken (suc n) (f ∷ fs) h = ap (λ (m : ℕ). suc m) (taken n fs (let z : n ≤ length fs = omega arith in z))

      there : (n : ℕ) (fs : List (Frame K P)) (i : ℕ) (k : K) → nth (frame_keys (take n fs)) i ≡ Some k → nth (frame_keys fs) i ≡ Some k
      there zero fs i k h = absurd (no_key k h)
      there (suc n) [] i k h = absurd (no_key k h)
      there (suc n) (f ∷ fs) zero k h = h
      there (suc n) (f ∷ fs) (suc i) k h = there n fs i k h

-- a key that is not on the stack
module _ {K P : Type 0} (order : K → K → Ordering) (places : List (K × ℕ)) (mapped : ℕ) (key : K) (fs slice now : List (Frame K P)) (value : slice ≡ fs) (view : fs ≡ now)
    (x : IsMapped order places mapped (frame_keys fs)) where
  pub scan_within : mapped ≤ length slice
  scan_within =
      let w : mapped ≤ length (frame_keys fs) = x.within in
      let l : length (frame_keys fs) ≡ length fs = keys_length fs in
      let v : length slice ≡ length fs = ap (λ (l : List (Frame K P)). length l) value in omega arith

  module _ (scanned : (i : ℕ) → mapped ≤ i → nth (frame_keys slice) i ≡ Some key → ⊥) where
    here : (In key (frame_keys slice) → ⊥) → In key (frame_keys now) → ⊥
    here out = subst (λ (l : List (Frame K P)). In key (frame_keys l) → ⊥) (value ∙ view) out

    there : IsMapped order places mapped (frame_keys slice)
    there = subst (λ (l : List (Frame K P)). IsMapped order places mapped (frame_keys l)) (sym value) x

    pub off_low : mapped ≡ 0 → In key (frame_keys now) → ⊥
    off_low low = here (not_scanned mapped key (frame_keys slice) low scanned)

    pub off_unnoted : (r : Option ℕ) → r ≡ place_in order places key → r ≡ None → In key (frame_keys now) → ⊥
    off_unnoted r noted none = here (not_noted order places mapped key (frame_keys slice) there scanned (λ place e. no_place place (sym none ∙ noted ∙ e)))

    pub off_beyond : (r : Option ℕ) (place : ℕ) → r ≡ place_in order places key → r ≡ Some place → length slice ≤ place → In key (frame_keys now) → ⊥
    off_beyond r place noted is long = here (not_there order places mapped key (frame_keys slice) there scanned place (sym noted ∙ is) (λ h.
        (let w : place < length (frame_keys slice) = nth_within (frame_keys slice) place key h in
        let l : length (frame_keys slice) ≡ length slice = keys_length slice in
        let z : ⊥ = omega arith in z)))

    pub off_other : (r : Option ℕ) (place : ℕ) (f : Frame K P) → r ≡ place_in order places key → r ≡ Some place → place < length slice → f ≡ get_or slice place f
        → ((get_or slice place f).key ≡ key → ⊥) → In key (frame_keys now) → ⊥
    off_other r place f noted is within at other = here (not_there order places mapped key (frame_keys slice) there scanned place (sym noted ∙ is) (λ h.
        other (ap (λ (g : Frame K P). g.key) (sym at) ∙ same_Some f.key key (sym (nth_frame slice place f within at) ∙ h))))
