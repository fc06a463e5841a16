-- Lists: elements, splits and frames; and the lists of std, which speak of indexes (`each_all`,
-- `in_contains`, and back).
use Rattle.std.proofs.Common.{◌≡◌, ℕ, zero, suc, ◌+◌, ◌<◌, Some, slice_get, length-append, List, [], ◌∷◌, ◌++◌, length, take, drop, get_or, refl, sym, ap, subst, ◌∙◌, inl, inr, arith, append_assoc, Bool, true, false}
use Rattle.std.specs.List.{All, Contains}
use Rattle.std.proofs.lemmas.List.Elements.{All-nil, All-cons, All-head, All-tail}
use Rattle.pq_rules.specs.aux.AnswerTable.{Finished, done_keys}
use Rattle.pq_rules.specs.declared.scratch.Frame.{Frame}
use Rattle.pq_rules.specs.Relations.{Each, In}
use Rattle.pq_rules.specs.aux.Lists.{in_append, in_append_left, in_append_right}
use Rattle.pq_rules.specs.aux.Evaluator.{frame_keys, Distinct}

pub one_more_key : {K P : Type 0} (xs : List (Frame K P)) (i : ℕ) (d : Frame K P) → i < length xs
    → frame_keys (take (suc i) xs) ≡ frame_keys (take i xs) ++ (get_or xs i d).key ∷ []
one_more_key [] i d h = absurd (omega arith)
one_more_key (x ∷ xs) zero d h = refl
one_more_key (x ∷ xs) (suc i) d h = ap (λ ks. x.key ∷ ks) (one_more_key xs i d (omega arith))

pub in_at : {A : Type 0} (xs : List A) (i : ℕ) (d : A) → i < length xs → In (get_or xs i d) xs
in_at [] i d h = absurd (omega arith)
in_at (x ∷ xs) zero d h = inl refl
in_at (x ∷ xs) (suc i) d h = inr (in_at xs i d (omega arith))

-- a list with one item more
pub last_length : {A : Type 0} (xs : List A) (x : A) → length (xs ++ x ∷ []) ≡ length xs + 1
last_length xs x = length-append xs (x ∷ [])

pub get_last : {A : Type 0} (xs : List A) (x : A) → slice_get (xs ++ x ∷ []) (length xs) ≡ Some x
get_last [] x = refl
get_last (y ∷ xs) x = get_last xs x

pub frame_keys_append : {K P : Type 0} (xs ys : List (Frame K P)) → frame_keys (xs ++ ys) ≡ frame_keys xs ++ frame_keys ys
frame_keys_append [] ys = refl
frame_keys_append (x ∷ xs) ys = ap (λ ks. x.key ∷ ks) (frame_keys_append xs ys)

pub done_keys_append : {K V : Type 0} (xs ys : List (Finished K V)) → done_keys (xs ++ ys) ≡ done_keys xs ++ done_keys ys
done_keys_append [] ys = refl
done_keys_append (x ∷ xs) ys = ap (λ ks. x.key ∷ ks) (done_keys_append xs ys)

pub each_from : {A : Type 0} (P : A → Type 0) (xs : List A) → ((x : A) → In x xs → P x) → Each P xs
each_from P [] f = tt
each_from P (x ∷ xs) f = (f x (inl refl), each_from P xs (λ y i. f y (inr i)))

pub in_index : {A : Type 0} (x d : A) (xs : List A) → In x xs → (i : ℕ) × (i < length xs) × (get_or xs i d ≡ x)
in_index x d [] i = absurd i
in_index x d (y ∷ ys) (inl p) = (zero, omega arith, sym p)
in_index x d (y ∷ ys) (inr i) = let r = in_index x d ys i in
    (suc r.0, let h : r.0 < length ys = r.1 in omega arith, r.2)

pub in_keys : {K P : Type 0} (k : K) (fs : List (Frame K P)) → In k (frame_keys fs)
    → (f : Frame K P) × In f fs × (f.key ≡ k)
in_keys k [] i = absurd i
in_keys k (f ∷ fs) (inl p) = (f, inl refl, sym p)
in_keys k (f ∷ fs) (inr i) = let r = in_keys k fs i in (r.0, inr r.1, r.2)

-- a list split at a place: the items before it, the item there, and the items after it
pub record Split {A : Type 0} (xs : List A) (i : ℕ) : Type 0 where
  pub item : A
  pub front : List A
  pub back : List A
  pub whole : xs ≡ front ++ item ∷ back
  pub taken : take i xs ≡ front
  pub left : drop i xs ≡ item ∷ back
  pub at : (d : A) → get_or xs i d ≡ item

pub split : {A : Type 0} (xs : List A) (i : ℕ) → i < length xs → Split xs i
split [] i h = absurd (omega arith)
split (x ∷ xs) zero h = record { item = x; front = []; back = xs; whole = refl; taken = refl; left = refl; at = λ d. refl }
split (x ∷ xs) (suc i) h =
    let s = split xs i (omega arith) in
    record {
      item = s.item;
      front = x ∷ s.front;
      back = s.back;
      whole = ap (λ ys. x ∷ ys) s.whole;
      taken = ap (λ ys. x ∷ ys) s.taken;
      left = s.left;
      at = s.at;
    }

pub distinct_middle : {K : Type 0} (xs : List K) (z : K) (ys : List K) → Distinct (xs ++ z ∷ ys) → In z (ys ++ xs) → ⊥
unfolding Distinct
distinct_middle [] z ys d i = elim (in_append z ys [] i) [ inl j ↦ d.0 j | inr j ↦ j ]
distinct_middle {K} (x ∷ xs) z ys d i =
    elim (in_append z ys (x ∷ xs) i) [
      | inl j ↦ distinct_middle xs z ys d.1 (in_append_left z ys xs j)
      | inr (inl p) ↦ d.0 (subst (λ (w : K). In w (xs ++ z ∷ ys)) p (in_append_right z xs (z ∷ ys) (inl refl)))
      | inr (inr j) ↦ distinct_middle xs z ys d.1 (in_append_right z ys xs j)
    ]

pub in_there : {A : Type 0} (xs : List A) (i : ℕ) (x : A) → x ≡ get_or xs i x → i < length xs → In x xs
in_there {A} xs i x e h = subst (λ (y : A). In y xs) (sym e) (in_at xs i x h)

pub not_both : {b : Bool} → b ≡ true → b ≡ false → ⊥
not_both p q = cc

pub pushed_key : {K P : Type 0} (all before after : List K) (fs : List (Frame K P)) (i : ℕ) (f : Frame K P) (k : K)
    → i < length fs → before ≡ all ++ frame_keys (take i fs) → f ≡ get_or fs i f → k ≡ f.key
    → after ≡ before ++ k ∷ [] → after ≡ all ++ frame_keys (take (suc i) fs)
pushed_key {K} {P} all before after fs i f k h b is key a =
    let more : frame_keys (take (suc i) fs) ≡ frame_keys (take i fs) ++ (get_or fs i f).key ∷ [] = one_more_key fs i f h in
    let same : k ≡ (get_or fs i f).key = key ∙ ap (λ (g : Frame K P). g.key) is in
    rw (more, a, b, same, append_assoc)

-- `Each` by indexes, and back
pub each_all : {A : Type 0} (P : A → Type 0) (xs : List A) → Each P xs → All P xs
each_all P [] e = All-nil P
each_all P (x ∷ xs) e = All-cons P x xs e.0 (each_all P xs e.1)

pub all_each : {A : Type 0} (P : A → Type 0) (xs : List A) → All P xs → Each P xs
all_each P [] a = tt
all_each P (x ∷ xs) a = (All-head P x xs a, all_each P xs (All-tail P x xs a))

-- `In` by indexes, and back
pub in_contains : {A : Type 0} (x : A) (xs : List A) → In x xs → Contains xs x
in_contains x xs i = let r = in_index x x xs i in (r.0, r.1, r.2)

pub contains_in : {A : Type 0} (x : A) (xs : List A) → Contains xs x → In x xs
contains_in x xs c = in_there xs c.0 x (sym c.2) c.1
