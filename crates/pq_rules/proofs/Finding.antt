-- The table of answers: what looking up, adding and pointing do to the keys and their answers.
use Rattle.std.proofs.Common.{◌≡◌, ℕ, zero, suc, ◌⊎◌, ◌<◌, List, [], ◌∷◌, ◌++◌, length, slice_get, refl, sym, ap, subst, ◌∙◌, inl, inr, arith, length-append, Bool, true, Option, Some, None}
use Rattle.std.proofs.lemmas.Bool.{cases_Bool}
use Rattle.std.specs.Map.{lookup}
use Rattle.std.specs.BTreeMap.{is_at, insert_entry}
use Rattle.std.specs.Cmp.{Equal-is, tied_itself}
use Rattle.std.specs.declared.cmp.Ordering.{Ordering}
use Rattle.std.specs.declared.cmp.Ordering.TheVariants.{Less, Equal, Greater}
use Rattle.std.specs.Ordering.{is_eq}
use Rattle.pq_rules.specs.declared.turn.Answer.{Answer}
use Rattle.pq_rules.specs.Turns.{Instance}
use Rattle.pq_rules.specs.Relations.{In}
use Rattle.pq_rules.specs.Value.{Means}
use Rattle.pq_rules.specs.aux.AnswerTable.{Finished, Places, Within, Covers, entry, finished, finished_at, finished_in, done_keys}
use Rattle.pq_rules.specs.aux.Evaluator.{Grows}
use Rattle.pq_rules.proofs.Rings.{each_in}
use Rattle.pq_rules.proofs.Characterisation.{each_append}
use Rattle.pq_rules.specs.aux.Lists.{in_append, in_append_left, in_append_right}
use Rattle.pq_rules.proofs.ListLemmas.{each_from, get_last, done_keys_append}
use Rattle.pq_rules.proofs.Weight.{Exact}

-- an entry of the list
entry_in : {K V : Type 0} (k : K) (a : Answer K V) (o : Option (Answer K V)) (fs : List (Finished K V)) → o ≡ Some a
    → In (record { key = k; answer = a }) (finished_at k o ++ fs)
entry_in k a None fs e = cc
entry_in k a (Some b) fs e = let same : b ≡ a = cc in inl (ap (λ x. record { key = k; answer = x }) (sym same))

pub found_in : {K V : Type 0} (order : K → K → Ordering) → Exact order → (k : K) (i : ℕ) (a : Answer K V)
    (places : List (K × ℕ)) (answers : List (Answer K V))
    → lookup (is_at (order k)) places ≡ Some i → slice_get answers i ≡ Some a
    → In (record { key = k; answer = a }) (finished_in places answers)
found_in order o k i a [] answers l s = cc
found_in {K} {V} order o k i a (e ∷ es) answers l s = elim (cases_Bool (is_eq (order k e.0))) [
  | inl h ↦ let place : Some e.1 ≡ Some i = rw h at l in
      let same : e.1 ≡ i = cc in
      let key : k ≡ e.0 = o.exact k e.0 ((Equal-is (order k e.0)).0 h) in
      let there : slice_get answers e.1 ≡ Some a = ap (λ (x : ℕ). slice_get answers x) same ∙ s in
      subst (λ (x : K). In (record { key = x; answer = a }) (finished_at e.0 (slice_get answers e.1) ++ finished_in es answers)) (sym key)
      (entry_in e.0 a (slice_get answers e.1) (finished_in es answers) there)
  | inr h ↦ in_append_right (record { key = k; answer = a }) (finished_at e.0 (slice_get answers e.1)) (finished_in es answers)
      (found_in order o k i a es answers (rw h at l) s)
]

key_at : {K V : Type 0} (k x : K) (o : Option (Answer K V)) → In k (done_keys (finished_at x o)) → k ≡ x
key_at k x None i = absurd i
key_at k x (Some a) (inl e) = e
key_at k x (Some a) (inr i) = absurd i

pub not_found : {K V : Type 0} (order : K → K → Ordering) → Exact order → (k : K)
    (places : List (K × ℕ)) (answers : List (Answer K V))
    → lookup (is_at (order k)) places ≡ None → In k (done_keys (finished_in places answers)) → ⊥
not_found order o k [] answers l i = i
not_found {K} {V} order o k (e ∷ es) answers l i = elim (cases_Bool (is_eq (order k e.0))) [
  | inl h ↦ let some : Some e.1 ≡ None = rw h at l in cc
  | inr h ↦ elim (in_append k (done_keys (finished_at e.0 (slice_get answers e.1))) (done_keys (finished_in es answers))
      (subst (λ (ks : List K). In k ks) (done_keys_append (finished_at e.0 (slice_get answers e.1)) (finished_in es answers)) i)) [
        | inl j ↦ (let same : k ≡ e.0 = key_at k e.0 (slice_get answers e.1) j in
            let tied : order k e.0 ≡ Equal = subst (λ (x : K). order k x ≡ Equal) same (tied_itself o.total k) in
            let yes : is_eq (order k e.0) ≡ true = (Equal-is (order k e.0)).1 tied in cc)
        | inr j ↦ not_found order o k es answers (rw h at l) j
      ]
]

get_append : {A : Type 0} (xs ys : List A) (i : ℕ) → i < length xs → slice_get (xs ++ ys) i ≡ slice_get xs i
get_append [] ys i h = absurd (omega arith)
get_append (x ∷ xs) ys zero h = refl
get_append (x ∷ xs) ys (suc i) h = get_append xs ys i (omega arith)

-- an answer more gives no key an answer
pub more_answers : {K V : Type 0} (places : List (K × ℕ)) (answers : List (Answer K V)) (a : Answer K V)
    → Within places answers → finished_in places (answers ++ a ∷ []) ≡ finished_in places answers
more_answers [] answers a w = refl
more_answers (e ∷ es) answers a w =
    rw (get_append answers (a ∷ []) e.1 w.0, more_answers es answers a w.1) refl

-- a key that is given the answer at a place
in_last : {A : Type 0} (x : A) (xs ys : List A) (z : A) → In x xs → In x ((ys ++ xs) ++ z ∷ [])
in_last x xs ys z i = in_append_left x (ys ++ xs) (z ∷ []) (in_append_right x ys xs i)

at_place : {K V : Type 0} (k : K) (a : Answer K V) (o : Option (Answer K V)) (f : Finished K V) → o ≡ Some a
    → In f (finished_at k o) → f ≡ record { key = k; answer = a }
at_place k a None f e i = absurd i
at_place k a (Some b) f e (inl p) = let same : b ≡ a = cc in p ∙ ap (λ x. record { key = k; answer = x }) same
at_place k a (Some b) f e (inr i) = absurd i

key_in : {K V : Type 0} (k : K) (a : Answer K V) (o : Option (Answer K V)) → o ≡ Some a → In k (done_keys (finished_at k o))
key_in k a None e = cc
key_in k a (Some b) e = inl refl

module _ {K V : Type 0} (order : K → K → Ordering) (o : Exact order) (k : K) (i : ℕ) (a : Answer K V) (answers : List (Answer K V)) where
  last : Finished K V
  last = record { key = k; answer = a }

  from_new : (es : List (K × ℕ)) → slice_get answers i ≡ Some a → (f : Finished K V)
      → In f (finished_in (insert_entry order es k i) answers) → In f (finished_in es answers) ⊎ (f ≡ last)
  unfolding last
  from_new [] s f j = elim (in_append f (finished_at k (slice_get answers i)) [] j) [
    | inl x ↦ inr (at_place k a (slice_get answers i) f s x)
    | inr x ↦ absurd x
  ]
  from_new (e ∷ es) s f j = by (order k e.0) refl (λ x. from_new es s f x) j
    where
      by : (c : Ordering) → order k e.0 ≡ c
          → (In f (finished_in (insert_entry order es k i) answers) → In f (finished_in es answers) ⊎ (f ≡ last))
          → In f (finished_in (insert_entry order (e ∷ es) k i) answers)
          → In f (finished_in (e ∷ es) answers) ⊎ (f ≡ last)
      by Less h further j = let there : In f (finished_in ((k, i) ∷ e ∷ es) answers) = rw h at j in
          elim (in_append f (finished_at k (slice_get answers i)) (finished_in (e ∷ es) answers) there) [
            | inl x ↦ inr (at_place k a (slice_get answers i) f s x)
            | inr x ↦ inl x
          ]
      by Equal h further j = let there : In f (finished_in ((e.0, i) ∷ es) answers) = rw h at j in
          let same : k ≡ e.0 = o.exact k e.0 h in
          elim (in_append f (finished_at e.0 (slice_get answers i)) (finished_in es answers) there) [
            | inl x ↦ inr (at_place e.0 a (slice_get answers i) f s x ∙ ap (λ (y : K). record { key = y; answer = a }) (sym same))
            | inr x ↦ inl (in_append_right f (finished_at e.0 (slice_get answers e.1)) (finished_in es answers) x)
          ]
      by Greater h further j = let there : In f (finished_in (e ∷ insert_entry order es k i) answers) = rw h at j in
          elim (in_append f (finished_at e.0 (slice_get answers e.1)) (finished_in (insert_entry order es k i) answers) there) [
            | inl x ↦ inl (in_append_left f (finished_at e.0 (slice_get answers e.1)) (finished_in es answers) x)
            | inr x ↦ elim (further x) [
              | inl y ↦ inl (in_append_right f (finished_at e.0 (slice_get answers e.1)) (finished_in es answers) y)
              | inr y ↦ inr y
            ]
          ]

  -- the keys of what is found, place by place
  keys_left : (e : K × ℕ) (es : List (K × ℕ)) (x : K) → In x (done_keys (finished_at e.0 (slice_get answers e.1)))
      → In x (done_keys (finished_in (e ∷ es) answers))
  keys_left e es x j = subst (λ (ks : List K). In x ks) (sym (done_keys_append (finished_at e.0 (slice_get answers e.1)) (finished_in es answers)))
      (in_append_left x (done_keys (finished_at e.0 (slice_get answers e.1))) (done_keys (finished_in es answers)) j)

  keys_right : (e : K × ℕ) (es : List (K × ℕ)) (x : K) → In x (done_keys (finished_in es answers))
      → In x (done_keys (finished_in (e ∷ es) answers))
  keys_right e es x j = subst (λ (ks : List K). In x ks) (sym (done_keys_append (finished_at e.0 (slice_get answers e.1)) (finished_in es answers)))
      (in_append_right x (done_keys (finished_at e.0 (slice_get answers e.1))) (done_keys (finished_in es answers)) j)

  keys_of : (e : K × ℕ) (es : List (K × ℕ)) (x : K) → In x (done_keys (finished_in (e ∷ es) answers))
      → In x (done_keys (finished_at e.0 (slice_get answers e.1))) ⊎ In x (done_keys (finished_in es answers))
  keys_of e es x j = in_append x (done_keys (finished_at e.0 (slice_get answers e.1))) (done_keys (finished_in es answers))
      (subst (λ (ks : List K). In x ks) (done_keys_append (finished_at e.0 (slice_get answers e.1)) (finished_in es answers)) j)

  new_key : (es : List (K × ℕ)) → slice_get answers i ≡ Some a → In k (done_keys (finished_in (insert_entry order es k i) answers))
  new_key [] s = keys_left (k, i) [] k (key_in k a (slice_get answers i) s)
  new_key (e ∷ es) s = by (order k e.0) refl (new_key es s)
    where
      by : (c : Ordering) → order k e.0 ≡ c → In k (done_keys (finished_in (insert_entry order es k i) answers))
          → In k (done_keys (finished_in (insert_entry order (e ∷ es) k i) answers))
      by Less h further = rw h (keys_left (k, i) (e ∷ es) k (key_in k a (slice_get answers i) s))
      by Equal h further = let same : k ≡ e.0 = o.exact k e.0 h in
          rw h (keys_left (e.0, i) es k (subst (λ (x : K). In x (done_keys (finished_at e.0 (slice_get answers i)))) (sym same) (key_in e.0 a (slice_get answers i) s)))
      by Greater h further = rw h (keys_right e (insert_entry order es k i) k further)

  old_keys : (es : List (K × ℕ)) → slice_get answers i ≡ Some a → (x : K) → In x (done_keys (finished_in es answers))
      → In x (done_keys (finished_in (insert_entry order es k i) answers))
  old_keys [] s x j = absurd j
  old_keys (e ∷ es) s x j = by (order k e.0) refl (λ y. old_keys es s x y)
    where
      by : (c : Ordering) → order k e.0 ≡ c
          → (In x (done_keys (finished_in es answers)) → In x (done_keys (finished_in (insert_entry order es k i) answers)))
          → In x (done_keys (finished_in (insert_entry order (e ∷ es) k i) answers))
      by Less h further = rw h (keys_right (k, i) (e ∷ es) x j)
      by Equal h further = elim (keys_of e es x j) [
        | inl y ↦ rw h (keys_left (e.0, i) es x (subst (λ (w : K). In w (done_keys (finished_at e.0 (slice_get answers i))))
            (sym (key_at x e.0 (slice_get answers e.1) y)) (key_in e.0 a (slice_get answers i) s)))
        | inr y ↦ rw h (keys_right (e.0, i) es x y)
      ]
      by Greater h further = elim (keys_of e es x j) [
        | inl y ↦ rw h (keys_left e (insert_entry order es k i) x y)
        | inr y ↦ rw h (keys_right e (insert_entry order es k i) x (further y))
      ]

  -- a key that is given the answer at a place
  pub pointed : (es : List (K × ℕ)) → slice_get answers i ≡ Some a
      → Covers (finished_in es answers ++ record { key = k; answer = a } ∷ []) (finished_in (insert_entry order es k i) answers)
  unfolding last
  pointed es s = record {
    from = λ f j. elim (from_new es s f j) [
      | inl x ↦ in_append_left f (finished_in es answers) (last ∷ []) x
      | inr x ↦ in_append_right f (finished_in es answers) (last ∷ []) (inl x)
    ];
    keys = λ x j. elim (in_append x (done_keys (finished_in es answers)) (k ∷ [])
        (subst (λ (ks : List K). In x ks) (done_keys_append (finished_in es answers) (last ∷ [])) j)) [
          | inl y ↦ old_keys es s x y
          | inr (inl e) ↦ subst (λ (w : K). In w (done_keys (finished_in (insert_entry order es k i) answers))) (sym e) (new_key es s)
          | inr (inr y) ↦ absurd y
        ];
  }

pub lookup_within : {K V : Type 0} (test : K → Bool) (places : List (K × ℕ)) (answers : List (Answer K V)) (i : ℕ)
    → Within places answers → Some i ≡ lookup test places → i < length answers
lookup_within test [] answers i w l = cc
lookup_within test (e ∷ es) answers i w l = elim (cases_Bool (test e.0)) [
  | inl h ↦ let place : Some i ≡ Some e.1 = rw h at l in
      let same : i ≡ e.1 = cc in subst (λ (x : ℕ). x < length answers) (sym same) w.0
  | inr h ↦ lookup_within test es answers i w.1 (rw h at l)
]

pub insert_within : {K V : Type 0} (order : K → K → Ordering) (k : K) (i : ℕ) (answers : List (Answer K V)) → i < length answers
    → (places : List (K × ℕ)) → Within places answers → Within (insert_entry order places k i) answers
insert_within order k i answers h [] w = (h, tt)
insert_within {K} {V} order k i answers h (e ∷ es) w = by (order k e.0) refl (insert_within order k i answers h es w.1)
  where
    by : (c : Ordering) → order k e.0 ≡ c → Within (insert_entry order es k i) answers → Within (insert_entry order (e ∷ es) k i) answers
    by Less q further = rw q (h, w)
    by Equal q further = rw q (h, w.1)
    by Greater q further = rw q (w.0, further)

-- a key is given the answer at a place
pub shared : {K V : Type 0} (order : K → K → Ordering) → Exact order → (k : K) (i : ℕ) (a : Answer K V) (old new : Places K V)
    → new.places ≡ insert_entry order old.places k i → new.answers ≡ old.answers → slice_get old.answers i ≡ Some a
    → Covers (finished old ++ entry k a ∷ []) (finished new)
shared order o k i a old new p q s = rw (p, q) (pointed order o k i a old.answers old.places s)

pub same_finished : {K V : Type 0} (a : Answer K V) (old new : Places K V)
    → new.answers ≡ old.answers ++ a ∷ [] → new.places ≡ old.places → Within old.places old.answers → finished new ≡ finished old
same_finished a old new p q w = rw (p, q) (more_answers old.places old.answers a w)

pub last_answer : {K V : Type 0} (i : ℕ) (a : Answer K V) (old new : Places K V)
    → i ≡ length old.answers → new.answers ≡ old.answers ++ a ∷ [] → slice_get new.answers i ≡ Some a
last_answer i a old new h p = rw (p, h) (get_last old.answers a)

-- a key is given a new answer
pub given : {K V : Type 0} (k : K) (i : ℕ) (a : Answer K V) (old middle new : Places K V)
    → i ≡ length old.answers → middle.answers ≡ old.answers ++ a ∷ [] → middle.places ≡ old.places → Within old.places old.answers
    → ((b : Answer K V) → slice_get middle.answers i ≡ Some b → Covers (finished middle ++ entry k b ∷ []) (finished new))
    → Covers (finished old ++ entry k a ∷ []) (finished new)
given {K} {V} k i a old middle new h p q w then =
    subst (λ (x : List (Finished K V)). Covers (x ++ entry k a ∷ []) (finished new)) (same_finished a old middle p q w)
    (then a (last_answer i a old middle h p))

pub grows_by : {K P V : Type 0} (m : Instance K P V) (before after : List (Finished K V)) (k x : K) (a : Answer K V)
    → k ≡ x → Means m x a → Covers (before ++ entry k a ∷ []) after → Grows m before after
grows_by {K} {P} {V} m before after k x a same means c =
    let here : Means m k a = subst (λ (y : K). Means m y a) (sym same) means in
    record {
      right = λ e. each_from (λ (f : Finished K V). Means m f.key f.answer) after
          (λ f i. each_in (λ (g : Finished K V). Means m g.key g.answer) f (before ++ entry k a ∷ [])
          (each_append (λ (g : Finished K V). Means m g.key g.answer) before (entry k a ∷ []) e (here, tt)) (c.from f i));
      keys = λ y i. c.keys y (subst (λ (ks : List K). In y ks) (sym (done_keys_append before (entry k a ∷ [])))
          (in_append_left y (done_keys before) (k ∷ []) i));
    }

pub grows_not : {K P V : Type 0} (m : Instance K P V) (fs : List (Finished K V)) → Grows m fs fs
grows_not m fs = record { right = λ e. e; keys = λ k i. i }

pub no_places : {K V : Type 0} (p : Places K V) → p.places ≡ [] → finished p ≡ []
no_places p e = rw e refl

-- an answer that was added, in a table with the same answers: its place is within, and has it
pub placed_within : {K V : Type 0} (i : ℕ) (a : Answer K V) (old middle new : Places K V)
    → i ≡ length old.answers → middle.answers ≡ old.answers ++ a ∷ [] → new.answers ≡ middle.answers
    → i < length new.answers
placed_within {K} {V} i a old middle new at added same =
    rw (same, added, at, length-append old.answers (a ∷ [])) (omega arith)

pub placed_is : {K V : Type 0} (i : ℕ) (a b : Answer K V) (old middle new : Places K V)
    → i ≡ length old.answers → middle.answers ≡ old.answers ++ a ∷ [] → new.answers ≡ middle.answers
    → slice_get new.answers i ≡ Some b → a ≡ b
placed_is {K} {V} i a b old middle new at added same is =
    let there : slice_get new.answers i ≡ Some a =
    ap (λ (xs : List (Answer K V)). slice_get xs i) same ∙ last_answer i a old middle at added in
    let both : Some a ≡ Some b = sym there ∙ is in cc
