-- The places of the frames' keys, when keys are started and frames are added, popped and replaced.
use Rattle.std.proofs.Common.{◌≡◌, ℕ, zero, suc, ◌<◌, ◌⊎◌, List, [], ◌∷◌, ◌++◌, length, slice_get, get_or, arith, refl, sym, ap, subst, ◌∙◌, inl, inr, false, Some, None}
use Rattle.std.proofs.lemmas.Bool.{cases_Bool}
use Rattle.std.specs.Map.{lookup}
use Rattle.std.specs.BTreeMap.{is_at, insert_entry}
use Rattle.std.specs.Cmp.{Equal-is, tied_itself}
use Rattle.std.specs.declared.cmp.Ordering.{Ordering}
use Rattle.std.specs.declared.cmp.Ordering.TheVariants.{Less, Equal, Greater}
use Rattle.std.specs.Ordering.{is_eq}
use Rattle.pq_rules.specs.declared.turn.Turn.{Turn}
use Rattle.pq_rules.specs.declared.turn.Turn.TheVariants.{Ask, Done}
use Rattle.pq_rules.specs.declared.scratch.Frame.{Frame}
use Rattle.pq_rules.specs.Turns.{Instance}
use Rattle.pq_rules.specs.Relations.{In}
use Rattle.pq_rules.specs.aux.AnswerTable.{Finished, Placed}
use Rattle.pq_rules.specs.aux.Evaluator.{frame_keys, Applies}
use Rattle.pq_rules.proofs.ListLemmas.{frame_keys_append}
use Rattle.pq_rules.proofs.Weight.{Exact}

-- a key that is put into a map is found there
lookup_same : {K : Type 0} (order : K → K → Ordering) → Exact order → (k : K) (v : ℕ) (es : List (K × ℕ))
    → lookup (is_at (order k)) (insert_entry order es k v) ≡ Some v
lookup_same order o k v [] = rw ((Equal-is (order k k)).1 (tied_itself o.total k)) refl
lookup_same order o k v (e ∷ es) = by (order k e.0) refl (lookup_same order o k v es)
  where
    by : (c : Ordering) → order k e.0 ≡ c → lookup (is_at (order k)) (insert_entry order es k v) ≡ Some v
        → lookup (is_at (order k)) (insert_entry order (e ∷ es) k v) ≡ Some v
    by Less h further = rw (h, (Equal-is (order k k)).1 (tied_itself o.total k)) refl
    by Equal h further = rw (h, h) refl
    by Greater h further = rw (h, h) further

apart : {K : Type 0} (order : K → K → Ordering) → Exact order → (q k : K) → (q ≡ k → ⊥) → is_eq (order q k) ≡ false
apart order o q k n = elim (cases_Bool (is_eq (order q k))) [
  | inl e ↦ absurd (n (o.exact q k ((Equal-is (order q k)).0 e)))
  | inr e ↦ e
]

-- each other key is found as before
lookup_other : {K : Type 0} (order : K → K → Ordering) → Exact order → (q k : K) (v : ℕ) (es : List (K × ℕ)) → (q ≡ k → ⊥)
    → lookup (is_at (order q)) (insert_entry order es k v) ≡ lookup (is_at (order q)) es
lookup_other order o q k v [] n = rw (apart order o q k n) refl
lookup_other {K} order o q k v (e ∷ es) n = by (order k e.0) refl (lookup_other order o q k v es n)
  where
    by : (c : Ordering) → order k e.0 ≡ c
        → lookup (is_at (order q)) (insert_entry order es k v) ≡ lookup (is_at (order q)) es
        → lookup (is_at (order q)) (insert_entry order (e ∷ es) k v) ≡ lookup (is_at (order q)) (e ∷ es)
    by Less h further = rw (h, apart order o q k n) refl
    by Equal h further =
        let other : is_eq (order q e.0) ≡ false =
        subst (λ (x : K). is_eq (order q x) ≡ false) (o.exact k e.0 h) (apart order o q k n) in
        rw (h, other) refl
    by Greater h further = rw (h, further) refl

get_front : {A : Type 0} (xs ys : List A) (i : ℕ) (x : A) → slice_get xs i ≡ Some x → slice_get (xs ++ ys) i ≡ Some x
get_front [] ys i x e = cc
get_front (y ∷ xs) ys zero x e = e
get_front (y ∷ xs) ys (suc i) x e = get_front xs ys i x e

slice_in : {A : Type 0} (xs : List A) (i : ℕ) (x : A) → slice_get xs i ≡ Some x → In x xs
slice_in [] i x e = cc
slice_in (y ∷ xs) zero x e = let same : x ≡ y = cc in inl same
slice_in (y ∷ xs) (suc i) x e = inr (slice_in xs i x e)

in_slice : {A : Type 0} (xs : List A) (x : A) → In x xs → (i : ℕ) × (slice_get xs i ≡ Some x)
in_slice [] x i = absurd i
in_slice {A} (y ∷ xs) x (inl e) = (zero, ap (λ (z : A). Some z) (sym e))
in_slice (y ∷ xs) x (inr i) = let r = in_slice xs x i in (suc r.0, r.1)

get_push : {A : Type 0} (xs : List A) (y : A) (i : ℕ) (x : A) → slice_get (xs ++ y ∷ []) i ≡ Some x
    → (slice_get xs i ≡ Some x) ⊎ ((i ≡ length xs) × (y ≡ x))
get_push [] y zero x e = let same : y ≡ x = cc in inr (refl, same)
get_push [] y (suc i) x e = cc
get_push (z ∷ xs) y zero x e = inl e
get_push (z ∷ xs) y (suc i) x e = elim (get_push xs y i x e) [
  | inl j ↦ inl j
  | inr j ↦ inr (ap suc j.0, j.1)
]

pub placed_none : {K : Type 0} (order : K → K → Ordering) (s : List (K × ℕ)) → Placed order s []
placed_none order s = record { at = λ i k e. cc }

pub placed_front : {K : Type 0} (order : K → K → Ordering) (s : List (K × ℕ)) (xs ys : List K)
    → Placed order s (xs ++ ys) → Placed order s xs
placed_front order s xs ys p = record { at = λ i k e. p.at i k (get_front xs ys i k e) }

pub placed_kept : {K : Type 0} (order : K → K → Ordering) (s t : List (K × ℕ)) (keys : List K) → t ≡ s → Placed order s keys → Placed order t keys
placed_kept {K} order s t keys same p = subst (λ (x : List (K × ℕ)). Placed order x keys) (sym same) p

-- the frames at the bottom of the stack
pub placed_frames : {K P : Type 0} (order : K → K → Ordering) (s t : List (K × ℕ)) (fs gs all : List (Frame K P))
    → t ≡ s → all ≡ fs ++ gs → Placed order s (frame_keys all) → Placed order t (frame_keys fs)
placed_frames {K} order s t fs gs all same whole p =
    let keys : frame_keys all ≡ frame_keys fs ++ frame_keys gs = ap frame_keys whole ∙ frame_keys_append fs gs in
    subst (λ (x : List (K × ℕ)). Placed order x (frame_keys fs)) (sym same)
    (placed_front order s (frame_keys fs) (frame_keys gs) (subst (λ (ks : List K). Placed order s ks) keys p))

-- a key that is started
pub placed_push : {K : Type 0} (order : K → K → Ordering) → Exact order → (s t : List (K × ℕ)) (keys : List K) (q : K) (n : ℕ)
    → t ≡ insert_entry order s q n → n ≡ length keys → (In q keys → ⊥) → Placed order s keys → Placed order t (keys ++ q ∷ [])
placed_push {K} order o s t keys q n is long none p =
    subst (λ (x : List (K × ℕ)). Placed order x (keys ++ q ∷ [])) (sym is)
    record {
      at = λ i k e. elim (get_push keys q i k e) [
        | inl j ↦ lookup_other order o k q n s (λ same. none (subst (λ (x : K). In x keys) same (slice_in keys i k j))) ∙ p.at i k j
        | inr j ↦ subst (λ (x : K). lookup (is_at (order x)) (insert_entry order s q n) ≡ Some i) j.1
            (lookup_same order o q n s ∙ ap (λ (x : ℕ). Some x) (long ∙ sym j.0))
      ];
    }

-- a turn that was applied
pub placed_applied : {K P V : Type 0} (m : Instance K P V) (order : K → K → Ordering) (s : List (K × ℕ)) (key : K) (turn : Turn K P V)
    (done after : List (Finished K V)) (stack rest : List (Frame K P))
    → Applies m key turn done stack after rest → Placed order s (frame_keys stack ++ key ∷ []) → Placed order s (frame_keys rest)
unfolding Applies
placed_applied {K} {P} {V} m order s key (Ask asked part) done after stack rest kept p =
    subst (λ (fs : List (Frame K P)). Placed order s (frame_keys fs)) (sym kept.1)
    (subst (λ (ks : List K). Placed order s ks)
    (sym (frame_keys_append stack (record { key = key; asked = asked; part = part } ∷ []))) p)
placed_applied {K} {P} {V} m order s key (Done value) done after stack rest kept p =
    subst (λ (fs : List (Frame K P)). Placed order s (frame_keys fs)) (sym kept.1) (placed_front order s (frame_keys stack) (key ∷ []) p)

-- a turn of the last frame, which was popped
pub placed_resumed : {K P V : Type 0} (m : Instance K P V) (order : K → K → Ordering) (s t : List (K × ℕ)) (f : Frame K P) (turn : Turn K P V)
    (done after : List (Finished K V)) (stack rest : List (Frame K P))
    → t ≡ s → Applies m f.key turn done stack after rest → Placed order s (frame_keys (stack ++ f ∷ [])) → Placed order t (frame_keys rest)
placed_resumed {K} {P} {V} m order s t f turn done after stack rest same kept p =
    subst (λ (x : List (K × ℕ)). Placed order x (frame_keys rest)) (sym same)
    (placed_applied m order s f.key turn done after stack rest kept
    (subst (λ (ks : List K). Placed order s ks) (frame_keys_append stack (f ∷ [])) p))

frame_count : {K P : Type 0} (fs : List (Frame K P)) → length (frame_keys fs) ≡ length fs
frame_count [] = refl
frame_count (f ∷ fs) = ap suc (frame_count fs)

-- the first turn of a key, above all frames
pub placed_begun : {K P V : Type 0} (m : Instance K P V) (order : K → K → Ordering) → Exact order → (s t : List (K × ℕ)) (key : K) (turn : Turn K P V)
    (done after : List (Finished K V)) (stack rest : List (Frame K P))
    → t ≡ insert_entry order s key (length stack) → (In key (frame_keys stack) → ⊥)
    → Applies m key turn done stack after rest → Placed order s (frame_keys stack) → Placed order t (frame_keys rest)
placed_begun m order o s t key turn done after stack rest is none kept p =
    placed_applied m order t key turn done after stack rest kept
    (placed_push order o s t (frame_keys stack) key (length stack) is (sym (frame_count stack)) none p)

pub not_placed : {K : Type 0} (order : K → K → Ordering) (s : List (K × ℕ)) (keys : List K) (k : K)
    → Placed order s keys → lookup (is_at (order k)) s ≡ None → In k keys → ⊥
not_placed order s keys k p none i =
    let r = in_slice keys k i in
    let there : lookup (is_at (order k)) s ≡ Some r.0 = p.at r.0 k r.1 in cc

frame_in : {K P : Type 0} (fs : List (Frame K P)) (i : ℕ) (k : K) → slice_get (frame_keys fs) i ≡ Some k
    → (i < length fs) × ((d : Frame K P) → (get_or fs i d).key ≡ k)
frame_in [] i k e = cc
frame_in (f ∷ fs) zero k e = let same : f.key ≡ k = cc in (omega arith, λ d. same)
frame_in (f ∷ fs) (suc i) k e =
    let r = frame_in fs i k e in
    let h : i < length fs = r.0 in (omega arith, r.1)

-- a key with a frame is found at it
pub placed_at : {K P : Type 0} (order : K → K → Ordering) (s : List (K × ℕ)) (fs : List (Frame K P)) (k : K) (place : ℕ)
    → Placed order s (frame_keys fs) → lookup (is_at (order k)) s ≡ Some place → In k (frame_keys fs)
    → (place < length fs) × ((d : Frame K P) → (get_or fs place d).key ≡ k)
placed_at {K} {P} order s fs k place p is i =
    let r = in_slice (frame_keys fs) k i in
    let there : lookup (is_at (order k)) s ≡ Some r.0 = p.at r.0 k r.1 in
    let same : r.0 ≡ place = cc in
    subst (λ (x : ℕ). (x < length fs) × ((d : Frame K P) → (get_or fs x d).key ≡ k)) same (frame_in fs r.0 k r.1)
