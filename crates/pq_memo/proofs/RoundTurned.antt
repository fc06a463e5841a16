-- The frames from a place of the stack on, the last of which waits for the key of the first: begun
-- at the least key they are a round (`closes`), and their keys stay the same (`turned_keys`).
use Rattle.std.proofs.Common.{◌≡◌, ℕ, ◌<◌, List, [], ◌∷◌, ◌++◌, length, take, drop, get_or, refl, sym, ap, ap₂, subst, ◌∙◌, inl, inr, false, append-nil, Option}
use Rattle.std.specs.declared.cmp.Ordering.{Ordering}
use Rattle.std.specs.declared.cmp.Ordering.TheVariants.{Equal, Less}
use Rattle.std.specs.Ordering.{is_gt}
use Rattle.pq_inputs.specs.declared.durability.Durability.{Durability}
use Rattle.pq_inputs.specs.Sources.{Table}
use Rattle.pq_rules.specs.Turns.{Machine}
use Rattle.pq_rules.specs.Relations.{Each, In}
use Rattle.pq_rules.specs.aux.Evaluator.{Distinct}
use Rattle.pq_rules.specs.aux.Lists.{in_append, in_append_left, in_append_right}
use Rattle.pq_rules.proofs.ListLemmas.{split, each_from, in_index, distinct_middle}
use Rattle.pq_rules.proofs.Rotating.{below}
use Rattle.pq_rules.proofs.Stack.{distinct_back}
use Rattle.pq_memo.specs.declared.stepping.frame.Frame.{Frame}
use Rattle.pq_memo.specs.Sound.{Memo}
use Rattle.pq_memo.specs.Table.{HasIn}
use Rattle.pq_memo.specs.Writes.{RingWritten, ring_keys}
use Rattle.pq_memo.specs.Frames.{RoundOf, IsRound, frame_keys}
use Rattle.pq_memo.specs.aux.Demand.{IsLeastKey, LastAwaits, Linked, Popped}
use Rattle.pq_memo.proofs.Wrote.{wrote_ring}
use Rattle.pq_memo.proofs.Stacked.{keys_append, in_keys_left, in_keys_right, in_keys_either, linked_back, last_awaits_back, round_of}

in_frames : {K P : Type 0} (k : K) (fs : List (Frame K P)) → In k (frame_keys fs) → (f : Frame K P) × In f fs × (f.key ≡ k)
in_frames k [] i = absurd i
in_frames k (f ∷ fs) (inl p) = (f, inl refl, sym p)
in_frames k (f ∷ fs) (inr i) = let r = in_frames k fs i in (r.0, inr r.1, r.2)

-- the keys of frames that are turned
pub turned_in : {K P : Type 0} (i : ℕ) (fs : List (Frame K P)) (k : K) → i < length fs → In k (frame_keys fs) → In k (frame_keys (drop i fs ++ take i fs))
turned_in {K} {P} i fs k h j =
    let s = split fs i h in
    let parts : In k (frame_keys (s.front ++ s.item ∷ s.back)) = subst (λ (l : List (Frame K P)). In k (frame_keys l)) s.whole j in
    subst (λ (l : List (Frame K P)). In k (frame_keys (l ++ take i fs))) (sym s.left)
    (subst (λ (l : List (Frame K P)). In k (frame_keys ((s.item ∷ s.back) ++ l))) (sym s.taken)
    (elim (in_keys_either k s.front (s.item ∷ s.back) parts) [
      | inl a ↦ in_keys_right k (s.item ∷ s.back) s.front a
      | inr b ↦ in_keys_left k (s.item ∷ s.back) s.front b
    ]))

pub turned_from : {K P : Type 0} (i : ℕ) (fs : List (Frame K P)) (k : K) → i < length fs → In k (frame_keys (drop i fs ++ take i fs)) → In k (frame_keys fs)
turned_from {K} {P} i fs k h j =
    let s = split fs i h in
    subst (λ (l : List (Frame K P)). In k (frame_keys l)) (sym s.whole)
    (elim (in_keys_either k (drop i fs) (take i fs) j) [
      | inl a ↦ in_keys_right k s.front (s.item ∷ s.back) (subst (λ (l : List (Frame K P)). In k (frame_keys l)) s.left a)
      | inr b ↦ in_keys_left k s.front (s.item ∷ s.back) (subst (λ (l : List (Frame K P)). In k (frame_keys l)) s.taken b)
    ])

-- the least of distinct keys is less than each other
pub least_less : {K P : Type 0} (order : K → K → Ordering) → ((a b : K) → order a b ≡ Equal → a ≡ b)
    → (fs : List (Frame K P)) (i : ℕ) → IsLeastKey order fs i → Distinct (frame_keys fs)
    → (front : List (Frame K P)) (item : Frame K P) (back : List (Frame K P)) → fs ≡ front ++ item ∷ back → ((d : Frame K P) → get_or fs i d ≡ item)
    → Each (λ y. order item.key y ≡ Less) (frame_keys (back ++ front))
unfolding IsLeastKey
least_less {K} {P} order exact fs i least distinct front item back whole at =
    let keys : frame_keys fs ≡ frame_keys front ++ item.key ∷ frame_keys back =
    ap (λ (xs : List (Frame K P)). frame_keys xs) whole ∙ keys_append front (item ∷ back) in
    let alone = distinct_middle (frame_keys front) item.key (frame_keys back) (subst (λ (ks : List K). Distinct ks) keys distinct) in
    let member : (y : K) → In y (frame_keys back ++ frame_keys front) → In y (frame_keys fs) =
    λ y j. subst (λ (ks : List K). In y ks) (sym keys)
    (elim (in_append y (frame_keys back) (frame_keys front) j) [
      | inl b ↦ in_append_right y (frame_keys front) (item.key ∷ frame_keys back) (inr b)
      | inr f ↦ in_append_left y (frame_keys front) (item.key ∷ frame_keys back) f
    ]) in
    let low : (y : K) → In y (frame_keys fs) → is_gt (order item.key y) ≡ false =
    λ y j. let f = in_frames y fs j in
    let there = in_index f.0 item fs f.1 in
    let l = least there.0 item there.1 in
    subst (λ (w : K). is_gt (order item.key w) ≡ false) f.2
    (subst (λ (g : Frame K P). is_gt (order item.key g.key) ≡ false) there.2
    (subst (λ (g : Frame K P). is_gt (order g.key (get_or fs there.0 item).key) ≡ false) (at item) l)) in
    subst (λ (ks : List K). Each (λ y. order item.key y ≡ Less) ks) (sym (keys_append back front))
    (each_from (λ y. order item.key y ≡ Less) (frame_keys back ++ frame_keys front)
    (λ y j. below (order item.key y) (low y (member y j))
    (λ e. alone (subst (λ (w : K). In w (frame_keys back ++ frame_keys front)) (sym (exact item.key y e)) j))))

module _ {K P V : Type 0} (order : K → K → Ordering) (m : Machine K P V) (inputs : Table) (table : K → Option (Memo K V)) where
  abbrev Way : K → List (Frame K P) → Type 0
  Way = RoundOf order m inputs.history inputs.revision table

  split_way : (t : K) (x : Frame K P) (xs : List (Frame K P)) (e : Frame K P) (ys : List (Frame K P))
      → Way t ((x ∷ xs) ++ e ∷ ys) → Way e.key (x ∷ xs) × Way t (e ∷ ys)
  unfolding RoundOf
  split_way t x [] e ys w = (w.0, w.1)
  split_way t x (y ∷ xs) e ys w = let s = split_way t y xs e ys w.1 in ((w.0, s.0), s.1)

  join_ways : (t : K) (x : Frame K P) (xs : List (Frame K P)) (e : Frame K P) (ys : List (Frame K P))
      → Way e.key (x ∷ xs) → Way t (e ∷ ys) → Way t ((x ∷ xs) ++ e ∷ ys)
  unfolding RoundOf
  join_ways t x [] e ys a b = (a, b)
  join_ways t x (y ∷ xs) e ys a b = (a.0, join_ways t y xs e ys a.1 b)

  -- a round may begin at any of its frames
  pub turned : (z : K) (fs : List (Frame K P)) (front : List (Frame K P)) (y : Frame K P) (back : List (Frame K P)) → Way z fs → fs ≡ front ++ y ∷ back
      → ((x : Frame K P) (xs : List (Frame K P)) → fs ≡ x ∷ xs → x.key ≡ z) → Way y.key (y ∷ (back ++ front))
  turned z fs [] y back w whole first =
      let here : Way z (y ∷ back) = subst (λ (l : List (Frame K P)). Way z l) whole w in
      subst (λ (l : List (Frame K P)). Way y.key (y ∷ l)) (sym (append-nil back))
      (subst (λ (k : K). Way k (y ∷ back)) (sym (first y back whole)) here)
  turned z fs (a ∷ rest) y back w whole first =
      let here : Way z ((a ∷ rest) ++ y ∷ back) = subst (λ (l : List (Frame K P)). Way z l) whole w in
      let s = split_way z a rest y back here in
      join_ways y.key y back a rest (subst (λ (k : K). Way k (y ∷ back)) (sym (first a (rest ++ y ∷ back) whole)) s.1) s.0

  -- the frames from a place on, whose last waits for the key there, begun at the least
  pub closes : ((a b : K) → order a b ≡ Equal → a ≡ b) → (fs : List (Frame K P)) (place least : ℕ) (z : K) (taken round : List (Frame K P))
      → Linked order m inputs table fs → Distinct (frame_keys fs) → LastAwaits order m inputs table z fs → place < length fs
      → ((d : Frame K P) → (get_or fs place d).key ≡ z) → taken ≡ drop place fs → least < length taken → IsLeastKey order taken least
      → round ≡ drop least taken ++ take least taken → IsRound order m inputs.history inputs.revision table round
  closes exact fs place least z taken round linked distinct awaits within there is low least_is made =
      let s = split fs place within in
      let from : taken ≡ s.item ∷ s.back = is ∙ s.left in
      let key : s.item.key ≡ z = ap (λ (f : Frame K P). f.key) (sym (s.at s.item)) ∙ there s.item in
      let chain : Linked order m inputs table (s.item ∷ s.back) =
      linked_back order m inputs table s.front (s.item ∷ s.back) (subst (λ (l : List (Frame K P)). Linked order m inputs table l) s.whole linked) in
      let last : LastAwaits order m inputs table z (s.item ∷ s.back) =
      last_awaits_back order m inputs table z s.front s.item s.back (subst (λ (l : List (Frame K P)). LastAwaits order m inputs table z l) s.whole awaits) in
      let way : Way z taken = subst (λ (l : List (Frame K P)). Way z l) (sym from) (round_of order m inputs table z s.item s.back chain last) in
      let apart : Distinct (frame_keys taken) =
      subst (λ (l : List (Frame K P)). Distinct (frame_keys l)) (sym from)
      (distinct_back (frame_keys s.front) (frame_keys (s.item ∷ s.back))
      (subst (λ (ks : List K). Distinct ks) (ap (λ (l : List (Frame K P)). frame_keys l) s.whole ∙ keys_append s.front (s.item ∷ s.back)) distinct)) in
      let first : (x : Frame K P) (xs : List (Frame K P)) → taken ≡ x ∷ xs → x.key ≡ z =
      λ x xs e. (let same : s.item ≡ x = head_same s.item x s.back xs (sym from ∙ e) in ap (λ (f : Frame K P). f.key) (sym same) ∙ key) in
      let t = split taken least low in
      let shape : round ≡ t.item ∷ (t.back ++ t.front) = made ∙ ap₂ (λ (a b : List (Frame K P)). a ++ b) t.left t.taken in
      subst (λ (l : List (Frame K P)). IsRound order m inputs.history inputs.revision table l) (sym shape)
      ((turned z taken t.front t.item t.back way t.whole first, least_less order exact taken least least_is apart t.front t.item t.back t.whole t.at))
    where
      head_same : (a b : Frame K P) (xs ys : List (Frame K P)) → a ∷ xs ≡ b ∷ ys → a ≡ b
      head_same a b xs ys e = cc

-- the frames that were popped, and their keys
pub popped_of : {K P V : Type 0} (now : ℕ) (before after : K → Option (Memo K V)) (all rest taken round : List (Frame K P)) (place least : ℕ)
    (members : List (K × List K)) (durability : Durability) → place < length all → rest ≡ take place all → taken ≡ drop place all → least < length taken
    → round ≡ drop least taken ++ take least taken → ring_keys members ≡ frame_keys round → RingWritten now (HasIn before) (HasIn after) members durability
    → Popped now before after all rest
popped_of {K} {P} now before after all rest taken round place least members durability within left is low made keys written =
    let s = split all place within in
    let from : taken ≡ s.item ∷ s.back = is ∙ s.left in
    let front : rest ≡ s.front = left ∙ s.taken in
    record {
      first = s.item;
      others = s.back;
      whole = s.whole ∙ ap (λ (l : List (Frame K P)). l ++ s.item ∷ s.back) (sym front);
      keys = ring_keys members;
      into = λ k i. subst (λ (l : List (Frame K P)). In k (frame_keys l)) from
          (turned_from least taken k low (subst (λ (l : List (Frame K P)). In k (frame_keys l)) made (subst (λ (ks : List K). In k ks) keys i)));
      from = λ k i. subst (λ (ks : List K). In k ks) (sym keys)
          (subst (λ (l : List (Frame K P)). In k (frame_keys l)) (sym made)
          (turned_in least taken k low (subst (λ (l : List (Frame K P)). In k (frame_keys l)) (sym from) i)));
      written = wrote_ring now before after members durability written;
    }

-- the last of distinct keys is not among the others
pub last_apart : {K P : Type 0} (stack : List (Frame K P)) (f : Frame K P) → Distinct (frame_keys (stack ++ f ∷ [])) → In f.key (frame_keys stack) → ⊥
last_apart {K} stack f d i =
    distinct_middle (frame_keys stack) f.key [] (subst (λ (ks : List K). Distinct ks) (keys_append stack (f ∷ [])) d) i
