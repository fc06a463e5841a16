-- A ring closes: the frames from a place on, where the last asked the key of the first, become
-- answers, and the evaluator's invariant holds on.
use Rattle.std.proofs.Common.{◌≡◌, ℕ, ◌+◌, ◌<◌, List, [], ◌∷◌, ◌++◌, length, drop, get_or, refl, sym, ap, subst, ◌∙◌, inl, inr, arith, length-append}
use Rattle.pq_rules.specs.declared.turn.Answer.TheVariants.{Cycle}
use Rattle.pq_rules.specs.aux.AnswerTable.{Finished, done_keys}
use Rattle.pq_rules.specs.declared.scratch.Frame.{Frame}
use Rattle.pq_rules.specs.Turns.{Instance}
use Rattle.pq_rules.specs.Laws.{Laws}
use Rattle.pq_rules.specs.Relations.{Each, In, Chain, Round}
use Rattle.pq_rules.specs.Value.{Means, Waits}
use Rattle.pq_rules.specs.aux.Evaluator.{frame_keys, seen, IsInvariant, GoesOn, Linked, Sits, Distinct, RotatedToLeast, ring_entries}
use Rattle.pq_rules.proofs.Characterisation.{means_ring, each_append, round_turned}
use Rattle.pq_rules.proofs.Order.{strict}
use Rattle.pq_rules.proofs.Rings.{each_in}
use Rattle.pq_rules.specs.aux.Lists.{in_append, in_append_left, in_append_right}
use Rattle.pq_rules.proofs.ListLemmas.{frame_keys_append, done_keys_append, in_keys}
use Rattle.pq_rules.proofs.Weight.{Exact, unseen_le, weight_lt}
use Rattle.pq_rules.proofs.Stack.{linked_front, linked_back, LastAsks, last_asks, waiting, distinct_front, each_front}

drop_front : {A : Type 0} (xs ys : List A) → drop (length xs) (xs ++ ys) ≡ ys
drop_front [] ys = refl
drop_front (x ∷ xs) ys = drop_front xs ys

at_front : {A : Type 0} (xs : List A) (y : A) (ys : List A) (d : A) → get_or (xs ++ y ∷ ys) (length xs) d ≡ y
at_front [] y ys d = refl
at_front (x ∷ xs) y ys d = at_front xs y ys d

last_of : {K P : Type 0} (rest stack : List (Frame K P)) (f x : Frame K P) (xs : List (Frame K P))
    → stack ++ f ∷ [] ≡ rest ++ x ∷ xs → LastAsks f.asked x xs
last_of [] stack f x xs e = last_asks x xs stack f f.asked refl (sym e)
last_of (r ∷ []) [] f x xs e = cc
last_of (r ∷ (q ∷ qs)) [] f x xs e = cc
last_of (r ∷ rs) (s ∷ ss) f x xs e = last_of rs ss f x xs (let t : ss ++ f ∷ [] ≡ rs ++ x ∷ xs = cc in t)

linked_each : {K P V : Type 0} (m : Instance K P V) (fs : List (Frame K P)) → Linked m fs → Each (Sits m) fs
unfolding Linked
linked_each m [] l = tt
linked_each m (f ∷ fs) l = (l.0, linked_each m fs l.2)

each_entry : {K P V : Type 0} (m : Instance K P V) (ring : List K) (fs : List (Frame K P))
    → ((k : K) → In k (frame_keys fs) → Means m k (Cycle ring))
    → Each (λ (e : Finished K V). Means m e.key e.answer) (ring_entries ring fs)
unfolding ring_entries
each_entry m ring [] f = tt
each_entry {K} {P} {V} m ring (x ∷ xs) f =
    each_append (λ (e : Finished K V). Means m e.key e.answer) (ring_entries ring xs) (record { key = x.key; answer = Cycle ring } ∷ [])
    (each_entry m ring xs (λ k i. f k (inr i))) (f x.key (inl refl), tt)

entry_keys : {K P V : Type 0} (m : Instance K P V) (ring : List K) (fs : List (Frame K P)) (k : K) → In k (frame_keys fs)
    → In k (done_keys (ring_entries {V = V} ring fs))
unfolding ring_entries
entry_keys m ring [] k i = absurd i
entry_keys {K} {P} {V} m ring (x ∷ xs) k i =
    let e : List (Finished K V) = record { key = x.key; answer = Cycle ring } ∷ [] in
    subst (λ (ks : List K). In k ks) (sym (done_keys_append (ring_entries ring xs) e))
    (elim i [
      | inl p ↦ in_append_right k (done_keys (ring_entries {V = V} ring xs)) (x.key ∷ []) (inl p)
      | inr j ↦ in_append_left k (done_keys (ring_entries {V = V} ring xs)) (x.key ∷ []) (entry_keys m ring xs k j)
    ])

turned_in : {K : Type 0} (front : List K) (z : K) (back : List K) (k : K) → In k (front ++ z ∷ back) → In k (z ∷ (back ++ front))
turned_in front z back k i =
    elim (in_append k front (z ∷ back) i) [
      | inl j ↦ inr (in_append_right k back front j)
      | inr (inl p) ↦ inl p
      | inr (inr j) ↦ inr (in_append_left k back front j)
    ]

module _ {K P V : Type 0} (m : Instance K P V) (reach : K → List K) (laws : Laws m reach) (exact : Exact m.order) (root : K) where
  ring_means : (stack : List (Frame K P)) (f : Frame K P) (rest : List (Frame K P)) (x : Frame K P) (xs : List (Frame K P)) (ring : List K)
      → Linked m (stack ++ f ∷ []) → stack ++ f ∷ [] ≡ rest ++ x ∷ xs → x.key ≡ f.asked
      → RotatedToLeast m.order (frame_keys (x ∷ xs)) ring → (k : K) → In k (frame_keys (x ∷ xs)) → Means m k (Cycle ring)
  unfolding RotatedToLeast Round
  ring_means stack f rest x xs ring all whole key t k i =
      let linked : Linked m (x ∷ xs) = linked_back m rest (x ∷ xs) (subst (λ (fs : List (Frame K P)). Linked m fs) whole all) in
      let level : m.level x.key ≡ m.level f.asked = ap m.level key in
      let chain : Chain (Waits m) x.key (frame_keys xs) f.asked =
      waiting m reach laws f.asked x xs linked (last_of rest stack f x xs whole) (omega arith) in
      let round : Round (Waits m) (frame_keys (x ∷ xs)) = subst (λ (q : K). Chain (Waits m) x.key (frame_keys xs) q) (sym key) chain in
      let z = t.1 in
      let turned : Round (Waits m) (z ∷ (t.2 ++ t.0)) = round_turned (Waits m) t.0 z t.2 (subst (λ (ks : List K). Round (Waits m) ks) t.3 round) in
      let member : In z (frame_keys (x ∷ xs)) = subst (λ (ks : List K). In z ks) (sym t.3) (in_append_right z t.0 (z ∷ t.2) (inl refl)) in
      let g = in_keys z (x ∷ xs) member in
      let sits : Sits m g.0 = each_in (Sits m) g.0 (x ∷ xs) (linked_each m (x ∷ xs) linked) g.1 in
      let high : 0 < m.level z = subst (λ (q : K). 0 < m.level q) g.2 sits.high in
      let there : In k (z ∷ (t.2 ++ t.0)) = turned_in t.0 z t.2 k (subst (λ (ks : List K). In k ks) t.3 i) in
      subst (λ (r : List K). Means m k (Cycle r)) (sym t.4)
      (means_ring m (strict m.order exact.total) z (t.2 ++ t.0) high turned t.5 k there)

  pub close_popped : (done : List (Finished K V)) (stack : List (Frame K P)) (f : Frame K P) (place : ℕ) (ring : List K)
      (after : List (Finished K V)) (rest popped : List (Frame K P))
      → IsInvariant m (reach root) root done (stack ++ f ∷ []) → place < length (stack ++ f ∷ [])
      → ((d : Frame K P) → (get_or (stack ++ f ∷ []) place d).key ≡ f.asked)
      → RotatedToLeast m.order (frame_keys (drop place (stack ++ f ∷ []))) ring
      → stack ++ f ∷ [] ≡ rest ++ popped → length rest ≡ place → after ≡ done ++ ring_entries ring popped
      → GoesOn m (reach root) root done (stack ++ f ∷ []) after rest
  close_popped done stack f place ring after rest [] go within at t whole long added =
      let e : length (stack ++ f ∷ []) ≡ length (rest ++ []) = ap (λ (fs : List (Frame K P)). length fs) whole in
      let e2 : length (rest ++ []) ≡ length rest + 0 = length-append rest [] in
      absurd (omega arith)
  close_popped done stack f place ring after rest (x ∷ xs) go within at t whole long added =
      let all : List (Frame K P) = stack ++ f ∷ [] in
      let left : drop place all ≡ x ∷ xs =
      subst (λ (n : ℕ). drop n all ≡ x ∷ xs) long
      (subst (λ (fs : List (Frame K P)). drop (length rest) fs ≡ x ∷ xs) (sym whole) (drop_front rest (x ∷ xs))) in
      let item : get_or all place f ≡ x =
      subst (λ (n : ℕ). get_or all n f ≡ x) long
      (subst (λ (fs : List (Frame K P)). get_or fs (length rest) f ≡ x) (sym whole) (at_front rest x xs f)) in
      let key : x.key ≡ f.asked = subst (λ (g : Frame K P). g.key ≡ f.asked) item (at f) in
      let turned : RotatedToLeast m.order (frame_keys (x ∷ xs)) ring = subst (λ (fs : List (Frame K P)). RotatedToLeast m.order (frame_keys fs) ring) left t in
      let means = ring_means stack f rest x xs ring go.linked whole key turned in
      let entries : List (Finished K V) = ring_entries ring (x ∷ xs) in
      let linked : Linked m rest = linked_front m rest (x ∷ xs) (subst (λ (fs : List (Frame K P)). Linked m fs) whole go.linked) in
      let keys : frame_keys all ≡ frame_keys rest ++ frame_keys (x ∷ xs) =
      ap (λ (fs : List (Frame K P)). frame_keys fs) whole ∙ frame_keys_append rest (x ∷ xs) in
      let done_are : done_keys after ≡ done_keys done ++ done_keys entries =
      ap (λ (fs : List (Finished K V)). done_keys fs) added ∙ done_keys_append done entries in
      let more : (k : K) → In k (seen done all) → In k (seen after rest) =
      λ k i. elim (in_append k (done_keys done) (frame_keys all) i) [
        | inl d ↦ in_append_left k (done_keys after) (frame_keys rest)
            (subst (λ (ks : List K). In k ks) (sym done_are) (in_append_left k (done_keys done) (done_keys entries) d))
        | inr s ↦ elim (in_append k (frame_keys rest) (frame_keys (x ∷ xs)) (subst (λ (ks : List K). In k ks) keys s)) [
          | inl j ↦ in_append_right k (done_keys after) (frame_keys rest) j
          | inr j ↦ in_append_left k (done_keys after) (frame_keys rest)
              (subst (λ (ks : List K). In k ks) (sym done_are) (in_append_right k (done_keys done) (done_keys entries) (entry_keys m ring (x ∷ xs) k j)))
        ]
      ] in
      let fewer = unseen_le m.order exact (reach root) (seen done all) (seen after rest) more in
      let e : length all ≡ length (rest ++ x ∷ xs) = ap (λ (fs : List (Frame K P)). length fs) whole in
      let e2 : length (rest ++ x ∷ xs) ≡ length rest + length (x ∷ xs) = length-append rest (x ∷ xs) in (
        record {
          answered = subst (λ (fs : List (Finished K V)). Each (λ (g : Finished K V). Means m g.key g.answer) fs) (sym added)
              (each_append (λ (g : Finished K V). Means m g.key g.answer) done entries go.answered (each_entry m ring (x ∷ xs) means));
          linked = linked;
          distinct = distinct_front (frame_keys rest) (frame_keys (x ∷ xs)) (subst (λ (ks : List K). Distinct ks) keys go.distinct);
          rooted = more root go.rooted;
          within = each_front (λ k. In k (reach root)) (frame_keys rest) (frame_keys (x ∷ xs)) (subst (λ (ks : List K). Each (λ k. In k (reach root)) ks) keys go.within);
        },
        weight_lt m (reach root) done all after rest (omega arith) linked,
      )
