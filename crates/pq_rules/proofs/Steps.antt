-- Each step of the evaluator keeps its invariant and lowers its weight.
use Rattle.std.proofs.Common.{◌≡◌, ℕ, ◌+◌, ◌*◌, ◌^◌, ◌<◌, ◌≤◌, List, [], ◌∷◌, ◌++◌, length, refl, sym, ap, subst, ◌∙◌, inl, inr, arith}
use Rattle.pq_rules.specs.declared.turn.Turn.{Turn}
use Rattle.pq_rules.specs.declared.turn.Turn.TheVariants.{Ask, Done}
use Rattle.pq_rules.specs.declared.turn.Answer.{Answer}
use Rattle.pq_rules.specs.declared.turn.Answer.TheVariants.{Value}
use Rattle.pq_rules.specs.aux.AnswerTable.{Finished, Covers, done_keys}
use Rattle.pq_rules.specs.declared.scratch.Frame.{Frame}
use Rattle.pq_rules.specs.Turns.{Instance, IsLower}
use Rattle.pq_rules.specs.Laws.{Laws}
use Rattle.pq_rules.specs.Relations.{Each, In}
use Rattle.pq_rules.specs.Value.{Means, RightRead, ComesTo}
use Rattle.pq_rules.specs.aux.Evaluator.{frame_keys, seen, IsInvariant, GoesOn, Grows, Distinct, weight, top_left, left_number, unseen}
use Rattle.pq_rules.proofs.Characterisation.{means_done, comes_start, comes_on, each_append}
use Rattle.pq_rules.proofs.Rings.{each_in}
use Rattle.pq_rules.specs.aux.Lists.{in_append, in_append_left, in_append_right}
use Rattle.pq_rules.proofs.ListLemmas.{each_from, last_length, frame_keys_append, done_keys_append}
use Rattle.pq_rules.proofs.Weight.{Exact, unseen_le, unseen_lt, top_is, weight_lt}
use Rattle.pq_rules.proofs.Stack.{linked_front, linked_last, linked_swap, linked_push, distinct_front, distinct_push, each_front}

same_work : (x t s : ℕ) → s < t → x * (2 ^ 97) + s < x * (2 ^ 97) + t
same_work x t s h = omega arith

lower_number : (a b c d : ℕ) → IsLower (a, b) (c, d) → b < 2 ^ 64 → a * (2 ^ 64) + b < c * (2 ^ 64) + d
lower_number a b c d (inl h) f = omega arith
lower_number a b c d (inr h) f = let e : a ≡ c = h.0 in let l : b < d = h.1 in omega arith

seen_moves : {K P V : Type 0} (done : List (Finished K V)) (stack : List (Frame K P)) (f : Frame K P) (e : Finished K V)
    → f.key ≡ e.key → (k : K) → In k (seen done (stack ++ f ∷ [])) → In k (seen (done ++ e ∷ []) stack)
seen_moves {K} {P} {V} done stack f e same k i =
    rw (done_keys_append done (e ∷ []))
    (elim (in_append k (done_keys done) (frame_keys (stack ++ f ∷ [])) i) [
      | inl d ↦ in_append_left k (done_keys done ++ e.key ∷ []) (frame_keys stack) (in_append_left k (done_keys done) (e.key ∷ []) d)
      | inr s ↦ elim (in_append k (frame_keys stack) (f.key ∷ []) (subst (λ (ks : List K). In k ks) (frame_keys_append stack (f ∷ [])) s)) [
        | inl t ↦ in_append_right k (done_keys done ++ e.key ∷ []) (frame_keys stack) t
        | inr (inl p) ↦ in_append_left k (done_keys done ++ e.key ∷ []) (frame_keys stack)
            (in_append_right k (done_keys done) (e.key ∷ []) (inl (p ∙ same)))
        | inr (inr j) ↦ absurd j
      ]
    ])

more_seen : {K P V : Type 0} (before after : List (Finished K V)) (stack : List (Frame K P))
    → ((k : K) → In k (done_keys before) → In k (done_keys after)) → (k : K) → In k (seen before stack) → In k (seen after stack)
more_seen before after stack more k i = elim (in_append k (done_keys before) (frame_keys stack) i) [
  | inl d ↦ in_append_left k (done_keys after) (frame_keys stack) (more k d)
  | inr s ↦ in_append_right k (done_keys after) (frame_keys stack) s
]

fewer_weight : (u v l t : ℕ) → u ≤ v → (2 * u + l) * (2 ^ 97) + t ≤ (2 * v + l) * (2 ^ 97) + t
fewer_weight u v l t h = omega arith

less_then : (a b c : ℕ) → b < a → c ≤ b → c < a
less_then a b c h j = omega arith

then_less : (a b c : ℕ) → a < b → b ≤ c → a < c
then_less a b c h j = omega arith

module _ {K P V : Type 0} (m : Instance K P V) (reach : K → List K) (laws : Laws m reach) (exact : Exact m.order) (root : K) where
  pub covered_going : (before after : List (Finished K V)) (stack : List (Frame K P)) → Covers before after
      → IsInvariant m (reach root) root before stack → IsInvariant m (reach root) root after stack
  covered_going before after stack c go = record {
    answered = each_from (λ (f : Finished K V). Means m f.key f.answer) after
        (λ f i. each_in (λ (g : Finished K V). Means m g.key g.answer) f before go.answered (c.from f i));
    linked = go.linked;
    distinct = go.distinct;
    rooted = more_seen before after stack c.keys root go.rooted;
    within = go.within;
  }

  -- another list with the same answers
  pub covered : (done : List (Finished K V)) (stack : List (Frame K P)) (before after : List (Finished K V)) (rest : List (Frame K P))
      → Covers before after → GoesOn m (reach root) root done stack before rest → GoesOn m (reach root) root done stack after rest
  unfolding weight
  covered done stack before after rest c goes = (
    covered_going before after rest c goes.0,
    less_then (weight m (reach root) done stack) (weight m (reach root) before rest) (weight m (reach root) after rest) goes.1
        (fewer_weight (unseen m.order (reach root) (seen after rest)) (unseen m.order (reach root) (seen before rest)) (length rest) (top_left m rest)
        (unseen_le m.order exact (reach root) (seen before rest) (seen after rest) (more_seen before after rest c.keys))),
  )

  -- more is known before a step
  pub grown_going : (before after : List (Finished K V)) (stack : List (Frame K P)) → Grows m before after
      → IsInvariant m (reach root) root before stack → IsInvariant m (reach root) root after stack
  grown_going before after stack g go = record {
    answered = g.right go.answered;
    linked = go.linked;
    distinct = go.distinct;
    rooted = more_seen before after stack g.keys root go.rooted;
    within = go.within;
  }

  pub grown : (before after : List (Finished K V)) (stack : List (Frame K P)) (last : List (Finished K V)) (rest : List (Frame K P))
      → Grows m before after → GoesOn m (reach root) root after stack last rest → GoesOn m (reach root) root before stack last rest
  unfolding weight
  grown before after stack last rest g goes = (
    goes.0,
    then_less (weight m (reach root) last rest) (weight m (reach root) after stack) (weight m (reach root) before stack) goes.1
        (fewer_weight (unseen m.order (reach root) (seen after stack)) (unseen m.order (reach root) (seen before stack)) (length stack) (top_left m stack)
        (unseen_le m.order exact (reach root) (seen before stack) (seen after stack) (more_seen before after stack g.keys))),
  )

  -- the last key of the stack has its answer
  pub finish : (done : List (Finished K V)) (stack : List (Frame K P)) (f : Frame K P) (a : Answer K V)
      → IsInvariant m (reach root) root done (stack ++ f ∷ []) → Means m f.key a
      → GoesOn m (reach root) root done (stack ++ f ∷ []) (done ++ record { key = f.key; answer = a } ∷ []) stack
  finish done stack f a go means =
      let e : Finished K V = record { key = f.key; answer = a } in
      let keys : frame_keys (stack ++ f ∷ []) ≡ frame_keys stack ++ f.key ∷ [] = frame_keys_append stack (f ∷ []) in
      let linked = linked_front m stack (f ∷ []) go.linked in
      let fewer = unseen_le m.order exact (reach root) (seen done (stack ++ f ∷ [])) (seen (done ++ e ∷ []) stack) (seen_moves done stack f e refl) in
      let long = last_length stack f in (
        record {
          answered = each_append (λ (g : Finished K V). Means m g.key g.answer) done (e ∷ []) go.answered (means, tt);
          linked = linked;
          distinct = distinct_front (frame_keys stack) (f.key ∷ []) (subst (λ (ks : List K). Distinct ks) keys go.distinct);
          rooted = seen_moves done stack f e refl root go.rooted;
          within = each_front (λ k. In k (reach root)) (frame_keys stack) (f.key ∷ []) (subst (λ (ks : List K). Each (λ k. In k (reach root)) ks) keys go.within);
        },
        weight_lt m (reach root) done (stack ++ f ∷ []) (done ++ e ∷ []) stack (omega arith) linked,
      )

  -- the last key of the stack asks further
  pub ask_on : (done : List (Finished K V)) (stack : List (Frame K P)) (f : Frame K P) (a : Answer K V) (q : K) (p : P)
      → IsInvariant m (reach root) root done (stack ++ f ∷ []) → RightRead m (m.level f.key) (f.asked, a)
      → m.advance f.part a ≡ Ask q p → ((m.left p).0 < 2 ^ 32) × ((m.left p).1 < 2 ^ 64)
      → GoesOn m (reach root) root done (stack ++ f ∷ []) done (stack ++ record { key = f.key; asked = q; part = p } ∷ [])
  unfolding weight
  ask_on done stack f a q p go told to fits =
      let g : Frame K P = record { key = f.key; asked = q; part = p } in
      let sits = linked_last m stack f go.linked in
      let comes = subst (λ (t : Turn K P V). ComesTo m f.key t) to (comes_on m f.key f.asked f.part a sits.comes told) in
      let keys : frame_keys (stack ++ f ∷ []) ≡ frame_keys (stack ++ g ∷ []) =
      frame_keys_append stack (f ∷ []) ∙ sym (frame_keys_append stack (g ∷ [])) in
      let both : seen done (stack ++ f ∷ []) ≡ seen done (stack ++ g ∷ []) = ap (λ (ks : List K). done_keys done ++ ks) keys in
      let lower = lower_number (m.left p).0 (m.left p).1 (m.left f.part).0 (m.left f.part).1 (laws.falls f.part a q p to) fits.1 in (
        record {
          answered = go.answered;
          linked = linked_swap m stack f g refl (record { comes = comes; high = sits.high; fits = fits }) go.linked;
          distinct = subst (λ (ks : List K). Distinct ks) keys go.distinct;
          rooted = subst (λ (ks : List K). In root ks) both go.rooted;
          within = subst (λ (ks : List K). Each (λ k. In k (reach root)) ks) keys go.within;
        },
        rw (← both, last_length stack f, last_length stack g, top_is m stack f, top_is m stack g)
            (same_work (2 * unseen m.order (reach root) (seen done (stack ++ f ∷ [])) + (length stack + 1)) (left_number (m.left f.part)) (left_number (m.left p)) lower),
      )

  -- a key is asked for the first time
  pub start_ask : (done : List (Finished K V)) (stack : List (Frame K P)) (f : Frame K P) (q : K) (p : P)
      → IsInvariant m (reach root) root done (stack ++ f ∷ []) → 0 < m.level f.asked
      → (In f.asked (done_keys done) → ⊥) → (In f.asked (frame_keys (stack ++ f ∷ [])) → ⊥)
      → m.start f.asked ≡ Ask q p → ((m.left p).0 < 2 ^ 32) × ((m.left p).1 < 2 ^ 64)
      → GoesOn m (reach root) root done (stack ++ f ∷ []) done ((stack ++ f ∷ []) ++ record { key = f.asked; asked = q; part = p } ∷ [])
  start_ask done stack f q p go high no_answer not_waiting to fits =
      let g : Frame K P = record { key = f.asked; asked = q; part = p } in
      let all : List (Frame K P) = stack ++ f ∷ [] in
      let sits = linked_last m stack f go.linked in
      let comes = subst (λ (t : Turn K P V). ComesTo m f.asked t) to (comes_start m f.asked) in
      let keys : frame_keys (all ++ g ∷ []) ≡ frame_keys all ++ f.asked ∷ [] = frame_keys_append all (g ∷ []) in
      let here : In f.key (frame_keys all) =
      subst (λ (ks : List K). In f.key ks) (sym (frame_keys_append stack (f ∷ []))) (in_append_right f.key (frame_keys stack) (f.key ∷ []) (inl refl)) in
      let reached : In f.key (reach root) = each_in (λ k. In k (reach root)) f.key (frame_keys all) go.within here in
      let inside : In f.asked (reach root) = laws.stays root f.key f.asked f.part reached sits.comes in
      let more : (k : K) → In k (seen done all) → In k (seen done (all ++ g ∷ [])) =
      λ k i. elim (in_append k (done_keys done) (frame_keys all) i) [
        | inl d ↦ in_append_left k (done_keys done) (frame_keys (all ++ g ∷ [])) d
        | inr s ↦ in_append_right k (done_keys done) (frame_keys (all ++ g ∷ []))
            (subst (λ (ks : List K). In k ks) (sym keys) (in_append_left k (frame_keys all) (f.asked ∷ []) s))
      ] in
      let now : In f.asked (seen done (all ++ g ∷ [])) =
      in_append_right f.asked (done_keys done) (frame_keys (all ++ g ∷ []))
      (subst (λ (ks : List K). In f.asked ks) (sym keys) (in_append_right f.asked (frame_keys all) (f.asked ∷ []) (inl refl))) in
      let new : In f.asked (seen done all) → ⊥ =
      λ i. elim (in_append f.asked (done_keys done) (frame_keys all) i) [ inl d ↦ no_answer d | inr s ↦ not_waiting s ] in
      let fewer = unseen_lt m.order exact (reach root) (seen done all) (seen done (all ++ g ∷ [])) f.asked more inside new now in
      let linked = linked_push m stack f g refl (record { comes = comes; high = high; fits = fits }) go.linked in
      let long = last_length all g in (
        record {
          answered = go.answered;
          linked = linked;
          distinct = subst (λ (ks : List K). Distinct ks) (sym keys) (distinct_push (frame_keys all) f.asked go.distinct not_waiting);
          rooted = more root go.rooted;
          within = subst (λ (ks : List K). Each (λ k. In k (reach root)) ks) (sym keys)
              (each_append (λ k. In k (reach root)) (frame_keys all) (f.asked ∷ []) go.within (inside, tt));
        },
        weight_lt m (reach root) done all done (all ++ g ∷ []) (omega arith) linked,
      )

  pub start_done : (done : List (Finished K V)) (stack : List (Frame K P)) (f : Frame K P) (v : V)
      → IsInvariant m (reach root) root done (stack ++ f ∷ []) → 0 < m.level f.asked
      → (In f.asked (done_keys done) → ⊥) → (In f.asked (frame_keys (stack ++ f ∷ [])) → ⊥)
      → m.start f.asked ≡ Done v
      → GoesOn m (reach root) root done (stack ++ f ∷ []) (done ++ record { key = f.asked; answer = Value v } ∷ []) (stack ++ f ∷ [])
  start_done done stack f v go high no_answer not_waiting to =
      let e : Finished K V = record { key = f.asked; answer = Value v } in
      let all : List (Frame K P) = stack ++ f ∷ [] in
      let sits = linked_last m stack f go.linked in
      let means = means_done m f.asked v high (subst (λ (t : Turn K P V). ComesTo m f.asked t) to (comes_start m f.asked)) in
      let keys : done_keys (done ++ e ∷ []) ≡ done_keys done ++ f.asked ∷ [] = done_keys_append done (e ∷ []) in
      let here : In f.key (frame_keys all) =
      subst (λ (ks : List K). In f.key ks) (sym (frame_keys_append stack (f ∷ []))) (in_append_right f.key (frame_keys stack) (f.key ∷ []) (inl refl)) in
      let reached : In f.key (reach root) = each_in (λ k. In k (reach root)) f.key (frame_keys all) go.within here in
      let inside : In f.asked (reach root) = laws.stays root f.key f.asked f.part reached sits.comes in
      let more : (k : K) → In k (seen done all) → In k (seen (done ++ e ∷ []) all) =
      λ k i. rw keys (elim (in_append k (done_keys done) (frame_keys all) i) [
        | inl d ↦ in_append_left k (done_keys done ++ f.asked ∷ []) (frame_keys all) (in_append_left k (done_keys done) (f.asked ∷ []) d)
        | inr s ↦ in_append_right k (done_keys done ++ f.asked ∷ []) (frame_keys all) s
      ]) in
      let now : In f.asked (seen (done ++ e ∷ []) all) =
      rw keys (in_append_left f.asked (done_keys done ++ f.asked ∷ []) (frame_keys all) (in_append_right f.asked (done_keys done) (f.asked ∷ []) (inl refl))) in
      let new : In f.asked (seen done all) → ⊥ =
      λ i. elim (in_append f.asked (done_keys done) (frame_keys all) i) [ inl d ↦ no_answer d | inr s ↦ not_waiting s ] in
      let fewer = unseen_lt m.order exact (reach root) (seen done all) (seen (done ++ e ∷ []) all) f.asked more inside new now in (
        record {
          answered = each_append (λ (g : Finished K V). Means m g.key g.answer) done (e ∷ []) go.answered (means, tt);
          linked = go.linked;
          distinct = go.distinct;
          rooted = more root go.rooted;
          within = go.within;
        },
        weight_lt m (reach root) done all (done ++ e ∷ []) all (omega arith) go.linked,
      )
