-- The evaluator's functions: each keeps the invariant and lowers the weight, by what its calls did.
use Rattle.std.proofs.Common.{◌≡◌, ℕ, zero, suc, ◌<◌, List, [], ◌∷◌, ◌++◌, length, drop, get_or, nat_eq, ◌&&◌, Bool, true, false, refl, sym, subst, ◌∙◌, inl, arith, append-nil}
use Rattle.std.proofs.lemmas.Bool.{eqb-true, eq-eqb}
use Rattle.pq_rules.specs.declared.turn.Turn.{Turn}
use Rattle.pq_rules.specs.declared.turn.Turn.TheVariants.{Ask, Done}
use Rattle.pq_rules.specs.declared.turn.Answer.{Answer}
use Rattle.pq_rules.specs.declared.turn.Answer.TheVariants.{Value, Cycle}
use Rattle.pq_rules.specs.aux.AnswerTable.{Finished, Covers, done_keys, entry, is_cycle}
use Rattle.pq_rules.specs.declared.scratch.Frame.{Frame}
use Rattle.pq_rules.specs.Turns.{Instance}
use Rattle.pq_rules.specs.Laws.{Laws}
use Rattle.pq_rules.specs.Relations.{In}
use Rattle.pq_rules.specs.Value.{Means, RightRead, ComesTo, Waits}
use Rattle.pq_rules.specs.aux.Evaluator.{frame_keys, seen, IsInvariant, GoesOn, Linked, Sits, Distinct, RotatedToLeast, RingDone, Applies, ring_entries}
use Rattle.pq_rules.proofs.Characterisation.{means_done, means_passed, comes_start, comes_on}
use Rattle.pq_rules.proofs.Order.{strict}
use Rattle.pq_rules.proofs.Weight.{Exact}
use Rattle.pq_rules.proofs.Stack.{linked_last}
use Rattle.pq_rules.proofs.Steps.{covered, covered_going, finish, ask_on, start_ask, start_done}
use Rattle.pq_rules.proofs.Closing.{close_popped}

module _ {K P V : Type 0} (m : Instance K P V) (reach : K → List K) (laws : Laws m reach) (exact : Exact m.order) (root : K) where
  told_value : (done : List (Finished K V)) (stack : List (Frame K P)) (f : Frame K P) (v : V)
      → IsInvariant m (reach root) root done (stack ++ f ∷ []) → Means m f.asked (Value v) → RightRead m (m.level f.key) (f.asked, Value v)
  told_value done stack f v go means =
      record { no_higher = laws.no_higher f.key f.asked f.part (linked_last m stack f go.linked).comes; means = means; value = λ e. (v, refl) }

  told_cycle : (done : List (Finished K V)) (stack : List (Frame K P)) (f : Frame K P) (r : List K)
      → IsInvariant m (reach root) root done (stack ++ f ∷ []) → Means m f.asked (Cycle r) → (m.level f.asked ≡ m.level f.key → ⊥)
      → RightRead m (m.level f.key) (f.asked, Cycle r)
  told_cycle done stack f r go means other =
      record { no_higher = laws.no_higher f.key f.asked f.part (linked_last m stack f go.linked).comes; means = means; value = λ e. absurd (other e) }

  resumed_at : (done after : List (Finished K V)) (stack rest : List (Frame K P)) (f : Frame K P) (a : Answer K V) (t : Turn K P V)
      → IsInvariant m (reach root) root done (stack ++ f ∷ []) → RightRead m (m.level f.key) (f.asked, a)
      → m.advance f.part a ≡ t → Applies m f.key t done stack after rest
      → GoesOn m (reach root) root done (stack ++ f ∷ []) after rest
  unfolding Applies
  resumed_at done after stack rest f a (Ask q p) go told to kept =
      subst (λ (x : List (Frame K P)). GoesOn m (reach root) root done (stack ++ f ∷ []) after x) (sym kept.1)
      (subst (λ (x : List (Finished K V)). GoesOn m (reach root) root done (stack ++ f ∷ []) x (stack ++ record { key = f.key; asked = q; part = p } ∷ [])) (sym kept.0)
      (ask_on m reach laws exact root done stack f a q p go told to kept.2))
  resumed_at done after stack rest f a (Done v) go told to kept =
      let sits = linked_last m stack f go.linked in
      let means = means_done m f.key v sits.high
      (subst (λ (x : Turn K P V). ComesTo m f.key x) to (comes_on m f.key f.asked f.part a sits.comes told)) in
      subst (λ (x : List (Frame K P)). GoesOn m (reach root) root done (stack ++ f ∷ []) after x) (sym kept.1)
      (covered m reach laws exact root done (stack ++ f ∷ []) (done ++ entry f.key (Value v) ∷ []) after stack kept.0
      (finish m reach laws exact root done stack f (Value v) go means))

  -- an answer that is not passed on is delivered to the rule
  told_any : (done : List (Finished K V)) (stack : List (Frame K P)) (f : Frame K P) (a : Answer K V)
      → IsInvariant m (reach root) root done (stack ++ f ∷ []) → Means m f.asked a
      → (nat_eq (m.level f.asked) (m.level f.key) && is_cycle a) ≡ false → RightRead m (m.level f.key) (f.asked, a)
  told_any done stack f (Value v) go means no_pass = told_value done stack f v go means
  told_any done stack f (Cycle r) go means no_pass =
      told_cycle done stack f r go means (λ e. apart (m.level f.asked) (m.level f.key) no_pass e)
    where
      apart : (n k : ℕ) → (nat_eq n k && true) ≡ false → n ≡ k → ⊥
      apart n k h e = let same : nat_eq n k ≡ true = eq-eqb n k e in cc

  pub resumed : (done after : List (Finished K V)) (stack rest : List (Frame K P)) (f : Frame K P) (a : Answer K V)
      → IsInvariant m (reach root) root done (stack ++ f ∷ []) → Means m f.asked a
      → (nat_eq (m.level f.asked) (m.level f.key) && is_cycle a) ≡ false
      → Applies m f.key (m.advance f.part a) done stack after rest
      → GoesOn m (reach root) root done (stack ++ f ∷ []) after rest
  resumed done after stack rest f a go means no_pass kept =
      resumed_at done after stack rest f a (m.advance f.part a) go (told_any done stack f a go means no_pass) refl kept

  waits_for : (f : Frame K P) → Sits m f → m.level f.asked ≡ m.level f.key → Waits m f.key f.asked
  unfolding Waits
  waits_for f s e = (e, (f.part, s.comes))

  pub passed_on : (done after : List (Finished K V)) (stack : List (Frame K P)) (f : Frame K P) (a : Answer K V) (r : List K)
      → IsInvariant m (reach root) root done (stack ++ f ∷ []) → Means m f.asked a → a ≡ Cycle r → m.level f.asked ≡ m.level f.key
      → Covers (done ++ entry f.key (Cycle r) ∷ []) after
      → GoesOn m (reach root) root done (stack ++ f ∷ []) after stack
  passed_on done after stack f a r go means is same added =
      let there : Means m f.asked (Cycle r) = subst (λ (b : Answer K V). Means m f.asked b) is means in
      let sits = linked_last m stack f go.linked in
      let here = means_passed m (strict m.order exact.total) f.key f.asked r sits.high (waits_for f sits same) there in
      covered m reach laws exact root done (stack ++ f ∷ []) (done ++ entry f.key (Cycle r) ∷ []) after stack added
      (finish m reach laws exact root done stack f (Cycle r) go here)

  pub passed : (done after : List (Finished K V)) (stack : List (Frame K P)) (f : Frame K P) (a : Answer K V)
      → IsInvariant m (reach root) root done (stack ++ f ∷ []) → Means m f.asked a
      → (nat_eq (m.level f.asked) (m.level f.key) && is_cycle a) ≡ true
      → Covers (done ++ entry f.key a ∷ []) after
      → GoesOn m (reach root) root done (stack ++ f ∷ []) after stack
  passed done after stack f (Value v) go means pass added = absurd (never (nat_eq (m.level f.asked) (m.level f.key)) pass)
    where
      never : (b : Bool) → (b && false) ≡ true → ⊥
      never true h = cc
      never false h = cc
  passed done after stack f (Cycle r) go means pass added =
      passed_on done after stack f (Cycle r) r go means refl (level_same (m.level f.asked) (m.level f.key) pass) added
    where
      level_same : (n k : ℕ) → (nat_eq n k && true) ≡ true → n ≡ k
      level_same n k h = eqb-true n k (both (nat_eq n k) h)
        where
          both : (b : Bool) → (b && true) ≡ true → b ≡ true
          both true h = refl
          both false h = cc

  begun_at : (done after : List (Finished K V)) (stack rest : List (Frame K P)) (f : Frame K P) (t : Turn K P V)
      → IsInvariant m (reach root) root done (stack ++ f ∷ []) → 0 < m.level f.asked
      → (In f.asked (done_keys done) → ⊥) → (In f.asked (frame_keys (stack ++ f ∷ [])) → ⊥)
      → m.start f.asked ≡ t → Applies m f.asked t done (stack ++ f ∷ []) after rest
      → GoesOn m (reach root) root done (stack ++ f ∷ []) after rest
  unfolding Applies
  begun_at done after stack rest f (Ask q p) go high no_answer not_waiting to kept =
      subst (λ (x : List (Frame K P)). GoesOn m (reach root) root done (stack ++ f ∷ []) after x) (sym kept.1)
      (subst (λ (x : List (Finished K V)). GoesOn m (reach root) root done (stack ++ f ∷ []) x ((stack ++ f ∷ []) ++ record { key = f.asked; asked = q; part = p } ∷ [])) (sym kept.0)
      (start_ask m reach laws exact root done stack f q p go high no_answer not_waiting to kept.2))
  begun_at done after stack rest f (Done v) go high no_answer not_waiting to kept =
      subst (λ (x : List (Frame K P)). GoesOn m (reach root) root done (stack ++ f ∷ []) after x) (sym kept.1)
      (covered m reach laws exact root done (stack ++ f ∷ []) (done ++ entry f.asked (Value v) ∷ []) after (stack ++ f ∷ []) kept.0
      (start_done m reach laws exact root done stack f v go high no_answer not_waiting to))

  pub begun : (done after : List (Finished K V)) (stack all rest : List (Frame K P)) (f : Frame K P) (key : K)
      → IsInvariant m (reach root) root done (stack ++ f ∷ []) → key ≡ f.asked → all ≡ stack ++ f ∷ [] → 0 < m.level f.asked
      → (In f.asked (done_keys done) → ⊥) → (In key (frame_keys all) → ⊥)
      → Applies m key (m.start key) done all after rest
      → GoesOn m (reach root) root done (stack ++ f ∷ []) after rest
  begun done after stack all rest f key go same is high no_answer not_waiting kept =
      let alone : In f.asked (frame_keys (stack ++ f ∷ [])) → ⊥ =
      subst (λ (x : K). In x (frame_keys (stack ++ f ∷ [])) → ⊥) same
      (subst (λ (fs : List (Frame K P)). In key (frame_keys fs) → ⊥) is not_waiting) in
      let there : Applies m f.asked (m.start f.asked) done (stack ++ f ∷ []) after rest =
      subst (λ (x : K). Applies m x (m.start x) done (stack ++ f ∷ []) after rest) same
      (subst (λ (fs : List (Frame K P)). Applies m key (m.start key) done fs after rest) is kept) in
      begun_at done after stack rest f (m.start f.asked) go high no_answer alone refl there

  pub closed : (done after : List (Finished K V)) (stack all rest : List (Frame K P)) (f : Frame K P) (key : K) (place : ℕ) (ring : List K)
      → IsInvariant m (reach root) root done (stack ++ f ∷ []) → key ≡ f.asked → all ≡ stack ++ f ∷ []
      → place < length all → ((d : Frame K P) → (get_or all place d).key ≡ key)
      → RotatedToLeast m.order (frame_keys (drop place all)) ring → RingDone ring place done all after rest
      → GoesOn m (reach root) root done (stack ++ f ∷ []) after rest
  closed done after stack all rest f key place ring go same is within at turned ended =
      covered m reach laws exact root done (stack ++ f ∷ []) (done ++ ring_entries ring ended.popped) after rest ended.added
      (close_popped m reach laws exact root done stack f place ring (done ++ ring_entries ring ended.popped) rest ended.popped go
      (subst (λ (fs : List (Frame K P)). place < length fs) is within)
      (λ d. subst (λ (fs : List (Frame K P)). (get_or fs place d).key ≡ key) is (at d) ∙ same)
      (subst (λ (fs : List (Frame K P)). RotatedToLeast m.order (frame_keys (drop place fs)) ring) is turned)
      (sym is ∙ ended.whole) ended.place_is refl)

  first_at : (after : List (Finished K V)) (rest : List (Frame K P)) (t : Turn K P V) → 0 < m.level root
      → m.start root ≡ t → Applies m root t [] [] after rest → IsInvariant m (reach root) root after rest
  unfolding Applies Linked Distinct
  first_at after rest (Ask q p) high to kept =
      let g : Frame K P = record { key = root; asked = q; part = p } in
      let comes = subst (λ (x : Turn K P V). ComesTo m root x) to (comes_start m root) in
      let go : IsInvariant m (reach root) root [] (g ∷ []) = record {
        answered = tt;
        linked = (record { comes = comes; high = high; fits = kept.2 }, tt, tt);
        distinct = (λ i. i, tt);
        rooted = inl refl;
        within = (laws.reaches root, tt);
      } in
      subst (λ (x : List (Frame K P)). IsInvariant m (reach root) root after x) (sym kept.1)
      (subst (λ (x : List (Finished K V)). IsInvariant m (reach root) root x (g ∷ [])) (sym kept.0) go)
  first_at after rest (Done v) high to kept =
      let e : Finished K V = record { key = root; answer = Value v } in
      let means = means_done m root v high (subst (λ (x : Turn K P V). ComesTo m root x) to (comes_start m root)) in
      let go : IsInvariant m (reach root) root (e ∷ []) [] = record {
        answered = (means, tt);
        linked = tt;
        distinct = tt;
        rooted = inl refl;
        within = tt;
      } in
      subst (λ (x : List (Frame K P)). IsInvariant m (reach root) root after x) (sym kept.1)
      (covered_going m reach laws exact root (e ∷ []) after [] kept.0 go)

  pub first : (done after : List (Finished K V)) (stack rest : List (Frame K P)) (key : K) → 0 < m.level root
      → key ≡ root → done ≡ [] → stack ≡ [] → Applies m key (m.start key) done stack after rest → IsInvariant m (reach root) root after rest
  first done after stack rest key high same none empty kept =
      first_at after rest (m.start root) high refl
      (subst (λ (x : K). Applies m x (m.start x) [] [] after rest) same
      (subst (λ (x : List (Frame K P)). Applies m key (m.start key) [] x after rest) empty
      (subst (λ (x : List (Finished K V)). Applies m key (m.start key) x stack after rest) none kept)))

  pub ended : (done : List (Finished K V)) (stack : List (Frame K P)) → IsInvariant m (reach root) root done stack → stack ≡ []
      → In root (done_keys done)
  ended done stack go empty =
      let i : In root (done_keys done ++ []) = subst (λ (x : List (Frame K P)). In root (seen done x)) empty go.rooted in
      subst (λ (ks : List K). In root ks) (append-nil (done_keys done)) i

pub above_zero : (n k : ℕ) → (n ≡ 0 → ⊥) → n ≡ k → 0 < k
above_zero zero k h e = absurd (h refl)
above_zero (suc n) k h e = omega arith
