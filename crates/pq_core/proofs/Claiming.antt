-- The keys that runs hold, and their waits, when frames are pushed and leave, and when runs end.
use Rattle.std.proofs.Common.{◌≡◌, ◌≢◌, ℕ, ◌==◌, if◌then◌else◌, Bool, true, false, List, [], ◌∷◌, ◌++◌, Option, Some, None, Result, Ok, Err, refl, sym, ◌∙◌, ap, subst, inl, inr}
use Rattle.std.proofs.lemmas.Bool.{eq-eqb, eqb-true}
use Rattle.std.specs.declared.alloc.AllocError.{AllocError}
use Rattle.std.specs.declared.cmp.Ordering.{Ordering}
use Rattle.pq_rules.specs.Relations.{In}
use Rattle.pq_memo.specs.declared.stepping.frame.Frame.{Frame}
use Rattle.pq_memo.specs.Frames.{frame_keys}
use Rattle.pq_memo.proofs.Stacked.{keys_append}
use Rattle.pq_claims.specs.Claims.{Hold, hold_of, Holds, IsSet, IsFreed, Claimed, Releases, ReleasesAll}
use Rattle.pq_claims.specs.declared.claim.Claim.{Claim}
use Rattle.pq_claims.specs.declared.claim.Claim.TheVariants.{Got, HeldBy, Ring}
use Rattle.pq_core.specs.declared.store.rising.Place.{Place}
use Rattle.pq_core.specs.declared.runs.frames.Top.{Top}
use Rattle.pq_core.specs.declared.runs.frames.Top.TheVariants.{Empty, At, Away}
use Rattle.pq_core.specs.aux.Rising.{found}
use Rattle.pq_core.specs.aux.Runs.{RunView, AreClaimed, HoldsBelow, IsHeldUp, IsLowered, OthersHold, claimed_keys, run_keys}
use Rattle.pq_core.proofs.Lists.{none_some}
use Rattle.pq_core.proofs.Changing.{if_at, if_other}

last_left : {A : Type 0} (xs ys : List A) (x y : A) → xs ++ x ∷ [] ≡ ys ++ y ∷ [] → xs ≡ ys
last_left [] [] x y e = refl
last_left [] (b ∷ []) x y e = absurd (cc)
last_left [] (b ∷ (c ∷ ys)) x y e = absurd (cc)
last_left (a ∷ []) [] x y e = absurd (cc)
last_left (a ∷ (c ∷ xs)) [] x y e = absurd (cc)
last_left {A} (a ∷ xs) (b ∷ ys) x y e = both (first e) (last_left xs ys x y (rest e))
  where
    first : a ∷ (xs ++ x ∷ []) ≡ b ∷ (ys ++ y ∷ []) → a ≡ b
    first w = cc

    rest : a ∷ (xs ++ x ∷ []) ≡ b ∷ (ys ++ y ∷ []) → xs ++ x ∷ [] ≡ ys ++ y ∷ []
    rest w = cc

    both : a ≡ b → xs ≡ ys → a ∷ xs ≡ b ∷ ys
    both p q = cc

no_last : {A : Type 0} (xs : List A) (x : A) → xs ++ x ∷ [] ≡ [] → ⊥
no_last [] x e = cc
no_last (a ∷ xs) x e = cc

-- the last frame became the top: the keys are the same
pub lowered_keys : {K P : Type 0} (before after : List (Frame K P)) (top : Top K P) → IsLowered before after top → frame_keys before ≡ run_keys after top
lowered_keys before after Empty low = subst (λ l. frame_keys before ≡ run_keys l Empty) (sym low.1) (ap (λ l. frame_keys l) low.0)
lowered_keys before after (At f) low = ap (λ l. frame_keys l) low ∙ keys_append after (f ∷ [])
lowered_keys before after (Away p) low = absurd low

-- a wait that is left was there before
pub freed_wait : {K : Type 0} (ks : List K) (before after : Option K) (k : K) → IsFreed ks before after → after ≡ Some k → before ≡ Some k
freed_wait ks before after k (inl s) w = sym s.0 ∙ w
freed_wait ks before after k (inr n) w = absurd (none_some k (sym n.0 ∙ w))

module _ {K : Type 0} (run : ℕ) (before after : List (ℕ × Hold K)) where
  -- a run that has the same claims holds the same keys, and waits for the same key
  pub same_hold : (r : ℕ) → hold_of after r ≡ hold_of before r
      → ((hold_of after r).keys ≡ (hold_of before r).keys) × ((k : K) → (hold_of after r).wait ≡ Some k → (hold_of before r).wait ≡ Some k)
  same_hold r e = (ap (λ (h : Hold K). h.keys) e, λ k w. ap (λ (h : Hold K). h.wait) (sym e) ∙ w)

  pub released_others : (answer : Option K) → Releases run answer before after → OthersHold run before after
  released_others None s r ne = same_hold r (s.1 r)
  released_others (Some key) s r ne = (s.1 r ne, λ k w. freed_wait (key ∷ []) (hold_of before r).wait (hold_of after r).wait k (s.2 r) w)

  pub released_keys : (answer : Option K) (ks : List K) (k : K) → Releases run answer before after → (hold_of before run).keys ≡ ks ++ k ∷ [] → (hold_of after run).keys ≡ ks
  released_keys None ks k s e = absurd (no_last ks k (sym e ∙ s.0))
  released_keys (Some key) ks k s e = last_left (hold_of after run).keys ks key k (sym s.0 ∙ e)

  -- a wait of the run that released a key was there before
  pub released_wait : (answer : Option K) (k : K) → Releases run answer before after → (hold_of after run).wait ≡ Some k → (hold_of before run).wait ≡ Some k
  released_wait None k s w = (same_hold run (s.1 run)).1 k w
  released_wait (Some key) k s w = freed_wait (key ∷ []) (hold_of before run).wait (hold_of after run).wait k (s.2 run) w

  pub all_released : ReleasesAll run before after → (hold_of after run).keys ≡ []
  all_released s = ap (λ (h : Hold K). h.keys) s.own

  pub all_others : ReleasesAll run before after → OthersHold run before after
  all_others s r ne = (s.keys r ne, λ k w. freed_wait (hold_of before run).keys (hold_of before r).wait (hold_of after r).wait k (s.waits r ne) w)

  pub set_own : (hold : Hold K) → IsSet before after run hold → (hold_of after run) ≡ hold
  set_own hold s = s run ∙ if_at run hold (hold_of before run)

  pub set_others : (hold : Hold K) → IsSet before after run hold → OthersHold run before after
  set_others hold s r ne = same_hold r (s r ∙ if_other r run hold (hold_of before r) ne)

  -- a claim that was got
  pub got_keys : (order : K → K → Ordering) (key : K) → Claimed order run key (Ok Got) before after → (hold_of after run).keys ≡ (hold_of before run).keys ++ key ∷ []
  got_keys order key s = ap (λ (h : Hold K). h.keys) (set_own _ s.1)

  -- a claim of a key that another run holds
  pub held_up : (order : K → K → Ordering) (key : K) (other : ℕ) → Claimed order run key (Ok (HeldBy other)) before after → IsHeldUp after run other
  held_up order key other s = (
    s.1,
    (
      key,
      ap (λ (h : Hold K). h.wait) (set_own _ s.2),
      subst (λ (ks : List K). In key ks) (sym (set_others _ s.2 other s.1).0) s.0,
    ),
  )

  pub held_keys : (order : K → K → Ordering) (key : K) (other : ℕ) → Claimed order run key (Ok (HeldBy other)) before after → (hold_of after run).keys ≡ (hold_of before run).keys
  held_keys order key other s = ap (λ (h : Hold K). h.keys) (set_own _ s.2)

  pub claimed_others : (order : K → K → Ordering) (key : K) (answer : Result (Claim K) AllocError) → Claimed order run key answer before after → OthersHold run before after
  claimed_others order key (Ok Got) s = set_others _ s.1
  claimed_others order key (Ok (HeldBy other)) s = set_others _ s.2
  claimed_others order key (Ok (Ring ring)) s = set_others _ s.1
  claimed_others order key (Err failure) s = λ r ne. same_hold r (s r)

module _ {K P : Type 0} (run : ℕ) (before after : List (ℕ × Hold K)) where
  -- the top left: its key was released, and the last frame is the top
  pub left_keys : (answer : Option K) (stack rest : List (Frame K P)) (top : Top K P)
      → HoldsBelow before run stack → Releases run answer before after → IsLowered stack rest top → (hold_of after run).keys ≡ run_keys rest top
  left_keys answer stack rest top h s low = released_keys run before after answer (frame_keys stack) h.0 s h.1 ∙ lowered_keys stack rest top low

-- a frame was pushed, whose key was held already
pub pushed_held : {K P : Type 0} (keys : List K) (stack pushed : List (Frame K P)) (f : Frame K P) → keys ≡ frame_keys stack ++ f.key ∷ [] → pushed ≡ stack ++ f ∷ []
    → keys ≡ frame_keys pushed
pushed_held {K} {P} keys stack pushed f e is = e ∙ sym (ap (λ (fs : List (Frame K P)). frame_keys fs) is ∙ keys_append stack (f ∷ []))

-- the last frame is the top, and its key is held as before
pub lowered_held : {K P : Type 0} (keys : List K) (before after : List (Frame K P)) (top : Top K P) → IsLowered before after top → keys ≡ frame_keys before → keys ≡ run_keys after top
lowered_held keys before after top low e = e ∙ lowered_keys before after top low

-- nothing is changed
pub others_same : {K : Type 0} (run : ℕ) (claims : List (ℕ × Hold K)) → OthersHold run claims claims
others_same run claims r ne = (refl, λ k w. w)

-- other runs hold what they held, after one change and another
pub others_then : {K : Type 0} (run : ℕ) (a b c : List (ℕ × Hold K)) → OthersHold run a b → OthersHold run b c → OthersHold run a c
others_then run a b c f g r ne = ((g r ne).0 ∙ (f r ne).0, λ k w. (f r ne).1 k ((g r ne).1 k w))

pub not_same : (r run : ℕ) → (r == run) ≡ false → r ≢ run
not_same r run e is = not_both (sym e ∙ (ap (λ (i : ℕ). i == run) is ∙ eq-eqb run run refl))
  where
    not_both : false ≡ true → ⊥
    not_both w = cc

-- each run holds the keys of its frames, after one run changed
pub by_run : {K P : Type 0} (before after : List (ℕ × Hold K)) (old new : List (Place (RunView K P))) (run : ℕ) (value : Option (RunView K P))
    → ((k : ℕ) → found new k ≡ (if k == run then value else found old k))
    → (hold_of after run).keys ≡ claimed_keys value → OthersHold run before after → AreClaimed before old → AreClaimed after new
by_run {K} {P} before after old new run value set mine others claimed r = by_test (r == run) refl
  where
    by_test : (t : Bool) → (r == run) ≡ t → (hold_of after r).keys ≡ claimed_keys (found new r)
    by_test true e =
        let is : r ≡ run = eqb-true r run e in
        subst (λ (i : ℕ). (hold_of after i).keys ≡ claimed_keys (found new i)) (sym is)
        (mine ∙ ap (λ (o : Option (RunView K P)). claimed_keys o) (sym (set run ∙ if_at run value (found old run))))
    by_test false e =
        let ne : r ≢ run = not_same r run e in
        (others r ne).0 ∙ (claimed r ∙ ap (λ (o : Option (RunView K P)). claimed_keys o) (sym (set r ∙ if_other r run value (found old r) ne)))

-- the same runs
pub same_claimed : {K P : Type 0} (claims : List (ℕ × Hold K)) (old new : List (Place (RunView K P))) → ((k : ℕ) → found new k ≡ found old k)
    → AreClaimed claims old → AreClaimed claims new
same_claimed claims old new same claimed r = claimed r ∙ ap (λ o. claimed_keys o) (sym (same r))

-- a run that holds a key exists
pub holder_there : {K P : Type 0} (claims : List (ℕ × Hold K)) (runs : List (Place (RunView K P))) (r : ℕ) (k : K) → AreClaimed claims runs → Holds claims r k
    → (run : RunView K P) × (found runs r ≡ Some run)
holder_there {K} {P} claims runs r k claimed holds = there (found runs r) refl
  where
    there : (o : Option (RunView K P)) → found runs r ≡ o → (run : RunView K P) × (o ≡ Some run)
    there None e = absurd (subst (λ (ks : List K). In k ks) (claimed r ∙ ap (λ (o : Option (RunView K P)). claimed_keys o) e) holds)
    there (Some run) e = (run, refl)
