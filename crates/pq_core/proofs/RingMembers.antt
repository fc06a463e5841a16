-- The members of a ring whose frames are in several runs.
use Rattle.std.proofs.Common.{◌≡◌, ℕ, zero, suc, ◌+◌, ◌<◌, ◌≤◌, List, [], ◌∷◌, ◌++◌, length, get_or, Option, refl, sym, ◌∙◌, ap, subst, inl, inr, arith, append_assoc}
use Rattle.std.specs.declared.cmp.Ordering.{Ordering}
use Rattle.pq_inputs.specs.Sources.{Sources}
use Rattle.pq_rules.specs.Turns.{Machine}
use Rattle.pq_rules.specs.Relations.{In, Each}
use Rattle.pq_memo.specs.declared.stepping.frame.Frame.{Frame}
use Rattle.pq_memo.specs.Sound.{Memo}
use Rattle.pq_memo.specs.Frames.{AreMembers, IsMember, frame_keys}
use Rattle.pq_claims.specs.Claims.{Hold, AreSound}
use Rattle.pq_core.specs.declared.store.rising.Place.{Place}
use Rattle.pq_core.specs.aux.Runs.{RunView, AreClaimed}
use Rattle.pq_core.specs.aux.Rings.{HasFrame}
use Rattle.pq_core.proofs.RingRuns.{one_frame}

module _ {K P : Type 0} where
  key_in : (fs : List (Frame K P)) (k : K) → In k (frame_keys fs) → (f : Frame K P) × In f fs × (f.key ≡ k)
  key_in [] k i = absurd i
  key_in (g ∷ gs) k (inl e) = (g, inl refl, sym e)
  key_in (g ∷ gs) k (inr i) = let r = key_in gs k i in (r.0, inr r.1, r.2)

  each_of : (Q : Frame K P → Type 0) (fs : List (Frame K P)) (f : Frame K P) → Each Q fs → In f fs → Q f
  each_of Q [] f e i = absurd i
  each_of Q (g ∷ gs) f e (inl p) = subst (λ (x : Frame K P). Q x) (sym p) e.0
  each_of Q (g ∷ gs) f e (inr i) = each_of Q gs f e.1 i

  -- ---- the loop

  -- how far the members are made
  pub record IsMade (made : List (Frame K P) → Type 0) (steps : ℕ) (fs : List (Frame K P)) : Type 0 where
    pub done : List (Frame K P)
    pub rest : List (Frame K P)
    pub whole : fs ≡ done ++ rest
    pub counted : length done ≡ steps
    pub members : made done

  next_frame : (done rest : List (Frame K P)) (i : ℕ) (x : K) → length done ≡ i → i < length (frame_keys (done ++ rest)) → x ≡ get_or (frame_keys (done ++ rest)) i x
      → (g : Frame K P) × (more : List (Frame K P)) × (rest ≡ g ∷ more) × (g.key ≡ x)
  next_frame [] [] i x n h is = absurd (omega arith)
  next_frame [] (g ∷ more) zero x n h is = (g, more, refl, sym is)
  next_frame [] (g ∷ more) (suc i) x n h is = absurd (omega arith)
  next_frame (d ∷ done) rest zero x n h is = absurd (omega arith)
  next_frame (d ∷ done) rest (suc i) x n h is = next_frame done rest i x (omega arith) (omega arith) is

  all_done : (done rest : List (Frame K P)) (i : ℕ) → length done ≡ i → length (frame_keys (done ++ rest)) ≤ i → done ++ rest ≡ done
  all_done [] [] i n h = refl
  all_done [] (g ∷ more) i n h = absurd (omega arith)
  all_done (d ∷ done) rest zero n h = absurd (omega arith)
  all_done (d ∷ done) rest (suc i) n h = ap (λ (l : List (Frame K P)). d ∷ l) (all_done done rest i (omega arith) (omega arith))

module _ {K P V : Type 0} (order : K → K → Ordering) (m : Machine K P V) (history : List Sources) (now : ℕ) (table : K → Option (Memo K V)) where
  members_more : (fs : List (Frame K P)) (es : List (K × List K)) (f : Frame K P) (e : K × List K) → AreMembers order m history now table fs es → IsMember order m history now table f e
      → AreMembers order m history now table (fs ++ f ∷ []) (es ++ e ∷ [])
  members_more [] [] f e a b = (b, tt)
  members_more [] (x ∷ es) f e a b = absurd a
  members_more (g ∷ fs) [] f e a b = absurd a
  members_more (g ∷ fs) (x ∷ es) f e a b = (a.0, members_more fs es f e a.1 b)

  module _ (claims : List (ℕ × Hold K)) (runs : List (Place (RunView K P))) (claimed : AreClaimed claims runs) (sound : AreSound claims) (ring : List K) where
    pub made_none : (es : List (K × List K)) → es ≡ [] → (fs : List (Frame K P)) → IsMade (λ done. AreMembers order m history now table done es) 0 fs
    made_none es none fs = record {
      done = [];
      rest = fs;
      whole = refl;
      counted = refl;
      members = subst (λ (l : List (K × List K)). AreMembers order m history now table [] l) (sym none) tt;
    }

    pub made_next : (es qs : List (K × List K)) (e : K × List K) (i : ℕ) (x : K) (f : Frame K P) → i < length ring → x ≡ get_or ring i x → f.key ≡ x → HasFrame runs f
        → IsMember order m history now table f e → qs ≡ es ++ e ∷ [] → (fs : List (Frame K P)) → frame_keys fs ≡ ring → Each (HasFrame runs) fs
        → IsMade (λ done. AreMembers order m history now table done es) i fs → IsMade (λ done. AreMembers order m history now table done qs) (i + 1) fs
    made_next es qs e i x f low is key among member pushed fs keys all made =
        let all_keys : frame_keys (made.done ++ made.rest) ≡ ring = ap (λ (l : List (Frame K P)). frame_keys l) (sym made.whole) ∙ keys in
        let g = next_frame made.done made.rest i x made.counted (subst (λ (ks : List K). i < length ks) (sym all_keys) low) (subst (λ (ks : List K). x ≡ get_or ks i x) (sym all_keys) is) in
        let there : In g.0 fs = subst (λ (l : List (Frame K P)). In g.0 l) (sym (made.whole ∙ ap (λ (l : List (Frame K P)). made.done ++ l) g.2)) (in_middle made.done g.0 g.1) in
        let one : f ≡ g.0 = one_frame runs claims claimed sound f g.0 among (each_of (HasFrame runs) fs g.0 all there) (key ∙ sym g.3) in
        record {
          done = made.done ++ g.0 ∷ [];
          rest = g.1;
          whole = made.whole ∙ ap (λ (l : List (Frame K P)). made.done ++ l) g.2 ∙ sym (append_assoc made.done (g.0 ∷ []) g.1);
          counted = (let c : length made.done ≡ i = made.counted in let l : length (made.done ++ g.0 ∷ []) ≡ length made.done + 1 = one_more made.done g.0 in omega arith);
          members = subst (λ (l : List (K × List K)). AreMembers order m history now table (made.done ++ g.0 ∷ []) l) (sym pushed)
              (members_more made.done es g.0 e made.members (subst (λ (h : Frame K P). IsMember order m history now table h e) one member));
        }
      where
        in_middle : (xs : List (Frame K P)) (y : Frame K P) (ys : List (Frame K P)) → In y (xs ++ y ∷ ys)
        in_middle [] y ys = inl refl
        in_middle (z ∷ xs) y ys = inr (in_middle xs y ys)

        one_more : (xs : List (Frame K P)) (y : Frame K P) → length (xs ++ y ∷ []) ≡ length xs + 1
        one_more [] y = refl
        one_more (z ∷ xs) y = let e : length (xs ++ y ∷ []) ≡ length xs + 1 = one_more xs y in omega arith

    pub made_all : (es : List (K × List K)) (i : ℕ) → length ring ≤ i → (fs : List (Frame K P)) → frame_keys fs ≡ ring → IsMade (λ done. AreMembers order m history now table done es) i fs
        → AreMembers order m history now table fs es
    made_all es i high fs keys made =
        let all_keys : frame_keys (made.done ++ made.rest) ≡ ring = ap (λ (l : List (Frame K P)). frame_keys l) (sym made.whole) ∙ keys in
        subst (λ (l : List (Frame K P)). AreMembers order m history now table l es)
        (sym (made.whole ∙ all_done made.done made.rest i made.counted (subst (λ (ks : List K). length ks ≤ i) (sym all_keys) high))) made.members

    -- a frame of the ring, by its key
    pub member_frame : (Q : Frame K P → Type 0) (fs : List (Frame K P)) (i : ℕ) (x : K) → frame_keys fs ≡ ring → Each (HasFrame runs) fs → Each Q fs → i < length ring → x ≡ get_or ring i x
        → (g : Frame K P) × HasFrame runs g × (g.key ≡ x) × Q g
    member_frame Q fs i x keys all each low is =
        let j = key_in fs x (subst (λ (ks : List K). In x ks) (sym keys) (in_there ring i x is low)) in
        (j.0, each_of (HasFrame runs) fs j.0 all j.1, j.2, each_of Q fs j.0 each j.1)
      where
        in_there : (ks : List K) (n : ℕ) (k : K) → k ≡ get_or ks n k → n < length ks → In k ks
        in_there [] n k e h = absurd (omega arith)
        in_there (q ∷ ks) zero k e h = inl e
        in_there (q ∷ ks) (suc n) k e h = inr (in_there ks n k e (omega arith))
