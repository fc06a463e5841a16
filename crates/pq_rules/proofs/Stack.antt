-- The stack of frames: its parts and its keys, when frames are added, popped and replaced.
use Rattle.std.proofs.Common.{◌≡◌, ℕ, zero, suc, ◌≤◌, List, [], ◌∷◌, ◌++◌, drop, sym, ap, subst, ◌∙◌, inl, inr, arith}
use Rattle.pq_rules.specs.declared.scratch.Frame.{Frame}
use Rattle.pq_rules.specs.Turns.{Instance}
use Rattle.pq_rules.specs.Laws.{Laws}
use Rattle.pq_rules.specs.Relations.{Each, In, Chain}
use Rattle.pq_rules.specs.Value.{Waits}
use Rattle.pq_rules.specs.aux.Evaluator.{frame_keys, Linked, Sits, Distinct}
use Rattle.pq_rules.specs.aux.Lists.{in_append_left}

pub linked_front : {K P V : Type 0} (m : Instance K P V) (fs gs : List (Frame K P)) → Linked m (fs ++ gs) → Linked m fs
unfolding Linked
linked_front m [] gs l = tt
linked_front m (f ∷ []) gs l = (l.0, tt, tt)
linked_front m (f ∷ (x ∷ xs)) gs l = (l.0, l.1, linked_front m (x ∷ xs) gs l.2)

pub linked_back : {K P V : Type 0} (m : Instance K P V) (fs gs : List (Frame K P)) → Linked m (fs ++ gs) → Linked m gs
unfolding Linked
linked_back m [] gs l = l
linked_back m (f ∷ fs) gs l = linked_back m fs gs l.2

pub linked_last : {K P V : Type 0} (m : Instance K P V) (fs : List (Frame K P)) (f : Frame K P) → Linked m (fs ++ f ∷ []) → Sits m f
unfolding Linked
linked_last m fs f l = (linked_back m fs (f ∷ []) l).0

pub linked_swap : {K P V : Type 0} (m : Instance K P V) (fs : List (Frame K P)) (f g : Frame K P) → f.key ≡ g.key → Sits m g
    → Linked m (fs ++ f ∷ []) → Linked m (fs ++ g ∷ [])
unfolding Linked
linked_swap m [] f g e s l = (s, tt, tt)
linked_swap m (x ∷ []) f g e s l = (l.0, l.1 ∙ e, (s, tt, tt))
linked_swap m (x ∷ (y ∷ ys)) f g e s l = (l.0, l.1, linked_swap m (y ∷ ys) f g e s l.2)

pub linked_push : {K P V : Type 0} (m : Instance K P V) (fs : List (Frame K P)) (f g : Frame K P) → f.asked ≡ g.key → Sits m g
    → Linked m (fs ++ f ∷ []) → Linked m ((fs ++ f ∷ []) ++ g ∷ [])
unfolding Linked
linked_push m [] f g e s l = (l.0, e, (s, tt, tt))
linked_push m (x ∷ []) f g e s l = (l.0, l.1, linked_push m [] f g e s l.2)
linked_push m (x ∷ (y ∷ ys)) f g e s l = (l.0, l.1, linked_push m (y ∷ ys) f g e s l.2)

-- the last of the keys that wait asked z
abbrev pub LastAsks : {K P : Type 0} → K → Frame K P → List (Frame K P) → Type 0
LastAsks z f [] = f.asked ≡ z
LastAsks z f (g ∷ gs) = LastAsks z g gs

pub last_asks : {K P : Type 0} (x : Frame K P) (xs fs : List (Frame K P)) (f : Frame K P) (z : K) → f.asked ≡ z
    → x ∷ xs ≡ fs ++ f ∷ [] → LastAsks z x xs
last_asks {K} {P} x [] [] f z a e = let same : x ≡ f = cc in ap (λ (g : Frame K P). g.asked) same ∙ a
last_asks x [] (y ∷ []) f z a e = cc
last_asks x [] (y ∷ (w ∷ ws)) f z a e = cc
last_asks x (y ∷ ys) [] f z a e = cc
last_asks x (y ∷ ys) (w ∷ ws) f z a e = last_asks y ys ws f z a (let t : y ∷ ys ≡ ws ++ f ∷ [] = cc in t)

module _ {K P V : Type 0} (m : Instance K P V) (reach : K → List K) (laws : Laws m reach) where
  -- none below is lower than what the last asked
  pub at_least : (z : K) (f : Frame K P) (fs : List (Frame K P)) → Linked m (f ∷ fs) → LastAsks z f fs → m.level z ≤ m.level f.key
  unfolding Linked
  at_least z f [] l a =
      let h : m.level f.asked ≤ m.level f.key = laws.no_higher f.key f.asked f.part l.0.comes in
      subst (λ (x : K). m.level x ≤ m.level f.key) a h
  at_least z f (g ∷ gs) l a =
      let h : m.level f.asked ≤ m.level f.key = laws.no_higher f.key f.asked f.part l.0.comes in
      let j : m.level g.key ≤ m.level f.key = subst (λ (x : K). m.level x ≤ m.level f.key) l.1 h in
      let k : m.level z ≤ m.level g.key = at_least z g gs l.2 a in
      omega arith

  waits_for : (f : Frame K P) (q : K) → Sits m f → f.asked ≡ q → m.level q ≡ m.level f.key → Waits m f.key q
  unfolding Waits
  waits_for f q s a level =
      subst (λ (x : K). (m.level x ≡ m.level f.key) → Waits m f.key x) a (λ h. (h, (f.part, s.comes))) level

  -- keys that wait for each other, and the last for a key of a level that is none lower than the
  -- first's
  pub waiting : (z : K) (f : Frame K P) (fs : List (Frame K P)) → Linked m (f ∷ fs) → LastAsks z f fs
      → m.level f.key ≤ m.level z → Chain (Waits m) f.key (frame_keys fs) z
  unfolding Linked Chain
  waiting z f [] l a h =
      let j : m.level z ≤ m.level f.key = at_least z f [] l a in
      waits_for f z l.0 a (omega arith)
  waiting z f (g ∷ gs) l a h =
      let k : m.level z ≤ m.level g.key = at_least z g gs l.2 a in
      let i : m.level f.asked ≤ m.level f.key = laws.no_higher f.key f.asked f.part l.0.comes in
      let j : m.level g.key ≤ m.level f.key = subst (λ (x : K). m.level x ≤ m.level f.key) l.1 i in
      (waits_for f g.key l.0 l.1 (omega arith), waiting z g gs l.2 a (omega arith))

pub distinct_front : {K : Type 0} (xs ys : List K) → Distinct (xs ++ ys) → Distinct xs
unfolding Distinct
distinct_front [] ys d = tt
distinct_front (x ∷ xs) ys d = (λ i. d.0 (in_append_left x xs ys i), distinct_front xs ys d.1)

pub distinct_back : {K : Type 0} (xs ys : List K) → Distinct (xs ++ ys) → Distinct ys
unfolding Distinct
distinct_back [] ys d = d
distinct_back (x ∷ xs) ys d = distinct_back xs ys d.1

pub distinct_push : {K : Type 0} (xs : List K) (y : K) → Distinct xs → (In y xs → ⊥) → Distinct (xs ++ y ∷ [])
unfolding Distinct
distinct_push [] y d n = (λ i. i, tt)
distinct_push {K} (x ∷ xs) y d n =
    (λ i. not_in x xs y d.0 (λ e. n (inl (sym e))) i, distinct_push xs y d.1 (λ i. n (inr i)))
  where
    not_in : {K : Type 0} (x : K) (xs : List K) (y : K) → (In x xs → ⊥) → (x ≡ y → ⊥) → In x (xs ++ y ∷ []) → ⊥
    not_in x [] y n d (inl e) = d e
    not_in x [] y n d (inr i) = i
    not_in x (w ∷ ws) y n d (inl e) = n (inl e)
    not_in x (w ∷ ws) y n d (inr i) = not_in x ws y (λ j. n (inr j)) d i

pub each_front : {A : Type 0} (Q : A → Type 0) (xs ys : List A) → Each Q (xs ++ ys) → Each Q xs
each_front Q [] ys e = tt
each_front Q (x ∷ xs) ys e = (e.0, each_front Q xs ys e.1)

pub distinct_dropped : {K P : Type 0} (n : ℕ) (fs : List (Frame K P)) → Distinct (frame_keys fs) → Distinct (frame_keys (drop n fs))
unfolding Distinct
distinct_dropped zero fs d = d
distinct_dropped (suc n) [] d = d
distinct_dropped (suc n) (f ∷ fs) d = distinct_dropped n fs d.1
