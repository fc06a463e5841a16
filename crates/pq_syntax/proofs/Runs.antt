-- How the machine goes through a rule, whatever follows it.
use Rattle.std.proofs.Common.{◌≡◌, ℕ, Bool, true, false, ◌&&◌, ◌||◌, cond, List, [], ◌∷◌, length, Option, Some, None, Result, Ok, Err, refl, sym, ap, ◌∙◌}
use Rattle.pq_syntax.specs.Rule.{Rule, Parse}
use Rattle.pq_syntax.specs.Rule.Rule.{Single, Empty, Seq, Alt, Star}
use Rattle.pq_syntax.specs.Rule.Parse.{Leaf, Nil, Pair, Left, Right}
use Rattle.pq_syntax.specs.aux.Machine.{nullable, empty_parse, in_first, after, built, paired, lefted, righted, pop, push, all_skip, empty_parses, on_ok, run}
use Rattle.pq_syntax.specs.aux.Takes.{starts_at}

pub on_twice : {X Y Z : Type 0} (f : Y → Z) (g : X → Y) (r : Result X ℕ) → on_ok (λ x. f (g x)) r ≡ on_ok f (on_ok g r)
on_twice f g (Ok x) = refl
on_twice f g (Err n) = refl

on_same : {X : Type 0} (r : Result X ℕ) → r ≡ on_ok (λ x. x) r
on_same (Ok x) = refl
on_same (Err n) = refl

module _ {A W : Type 0} (accepts : A → W → Bool) where
  abbrev Readings : Type 0
  Readings = List (Parse W)

  abbrev go : {K : Type 0} → ℕ → (Readings → Readings) → (K → Result Readings ℕ) → Option K → Result Readings ℕ
  go n f r None = Err n
  go n f r (Some k) = on_ok f (r k)

  go_is : (k : List (Rule A)) (w : W) (ws : List W)
      → run accepts k (w ∷ ws) ≡ go (length (w ∷ ws)) (push accepts k w) (λ k'. run accepts k' ws) (pop accepts k w)
  unfolding run
  go_is k w ws = go_elim (pop accepts k w)
    where
      go_elim : (p : Option (List (Rule A)))
          → elim p as (λ _. Result Readings ℕ) [ None ↦ Err (length (w ∷ ws)) | Some k' ↦ on_ok (push accepts k w) (run accepts k' ws) ] ≡ go (length (w ∷ ws)) (push accepts k w) (λ k'. run accepts k' ws) p
      go_elim None = refl
      go_elim (Some k') = refl

  -- a rule and its parts, word by word
  both_end : (p q z : Bool) (u v : Parse W) (vs : Readings)
      → cond ((p && q) && z) (Ok (Pair u v ∷ vs)) (Err 0) ≡ on_ok paired (cond (p && (q && z)) (Ok (u ∷ v ∷ vs)) (Err 0))
  both_end true true true u v vs = refl
  both_end true true false u v vs = refl
  both_end true false z u v vs = refl
  both_end false q z u v vs = refl

  both_go : {K : Type 0} (n : ℕ) (x p y q : Bool) (m1 m2 : K) (o : Option K) (r : K → Result Readings ℕ) (u v : Parse W) (f g h : Readings → Readings)
      → go n (λ ps. cond (x || (p && y)) (cond x (paired (f ps)) (paired (u ∷ g ps))) (Pair u v ∷ h ps)) r (cond (x || (p && y)) (Some (cond x m1 m2)) (cond (p && q) o None)) ≡ on_ok paired (go n (λ ps. cond x (f ps) (u ∷ cond y (g ps) (v ∷ h ps))) r (cond x (Some m1) (cond p (cond y (Some m2) (cond q o None)) None)))
  both_go n true p y q m1 m2 o r u v f g h = on_twice paired f (r m1)
  both_go n false true true q m1 m2 o r u v f g h = on_twice paired (λ ps. u ∷ g ps) (r m2)
  both_go n false true false true m1 m2 None r u v f g h = refl
  both_go n false true false true m1 m2 (Some k) r u v f g h = on_twice paired (λ ps. u ∷ v ∷ h ps) (r k)
  both_go n false true false false m1 m2 o r u v f g h = refl
  both_go n false false y q m1 m2 o r u v f g h = refl

  pub run_both : (a b : Rule A) (k : List (Rule A)) (ws : List W) → run accepts (Seq a b ∷ k) ws ≡ on_ok paired (run accepts (a ∷ b ∷ k) ws)
  unfolding run
  run_both a b k [] = both_end (nullable a) (nullable b) (all_skip k) (empty_parse a) (empty_parse b) (empty_parses k)
  run_both a b k (w ∷ ws) =
      go_is (Seq a b ∷ k) w ws
      ∙ both_go (length (w ∷ ws)) (in_first accepts a w) (nullable a) (in_first accepts b w) (nullable b) (after accepts a (b ∷ k) w) (after accepts b k w)
      (pop accepts k w) (λ k'. run accepts k' ws) (empty_parse a) (empty_parse b) (built accepts a w) (built accepts b w) (push accepts k w)
      ∙ ap (on_ok paired) (sym (go_is (a ∷ b ∷ k) w ws))

  left_go : {K : Type 0} (n : ℕ) (x y p : Bool) (m1 m2 : K) (o o' : Option K) (r : K → Result Readings ℕ) (f g h h' : Readings → Readings)
      → x ≡ true
      → go n (λ ps. cond (x || y) (cond x (lefted (f ps)) (righted (g ps))) (h ps)) r (cond (x || y) (Some (cond x m1 m2)) o) ≡ on_ok lefted (go n (λ ps. cond x (f ps) (h' ps)) r (cond x (Some m1) o'))
  left_go n true y p m1 m2 o o' r f g h h' e = on_twice lefted f (r m1)
  left_go n false y p m1 m2 o o' r f g h h' e = cc

  pub run_left : (a b : Rule A) (k : List (Rule A)) (ws : List W)
      → starts_at accepts a ws ≡ true
      → run accepts (Alt a b ∷ k) ws ≡ on_ok lefted (run accepts (a ∷ k) ws)
  run_left a b k [] h = cc
  run_left a b k (w ∷ ws) h =
      go_is (Alt a b ∷ k) w ws
      ∙ left_go (length (w ∷ ws)) (in_first accepts a w) (in_first accepts b w) (nullable a) (after accepts a k w) (after accepts b k w) _ _
      (λ k'. run accepts k' ws) (built accepts a w) (built accepts b w) (λ ps. empty_parse (Alt a b) ∷ push accepts k w ps) (λ ps. empty_parse a ∷ push accepts k w ps) h
      ∙ ap (on_ok lefted) (sym (go_is (a ∷ k) w ws))

  right_end : (p q z : Bool) (u v : Parse W) (vs : Readings)
      → p ≡ false
      → cond ((p || q) && z) (Ok (cond p (Left u) (Right v) ∷ vs)) (Err 0) ≡ on_ok righted (cond (q && z) (Ok (v ∷ vs)) (Err 0))
  right_end true q z u v vs e = cc
  right_end false true true u v vs e = refl
  right_end false true false u v vs e = refl
  right_end false false z u v vs e = refl

  right_go :
      {K : Type 0} (n : ℕ) (x y p q : Bool) (m1 m2 : K) (o : Option K) (r : K → Result Readings ℕ) (u v : Parse W) (f g h : Readings → Readings)
      → x ≡ false
      → p ≡ false
      → go n (λ ps. cond (x || y) (cond x (lefted (f ps)) (righted (g ps))) (cond p (Left u) (Right v) ∷ h ps)) r (cond (x || y) (Some (cond x m1 m2)) (cond (p || q) o None)) ≡ on_ok righted (go n (λ ps. cond y (g ps) (v ∷ h ps)) r (cond y (Some m2) (cond q o None)))
  right_go n true y p q m1 m2 o r u v f g h e e' = cc
  right_go n false y true q m1 m2 o r u v f g h e e' = cc
  right_go n false true false q m1 m2 o r u v f g h e e' = on_twice righted g (r m2)
  right_go n false false false true m1 m2 None r u v f g h e e' = refl
  right_go n false false false true m1 m2 (Some k) r u v f g h e e' = on_twice righted (λ ps. v ∷ h ps) (r k)
  right_go n false false false false m1 m2 o r u v f g h e e' = refl

  pub run_right : (a b : Rule A) (k : List (Rule A)) (ws : List W)
      → starts_at accepts a ws ≡ false
      → nullable a ≡ false
      → run accepts (Alt a b ∷ k) ws ≡ on_ok righted (run accepts (b ∷ k) ws)
  unfolding run
  run_right a b k [] h e = right_end (nullable a) (nullable b) (all_skip k) (empty_parse a) (empty_parse b) (empty_parses k) e
  run_right a b k (w ∷ ws) h e =
      go_is (Alt a b ∷ k) w ws
      ∙ right_go (length (w ∷ ws)) (in_first accepts a w) (in_first accepts b w) (nullable a) (nullable b) (after accepts a k w) (after accepts b k w)
      (pop accepts k w) (λ k'. run accepts k' ws) (empty_parse a) (empty_parse b) (built accepts a w) (built accepts b w) (push accepts k w) h e
      ∙ ap (on_ok righted) (sym (go_is (b ∷ k) w ws))

  more_go : {K : Type 0} (n : ℕ) (x : Bool) (m : K) (o o' : Option K) (r : K → Result Readings ℕ) (f h h' : Readings → Readings)
      → x ≡ true
      → go n (λ ps. cond x (paired (f ps)) (h ps)) r (cond x (Some m) o) ≡ on_ok paired (go n (λ ps. cond x (f ps) (h' ps)) r (cond x (Some m) o'))
  more_go n true m o o' r f h h' e = on_twice paired f (r m)
  more_go n false m o o' r f h h' e = cc

  pub run_more : (r : Rule A) (k : List (Rule A)) (ws : List W)
      → starts_at accepts r ws ≡ true
      → run accepts (Star r ∷ k) ws ≡ on_ok paired (run accepts (r ∷ Star r ∷ k) ws)
  run_more r k [] h = cc
  run_more r k (w ∷ ws) h =
      go_is (Star r ∷ k) w ws
      ∙ more_go (length (w ∷ ws)) (in_first accepts r w) (after accepts r (Star r ∷ k) w) _ _ (λ k'. run accepts k' ws) (built accepts r w)
      (λ ps. Nil ∷ push accepts k w ps) (λ ps. empty_parse r ∷ push accepts (Star r ∷ k) w ps) h
      ∙ ap (on_ok paired) (sym (go_is (r ∷ Star r ∷ k) w ws))

  stop_end : (z : Bool) (vs : Readings) → cond z (Ok (Nil ∷ vs)) (Err 0) ≡ on_ok (λ ps. Nil ∷ ps) (cond z (Ok vs) (Err 0))
  stop_end true vs = refl
  stop_end false vs = refl

  stop_go : {K : Type 0} (n : ℕ) (x : Bool) (m : K) (o : Option K) (r : K → Result Readings ℕ) (f h : Readings → Readings)
      → x ≡ false
      → go n (λ ps. cond x (f ps) (Nil ∷ h ps)) r (cond x (Some m) o) ≡ on_ok (λ ps. Nil ∷ ps) (go n h r o)
  stop_go n true m o r f h e = cc
  stop_go n false m None r f h e = refl
  stop_go n false m (Some k) r f h e = on_twice (λ ps. Nil ∷ ps) h (r k)

  pub run_stop : (r : Rule A) (k : List (Rule A)) (ws : List W)
      → starts_at accepts r ws ≡ false
      → run accepts (Star r ∷ k) ws ≡ on_ok (λ ps. Nil ∷ ps) (run accepts k ws)
  unfolding run
  run_stop r k [] h = stop_end (all_skip k) (empty_parses k)
  run_stop r k (w ∷ ws) h =
      go_is (Star r ∷ k) w ws
      ∙ stop_go (length (w ∷ ws)) (in_first accepts r w) (after accepts r (Star r ∷ k) w) (pop accepts k w) (λ k'. run accepts k' ws)
      (λ ps. paired (built accepts r w ps)) (push accepts k w) h
      ∙ ap (on_ok (λ ps. Nil ∷ ps)) (sym (go_is k w ws))

  one_go : {K : Type 0} (n : ℕ) (x : Bool) (m : K) (o : Option K) (r : K → Result Readings ℕ) (f g : Readings → Readings)
      → x ≡ true
      → go n (λ ps. cond x (f ps) (g ps)) r (cond x (Some m) o) ≡ on_ok f (r m)
  one_go n true m o r f g e = refl
  one_go n false m o r f g e = cc

  pub run_one : (c : A) (k : List (Rule A)) (w : W) (ws : List W)
      → accepts c w ≡ true
      → run accepts (Single c ∷ k) (w ∷ ws) ≡ on_ok (λ ps. Leaf w ∷ ps) (run accepts k ws)
  run_one c k w ws h = go_is (Single c ∷ k) w ws ∙ one_go (length (w ∷ ws)) (accepts c w) k None (λ k'. run accepts k' ws) (λ ps. Leaf w ∷ ps) (λ ps. Nil ∷ push accepts k w ps) h

  not_go : {K : Type 0} (n : ℕ) (x : Bool) (m : K) (r : K → Result Readings ℕ) (f : Readings → Readings) → x ≡ false → go n f r (cond x (Some m) None) ≡ Err n
  not_go n true m r f e = cc
  not_go n false m r f e = refl

  pub run_not : (c : A) (k : List (Rule A)) (ws : List W) → starts_at accepts (Single c) ws ≡ false → run accepts (Single c ∷ k) ws ≡ Err (length ws)
  unfolding run
  run_not c k [] h = refl
  run_not c k (w ∷ ws) h = go_is (Single c ∷ k) w ws ∙ not_go (length (w ∷ ws)) (accepts c w) k (λ k'. run accepts k' ws) (push accepts (Single c ∷ k) w) h

  -- an optional part that is not there
  none_end : (p z : Bool) (u : Parse W) (vs : Readings)
      → p ≡ false
      → cond ((p || true) && z) (Ok (cond p (Left u) (Right Nil) ∷ vs)) (Err 0) ≡ on_ok (λ ps. Right Nil ∷ ps) (cond z (Ok vs) (Err 0))
  none_end true z u vs e = cc
  none_end false true u vs e = refl
  none_end false false u vs e = refl

  none_go : {K : Type 0} (n : ℕ) (x p : Bool) (m : K) (o : Option K) (r : K → Result Readings ℕ) (u : Parse W) (f h : Readings → Readings)
      → x ≡ false
      → p ≡ false
      → go n (λ ps. cond (x || false) (f ps) (cond p (Left u) (Right Nil) ∷ h ps)) r (cond (x || false) (Some m) (cond (p || true) o None)) ≡ on_ok (λ ps. Right Nil ∷ ps) (go n h r o)
  none_go n true p m o r u f h e e' = cc
  none_go n false true m o r u f h e e' = cc
  none_go n false false m None r u f h e e' = refl
  none_go n false false m (Some k) r u f h e e' = on_twice (λ ps. Right Nil ∷ ps) h (r k)

  pub run_none : (a : Rule A) (k : List (Rule A)) (ws : List W)
      → starts_at accepts a ws ≡ false
      → nullable a ≡ false
      → run accepts (Alt a Empty ∷ k) ws ≡ on_ok (λ ps. Right Nil ∷ ps) (run accepts k ws)
  unfolding run
  run_none a k [] h e = none_end (nullable a) (all_skip k) (empty_parse a) (empty_parses k) e
  run_none a k (w ∷ ws) h e =
      go_is (Alt a Empty ∷ k) w ws
      ∙ none_go (length (w ∷ ws)) (in_first accepts a w) (nullable a) (cond (in_first accepts a w) (after accepts a k w) (after accepts Empty k w))
      (pop accepts k w) (λ k'. run accepts k' ws) (empty_parse a) (λ ps. built accepts (Alt a Empty) w ps) (push accepts k w) h e
      ∙ ap (on_ok (λ ps. Right Nil ∷ ps)) (sym (go_is k w ws))

  -- a rule that stands for no word alone
  empty_end : (z : Bool) (vs : Readings) → cond z (Ok (Nil ∷ vs)) (Err 0) ≡ on_ok (λ ps. Nil ∷ ps) (cond z (Ok vs) (Err 0))
  empty_end true vs = refl
  empty_end false vs = refl

  empty_go : {K : Type 0} (n : ℕ) (o : Option K) (r : K → Result Readings ℕ) (h : Readings → Readings)
      → go n (λ ps. Nil ∷ h ps) r o ≡ on_ok (λ ps. Nil ∷ ps) (go n h r o)
  empty_go n None r h = refl
  empty_go n (Some k) r h = on_twice (λ ps. Nil ∷ ps) h (r k)

  pub run_empty : (k : List (Rule A)) (ws : List W) → run accepts (Empty ∷ k) ws ≡ on_ok (λ ps. Nil ∷ ps) (run accepts k ws)
  unfolding run
  run_empty k [] = empty_end (all_skip k) (empty_parses k)
  run_empty k (w ∷ ws) =
      go_is (Empty ∷ k) w ws
      ∙ empty_go (length (w ∷ ws)) (pop accepts k w) (λ k'. run accepts k' ws) (push accepts k w)
      ∙ ap (on_ok (λ ps. Nil ∷ ps)) (sym (go_is k w ws))
