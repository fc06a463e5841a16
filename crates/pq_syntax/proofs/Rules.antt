-- A rule from its parts: how it takes words, where it stops, and where it begins.
use Rattle.std.proofs.Common.{◌≡◌, ℕ, Bool, true, false, ◌||◌, ◌&&◌, List, [], ◌∷◌, ◌++◌, length, Result, Ok, Err, refl, sym, ap, ◌∙◌, append_assoc}
use Rattle.std.proofs.lemmas.Bool.{or_left, or_right, or_from}
use Rattle.pq_syntax.specs.Rule.{Rule, Parse}
use Rattle.pq_syntax.specs.Rule.Rule.{Single, Empty, Seq, Alt, Star}
use Rattle.pq_syntax.specs.Rule.Parse.{Leaf, Nil, Pair, Left, Right}
use Rattle.pq_syntax.specs.aux.Machine.{nullable, in_first, paired, lefted, righted, on_ok, run}
use Rattle.pq_syntax.specs.aux.Takes.{Takes, Stops, starts_at}
use Rattle.pq_syntax.proofs.Runs.{on_twice, run_one, run_not, run_both, run_left, run_right, run_none, run_more, run_stop, run_empty}

-- what two parses read, one after the other
read_both : {W : Type 0} {x y : List W} (z l m : List W) → x ≡ l ++ y → y ≡ m ++ z → x ≡ (l ++ m) ++ z
read_both z l m e h = e ∙ ap (λ r. l ++ r) h ∙ sym (append_assoc l m z)

module _ {A W : Type 0} {accepts : A → W → Bool} where
  pub takes_one : (c : A) (w : W) (ws : List W) → accepts c w ≡ true → Takes accepts (Single c) (w ∷ ws) ws (Leaf w)
  takes_one c w ws h = record { goes = λ k. run_one accepts c k w ws h; read = refl }

  pub stops_one : (c : A) (ws : List W) → starts_at accepts (Single c) ws ≡ false → Stops accepts (Single c) ws (length ws)
  stops_one c ws h = record { goes = λ k. run_not accepts c k ws h }

  pub takes_then : {a b : Rule A} {x y z : List W} {p q : Parse W} → Takes accepts a x y p → Takes accepts b y z q → Takes accepts (Seq a b) x z (Pair p q)
  takes_then {a} {b} {x} {y} {z} {p} {q} s t =
      record {
        goes = λ k. run_both accepts a b k x ∙ ap (on_ok paired) (s.goes (b ∷ k) ∙ ap (on_ok (λ ps. p ∷ ps)) (t.goes k)) ∙ three p q
            (run accepts k z);
        read = read_both _ _ _ s.read t.read;
      }
    where
      three : (u v : Parse W) (r : Result (List (Parse W)) ℕ) → on_ok paired (on_ok (λ ps. u ∷ ps) (on_ok (λ ps. v ∷ ps) r)) ≡ on_ok (λ ps. Pair u v ∷ ps) r
      three u v (Ok ps) = refl
      three u v (Err n) = refl

  pub stops_first : {a b : Rule A} {x : List W} {n : ℕ} → Stops accepts a x n → Stops accepts (Seq a b) x n
  stops_first {a} {b} {x} s = record { goes = λ k. run_both accepts a b k x ∙ ap (on_ok paired) (s.goes (b ∷ k)) }

  pub stops_then : {a b : Rule A} {x y : List W} {p : Parse W} {n : ℕ} → Takes accepts a x y p → Stops accepts b y n → Stops accepts (Seq a b) x n
  stops_then {a} {b} {x} {y} {p} s t = record { goes = λ k. run_both accepts a b k x ∙ ap (on_ok paired) (s.goes (b ∷ k) ∙ ap (on_ok (λ ps. p ∷ ps)) (t.goes k)) }

  pub takes_left : {a b : Rule A} {x y : List W} {p : Parse W} → starts_at accepts a x ≡ true → Takes accepts a x y p → Takes accepts (Alt a b) x y (Left p)
  takes_left {a} {b} {x} {y} {p} h s =
      record { goes = λ k. run_left accepts a b k x h ∙ ap (on_ok lefted) (s.goes k) ∙ sym (on_twice lefted (λ ps. p ∷ ps) (run accepts k y)); read = s.read }

  pub stops_left : {a b : Rule A} {x : List W} {n : ℕ} → starts_at accepts a x ≡ true → Stops accepts a x n → Stops accepts (Alt a b) x n
  stops_left {a} {b} {x} h s = record { goes = λ k. run_left accepts a b k x h ∙ ap (on_ok lefted) (s.goes k) }

  pub takes_right : {a b : Rule A} {x y : List W} {p : Parse W}
      → starts_at accepts a x ≡ false
      → nullable a ≡ false
      → Takes accepts b x y p
      → Takes accepts (Alt a b) x y (Right p)
  takes_right {a} {b} {x} {y} {p} h e s =
      record { goes = λ k. run_right accepts a b k x h e ∙ ap (on_ok righted) (s.goes k) ∙ sym (on_twice righted (λ ps. p ∷ ps) (run accepts k y)); read = s.read }

  pub stops_right : {a b : Rule A} {x : List W} {n : ℕ} → starts_at accepts a x ≡ false → nullable a ≡ false → Stops accepts b x n → Stops accepts (Alt a b) x n
  stops_right {a} {b} {x} h e s = record { goes = λ k. run_right accepts a b k x h e ∙ ap (on_ok righted) (s.goes k) }

  -- nothing is read of no words
  pub takes_empty : {x : List W} → Takes accepts Empty x x Nil
  takes_empty {x} = record { goes = λ k. run_empty accepts k x; read = refl }

  -- an optional part that is not there; where it is there, takes_left
  pub takes_none : {a : Rule A} {x : List W} → starts_at accepts a x ≡ false → nullable a ≡ false → Takes accepts (Alt a Empty) x x (Right Nil)
  takes_none {a} {x} h e = record { goes = λ k. run_none accepts a k x h e; read = refl }

  pub takes_stop : {r : Rule A} {x : List W} → starts_at accepts r x ≡ false → Takes accepts (Star r) x x Nil
  takes_stop {r} {x} h = record { goes = λ k. run_stop accepts r k x h; read = refl }

  pub takes_more : {r : Rule A} {x y z : List W} {p q : Parse W}
      → starts_at accepts r x ≡ true
      → Takes accepts r x y p
      → Takes accepts (Star r) y z q
      → Takes accepts (Star r) x z (Pair p q)
  takes_more {r} {x} {y} {z} {p} {q} h s t =
      record {
        goes = λ k. run_more accepts r k x h ∙ ap (on_ok paired) (s.goes (Star r ∷ k) ∙ ap (on_ok (λ ps. p ∷ ps)) (t.goes k)) ∙ three p q
            (run accepts k z);
        read = read_both _ _ _ s.read t.read;
      }
    where
      three : (u v : Parse W) (o : Result (List (Parse W)) ℕ) → on_ok paired (on_ok (λ ps. u ∷ ps) (on_ok (λ ps. v ∷ ps) o)) ≡ on_ok (λ ps. Pair u v ∷ ps) o
      three u v (Ok ps) = refl
      three u v (Err n) = refl

  pub stops_item : {r : Rule A} {x : List W} {n : ℕ} → starts_at accepts r x ≡ true → Stops accepts r x n → Stops accepts (Star r) x n
  stops_item {r} {x} h s = record { goes = λ k. run_more accepts r k x h ∙ ap (on_ok paired) (s.goes (Star r ∷ k)) }

  pub stops_more : {r : Rule A} {x y : List W} {p : Parse W} {n : ℕ}
      → starts_at accepts r x ≡ true
      → Takes accepts r x y p
      → Stops accepts (Star r) y n
      → Stops accepts (Star r) x n
  stops_more {r} {x} {y} {p} h s t = record { goes = λ k. run_more accepts r k x h ∙ ap (on_ok paired) (s.goes (Star r ∷ k) ∙ ap (on_ok (λ ps. p ∷ ps)) (t.goes k)) }

-- what a rule begins with
module _ {A W : Type 0} (accepts : A → W → Bool) where
  pub starts_left : (a b : Rule A) (ws : List W) → starts_at accepts a ws ≡ true → starts_at accepts (Alt a b) ws ≡ true
  starts_left a b [] h = cc
  starts_left a b (w ∷ ws) h = or_left _ _ h

  pub starts_right : (a b : Rule A) (ws : List W) → starts_at accepts b ws ≡ true → starts_at accepts (Alt a b) ws ≡ true
  starts_right a b [] h = cc
  starts_right a b (w ∷ ws) h = or_right _ _ h

  pub starts_neither : (a b : Rule A) (ws : List W) → starts_at accepts a ws ≡ false → starts_at accepts b ws ≡ false → starts_at accepts (Alt a b) ws ≡ false
  starts_neither a b [] h e = refl
  starts_neither a b (w ∷ ws) h e = or_from _ _ h e

  pub starts_then : (a b : Rule A) (ws : List W) (t : Bool) → nullable a ≡ false → starts_at accepts a ws ≡ t → starts_at accepts (Seq a b) ws ≡ t
  starts_then a b [] t h e = e
  starts_then a b (w ∷ ws) t h e = first_alone (in_first accepts a w) (nullable a) (in_first accepts b w) h ∙ e
    where
      first_alone : (x p y : Bool) → p ≡ false → (x || (p && y)) ≡ x
      first_alone true p y h = refl
      first_alone false true y h = cc
      first_alone false false y h = refl
