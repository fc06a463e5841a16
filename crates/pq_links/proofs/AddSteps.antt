-- A loop that adds, for each element of a list, the items that it gives, each if it is not there
-- yet: what is there, with what is still to come, stays the same.
use Rattle.std.proofs.Common.{◌≡◌, ℕ, zero, suc, ◌+◌, ◌<◌, ◌≤◌, Bool, true, false, ◌||◌, length, get_or, drop, List, [], ◌∷◌, ◌++◌, refl, sym, ap, ◌∙◌, arith}
use Rattle.std.specs.Prelude.{bytes_eq}
use Rattle.std.proofs.lemmas.List.{at_drop_all, at_drop_more}
use Rattle.pq_links.specs.Visibility.{firsts}
use Rattle.pq_links.specs.aux.Adding.{add_first, add_firsts, has, same_name}
use Rattle.pq_links.proofs.Adding.{adds_append, first_names, name_alike}

pub adds_more : {A X : Type 0} (same : A → A → Bool) (h : X → List A) (all : List X → List A) → ((x : X) (xs : List X) → all (x ∷ xs) ≡ h x ++ all xs)
    → (items new r : List A) (xs : List X) (i : ℕ) (d : X) → i < length xs → new ≡ add_firsts same items (h (get_or xs i d))
    → add_firsts same items (all (drop i xs)) ≡ r → add_firsts same new (all (drop (i + 1) xs)) ≡ r
adds_more same h all step items new r xs i d within is so_far =
    ap (λ ns. add_firsts same ns (all (drop (i + 1) xs))) is
    ∙ sym (adds_append same items (h (get_or xs i d)) (all (drop (i + 1) xs)))
    ∙ ap (add_firsts same items) (sym (step (get_or xs i d) (drop (i + 1) xs)))
    ∙ ap (add_firsts same items) (sym (at_drop_more all xs i d within))
    ∙ so_far

pub adds_all : {A X : Type 0} (same : A → A → Bool) (all : List X → List A) → all [] ≡ [] → (items r : List A) (xs : List X) (i : ℕ) → length xs ≤ i
    → add_firsts same items (all (drop i xs)) ≡ r → items ≡ r
adds_all same all none items r xs i past so_far =
    ap (add_firsts same items) (sym none) ∙ ap (add_firsts same items) (sym (at_drop_all all xs i past)) ∙ so_far

-- a file's own name first, then all names, then more
pub ends_in : (f : List ℕ) (names new all more : List (List ℕ)) → names ≡ add_firsts same_name (add_first same_name [] f) all
    → new ≡ add_firsts same_name names more → new ≡ firsts (f ∷ (all ++ more))
ends_in f names new all more e d =
    d ∙ ap (λ ns. add_firsts same_name ns more) e
    ∙ sym (adds_append same_name (add_first same_name [] f) all more)
    ∙ first_names (f ∷ (all ++ more))

or_true : (b : Bool) → (b || true) ≡ true
or_true true = refl
or_true false = refl

-- a name that is at a place is there
pub has_at : (names : List (List ℕ)) (k : ℕ) (own name : List ℕ) → k < length names → own ≡ get_or names k own → bytes_eq own name ≡ true
    → has same_name names name ≡ true
has_at [] k own name within at is = absurd (omega arith)
has_at (x ∷ xs) zero own name within at is = ap (λ b. b || has same_name xs name) (name_alike x name ∙ ap (λ n. bytes_eq n name) (sym at) ∙ is)
has_at (x ∷ xs) (suc k) own name within at is = ap (λ b. same_name x name || b) (has_at xs k own name (omega arith) at is) ∙ or_true (same_name x name)
