-- The prefixes of a name before its dots: none without a dot; else the part before the last dot,
-- and its prefixes.
use Rattle.std.proofs.Common.{◌≡◌, ◌≢◌, ℕ, suc, ◌<◌, Bool, false, cond, nat_eq, List, [], ◌∷◌, ◌++◌, map, length, get_or, take, drop, refl, sym, ap, subst, ◌∙◌, lit<, arith, take-append-drop}
use Rattle.std.specs.Str.Pattern.{SplitsAroundMatch, RFindsChar}
use Rattle.std.proofs.lemmas.Bool.Decides.{nat_tests}
use Rattle.std.proofs.lemmas.Str.Pattern.{NoCharPasses-char, drop_at_char}
use Rattle.pq_schema.specs.Resolution.{prefixes}

pub not_dot : (c : ℕ) → c ≢ 46 → nat_eq c 46 ≡ false
not_dot c h = grind (arith, nat_tests)

pub no_dot : (s : List ℕ) → ((i : ℕ) → i < length s → get_or s i 0 ≢ 46) → prefixes s ≡ []
unfolding prefixes
no_dot [] h = refl
no_dot (c ∷ cs) h =
    ap (λ (ps : List (List ℕ)). map (λ s. c ∷ s) ps ++ cond (nat_eq c 46) ([] ∷ []) []) (no_dot cs (λ i l. h (suc i) (omega arith)))
    ∙ ap (λ (b : Bool). cond b ([] ∷ []) []) (not_dot c (h 0 (omega arith)))

pub before_last : (p q : List ℕ) → ((i : ℕ) → i < length q → get_or q i 0 ≢ 46) → prefixes (p ++ 46 ∷ q) ≡ p ∷ prefixes p
unfolding prefixes
before_last [] q h = ap (λ (ps : List (List ℕ)). map (λ s. 46 ∷ s) ps ++ [] ∷ []) (no_dot q h)
before_last (c ∷ cs) q h =
    ap (λ (ps : List (List ℕ)). map (λ s. c ∷ s) ps ++ cond (nat_eq c 46) ([] ∷ []) []) (before_last cs q h)

pub outer_prefixes : (s front back : List ℕ) → SplitsAroundMatch (RFindsChar 46) s front back → prefixes s ≡ front ∷ prefixes front
outer_prefixes s front back h =
    let i = h.0 in
    let j = h.1 in
    let at : s ≡ take i s ++ 46 ∷ drop j s =
    sym (take-append-drop i s) ∙ ap (λ (x : List ℕ). take i s ++ x) (drop_at_char 46 s i j h.2.1 (lit< tt)) in
    subst (λ (f : List ℕ). prefixes s ≡ f ∷ prefixes f) (sym h.3)
    (ap prefixes at ∙ before_last (take i s) (drop j s) (λ k l. NoCharPasses-char 46 (drop j s) k h.2.0 (lit< tt) l))
