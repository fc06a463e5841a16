-- How a name is searched: by its first dot.
use Rattle.std.proofs.Common.{◌≡◌, ◌≢◌, ℕ, suc, ◌<◌, ◌==◌, false, true≢false, List, [], ◌∷◌, ◌++◌, length, get_or, Some, None, refl, sym, subst, arith}
use Rattle.pq_schema.specs.declared.scope.scope.FileDefs.{FileDefs}
use Rattle.pq_schema.specs.Resolution.{search, single, dotted, first_part}
use Rattle.pq_schema.proofs.Prefixes.{not_dot}

first_none : (name : List ℕ) → ((i : ℕ) → i < length name → get_or name i 0 ≢ 46) → first_part name ≡ None
unfolding first_part
first_none [] h = refl
first_none (c ∷ cs) h = rw (not_dot c (h 0 (omega arith)), first_none cs (λ i l. h (suc i) (omega arith))) refl

first_some : (first rest : List ℕ) → ((i : ℕ) → i < length first → get_or first i 0 ≢ 46) → first_part (first ++ 46 ∷ rest) ≡ Some first
unfolding first_part
first_some [] rest h = refl
first_some (c ∷ cs) rest h = rw (not_dot c (h 0 (omega arith)), first_some cs rest (λ i l. h (suc i) (omega arith))) refl

pub search_single : (files : List FileDefs) (scopes : List (List ℕ)) (name : List ℕ)
    → (length name == 0) ≡ false
    → ((i : ℕ) → i < length name → get_or name i 0 ≢ 46)
    → search files scopes name ≡ single files scopes name
search_single files scopes [] some h = absurd (true≢false some)
search_single files scopes (c ∷ cs) some h = rw (not_dot c (h 0 (omega arith)), first_none (c ∷ cs) h) refl

pub search_dotted : (files : List FileDefs) (scopes : List (List ℕ)) (name first rest : List ℕ)
    → name ≡ first ++ 46 ∷ rest
    → ((i : ℕ) → i < length first → get_or first i 0 ≢ 46)
    → ((after : List ℕ) → name ≢ 46 ∷ after)
    → search files scopes name ≡ dotted files scopes first name
search_dotted files scopes name [] rest is h leads = absurd (leads rest is)
search_dotted files scopes name (f ∷ fs) rest is h leads =
    subst (λ (n : List ℕ). search files scopes n ≡ dotted files scopes (f ∷ fs) n) (sym is) found
  where
    found : search files scopes ((f ∷ fs) ++ 46 ∷ rest) ≡ dotted files scopes (f ∷ fs) ((f ∷ fs) ++ 46 ∷ rest)
    found = rw (not_dot f (h 0 (omega arith)), first_some (f ∷ fs) rest h) refl
