-- The files near a scope: those whose package is one of the scopes around it.
use Rattle.std.proofs.Common.{◌≡◌, ◌≢◌, ◌<◌, ◌++◌, length, get_or, ◌⊎◌, inl, inr, ℕ, Bool, true, false, ◌||◌, true≢false, List, [], ◌∷◌, Option, Some, None, refl, sym, ap, subst, ◌∙◌, append_assoc}
use Rattle.std.specs.Prelude.{bytes_eq, codes}
use Rattle.std.specs.List.{Contains}
use Rattle.std.proofs.lemmas.Slice.Eq.{bytes_eq-Decides}
use Rattle.pq_rules.specs.Relations.{In}
use Rattle.pq_schema.specs.aux.InPackage.{dotted}
use Rattle.pq_schema.specs.Definitions.{qualified}
use Rattle.pq_schema.specs.Resolution.{prefixes, scopes}
use Rattle.pq_schema.specs.declared.scope.scope.FileDefs.{FileDefs}
use Rattle.pq_schema.specs.aux.Grouping.{AreNear, around}
use Rattle.pq_schema.specs.aux.Scopes.{chain, first_of, after_first, is_among}
use Rattle.pq_schema.proofs.Prefixes.{no_dot, before_last}

pub chain_first : (inner : Option (List ℕ)) → chain inner ≡ first_of inner ∷ after_first inner
chain_first None = refl
chain_first (Some s) = refl

among_cases : (s name : List ℕ) (ss : List (List ℕ)) → is_among name (s ∷ ss) ≡ true → (s ≡ name) ⊎ (is_among name ss ≡ true)
among_cases s name ss h = split (bytes_eq s name) refl h
  where
    split : (b : Bool) → bytes_eq s name ≡ b → (b || is_among name ss) ≡ true → (s ≡ name) ⊎ (is_among name ss ≡ true)
    split true e t = inl ((bytes_eq-Decides s name).0 e)
    split false e t = inr t

-- once the files of one package are added
pub near_step : (packages : List (List ℕ × ℕ)) (inner : Option (List ℕ)) (scope root : List ℕ) (k : ℕ) (old new : List ℕ)
    → scope ≡ first_of inner
    → ((k : ℕ) → In k old → In k new)
    → ((k : ℕ) → Contains packages (dotted scope, k) → In k new)
    → In k old ⊎ (is_among root (chain inner) ≡ true)
    → Contains packages (dotted root, k)
    → In k new ⊎ (is_among root (after_first inner) ≡ true)
near_step packages inner scope root k old new is kept added (inl there) at = inl (kept k there)
near_step packages inner scope root k old new is kept added (inr among) at =
    elim (among_cases (first_of inner) root (after_first inner) (subst (λ (ss : List (List ℕ)). is_among root ss ≡ true) (chain_first inner) among)) [
      | inl same ↦ inl (added k (subst (λ (r : List ℕ). Contains packages (dotted r, k)) (sym (is ∙ same)) at))
      | inr more ↦ inr more
    ]

-- once those of the last are
pub near_end : (ss : List (List ℕ)) (root : List ℕ) (k : ℕ) (new : List ℕ) → ss ≡ [] → In k new ⊎ (is_among root ss ≡ true) → In k new
near_end ss root k new none (inl there) = there
near_end ss root k new none (inr among) = absurd (true≢false (sym (subst (λ (xs : List (List ℕ)). is_among root xs ≡ true) none among)))

-- ---- the files near the scopes of a search

pub near_scopes : (near : List ℕ) (files : List FileDefs) (within : List ℕ) (inner : Option (List ℕ))
    → scopes within ≡ chain inner → AreNear near files (chain inner) → AreNear near files (scopes within)
near_scopes near files within inner is are = subst (λ (ss : List (List ℕ)). AreNear near files ss) (sym is) are

or_either : (a b : Bool) → b ≡ true → (a || b) ≡ true
or_either true b h = refl
or_either false b h = h

none_around : prefixes [] ≡ []
unfolding prefixes
none_around = refl

-- the files near the full name in the first scope of a name without a dot
pub near_name : (near : List ℕ) (files : List FileDefs) (inner : Option (List ℕ)) (name full : List ℕ)
    → ((i : ℕ) → i < length name → get_or name i 0 ≢ 46) → full ≡ qualified (first_of inner) name
    → AreNear near files (chain inner) → AreNear near files (around full)
near_name near files inner name full plain is are = subst (λ (n : List ℕ). AreNear near files (around n)) (sym is) (by inner are)
  where
    empty : (p : List ℕ) → is_among p ([] ∷ []) ≡ true → is_among p ([] ∷ [] ∷ []) ≡ true
    empty p h = or_either (bytes_eq [] p) (is_among p ([] ∷ [])) h

    by : (o : Option (List ℕ)) → AreNear near files (chain o) → AreNear near files (around (qualified (first_of o) name))
    by None a = subst (λ (ps : List (List ℕ)). AreNear near files (ps ++ [] ∷ [])) (sym (no_dot name plain)) a
    by (Some []) a = subst (λ (ps : List (List ℕ)). AreNear near files (ps ++ [] ∷ [])) (sym (no_dot name plain))
        (record {
          rising = a.rising;
          all = λ k f at among. (subst (λ (ps : List (List ℕ)). AreNear near files ([] ∷ ps ++ [] ∷ [])) none_around a).all k f at (empty f.defs.package_name among);
        })
    by (Some (c ∷ cs)) a = subst (λ (ps : List (List ℕ)). AreNear near files (ps ++ [] ∷ []))
        (sym (ap prefixes (append_assoc (c ∷ cs) (codes ".") name) ∙ before_last (c ∷ cs) name plain)) a
