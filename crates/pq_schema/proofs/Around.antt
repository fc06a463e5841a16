-- The files near a scope by one walk over the packages: the packages that a search outwards meets.
use Rattle.std.proofs.Common.{◌≡◌, ◌<◌, ◌≤◌, ◌+◌, ◌++◌, length, get_or, ◌⊎◌, inl, inr, ℕ, Bool, true, false, ◌||◌, nat_eq, true≢false, List, [], ◌∷◌, Option, Some, None, refl, sym, ap, subst, ◌∙◌, arith}
use Rattle.std.specs.Prelude.{bytes_eq}
use Rattle.std.specs.List.{Contains, starts_with}
use Rattle.std.proofs.lemmas.Bool.{cases_lt}
use Rattle.std.proofs.lemmas.List.{get_or_default}
use Rattle.std.proofs.lemmas.Slice.Eq.{bytes_eq-Decides}
use Rattle.pq_rules.specs.Relations.{In}
use Rattle.pq_rules.specs.aux.Lists.{in_append_left, in_append_right}
use Rattle.pq_schema.specs.Resolution.{prefixes}
use Rattle.pq_schema.specs.aux.InPackage.{dotted}
use Rattle.pq_schema.specs.aux.Scopes.{chain, first_of, is_among}
use Rattle.pq_schema.proofs.Among.{among_append, starts_among}
use Rattle.pq_schema.proofs.Cases.{either}

or_either : (a b : Bool) → b ≡ true → (a || b) ≡ true
or_either true b h = refl
or_either false b h = h

or_right : (a b : Bool) → a ≡ false → (a || b) ≡ true → b ≡ true
or_right true b e h = absurd (true≢false e)
or_right false b e h = h

none_around : prefixes [] ≡ []
unfolding prefixes
none_around = refl

among_some : (root : List ℕ) (inner : Option (List ℕ)) → is_among root (chain inner) ≡ true → is_among root (chain (Some (first_of inner))) ≡ true
among_some root None h = subst (λ (ps : List (List ℕ)). is_among root ([] ∷ ps ++ [] ∷ []) ≡ true) (sym none_around) (or_either (bytes_eq [] root) (is_among root ([] ∷ [])) h)
among_some root (Some s) h = h

among_last : (root : List ℕ) → is_among root ([] ∷ []) ≡ true → root ≡ []
among_last [] h = refl
among_last (c ∷ cs) h = absurd (true≢false (sym h))

-- an entry that is neither the empty package nor a prefix is the scope with a dot
pub around_is : (entry scope root : List ℕ) → entry ≡ dotted root → is_among root (chain (Some scope)) ≡ true
    → (length entry ≡ 1 → ⊥) → starts_with nat_eq scope entry ≡ false → bytes_eq entry (dotted scope) ≡ true
around_is entry scope root is among long none =
    either (bytes_eq scope root) (λ _. bytes_eq entry (dotted scope) ≡ true)
    (λ t. (bytes_eq-Decides entry (dotted scope)).1 (is ∙ ap dotted (sym ((bytes_eq-Decides scope root).0 t))))
    (λ f.
    let more : is_among root (prefixes scope ++ [] ∷ []) ≡ true = or_right (bytes_eq scope root) (is_among root (prefixes scope ++ [] ∷ [])) f among in
    let further : is_among root (prefixes scope) ≡ false = sym (starts_among scope root) ∙ ap (λ (e : List ℕ). starts_with nat_eq scope e) (sym is) ∙ none in
    let last : is_among root ([] ∷ []) ≡ true = or_right (is_among root (prefixes scope)) (is_among root ([] ∷ [])) further (sym (among_append root (prefixes scope) ([] ∷ [])) ∙ more) in
    absurd (long (ap length (is ∙ ap dotted (among_last root last)))))

-- once the walk is done
pub near_walked : (packages : List (List ℕ × ℕ)) (inner : Option (List ℕ)) (scope root : List ℕ) (k : ℕ) (old new : List ℕ)
    → scope ≡ first_of inner
    → ((k : ℕ) → In k old → In k new)
    → ((root : List ℕ) (k : ℕ) → is_among root (chain (Some scope)) ≡ true → Contains packages (dotted root, k) → In k new)
    → In k old ⊎ (is_among root (chain inner) ≡ true)
    → Contains packages (dotted root, k)
    → In k new
near_walked packages inner scope root k old new is kept added (inl there) at = kept k there
near_walked packages inner scope root k old new is kept added (inr among) at =
    added root k (subst (λ (s : List ℕ). is_among root (chain (Some s)) ≡ true) (sym is) (among_some root inner among)) at

abbrev pub Placed : List (List ℕ × ℕ) → List ℕ → List ℕ → ℕ → Type 0
Placed packages scope near n = (j : ℕ) (root : List ℕ) (k : ℕ) → j < n → is_among root (chain (Some scope)) ≡ true
    → get_or packages j ([], 0) ≡ (dotted root, k) → In k near

-- the walk takes an entry
pub placed_more : (packages : List (List ℕ × ℕ)) (scope : List ℕ) (old new : List ℕ) (n : ℕ) (e : List ℕ × ℕ) → e ≡ get_or packages n ([], 0)
    → new ≡ old ++ e.1 ∷ [] → Placed packages scope old n → Placed packages scope new (n + 1)
placed_more packages scope old new n e is added so_far j root k below among at =
    subst (λ (ks : List ℕ). In k ks) (sym added) (elim (cases_lt j n) [
      | inl earlier ↦ in_append_left k old (e.1 ∷ []) (so_far j root k earlier among at)
      | inr last ↦
          let here : j ≡ n = omega arith in
          in_append_right k old (e.1 ∷ []) (inl (sym (ap (λ (x : List ℕ × ℕ). x.1) (is ∙ ap (λ (m : ℕ). get_or packages m ([], 0)) (sym here) ∙ at))))
    ])

-- and leaves one out
pub placed_past : (packages : List (List ℕ × ℕ)) (scope : List ℕ) (near : List ℕ) (n : ℕ)
    → ((root : List ℕ) (k : ℕ) → is_among root (chain (Some scope)) ≡ true → get_or packages n ([], 0) ≡ (dotted root, k) → ⊥)
    → Placed packages scope near n → Placed packages scope near (n + 1)
placed_past packages scope near n other so_far j root k below among at =
    elim (cases_lt j n) [
      | inl earlier ↦ so_far j root k earlier among at
      | inr last ↦
          let here : j ≡ n = omega arith in
          absurd (other root k among (ap (λ (m : ℕ). get_or packages m ([], 0)) (sym here) ∙ at))
    ]

-- and has seen them all
pub placed_all : (packages : List (List ℕ × ℕ)) (scope : List ℕ) (near : List ℕ) (n : ℕ) → length packages ≤ n → Placed packages scope near n
    → (root : List ℕ) (k : ℕ) → is_among root (chain (Some scope)) ≡ true → Contains packages (dotted root, k) → In k near
placed_all packages scope near n past so_far root k among c =
    let within = c.1 in
    so_far c.0 root k (omega arith) among (get_or_default packages c.0 ([], 0) (dotted root, k) c.1 ∙ c.2)
