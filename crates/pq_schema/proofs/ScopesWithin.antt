-- The scopes of a scope: they are scopes of what it is a scope of.
use Rattle.std.proofs.Common.{◌≡◌, ◌⊎◌, ℕ, ◌<◌, ◌≤◌, Bool, true, false, true≢false, nat_eq, ◌&&◌, ◌||◌, List, [], ◌∷◌, ◌++◌, length, get_or, lit<, inl, inr, refl, sym, ap, subst, ◌∙◌, arith, append_assoc, append-nil}
use Rattle.std.specs.Prelude.{bytes_eq, codes}
use Rattle.std.specs.List.{starts_with}
use Rattle.std.specs.Str.{IsCharBoundary, IsUtf8}
use Rattle.std.proofs.lemmas.Bool.Decides.{Decides-eqb}
use Rattle.std.proofs.lemmas.List.{length-append}
use Rattle.std.proofs.lemmas.Slice.Eq.{bytes_eq-Decides}
use Rattle.std.proofs.lemmas.Str.{IsCharBoundary-before_ascii, IsCharBoundary-end, IsCharBoundary-start}
use Rattle.std.proofs.Math.Seq.{get_or-append_seam}
use Rattle.pq_schema.specs.Resolution.{prefixes, scopes}
use Rattle.pq_schema.specs.aux.Scopes.{is_among}
use Rattle.pq_schema.proofs.Among.{among_append, starts_among}

both : (a b : Bool) → (a && b) ≡ true → (a ≡ true) × (b ≡ true)
both true b h = (refl, h)
both false b h = absurd (true≢false (sym h))

or_cases : (a b : Bool) → (a || b) ≡ true → (a ≡ true) ⊎ (b ≡ true)
or_cases true b h = inl refl
or_cases false b h = inr h

pub or_left : (a b : Bool) → a ≡ true → (a || b) ≡ true
or_left true b h = refl
or_left false b h = absurd (true≢false (sym h))

pub or_right : (a b : Bool) → b ≡ true → (a || b) ≡ true
or_right true b h = refl
or_right false b h = h

-- what begins with a text goes on after it
pub starts_split : (p q : List ℕ) → starts_with nat_eq p q ≡ true → (t : List ℕ) × (p ≡ q ++ t)
starts_split p [] h = (p, refl)
starts_split [] (c ∷ cs) h = absurd (true≢false (sym h))
starts_split (x ∷ xs) (c ∷ cs) h =
    let parts = both (nat_eq c x) (starts_with nat_eq xs cs) h in
    let rest = starts_split xs cs parts.1 in
    (rest.0, ap (λ (n : ℕ). n ∷ xs) (sym ((Decides-eqb c x).0 parts.0)) ∙ ap (λ (ys : List ℕ). c ∷ ys) rest.1)

starts_join : (q t : List ℕ) → starts_with nat_eq (q ++ t) q ≡ true
starts_join [] t = refl
starts_join (c ∷ cs) t = ap (λ (b : Bool). b && starts_with nat_eq (cs ++ t) cs) ((Decides-eqb c c).1 refl) ∙ starts_join cs t

pub among_split : (s r : List ℕ) → is_among s (prefixes r) ≡ true → (t : List ℕ) × (r ≡ (s ++ codes ".") ++ t)
among_split s r h = starts_split r (s ++ codes ".") (starts_among r s ∙ h)

among_join : (s t : List ℕ) → is_among s (prefixes ((s ++ codes ".") ++ t)) ≡ true
among_join s t = sym (starts_among ((s ++ codes ".") ++ t) s) ∙ starts_join (s ++ codes ".") t

among_through : (p s r : List ℕ) → is_among p (prefixes s) ≡ true → is_among s (prefixes r) ≡ true → is_among p (prefixes r) ≡ true
among_through p s r a b =
    let inner = among_split p s a in
    let outer = among_split s r b in
    let is : r ≡ (p ++ codes ".") ++ (inner.0 ++ (codes "." ++ outer.0)) =
    outer.1
    ∙ append_assoc s (codes ".") outer.0
    ∙ ap (λ (x : List ℕ). x ++ (codes "." ++ outer.0)) inner.1
    ∙ append_assoc (p ++ codes ".") inner.0 (codes "." ++ outer.0) in
    subst (λ (x : List ℕ). is_among p (prefixes x) ≡ true) (sym is) (among_join p (inner.0 ++ (codes "." ++ outer.0)))

none_prefix : (p : List ℕ) → is_among p (prefixes []) ≡ true → ⊥
unfolding prefixes
none_prefix p h = true≢false (sym h)

empty_among : (s : List ℕ) → is_among s ([] ∷ []) ≡ true → s ≡ []
empty_among [] h = refl
empty_among (c ∷ cs) h = absurd (true≢false (sym h))

-- ---- the scopes of a package

pub scopes_empty : (root : List ℕ) → is_among [] (scopes root) ≡ true
scopes_empty [] = refl
scopes_empty (c ∷ cs) =
    or_right (bytes_eq (c ∷ cs) []) (is_among [] (prefixes (c ∷ cs) ++ [] ∷ []))
    (among_append [] (prefixes (c ∷ cs)) ([] ∷ []) ∙ or_right (is_among [] (prefixes (c ∷ cs))) true refl)

scopes_prefix : (p root : List ℕ) → is_among p (prefixes root) ≡ true → is_among p (scopes root) ≡ true
scopes_prefix p [] h = absurd (none_prefix p h)
scopes_prefix p (c ∷ cs) h =
    or_right (bytes_eq (c ∷ cs) p) (is_among p (prefixes (c ∷ cs) ++ [] ∷ []))
    (among_append p (prefixes (c ∷ cs)) ([] ∷ []) ∙ or_left (is_among p (prefixes (c ∷ cs))) (is_among p ([] ∷ [])) h)

pub in_scopes : (s root : List ℕ) → is_among s (scopes root) ≡ true → (s ≡ root) ⊎ ((is_among s (prefixes root) ≡ true) ⊎ (s ≡ []))
in_scopes s [] h = inr (inr (empty_among s h))
in_scopes s (c ∷ cs) h =
    elim (or_cases (bytes_eq (c ∷ cs) s) (is_among s (prefixes (c ∷ cs) ++ [] ∷ [])) h) [
      | inl e ↦ inl (sym ((bytes_eq-Decides (c ∷ cs) s).0 e))
      | inr f ↦ elim (or_cases (is_among s (prefixes (c ∷ cs))) (is_among s ([] ∷ [])) (sym (among_append s (prefixes (c ∷ cs)) ([] ∷ [])) ∙ f)) [
        | inl g ↦ inr (inl g)
        | inr g ↦ inr (inr (empty_among s g))
      ]
    ]

-- a scope begins the package
pub scope_front : (s root : List ℕ) → is_among s (scopes root) ≡ true → (t : List ℕ) × (root ≡ s ++ t)
scope_front s root h =
    elim (in_scopes s root h) [
      | inl e ↦ ([], sym e ∙ sym (append-nil s))
      | inr other ↦ elim other [
        | inl g ↦ let at = among_split s root g in (codes "." ++ at.0, at.1 ∙ append_assoc s (codes ".") at.0)
        | inr e ↦ (root, ap (λ (x : List ℕ). x ++ root) (sym e))
      ]
    ]

pub scope_within : (s root : List ℕ) → is_among s (scopes root) ≡ true → length s ≤ length root
scope_within s root h =
    let at = scope_front s root h in
    omega (arith, ap length at.1, length-append s at.0)

-- a scope ends where a character ends
pub scope_boundary : (s root : List ℕ) → IsUtf8 root → is_among s (scopes root) ≡ true → IsCharBoundary root (length s)
scope_boundary s root text h =
    elim (in_scopes s root h) [
      | inl e ↦ subst (λ (x : List ℕ). IsCharBoundary root (length x)) (sym e) (IsCharBoundary-end root)
      | inr other ↦ elim other [
        | inl g ↦ let at = among_split s root g in
            let within : length s < length root = omega (arith, ap length at.1, length-append (s ++ codes ".") at.0, length-append s (codes ".")) in
            let dot : get_or root (length s) 0 ≡ 46 = ap (λ (x : List ℕ). get_or x (length s) 0) (at.1 ∙ append_assoc s (codes ".") at.0) ∙ get_or-append_seam s 46 at.0 0 in
            IsCharBoundary-before_ascii root (length s) within (subst (λ (n : ℕ). n < 128) (sym dot) (lit< tt))
        | inr e ↦ subst (λ (x : List ℕ). IsCharBoundary root (length x)) (sym e) (IsCharBoundary-start root text)
      ]
    ]

by_prefix : (p s root : List ℕ) → is_among s (scopes root) ≡ true → is_among p (prefixes s) ≡ true → is_among p (scopes root) ≡ true
by_prefix p s root h g =
    elim (in_scopes s root h) [
      | inl e ↦ scopes_prefix p root (subst (λ (x : List ℕ). is_among p (prefixes x) ≡ true) e g)
      | inr other ↦ elim other [
        | inl inner ↦ scopes_prefix p root (among_through p s root g inner)
        | inr e ↦ absurd (none_prefix p (subst (λ (x : List ℕ). is_among p (prefixes x) ≡ true) e g))
      ]
    ]

-- the scopes of a scope are scopes of the package
pub scopes_through : (p s root : List ℕ) → is_among s (scopes root) ≡ true → is_among p (s ∷ (prefixes s ++ [] ∷ [])) ≡ true → is_among p (scopes root) ≡ true
scopes_through p s root h g =
    elim (or_cases (bytes_eq s p) (is_among p (prefixes s ++ [] ∷ [])) g) [
      | inl e ↦ subst (λ (x : List ℕ). is_among x (scopes root) ≡ true) ((bytes_eq-Decides s p).0 e) h
      | inr f ↦ elim (or_cases (is_among p (prefixes s)) (is_among p ([] ∷ [])) (sym (among_append p (prefixes s) ([] ∷ [])) ∙ f)) [
        | inl inner ↦ by_prefix p s root h inner
        | inr e ↦ subst (λ (x : List ℕ). is_among x (scopes root) ≡ true) (sym (empty_among p e)) (scopes_empty root)
      ]
    ]
