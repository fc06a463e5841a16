-- Where each key has at most one next, a key leads into at most one ring (`one_ring`).
--
-- Two rings that a key leads into have a key in common, so each has the other's first key. Both
-- begin at their least key, so the first keys are one; from there on the steps are.
use Rattle.std.proofs.Common.{◌≡◌, List, [], ◌∷◌, ◌++◌, refl, sym, ◌∙◌, subst, inl, inr}
use Rattle.std.specs.declared.cmp.Ordering.{Ordering}
use Rattle.std.specs.declared.cmp.Ordering.TheVariants.{Less}
use Rattle.pq_rules.specs.Relations.{Each, In, Chain, Leads, IsRing, LeadsInto}

-- each key has at most one next
abbrev pub Single : {K : Type 0} → (K → K → Type 0) → Type 0
Single {K} N = (k x y : K) → N k x → N k y → x ≡ y

pub record Strict {K : Type 0} (order : K → K → Ordering) : Type 0 where
  pub not_both : (a b : K) → order a b ≡ Less → order b a ≡ Less → ⊥

pub each_in : {K : Type 0} (P : K → Type 0) (x : K) (xs : List K) → Each P xs → In x xs → P x
each_in P x [] e i = absurd i
each_in {K} P x (y ∷ ys) e (inl p) = subst P (sym p) e.0
each_in P x (y ∷ ys) e (inr i) = each_in P x ys e.1 i

-- where a step from a member of a chain that comes back goes
stays : {K : Type 0} (N : K → K → Type 0) → Single N → (k : K) (xs : List K) (z : K) (x y : K)
    → Chain N k xs z → In x (k ∷ xs) → N x y → In y (xs ++ z ∷ [])
unfolding Chain
stays {K} N single k [] z x y c (inl p) n =
    let n' : N k y = subst (λ (w : K). N w y) p n in inl (single k y z n' c)
stays N single k [] z x y c (inr i) n = absurd i
stays {K} N single k (w ∷ ws) z x y c (inl p) n =
    let n' : N k y = subst (λ (v : K). N v y) p n in inl (single k y w n' c.0)
stays N single k (w ∷ ws) z x y c (inr i) n = inr (stays N single w ws z x y c.1 i n)

-- `y` is in the list where it is in the list turned by one
pub in_turned : {K : Type 0} (y z : K) (xs : List K) → In y (xs ++ z ∷ []) → In y (z ∷ xs)
in_turned y z [] i = i
in_turned y z (x ∷ xs) (inl p) = inr (inl p)
in_turned y z (x ∷ xs) (inr i) = elim (in_turned y z xs i) [ inl p ↦ inl p | inr j ↦ inr (inr j) ]

stays_along : {K : Type 0} (N : K → K → Type 0) → Single N → (z : K) (zs : List K) → Chain N z zs z
    → (k : K) (xs : List K) (y : K) → In k (z ∷ zs) → Chain N k xs y → In y (z ∷ zs)
unfolding Chain
stays_along N single z zs ring k [] y i c = in_turned y z zs (stays N single z zs z k y ring i c)
stays_along N single z zs ring k (x ∷ xs) y i c =
    stays_along N single z zs ring x xs y (in_turned x z zs (stays N single z zs z k x ring i c.0)) c.1

-- from a member of the ring there is a chain to its head
pub comes_back : {K : Type 0} (N : K → K → Type 0) (k : K) (xs : List K) (z : K) → Chain N k xs z
    → (x : K) → In x (k ∷ xs) → (ys : List K) × Chain N x ys z
unfolding Chain
comes_back {K} N k [] z c x (inl p) =
    ([], subst (λ (w : K). N w z) (sym p) c)
comes_back N k [] z c x (inr i) = absurd i
comes_back {K} N k (y ∷ ys) z c x (inl p) =
    (y ∷ ys, (subst (λ (w : K). N w y) (sym p) c.0, c.1))
comes_back N k (y ∷ ys) z c x (inr i) = comes_back N y ys z c.1 x i

-- of two rings that a key leads into, each has the other's head
each_has : {K : Type 0} (N : K → K → Type 0) → Single N → (z w : K) (zs ws : List K)
    → Chain N z zs z → Chain N w ws w → In w (z ∷ zs) → In z (w ∷ ws)
each_has N single z w zs ws rz rw i =
    let back = comes_back N z zs z rz w i in
    stays_along N single w ws rw w back.0 z (inl refl) back.1

meets : {K : Type 0} (N : K → K → Type 0) → Single N → (z w : K) (zs ws : List K)
    → Chain N z zs z → Chain N w ws w → (k : K) (xs ys : List K)
    → Chain N k xs z → Chain N k ys w → In w (z ∷ zs)
unfolding Chain
meets {K} N single z w zs ws rz rw k [] [] cz cw = inl (single k w z cw cz)
meets {K} N single z w zs ws rz rw k [] (y ∷ ys) cz cw =
    let same : y ≡ z = single k y z cw.0 cz in
    let c : Chain N z ys w = subst (λ (v : K). Chain N v ys w) same cw.1 in
    stays_along N single z zs rz z ys w (inl refl) c
meets {K} N single z w zs ws rz rw k (x ∷ xs) [] cz cw =
    let same : x ≡ w = single k x w cz.0 cw in
    let c : Chain N w xs z = subst (λ (v : K). Chain N v xs z) same cz.1 in
    each_has N single w z ws zs rw rz (stays_along N single w ws rw w xs z (inl refl) c)
meets {K} N single z w zs ws rz rw k (x ∷ xs) (y ∷ ys) cz cw =
    let same : y ≡ x = single k y x cw.0 cz.0 in
    let c : Chain N x ys w = subst (λ (v : K). Chain N v ys w) same cw.1 in
    meets N single z w zs ws rz rw x xs ys cz.1 c

leads_meet : {K : Type 0} (N : K → K → Type 0) → Single N → (z w : K) (zs ws : List K)
    → Chain N z zs z → Chain N w ws w → (k : K) → Leads N k z → Leads N k w → In w (z ∷ zs)
unfolding Leads
leads_meet {K} N single z w zs ws rz rw k (inl p) (inl q) = inl (sym q ∙ p)
leads_meet {K} N single z w zs ws rz rw k (inl p) (inr c) =
    stays_along N single z zs rz k c.0 w (inl p) c.1
leads_meet {K} N single z w zs ws rz rw k (inr c) (inl q) =
    each_has N single w z ws zs rw rz (stays_along N single w ws rw k c.0 z (inl q) c.1)
leads_meet N single z w zs ws rz rw k (inr c) (inr d) =
    meets N single z w zs ws rz rw k c.0 d.0 c.1 d.1

-- the first return
pub first_return : {K : Type 0} (N : K → K → Type 0) → Single N → (k z : K) (xs ys : List K)
    → Chain N k xs z → Chain N k ys z → (In z xs → ⊥) → (In z ys → ⊥) → xs ≡ ys
unfolding Chain
first_return N single k z [] [] c d nx ny = refl
first_return N single k z [] (y ∷ ys) c d nx ny = absurd (ny (inl (single k z y c d.0)))
first_return N single k z (x ∷ xs) [] c d nx ny = absurd (nx (inl (single k z x d c.0)))
first_return {K} N single k z (x ∷ xs) (y ∷ ys) c d nx ny =
    let same : y ≡ x = single k y x d.0 c.0 in
    let d' : Chain N x ys z = subst (λ (v : K). Chain N v ys z) same d.1 in
    let rest : xs ≡ ys = first_return N single x z xs ys c.1 d' (λ i. nx (inr i)) (λ i. ny (inr i)) in
    cc

pub one_ring : {K : Type 0} (order : K → K → Ordering) → Strict order → (N : K → K → Type 0) → Single N
    → (k : K) (r s : List K) → IsRing order N r → IsRing order N s
    → LeadsInto N k r → LeadsInto N k s → r ≡ s
unfolding IsRing LeadsInto
one_ring order strict N single k [] s a b lr ls = absurd a
one_ring order strict N single k (z ∷ zs) [] a b lr ls = absurd b
one_ring {K} order strict N single k (z ∷ zs) (w ∷ ws) a b lr ls =
    let i : In w (z ∷ zs) = leads_meet N single z w zs ws a.0 b.0 k lr ls in
    let j : In z (w ∷ ws) = leads_meet N single w z ws zs b.0 a.0 k ls lr in
    let alone : (x : K) (xs : List K) → Each (λ y. order x y ≡ Less) xs → In x xs → ⊥ =
    λ x xs e m. let p = each_in (λ y. order x y ≡ Less) x xs e m in strict.not_both x x p p in
    let heads : z ≡ w = elim i [
      | inl p ↦ sym p
      | inr i' ↦ elim j [
        | inl q ↦ q
        | inr j' ↦ absurd (strict.not_both z w (each_in (λ y. order z y ≡ Less) w zs a.1 i')
            (each_in (λ y. order w y ≡ Less) z ws b.1 j'))
      ]
    ] in
    let c : Chain N z ws z = subst (λ (v : K). Chain N v ws v) (sym heads) b.0 in
    let low : Each (λ y. order z y ≡ Less) ws = subst (λ (v : K). Each (λ y. order v y ≡ Less) ws) (sym heads) b.1 in
    let tails : zs ≡ ws = first_return N single z z zs ws a.0 c (alone z zs a.1) (alone z ws low) in
    cc
