-- Relations on keys: lists of keys, chains of steps, rings. Nothing here knows a rule set, so
-- graphs of imports and of claims are described by the same words.
--
-- A relation `N` is read as steps: `N k q` is a step from `k` to `q`. A chain is a list of steps; a
-- ring is a chain that comes back to where it began. `IsRing` also fixes the first key: the least.
use Rattle.std.specs.Prelude.{◌≡◌, ◌⊎◌, List, [], ◌∷◌}
use Rattle.std.specs.declared.cmp.Ordering.{Ordering}
use Rattle.std.specs.declared.cmp.Ordering.TheVariants.{Less}

-- `Each P xs` is that `P` holds of each element of `xs`. It is `All P xs` of std, which speaks of
-- indexes (the law `lists_of_std`); this form is a product, so that a proof takes it apart by
-- cases.
abbrev pub Each : {A : Type 0} → (A → Type 0) → List A → Type 0
Each P [] = Unit {0}
Each P (x ∷ xs) = P x × Each P xs

-- `In x xs` is that `x` is an element of `xs`. It is `Contains xs x` of std, which speaks of
-- indexes (the law `lists_of_std`); this form is a sum, so that a proof takes it apart by cases.
abbrev pub In : {A : Type 0} → A → List A → Type 0
In x [] = ⊥
In x (y ∷ ys) = (x ≡ y) ⊎ In x ys

-- `Chain N k xs z` is a step from `k` to the first of `xs`, from each of `xs` to the one after it,
-- and from the last to `z`; for no `xs`, a step from `k` to `z`
unfoldable pub Chain : {K : Type 0} → (K → K → Type 0) → K → List K → K → Type 0
Chain N k [] z = N k z
Chain N k (x ∷ xs) z = N k x × Chain N x xs z

-- `Leads N k z` is that `k` is `z`, or that a chain goes from `k` to `z`
unfoldable pub Leads : {K : Type 0} → (K → K → Type 0) → K → K → Type 0
Leads {K} N k z = (k ≡ z) ⊎ ((xs : List K) × Chain N k xs z)

-- `Round N zs` is a step from each of `zs` to the one after it, and from the last to the first
unfoldable pub Round : {K : Type 0} → (K → K → Type 0) → List K → Type 0
Round N [] = ⊥
Round N (z ∷ zs) = Chain N z zs z

-- `IsRing order N zs` is that `zs` is a round whose first key is less than each other key
unfoldable pub IsRing : {K : Type 0} → (K → K → Ordering) → (K → K → Type 0) → List K → Type 0
IsRing order N [] = ⊥
IsRing order N (z ∷ zs) = Chain N z zs z × Each (λ x. order z x ≡ Less) zs

-- `LeadsInto N k zs` is that `k` leads to the first key of `zs`
unfoldable pub LeadsInto : {K : Type 0} → (K → K → Type 0) → K → List K → Type 0
LeadsInto N k [] = ⊥
LeadsInto N k (z ∷ zs) = Leads N k z
