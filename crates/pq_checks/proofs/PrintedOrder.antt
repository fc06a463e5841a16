-- The order that the type of codes derives is that of the codes as they are printed: the variants
-- stand in the order of their texts.
use Rattle.std.specs.Prelude.{◌≡◌, ℕ, Bool, true, false, cond, List, [], ◌∷◌, refl}
use Rattle.std.proofs.Common.{sym, ◌∙◌, ap, ap₂, inl, inr, true≢false}
use Rattle.std.specs.Cmp.{IsTotalOrder, nat_cmp_total}
use Rattle.std.specs.Cmp.Derive.{points}
use Rattle.std.specs.Cmp.Lexicographic.{slice_cmp}
use Rattle.std.specs.Ordering.{nat_cmp, ordering_reverse}
use Rattle.std.specs.declared.cmp.Ordering.{Ordering}
use Rattle.std.specs.declared.cmp.Ordering.TheVariants.{Less, Equal, Greater}
use Rattle.std.proofs.lemmas.Cmp.{lists_total, tied_itself}
use denote.Enum.Declared.{Choice}
use denote.Enum.Bare.{Bare}
use denote.Enum.Compared.{by}
use denote.Struct.Field.{Field}
use Rattle.pq_checks.specs.Codes.{code_text}
use Rattle.pq_checks.specs.contracts.errors.code as contracts
use Rattle.pq_checks.specs.contracts.errors.code.CodeOrd.TheImpl as code_order
use Rattle.pq_checks.specs.declared.errors.code.Code.{Code}

-- ---- texts that rise

abbrev pub text_cmp : List ℕ → List ℕ → Ordering
text_cmp = slice_cmp nat_cmp

pub texts_total : IsTotalOrder text_cmp
texts_total = lists_total nat_cmp_total

abbrev is_less : Ordering → Bool
is_less Less = true
is_less Equal = false
is_less Greater = false

less_told : (o : Ordering) → is_less o ≡ true → o ≡ Less
less_told Less e = refl
less_told Equal e = absurd (true≢false (sym e))
less_told Greater e = absurd (true≢false (sym e))

-- the text `t` is less than each of these
abbrev below : List ℕ → List (List ℕ) → Bool
below t [] = true
below t (u ∷ us) = cond (is_less (text_cmp t u)) (below t us) false

-- each text is less than all after it
abbrev rises : List (List ℕ) → Bool
rises [] = true
rises (t ∷ ts) = cond (below t ts) (rises ts) false

one_holds : (p q : Bool) → cond p q false ≡ true → p ≡ true
one_holds true q e = refl
one_holds false q e = absurd (true≢false (sym e))

other_holds : (p q : Bool) → cond p q false ≡ true → q ≡ true
other_holds true q e = e
other_holds false q e = absurd (true≢false (sym e))

-- ---- variants and their texts

-- the text that `f` gives for each variant, in order
abbrev texts : (Fss : List (List Field)) → Bare Fss → (Choice Fss → List ℕ) → List (List ℕ)
texts [] bare f = []
texts ([] ∷ Fss) bare f = f (inl tt) ∷ texts Fss bare (λ (c : Choice Fss). f (inr c))
texts ((F ∷ Fs) ∷ Fss) bare f = absurd bare

below_at : (t : List ℕ) (Fss : List (List Field)) (bare : Bare Fss) (f : Choice Fss → List ℕ) (y : Choice Fss) → below t (texts Fss bare f) ≡ true → text_cmp t (f y) ≡ Less
below_at t [] bare f y b = absurd y
below_at t ([] ∷ Fss) bare f (inl x) b = less_told (text_cmp t (f (inl tt))) (one_holds _ (below t (texts Fss bare (λ (c : Choice Fss). f (inr c)))) b)
below_at t ([] ∷ Fss) bare f (inr y) b = below_at t Fss bare (λ (c : Choice Fss). f (inr c)) y (other_holds (is_less (text_cmp t (f (inl tt)))) _ b)
below_at t ((F ∷ Fs) ∷ Fss) bare f y b = absurd bare

order_at : (Fss : List (List Field)) (bare : Bare Fss) (f : Choice Fss → List ℕ) → rises (texts Fss bare f) ≡ true → (c d : Choice Fss)
    → by Less Greater Fss (points Equal Fss) c d ≡ text_cmp (f c) (f d)
order_at [] bare f up c d = absurd c
order_at ([] ∷ Fss) bare f up c d =
    let rest : Choice Fss → List ℕ = λ y. f (inr y) in
    let first = one_holds (below (f (inl tt)) (texts Fss bare rest)) (rises (texts Fss bare rest)) up in
    let others = other_holds (below (f (inl tt)) (texts Fss bare rest)) (rises (texts Fss bare rest)) up in
    pair c d (λ y. below_at (f (inl tt)) Fss bare rest y first) (order_at Fss bare rest others)
  where
    pair : (c d : Choice ([] ∷ Fss)) → ((y : Choice Fss) → text_cmp (f (inl tt)) (f (inr y)) ≡ Less)
        → ((x y : Choice Fss) → by Less Greater Fss (points Equal Fss) x y ≡ text_cmp (f (inr x)) (f (inr y)))
        → by Less Greater ([] ∷ Fss) (points Equal ([] ∷ Fss)) c d ≡ text_cmp (f c) (f d)
    pair (inl x) (inl y) less rest = sym (tied_itself texts_total (f (inl tt)))
    pair (inl x) (inr y) less rest = sym (less y)
    pair (inr x) (inl y) less rest = sym (texts_total.antisymm (f (inr x)) (f (inl tt)) ∙ ap ordering_reverse (less x))
    pair (inr x) (inr y) less rest = rest x y
order_at ((F ∷ Fs) ∷ Fss) bare f up c d = absurd bare

-- ---- the codes

abbrev text_of : Choice contracts.Code.enum.parts → List ℕ
text_of c = code_text (contracts.Code.enum.make c)

pub codes_order : (a b : Code) → code_order.ghosts.cmp a b ≡ text_cmp (code_text a) (code_text b)
codes_order a b =
    order_at contracts.Code.enum.parts tt text_of refl (contracts.Code.enum.as_values a) (contracts.Code.enum.as_values b)
    ∙ ap₂ text_cmp (ap code_text (contracts.Code.enum.eta a)) (ap code_text (contracts.Code.enum.eta b))
