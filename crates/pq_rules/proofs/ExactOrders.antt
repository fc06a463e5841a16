-- Keys that compare as equal are equal: an order of an enum that goes by its variants, and within
-- one by an order that tells its values apart, tells all values apart.
use Rattle.std.specs.Prelude.{◌≡◌, ℕ, List, [], ◌∷◌, refl}
use Rattle.std.proofs.Common.{◌<◌, inl, inr, ◌∙◌, ap, subst, sym}
use Rattle.std.specs.Ordering.{MatchOrdering, nat_cmp, ordering_then}
use Rattle.std.specs.Cmp.{Equal-is, ranks}
use Rattle.std.specs.Cmp.Lexicographic.{slice_cmp}
use Rattle.std.specs.declared.cmp.Ordering.{Ordering}
use Rattle.std.specs.declared.cmp.Ordering.TheVariants.{Less, Equal, Greater}
use Rattle.std.proofs.lemmas.Map.Text.{is_eq-slice_cmp}
use Rattle.std.proofs.lemmas.Slice.Eq.{bytes_eq-Decides}
use denote.Enum.Declared.{Choice}
use denote.Enum.Compared.{by, Each}
use denote.Struct.Field.{Field}
use denote.Struct.Values.{Values}

pub exact_unsigned : (x y : ℕ) → nat_cmp x y ≡ Equal → x ≡ y
exact_unsigned x y e = subst (λ (r : Ordering). MatchOrdering r (x < y) (x ≡ y) (y < x)) e (ranks x y)

pub exact_bytes : (x y : List ℕ) → slice_cmp nat_cmp x y ≡ Equal → x ≡ y
exact_bytes x y e = (bytes_eq-Decides x y).0 (sym (is_eq-slice_cmp x y) ∙ (Equal-is (slice_cmp nat_cmp x y)).1 e)

-- `Exacts Fss rs` is that each order of `rs`, one for the fields of each variant, is exact
abbrev pub Exacts : (Fss : List (List Field)) → Each Ordering Fss → Type 0
Exacts [] rs = Unit {0}
Exacts (Fs ∷ Fss) rs = ((x y : Values Fs) → rs.0 x y ≡ Equal → x ≡ y) × Exacts Fss rs.1

pub exact_choice : (Fss : List (List Field)) (rs : Each Ordering Fss) → Exacts Fss rs → (c d : Choice Fss) → by Less Greater Fss rs c d ≡ Equal → c ≡ d
exact_choice [] rs all c d e = absurd c
exact_choice (Fs ∷ Fss) rs all (inl x) (inl y) e = ap (λ z. inl z) (all.0 x y e)
exact_choice (Fs ∷ Fss) rs all (inl x) (inr y) e = cc
exact_choice (Fs ∷ Fss) rs all (inr x) (inl y) e = cc
exact_choice (Fs ∷ Fss) rs all (inr x) (inr y) e = ap (λ z. inr z) (exact_choice Fss rs.1 all.1 x y e)

-- where two orders one after the other tell nothing apart, neither does
pub then_left : (p q : Ordering) → ordering_then p q ≡ Equal → p ≡ Equal
then_left Less q e = cc
then_left Equal q e = refl
then_left Greater q e = cc

pub then_right : (p q : Ordering) → ordering_then p q ≡ Equal → q ≡ Equal
then_right Less q e = cc
then_right Equal q e = e
then_right Greater q e = cc
