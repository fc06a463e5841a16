-- Two files are one, or they differ.
use Rattle.std.proofs.Common.{◌≡◌, ℕ, ◌<◌, ◌≤◌, ◌⊎◌, inl, inr, Bool, true, false, List, Option, Some, None, refl, sym, ap, ap₂, ◌∙◌, true≢false, arith}
use Rattle.std.specs.Prelude.{◌==◌, nat_le}
use Rattle.std.specs.Str.{bytes_eq}
use Rattle.std.proofs.lemmas.Bool.Decides.{nat_tests}
use Rattle.std.proofs.lemmas.Option.{none-some, same_Some}
use Rattle.std.proofs.lemmas.Slice.Eq.{bytes_eq-Decides}
use Rattle.pq_inputs.specs.declared.durability.Durability.{Durability}
use Rattle.pq_inputs.specs.declared.durability.Durability.TheVariants.{Low, Medium, High}
use Rattle.pq_inputs.specs.Sources.{File}

-- a test is true or false
pub cases_bool : (b : Bool) → (b ≡ true) ⊎ (b ≡ false)
cases_bool true = inl refl
cases_bool false = inr refl

-- where a number is at most another, it is that one exactly where it is at least that one
pub at_limit : (n limit : ℕ) → n ≤ limit → nat_le limit n ≡ (n == limit)
at_limit n limit within = grind (arith, nat_tests)

-- and it is below where it is not that one
pub below_limit : (n limit : ℕ) → n ≤ limit → (n == limit) ≡ false → n < limit
below_limit n limit within other = grind (arith, nat_tests)

-- two lists of bytes are one, or they differ
cases_bytes : (a b : List ℕ) → (a ≡ b) ⊎ (a ≡ b → ⊥)
cases_bytes a b = elim (cases_bool (bytes_eq a b)) [ inl same ↦ inl ((bytes_eq-Decides a b).0 same) | inr other ↦ inr (λ same. true≢false (sym ((bytes_eq-Decides a b).1 same) ∙ other)) ]

cases_text : (a b : Option (List ℕ)) → (a ≡ b) ⊎ (a ≡ b → ⊥)
cases_text None None = inl refl
cases_text None (Some y) = inr (λ same. none-some y same)
cases_text (Some x) None = inr (λ same. none-some x (sym same))
cases_text (Some x) (Some y) = elim (cases_bytes x y) [ inl same ↦ inl (ap (λ (z : List ℕ). Some z) same) | inr differ ↦ inr (λ same. differ (same_Some x y same)) ]

cases_durability : (a b : Durability) → (a ≡ b) ⊎ (a ≡ b → ⊥)
cases_durability Low Low = inl refl
cases_durability Medium Medium = inl refl
cases_durability High High = inl refl
cases_durability Low Medium = inr (λ same. (cc))
cases_durability Low High = inr (λ same. (cc))
cases_durability Medium Low = inr (λ same. (cc))
cases_durability Medium High = inr (λ same. (cc))
cases_durability High Low = inr (λ same. (cc))
cases_durability High Medium = inr (λ same. (cc))

-- files of one text and one durability are one
file_path : (a b : File) → a.text ≡ b.text → a.durability ≡ b.durability → a ≡ b
file_path a b text durability = ap₂ make text durability
  where
    make : Option (List ℕ) → Durability → File
    make t d = record { text = t; durability = d }

-- files that do not differ are one
pub same_unless : (a b : File) → ((a ≡ b → ⊥) → ⊥) → a ≡ b
same_unless a b unless = elim (cases_text a.text b.text) [
  | inl text ↦ elim (cases_durability a.durability b.durability) [
    | inl durability ↦ file_path a b text durability
    | inr differ ↦ absurd (unless (λ same. differ (ap (λ (f : File). f.durability) same)))
  ]
  | inr differ ↦ absurd (unless (λ same. differ (ap (λ (f : File). f.text) same)))
]
