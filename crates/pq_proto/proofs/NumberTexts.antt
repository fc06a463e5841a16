-- The text of a number below 0 is a number of JSON.
use Rattle.std.proofs.Common.{◌≡◌, ℕ, ◌^◌, ◌<◌, Bool, false, cond, ◌==◌, List, [], ◌∷◌, get_or, drop, Some, decimal, sym, ap, ◌∙◌, arith}
use Rattle.std.specs.Prelude.{option_and_then}
use Rattle.std.proofs.lemmas.Bool.{ne_eqb}
use Rattle.std.proofs.lemmas.Fmt.{first_decimal}
use Rattle.json.specs.Word.{head, after_whole, after_fraction, after_exponent, after_number}
use Rattle.json.specs.Print.{IsNumber}
use Rattle.json.proofs.Printed.Decimals.{IsNumber-decimal}

first_of : (ds : List ℕ) (d : ℕ) → 48 < get_or ds 0 0 → (head ds == 45) ≡ false
first_of [] d h = absurd (omega arith)
first_of (x ∷ xs) d h = ne_eqb x 45 (λ e. omega arith)

pub below_zero : (n : ℕ) → 0 < n → n < 2 ^ 64 → IsNumber (45 ∷ decimal n)
unfolding after_number
below_zero n some fits =
    let no_sign : (head (decimal n) == 45) ≡ false = first_of (decimal n) 0 (first_decimal n some fits) in
    let plain : after_number (decimal n) ≡ Some [] = IsNumber-decimal n fits in
    ap (λ (b : Bool). option_and_then after_exponent (option_and_then after_fraction (after_whole (cond b (drop 1 (decimal n)) (decimal n))))) (sym no_sign) ∙ plain
