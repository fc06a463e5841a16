-- Tests by their two answers.
use Rattle.std.proofs.Common.{◌≡◌, Bool, true, false, refl}

-- what holds at each answer of a test holds of the test
pub either : (b : Bool) (P : Bool → Type 0) → (b ≡ true → P true) → (b ≡ false → P false) → P b
either true P f g = f refl
either false P f g = g refl
