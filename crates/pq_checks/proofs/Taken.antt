-- Elements and length of a list of views.
use Rattle.std.proofs.Common.{◌≡◌, ℕ, zero, suc, ◌<◌, List, [], ◌∷◌, map, length, get_or, refl, arith}

pub map_at : {A B : Type 0} (h : A → B) (xs : List A) (i : ℕ) (d : B) (e : A) → i < length xs → get_or (map h xs) i d ≡ h (get_or xs i e)
map_at h [] i d e lt = absurd (omega arith)
map_at h (x ∷ xs) zero d e lt = refl
map_at h (x ∷ xs) (suc i) d e lt = map_at h xs i d e (omega arith)
