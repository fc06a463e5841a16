use Rattle.std.proofs.Common.{◌≡◌, ℕ, Bool, true, false, cond, List, [], ◌∷◌, Option, None, Some, refl, sym}
use Rattle.std.specs.Prelude.{bytes_eq}
use Rattle.std.specs.Cmp.Lexicographic.{bytes_decides}
use Rattle.pq_rules.specs.Relations.{Each}
use Rattle.pq_proto.specs.Types.{number_in, scalar_numbers}
use Rattle.pq_proto.proofs.descriptor.types.scalar_number.Goals as goal

not_this : (b : Bool) (n : ℕ) (rest : Option ℕ) → (b ≡ true → ⊥) → None ≡ rest → None ≡ cond b (Some n) rest
not_this true n rest f e = absurd (f refl)
not_this false n rest f e = e

-- a name that differs from each in `pairs` has no number there
no_number : (pairs : List (List ℕ × ℕ)) (name : List ℕ) → Each (λ (p : List ℕ × ℕ). name ≡ p.0 → ⊥) pairs → None ≡ number_in pairs name
no_number [] name h = refl
no_number (p ∷ ps) name h =
    not_this (bytes_eq p.0 name) p.1 (number_in ps name) (λ t. h.0 (sym ((bytes_decides p.0 name).0 t))) (no_number ps name h.1)

pub returns-in_default : goal.returns-in_default
returns-in_default c =
    let d = c.in_default in
    no_number scalar_numbers c.args.name.now
    (d.not-double, (d.not-float, (d.not-int64, (d.not-uint64, (d.not-int32, (d.not-fixed64, (d.not-fixed32, (d.not-bool, (d.not-string, (d.not-bytes, (d.not-uint32, (d.not-sfixed32, (d.not-sfixed64, (d.not-sint32, (d.not-sint64, tt)))))))))))))))
