-- What several calls append in turn.
use Rattle.std.proofs.Common.{◌≡◌, List, [], ◌∷◌, ◌++◌, refl, sym, ap, ◌∙◌, append_assoc, append-nil}
use Rattle.std.specs.Prelude.{flat_map}
use Rattle.pq_checks.specs.Line.{Line, said, all_said}
use Rattle.pq_checks.specs.declared.errors.fault.Fault.{Fault}

-- one call before others, and the last one
pub in_turn : (old one last a b : List Fault) → one ≡ old ++ a → last ≡ one ++ b → last ≡ old ++ (a ++ b)
in_turn old one last a b e f = f ∙ ap (λ (ys : List Fault). ys ++ b) e ∙ append_assoc old a b

pub last_turn : (one last a : List Fault) → last ≡ one ++ a → last ≡ one ++ (a ++ [])
last_turn one last a e = e ∙ ap (λ (ys : List Fault). one ++ ys) (sym (append-nil a))

-- what a call appends, by lists that it was given as the code keeps them
pub looked_up : {A B : Type 0} (f : B → A → List Fault) {b d : B} {xs ys : List A} (one last : List Fault) → b ≡ d → xs ≡ ys → last ≡ one ++ flat_map (f b) xs → last ≡ one ++ flat_map (f d) ys
looked_up {A = A} {B = B} f {b = b} {d = d} {xs = xs} {ys = ys} one last bd xy h =
    h ∙ ap (λ (zs : List A). one ++ flat_map (f b) zs) xy ∙ ap (λ (e : B). one ++ flat_map (f e) ys) bd

-- one table before others
joined : (ls ms : List Line) → all_said (ls ++ ms) ≡ all_said ls ++ all_said ms
joined [] ms = refl
joined (l ∷ ls) ms = ap (λ (ys : List Fault). said l ++ ys) (joined ls ms) ∙ sym (append_assoc (said l) (all_said ls) (all_said ms))

pub table_in_turn : (ls ms : List Line) (old one last : List Fault) → one ≡ old ++ all_said ls → last ≡ one ++ all_said ms → last ≡ old ++ all_said (ls ++ ms)
table_in_turn ls ms old one last e f = in_turn old one last (all_said ls) (all_said ms) e f ∙ ap (λ (ys : List Fault). old ++ ys) (sym (joined ls ms))
