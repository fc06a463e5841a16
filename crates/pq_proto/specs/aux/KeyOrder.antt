-- Auxiliary: keys that compare as equal are equal, by the shape of the derived order: variant by
-- variant, and field by field (used by proofs and invariants only).
use Rattle.std.specs.Prelude.{◌≡◌, ℕ}
use Rattle.std.proofs.Common.{◌∙◌, ap}
use Rattle.std.specs.Ordering.{nat_cmp, ordering_then}
use Rattle.std.specs.Cmp.Lexicographic.{slice_cmp}
use Rattle.std.specs.declared.cmp.Ordering.{Ordering}
use Rattle.std.specs.declared.cmp.Ordering.TheVariants.{Equal}
use denote.Enum.Declared.{values_one}
use denote.Enum.Compared.{Each}
use Rattle.pq_rules.proofs.ExactOrders.{Exacts, exact_bytes, exact_choice, exact_unsigned, then_left, then_right}
use Rattle.pq_proto.specs.declared.key.ProtoKey.{ProtoKey}
use Rattle.pq_proto.specs.declared.key.Place.{Place}
use Rattle.pq_proto.specs.contracts.key.ProtoKeyOrd.TheImpl as order
use Rattle.pq_proto.specs.contracts.key.PlaceOrd.TheImpl as places
use Rattle.pq_proto.specs.contracts.key.ProtoKey as key

place_at : ℕ → ℕ → Place
place_at l c = record { line = l; character = c }

place_exact : (a b : Place) → places.ghosts.cmp a b ≡ Equal → a ≡ b
unfolding place_at
place_exact a b e =
    let p = nat_cmp a.line b.line in let q = nat_cmp a.character b.character in
    ap (λ l. place_at l a.character) (exact_unsigned a.line b.line (then_left p q e)) ∙ ap (λ c. place_at b.line c) (exact_unsigned a.character b.character (then_right p q e))

abbrev pub key_orders : Each Ordering key.enum.parts
key_orders = (λ x y. slice_cmp nat_cmp x.0 y.0, (λ x y. slice_cmp nat_cmp x.0 y.0, (λ x y. slice_cmp nat_cmp x.0 y.0, (λ x y. slice_cmp nat_cmp x.0 y.0, (λ x y. slice_cmp nat_cmp x.0 y.0, (λ x y. slice_cmp nat_cmp x.0 y.0, (λ x y. slice_cmp nat_cmp x.0 y.0, (λ x y. slice_cmp nat_cmp x.0 y.0, (λ x y. slice_cmp nat_cmp x.0 y.0, (λ x y. slice_cmp nat_cmp x.0 y.0, (λ x y. slice_cmp nat_cmp x.0 y.0, (λ x y. slice_cmp nat_cmp x.0 y.0, (λ x y. ordering_then (slice_cmp nat_cmp x.0 y.0) (places.ghosts.cmp x.1.0 y.1.0), tt)))))))))))))

key_parts : Exacts key.enum.parts key_orders
key_parts = (λ x y e. ap (λ t. (t, tt)) (exact_bytes x.0 y.0 e), (λ x y e. ap (λ t. (t, tt)) (exact_bytes x.0 y.0 e), (λ x y e. ap (λ t. (t, tt)) (exact_bytes x.0 y.0 e), (λ x y e. ap (λ t. (t, tt)) (exact_bytes x.0 y.0 e), (λ x y e. ap (λ t. (t, tt)) (exact_bytes x.0 y.0 e), (λ x y e. ap (λ t. (t, tt)) (exact_bytes x.0 y.0 e), (λ x y e. ap (λ t. (t, tt)) (exact_bytes x.0 y.0 e), (λ x y e. ap (λ t. (t, tt)) (exact_bytes x.0 y.0 e), (λ x y e. ap (λ t. (t, tt)) (exact_bytes x.0 y.0 e), (λ x y e. ap (λ t. (t, tt)) (exact_bytes x.0 y.0 e), (λ x y e. ap (λ t. (t, tt)) (exact_bytes x.0 y.0 e), (λ x y e. ap (λ t. (t, tt)) (exact_bytes x.0 y.0 e), (λ x y e. ap (λ t. (t, x.1)) (exact_bytes x.0 y.0 (then_left (slice_cmp nat_cmp x.0 y.0) (places.ghosts.cmp x.1.0 y.1.0) e)) ∙ ap (λ p. (y.0, (p, tt))) (place_exact x.1.0 y.1.0 (then_right (slice_cmp nat_cmp x.0 y.0) (places.ghosts.cmp x.1.0 y.1.0) e)), tt)))))))))))))

pub key_exact : (a b : ProtoKey) → order.ghosts.cmp a b ≡ Equal → a ≡ b
key_exact a b e = values_one key.enum a b (exact_choice key.enum.parts key_orders key_parts (key.enum.as_values a) (key.enum.as_values b) e)
