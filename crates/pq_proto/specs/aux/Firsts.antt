-- Auxiliary: the first reference of each item, by which a look-up takes constant time.
use Rattle.std.specs.Prelude.{◌≡◌, ℕ, suc, ◌<◌, ◌&&◌, nat_eq, cond, get_or, length, List, [], ◌∷◌}
use Rattle.pq_links.specs.declared.places.TypePart.{TypePart}
use Rattle.pq_schema.specs.declared.queries.resolved.ResolvedReference.{ResolvedReference}
use Rattle.pq_proto.specs.Types.{is_part}

-- `first_at references n part` is the index of the first of `references` that is the part `part` of
-- the item of the number `n`; without one it is their number
unfoldable pub first_at : List ResolvedReference → ℕ → TypePart → ℕ
first_at [] n part = 0
first_at (r ∷ rs) n part = cond (nat_eq r.item n && is_part r.part part) 0 (suc (first_at rs n part))

-- `IsFirsts references part firsts` is that `firsts` are these indexes, for the items from 0 on
pub record IsFirsts (references : List ResolvedReference) (part : TypePart) (firsts : List ℕ) : Type 0 where
  pub each : (n : ℕ) → n < length firsts → get_or firsts n 0 ≡ first_at references n part
