use Rattle.std.proofs.Common.{ℕ, take, subst, sym}
use Rattle.std.specs.Prelude.{IsUtf8}
use Rattle.std.proofs.lemmas.Str.{IsUtf8-had}
use Rattle.pq_names.proofs.short.Short.as_str.Goals as goal

-- the bytes of the text are UTF-8, as the value keeps
pub from_utf8_unchecked-requires : goal.from_utf8_unchecked-requires
from_utf8_unchecked-requires c =
    subst (λ (n : ℕ). IsUtf8 (take n c.self.inside.bytes)) (sym c.from-len.ensures) (IsUtf8-had _ c.self.invariant.2)
