-- Auxiliary: the first place of a lane and its outbox.
use Rattle.std.specs.Prelude.{ℕ, ◌≡◌, ◌++◌, ◌∷◌, [], List, slice_get, Option, Some}
use Rattle.std.specs.declared.cmp.Ordering.{Ordering}
use Rattle.pq_rules.specs.Turns.{Machine}
use Rattle.pq_core.specs.Points.{Point}
use Rattle.pq_core.specs.Replies.{ReplyView}
use Rattle.pq_core.specs.Lanes.{ReadyView, ReadyKept, after_next}
use Rattle.pq_core.specs.declared.values.moves.Released.{Released}
use Rattle.pq_core.specs.declared.values.moves.Released.TheVariants.{Put as ReleasedPut, Full as ReleasedFull, Gone as ReleasedGone, Nothing as ReleasedNothing}

-- `LetsOut order machine point puts takes was_full was_gone answer put before after o p` is that of the places `before`
-- the first reply, of number `put`, which is right, enters the outbox `o`, which is `p` afterwards; or that
-- `o` refuses it; or that it is not there
abbrev pub LetsOut : {R K P V M O : Type 0} → (K → K → Ordering) → (R → Machine K P V) → (M → Point) → (puts takes : O → List (ReplyView K V M)) → (was_full was_gone : O → Type 0) → Released → ℕ → (before after : List (Option (ReadyView K V M))) → O → O → Type 0
LetsOut {R} {K} {P} {V} {M} {O} order machine point puts takes was_full was_gone (ReleasedPut n) put before after o p =
    (ready : ReadyView K V M) × (slice_get before 0 ≡ Some (Some ready)) × ReadyKept order machine point ready × (n ≡ put)
    × (puts p ≡ puts o ++ ready.reply ∷ []) × (takes p ≡ takes o) × (after ≡ after_next before)
LetsOut {R} {K} {P} {V} {M} {O} order machine point puts takes was_full was_gone ReleasedFull put before after o p =
    (ready : ReadyView K V M) × (slice_get before 0 ≡ Some (Some ready)) × (puts p ≡ puts o) × (takes p ≡ takes o) × was_full p × (after ≡ before)
LetsOut {R} {K} {P} {V} {M} {O} order machine point puts takes was_full was_gone ReleasedGone put before after o p =
    (ready : ReadyView K V M) × (slice_get before 0 ≡ Some (Some ready)) × (puts p ≡ puts o) × (takes p ≡ takes o) × was_gone p × (after ≡ before)
LetsOut {R} {K} {P} {V} {M} {O} order machine point puts takes was_full was_gone ReleasedNothing put before after o p =
    ((ready : ReadyView K V M) → slice_get before 0 ≡ Some (Some ready) → ⊥) × (after ≡ before) × (p ≡ o)
