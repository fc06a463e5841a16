use Rattle.std.proofs.Common.{◌≡◌, ℕ, length, slice_get, Ok, Some, ap, refl, arith}
use Rattle.std.proofs.lemmas.List.{length_push}
use Rattle.pq_names.proofs.Places.{among}
use Rattle.pq_names.proofs.OrderLemmas.{number_at, one_place, gap_free, gap_fresh, insert_keeps}
use Rattle.pq_names.proofs.table.Names.intern.Goals as goal

-- a text that was found has its number
there : (c : goal.After-result-1) → slice_get c.args.self.now c.index.result.now ≡ Some c.args.text.now
there c =
    let sorted = rw c.self.view_is at c.self.invariant.0 in
    let found = rw (c.deref.ensures.value, c.deref-2.ensures.value, c.self.view_is) at c.in-Ok.ensures.found in
    number_at sorted c.args.text.now c.in-Ok.place c.index.result.now found c.index.ensures

pub returns-in-Ok-clause-known : goal.returns-in-Ok-clause-known
returns-in-Ok-clause-known c = λ id is.
    let sorted = rw c.self.view_is at c.self.invariant.0 in
    (ap (λ (i : ℕ). Ok i) (one_place sorted c.args.text.now c.index.result.now id (there c) is), refl)

pub returns-in-Ok-clause-added : goal.returns-in-Ok-clause-added
returns-in-Ok-clause-added c = λ fresh. absurd (fresh (among c.args.self.now c.args.text.now c.index.result.now (there c)))

pub returns-in-Ok-clause-full : goal.returns-in-Ok-clause-full
returns-in-Ok-clause-full c = (λ wrong. absurd (cc), λ p. absurd (p.1 (among c.args.self.now c.args.text.now c.index.result.now (there c))))

-- a text with a gap is not there
pub returns-then-len-ge-MAX_NAMES-clause-known : goal.returns-then-len-ge-MAX_NAMES-clause-known
returns-then-len-ge-MAX_NAMES-clause-known c = λ id is.
    let sorted = rw c.self.view_is at c.self.invariant.0 in
    let gap = rw (c.deref.ensures.value, c.deref-2.ensures.value, c.self.view_is) at c.in-Err.ensures.gap in
    absurd (gap_free sorted gap id is)

pub returns-then-len-ge-MAX_NAMES-clause-full : goal.returns-then-len-ge-MAX_NAMES-clause-full
returns-then-len-ge-MAX_NAMES-clause-full c =
    let sorted = rw c.self.view_is at c.self.invariant.0 in
    let gap = rw (c.deref.ensures.value, c.deref-2.ensures.value, c.self.view_is) at c.in-Err.ensures.gap in
    let same_length = ap length c.self.view_is in
    (λ _. (omega (arith, same_length), gap_fresh sorted gap), λ _. refl)

pub returns-in_err-add-clause-known : goal.returns-in_err-add-clause-known
returns-in_err-add-clause-known c = λ id is.
    let sorted = rw c.self.view_is at c.self.invariant.0 in
    let gap = rw (c.deref.ensures.value, c.deref-2.ensures.value, c.self.view_is) at c.in-Err.ensures.gap in
    absurd (gap_free sorted gap id is)

pub returns-clause-known : goal.returns-clause-known
returns-clause-known c = λ id is.
    let sorted = rw c.self.view_is at c.self.invariant.0 in
    let gap = rw (c.deref.ensures.value, c.deref-2.ensures.value, c.self.view_is) at c.in-Err.ensures.gap in
    absurd (gap_free sorted gap id is)

-- a new text is put at its gap
pub invariant_of-self-2 : goal.invariant_of-self-2
invariant_of-self-2 c =
    let gap = rw (c.deref.ensures.value, c.deref-2.ensures.value) at c.in-Err.ensures.gap in
    let number = c.in_ok-add.ensures.number in
    rw (c.in_ok-add.ensures.order, c.in_ok-add.ensures.texts, number) (insert_keeps c.self.invariant.0 gap, omega (arith, length_push c.self.inside.texts.items c.args.text.now))
