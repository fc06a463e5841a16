-- References whose items rise: what a pass over them keeps, and the range of those of one item.
use Rattle.std.proofs.Common.{◌≡◌, ℕ, ◌+◌, ◌<◌, ◌≤◌, true, false, length, get_or, drop, take, List, [], ◌++◌, inl, inr, leb, ltb, ap, sym, subst, ◌∙◌, arith}
use Rattle.std.specs.List.Sorted.{IsNonDecreasingBy}
use Rattle.std.proofs.lemmas.Bool.{cases_lt, leb-false, ltb-true}
use Rattle.std.proofs.lemmas.List.{get_or-drop, get_or-take, get_or_default, length-drop, length-take-le, take-append-drop, append-nil}
use Rattle.pq_schema.specs.OfItem.{IsOfItem, item_of}
use Rattle.pq_schema.specs.declared.queries.resolved.ResolvedReference.{ResolvedReference}

-- the items of the first `count` of `rs` do not fall, and none is greater than `last`
pub record RisenTo (rs : List ResolvedReference) (count last : ℕ) : Type 0 where
  pub up : (i j : ℕ) (d : ResolvedReference) → i ≤ j → j < count → (get_or rs i d).item ≤ (get_or rs j d).item
  pub below : (i : ℕ) (d : ResolvedReference) → i < count → (get_or rs i d).item ≤ last

pub none_risen : (rs : List ResolvedReference) (last : ℕ) → RisenTo rs 0 last
none_risen rs last = record { up = λ i j d le below. absurd (omega arith); below = λ i d below. absurd (omega arith) }

pub risen_more : (rs : List ResolvedReference) (k last : ℕ) (r : ResolvedReference) → k < length rs → r ≡ get_or rs k r → last ≤ r.item
    → RisenTo rs k last → RisenTo rs (k + 1) r.item
risen_more rs k last r within is up so_far =
    let at_k : (j : ℕ) (d : ResolvedReference) → k ≤ j → j < k + 1 → (get_or rs j d).item ≡ r.item =
    λ j d past below. (let e : j ≡ k = omega (arith, past, below) in ap (λ n. (get_or rs n d).item) e ∙ ap item_of (get_or_default rs k d r within ∙ sym is)) in
    let least : (i : ℕ) (d : ResolvedReference) → i < k + 1 → (get_or rs i d).item ≤ r.item =
    λ i d below. elim (cases_lt i k) [
      | inl less ↦ (let b = so_far.below i d less in omega (arith, b, up))
      | inr past ↦ (let e = at_k i d past below in omega (arith, e))
    ] in
    record {
      up = λ i j d le below. elim (cases_lt j k) [
        | inl less ↦ so_far.up i j d le less
        | inr past ↦ (let e = at_k j d past below in let l = least i d (omega (arith, le, below)) in omega (arith, e, l))
      ];
      below = least;
    }

pub all_risen : (rs : List ResolvedReference) (k last : ℕ) → length rs ≤ k → RisenTo rs k last → IsNonDecreasingBy item_of rs
all_risen rs k last past so_far i j d le within = so_far.up i j d le (omega (arith, past, within))

-- what is left of a list whose items do not fall is one
pub left_rises : (rs : List ResolvedReference) (first : ℕ) → IsNonDecreasingBy item_of rs → IsNonDecreasingBy item_of (drop first rs)
left_rises rs first rise i j d le within =
    let l = length-drop first rs in
    let up = rise (first + i) (first + j) d (omega (arith, le)) (omega (arith, l, within)) in
    let a = ap item_of (get_or-drop first rs i d) in
    let b = ap item_of (get_or-drop first rs j d) in
    omega (arith, up, a, b)

-- between the first of the item and the first after it
pub found_of : (rs : List ResolvedReference) (item first count : ℕ) → first ≤ length rs → count ≤ length (drop first rs)
    → ((k : ℕ) (d : ResolvedReference) → 0 ≤ k → k < first → ltb (get_or rs k d).item item ≡ true)
    → ((k : ℕ) (d : ResolvedReference) → count ≤ k → k < length (drop first rs) → leb (get_or (drop first rs) k d).item item ≡ false)
    → IsOfItem rs item (take count (drop first rs))
found_of rs item first count within counted low high =
    let from = drop first rs in
    record {
      before = take first rs;
      after = drop count from;
      is = sym (take-append-drop first rs) ∙ ap (λ (xs : List ResolvedReference). take first rs ++ xs) (sym (take-append-drop count from));
      others_before = λ k d below e.
          (let l = length-take-le first rs within in
          let lt : k < first = omega (arith, l, below) in
          let less = ltb-true (get_or rs k d).item item (low k d (omega arith) lt) in
          let same = ap item_of (get_or-take first rs k d lt) in
          absurd (omega (arith, less, same, e)));
      others_after = λ k d below e.
          (let l = length-drop count from in
          let more = leb-false (get_or from (count + k) d).item item (high (count + k) d (omega arith) (omega (arith, l, below))) in
          let same = ap item_of (get_or-drop count from k d) in
          absurd (omega (arith, more, same, e)));
    }

-- the same, where what is left after the first is known by another name
pub found_in : (rs from : List ResolvedReference) (item first count : ℕ) → from ≡ drop first rs → first ≤ length rs → count ≤ length from
    → ((k : ℕ) (d : ResolvedReference) → 0 ≤ k → k < first → ltb (get_or rs k d).item item ≡ true)
    → ((k : ℕ) (d : ResolvedReference) → count ≤ k → k < length from → leb (get_or from k d).item item ≡ false)
    → IsOfItem rs item (take count from)
found_in rs from item first count same within counted low high =
    subst (λ (xs : List ResolvedReference). IsOfItem rs item (take count xs)) (sym same)
    (found_of rs item first count within (subst (λ (xs : List ResolvedReference). count ≤ length xs) same counted) low
    (subst (λ (xs : List ResolvedReference). (k : ℕ) (d : ResolvedReference) → count ≤ k → k < length xs → leb (get_or xs k d).item item ≡ false) same high))

-- the whole list is a part in which all references of an item are
pub whole_of : (rs : List ResolvedReference) (item : ℕ) → IsOfItem rs item rs
whole_of rs item = record {
  before = [];
  after = [];
  is = sym (append-nil rs);
  others_before = λ k d below. absurd (omega (arith, below));
  others_after = λ k d below. absurd (omega (arith, below));
}
