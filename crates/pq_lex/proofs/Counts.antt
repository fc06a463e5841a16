-- The counts of units that an index keeps of a line, and the byte that a scan from one of them
-- finds.
use Rattle.std.proofs.Common.{◌≡◌, cond, inl, inr, ℕ, zero, suc, ◌+◌, ◌-◌, ◌*◌, ◌/◌, ◌≤◌, List, [], ◌∷◌, ◌++◌, length, sum, take, drop, get_or, slice_range, refl, sym, ◌∙◌, ap, subst, arith, length-append, length-drop}
use Rattle.std.proofs.lemmas.Bool.{cases_order, ne_eqb}
use Rattle.std.proofs.lemmas.List.{take_all, take-take, drop-take, get_or-drop}
use Rattle.std.proofs.lemmas.List.Sums.{sum_by-take-drop, sum_by-take-le}
use Rattle.pq_lex.specs.aux.Kept.{interval, count_before, IsCounted}
use Rattle.pq_lex.specs.aux.LineMarks.{IsByte}
use Rattle.pq_lex.proofs.Positions.{get_left, get_right}

pub sum_split : (u : List ℕ) (a b : ℕ) → sum (take (a + b) u) ≡ sum (take a u) + sum (take b (drop a u))
sum_split u a b =
    let parts = sum_by-take-drop (λ x. x) (take (a + b) u) a in
    let front : take a (take (a + b) u) ≡ take a u = take-take a (a + b) u (omega arith) in
    let back : drop a (take (a + b) u) ≡ take b (drop a u) = drop-take a b u in
    omega (arith, parts, ap sum front, ap sum back)

count_some : (counts : List ℕ) (block : ℕ) → (block ≡ 0 → ⊥) → count_before counts block ≡ get_or counts (block - 1) 0
count_some counts block h = ap (λ b. cond b 0 (get_or counts (block - 1) 0)) (ne_eqb block 0 h)

-- a part of the units has at most the sum of all
pub part_le : (u : List ℕ) (a b : ℕ) → sum (take b (drop a u)) ≤ sum u
part_le u a b = omega (arith, sum_by-take-le (λ x. x) (drop a u) b, sum_by-take-drop (λ x. x) u a)

pub front_le : (u : List ℕ) (a : ℕ) → sum (take a u) ≤ sum u
front_le u a = sum_by-take-le (λ x. x) u a

pub range_from : (u : List ℕ) (start : ℕ) → slice_range u start (length u) ≡ drop start u
range_from u start = take_all (length u - start) (drop start u) (omega (arith, length-drop start u))

pub count_after : (counts : List ℕ) (i : ℕ) → count_before counts (i + 1) ≡ get_or counts i 0
count_after counts i = count_some counts (i + 1) (λ e. omega (arith, e)) ∙ ap (λ k. get_or counts k 0) (let e : i + 1 - 1 ≡ i = omega arith in e)

module _ (counts : List ℕ) (x : ℕ) where
  count_left : (block : ℕ) → block ≤ length counts → count_before (counts ++ x ∷ []) block ≡ count_before counts block
  count_left zero h = refl
  count_left (suc i) h =
      count_some (counts ++ x ∷ []) (suc i) (λ e. omega (arith, e))
      ∙ get_left counts (x ∷ []) (suc i - 1) (omega (arith, h))
      ∙ sym (count_some counts (suc i) (λ e. omega (arith, e)))

  count_last : count_before (counts ++ x ∷ []) (length counts + 1) ≡ x
  count_last =
      count_after (counts ++ x ∷ []) (length counts)
      ∙ get_right counts (x ∷ []) (length counts) (omega arith)
      ∙ ap (λ k. get_or (x ∷ []) k 0) (let z : length counts - length counts ≡ 0 = omega arith in z)

-- the counts of the blocks up to one, and the units before it
pub record CountedTo (units counts : List ℕ) (block count : ℕ) : Type 0 where
  pub blocks : length counts ≡ block
  pub now : count ≡ sum (take (block * interval) units)
  pub each : (j : ℕ) → j ≤ length counts → count_before counts j ≡ sum (take (j * interval) units)

pub none_counted : (units counts : List ℕ) → counts ≡ [] → CountedTo units counts 0 0
none_counted units counts e = subst (λ c. CountedTo units c 0 0) (sym e) (record {
  blocks = refl;
  now = refl;
  each = λ j h. subst (λ k. count_before [] k ≡ sum (take (k * interval) units)) (let z : 0 ≡ j = omega (arith, h) in z) refl;
})

pub next_counted : (units counts : List ℕ) (block count more : ℕ) → CountedTo units counts block count → more ≡ sum (slice_range units (block * interval) (block * interval + interval)) → CountedTo units (counts ++ (count + more) ∷ []) (block + 1) (count + more)
next_counted units counts block count more c is =
    let width : block * interval + interval - block * interval ≡ interval = omega arith in
    let split = sum_split units (block * interval) interval in
    let here : count + more ≡ sum (take (block * interval + interval) units) = omega (arith, c.now, is, ap (λ k. sum (take k (drop (block * interval) units))) width, split) in
    let next : count + more ≡ sum (take ((block + 1) * interval) units) = here ∙ ap (λ k. sum (take k units)) (let e : block * interval + interval ≡ (block + 1) * interval = omega arith in e) in
    record {
      blocks = omega (arith, c.blocks, length-append counts ((count + more) ∷ []));
      now = next;
      each = λ j h. elim (cases_order j (length counts + 1)) [
        | inl same ↦
            ap (count_before (counts ++ (count + more) ∷ [])) same ∙ count_last counts (count + more) ∙ next
            ∙ ap (λ k. sum (take (k * interval) units)) (let e : block + 1 ≡ j = omega (arith, same, c.blocks) in e)
        | inr o ↦ elim o [
          | inl less ↦ count_left counts (count + more) j (omega (arith, less)) ∙ c.each j (omega (arith, less))
          | inr above ↦ absurd (omega (arith, above, h, length-append counts ((count + more) ∷ [])))
        ]
      ];
    }

pub all_counted : (units counts : List ℕ) (block count : ℕ) → CountedTo units counts block count → block ≡ length units / interval → IsCounted units counts
all_counted units counts block count c e = record { blocks = c.blocks ∙ e; each = c.each }

module _ (units counts : List ℕ) (c : IsCounted units counts) where
  -- a block before a byte of the line
  pub block_within : (at : ℕ) → at ≤ length units → at / interval ≤ length counts
  block_within at h = omega (arith, h, c.blocks)

  pub block_starts : (block : ℕ) → block ≤ length counts → block * interval ≤ length units
  block_starts block h = omega (arith, h, c.blocks)

  -- a count, and the units from its block on
  pub units_before_is : (at : ℕ) → at ≤ length units → count_before counts (at / interval) + sum (slice_range units (at / interval * interval) at) ≡ sum (take at units)
  units_before_is at h =
      let count = c.each (at / interval) (block_within at h) in
      let whole : at / interval * interval + (at - at / interval * interval) ≡ at = omega arith in
      let split = sum_split units (at / interval * interval) (at - at / interval * interval) in
      omega (arith, count, split, ap (λ k. sum (take k units)) whole)

-- the byte at a column, found from an earlier byte on
pub byte_from : (units : List ℕ) (column start at : ℕ) → start ≤ length units → sum (take start units) ≤ column → IsByte (drop start units) (column - sum (take start units)) at → IsByte units column (start + at)
byte_from units column start at within low byte = record {
  within = omega (arith, within, byte.within, length-drop start units);
  start = λ less z. byte.start (omega (arith, less, length-drop start units)) (get_or-drop start units at 0 ∙ z);
  fits = omega (arith, sum_split units start at, byte.fits, low);
  most = λ q more inside.
      let past = byte.most (q - start) (omega (arith, more)) (omega (arith, inside, length-drop start units)) in
      let whole : start + (q - start) ≡ q = omega (arith, more) in
      omega (arith, past, low, sum_split units start (q - start), ap (λ k. sum (take k units)) whole);
}
