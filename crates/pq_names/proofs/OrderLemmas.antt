-- The order of texts: a text is at one place, a gap has no text, and a number inserted at its gap
-- keeps the order.
use Rattle.std.proofs.Common.{◌≡◌, ℕ, ◌+◌, ◌-◌, ◌<◌, ◌≤◌, List, [], ◌∷◌, ◌++◌, length, slice_get, Some, get_or, refl, sym, ap, ◌∙◌, subst, inl, inr, arith}
use Rattle.std.specs.Prelude.{Contains}
use Rattle.std.specs.List.{insert}
use Rattle.std.specs.declared.cmp.Ordering.TheVariants.{Less, Equal, Greater}
use Rattle.std.specs.Cmp.Lexicographic.{slice_cmp, nat_list_cmp_total, texts_po, bytes_decides}
use Rattle.std.specs.Ordering.{nat_cmp, ordering_reverse}
use Rattle.std.proofs.Math.ListN.{get_or-append}
use Rattle.std.proofs.Math.Seq.{get_or-append_seam}
use Rattle.std.proofs.lemmas.Bool.{cases_lt, cases_order}
use Rattle.std.proofs.lemmas.Cmp.{tied_itself}
use Rattle.std.proofs.lemmas.List.{length_push}
use Rattle.std.proofs.lemmas.List.Edits.{length-insert, get_or-insert_below, get_or-insert_at, get_or-insert_above}
use Rattle.std.proofs.lemmas.Option.{slice_get_read, slice_get_within, get_or_from_slice_get, same_Some}
use Rattle.pq_names.specs.aux.Order.{against, IsOrderOf, IsGap}
use Rattle.pq_names.proofs.Places.{place_of}

-- a text is neither less nor greater than itself
not_less : (text : List ℕ) → slice_cmp nat_cmp text text ≡ Less → ⊥
not_less text less = absurd (cc (less, tied_itself nat_list_cmp_total text))

not_greater : (text : List ℕ) → slice_cmp nat_cmp text text ≡ Greater → ⊥
not_greater text greater = absurd (cc (greater, tied_itself nat_list_cmp_total text))

-- texts that tie are the same
pub tied_same : (a b : List ℕ) → slice_cmp nat_cmp a b ≡ Equal → a ≡ b
tied_same a b tie = (bytes_decides a b).0 ((texts_po.matches_eq a b).1 (ap Some tie))

-- the comparison the other way round
turned : (a b : List ℕ) → slice_cmp nat_cmp a b ≡ Greater → slice_cmp nat_cmp b a ≡ Less
turned a b greater = nat_list_cmp_total.antisymm b a ∙ ap ordering_reverse greater

-- what is greater than `b` is greater than what is less than `b`
greater_still : (a b text : List ℕ) → slice_cmp nat_cmp b a ≡ Less → slice_cmp nat_cmp b text ≡ Greater → slice_cmp nat_cmp a text ≡ Greater
greater_still a b text less greater =
    nat_list_cmp_total.antisymm a text ∙ ap ordering_reverse (nat_list_cmp_total.trans text b a (turned b text greater) less)

-- `Rises f n` says that the texts of `f` rise along the places below `n`
abbrev Rises : (ℕ → List ℕ) → ℕ → Type 0
Rises f n = (k l : ℕ) → k < l → l < n → slice_cmp nat_cmp (f k) (f l) ≡ Less

-- texts rise where one more is put between the less and the greater ones
rises_with : (f g : ℕ → List ℕ) (n place : ℕ) (text : List ℕ) → Rises f n → ((k : ℕ) → k < place → slice_cmp nat_cmp (f k) text ≡ Less) → ((k : ℕ) → place ≤ k → k < n → slice_cmp nat_cmp (f k) text ≡ Greater) → place ≤ n → ((k : ℕ) → k < place → g k ≡ f k) → g place ≡ text → ((k : ℕ) → place ≤ k → k < n → g (k + 1) ≡ f k) → Rises g (n + 1)
rises_with f g n place text rises before after inside same_below is_text moved k l lt within = elim (cases_order k place) [
  | inl at ↦
      let above = above_is l (omega arith) within in
      rw (ap g at, is_text, above) (turned (f (l - 1)) text (after (l - 1) (omega arith) (omega arith)))
  | inr (inl below) ↦ elim (cases_order l place) [
    | inl at ↦ rw (same_below k below, ap g at, is_text) (before k below)
    | inr (inl l_below) ↦ rw (same_below k below, same_below l l_below) (rises k l lt (omega arith))
    | inr (inr l_above) ↦ rw (same_below k below, above_is l l_above within) (rises k (l - 1) (omega arith) (omega arith))
  ]
  | inr (inr above) ↦ rw (above_is k above (omega arith), above_is l (omega arith) within) (rises (k - 1) (l - 1) (omega arith) (omega arith))
]
  where
    above_is : (m : ℕ) → place < m → m < n + 1 → g m ≡ f (m - 1)
    above_is m above m_within =
        let one_more : m ≡ (m - 1) + 1 = omega arith in
        ap g one_more ∙ moved (m - 1) (omega arith) (omega arith)

module _ {order : List ℕ} {texts : List (List ℕ)} (sorted : IsOrderOf order texts) where
  -- the texts up to one that is less are less
  pub less_up_to : (text : List ℕ) (m : ℕ) → m < length order → against order texts m text ≡ Less → (k : ℕ) → k < m + 1 → against order texts k text ≡ Less
  less_up_to text m within less k up_to = elim (cases_lt k m) [
    | inl below ↦ nat_list_cmp_total.trans _ (get_or texts (get_or order m 0) []) text (sorted.rises k m below within) less
    | inr above ↦ let at : m ≡ k = omega arith in subst (λ (j : ℕ). against order texts j text ≡ Less) at less
  ]

  -- the texts from one on that is greater are greater
  pub greater_from : (text : List ℕ) (m : ℕ) → against order texts m text ≡ Greater → (k : ℕ) → m ≤ k → k < length order → against order texts k text ≡ Greater
  greater_from text m greater k from within = elim (cases_lt m k) [
    | inl above ↦ greater_still _ (get_or texts (get_or order m 0) []) text (sorted.rises m k above within) greater
    | inr below ↦ let at : m ≡ k = omega arith in subst (λ (j : ℕ). against order texts j text ≡ Greater) at greater
  ]

  -- the text of a number that the order lists
  listed_text : (text : List ℕ) (id : ℕ) → slice_get texts id ≡ Some text → (k : ℕ) × (k < length order) × (get_or order k 0 ≡ id) × (get_or texts (get_or order k 0) [] ≡ text)
  listed_text text id is =
      let there = sorted.listed id (slice_get_within texts id text is) in
      (there.0, there.1, there.2, ap (λ (j : ℕ). get_or texts j []) there.2 ∙ get_or_from_slice_get texts id text [] is)

  -- a text is at one place
  pub one_place : (text : List ℕ) (a b : ℕ) → slice_get texts a ≡ Some text → slice_get texts b ≡ Some text → a ≡ b
  one_place text a b at_a at_b =
      let k = listed_text text a at_a in
      let l = listed_text text b at_b in
      elim (cases_order k.0 l.0) [
        | inl same ↦ sym k.2 ∙ ap (λ (j : ℕ). get_or order j 0) same ∙ l.2
        | inr (inl less) ↦ absurd (not_less text (rw (k.3, l.3) at (sorted.rises k.0 l.0 less l.1)))
        | inr (inr less) ↦ absurd (not_less text (rw (k.3, l.3) at (sorted.rises l.0 k.0 less k.1)))
      ]

  -- the number at the place of a text, and no other one, is the number of the text
  pub number_at : (text : List ℕ) (place number : ℕ) → (place < length order) × (slice_get texts (get_or order place 0) ≡ Some text) → number ≡ get_or order place number → slice_get texts number ≡ Some text
  number_at text place number there is =
      let same : get_or order place 0 ≡ number = get_or_from_slice_get order place number 0 (slice_get_read order (length order) place number refl there.0 is) in
      subst (λ (id : ℕ). slice_get texts id ≡ Some text) same there.1

  pub only_number : (text : List ℕ) (number : ℕ) → slice_get texts number ≡ Some text → (id : ℕ) → (Some number ≡ Some id → slice_get texts id ≡ Some text) × (slice_get texts id ≡ Some text → Some number ≡ Some id)
  only_number text number there id = (
    (λ same. subst (λ (i : ℕ). slice_get texts i ≡ Some text) (same_Some number id same) there),
    (λ is. ap (λ (i : ℕ). Some i) (one_place text number id there is)),
  )

  module _ {text : List ℕ} {place : ℕ} (gap : IsGap order texts text place) where
    -- a text with a gap is at no place
    pub gap_free : (id : ℕ) → slice_get texts id ≡ Some text → ⊥
    gap_free id is =
        let k = listed_text text id is in
        elim (cases_lt k.0 place) [
          | inl before ↦ not_less text (rw k.3 at (gap.before k.0 before))
          | inr after ↦ not_greater text (rw k.3 at (gap.after k.0 after k.1))
        ]

    -- so it is not among the texts
    pub gap_fresh : Contains texts text → ⊥
    gap_fresh held = let there = place_of texts text held in gap_free there.0 there.1

    -- a number that the order has, and the one that is inserted, in the longer order
    kept_below : (k : ℕ) → k < place → get_or (insert order place (length texts)) k 0 ≡ get_or order k 0
    kept_below k below = get_or-insert_below order place (length texts) 0 k below gap.inside

    put_at : get_or (insert order place (length texts)) place 0 ≡ length texts
    put_at = get_or-insert_at order place (length texts) 0 gap.inside

    kept_above : (k : ℕ) → place ≤ k → get_or (insert order place (length texts)) (k + 1) 0 ≡ get_or order k 0
    kept_above k above = get_or-insert_above order place (length texts) 0 k above gap.inside

    -- the text of a number, also after the push
    text_kept : (k : ℕ) → k < length order → get_or (texts ++ text ∷ []) (get_or order k 0) [] ≡ get_or texts (get_or order k 0) []
    text_kept k within = get_or-append texts (text ∷ []) [] (get_or order k 0) (sorted.within k within)

    more : length (insert order place (length texts)) ≡ length order + 1
    more = length-insert order place (length texts) gap.inside

    rises_after : Rises (λ k. get_or (texts ++ text ∷ []) (get_or (insert order place (length texts)) k 0) []) (length order + 1)
    rises_after = rises_with
        (λ k. get_or texts (get_or order k 0) []) _ (length order) place text sorted.rises gap.before gap.after gap.inside
        (λ k below. ap (λ (j : ℕ). get_or (texts ++ text ∷ []) j []) (kept_below k below) ∙ text_kept k (let inside = gap.inside in omega arith))
        (ap (λ (j : ℕ). get_or (texts ++ text ∷ []) j []) put_at ∙ get_or-append_seam texts text [] [])
        (λ k above within. ap (λ (j : ℕ). get_or (texts ++ text ∷ []) j []) (kept_above k above) ∙ text_kept k within)

    within_after : (k : ℕ) → k < length order + 1 → get_or (insert order place (length texts)) k 0 < length texts + 1
    within_after k within = elim (cases_order k place) [
      | inl at ↦ rw (at, put_at) (omega arith)
      | inr (inl below) ↦ let old = sorted.within k (let inside = gap.inside in omega arith) in rw (kept_below k below) (omega arith)
      | inr (inr above) ↦
          let one_more : k ≡ (k - 1) + 1 = omega arith in
          let old = sorted.within (k - 1) (omega arith) in
          rw (ap (λ (j : ℕ). get_or (insert order place (length texts)) j 0) one_more ∙ kept_above (k - 1) (omega arith)) (omega arith)
    ]

    listed_after : (id : ℕ) → id < length texts + 1 → (k : ℕ) × (k < length order + 1) × (get_or (insert order place (length texts)) k 0 ≡ id)
    listed_after id within = elim (cases_lt id (length texts)) [
      | inr last ↦ (place, let inside = gap.inside in omega arith, put_at ∙ omega arith)
      | inl old ↦ let k = sorted.listed id old in elim (cases_lt k.0 place) [
        | inl below ↦ (k.0, let less = k.1 in omega arith, kept_below k.0 below ∙ k.2)
        | inr above ↦ (k.0 + 1, let less = k.1 in omega arith, kept_above k.0 above ∙ k.2)
      ]
    ]

    -- the number of the text, inserted at the gap, keeps the order
    pub insert_keeps : IsOrderOf (insert order place (length texts)) (texts ++ text ∷ [])
    insert_keeps = record {
      within = λ k within. rw (length_push texts text) (within_after k (rw more at within));
      rises = λ k l lt within. rises_after k l lt (rw more at within);
      listed = λ id within.
          let k = listed_after id (rw (length_push texts text) at within) in
          (k.0, rw more k.1, k.2);
    }
