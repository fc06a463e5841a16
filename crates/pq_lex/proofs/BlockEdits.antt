-- What changes of the blocks of a text make.
use Rattle.std.proofs.Common.{◌≡◌, ◌⊎◌, set, inl, inr, ℕ, ◌+◌, ◌-◌, ◌<◌, ◌≤◌, ◌^◌, List, [], ◌∷◌, ◌++◌, length, take, drop, get_or, slice_range, refl, sym, ◌∙◌, ap, subst, arith, length-append, length-drop, length-take}
use Rattle.std.specs.List.{replace_range}
use Rattle.std.specs.String.Boundary.{IsSplitPoint}
use Rattle.std.specs.Str.{IsCharBoundary}
use Rattle.std.proofs.lemmas.Bool.{cases_order}
use Rattle.std.proofs.lemmas.List.{append_assoc, append-nil, drop-append-le, drop-take, get_or-append-add, get_or-drop, get_or-take, get_or_default, take-append-drop, take-append-le, take-set, take-take}
use Rattle.std.proofs.lemmas.List.Folds.{drop_split}
use Rattle.std.proofs.lemmas.Grind.{drop-set_at}
use Rattle.std.proofs.Math.Seq.{drop-append-add, take-append-add}
use Rattle.pq_lex.specs.aux.Blocks.{AreBlocks, AreFollowed, BlockView, IsCut, IsHolder, IsPut, IsReplaced, text_of}
use Rattle.pq_lex.proofs.BlockWalks.{AtBlock, after_len, back, followed_back, followed_first, followed_front, followed_join, front, front_le, text_append}
use Rattle.pq_lex.proofs.Positions.{get_left}

-- a text that is cut up to an offset
pub record IsCutTo (text : List ℕ) (at : ℕ) (bs : List BlockView) : Type 0 where
  pub within : at ≤ length text
  pub boundary : 0 < at → IsCharBoundary text at
  pub is : text_of bs ≡ take at text
  pub followed : AreFollowed bs (drop at text)
  pub more : 0 < length bs → at < length text

pub cut_none : (text : List ℕ) (bs : List BlockView) → bs ≡ [] → IsCutTo text 0 bs
cut_none text bs e = subst (IsCutTo text 0) (sym e) (record {
  within = omega arith;
  boundary = λ h. absurd (omega (arith, h));
  is = refl;
  followed = tt;
  more = λ h. absurd (omega (arith, h));
})

one_text : (b : BlockView) → text_of (b ∷ []) ≡ b.bytes
one_text b = append-nil b.bytes

pub cut_on : (text : List ℕ) (at end : ℕ) (bs : List BlockView) (b : BlockView) → IsCutTo text at bs → at ≤ end → end < length text → IsCharBoundary text end → b.bytes ≡ slice_range text at end → b.next ≡ get_or text end 0 → IsCutTo text end (bs ++ b ∷ [])
cut_on text at end bs b w le less boundary bytes next =
    let sum_is : at + (end - at) ≡ end = omega (arith, le) in
    let second : drop at (take end text) ≡ slice_range text at end = ap (λ n. drop at (take n text)) (sym sum_is) ∙ drop-take at (end - at) text in
    let whole : take at text ++ slice_range text at end ≡ take end text = sym (ap (λ t. t ++ slice_range text at end) (take-take at end text le)) ∙ ap (λ t. take at (take end text) ++ t) (sym second) ∙ take-append-drop at (take end text) in
    let rest : drop at text ≡ text_of (b ∷ []) ++ drop end text = drop_split text at end le ∙ ap (λ t. t ++ drop end text) (sym (one_text b ∙ bytes)) in
    record {
      within = omega (arith, less);
      boundary = λ _. boundary;
      is = text_append bs (b ∷ []) ∙ ap (λ t. t ++ text_of (b ∷ [])) w.is ∙ ap (λ t. take at text ++ t) (one_text b ∙ bytes) ∙ whole;
      followed = followed_join bs (b ∷ []) (drop end text) (subst (AreFollowed bs) rest w.followed) (next ∙ ap (λ n. get_or text n 0) (let e : end ≡ end + 0 = omega arith in e) ∙ sym (get_or-drop end text 0 0), tt);
      more = λ _. less;
    }

pub cut_done : (text : List ℕ) (at next : ℕ) (bs : List BlockView) (b : BlockView) → IsCutTo text at bs → b.bytes ≡ drop at text → b.next ≡ next → IsCut (bs ++ b ∷ []) text next
cut_done text at next bs b w bytes last = record {
  text = text_append bs (b ∷ []) ∙ ap (λ t. t ++ text_of (b ∷ [])) w.is ∙ ap (λ t. take at text ++ t) (one_text b ∙ bytes) ∙ take-append-drop at text;
  followed = followed_join bs (b ∷ []) (next ∷ []) (before bs w.more w.followed) (last, tt);
  some = omega (arith, length-append bs (b ∷ []));
}
  where
    before : (bs : List BlockView) → (0 < length bs → at < length text) → AreFollowed bs (drop at text) → AreFollowed bs (text_of (b ∷ []) ++ next ∷ [])
    before [] more f = tt
    before (x ∷ xs) more f =
        let less = more (omega arith) in
        let same : drop at text ++ next ∷ [] ≡ text_of (b ∷ []) ++ next ∷ [] = ap (λ t. t ++ next ∷ []) (sym (one_text b ∙ bytes)) in
        followed_first (x ∷ xs) (drop at text) (text_of (b ∷ []) ++ next ∷ []) (sym (get_left (drop at text) (next ∷ []) 0 (omega (arith, less, length-drop at text))) ∙ ap (λ t. get_or t 0 0) same) f

-- one block in place of one
pub put_one : (bs : List BlockView) (first last : ℕ) (b : BlockView) (bytes : List ℕ) (next : ℕ) → first ≡ last → last < length bs → b.bytes ≡ bytes → b.next ≡ next → IsPut bs first last bytes next (set bs first b)
put_one bs first last b bytes next same less is last_is =
    record {
      pieces = b ∷ [];
      cut = record { text = one_text b ∙ is; followed = (last_is, tt); some = omega arith };
      is =
          sym (take-append-drop first (set bs first b))
          ∙ ap (λ l. l ++ drop first (set bs first b)) (take-set bs first b)
          ∙ ap (λ l. take first bs ++ l) (drop-set_at bs first first b refl (omega (arith, same, less)))
          ∙ ap (λ n. take first bs ++ (b ∷ drop (n + 1) bs)) same;
    }

pub put_many : (bs : List BlockView) (first last : ℕ) (pieces : List BlockView) (bytes : List ℕ) (next : ℕ) → IsCut pieces bytes next → IsPut bs first last bytes next (take first bs ++ pieces ++ drop (last + 1) bs)
put_many bs first last pieces bytes next cut = record { pieces = pieces; cut = cut; is = append_assoc (take first bs) pieces (drop (last + 1) bs) }

-- the order of two holders
pub holders_order : (bs : List BlockView) (from to i si j sj : ℕ) → IsHolder bs from i si → IsHolder bs to j sj → from ≤ to → i ≤ j
holders_order bs from to i si j sj h g le = elim (cases_order i j) [
  | inl same ↦ omega (arith, same)
  | inr o ↦ elim o [
    | inl less ↦ omega (arith, less)
    | inr more ↦
        let first = h.first (omega (arith, more)) in
        let high = g.high in
        let at = h.at in
        absurd (let grown = fronts (j + 1) i (omega (arith, more)) in omega (arith, first, high, at, grown, le))
  ]
]
  where
    fronts : (m n : ℕ) → m ≤ n → length (front bs m) ≤ length (front bs n)
    fronts m n le = let e : front (take n bs) m ≡ front bs m = ap text_of (take-take m n bs le) in omega (arith, ap length e, front_le (take n bs) m)

-- a text may be cut in a block where it may be cut
module _ (bs : List BlockView) (k : ℕ) (b : BlockView) (a : AtBlock bs k b) (offset start : ℕ) (h : IsHolder bs offset k start) where
  pub in_holder : offset - start ≤ length b.bytes
  in_holder =
      let here = after_len bs k b a in
      let at = h.at in
      let high = h.high in
      omega (arith, here, at, high)

  offset_is : length (front bs k) + (offset - start) ≡ offset
  offset_is = let at = h.at in let low = h.low in omega (arith, at, low)

  pub split_in_holder : IsSplitPoint (text_of bs) offset → IsSplitPoint b.bytes (offset - start)
  split_in_holder s = (
    in_holder,
    λ some less high.
        let byte : get_or (text_of bs) offset 0 ≡ get_or b.bytes (offset - start) 0 =
        ap (λ n. get_or (text_of bs) n 0) (sym offset_is)
        ∙ ap (λ t. get_or t (length (front bs k) + (offset - start)) 0) a.text
        ∙ get_or-append-add (front bs k) (b.bytes ++ back bs (k + 1)) (offset - start) 0
        ∙ get_left b.bytes (back bs (k + 1)) (offset - start) less in
        let whole : length (text_of bs) ≡ length (front bs k) + (length b.bytes + length (back bs (k + 1))) = ap length a.text ∙ length-append (front bs k) (b.bytes ++ back bs (k + 1)) ∙ ap (λ n. length (front bs k) + n) (length-append b.bytes (back bs (k + 1))) in
        subst (λ x. 192 ≤ x) byte (s.1 (omega (arith, some)) (omega (arith, offset_is, whole, less)) (subst (λ x. 128 ≤ x) (sym byte) high)),
  )

  -- the text up to the offset, and from it on
  pub text_before : take offset (text_of bs) ≡ front bs k ++ take (offset - start) b.bytes
  text_before =
      ap (λ n. take n (text_of bs)) (sym offset_is)
      ∙ ap (take (length (front bs k) + (offset - start))) a.text
      ∙ take-append-add (front bs k) (b.bytes ++ back bs (k + 1)) (offset - start)
      ∙ ap (λ t. front bs k ++ t) (take-append-le (offset - start) b.bytes (back bs (k + 1)) in_holder)

  pub text_after : drop offset (text_of bs) ≡ drop (offset - start) b.bytes ++ back bs (k + 1)
  text_after =
      ap (λ n. drop n (text_of bs)) (sym offset_is)
      ∙ ap (drop (length (front bs k) + (offset - start))) a.text
      ∙ drop-append-add (front bs k) (b.bytes ++ back bs (k + 1)) (offset - start)
      ∙ drop-append-le (offset - start) b.bytes (back bs (k + 1)) in_holder

five : (f t n d b : List ℕ) → f ++ (t ++ n ++ d ++ b) ≡ f ++ t ++ n ++ (d ++ b)
five f t n d b =
    ap (λ x. f ++ x) (append_assoc (t ++ n) d b)
    ∙ sym (append_assoc f (t ++ n) (d ++ b))
    ∙ ap (λ x. x ++ (d ++ b)) (sym (append_assoc f t n))

module _ (bs : List BlockView) (from to i si j sj : ℕ) (first last : BlockView) (are : AreFollowed bs []) (a : AtBlock bs i first) (z : AtBlock bs j last) (h : IsHolder bs from i si) (g : IsHolder bs to j sj) (new : List ℕ) where
  -- the bytes of the blocks that come in
  abbrev pub middle : List ℕ
  middle = take (from - si) first.bytes ++ new ++ drop (to - sj) last.bytes

  replaced_text : (pieces : List BlockView) → text_of pieces ≡ middle → text_of (take i bs ++ (pieces ++ drop (j + 1) bs)) ≡ replace_range (text_of bs) from to new
  replaced_text pieces is =
      text_append (take i bs) (pieces ++ drop (j + 1) bs)
      ∙ ap (λ t. front bs i ++ t) (text_append pieces (drop (j + 1) bs) ∙ ap (λ t. t ++ back bs (j + 1)) is)
      ∙ five (front bs i) (take (from - si) first.bytes) new (drop (to - sj) last.bytes) (back bs (j + 1))
      ∙ ap (λ t. t ++ new ++ (drop (to - sj) last.bytes ++ back bs (j + 1))) (sym (text_before bs i first a from si h))
      ∙ ap (λ t. take from (text_of bs) ++ new ++ t) (sym (text_after bs j last z to sj g))

  -- the first byte is the same, where a block is before it
  first_byte : (pieces : List BlockView) → text_of pieces ≡ middle → 0 < i → get_or (text_of (drop i bs) ++ []) 0 0 ≡ get_or (text_of (pieces ++ drop (j + 1) bs) ++ []) 0 0
  first_byte pieces is some =
      let low = h.first some in
      let within = in_holder bs i first a from si h in
      let old : text_of (drop i bs) ≡ first.bytes ++ back bs (i + 1) = a.here in
      let one : get_or (first.bytes ++ back bs (i + 1)) 0 0 ≡ get_or first.bytes 0 0 = get_left first.bytes (back bs (i + 1)) 0 (omega (arith, low, within)) in
      let len : length (take (from - si) first.bytes) ≡ from - si = omega (arith, length-take (from - si) first.bytes, within) in
      let two : get_or (take (from - si) first.bytes) 0 0 ≡ get_or first.bytes 0 0 = get_or-take (from - si) first.bytes 0 0 (omega (arith, low)) in
      let new_is : text_of (pieces ++ drop (j + 1) bs) ≡ take (from - si) first.bytes ++ (new ++ (drop (to - sj) last.bytes ++ back bs (j + 1))) =
      text_append pieces (drop (j + 1) bs) ∙ ap (λ t. t ++ back bs (j + 1)) is ∙ append_assoc (take (from - si) first.bytes ++ new) (drop (to - sj) last.bytes) (back bs (j + 1)) ∙ append_assoc (take (from - si) first.bytes) new (drop (to - sj) last.bytes ++ back bs (j + 1)) in
      ap (λ t. get_or t 0 0) (append-nil (text_of (drop i bs)) ∙ old) ∙ one ∙ sym two
      ∙ sym (get_left (take (from - si) first.bytes) (new ++ (drop (to - sj) last.bytes ++ back bs (j + 1))) 0 (omega (arith, len, low)))
      ∙ ap (λ t. get_or t 0 0) (sym (append-nil (text_of (pieces ++ drop (j + 1) bs)) ∙ new_is))

  replaced_followed : (pieces : List BlockView) → IsCut pieces middle last.next → AreFollowed (take i bs ++ (pieces ++ drop (j + 1) bs)) []
  replaced_followed pieces cut =
      let right : AreFollowed (drop (j + 1) bs) [] = followed_back (take (j + 1) bs) (drop (j + 1) bs) [] (subst (λ l. AreFollowed l []) (sym (take-append-drop (j + 1) bs)) are) in
      let mid : AreFollowed (pieces ++ drop (j + 1) bs) [] = followed_join pieces (drop (j + 1) bs) [] (followed_first pieces (last.next ∷ []) (back bs (j + 1) ++ []) (z.next ∙ ap (λ t. get_or t 0 0) (sym (append-nil (back bs (j + 1))))) cut.followed) right in
      followed_join (take i bs) (pieces ++ drop (j + 1) bs) [] (left (cases_order 0 i)) mid
    where
      old : AreFollowed (take i bs) (text_of (drop i bs) ++ [])
      old = followed_front (take i bs) (drop i bs) [] (subst (λ l. AreFollowed l []) (sym (take-append-drop i bs)) are)

      left : (0 ≡ i) ⊎ ((0 < i) ⊎ (i < 0)) → AreFollowed (take i bs) (text_of (pieces ++ drop (j + 1) bs) ++ [])
      left (inl same) = subst (λ n. AreFollowed (take n bs) (text_of (pieces ++ drop (j + 1) bs) ++ [])) same tt
      left (inr (inl some)) = followed_first (take i bs) (text_of (drop i bs) ++ []) (text_of (pieces ++ drop (j + 1) bs) ++ []) (first_byte pieces cut.text some) old
      left (inr (inr none)) = absurd (omega (arith, none))

  pub replaced : (bytes : List ℕ) (made : List BlockView) → bytes ≡ middle → IsPut bs i j bytes last.next made → IsReplaced bs from to new made
  replaced bytes made is p =
      let cut : IsCut p.pieces middle last.next = subst (λ t. IsCut p.pieces t last.next) is p.cut in
      let some = cut.some in
      record {
        text = ap text_of p.is ∙ replaced_text p.pieces cut.text;
        followed = subst (λ l. AreFollowed l []) (sym p.is) (replaced_followed p.pieces cut);
        some = omega (arith, ap length p.is, length-append (take i bs) (p.pieces ++ drop (j + 1) bs), length-append p.pieces (drop (j + 1) bs), some);
      }

-- two blocks that are one
pub same_block : (bs : List BlockView) (i j : ℕ) (first last : BlockView) → i < length bs → first ≡ get_or bs i first → last ≡ get_or bs j last → i ≡ j → first ≡ last
same_block bs i j first last less is was same = is ∙ get_or_default bs i first last less ∙ ap (λ n. get_or bs n last) same ∙ sym was

pub same_order : (bs : List BlockView) (from to i si j sj : ℕ) → IsHolder bs from i si → IsHolder bs to j sj → from ≤ to → i ≡ j → from - si ≤ to - sj
same_order bs from to i si j sj h g le same =
    let at = h.at in
    let there = g.at in
    let one : length (front bs i) ≡ length (front bs j) = ap (λ n. length (front bs n)) same in
    omega (arith, at, there, one, le)

-- the blocks of a whole text
pub cut_blocks : (bs : List BlockView) (bytes : List ℕ) → IsCut bs bytes 0 → length bytes ≤ 2 ^ 62 → AreBlocks bs
cut_blocks bs bytes cut small = record {
  followed = followed_first bs (0 ∷ []) [] refl cut.followed;
  some = cut.some;
  small = omega (arith, small, ap length cut.text);
}

pub replaced_length : (xs new : List ℕ) (from to : ℕ) → from ≤ to → to ≤ length xs → length (replace_range xs from to new) ≡ length xs - (to - from) + length new
replaced_length xs new from to le within =
    omega (arith, length-append (take from xs ++ new) (drop to xs), length-append (take from xs) new, length-take from xs, length-drop to xs, le, within)

pub replaced_blocks : (bs : List BlockView) (from to : ℕ) (new : List ℕ) (made : List BlockView) → IsReplaced bs from to new made → from ≤ to → to ≤ length (text_of bs) → length (text_of bs) - (to - from) + length new ≤ 2 ^ 62 → AreBlocks made × (length (text_of bs) - (to - from) + length new ≡ length (text_of made))
replaced_blocks bs from to new made r le within small =
    let len = replaced_length (text_of bs) new from to le within in (
      record { followed = r.followed; some = r.some; small = omega (arith, small, len, ap length r.text) },
      omega (arith, len, ap length r.text),
    )
