-- Walks over the blocks of a text.
use Rattle.std.proofs.Common.{◌≡◌, inl, inr, ℕ, ◌+◌, ◌-◌, ◌<◌, ◌≤◌, List, [], ◌∷◌, ◌++◌, length, map, take, drop, get_or, Option, Some, None, MatchOption, refl, sym, ◌∙◌, ap, subst, arith, length-append}
use Rattle.std.proofs.lemmas.Bool.{cases_order}
use Rattle.std.proofs.lemmas.List.{append_assoc, append-nil, drop-append-le, drop_all, drop_more, take-append-drop, take_all, take_more}
use Rattle.std.proofs.lemmas.Grind.{flat_map-append}
use Rattle.std.proofs.Math.Seq.{drop-append-add, drop-append_seam}
use Rattle.pq_lex.specs.declared.blocks.Place.{Place}
use Rattle.pq_lex.specs.declared.position.Position.{Position}
use Rattle.pq_lex.specs.Lines.{IsOffset, line_len, line_number, units, units_of}
use Rattle.pq_lex.specs.aux.Blocks.{AreFollowed, ArePlaces, BlockOfLine, BlockView, IsHolder, IsPlaced, line_units, lines_in, text_of}
use Rattle.pq_lex.specs.aux.LineMarks.{IsByte}
use Rattle.pq_lex.specs.aux.LineSearch.{Bounds, IsLine}
use Rattle.pq_lex.proofs.BlockLemmas.{column_after, column_here, column_in, line_in_text, lines_le, no_number, number_within, row, row_is, some_line}
use Rattle.pq_lex.proofs.Indexed.{offset_is}
use Rattle.pq_lex.proofs.LineSearch.{bad_order}

-- the bytes of the blocks before one, and from one on
abbrev pub front : List BlockView → ℕ → List ℕ
front bs k = text_of (take k bs)

abbrev pub back : List BlockView → ℕ → List ℕ
back bs k = text_of (drop k bs)

pub text_append : (xs ys : List BlockView) → text_of (xs ++ ys) ≡ text_of xs ++ text_of ys
text_append xs ys = flat_map-append (λ b. b.bytes) xs ys

pub text_parts : (bs : List BlockView) (k : ℕ) → text_of bs ≡ front bs k ++ back bs k
text_parts bs k = ap text_of (sym (take-append-drop k bs)) ∙ text_append (take k bs) (drop k bs)

pub front_le : (bs : List BlockView) (k : ℕ) → length (front bs k) ≤ length (text_of bs)
front_le bs k = omega (arith, ap length (text_parts bs k), length-append (front bs k) (back bs k))

pub front_all : (bs : List BlockView) (k : ℕ) → length bs ≤ k → front bs k ≡ text_of bs
front_all bs k h = ap text_of (take_all k bs h)

-- what follows the blocks
pub followed_back : (xs ys : List BlockView) (rest : List ℕ) → AreFollowed (xs ++ ys) rest → AreFollowed ys rest
followed_back [] ys rest f = f
followed_back (x ∷ xs) ys rest f = followed_back xs ys rest f.1

first_assoc : (a b c : List ℕ) → get_or (a ++ b ++ c) 0 0 ≡ get_or (a ++ (b ++ c)) 0 0
first_assoc a b c = ap (λ t. get_or t 0 0) (append_assoc a b c)

pub followed_front : (xs ys : List BlockView) (rest : List ℕ) → AreFollowed (xs ++ ys) rest → AreFollowed xs (text_of ys ++ rest)
followed_front [] ys rest f = tt
followed_front (x ∷ xs) ys rest f = (f.0 ∙ ap (λ t. get_or (t ++ rest) 0 0) (text_append xs ys) ∙ first_assoc (text_of xs) (text_of ys) rest, followed_front xs ys rest f.1)

pub followed_join : (xs ys : List BlockView) (rest : List ℕ) → AreFollowed xs (text_of ys ++ rest) → AreFollowed ys rest → AreFollowed (xs ++ ys) rest
followed_join [] ys rest f g = g
followed_join (x ∷ xs) ys rest f g = (f.0 ∙ sym (first_assoc (text_of xs) (text_of ys) rest) ∙ sym (ap (λ t. get_or (t ++ rest) 0 0) (text_append xs ys)), followed_join xs ys rest f.1 g)

first_agrees : (front rest other : List ℕ) → get_or rest 0 0 ≡ get_or other 0 0 → get_or (front ++ rest) 0 0 ≡ get_or (front ++ other) 0 0
first_agrees [] rest other e = e
first_agrees (x ∷ xs) rest other e = refl

pub followed_first : (xs : List BlockView) (rest other : List ℕ) → get_or rest 0 0 ≡ get_or other 0 0 → AreFollowed xs rest → AreFollowed xs other
followed_first [] rest other e f = tt
followed_first (x ∷ xs) rest other e f = (f.0 ∙ first_agrees (text_of xs) rest other e, followed_first xs rest other e f.1)

-- one block among the others
pub record AtBlock (bs : List BlockView) (k : ℕ) (b : BlockView) : Type 0 where
  pub less : k < length bs
  pub text : text_of bs ≡ front bs k ++ (b.bytes ++ back bs (k + 1))
  pub after : front bs (k + 1) ≡ front bs k ++ b.bytes
  pub next : b.next ≡ get_or (back bs (k + 1)) 0 0
  pub here : back bs k ≡ b.bytes ++ back bs (k + 1)

pub at_block : (bs : List BlockView) (k : ℕ) (b : BlockView) → AreFollowed bs [] → k < length bs → b ≡ get_or bs k b → AtBlock bs k b
at_block bs k b f less is =
    let rest : drop k bs ≡ b ∷ drop (k + 1) bs = drop_more bs k b less ∙ ap (λ x. x ∷ drop (k + 1) bs) (sym is) in
    let parts : AreFollowed (take k bs ++ drop k bs) [] = subst (λ l. AreFollowed l []) (sym (take-append-drop k bs)) f in
    let last : AreFollowed (b ∷ drop (k + 1) bs) [] = subst (λ l. AreFollowed l []) rest (followed_back (take k bs) (drop k bs) [] parts) in
    record {
      less = less;
      text = text_parts bs k ∙ ap (λ l. front bs k ++ text_of l) rest;
      after = ap text_of (take_more bs k b less ∙ ap (λ x. take k bs ++ x ∷ []) (sym is)) ∙ text_append (take k bs) (b ∷ []) ∙ ap (λ t. front bs k ++ t) (append-nil b.bytes);
      here = ap text_of rest;
      next = last.0 ∙ ap (λ t. get_or t 0 0) (append-nil (back bs (k + 1)));
    }

module _ (bs : List BlockView) (k : ℕ) (b : BlockView) (a : AtBlock bs k b) where
  pub after_len : length (front bs (k + 1)) ≡ length (front bs k) + length b.bytes
  after_len = ap length a.after ∙ length-append (front bs k) b.bytes

  -- the bytes from an offset in the block on
  pub rest_at : (i : ℕ) → i ≤ length b.bytes → drop (length (front bs k) + i) (text_of bs) ≡ drop i b.bytes ++ back bs (k + 1)
  rest_at i h = ap (drop (length (front bs k) + i)) a.text ∙ drop-append-add (front bs k) (b.bytes ++ back bs (k + 1)) i ∙ drop-append-le i b.bytes (back bs (k + 1)) h

  pub rest_after : drop (length (front bs (k + 1))) (text_of bs) ≡ back bs (k + 1)
  rest_after = ap (drop (length (front bs (k + 1)))) (text_parts bs (k + 1)) ∙ drop-append_seam (front bs (k + 1)) (back bs (k + 1))

  pub lines_over : line_number (text_of bs) (length (front bs (k + 1))) ≡ line_number (text_of bs) (length (front bs k)) + lines_in b.bytes b.next
  lines_over =
      ap (line_number (text_of bs)) after_len
      ∙ subst (λ t. line_number t (length (front bs k) + length b.bytes) ≡ line_number t (length (front bs k)) + lines_in b.bytes b.next) (sym a.text)
      (number_within (front bs k) b.bytes (back bs (k + 1)) b.next (length b.bytes) a.next (omega arith))

-- the walk to a line
pub record IsLineWalk (bs : List BlockView) (line k start left : ℕ) : Type 0 where
  pub within : k ≤ length bs
  pub at : start ≡ length (front bs k)
  pub number : line_number (text_of bs) start + left ≡ line
  pub some : 0 < k → 0 < left

pub line_walk : (bs : List BlockView) (line : ℕ) → IsLineWalk bs line 0 0 line
line_walk bs line = record { within = omega arith; at = refl; number = let z = no_number (text_of bs) in omega (arith, z); some = λ h. absurd (omega (arith, h)) }

pub line_walk_on : (bs : List BlockView) (line k start left : ℕ) (b : BlockView) → AtBlock bs k b → IsLineWalk bs line k start left → lines_in b.bytes b.next < left → IsLineWalk bs line (k + 1) (start + length b.bytes) (left - lines_in b.bytes b.next)
line_walk_on bs line k start left b a w more =
    let here = after_len bs k b a in
    let lines = lines_over bs k b a in
    let at = w.at in
    let number = w.number in
    let less = a.less in
    let there : start + length b.bytes ≡ length (front bs (k + 1)) = omega (arith, here, at) in
    record {
      within = omega (arith, less);
      at = there;
      number = omega (arith, number, lines, more, ap (line_number (text_of bs)) there, ap (line_number (text_of bs)) at);
      some = λ _. omega (arith, more);
    }

pub line_walk_found : (bs : List BlockView) (line k start left : ℕ) (b : BlockView) → AtBlock bs k b → IsLineWalk bs line k start left → left ≤ lines_in b.bytes b.next → BlockOfLine bs line k start left
line_walk_found bs line k start left b a w le =
    let lines = lines_over bs k b a in
    let at = w.at in
    let number = w.number in
    record {
      within = a.less;
      at = w.at;
      number = w.number;
      high = omega (arith, number, lines, le, ap (line_number (text_of bs)) at);
      first = λ z. elim (cases_order 0 k) [
        | inl same ↦ at ∙ ap (λ n. length (front bs n)) (sym same)
        | inr o ↦ elim o [
          | inl less ↦ absurd (let s = w.some less in omega (arith, s, z))
          | inr above ↦ absurd (omega (arith, above))
        ]
      ];
    }

pub line_walk_end : (bs : List BlockView) (line k start left : ℕ) → 0 < length bs → length bs ≤ k → IsLineWalk bs line k start left → line_number (text_of bs) (length (text_of bs)) < line
line_walk_end bs line k start left some over w =
    let at = w.at in
    let number = w.number in
    let more = w.some (omega (arith, some, over)) in
    let end : start ≡ length (text_of bs) = at ∙ ap length (front_all bs k over) in
    omega (arith, number, more, ap (line_number (text_of bs)) end)

-- the start of a line
module _ (bs : List BlockView) (line k start left : ℕ) (b : BlockView) (a : AtBlock bs k b) (f : BlockOfLine bs line k start left) where
  in_block : left ≤ lines_in b.bytes b.next
  in_block =
      let over = lines_over bs k b a in
      let at = f.at in
      let number = f.number in
      let high = f.high in
      omega (arith, over, number, high, ap (line_number (text_of bs)) at)

  pub start_none : ((o : ℕ) → o ≤ length b.bytes → line_number b.bytes o ≡ line_number b.bytes 0 + left → ⊥) → ⊥
  start_none none =
      let le = lines_le b.bytes b.next in
      let zero = no_number b.bytes in
      some_line b.bytes (length b.bytes) left (omega (arith, le, in_block)) (λ o h e. none o h (omega (arith, e, zero)))

  pub start_found : (i : ℕ) → IsLine b.bytes (line_number b.bytes 0 + left) i → IsPlaced bs k start (start + i) × IsLine (text_of bs) line (start + i)
  start_found i l =
      let here = after_len bs k b a in
      let zero = no_number b.bytes in
      let at = f.at in
      let within = l.within in
      let is : length (front bs k) + i ≡ start + i = omega (arith, at) in
      let local : IsLine b.bytes left i = record { within = l.within; starts = l.starts; number = let n = l.number in omega (arith, n, zero) } in
      let number = f.number in
      let there : line_number (front bs k ++ (b.bytes ++ back bs (k + 1))) (length (front bs k)) + left ≡ line = subst (λ t. line_number t (length (front bs k)) + left ≡ line) a.text (omega (arith, number, ap (line_number (text_of bs)) at)) in (
        record { within = a.less; at = f.at; low = omega arith; high = omega (arith, here, at, within) },
        subst (IsLine (text_of bs) line) is (subst (λ t. IsLine t line (length (front bs k) + i)) (sym a.text)
            (line_in_text (front bs k) b.bytes (back bs (k + 1)) b.next left line i a.next there in_block (λ z. let e = f.first z in omega (arith, at, e)) local)),
      )

-- the walk to a column
line_units_is : (text : List ℕ) (s : ℕ) → line_units text s ≡ map units_of (row (drop s text))
line_units_is text s = ap (map units_of) (row_is text s)

pub record IsColumnWalk (bs : List BlockView) (from column k start left : ℕ) : Type 0 where
  pub within : k ≤ length bs
  pub at : start ≡ length (front bs k)
  pub after : from ≤ start
  pub on : (r : ℕ) → IsByte (line_units (text_of bs) start) left r → IsByte (line_units (text_of bs) from) column (start - from + r)

pub column_walk : (bs : List BlockView) (from column k : ℕ) → k ≤ length bs → from ≡ length (front bs k) → IsColumnWalk bs from column k from column
column_walk bs from column k within at = record {
  within = within;
  at = at;
  after = omega arith;
  on = λ r b. subst (IsByte (line_units (text_of bs) from) column) (let e : r ≡ from - from + r = omega arith in e) b;
}

module _ (bs : List BlockView) (k : ℕ) (b : BlockView) (a : AtBlock bs k b) where
  -- the line that goes on at an offset of the block
  row_at : (i : ℕ) → i ≤ length b.bytes → line_units (text_of bs) (length (front bs k) + i) ≡ map units_of (row (drop i b.bytes ++ back bs (k + 1)))
  row_at i h = line_units_is (text_of bs) (length (front bs k) + i) ∙ ap (λ t. map units_of (row t)) (rest_at bs k b a i h)

  row_next : line_units (text_of bs) (length (front bs (k + 1))) ≡ map units_of (row (back bs (k + 1)))
  row_next = line_units_is (text_of bs) (length (front bs (k + 1))) ∙ ap (λ t. map units_of (row t)) (rest_after bs k b a)

  module _ (start offset : ℕ) (at : start ≡ length (front bs k)) (low : start ≤ offset) (high : offset ≤ length (front bs (k + 1))) where
    within_block : offset - start ≤ length b.bytes
    within_block = let here = after_len bs k b a in omega (arith, here, at, low, high)

    offset_is_here : length (front bs k) + (offset - start) ≡ offset
    offset_is_here = omega (arith, at, low)

    row_here : line_units (text_of bs) offset ≡ map units_of (row (drop (offset - start) b.bytes ++ back bs (k + 1)))
    row_here = ap (line_units (text_of bs)) (sym offset_is_here) ∙ row_at (offset - start) within_block

    pub byte_ends : (column r : ℕ) → line_len (drop (offset - start) b.bytes) < length (drop (offset - start) b.bytes) → IsByte (map units_of (row (drop (offset - start) b.bytes))) column r → IsByte (line_units (text_of bs) offset) column r
    byte_ends column r less byte = subst (λ u. IsByte u column r) (sym row_here) (column_here (drop (offset - start) b.bytes) (back bs (k + 1)) column r less byte)

    pub byte_inside : (column r : ℕ) → line_len (drop (offset - start) b.bytes) ≡ length (drop (offset - start) b.bytes) → column < units (drop (offset - start) b.bytes) → IsByte (map units_of (drop (offset - start) b.bytes)) column r → IsByte (line_units (text_of bs) offset) column r
    byte_inside column r same less byte = subst (λ u. IsByte u column r) (sym row_here) (column_in (drop (offset - start) b.bytes) (back bs (k + 1)) column r same less byte)

    pub byte_beyond : (column r : ℕ) → line_len (drop (offset - start) b.bytes) ≡ length (drop (offset - start) b.bytes) → units (drop (offset - start) b.bytes) ≤ column → IsByte (line_units (text_of bs) (length (front bs (k + 1)))) (column - units (drop (offset - start) b.bytes)) r → IsByte (line_units (text_of bs) offset) column (length (drop (offset - start) b.bytes) + r)
    byte_beyond column r same le byte =
        subst (λ u. IsByte u column (length (drop (offset - start) b.bytes) + r)) (sym row_here)
        (subst (λ n. IsByte (map units_of (row (drop (offset - start) b.bytes ++ back bs (k + 1)))) n (length (drop (offset - start) b.bytes) + r)) (let e : column - units (drop (offset - start) b.bytes) + units (drop (offset - start) b.bytes) ≡ column = omega (arith, le) in e)
        (column_after (drop (offset - start) b.bytes) (back bs (k + 1)) (column - units (drop (offset - start) b.bytes)) r same (subst (λ u. IsByte u (column - units (drop (offset - start) b.bytes)) r) row_next byte)))

-- no offset in the block: its start
drop_none : (xs : List ℕ) (n : ℕ) → drop (n - n) xs ≡ xs
drop_none xs n = ap (λ k. drop k xs) (let z : n - n ≡ 0 = omega arith in z)

module _ (bs : List BlockView) (from column k start left : ℕ) (b : BlockView) (a : AtBlock bs k b) (w : IsColumnWalk bs from column k start left) where
  start_low : start ≤ length (front bs (k + 1))
  start_low = let here = after_len bs k b a in let at = w.at in omega (arith, here, at)

  -- a column in the block
  pub column_placed : (r : ℕ) → r ≤ length b.bytes → IsByte (line_units (text_of bs) start) left r → IsPlaced bs k start (start + r) × ((from ≤ start + r) × IsByte (line_units (text_of bs) from) column (start + r - from))
  column_placed r h byte =
      let here = after_len bs k b a in
      let at = w.at in
      let after = w.after in (
        record { within = a.less; at = w.at; low = omega arith; high = omega (arith, here, at, h) },
        (
          omega (arith, after),
          subst (IsByte (line_units (text_of bs) from) column) (let e : start - from + r ≡ start + r - from = omega (arith, after) in e) (w.on r byte),
        ),
      )

  pub column_ends : (r : ℕ) → line_len b.bytes < length b.bytes → IsByte (map units_of (row b.bytes)) left r → IsByte (line_units (text_of bs) start) left r
  column_ends r less byte =
      byte_ends bs k b a start start w.at (omega arith) start_low left r
      (subst (λ t. line_len t < length t) (sym (drop_none b.bytes start)) less)
      (subst (λ t. IsByte (map units_of (row t)) left r) (sym (drop_none b.bytes start)) byte)

  pub column_inside : (r : ℕ) → line_len b.bytes ≡ length b.bytes → left < units b.bytes → IsByte (map units_of b.bytes) left r → IsByte (line_units (text_of bs) start) left r
  column_inside r same less byte =
      byte_inside bs k b a start start w.at (omega arith) start_low left r
      (subst (λ t. line_len t ≡ length t) (sym (drop_none b.bytes start)) same)
      (subst (λ t. left < units t) (sym (drop_none b.bytes start)) less)
      (subst (λ t. IsByte (map units_of t) left r) (sym (drop_none b.bytes start)) byte)

  pub column_on : line_len b.bytes ≡ length b.bytes → units b.bytes ≤ left → IsColumnWalk bs from column (k + 1) (start + length b.bytes) (left - units b.bytes)
  column_on same le =
      let here = after_len bs k b a in
      let at = w.at in
      let after = w.after in
      let less = a.less in
      let there : start + length b.bytes ≡ length (front bs (k + 1)) = omega (arith, here, at) in
      record {
        within = omega (arith, less);
        at = there;
        after = omega (arith, after);
        on = λ r byte.
            let whole : IsByte (line_units (text_of bs) start) left (length b.bytes + r) = subst (λ t. IsByte (line_units (text_of bs) start) left (length t + r)) (drop_none b.bytes start)
            (byte_beyond bs k b a start start w.at (omega arith) start_low left r
            (subst (λ t. line_len t ≡ length t) (sym (drop_none b.bytes start)) same)
            (subst (λ t. units t ≤ left) (sym (drop_none b.bytes start)) le)
            (subst (λ t. IsByte (line_units (text_of bs) (length (front bs (k + 1)))) (left - units t) r) (sym (drop_none b.bytes start)) (subst (λ s. IsByte (line_units (text_of bs) s) (left - units b.bytes) r) there byte))) in
            subst (IsByte (line_units (text_of bs) from) column) (let e : start - from + (length b.bytes + r) ≡ start + length b.bytes - from + r = omega (arith, after) in e) (w.on (length b.bytes + r) whole);
      }

-- the end of the text
row_none : row [] ≡ []
unfolding line_len
row_none = refl

none_byte : (column : ℕ) → IsByte [] column 0
none_byte column = record {
  within = omega arith;
  start = λ h _. omega (arith, h);
  fits = omega arith;
  most = λ q more inside. absurd (omega (arith, more, inside));
}

pub column_walk_end : (bs : List BlockView) (from column k start left : ℕ) → length bs ≤ k → IsColumnWalk bs from column k start left → (start ≡ length (text_of bs)) × IsByte (line_units (text_of bs) from) column (start - from)
column_walk_end bs from column k start left over w =
    let end : start ≡ length (text_of bs) = w.at ∙ ap length (front_all bs k over) in
    let none : line_units (text_of bs) start ≡ [] = line_units_is (text_of bs) start ∙ ap (λ t. map units_of (row t)) (drop_all start (text_of bs) (omega (arith, end))) ∙ ap (map units_of) row_none in
    (end, subst (IsByte (line_units (text_of bs) from) column) (let e : start - from + 0 ≡ start - from = omega arith in e) (w.on 0 (subst (λ u. IsByte u left 0) (sym none) (none_byte left))))

pub last_placed : (bs : List BlockView) (b : BlockView) (end : ℕ) → 0 < length bs → AtBlock bs (length bs - 1) b → end ≡ length (text_of bs) → (length b.bytes ≤ end) × IsPlaced bs (length bs - 1) (end - length b.bytes) end
last_placed bs b end some a is =
    let here = after_len bs (length bs - 1) b a in
    let all : length (front bs (length bs - 1 + 1)) ≡ length (text_of bs) = ap length (front_all bs (length bs - 1 + 1) (omega (arith, some))) in
    (omega (arith, here, all, is), record { within = a.less; at = omega (arith, here, all, is); low = omega arith; high = omega (arith, all, is) })

-- a position by the row of its line
pub on_row : (text : List ℕ) (p : Position) (s o : ℕ) → IsLine text p.line s → s ≤ o → IsByte (line_units text s) p.character (o - s) → IsOffset text p (Some o)
on_row text p s o l le byte = subst (λ k. IsOffset text p (Some k)) (let e : s + (o - s) ≡ o = omega (arith, le) in e) (offset_is text s l.within l.starts p (o - s) l.number byte)

-- one place back
pub placed_back : (bs : List BlockView) (k start offset : ℕ) (b : BlockView) → 0 < k → offset ≤ start → AtBlock bs (k - 1) b → IsPlaced bs k start offset → (length b.bytes ≤ start) × IsPlaced bs (k - 1) (start - length b.bytes) offset
placed_back bs k start offset b some le a p =
    let here = after_len bs (k - 1) b a in
    let same : length (front bs (k - 1 + 1)) ≡ length (front bs k) = ap (λ n. length (front bs n)) (let e : k - 1 + 1 ≡ k = omega (arith, some) in e) in
    let at = p.at in
    let low = p.low in
    (omega (arith, here, same, at), record { within = a.less; at = omega (arith, here, same, at); low = omega (arith, low); high = omega (arith, here, same, at, low, le) })

pub placed_first : (bs : List BlockView) (k start offset : ℕ) → IsPlaced bs k start offset → (0 < k → start < offset) → IsHolder bs offset k start
placed_first bs k start offset p first = record { within = p.within; at = p.at; low = p.low; high = p.high; first = first }

-- two places, in order or not
pub places_in_order : (bs : List BlockView) (start end : Position) (from to : Place) (found : Option (Place × Place)) → IsPlaced bs from.index from.start from.offset → IsPlaced bs to.index to.start to.offset → IsOffset (text_of bs) start (Some from.offset) → IsOffset (text_of bs) end (Some to.offset) → MatchOption found (to.offset < from.offset) (λ r. (r.0 ≡ from) × (r.1 ≡ to) × (from.offset ≤ to.offset)) → ArePlaces bs start end found
places_in_order bs start end from to None p q first last less = λ new. bad_order (text_of bs) start end from.offset to.offset new first last less
places_in_order bs start end from to (Some r) p q first last h = (
  subst (λ x. IsPlaced bs x.index x.start x.offset) (sym h.0) p,
  subst (λ x. IsPlaced bs x.index x.start x.offset) (sym h.1) q,
  subst (λ x. Bounds (text_of bs) start end x.offset r.1.offset) (sym h.0) (subst (λ x. Bounds (text_of bs) start end from.offset x.offset) (sym h.1) (record { first = first; last = last; ordered = h.2 })),
)
