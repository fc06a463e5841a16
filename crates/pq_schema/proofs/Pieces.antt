-- Names in pieces: the tail of two names that is the same does not tell of their order.
use Rattle.std.proofs.Common.{◌≡◌, ℕ, ◌<◌, ◌==◌, true, List, [], ◌∷◌, ◌++◌, length, reverse, take, drop, refl, sym, ap, ◌∙◌, arith, append_assoc, append-nil}
use Rattle.std.specs.List.{concat}
use Rattle.std.specs.Cmp.Lexicographic.{slice_cmp}
use Rattle.std.specs.Ordering.{nat_cmp, ordering_then}
use Rattle.std.specs.declared.cmp.Ordering.{Ordering}
use Rattle.std.specs.declared.cmp.Ordering.TheVariants.{Less, Equal, Greater}
use Rattle.std.proofs.lemmas.Bool.Decides.{nat_tests}
use Rattle.std.proofs.lemmas.Cmp.{tied_itself, nat_cmp_total}
use Rattle.std.proofs.lemmas.List.{length-append, reverse-append, take-append-drop}
use Rattle.std.proofs.lemmas.List.Folds.{concat-append}
use Rattle.pq_schema.specs.aux.NameParts.{name_order}

-- what two lists begin with alike does not tell of their order
same_front : (t x y : List ℕ) → slice_cmp nat_cmp (t ++ x) (t ++ y) ≡ slice_cmp nat_cmp x y
same_front [] x y = refl
same_front (c ∷ t) x y = ap (λ (o : Ordering). ordering_then o (slice_cmp nat_cmp (t ++ x) (t ++ y))) (tied_itself nat_cmp_total c) ∙ same_front t x y

same_tail : (x y t : List ℕ) → name_order (x ++ t) (y ++ t) ≡ name_order x y
same_tail x y t =
    ap (λ (b : List ℕ). slice_cmp nat_cmp b (reverse (y ++ t))) (reverse-append x t)
    ∙ ap (λ (b : List ℕ). slice_cmp nat_cmp (reverse t ++ reverse x) b) (reverse-append y t)
    ∙ same_front (reverse t) (reverse x) (reverse y)

-- the last pieces of two names end in the same bytes
pub cut_both : (ps os piece other text rest end : List ℕ) → piece ≡ text ++ end → other ≡ rest ++ end
    → name_order (ps ++ piece) (os ++ other) ≡ name_order (ps ++ text) (os ++ rest)
cut_both ps os piece other text rest end first second =
    ap (λ (b : List ℕ). name_order (ps ++ b) (os ++ other)) first
    ∙ ap (λ (b : List ℕ). name_order (ps ++ (text ++ end)) (os ++ b)) second
    ∙ ap (λ (b : List ℕ). name_order b (os ++ (rest ++ end))) (sym (append_assoc ps text end))
    ∙ ap (λ (b : List ℕ). name_order ((ps ++ text) ++ end) b) (sym (append_assoc os rest end))
    ∙ same_tail (ps ++ text) (os ++ rest) end

pub less_first : (ps piece other text : List ℕ) → piece ≡ text ++ other → 0 < length other → length (ps ++ text) < length (ps ++ piece)
less_first ps piece other text is some =
    let whole = length-append ps piece in
    let part = length-append ps text in
    let both = ap (λ (b : List ℕ). length b) is in
    let sum = length-append text other in
    omega arith

pub less_second : (ps piece : List ℕ) → 0 < length piece → length (ps ++ []) < length (ps ++ piece)
less_second ps piece some =
    let whole = length-append ps piece in
    let part = ap (λ (b : List ℕ). length b) (append-nil ps) in
    omega arith

-- the orders of names of which one has no bytes
pub order_none : (a b : List ℕ) → a ≡ [] → b ≡ [] → Equal ≡ name_order a b
order_none a b none end = sym (ap (λ (x : List ℕ). name_order x b) none ∙ ap (λ (x : List ℕ). name_order [] x) end)

some_last : (t : List ℕ) (y : List ℕ) → 0 < length t → slice_cmp nat_cmp [] (t ++ y) ≡ Less
some_last [] y some = absurd (omega arith)
some_last (c ∷ t) y some = refl

some_first : (t : List ℕ) (x : List ℕ) → 0 < length t → slice_cmp nat_cmp (t ++ x) [] ≡ Greater
some_first [] x some = absurd (omega arith)
some_first (c ∷ t) x some = refl

reversed_some : (t : List ℕ) → 0 < length t → 0 < length (reverse t)
reversed_some [] some = some
reversed_some (c ∷ t) some =
    let whole = ap (λ (b : List ℕ). length b) (reverse-append (c ∷ []) t) in
    let sum = length-append (reverse t) (c ∷ []) in
    omega arith

pub order_less : (a b bs piece : List ℕ) → a ≡ [] → b ≡ bs ++ piece → 0 < length piece → Less ≡ name_order a b
order_less a b bs piece none is some =
    sym (ap (λ (x : List ℕ). name_order x b) none
    ∙ ap (λ (x : List ℕ). name_order [] x) is
    ∙ ap (λ (x : List ℕ). slice_cmp nat_cmp [] x) (reverse-append bs piece)
    ∙ some_last (reverse piece) (reverse bs) (reversed_some piece some))

pub order_greater : (a b xs piece : List ℕ) → b ≡ [] → a ≡ xs ++ piece → 0 < length piece → Greater ≡ name_order a b
order_greater a b xs piece none is some =
    sym (ap (λ (x : List ℕ). name_order a x) none
    ∙ ap (λ (x : List ℕ). name_order x []) is
    ∙ ap (λ (x : List ℕ). slice_cmp nat_cmp x []) (reverse-append xs piece)
    ∙ some_first (reverse piece) (reverse xs) (reversed_some piece some))

-- ---- the pieces of a name from the last to the first

no_text : (parts text self : List ℕ) → parts ++ text ≡ self → length text ≡ 0 → parts ≡ self
no_text parts [] self is none = sym (append-nil parts) ∙ is
no_text parts (c ∷ cs) self is none = cc

pub whole_text : (parts text self : List ℕ) → parts ++ text ≡ self → (length text == 0) ≡ true → parts ≡ self
whole_text parts text self is none =
    let empty : length text ≡ 0 = grind (arith, nat_tests) in
    no_text parts text self is empty

-- the last piece of a front of `head` and `parts`
pub piece_found : (head : List ℕ) (parts before : List (List ℕ)) (part text self : List ℕ) → parts ≡ before ++ part ∷ [] → text ≡ part → self ≡ head ++ concat parts
    → self ≡ (head ++ concat before) ++ text
piece_found head parts before part text self is same spelled =
    let last : concat parts ≡ concat before ++ text =
    ap concat is ∙ concat-append before (part ∷ []) ∙ ap (λ (b : List ℕ). concat before ++ b) (append-nil part ∙ sym same) in
    spelled ∙ ap (λ (b : List ℕ). head ++ b) last ∙ sym (append_assoc head (concat before) text)

pub piece_empty : (head : List ℕ) (parts before : List (List ℕ)) (part text self : List ℕ) → parts ≡ before ++ part ∷ [] → text ≡ part → (length text == 0) ≡ true
    → self ≡ head ++ concat parts → self ≡ head ++ concat before
piece_empty head parts before part text self is same none spelled =
    sym (whole_text (head ++ concat before) text self (sym (piece_found head parts before part text self is same spelled)) none)

-- a text in two parts, of which the second is known
pub parted : (n : ℕ) (text before after end : List ℕ) → before ≡ take n text → after ≡ drop n text → after ≡ end → text ≡ before ++ end
parted n text before after end front back is =
    sym (take-append-drop n text)
    ∙ ap (λ (b : List ℕ). b ++ drop n text) (sym front)
    ∙ ap (λ (b : List ℕ). before ++ b) (sym back ∙ is)
