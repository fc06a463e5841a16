-- The packages inside a scope: entries that begin with the same bytes, and a search by what follows.
use Rattle.std.proofs.Common.{◌≡◌, ℕ, ◌+◌, ◌-◌, ◌<◌, ◌≤◌, ◌==◌, Bool, true, false, ◌&&◌, ◌||◌, nat_eq, length, get_or, drop, take, List, [], ◌∷◌, ◌++◌, Some, None, refl, sym, ap, subst, ◌∙◌, true≢false, arith, append_assoc}
use Rattle.std.specs.Prelude.{codes, slice_get}
use Rattle.std.specs.List.{list_any, starts_with}
use Rattle.std.specs.List.Sorted.{IsPartitionPoint, IsPartitionedBy, IsSorted}
use Rattle.std.specs.Cmp.Lexicographic.{slice_cmp}
use Rattle.std.specs.Ordering.{nat_cmp, is_lt, ordering_then}
use Rattle.std.specs.declared.cmp.Ordering.{Ordering}
use Rattle.std.proofs.lemmas.Bool.Decides.{Decides-eqb}
use Rattle.std.proofs.lemmas.Cmp.{tied_itself, nat_cmp_total, nat_list_cmp_total}
use Rattle.std.proofs.lemmas.List.{get_or-drop, get_or-take, get_or_default, length-append, length-drop, length-take-le, take-append-drop, take_all}
use Rattle.std.proofs.lemmas.List.Folds.{list_any-append, list_any_none}
use Rattle.std.proofs.lemmas.Option.{get_or_from_slice_get, slice_get_within}
use Rattle.std.proofs.Math.Seq.{drop-append_seam}
use Rattle.pq_schema.specs.declared.scope.package_range.PackageRange.{PackageRange}
use Rattle.pq_schema.specs.declared.scope.scope.FileDefs.{FileDefs}
use Rattle.pq_schema.specs.Resolution.{is_package}
use Rattle.pq_schema.specs.aux.Fronts.{Begins}
use Rattle.pq_schema.specs.aux.Grouping.{IsIndex, root_order}
use Rattle.pq_schema.specs.aux.InPackage.{dotted}
use Rattle.pq_schema.specs.aux.NameParts.{leading}
use Rattle.pq_schema.specs.aux.PackageRange.{IsFirstFrom, IsRange, begins_after}
use Rattle.pq_schema.proofs.Cases.{either}
use Rattle.pq_schema.proofs.Dotted.{any_begins, between, dotted_length, not_before, past_begins, starts_first}
use Rattle.pq_schema.proofs.Grouping.{known_package}
use Rattle.pq_schema.proofs.Rising.{parted, rises}

abbrev order : List ℕ → List ℕ → Ordering
order = slice_cmp nat_cmp

abbrev none : List ℕ × ℕ
none = ([], 0)

-- ---- what follows the same bytes

order_front : (l a b : List ℕ) → order (l ++ a) (l ++ b) ≡ order a b
order_front [] a b = refl
order_front (c ∷ cs) a b =
    ap (λ (o : Ordering). ordering_then o (order (cs ++ a) (cs ++ b))) (tied_itself nat_cmp_total c) ∙ order_front cs a b

starts_front : (l a b : List ℕ) → starts_with nat_eq (l ++ a) (l ++ b) ≡ starts_with nat_eq a b
starts_front [] a b = refl
starts_front (c ∷ cs) a b =
    ap (λ (t : Bool). t && starts_with nat_eq (cs ++ a) (cs ++ b)) ((Decides-eqb c c).1 refl) ∙ starts_front cs a b

-- what begins with more begins with less
starts_through : (e t m : List ℕ) → starts_with nat_eq e (t ++ m) ≡ true → starts_with nat_eq e t ≡ true
starts_through e [] m h = refl
starts_through [] (c ∷ cs) m h = absurd (true≢false (sym h))
starts_through (x ∷ xs) (c ∷ cs) m h =
    either (nat_eq c x) (λ b. starts_with nat_eq (x ∷ xs) (c ∷ cs) ≡ true)
    (λ t. ap (λ (b : Bool). b && starts_with nat_eq xs cs) t
    ∙ starts_through xs cs m (starts_first x c xs (cs ++ m) true (sym ((Decides-eqb c x).0 t)) h))
    (λ f. absurd (true≢false (sym h ∙ ap (λ (b : Bool). b && starts_with nat_eq xs (cs ++ m)) f)))

starts_rest : (e t : List ℕ) → starts_with nat_eq e t ≡ true → Begins t e
starts_rest e [] h = (e, refl)
starts_rest [] (c ∷ cs) h = absurd (true≢false (sym h))
starts_rest (x ∷ xs) (c ∷ cs) h =
    either (nat_eq c x) (λ b. Begins (c ∷ cs) (x ∷ xs))
    (λ t. let same = sym ((Decides-eqb c x).0 t) in
    let more = starts_rest xs cs (starts_first x c xs cs true same h) in
    (more.0, ap (λ (n : ℕ). n ∷ xs) same ∙ ap (λ (l : List ℕ). c ∷ l) more.1))
    (λ f. absurd (true≢false (sym h ∙ ap (λ (b : Bool). b && starts_with nat_eq xs cs) f)))

dotted_front : (l n : List ℕ) → dotted (l ++ n) ≡ l ++ dotted n
dotted_front l n = append_assoc l n (codes ".")

-- what is before a name in a scope
pub dotted_leads : (scope : List ℕ) → (length scope == 0) ≡ false → dotted scope ≡ leading scope
dotted_leads [] h = absurd (true≢false h)
dotted_leads (c ∷ cs) h = refl

-- ---- the entries of a range, by what follows `lead`

module _ (lead part : List ℕ) (entries : List (List ℕ × ℕ)) (count : ℕ)
    (counts : 0 < length entries → count ≡ length lead)
    (begin : (k : ℕ) → k < length entries → Begins lead (get_or entries k none).0) where
  rest_is : (k : ℕ) (within : k < length entries) → drop count (get_or entries k none).0 ≡ (begin k within).0
  rest_is k within =
      let b = begin k within in
      ap (λ (n : ℕ). drop n (get_or entries k none).0) (counts (omega (arith, within)))
      ∙ ap (λ (x : List ℕ). drop (length lead) x) b.1 ∙ drop-append_seam lead b.0

  before_is : (k : ℕ) → k < length entries
      → is_lt (order (drop count (get_or entries k none).0) part) ≡ is_lt (order (get_or entries k none).0 (lead ++ part))
  before_is k within =
      let b = begin k within in
      ap (λ (x : List ℕ). is_lt (order x part)) (rest_is k within)
      ∙ sym (ap is_lt (order_front lead b.0 part))
      ∙ ap (λ (x : List ℕ). is_lt (order x (lead ++ part))) (sym b.1)

  inside_is : (k : ℕ) → k < length entries
      → begins_after count part (get_or entries k none) ≡ starts_with nat_eq (get_or entries k none).0 (lead ++ part)
  inside_is k within =
      let b = begin k within in
      ap (λ (x : List ℕ). starts_with nat_eq x part) (rest_is k within)
      ∙ sym (starts_front lead b.0 part)
      ∙ ap (λ (x : List ℕ). starts_with nat_eq x (lead ++ part)) (sym b.1)

  abbrev is_less : List ℕ × ℕ → Bool
  is_less e = is_lt (order (drop count e.0) part)

  -- those before `lead ++ part` come first
  less_parted : IsSorted root_order entries → IsPartitionedBy is_less entries
  less_parted sorted i j d up within less =
      let first : i < length entries = omega (arith, up, within) in
      ap is_less (get_or_default entries i d none first)
      ∙ before_is i first
      ∙ parted order nat_list_cmp_total entries sorted (lead ++ part) i j none up within
      (sym (before_is j within) ∙ ap is_less (get_or_default entries j none d within) ∙ less)

  pub first_is : IsSorted root_order entries → (i : ℕ) → i ≤ length entries
      → (IsPartitionedBy is_less entries → IsPartitionPoint (λ y. is_less y ≡ true) (λ y. is_less y ≡ false) entries i)
      → IsFirstFrom entries (lead ++ part) i
  first_is sorted i bound point =
      let at = point (less_parted sorted) in
      record {
        within = bound;
        less = λ k below. sym (before_is k (omega (arith, bound, below))) ∙ at.0 k none (omega (arith, bound, below)) below;
        others = λ k from within. sym (before_is k within) ∙ at.1 k none from within;
      }

-- ---- a name in the scope

search_for : (lead name : List ℕ) (entries : List (List ℕ × ℕ)) (n : ℕ) → IsFirstFrom entries (lead ++ dotted name) n → IsFirstFrom entries (dotted (lead ++ name)) n
search_for lead name entries n f = subst (λ (t : List ℕ). IsFirstFrom entries t n) (sym (dotted_front lead name)) f

pub has_entry : (files : List FileDefs) (lead name : List ℕ) (r : PackageRange) (n : ℕ) (e : List ℕ × ℕ) → IsRange files lead r
    → IsFirstFrom r.entries.now (lead ++ dotted name) n → slice_get r.entries.now n ≡ Some e → 0 < length (lead ++ name)
    → begins_after r.count (dotted name) e ≡ is_package files (lead ++ name)
has_entry files lead name r n e range first at some =
    let entries = r.entries.now in
    let f = search_for lead name entries n first in
    let here : get_or entries n none ≡ e = get_or_from_slice_get entries n e none at in
    ap (begins_after r.count (dotted name)) (sym here)
    ∙ inside_is lead (dotted name) entries r.count range.count range.begin n (slice_get_within entries n e at)
    ∙ ap (λ (t : List ℕ). starts_with nat_eq (get_or entries n none).0 t) (sym (dotted_front lead name))
    ∙ ap (λ (x : List ℕ × ℕ). starts_with nat_eq x.0 (dotted (lead ++ name))) here
    ∙ any_begins entries range.sorted (lead ++ name) n f.less f.others e at
    ∙ range.is name some

pub has_none : (files : List FileDefs) (lead name : List ℕ) (r : PackageRange) (n : ℕ) → IsRange files lead r
    → IsFirstFrom r.entries.now (lead ++ dotted name) n → slice_get r.entries.now n ≡ None → 0 < length (lead ++ name)
    → false ≡ is_package files (lead ++ name)
has_none files lead name r n range first at some =
    let entries = r.entries.now in
    let f = search_for lead name entries n first in
    past_begins entries range.sorted (lead ++ name) n f.less f.others at ∙ range.is name some

-- ---- a scope inside the scope

not_none : (n : List ℕ) → 0 < length n → length n ≡ 0 → ⊥
not_none n h none = omega (arith, h, none)

pub all_range : (files : List FileDefs) (r : PackageRange) → IsIndex r.entries.now files → r.count ≡ 0 → IsRange files [] r
all_range files r index zero = record {
  count = λ some. zero;
  sorted = index.sorted;
  begin = λ k within. ((get_or r.entries.now k none).0, refl);
  is = λ n some. known_package files index n (not_empty n some);
}
  where
    not_empty : (n : List ℕ) → 0 < length n → (length n == 0) ≡ false
    not_empty n h = either (length n == 0) (λ b. b ≡ false) (λ t. absurd (not_none n h ((Decides-eqb (length n) 0).0 t))) (λ _. refl)

-- from `first` on, those that begin with `lead ++ part` come first
pub inside_parted : (lead part : List ℕ) (entries : List (List ℕ × ℕ)) (count first : ℕ)
    → (0 < length entries → count ≡ length lead)
    → ((k : ℕ) → k < length entries → Begins lead (get_or entries k none).0)
    → IsSorted root_order entries → IsFirstFrom entries (lead ++ part) first
    → IsPartitionedBy (begins_after count part) (drop first entries)
inside_parted lead part entries count first counts begin sorted from i j d up within h =
    let long = length-drop first entries in
    let there : first + j < length entries = omega (arith, long, within) in
    let here : first + i < length entries = omega (arith, up, there) in
    let at_i : get_or (drop first entries) i d ≡ get_or entries (first + i) none =
    get_or-drop first entries i d ∙ get_or_default entries (first + i) d none here in
    let at_j : get_or (drop first entries) j d ≡ get_or entries (first + j) none =
    get_or-drop first entries j d ∙ get_or_default entries (first + j) d none there in
    let begins_j : starts_with nat_eq (get_or entries (first + j) none).0 (lead ++ part) ≡ true =
    sym (inside_is lead part entries count counts begin (first + j) there) ∙ ap (begins_after count part) (sym at_j) ∙ h in
    ap (begins_after count part) at_i
    ∙ inside_is lead part entries count counts begin (first + i) here
    ∙ between (lead ++ part) (get_or entries (first + i) none).0 (get_or entries (first + j) none).0
    (from.others (first + i) (omega (arith, up)) here)
    (rises order nat_list_cmp_total entries sorted (first + i) (first + j) none (omega (arith, up)) there) begins_j

or_none : (b : Bool) → (b || false) ≡ b
or_none true = refl
or_none false = refl

-- `name` in the scope, as a scope: its packages are neighbours
module _ (files : List FileDefs) (lead name : List ℕ) (r inner : PackageRange) (first number : ℕ)
    (range : IsRange files lead r)
    (from : IsFirstFrom r.entries.now (lead ++ dotted name) first)
    (bound : number ≤ length (drop first r.entries.now))
    (those : (k : ℕ) → k < number → begins_after r.count (dotted name) (get_or (drop first r.entries.now) k none) ≡ true)
    (others : (k : ℕ) → number ≤ k → k < length (drop first r.entries.now) → begins_after r.count (dotted name) (get_or (drop first r.entries.now) k none) ≡ false)
    (are : inner.entries.now ≡ take number (drop first r.entries.now))
    (counted : 0 < length inner.entries.now → inner.count ≡ r.count + (length name + 1)) where
  abbrev entries : List (List ℕ × ℕ)
  entries = r.entries.now

  abbrev rest : List (List ℕ × ℕ)
  rest = drop first r.entries.now

  abbrev target : List ℕ
  target = lead ++ dotted name

  abbrev test : List ℕ → List ℕ × ℕ → Bool
  test n e = starts_with nat_eq e.0 (dotted (target ++ n))

  -- an entry of the inner range is one of the outer
  in_inner : (k : ℕ) (d : List ℕ × ℕ) → k < length inner.entries.now
      → (k < number) × ((first + k < length entries) × (get_or inner.entries.now k d ≡ get_or entries (first + k) d))
  in_inner k d within =
      let count = ap length are ∙ length-take-le number rest bound in
      let long = length-drop first entries in
      let below : k < number = omega (arith, within, count) in (
        below,
        (
          omega (arith, below, bound, long),
          ap (λ (xs : List (List ℕ × ℕ)). get_or xs k d) are ∙ get_or-take number rest k d below ∙ get_or-drop first entries k d,
        ),
      )

  starts_more : (n e : List ℕ) → starts_with nat_eq e (dotted (target ++ n)) ≡ true → starts_with nat_eq e target ≡ true
  starts_more n e h =
      starts_through e target (dotted n) (ap (λ (l : List ℕ). starts_with nat_eq e l) (sym (dotted_front target n)) ∙ h)

  -- those before the inner range, and those after it, do not begin with a name in it
  none_before : (n : List ℕ) → list_any (test n) (take first entries) ≡ false
  none_before n = list_any_none (test n) (take first entries) (λ k d within.
      let below : k < first = omega (arith, within, length-take-le first entries from.within) in
      let here : k < length entries = omega (arith, within, length-take-le first entries from.within) in
      let e = get_or entries k none in
      ap (test n) (get_or-take first entries k d below ∙ get_or_default entries k d none here)
      ∙ either (test n e) (λ b. b ≡ false)
      (λ t. absurd (not_before e.0 target (starts_more n e.0 t) (from.less k below)))
      (λ _. refl))

  none_after : (n : List ℕ) → list_any (test n) (drop number rest) ≡ false
  none_after n = list_any_none (test n) (drop number rest) (λ k d within.
      let long = length-drop number rest in
      let longer = length-drop first entries in
      let there : number + k < length rest = omega (arith, within, long) in
      let here : first + (number + k) < length entries = omega (arith, there, longer) in
      let e = get_or entries (first + (number + k)) none in
      let at : get_or rest (number + k) none ≡ e = get_or-drop first entries (number + k) none in
      ap (test n) (get_or-drop number rest k d ∙ get_or_default rest (number + k) d none there ∙ at)
      ∙ either (test n e) (λ b. b ≡ false)
      (λ t. absurd (true≢false (sym (starts_more n e.0 t)
      ∙ sym (inside_is lead (dotted name) entries r.count range.count range.begin (first + (number + k)) here)
      ∙ ap (begins_after r.count (dotted name)) (sym at) ∙ others (number + k) (omega arith) there)))
      (λ _. refl))

  any_same : (n : List ℕ) → list_any (test n) inner.entries.now ≡ list_any (test n) entries
  any_same n =
      ap (list_any (test n)) are
      ∙ sym (or_none (list_any (test n) (take number rest)))
      ∙ ap (λ (b : Bool). list_any (test n) (take number rest) || b) (sym (none_after n))
      ∙ sym (list_any-append (test n) (take number rest) (drop number rest))
      ∙ ap (list_any (test n)) (take-append-drop number rest)
      ∙ ap (λ (b : Bool). b || list_any (test n) rest) (sym (none_before n))
      ∙ sym (list_any-append (test n) (take first entries) rest)
      ∙ ap (list_any (test n)) (take-append-drop first entries)

  pub inside_range : IsRange files (lead ++ dotted name) inner
  inside_range = record {
    count = λ some.
        let one = in_inner 0 none some in
        counted some
        ∙ ap (λ (n : ℕ). n + (length name + 1)) (range.count (omega (arith, one.1.0)))
        ∙ ap (λ (n : ℕ). length lead + n) (sym (dotted_length name)) ∙ sym (length-append lead (dotted name));
    sorted = λ k d low within.
        let more = in_inner (k + 1) d within in
        let one = in_inner k d (omega (arith, within)) in
        let next : first + (k + 1) ≡ (first + k) + 1 = omega arith in
        ap (λ (x : List ℕ × ℕ). is_lt (root_order x (get_or inner.entries.now k d))) more.1.1
        ∙ ap (λ (x : List ℕ × ℕ). is_lt (root_order (get_or entries (first + (k + 1)) d) x)) one.1.1
        ∙ ap (λ (n : ℕ). is_lt (root_order (get_or entries n d) (get_or entries (first + k) d))) next
        ∙ range.sorted (first + k) d (omega arith) (omega (arith, more.1.0));
    begin = λ k within.
        let one = in_inner k none within in
        subst (λ (x : List ℕ × ℕ). Begins target x.0) (sym one.1.1)
        (starts_rest (get_or entries (first + k) none).0 target
        (sym (inside_is lead (dotted name) entries r.count range.count range.begin (first + k) one.1.0)
        ∙ ap (begins_after r.count (dotted name)) (sym (get_or-drop first entries k none)) ∙ those k one.0));
    is = λ n some.
        let same = append_assoc lead (dotted name) n in
        any_same n
        ∙ ap (λ (l : List ℕ). list_any (λ (e : List ℕ × ℕ). starts_with nat_eq e.0 (dotted l)) entries) same
        ∙ range.is (dotted name ++ n) (subst (λ (l : List ℕ). 0 < length l) same some)
        ∙ ap (λ (l : List ℕ). is_package files l) (sym same);
  }

-- the same from a search in the rest of the range
pub inside_found : (files : List FileDefs) (lead name : List ℕ) (r inner : PackageRange) (first number : ℕ) → IsRange files lead r
    → IsFirstFrom r.entries.now (lead ++ dotted name) first
    → number ≤ length (take (length r.entries.now - first) (drop first r.entries.now))
    → (IsPartitionedBy (begins_after r.count (dotted name)) (take (length r.entries.now - first) (drop first r.entries.now))
    → IsPartitionPoint (λ e. begins_after r.count (dotted name) e ≡ true) (λ e. begins_after r.count (dotted name) e ≡ false)
    (take (length r.entries.now - first) (drop first r.entries.now)) number)
    → inner.entries.now ≡ take number (take (length r.entries.now - first) (drop first r.entries.now))
    → (0 < length inner.entries.now → begins_after r.count (dotted name) (get_or inner.entries.now 0 ([], 0)) ≡ true
    → inner.count ≡ r.count + (length name + 1))
    → IsRange files (lead ++ dotted name) inner
inside_found files lead name r inner first number range from bound point are counted =
    let entries = r.entries.now in
    let rest = drop first entries in
    let part = dotted name in
    let long = length-drop first entries in
    let whole : take (length entries - first) rest ≡ rest = take_all (length entries - first) rest (omega (arith, long)) in
    let bounded : number ≤ length rest = subst (λ (xs : List (List ℕ × ℕ)). number ≤ length xs) whole bound in
    let at = point (subst (λ (xs : List (List ℕ × ℕ)). IsPartitionedBy (begins_after r.count part) xs) (sym whole)
    (inside_parted lead part entries r.count first range.count range.begin range.sorted from)) in
    let those : (k : ℕ) → k < number → begins_after r.count part (get_or rest k none) ≡ true =
    λ k below. ap (λ (xs : List (List ℕ × ℕ)). begins_after r.count part (get_or xs k none)) (sym whole) ∙ at.0 k none (omega (arith, below, bound)) below in
    let others : (k : ℕ) → number ≤ k → k < length rest → begins_after r.count part (get_or rest k none) ≡ false =
    λ k past within. ap (λ (xs : List (List ℕ × ℕ)). begins_after r.count part (get_or xs k none)) (sym whole)
    ∙ at.1 k none past (subst (λ (xs : List (List ℕ × ℕ)). k < length xs) (sym whole) within) in
    let taken : inner.entries.now ≡ take number rest = are ∙ ap (λ (xs : List (List ℕ × ℕ)). take number xs) whole in
    inside_range files lead name r inner first number range from bounded those others taken
    (λ some.
    let few : 0 < number = omega (arith, some, ap length taken, length-take-le number rest bounded) in
    counted some (ap (λ (xs : List (List ℕ × ℕ)). begins_after r.count part (get_or xs 0 none)) taken
    ∙ ap (begins_after r.count part) (get_or-take number rest 0 none few) ∙ those 0 few))
