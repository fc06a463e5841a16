-- The index of some files finds the first file that defines a name.
use Rattle.std.proofs.Common.{◌≡◌, ◌⊎◌, ℕ, suc, ◌+◌, ◌-◌, ◌<◌, ◌≤◌, Bool, true, false, cond, nat_lt, nat_eq, true≢false, List, [], ◌∷◌, ◌++◌, length, get_or, Option, Some, None, inl, inr, refl, sym, ap, subst, ◌∙◌, arith}
use Rattle.std.specs.Prelude.{bytes_eq, find, is_some, slice_get, option_map}
use Rattle.std.specs.Cmp.{IsTotalOrder}
use Rattle.std.specs.Cmp.Lexicographic.{bytes_decides}
use Rattle.std.specs.List.Sorted.{IsPermutation, IsSorted, IsPartitionedBy, IsPartitionPoint}
use Rattle.std.specs.Ordering.{nat_cmp, is_lt, ordering_then}
use Rattle.std.specs.declared.cmp.Ordering.{Ordering}
use Rattle.std.specs.declared.cmp.Ordering.TheVariants.{Less, Equal, Greater}
use Rattle.std.proofs.lemmas.Bool.{cases_lt, ltb-false, ltb-true, lt-ltb}
use Rattle.std.proofs.lemmas.Bool.Decides.{nat_tests}
use Rattle.std.proofs.lemmas.Cmp.{on_total, then_total, nat_cmp_total}
use Rattle.std.proofs.lemmas.List.{get_or_default}
use Rattle.std.proofs.lemmas.List.Sorted.{sorted_far, ranks_by, Contains-permutation, IsPermutation-sym}
use Rattle.pq_rules.specs.Relations.{In}
use Rattle.pq_rules.proofs.ListLemmas.{in_at, in_index, in_contains, contains_in}
use Rattle.pq_schema.specs.declared.define.definitions.Definition.{Definition}
use Rattle.pq_schema.specs.declared.scope.scope.FileDefs.{FileDefs}
use Rattle.pq_schema.specs.aux.FirstOf.{answer_by, answer_at, definition_in, first_near}
use Rattle.pq_schema.specs.aux.Grouping.{find_in}
use Rattle.pq_schema.specs.aux.Index.{IsIndexOf, entries}
use Rattle.pq_schema.specs.aux.NameCodes.{code_of}
use Rattle.pq_schema.specs.aux.NearNames.{Adds, AddsEntries, IsFirst, IsFrom, IsNamesOf, Rises, has, named_order}
use Rattle.pq_schema.proofs.FirstNear.{near_cases}
use Rattle.pq_schema.proofs.IndexLemmas.{entry_before}

-- `Entry` is an entry of the index
abbrev pub Entry : Type 0
Entry = ℕ × ℕ

-- ---- the names of a file

found_entry : (n : ℕ) (ds : List Definition) (name : List ℕ) → is_some (find (λ (d : Definition). bytes_eq d.full_name name) ds) ≡ true → (m : ℕ) × In (name, m) (entries n ds)
unfolding entries
found_entry n [] name h = absurd (true≢false (sym h))
found_entry n (d ∷ ds) name h = by (bytes_eq d.full_name name) refl h (found_entry (suc n) ds name)
  where
    by : (b : Bool) → bytes_eq d.full_name name ≡ b
        → is_some (cond b (Some d) (find (λ (x : Definition). bytes_eq x.full_name name) ds)) ≡ true
        → (is_some (find (λ (x : Definition). bytes_eq x.full_name name) ds) ≡ true → (m : ℕ) × In (name, m) (entries (suc n) ds))
        → (m : ℕ) × In (name, m) (entries n (d ∷ ds))
    by true e is rest = (n, inl (ap (λ (x : List ℕ). (x, n)) (sym ((bytes_decides d.full_name name).0 e))))
    by false e is rest = let r = rest is in (r.0, inr r.1)

-- the file at a place
has_at : (files : List FileDefs) (k : ℕ) (f : FileDefs) (name : List ℕ) → slice_get files k ≡ Some f → has files k name ≡ is_some (find_in f name)
has_at files k f name at = ap (λ (o : Option FileDefs). is_some (answer_by (λ (g : FileDefs). find_in g name) o)) at

pub adds_file : (old new : List Entry) (files : List FileDefs) (k : ℕ) (f : FileDefs) (index : List (List ℕ × ℕ))
    → slice_get files k ≡ Some f → IsIndexOf index f.defs.definitions → AddsEntries old new index k → Adds old new files k
adds_file old new files k f index at x added = record {
  kept = added.kept;
  sound = added.sound;
  there = λ name h.
      let m = found_entry 0 f.defs.definitions name (sym (has_at files k f name at) ∙ h) in
      let first = entry_before index f.defs.definitions x name m.0 (in_contains (name, m.0) (entries 0 f.defs.definitions) m.1) in
      added.there name first.0 (contains_in (name, first.0) index first.2);
}

pub adds_none : (old : List Entry) (files : List FileDefs) (k : ℕ) → slice_get files k ≡ None → Adds old old files k
adds_none old files k at = record {
  kept = λ e there. there;
  sound = λ e there. inl there;
  there = λ name h.
      absurd (true≢false (sym h ∙ ap (λ (o : Option FileDefs). is_some (answer_by (λ (g : FileDefs). find_in g name) o)) at));
}

-- ---- lists of entries

pub in_more : {A : Type 0} (e : A) (xs : List A) (y : A) → In e xs → In e (xs ++ y ∷ [])
in_more e [] y there = absurd there
in_more e (x ∷ xs) y (inl same) = inl same
in_more e (x ∷ xs) y (inr more) = inr (in_more e xs y more)

pub in_last : {A : Type 0} (xs : List A) (y : A) → In y (xs ++ y ∷ [])
in_last [] y = inl refl
in_last (x ∷ xs) y = inr (in_last xs y)

pub in_either : {A : Type 0} (e : A) (xs : List A) (y : A) → In e (xs ++ y ∷ []) → In e xs ⊎ (e ≡ y)
in_either e [] y (inl same) = inr same
in_either e [] y (inr more) = absurd more
in_either e (x ∷ xs) y (inl same) = inl (inl same)
in_either e (x ∷ xs) y (inr more) = elim (in_either e xs y more) [ inl there ↦ inl (inr there) | inr same ↦ inr same ]

-- `SoFar old new index k i` is that `new` has the entries of `old`, and the codes of the names of the
-- first `i` of `index` with the place `k`
pub record SoFar (old new : List Entry) (index : List (List ℕ × ℕ)) (k i : ℕ) : Type 0 where
  pub kept : (e : Entry) → In e old → In e new
  pub sound : (e : Entry) → In e new → In e old ⊎ (e.1 ≡ k)
  pub there : (j : ℕ) → j < i → In (code_of (get_or index j ([], 0)).0, k) new

pub none_yet : (old : List Entry) (index : List (List ℕ × ℕ)) (k : ℕ) → SoFar old old index k 0
none_yet old index k = record {
  kept = λ e there. there;
  sound = λ e there. inl there;
  there = λ j less. absurd (omega (arith, less));
}

pub one_more : (old new more : List Entry) (index : List (List ℕ × ℕ)) (k i code : ℕ)
    → code ≡ code_of (get_or index i ([], 0)).0 → more ≡ new ++ (code, k) ∷ [] → SoFar old new index k i → SoFar old more index k (i + 1)
one_more old new more index k i code at is so = record {
  kept = λ e there. subst (λ (es : List Entry). In e es) (sym is) (in_more e new (code, k) (so.kept e there));
  sound = λ e there.
      elim (in_either e new (code, k) (subst (λ (es : List Entry). In e es) is there)) [
        | inl before ↦ so.sound e before
        | inr same ↦ inr (ap (λ (x : Entry). x.1) same)
      ];
  there = λ j less.
      elim (cases_lt j i) [
        | inl below ↦ subst (λ (es : List Entry). In (code_of (get_or index j ([], 0)).0, k) es) (sym is) (in_more (code_of (get_or index j ([], 0)).0, k) new (code, k) (so.there j below))
        | inr up ↦
            let same : i ≡ j = omega (arith, less, up) in
            let code_is : code ≡ code_of (get_or index j ([], 0)).0 = at ∙ ap (λ (n : ℕ). code_of (get_or index n ([], 0)).0) same in
            subst (λ (es : List Entry). In (code_of (get_or index j ([], 0)).0, k) es) (sym is)
            (subst (λ (c : ℕ). In (c, k) (new ++ (code, k) ∷ [])) code_is (in_last new (code, k)))
      ];
}

-- a name of the code of the one before it
pub same_code : (old new : List Entry) (index : List (List ℕ × ℕ)) (k i : ℕ) → 0 < i → code_of (get_or index i ([], 0)).0 ≡ code_of (get_or index (i - 1) ([], 0)).0
    → SoFar old new index k i → SoFar old new index k (i + 1)
same_code old new index k i some at so = record {
  kept = so.kept;
  sound = so.sound;
  there = λ j less.
      elim (cases_lt j i) [
        | inl below ↦ so.there j below
        | inr up ↦
            let same : i ≡ j = omega (arith, less, up) in
            subst (λ (n : ℕ). In (code_of (get_or index n ([], 0)).0, k) new) same
            (subst (λ (c : ℕ). In (c, k) new) (sym at) (so.there (i - 1) (omega (arith, some))))
      ];
}

pub all_added : (old new : List Entry) (index : List (List ℕ × ℕ)) (k i : ℕ) → length index ≤ i → SoFar old new index k i → AddsEntries old new index k
all_added old new index k i past so = record {
  kept = so.kept;
  sound = so.sound;
  there = λ name m there.
      let j = in_index (name, m) ([], 0) index there in
      let within = j.1 in
      subst (λ (x : List ℕ). In (code_of x, k) new) (ap (λ (x : List ℕ × ℕ). x.0) j.2) (so.there j.0 (omega (arith, within, past)));
}

-- ---- the names of all files

-- `AreAll names files places i` is that `names` has the codes of the names of the files at the first
-- `i` of `places`, and no places but these
pub record AreAll (names : List Entry) (files : List FileDefs) (places : List ℕ) (i : ℕ) : Type 0 where
  pub sound : (e : Entry) → In e names → In e.1 places
  pub there : (j : ℕ) (name : List ℕ) → j < i → has files (get_or places j 0) name ≡ true → In (code_of name, get_or places j 0) names

pub no_names : (files : List FileDefs) (places : List ℕ) → AreAll [] files places 0
no_names files places = record { sound = λ e there. absurd there; there = λ j name less h. absurd (omega (arith, less)) }

pub next_file : (old new : List Entry) (files : List FileDefs) (places : List ℕ) (i k : ℕ) → i < length places → k ≡ get_or places i 0
    → Adds old new files k → AreAll old files places i → AreAll new files places (i + 1)
next_file old new files places i k within is added so = record {
  sound = λ e there.
      elim (added.sound e there) [
        | inl before ↦ so.sound e before
        | inr same ↦ subst (λ (n : ℕ). In n places) (sym is ∙ sym same) (in_at places i 0 within)
      ];
  there = λ j name less h.
      elim (cases_lt j i) [
        | inl below ↦ added.kept (code_of name, get_or places j 0) (so.there j name below h)
        | inr up ↦
            let same : k ≡ get_or places j 0 = is ∙ ap (λ (n : ℕ). get_or places n 0) (omega (arith, less, up)) in
            subst (λ (n : ℕ). In (code_of name, n) new) same (added.there name (subst (λ (n : ℕ). has files n name ≡ true) (sym same) h))
      ];
}

pub all_names : (names sorted : List Entry) (files : List FileDefs) (places : List ℕ) (i : ℕ) → length places ≤ i
    → IsPermutation names sorted → IsSorted named_order sorted → AreAll names files places i → IsNamesOf sorted files places
all_names names sorted files places i past same up so = record {
  sound = λ e there. so.sound e (contains_in e names (Contains-permutation sorted names e (IsPermutation-sym names sorted same) (in_contains e sorted there)));
  all = λ k name there h.
      let j = in_index k 0 places there in
      let within = j.1 in
      let e = so.there j.0 name (omega (arith, within, past)) (subst (λ (n : ℕ). has files n name ≡ true) (sym j.2) h) in
      subst (λ (n : ℕ). In (code_of name, n) sorted) j.2
      (contains_in (code_of name, get_or places j.0 0) sorted (Contains-permutation names sorted (code_of name, get_or places j.0 0) same (in_contains (code_of name, get_or places j.0 0) names e)));
  sorted = up;
}

-- ---- the entries of a code

named_total : IsTotalOrder named_order
named_total = then_total (on_total (λ (e : Entry). e.0) nat_cmp_total) (on_total (λ (e : Entry). e.1) nat_cmp_total)

far : (names : List Entry) → IsSorted named_order names → (i j : ℕ) (d : Entry) → i ≤ j → j < length names → is_lt (named_order (get_or names j d) (get_or names i d)) ≡ false
far names up i j d le within = sorted_far (λ (x y : Entry). is_lt (named_order x y)) (ranks_by named_total (λ (e : Entry). e)) names up i j d le within

-- of two entries in order, the codes are in order, and with one code the places are
in_order : (a b : Entry) → is_lt (named_order b a) ≡ false → (a.0 ≤ b.0) × (a.0 ≡ b.0 → a.1 ≤ b.1)
in_order a b h = (codes (cases_lt b.0 a.0), λ same. places same (cases_lt b.1 a.1))
  where
    codes : (b.0 < a.0) ⊎ (a.0 ≤ b.0) → a.0 ≤ b.0
    codes (inr up) = up
    codes (inl less) = absurd (true≢false (sym (ap (λ (t : Bool). is_lt (ordering_then (cond t Less (cond (nat_eq b.0 a.0) Equal Greater)) (nat_cmp b.1 a.1))) (lt-ltb b.0 a.0 less)) ∙ h))

    places : a.0 ≡ b.0 → (b.1 < a.1) ⊎ (a.1 ≤ b.1) → a.1 ≤ b.1
    places same (inr up) = up
    places same (inl less) =
        let not_less : nat_lt b.0 a.0 ≡ false = grind (arith, nat_tests) in
        let is_same : nat_eq b.0 a.0 ≡ true = grind (arith, nat_tests) in
        let place_less : nat_lt b.1 a.1 ≡ true = lt-ltb b.1 a.1 less in
        absurd (true≢false
        (sym (ap (λ (t : Bool). is_lt (ordering_then (cond t Less (cond (nat_eq b.0 a.0) Equal Greater)) (nat_cmp b.1 a.1))) not_less
        ∙ ap (λ (t : Bool). is_lt (ordering_then (cond t Equal Greater) (nat_cmp b.1 a.1))) is_same
        ∙ ap (λ (t : Bool). is_lt (cond t Less (cond (nat_eq b.1 a.1) Equal Greater))) place_less) ∙ h))

pub codes_parted : (names : List Entry) (code : ℕ) → IsSorted named_order names → IsPartitionedBy (λ (e : Entry). nat_lt e.0 code) names
codes_parted names code up i j d le within less =
    let order = in_order (get_or names i d) (get_or names j d) (far names up i j d le within) in
    let low = order.0 in
    lt-ltb (get_or names i d).0 code (omega (arith, low, ltb-true (get_or names j d).0 code less))

pub is_from : (names : List Entry) (code p : ℕ) → IsPartitionPoint (λ (e : Entry). nat_lt e.0 code ≡ true) (λ (e : Entry). nat_lt e.0 code ≡ false) names p → IsFrom names code p
is_from names code p point = record {
  less = λ m low. ltb-true (get_or names m (0, 0)).0 code (point.0 m (0, 0) (omega arith) low);
  others = λ m up within. ltb-false (get_or names m (0, 0)).0 code (point.1 m (0, 0) up within);
}

-- the entries of the code before `i` are of files that do not define the name
abbrev pub Asked : List Entry → List FileDefs → List ℕ → ℕ → ℕ → Type 0
Asked names files name p i = (m : ℕ) → p ≤ m → m < i → answer_at (definition_in name) files (get_or names m (0, 0)).1 ≡ None

-- ---- the first definition by the index

-- a file gives a definition where it has the name
has_answer : (files : List FileDefs) (k : ℕ) (name : List ℕ) → has files k name ≡ is_some (answer_at (definition_in name) files k)
has_answer files k name = by (slice_get files k)
  where
    some : (f : FileDefs) (o : Option Definition) → is_some o ≡ is_some {T = List ℕ × Definition} (option_map (λ (d : Definition). (f.file, d)) o)
    some f None = refl
    some f (Some d) = refl

    by : (o : Option FileDefs) → is_some (answer_by (λ (g : FileDefs). find_in g name) o) ≡ is_some (answer_by (definition_in name) o)
    by None = refl
    by (Some f) = some f (find_in f name)

clash : {X : Type 0} (o : Option X) (x : X) (b : Bool) → o ≡ Some x → b ≡ is_some o → b ≡ false → ⊥
clash o x b is test none = true≢false (sym (ap is_some is) ∙ sym test ∙ none)

void : {X : Type 0} (o : Option X) (b : Bool) → o ≡ None → b ≡ is_some o → b ≡ true → ⊥
void o b is test some = true≢false (sym some ∙ test ∙ ap is_some is)

pub without : (files : List FileDefs) (places : List ℕ) (name : List ℕ) → Rises places → IsFirst None files places name
    → first_near (definition_in name) files places ≡ None
without files places name r none = elim (near_cases (definition_in name) files places r) [
  | inl n ↦ n.0
  | inr s ↦ absurd (clash (answer_at (definition_in name) files s.0) s.1 (has files s.0 name) s.3 (has_answer files s.0 name) (none s.0 s.2))
]

pub with_first : (files : List FileDefs) (places : List ℕ) (name : List ℕ) (k : ℕ) → Rises places → IsFirst (Some k) files places name
    → first_near (definition_in name) files places ≡ answer_at (definition_in name) files k
with_first files places name k r first = elim (near_cases (definition_in name) files places r) [
  | inl n ↦ absurd (void (answer_at (definition_in name) files k) (has files k name) (n.1 k first.0) (has_answer files k name) first.1)
  | inr s ↦ elim (cases_lt s.0 k) [
    | inl low ↦ absurd (clash (answer_at (definition_in name) files s.0) s.1 (has files s.0 name) s.3 (has_answer files s.0 name) (first.2 s.0 s.2 low))
    | inr up ↦ elim (cases_lt k s.0) [
      | inl high ↦ absurd (void (answer_at (definition_in name) files k) (has files k name) (s.5 k first.0 high) (has_answer files k name) first.1)
      | inr down ↦
          let same : s.0 ≡ k = omega arith in
          s.4 ∙ sym s.3 ∙ ap (λ (n : ℕ). answer_at (definition_in name) files n) same
    ]
  ]
]

-- ---- the walk over the entries of a code

module _ (names : List Entry) (files : List FileDefs) (places : List ℕ) (name : List ℕ) (p : ℕ) (x : IsNamesOf names files places) (from : IsFrom names (code_of name) p) where
  -- where a file that defines the name has its entry
  entry_at : (j : ℕ) → In j places → has files j name ≡ true → (m : ℕ) × (m < length names) × (p ≤ m) × (get_or names m (0, 0) ≡ (code_of name, j))
  entry_at j there h =
      let m = in_index (code_of name, j) (0, 0) names (x.all j name there h) in (
        m.0,
        m.1,
        elim (cases_lt m.0 p) [
          | inl below ↦
              let low = from.less m.0 below in
              let code_is = ap (λ (e : Entry). e.0) m.2 in
              absurd (omega (arith, low, code_is))
          | inr up ↦ up
        ],
        m.2,
      )

  clear : (i j : ℕ) → Asked names files name p i → (m : ℕ) → p ≤ m → m < i → get_or names m (0, 0) ≡ (code_of name, j) → has files j name ≡ true → ⊥
  clear i j asked m up low is h =
      let none = ap (λ (n : ℕ). answer_at (definition_in name) files n) (sym (ap (λ (e : Entry). e.1) is)) ∙ asked m up low in
      true≢false (sym h ∙ has_answer files j name ∙ ap (λ o. is_some o) none)

  -- no file defines the name if the entries before `i` were asked and that at `i` has another code
  pub none_first : (i : ℕ) → Asked names files name p i → p ≤ i → (i < length names → (get_or names i (0, 0)).0 ≡ code_of name → ⊥) → IsFirst None files places name
  none_first i asked up other j there = by (has files j name) refl
    where
      by : (b : Bool) → has files j name ≡ b → has files j name ≡ false
      by false e = e
      by true e =
          let m = entry_at j there e in
          let m_within = m.1 in
          elim (cases_lt m.0 i) [
            | inl low ↦ absurd (clear i j asked m.0 m.2 low m.3 e)
            | inr high ↦
                let within : i < length names = omega (arith, m_within, high) in
                let order = in_order (get_or names i (0, 0)) (get_or names m.0 (0, 0)) (far names x.sorted i m.0 (0, 0) high m.1) in
                let below = order.0 in
                let above = from.others i up within in
                let code_is = ap (λ (e : Entry). e.0) m.3 in
                let same : (get_or names i (0, 0)).0 ≡ code_of name = omega (arith, below, above, code_is) in
                absurd (other within same)
          ]

  -- the file of the entry at `i` is the first that defines the name if those before were asked
  pub some_first : (i : ℕ) → Asked names files name p i → i < length names → (get_or names i (0, 0)).0 ≡ code_of name → has files (get_or names i (0, 0)).1 name ≡ true
      → IsFirst (Some (get_or names i (0, 0)).1) files places name
  some_first i asked within is h = (
    x.sound (get_or names i (0, 0)) (in_at names i (0, 0) within),
    h,
    λ j there low. by j there low (has files j name) refl,
  )
    where
      by : (j : ℕ) → In j places → j < (get_or names i (0, 0)).1 → (b : Bool) → has files j name ≡ b → has files j name ≡ false
      by j there low false e = e
      by j there low true e =
          let m = entry_at j there e in
          elim (cases_lt m.0 i) [
            | inl before ↦ absurd (clear i j asked m.0 m.2 before m.3 e)
            | inr high ↦
                let order = in_order (get_or names i (0, 0)) (get_or names m.0 (0, 0)) (far names x.sorted i m.0 (0, 0) high m.1) in
                let up = order.1 (is ∙ sym (ap (λ (e : Entry). e.0) m.3)) in
                let place_is = ap (λ (e : Entry). e.1) m.3 in
                absurd (omega (arith, low, up, place_is))
          ]

-- of one entry more
pub asked_more : (names : List Entry) (files : List FileDefs) (name : List ℕ) (p i k : ℕ) → k ≡ (get_or names i (0, 0)).1 → answer_at (definition_in name) files k ≡ None
    → Asked names files name p i → Asked names files name p (i + 1)
asked_more names files name p i k at none asked m up less = elim (cases_lt m i) [
  | inl below ↦ asked m up below
  | inr high ↦
      let same : i ≡ m = omega (arith, less, high) in
      ap (λ (n : ℕ). answer_at (definition_in name) files n) (ap (λ (n : ℕ). (get_or names n (0, 0)).1) (sym same) ∙ sym at) ∙ none
]

pub none_asked : (names : List Entry) (files : List FileDefs) (name : List ℕ) (p : ℕ) → Asked names files name p p
none_asked names files name p m up less = absurd (omega (arith, up, less))

pub has_some : (files : List FileDefs) (k : ℕ) (name : List ℕ) (o : Option (List ℕ × Definition)) → o ≡ answer_at (definition_in name) files k → is_some o ≡ true → has files k name ≡ true
has_some files k name o is some = has_answer files k name ∙ ap (λ o. is_some o) (sym is) ∙ some

pub none_of : {X : Type 0} (o : Option X) → is_some o ≡ false → o ≡ None
none_of None none = refl
none_of (Some x) none = absurd (true≢false none)
