-- A search of the index finds the first definition of a name: its entries are sorted by name, then
-- by place, so the first entry of a name is that of its first definition.
use Rattle.std.proofs.Common.{◌≡◌, ℕ, zero, suc, ◌+◌, ◌<◌, ◌≤◌, true, false, cond, nat_lt, nat_eq, length, get_or, List, [], ◌∷◌, ◌++◌, Some, None, refl, sym, ap, subst, ◌∙◌, inl, inr, arith, true≢false}
use Rattle.std.specs.Prelude.{Contains, bytes_eq, find}
use Rattle.std.specs.List.Sorted.{IsPermutation}
use Rattle.std.specs.Cmp.Lexicographic.{bytes_decides}
use Rattle.std.specs.Ordering.{nat_cmp, is_lt, is_eq, ordering_then, ordering_reverse}
use Rattle.std.specs.declared.cmp.Ordering.{Ordering}
use Rattle.std.specs.declared.cmp.Ordering.TheVariants.{Less, Equal, Greater}
use Rattle.std.proofs.lemmas.Bool.{cases_lt}
use Rattle.std.proofs.lemmas.Bool.Decides.{nat_tests}
use Rattle.std.proofs.lemmas.Cmp.{tied_itself}
use Rattle.std.proofs.lemmas.List.{get_or_default}
use Rattle.std.proofs.lemmas.List.Elements.{Contains-append_cases, Contains-append_left, Contains-append_right}
use Rattle.std.proofs.lemmas.Option.{get_or_from_slice_get, slice_get_within}
use Rattle.std.proofs.lemmas.List.Sorted.{sorted_far, ranks_by, Contains-permutation, IsPermutation-sym}
use Rattle.pq_schema.proofs.Cases.{either}
use Rattle.pq_schema.proofs.Rising.{by_order, by_name_total, not_below_itself, rises}
use Rattle.pq_schema.specs.declared.define.definitions.Definition.{Definition}
use Rattle.pq_schema.specs.aux.NameCodes.{code_order}
use Rattle.pq_schema.specs.aux.CodeOrder.{codes_total, codes_tie}
use Rattle.pq_schema.specs.aux.Copies.{At, IsCopy, full_names}
use Rattle.pq_schema.specs.aux.Index.{entry_order, entries, AreEntries, IsIndexOf}
use Rattle.pq_schema.proofs.NumberedNames.{one_at}

-- ---- the entries of a list

abbrev pub no_entry : List ℕ × ℕ
no_entry = ([], 0)

-- the places of entries from `n` on are not below `n`
place_from : (n m : ℕ) (name : List ℕ) (ds : List Definition) → Contains (entries n ds) (name, m) → n ≤ m
unfolding entries
place_from n m name [] (k, within, is) = absurd (omega arith)
place_from n m name (d ∷ ds) (zero, within, is) = let same : n ≡ m = ap (λ (e : List ℕ × ℕ). e.1) is in omega arith
place_from n m name (d ∷ ds) (suc k, within, is) = let more = place_from (suc n) m name ds (k, (omega arith), is) in omega arith

-- and below `n` and their number
pub place_below : (n m : ℕ) (name : List ℕ) (ds : List Definition) → Contains (entries n ds) (name, m) → m < n + length ds
unfolding entries
place_below n m name [] (k, within, is) = absurd (omega arith)
place_below n m name (d ∷ ds) (zero, within, is) = let same : n ≡ m = ap (λ (e : List ℕ × ℕ). e.1) is in omega arith
place_below n m name (d ∷ ds) (suc k, within, is) = let more = place_below (suc n) m name ds (k, (omega arith), is) in omega arith

later : (n m : ℕ) (name : List ℕ) (d : Definition) (ds : List Definition) → Contains (entries (suc n) ds) (name, m) → Contains (entries n (d ∷ ds)) (name, m)
unfolding entries
later n m name d ds c = let within : c.0 < length (entries (suc n) ds) = c.1 in (suc c.0, (omega arith), c.2)

here : (n : ℕ) (name : List ℕ) (d : Definition) (ds : List Definition) → d.full_name ≡ name → Contains (entries n (d ∷ ds)) (name, n)
unfolding entries
here n name d ds e = (zero, (omega arith), ap (λ (x : List ℕ). (x, n)) e)

-- a name without an entry is not found
pub none_found : (n : ℕ) (name : List ℕ) (ds : List Definition) → ((m : ℕ) → Contains (entries n ds) (name, m) → ⊥)
    → find (λ (d : Definition). bytes_eq d.full_name name) ds ≡ None
none_found n name [] h = refl
none_found n name (d ∷ ds) h = either (bytes_eq d.full_name name) (λ b. cond b (Some d) (find (λ (x : Definition). bytes_eq x.full_name name) ds) ≡ None)
    (λ t. absurd (h n (here n name d ds ((bytes_decides d.full_name name).0 t))))
    (λ _. none_found (suc n) name ds (λ m c. h m (later n m name d ds c)))

-- the first entry of a name is that of the definition that is found
first_found : (n i : ℕ) (name : List ℕ) (ds : List Definition) (e : Definition) → Contains (entries n ds) (name, n + i)
    → ((j : ℕ) → j < n + i → Contains (entries n ds) (name, j) → ⊥)
    → (i < length ds) × (find (λ (d : Definition). bytes_eq d.full_name name) ds ≡ Some (get_or ds i e))
unfolding entries
first_found n i name [] e (k, within, is) first = absurd (omega arith)
first_found n zero name (d ∷ ds) e (zero, within, is) first =
    let same : d.full_name ≡ name = ap (λ (x : List ℕ × ℕ). x.0) is in
    (omega arith, ap (λ b. cond b (Some d) (find (λ (x : Definition). bytes_eq x.full_name name) ds)) ((bytes_decides d.full_name name).1 same))
first_found n zero name (d ∷ ds) e (suc k, within, is) first =
    let more = place_from (suc n) (n + zero) name ds (k, (omega arith), is) in absurd (omega arith)
first_found n (suc i) name (d ∷ ds) e (zero, within, is) first =
    let same : n ≡ n + suc i = ap (λ (x : List ℕ × ℕ). x.1) is in absurd (omega arith)
first_found n (suc i) name (d ∷ ds) e (suc k, within, is) first =
    let at : n + suc i ≡ suc n + i = omega arith in
    let there : Contains (entries (suc n) ds) (name, suc n + i) = subst (λ (m : ℕ). Contains (entries (suc n) ds) (name, m)) at (k, (omega arith), is) in
    let rest = first_found (suc n) i name ds e there (λ j below c. first j (omega arith) (later n j name d ds c)) in
    let inside = rest.0 in (
      omega arith,
      either (bytes_eq d.full_name name) (λ b. cond b (Some d) (find (λ (x : Definition). bytes_eq x.full_name name) ds) ≡ Some (get_or ds i e))
          (λ t. absurd (first n (omega arith) (here n name d ds ((bytes_decides d.full_name name).0 t))))
          (λ _. rest.1),
    )

-- ---- the order

pub tied_same : (a b : List ℕ) → code_order a b ≡ Equal → a ≡ b
tied_same a b tie = (bytes_decides a b).0 (codes_tie a b ∙ ap is_eq tie)

-- ---- what is at the first entry whose name is not below a name

-- a definition has an entry of its name at its place or before
pub entry_before : (index : List (List ℕ × ℕ)) (ds : List Definition) → IsIndexOf index ds → (name : List ℕ) (m : ℕ) → Contains (entries 0 ds) (name, m)
    → (j : ℕ) × (j ≤ m) × Contains index (name, j)
entry_before index ds x name m c = let below = place_below 0 m name ds c in x.are.first name m (omega arith) c

module _ (index : List (List ℕ × ℕ)) (ds : List Definition) (x : IsIndexOf index ds) (name : List ℕ) (p : ℕ)
    (less : (k : ℕ) → k < p → is_lt (code_order (get_or index k no_entry).0 name) ≡ true)
    (others : (k : ℕ) → p ≤ k → k < length index → is_lt (code_order (get_or index k no_entry).0 name) ≡ false) where
  -- an entry of the name is at `p` or later
  at_or_later : (m : ℕ) → Contains index (name, m) → (k : ℕ) × (k < length index) × (get_or index k no_entry ≡ (name, m)) × (p ≤ k)
  at_or_later m there =
      let is : get_or index there.0 no_entry ≡ (name, m) = get_or_default index there.0 no_entry (name, m) there.1 ∙ there.2 in (
        there.0,
        there.1,
        is,
        elim (cases_lt there.0 p) [
          | inl below ↦ absurd (not_below_itself code_order codes_total name (subst (λ (e : List ℕ × ℕ). is_lt (code_order e.0 name) ≡ true) is (less there.0 below)))
          | inr up ↦ up
        ],
      )

  pub miss : (p < length index → (get_or index p no_entry).0 ≡ name → ⊥) → find (λ (d : Definition). bytes_eq d.full_name name) ds ≡ None
  miss free = none_found 0 name ds (λ m c.
      let f = entry_before index ds x name m c in
      let k = at_or_later f.0 f.2 in
      let k_within = k.1 in
      let up = k.3 in
      let within : p < length index = omega arith in
      let e = get_or index p no_entry in
      let not_above : is_lt (code_order name e.0) ≡ false =
      subst (λ (f : List ℕ × ℕ). is_lt (code_order f.0 e.0) ≡ false) k.2 (rises code_order codes_total index x.sorted p k.0 no_entry k.3 k.1) in
      by_order (code_order e.0 name) ⊥
      (λ o. true≢false (sym (ap is_lt o) ∙ others p (omega arith) within))
      (λ o. free within (tied_same e.0 name o))
      (λ o. true≢false (sym (ap is_lt (codes_total.antisymm name e.0 ∙ ap ordering_reverse o)) ∙ not_above)))

  hit_there : p < length index → (get_or index p no_entry).0 ≡ name → Contains (entries 0 ds) (name, (get_or index p no_entry).1)
  hit_there within is =
      let e = get_or index p no_entry in
      let e_is : e ≡ (name, e.1) = ap (λ (n : List ℕ). (n, e.1)) is in
      let at_p : Contains index (name, e.1) = (p, within, get_or_default index p (name, e.1) no_entry within ∙ e_is) in
      x.are.sound (name, e.1) at_p

  pub hit_within : p < length index → (get_or index p no_entry).0 ≡ name → (get_or index p no_entry).1 < length ds
  hit_within within is =
      let below = place_below 0 (get_or index p no_entry).1 name ds (hit_there within is) in omega arith

  -- no definition of the name is at a place before that of the entry
  pub none_before : p < length index → (get_or index p no_entry).0 ≡ name → (j : ℕ) → j < (get_or index p no_entry).1
      → Contains (entries 0 ds) (name, j) → ⊥
  none_before within is j below c =
      let e = get_or index p no_entry in
      let f = entry_before index ds x name j c in
      let k = at_or_later f.0 f.2 in
      let low : f.0 < e.1 = let up_to = f.1 in omega arith in
      let up : is_lt (entry_order (get_or index k.0 no_entry) e) ≡ false =
      sorted_far (λ (x y : List ℕ × ℕ). is_lt (entry_order x y)) (ranks_by (by_name_total code_order codes_total) (λ (f : List ℕ × ℕ). f)) index x.sorted p k.0 no_entry k.3 k.1 in
      let up_names : is_lt (ordering_then (code_order name name) (nat_cmp f.0 e.1)) ≡ false =
      subst (λ (n : List ℕ). is_lt (ordering_then (code_order name n) (nat_cmp f.0 e.1)) ≡ false) is
      (subst (λ (f : List ℕ × ℕ). is_lt (entry_order f e) ≡ false) k.2 up) in
      let up_places : is_lt (nat_cmp f.0 e.1) ≡ false =
      subst (λ (o : Ordering). is_lt (ordering_then o (nat_cmp f.0 e.1)) ≡ false) (tied_itself codes_total name) up_names in
      let test : nat_lt f.0 e.1 ≡ true = grind (arith, nat_tests) in
      let j_less : is_lt (nat_cmp f.0 e.1) ≡ true = ap (λ b. is_lt (cond b Less (cond (nat_eq f.0 e.1) Equal Greater))) test in
      true≢false (sym j_less ∙ up_places)

  pub hit : (d : Definition) → p < length index → (get_or index p no_entry).0 ≡ name
      → find (λ (d : Definition). bytes_eq d.full_name name) ds ≡ Some (get_or ds (get_or index p no_entry).1 d)
  hit d within is =
      let e = get_or index p no_entry in
      let plus : e.1 ≡ 0 + e.1 = omega arith in
      (first_found 0 e.1 name ds d (subst (λ (m : ℕ). Contains (entries 0 ds) (name, m)) plus (hit_there within is))
      (λ j below c. none_before within is j (omega arith) c)).1

-- ---- entries and names, by place

pub name_there : (ds : List Definition) (k : ℕ) (d : Definition) → k < length ds → At (full_names ds) k (get_or ds k d).full_name
name_there [] k d within = absurd (omega arith)
name_there (x ∷ ds) zero d within = refl
name_there (x ∷ ds) (suc k) d within = name_there ds k d (omega arith)

entry_from : (n k : ℕ) (ds : List Definition) (name : List ℕ) → At (full_names ds) k name → Contains (entries n ds) (name, n + k)
unfolding entries
entry_from n k [] name at = let within = slice_get_within (full_names []) k name at in absurd (omega arith)
entry_from n zero (x ∷ ds) name at =
    let plus : n ≡ n + 0 = omega arith in
    subst (λ (m : ℕ). Contains (entries n (x ∷ ds)) (name, m)) plus
    (here n name x ds (get_or_from_slice_get (full_names (x ∷ ds)) 0 name name at))
entry_from n (suc k) (x ∷ ds) name at =
    let plus : suc n + k ≡ n + suc k = omega arith in
    subst (λ (m : ℕ). Contains (entries n (x ∷ ds)) (name, m)) plus (later n (suc n + k) name x ds (entry_from (suc n) k ds name at))

name_from : (n k : ℕ) (ds : List Definition) (name : List ℕ) → Contains (entries n ds) (name, n + k) → At (full_names ds) k name
unfolding entries
name_from n k [] name (i, within, is) = absurd (omega arith)
name_from n zero (x ∷ ds) name (zero, within, is) = ap (λ (e : List ℕ × ℕ). Some e.0) is
name_from n zero (x ∷ ds) name (suc i, within, is) =
    let more = place_from (suc n) (n + zero) name ds (i, (omega arith), is) in absurd (omega arith)
name_from n (suc k) (x ∷ ds) name (zero, within, is) =
    let same : n ≡ n + suc k = ap (λ (e : List ℕ × ℕ). e.1) is in absurd (omega arith)
name_from n (suc k) (x ∷ ds) name (suc i, within, is) =
    let plus : n + suc k ≡ suc n + k = omega arith in
    name_from (suc n) k ds name (subst (λ (m : ℕ). Contains (entries (suc n) ds) (name, m)) plus (i, (omega arith), is))

zero_plus : (k : ℕ) → 0 + k ≡ k
zero_plus k = omega arith

-- a name has an entry at its place
pub entry_of_name : (ds : List Definition) (k : ℕ) (name : List ℕ) → At (full_names ds) k name → Contains (entries 0 ds) (name, k)
entry_of_name ds k name at = subst (λ (m : ℕ). Contains (entries 0 ds) (name, m)) (zero_plus k) (entry_from 0 k ds name at)

-- and an entry its name
pub name_of_entry : (ds : List Definition) (k : ℕ) (name : List ℕ) → Contains (entries 0 ds) (name, k) → At (full_names ds) k name
name_of_entry ds k name c = name_from 0 k ds name (subst (λ (m : ℕ). Contains (entries 0 ds) (name, m)) (sym (zero_plus k)) c)

-- ---- the loop that builds the entries

pub entries_none : (index : List (List ℕ × ℕ)) (ds : List Definition) → index ≡ [] → AreEntries index ds 0
entries_none index ds is = record {
  sound = λ e c. let none : length index ≡ 0 = ap length is in let within = c.1 in absurd (omega arith);
  first = λ name m below c. absurd (omega (arith, below));
}

-- one more entry
pub entries_more : (ds : List Definition) (n : ℕ) (old more : List (List ℕ × ℕ)) (name : List ℕ) → At (full_names ds) n name
    → more ≡ old ++ (name, n) ∷ [] → AreEntries old ds n → AreEntries more ds (n + 1)
entries_more ds n old more name at is are = subst (λ (es : List (List ℕ × ℕ)). AreEntries es ds (n + 1)) (sym is) (record {
  sound = λ e c. elim (Contains-append_cases old ((name, n) ∷ []) e c) [
    | inl before ↦ are.sound e before
    | inr last ↦ subst (Contains (entries 0 ds)) (only e last) (entry_of_name ds n name at)
  ];
  first = λ other m below c. elim (cases_lt m n) [
    | inl before ↦ let f = are.first other m before c in (f.0, f.1, Contains-append_left old ((name, n) ∷ []) (other, f.0) f.2)
    | inr past ↦ own other m (omega (arith, below, past)) c
  ];
})
  where
    only : (e : List ℕ × ℕ) → Contains ((name, n) ∷ []) e → (name, n) ≡ e
    only e (zero, within, same) = same
    only e (suc k, within, same) = absurd (omega arith)

    own : (other : List ℕ) (m : ℕ) → m ≡ n → Contains (entries 0 ds) (other, m) → (j : ℕ) × (j ≤ m) × Contains (old ++ (name, n) ∷ []) (other, j)
    own other m same c =
        let there : At (full_names ds) n other = subst (λ (k : ℕ). At (full_names ds) k other) same (name_of_entry ds m other c) in (
          n,
          omega arith,
          subst (λ (b : List ℕ). Contains (old ++ (name, n) ∷ []) (b, n)) (one_at (full_names ds) n name other at there)
              (Contains-append_right old ((name, n) ∷ []) (name, n) (0, (omega arith), refl)),
        )

-- a copy needs no entry
pub entries_copy : (ds : List Definition) (n : ℕ) (index : List (List ℕ × ℕ)) → IsCopy (full_names ds) n → AreEntries index ds n → AreEntries index ds (n + 1)
entries_copy ds n index copy are = record {
  sound = are.sound;
  first = λ other m below c. elim (cases_lt m n) [
    | inl before ↦ are.first other m before c
    | inr past ↦ earlier other m (omega (arith, below, past)) c
  ];
}
  where
    earlier : (other : List ℕ) (m : ℕ) → m ≡ n → Contains (entries 0 ds) (other, m) → (j : ℕ) × (j ≤ m) × Contains index (other, j)
    earlier other m same c =
        let there : At (full_names ds) n other = subst (λ (k : ℕ). At (full_names ds) k other) same (name_of_entry ds m other c) in
        let f = are.first copy.2 copy.0 copy.1 (entry_of_name ds copy.0 copy.2 copy.3) in
        let low = f.1 in
        let before = copy.1 in (
          f.0,
          omega arith,
          subst (λ (b : List ℕ). Contains index (b, f.0)) (one_at (full_names ds) n copy.2 other copy.4 there) f.2,
        )

-- all definitions were seen
pub entries_all : (ds : List Definition) (n : ℕ) (index : List (List ℕ × ℕ)) → length ds ≤ n → AreEntries index ds n → AreEntries index ds (length ds)
entries_all ds n index past are = record { sound = are.sound; first = λ name m below c. are.first name m (omega (arith, past, below)) c }

-- in another order
pub entries_moved : (ds : List Definition) (n : ℕ) (old new : List (List ℕ × ℕ)) → IsPermutation old new → AreEntries old ds n → AreEntries new ds n
entries_moved ds n old new moved are = record {
  sound = λ e c. are.sound e (Contains-permutation new old e (IsPermutation-sym old new moved) c);
  first = λ name m below c.
      let f = are.first name m below c in (f.0, f.1, Contains-permutation old new (name, f.0) moved f.2);
}
