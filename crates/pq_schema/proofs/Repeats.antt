-- A walk over the index finds which names are repeated: entries of one name are neighbours, and the
-- first of them has the first place.
use Rattle.std.proofs.Common.{◌≡◌, ℕ, ◌+◌, ◌<◌, ◌≤◌, Bool, true, false, cond, nat_lt, length, get_or, take, set, replicate, List, refl, sym, ap, subst, ◌∙◌, inl, inr, arith, true≢false}
use Rattle.std.specs.Prelude.{Contains, bytes_eq}
use Rattle.std.specs.List.{list_any}
use Rattle.std.specs.Cmp.Lexicographic.{bytes_decides}
use Rattle.std.specs.Ordering.{is_lt, ordering_reverse}
use Rattle.std.proofs.lemmas.Bool.{cases_lt, cases_eq}
use Rattle.std.proofs.lemmas.Bool.Decides.{nat_tests}
use Rattle.std.proofs.lemmas.List.{get_or_default, get_or-take, length-take-le, length-set, get_or-set_same, get_or-set_other, get_or-replicate, length-replicate}
use Rattle.std.proofs.lemmas.List.Elements.{All-from_get_or}
use Rattle.std.proofs.lemmas.List.Folds.{list_any_at, list_any_none}
use Rattle.pq_schema.proofs.Cases.{either}
use Rattle.pq_schema.proofs.Rising.{by_order, below_before, rises}
use Rattle.pq_schema.proofs.IndexLemmas.{entry_before, entry_of_name, name_of_entry, name_there, no_entry, tied_same, place_below, none_before}
use Rattle.pq_schema.proofs.NumberedNames.{one_at}
use Rattle.pq_schema.specs.Repeated.{is_repeated, AreRepeated}
use Rattle.pq_schema.specs.declared.define.definitions.Definition.{Definition}
use Rattle.pq_schema.specs.aux.NameCodes.{code_order}
use Rattle.pq_schema.specs.aux.CodeOrder.{codes_total}
use Rattle.pq_schema.specs.aux.Copies.{full_names}
use Rattle.pq_schema.specs.aux.Index.{entries, IsIndexOf, name_at, place_at, group_start, IsStart, AreMarked}

-- ---- the entries of a list, by place

has_entry : (j : ℕ) (ds : List Definition) (d : Definition) (name : List ℕ) → j < length ds → (get_or ds j d).full_name ≡ name
    → Contains (entries 0 ds) (name, j)
has_entry j ds d name within is =
    subst (λ (n : List ℕ). Contains (entries 0 ds) (n, j)) is (entry_of_name ds j (get_or ds j d).full_name (name_there ds j d within))

-- ---- which names are repeated

module _ (ds : List Definition) (name : List ℕ) (f : ℕ) (d : Definition) (there : f < length ds) (is : (get_or ds f d).full_name ≡ name)
    (none : (j : ℕ) → j < f → (get_or ds j d).full_name ≡ name → ⊥) where
  -- the definitions before the place `p` have the name exactly if its first place `f` is before `p`
  pub repeated_from : (p : ℕ) → p ≤ length ds → list_any (λ (e : Definition). bytes_eq name e.full_name) (take p ds) ≡ nat_lt f p
  repeated_from p within =
      elim (cases_lt f p) [
        | inl before ↦
            let before_it : (get_or (take p ds) f d).full_name ≡ name = ap (λ (e : Definition). e.full_name) (get_or-take p ds f d before) ∙ is in
            let long : length (take p ds) ≡ p = length-take-le p ds within in
            let inside : f < length (take p ds) = omega (arith, long) in
            let test : nat_lt f p ≡ true = grind (arith, nat_tests) in
            list_any_at (λ (e : Definition). bytes_eq name e.full_name) (take p ds) f d inside
            ((bytes_decides name (get_or (take p ds) f d).full_name).1 (sym before_it))
            ∙ sym test
        | inr past ↦
            let test : nat_lt f p ≡ false = grind (arith, nat_tests) in
            list_any_none (λ (e : Definition). bytes_eq name e.full_name) (take p ds)
            (All-from_get_or (λ (e : Definition). bytes_eq name e.full_name ≡ false) (take p ds) d (λ j lt. free j (omega (arith, lt, length-take-le p ds within)) past))
            ∙ sym test
      ]
    where
      free : (j : ℕ) → j < p → p ≤ f → bytes_eq name (get_or (take p ds) j d).full_name ≡ false
      free j lt past = either (bytes_eq name (get_or (take p ds) j d).full_name) (λ b. b ≡ false)
          (λ t. absurd (none j (omega arith) (ap (λ (e : Definition). e.full_name) (sym (get_or-take p ds j d lt)) ∙ sym ((bytes_decides name (get_or (take p ds) j d).full_name).0 t))))
          (λ _. refl)

module _ (index : List (List ℕ × ℕ)) (ds : List Definition) (x : IsIndexOf index ds) where
  -- an entry is that of a definition
  pub placed : (k : ℕ) → k < length index → place_at index k < length ds
  placed k within =
      let e = get_or index k no_entry in
      let at : Contains index e = (k, within, get_or_default index k e no_entry within) in
      let below = place_below 0 e.1 e.0 ds (x.are.sound e at) in
      omega arith

  -- what an entry says of the definition at its place
  pub named : (k : ℕ) (d : Definition) → k < length index
      → (place_at index k < length ds) × ((get_or ds (place_at index k) d).full_name ≡ name_at index k)
  named k d within =
      let e = get_or index k no_entry in
      let at : Contains index e = (k, within, get_or_default index k e no_entry within) in
      let there = name_of_entry ds e.1 e.0 (x.are.sound e at) in
      let low = placed k within in
      (low, one_at (full_names ds) e.1 (get_or ds e.1 d).full_name e.0 (name_there ds e.1 d low) there)

  -- the first entry of the next name
  pub next_start : (first i : ℕ) → i < length index → IsStart index first i
      → (group_start index first i ≤ i) × IsStart index (group_start index first i) (i + 1)
  next_start first i within s =
      either (bytes_eq (name_at index first) (name_at index i)) (λ b. (cond b first i ≤ i) × IsStart index (cond b first i) (i + 1)) stays begins
    where
      stays : bytes_eq (name_at index first) (name_at index i) ≡ true → (first ≤ i) × IsStart index first (i + 1)
      stays t = (
        s.up,
        record {
          up = let up = s.up in omega arith;
          less = s.less;
          same = λ k from below. elim (cases_eq k i) [
            | inl is ↦ ap (name_at index) is ∙ sym ((bytes_decides (name_at index first) (name_at index i)).0 t)
            | inr other ↦ s.same k from (omega (arith, other))
          ];
        },
      )

      begins : bytes_eq (name_at index first) (name_at index i) ≡ false → (i ≤ i) × IsStart index i (i + 1)
      begins f =
          let a = name_at index first in
          let b = name_at index i in
          let not_above : is_lt (code_order b a) ≡ false = rises code_order codes_total index x.sorted first i no_entry s.up within in
          let below : is_lt (code_order a b) ≡ true =
          by_order (code_order a b) (is_lt (code_order a b) ≡ true)
          (λ o. ap is_lt o)
          (λ o. absurd (true≢false (sym ((bytes_decides a b).1 (tied_same a b o)) ∙ f)))
          (λ o. absurd (true≢false (sym (ap is_lt (codes_total.antisymm b a ∙ ap ordering_reverse o)) ∙ not_above))) in (
            omega arith,
            record {
              up = omega arith;
              less = λ k lt. elim (cases_lt k first) [
                | inl early ↦
                    let high : first < length index = let up = s.up in omega arith in
                    below_before code_order codes_total (name_at index k) a b (rises code_order codes_total index x.sorted k first no_entry (omega arith) high) below
                | inr late ↦ subst (λ (n : List ℕ). is_lt (code_order n b) ≡ true) (sym (s.same k late lt)) below
              ];
              same = λ k from lt. let is : k ≡ i = omega arith in ap (name_at index) is;
            },
          )

  -- what is written for the entry `i`
  pub mark : (first i : ℕ) (d : Definition) → first ≤ i → i < length index → IsStart index first (i + 1)
      → nat_lt (place_at index first) (place_at index i) ≡ is_repeated (get_or ds (place_at index i) d) (take (place_at index i) ds)
  mark first i d up within s =
      let high : first < length index = omega arith in
      let name = name_at index first in
      let start = named first d high in
      let there = named i d within in
      let one : name_at index i ≡ name = s.same i up (omega arith) in
      let others = λ (k : ℕ) (from : first ≤ k) (lt : k < length index). rises code_order codes_total index x.sorted first k no_entry from lt in
      let none = none_before index ds x name first s.less others high refl in
      let full : (get_or ds (place_at index i) d).full_name ≡ name = there.1 ∙ one in
      sym (repeated_from ds name (place_at index first) d start.0 start.1
      (λ j lt is. none j lt (has_entry j ds d name (let low = start.0 in omega arith) is))
      (place_at index i) (let low = there.0 in omega arith))
      ∙ ap (λ (n : List ℕ). list_any (λ (e : Definition). bytes_eq n e.full_name) (take (place_at index i) ds)) (sym full)

  -- no entry yet
  pub marked_none : (flags : List Bool) → flags ≡ replicate (length ds) true → AreMarked index ds flags 0
  marked_none flags is = record {
    count = ap length is ∙ length-replicate (length ds) true;
    marked = λ k d below. absurd (omega (arith, below));
    copies = λ n d within repeated. ap (λ (fs : List Bool). get_or fs n false) is ∙ get_or-replicate (length ds) n true false within;
  }

  -- one more entry
  pub marked_more : (flags : List Bool) (first i : ℕ) → first ≤ i → i < length index → IsStart index first (i + 1) → AreMarked index ds flags i
      → AreMarked index ds (set flags (place_at index i) (nat_lt (place_at index first) (place_at index i))) (i + 1)
  marked_more flags first i up within s m =
      let p = place_at index i in
      let v = nat_lt (place_at index first) p in
      record {
        count = length-set flags p v ∙ m.count;
        copies = λ n d within' repeated. elim (cases_eq n p) [
          | inl is ↦
              let inside : p < length flags = let low = (named i d within).0 in let count = m.count in omega arith in
              ap (λ (k : ℕ). get_or (set flags p v) k false) is
              ∙ get_or-set_same flags p v false inside
              ∙ mark first i d up within s
              ∙ ap (λ (k : ℕ). is_repeated (get_or ds k d) (take k ds)) (sym is)
              ∙ repeated
          | inr other ↦ get_or-set_other flags p n v false other ∙ m.copies n d within' repeated
        ];
        marked = λ k d below. elim (cases_eq (place_at index k) p) [
          | inl is ↦
              let inside : p < length flags = let low = (named i d within).0 in let count = m.count in omega arith in
              ap (λ (n : ℕ). get_or (set flags p v) n false) is
              ∙ get_or-set_same flags p v false inside
              ∙ mark first i d up within s
              ∙ ap (λ (n : ℕ). is_repeated (get_or ds n d) (take n ds)) (sym is)
          | inr other ↦ elim (cases_eq k i) [
            | inl last ↦ absurd (other (ap (place_at index) last))
            | inr before ↦ get_or-set_other flags p (place_at index k) v false other ∙ m.marked k d (omega (arith, before))
          ]
        ];
      }

  -- no entry is left
  pub marked_all : (flags : List Bool) (i : ℕ) → length index ≤ i → AreMarked index ds flags i → AreRepeated flags ds
  marked_all flags i past m = record {
    count = m.count;
    each = λ n d within.
        let name = (get_or ds n d).full_name in
        let f = entry_before index ds x name n (has_entry n ds d name within refl) in
        elim (cases_lt f.0 n) [
          | inl before ↦
              let low : f.0 < length ds = omega (arith, before, within) in
              let same : (get_or ds f.0 d).full_name ≡ name =
              one_at (full_names ds) f.0 (get_or ds f.0 d).full_name name (name_there ds f.0 d low) (name_of_entry ds f.0 name (x.are.sound (name, f.0) f.2)) in
              let repeated = is_repeated_after f.0 n d before within same in
              m.copies n d within repeated ∙ sym repeated
          | inr up ↦
              let is : f.0 ≡ n = let most = f.1 in omega (arith, up) in
              let at : place_at index f.2.0 ≡ n = ap (λ (y : List ℕ × ℕ). y.1) (get_or_default index f.2.0 no_entry (name, f.0) f.2.1 ∙ f.2.2) ∙ is in
              let lt : f.2.0 < i = let high = f.2.1 in omega (arith, high, past) in
              ap (λ (k : ℕ). get_or flags k false) (sym at)
              ∙ m.marked f.2.0 d lt
              ∙ ap (λ (k : ℕ). is_repeated (get_or ds k d) (take k ds)) at
        ];
  }
    where
      is_repeated_after : (j n : ℕ) (d : Definition) → j < n → n < length ds → (get_or ds j d).full_name ≡ (get_or ds n d).full_name
          → is_repeated (get_or ds n d) (take n ds) ≡ true
      is_repeated_after j n d before within same =
          let name = (get_or ds n d).full_name in
          let here : (get_or (take n ds) j d).full_name ≡ name = ap (λ (e : Definition). e.full_name) (get_or-take n ds j d before) ∙ same in
          let long : length (take n ds) ≡ n = length-take-le n ds (omega (arith, within)) in
          list_any_at (λ (e : Definition). bytes_eq name e.full_name) (take n ds) j d (omega (arith, before, long))
          ((bytes_decides name (get_or (take n ds) j d).full_name).1 (sym here))
