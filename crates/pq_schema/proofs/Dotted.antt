-- Names with a dot after them, in the order of their bytes.
use Rattle.std.proofs.Common.{◌≡◌, ℕ, ◌+◌, ◌-◌, ◌<◌, ◌≤◌, Bool, true, false, cond, ◌&&◌, nat_eq, nat_lt, length, get_or, drop, List, [], ◌∷◌, Some, None, refl, sym, ap, subst, ◌∙◌, true≢false, arith, inl, inr}
use Rattle.std.specs.Prelude.{bytes_eq, slice_get}
use Rattle.std.specs.List.{Contains, list_any, starts_with}
use Rattle.std.specs.List.Sorted.{IsSorted}
use Rattle.std.specs.Cmp.Lexicographic.{slice_cmp}
use Rattle.std.specs.Ordering.{nat_cmp, is_lt, is_eq, ordering_then}
use Rattle.std.specs.declared.cmp.Ordering.{Ordering}
use Rattle.std.specs.declared.cmp.Ordering.TheVariants.{Less, Equal, Greater}
use Rattle.std.proofs.lemmas.Bool.{cases_lt}
use Rattle.std.proofs.lemmas.Bool.Decides.{same_from_decides, Decides-eqb, Decides-like}
use Rattle.std.proofs.lemmas.Cmp.{tied_itself, nat_cmp_total, nat_list_cmp_total}
use Rattle.std.proofs.lemmas.List.{get_or-drop, get_or_default}
use Rattle.std.proofs.lemmas.List.Folds.{list_any_at, list_any_none}
use Rattle.std.proofs.lemmas.Map.Text.{is_eq-slice_cmp}
use Rattle.std.proofs.lemmas.Option.{slice_get_within, get_or_from_slice_get}
use Rattle.pq_rules.specs.Relations.{In}
use Rattle.pq_schema.proofs.Cases.{either}
use Rattle.pq_schema.proofs.Rising.{by_order, not_below_itself, tied, rises}
use Rattle.pq_schema.specs.aux.Grouping.{root_order}
use Rattle.pq_schema.specs.aux.InPackage.{dotted}

abbrev order : List ℕ → List ℕ → Ordering
order = slice_cmp nat_cmp

and_false : (b : Bool) → (b && false) ≡ false
and_false true = refl
and_false false = refl

and_swapped : (a b c : Bool) → (a && (b && c)) ≡ (b && (a && c))
and_swapped true true c = refl
and_swapped true false c = refl
and_swapped false true c = refl
and_swapped false false c = refl

same_turned : (m n : ℕ) → nat_eq m n ≡ nat_eq n m
same_turned m n = same_from_decides (nat_eq m n) (nat_eq n m) (Decides-eqb m n) (Decides-like (nat_eq n m) (λ e. sym e) (λ e. sym e) (Decides-eqb n m))

-- ---- the tests of an entry

-- the first bytes differ, or are the same
bytes_by : (x c : ℕ) (P : Type 0) → (x ≡ c → P) → (nat_cmp x c ≡ Less → P) → (nat_cmp x c ≡ Greater → P) → P
bytes_by x c P same less more =
    by_order (nat_cmp x c) P less (λ e. same ((Decides-eqb x c).0 (tie (nat_lt x c) (nat_eq x c) e))) more
  where
    tie : (a b : Bool) → cond a Less (cond b Equal Greater) ≡ Equal → b ≡ true
    tie true b e = cc
    tie false true e = refl
    tie false false e = cc

pub starts_first : (x c : ℕ) (xs cs : List ℕ) (b : Bool) → x ≡ c → starts_with nat_eq (x ∷ xs) (c ∷ cs) ≡ b → starts_with nat_eq xs cs ≡ b
starts_first x c xs cs b same h = sym (ap (λ (t : Bool). t && starts_with nat_eq xs cs) ((Decides-eqb c x).1 (sym same))) ∙ h

tie_first : (x c : ℕ) (o : Ordering) → x ≡ c → ordering_then (nat_cmp x c) o ≡ o
tie_first x c o same =
    ap (λ (n : ℕ). ordering_then (nat_cmp x n) o) (sym same) ∙ ap (λ (t : Ordering). ordering_then t o) (tied_itself nat_cmp_total x)

-- what does not begin with a name is before the name with a dot where it is before the name
pub before_outside : (e q : List ℕ) → starts_with nat_eq e q ≡ false → is_lt (order e q) ≡ is_lt (order e (dotted q))
before_outside e [] h = absurd (true≢false h)
before_outside [] (c ∷ cs) h = refl
before_outside (x ∷ xs) (c ∷ cs) h =
    bytes_by x c (is_lt (order (x ∷ xs) (c ∷ cs)) ≡ is_lt (order (x ∷ xs) (dotted (c ∷ cs))))
    (λ same. ap is_lt (tie_first x c (order xs cs) same)
    ∙ before_outside xs cs (starts_first x c xs cs false same h)
    ∙ sym (ap is_lt (tie_first x c (order xs (dotted cs)) same)))
    (λ less. ap (λ (o : Ordering). is_lt (ordering_then o (order xs cs))) less ∙ sym (ap (λ (o : Ordering). is_lt (ordering_then o (order xs (dotted cs)))) less))
    (λ more. ap (λ (o : Ordering). is_lt (ordering_then o (order xs cs))) more ∙ sym (ap (λ (o : Ordering). is_lt (ordering_then o (order xs (dotted cs)))) more))

dot_first : (a b : Bool) (bs : List ℕ) → is_lt (ordering_then (cond a Less (cond b Equal Greater)) (order bs [])) ≡ a
dot_first true b bs = refl
dot_first false true [] = refl
dot_first false true (b ∷ bs) = refl
dot_first false false bs = refl

-- what begins with a name is before the name with a dot where its next byte is before the dot
pub before_inside : (e q : List ℕ) (b : ℕ) → starts_with nat_eq e q ≡ true → slice_get e (length q) ≡ Some b → nat_lt b 46 ≡ is_lt (order e (dotted q))
before_inside [] [] b h at = cc
before_inside (x ∷ xs) [] b h at =
    let same : x ≡ b = cc in ap (λ (n : ℕ). nat_lt n 46) (sym same) ∙ sym (dot_first (nat_lt x 46) (nat_eq x 46) xs)
before_inside [] (c ∷ cs) b h at = absurd (true≢false (sym h))
before_inside (x ∷ xs) (c ∷ cs) b h at =
    bytes_by x c (nat_lt b 46 ≡ is_lt (order (x ∷ xs) (dotted (c ∷ cs))))
    (λ same. before_inside xs cs b (starts_first x c xs cs true same h) at ∙ sym (ap is_lt (tie_first x c (order xs (dotted cs)) same)))
    (λ less. absurd (unlike x c xs cs Less less h (λ e. cc)))
    (λ more. absurd (unlike x c xs cs Greater more h (λ e. cc)))
  where
    unlike : (x c : ℕ) (xs cs : List ℕ) (o : Ordering) → nat_cmp x c ≡ o → starts_with nat_eq (x ∷ xs) (c ∷ cs) ≡ true → (o ≡ Equal → ⊥) → ⊥
    unlike x c xs cs o is h not_tied = either (nat_eq c x) (λ b. ⊥)
        (λ t. not_tied (sym is ∙ ap (λ (n : ℕ). nat_cmp x n) ((Decides-eqb c x).0 t) ∙ tied_itself nat_cmp_total x))
        (λ f. true≢false (sym h ∙ ap (λ (t : Bool). t && starts_with nat_eq xs cs) f))

-- a name itself is before the name with a dot
pub before_end : (e q : List ℕ) → starts_with nat_eq e q ≡ true → slice_get e (length q) ≡ None → true ≡ is_lt (order e (dotted q))
before_end [] [] h at = refl
before_end (x ∷ xs) [] h at = cc
before_end [] (c ∷ cs) h at = refl
before_end (x ∷ xs) (c ∷ cs) h at =
    either (nat_eq c x) (λ b. true ≡ is_lt (order (x ∷ xs) (dotted (c ∷ cs))))
    (λ t. let same = sym ((Decides-eqb c x).0 t) in
    before_end xs cs (starts_first x c xs cs true same h) at ∙ sym (ap is_lt (tie_first x c (order xs (dotted cs)) same)))
    (λ f. absurd (true≢false (sym h ∙ ap (λ (t : Bool). t && starts_with nat_eq xs cs) f)))

-- what begins with a name and a dot
pub inside_at : (e q : List ℕ) (b : ℕ) → slice_get e (length q) ≡ Some b → (nat_eq b 46 && starts_with nat_eq e q) ≡ starts_with nat_eq e (dotted q)
inside_at [] [] b at = cc
inside_at (x ∷ xs) [] b at = let same : x ≡ b = cc in ap (λ (t : Bool). t && true) (same_turned b 46 ∙ ap (λ (n : ℕ). nat_eq 46 n) (sym same))
inside_at [] (c ∷ cs) b at = cc
inside_at (x ∷ xs) (c ∷ cs) b at =
    and_swapped (nat_eq b 46) (nat_eq c x) (starts_with nat_eq xs cs) ∙ ap (λ (t : Bool). nat_eq c x && t) (inside_at xs cs b at)

pub inside_none : (e q : List ℕ) → slice_get e (length q) ≡ None → false ≡ starts_with nat_eq e (dotted q)
inside_none [] [] at = refl
inside_none (x ∷ xs) [] at = cc
inside_none [] (c ∷ cs) at = refl
inside_none (x ∷ xs) (c ∷ cs) at = sym (and_false (nat_eq c x)) ∙ ap (λ (t : Bool). nat_eq c x && t) (inside_none xs cs at)

-- what is a name with a dot after it: of the same length, and begins with it
pub whole : (e d : List ℕ) → length e ≡ length d → starts_with nat_eq e d ≡ bytes_eq e d
whole [] [] h = refl
whole (x ∷ xs) [] h = absurd (omega arith)
whole [] (d ∷ ds) h = absurd (omega arith)
whole (x ∷ xs) (d ∷ ds) h =
    ap (λ (t : Bool). t && starts_with nat_eq xs ds) (same_turned d x) ∙ ap (λ (t : Bool). nat_eq x d && t) (whole xs ds (omega arith))

pub other_length : (e d : List ℕ) → (length e ≡ length d → ⊥) → false ≡ bytes_eq e d
other_length [] [] h = absurd (h refl)
other_length (x ∷ xs) [] h = refl
other_length [] (d ∷ ds) h = refl
other_length (x ∷ xs) (d ∷ ds) h =
    sym (and_false (nat_eq x d)) ∙ ap (λ (t : Bool). nat_eq x d && t) (other_length xs ds (λ same. h (omega arith)))

pub dotted_length : (q : List ℕ) → length (dotted q) ≡ length q + 1
dotted_length [] = refl
dotted_length (c ∷ cs) = let rest = dotted_length cs in omega arith

-- ---- those that begin with a name are neighbours

-- what is between a name and what begins with it begins with it
pub between : (q x p : List ℕ) → is_lt (order x q) ≡ false → is_lt (order p x) ≡ false → starts_with nat_eq p q ≡ true → starts_with nat_eq x q ≡ true
between [] x p up down h = refl
between (c ∷ cs) [] p up down h = absurd (true≢false up)
between (c ∷ cs) (y ∷ ys) [] up down h = absurd (true≢false (sym h))
between (c ∷ cs) (y ∷ ys) (z ∷ zs) up down h =
    either (nat_eq c z) (λ b. starts_with nat_eq (y ∷ ys) (c ∷ cs) ≡ true)
    (λ t. let same = sym ((Decides-eqb c z).0 t) in
    bytes_by y c (starts_with nat_eq (y ∷ ys) (c ∷ cs) ≡ true)
    (λ e. ap (λ (t : Bool). t && starts_with nat_eq ys cs) ((Decides-eqb c y).1 (sym e))
    ∙ between cs ys zs
    (sym (ap is_lt (tie_first y c (order ys cs) e)) ∙ up)
    (sym (ap is_lt (tie_first z y (order zs ys) (same ∙ sym e))) ∙ down)
    (starts_first z c zs cs true same h))
    (λ less. absurd (true≢false (sym (ap (λ (o : Ordering). is_lt (ordering_then o (order ys cs))) less) ∙ up)))
    (λ more. absurd (true≢false (sym (ap (λ (o : Ordering). is_lt (ordering_then o (order zs ys))) (lower z y c same more)) ∙ down))))
    (λ f. absurd (true≢false (sym h ∙ ap (λ (t : Bool). t && starts_with nat_eq zs cs) f)))
  where
    lower : (z y c : ℕ) → z ≡ c → nat_cmp y c ≡ Greater → nat_cmp z y ≡ Less
    lower z y c same more = ap (λ (n : ℕ). nat_cmp n y) same ∙ nat_cmp_total.antisymm c y ∙ ap Rattle.std.specs.Ordering.ordering_reverse more

-- what begins with a name is not before it
pub not_before : (p q : List ℕ) → starts_with nat_eq p q ≡ true → is_lt (order p q) ≡ true → ⊥
not_before [] [] h l = cc
not_before (z ∷ zs) [] h l = cc
not_before [] (c ∷ cs) h l = cc
not_before (z ∷ zs) (c ∷ cs) h l = either (nat_eq c z) (λ b. ⊥)
    (λ t. let same = sym ((Decides-eqb c z).0 t) in
    not_before zs cs (starts_first z c zs cs true same h) (sym (ap is_lt (tie_first z c (order zs cs) same)) ∙ l))
    (λ f. true≢false (sym h ∙ ap (λ (t : Bool). t && starts_with nat_eq zs cs) f))

abbrev no_entry : List ℕ × ℕ
no_entry = ([], 0)

-- a search for a name with a dot ends at `n`
module _ (packages : List (List ℕ × ℕ)) (sorted : IsSorted root_order packages) (name : List ℕ) (n : ℕ)
    (less : (k : ℕ) → k < n → is_lt (order (get_or packages k no_entry).0 (dotted name)) ≡ true)
    (others : (k : ℕ) → n ≤ k → k < length packages → is_lt (order (get_or packages k no_entry).0 (dotted name)) ≡ false) where
  abbrev begins : List ℕ × ℕ → Bool
  begins e = starts_with nat_eq e.0 (dotted name)

  -- an entry that begins with it is at `n` or later, and the entry at `n` does too
  first_begins : (k : ℕ) → k < length packages → begins (get_or packages k no_entry) ≡ true
      → (n ≤ k) × (begins (get_or packages n no_entry) ≡ true)
  first_begins k within h = elim (cases_lt k n) [
    | inl below ↦ absurd (not_before (get_or packages k no_entry).0 (dotted name) h (less k below))
    | inr up ↦ (
      up,
      between (dotted name) (get_or packages n no_entry).0 (get_or packages k no_entry).0
          (others n (omega arith) (omega arith)) (rises order nat_list_cmp_total packages sorted n k no_entry up within) h,
    )
  ]

  none_begins : (begins (get_or packages n no_entry) ≡ true → n < length packages → ⊥) → false ≡ list_any begins packages
  none_begins free = sym (list_any_none begins packages (λ k d within.
      either (begins (get_or packages k d)) (λ b. b ≡ false)
      (λ t.
      let at = first_begins k within (ap begins (get_or_default packages k no_entry d within) ∙ t) in
      let up = at.0 in absurd (free at.1 (omega arith)))
      (λ _. refl)))

  pub any_begins : (e : List ℕ × ℕ) → slice_get packages n ≡ Some e → begins e ≡ list_any begins packages
  any_begins e at =
      let is : get_or packages n no_entry ≡ e = get_or_from_slice_get packages n e no_entry at in
      either (begins e) (λ b. b ≡ list_any begins packages)
      (λ t. sym (list_any_at begins packages n no_entry (slice_get_within packages n e at) (ap begins is ∙ t)))
      (λ f. none_begins (λ t within. true≢false (sym (sym (ap begins is) ∙ t) ∙ f)))

  pub past_begins : slice_get packages n ≡ None → false ≡ list_any begins packages
  past_begins at = none_begins (λ t within. let some = Rattle.std.proofs.lemmas.Option.slice_get-get_or packages n no_entry within in cc)

  -- the entries of the name itself are from `n` on, up to one of another name
  pub placed : (i : ℕ) (near : List ℕ)
      → ((j : ℕ) → j < i → In (get_or (drop n packages) j no_entry).1 near)
      → (n + i < length packages → bytes_eq (get_or packages (n + i) no_entry).0 (dotted name) ≡ false)
      → (k : ℕ) → Contains packages (dotted name, k) → In k near
  placed i near so_far stop k c =
      let j = c.0 in
      let within : j < length packages = c.1 in
      let is : get_or packages j no_entry ≡ (dotted name, k) = get_or_default packages j no_entry (dotted name, k) within ∙ c.2 in
      elim (cases_lt j n) [
        | inl below ↦ absurd (not_below_itself order nat_list_cmp_total (dotted name) (subst (λ (e : List ℕ × ℕ). is_lt (order e.0 (dotted name)) ≡ true) is (less j below)))
        | inr up ↦ elim (cases_lt j (n + i)) [
          | inl inside ↦
              let at : n + (j - n) ≡ j = omega arith in
              let entry : get_or (drop n packages) (j - n) no_entry ≡ (dotted name, k) =
              get_or-drop n packages (j - n) no_entry ∙ ap (λ (m : ℕ). get_or packages m no_entry) at ∙ is in
              subst (λ (e : List ℕ × ℕ). In e.1 near) entry (so_far (j - n) (omega arith))
          | inr past ↦
              let e = get_or packages (n + i) no_entry in
              let tie = tied order nat_list_cmp_total e.0 (dotted name) (others (n + i) (omega arith) (omega arith))
              (subst (λ (f : List ℕ × ℕ). is_lt (order f.0 e.0) ≡ false) is (rises order nat_list_cmp_total packages sorted (n + i) j no_entry past within)) in
              absurd (true≢false (sym (sym (is_eq-slice_cmp e.0 (dotted name)) ∙ ap is_eq tie) ∙ stop (omega arith)))
        ]
      ]

-- a byte other than the dot
pub other_byte : (b : ℕ) (t : Bool) → (b ≡ 46 → ⊥) → nat_eq b 46 ≡ (nat_eq b 46 && t)
other_byte b t h = either (nat_eq b 46) (λ x. x ≡ (x && t)) (λ e. absurd (h ((Decides-eqb b 46).0 e))) (λ _. refl)
