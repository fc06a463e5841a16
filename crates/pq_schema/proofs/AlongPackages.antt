-- The packages that a search meets, by the entries of the index that begin with their names.
use Rattle.std.proofs.Common.{◌≡◌, ℕ, zero, suc, ◌+◌, ◌-◌, ◌<◌, ◌≤◌, ◌==◌, true, false, nat_eq, length, get_or, drop, take, List, [], ◌∷◌, ◌++◌, refl, sym, ap, subst, ◌∙◌, inl, inr, arith}
use Rattle.std.specs.List.{starts_with}
use Rattle.std.specs.List.Sorted.{IsSorted}
use Rattle.std.proofs.lemmas.Bool.{cases_lt}
use Rattle.std.proofs.lemmas.Bool.Decides.{Decides-eqb, nat_tests}
use Rattle.std.proofs.lemmas.Grind.{same_number_lists}
use Rattle.std.proofs.lemmas.List.{get_or_default, get_or-append_right, get_or-take, get_or_append_left, length-append, length-take-le, take-append-drop}
use Rattle.std.proofs.lemmas.List.Folds.{Any-from_list_any, list_any_at}
use Rattle.std.proofs.lemmas.Slice.Eq.{starts_is}
use Rattle.pq_schema.specs.Definitions.{qualified}
use Rattle.pq_schema.specs.declared.scope.scope.FileDefs.{FileDefs}
use Rattle.pq_schema.specs.aux.Along.{AllMeet, HasMet, IsAlong, IsPlain, IsStart, Meets, scope_before}
use Rattle.pq_schema.specs.aux.Grouping.{IsIndex, root_order}
use Rattle.pq_schema.specs.aux.InPackage.{dotted}
use Rattle.pq_schema.specs.aux.NameParts.{leading}
use Rattle.pq_schema.proofs.Grouping.{known_package}
use Rattle.pq_schema.proofs.PartsAlong.{dot_within}

-- ---- names in the scopes outwards

-- `Spells front root start` is that `front` has the bytes of `root`, with a dot after it, before
-- `start`
record Spells (front root : List ℕ) (start : ℕ) : Type 0 where
  long : length front ≡ start
  same : (i : ℕ) → i < start → get_or front i 0 ≡ get_or root i 46

spelled : (root : List ℕ) (start : ℕ) → IsStart root start → Spells (leading (scope_before root start)) root start
spelled root zero s = record { long = refl; same = λ i below. absurd (omega arith) }
spelled root (suc n) s = by (scope_before root (suc n)) refl
  where
    by : (scope : List ℕ) → scope_before root (suc n) ≡ scope → Spells (leading scope) root (suc n)
    by scope is =
        let a = s.after (omega arith) in
        let one = a.0 in
        let high = s.within in
        let back : suc n - 1 ≡ n = omega arith in
        let taken : scope ≡ take n root = sym is ∙ ap (λ (m : ℕ). take m root) back in
        let count : length scope ≡ n = ap length taken ∙ length-take-le n root (omega arith) in
        let dot : get_or root n 46 ≡ 46 = ap (λ (m : ℕ). get_or root m 46) (sym back) ∙ a.1 in
        whole scope taken count one high dot
      where
        whole : (scope : List ℕ) → scope ≡ take n root → length scope ≡ n → 1 < suc n → suc n ≤ length root + 1 → get_or root n 46 ≡ 46
            → Spells (leading scope) root (suc n)
        whole [] taken count one high dot = absurd (omega arith)
        whole (c ∷ cs) taken count one high dot = record {
          long = length-append (c ∷ cs) (46 ∷ []) ∙ omega (arith, count);
          same = λ i below. elim (cases_lt i n) [
            | inl inside ↦
                get_or_append_left (c ∷ cs) (46 ∷ []) 0 i (omega (arith, count))
                ∙ ap (λ (xs : List ℕ). get_or xs i 0) taken
                ∙ get_or-take n root i 0 inside
                ∙ get_or_default root i 0 46 (omega arith)
            | inr last ↦
                let at : i ≡ n = omega arith in
                let none : i - n ≡ 0 = omega arith in
                get_or-append_right (c ∷ cs) (46 ∷ []) n i 0 count last
                ∙ ap (λ (m : ℕ). get_or (46 ∷ []) m 0) none
                ∙ sym (ap (λ (m : ℕ). get_or root m 46) at ∙ dot)
          ];
        }

led : (scope name : List ℕ) → qualified scope name ≡ leading scope ++ name
led [] name = refl
led (c ∷ cs) name = refl

-- ---- what an entry that begins with a name meets

module _ (root name front : List ℕ) (start : ℕ) (s : Spells front root start) where
  abbrev full : List ℕ
  full = dotted (front ++ name)

  full_length : length full ≡ start + length name + 1
  full_length = length-append (front ++ name) (46 ∷ []) ∙ ap (λ (n : ℕ). n + 1) (length-append front name ∙ ap (λ (n : ℕ). n + length name) s.long)

  full_front : (i : ℕ) → i < start → get_or full i 0 ≡ get_or root i 46
  full_front i below =
      let both = length-append front name in
      let long = s.long in
      get_or_append_left (front ++ name) (46 ∷ []) 0 i (omega (arith, both, long))
      ∙ get_or_append_left front name 0 i (omega (arith, long))
      ∙ s.same i below

  full_part : (i : ℕ) → i < length name → get_or full (start + i) 0 ≡ get_or name i 0
  full_part i below =
      let both = length-append front name in
      let long = s.long in
      let rest : start + i - start ≡ i = omega arith in
      get_or_append_left (front ++ name) (46 ∷ []) 0 (start + i) (omega (arith, both, long))
      ∙ get_or-append_right front name start (start + i) 0 long (omega arith)
      ∙ ap (λ (n : ℕ). get_or name n 0) rest

  full_dot : get_or full (start + length name) 0 ≡ 46
  full_dot =
      let both = length-append front name in
      let long = s.long in
      let none : start + length name - (start + length name) ≡ 0 = omega arith in
      get_or-append_right (front ++ name) (46 ∷ []) (start + length name) (start + length name) 0 (both ∙ ap (λ (n : ℕ). n + length name) long) (omega arith)
      ∙ ap (λ (n : ℕ). get_or (46 ∷ []) n 0) none

  front_meets : (entry : List ℕ) → starts_with nat_eq entry full ≡ true → Meets root entry name start
  front_meets entry h =
      let is : entry ≡ full ++ drop (length full) entry = (starts_is Decides-eqb entry full (starts_with nat_eq entry full) refl).0 h in
      let long = full_length in
      let byte = λ (i : ℕ) (below : i < length full). ap (λ (xs : List ℕ). get_or xs i 0) is ∙ get_or_append_left full (drop (length full) entry) 0 i below in
      record {
        front = λ i below. byte i (omega (arith, long)) ∙ full_front i below;
        part = λ i below. byte (start + i) (omega (arith, long)) ∙ full_part i below;
        dot = byte (start + length name) (omega (arith, long)) ∙ full_dot;
      }

  meets_front : (entry : List ℕ) → Meets root entry name start → starts_with nat_eq entry full ≡ true
  meets_front entry m =
      let inside = dot_within entry (start + length name) m.dot in
      let long = full_length in
      let taken : length (take (length full) entry) ≡ length full = length-take-le (length full) entry (omega (arith, long)) in
      let is : full ≡ take (length full) entry =
      same_number_lists full (take (length full) entry) (sym taken) (λ i below. sym (get_or-take (length full) entry i 0 below ∙ each i (omega (arith, long, below)))) in
      (starts_is Decides-eqb entry full (starts_with nat_eq entry full) refl).1 (drop (length full) entry)
      (sym (take-append-drop (length full) entry) ∙ ap (λ (xs : List ℕ). xs ++ drop (length full) entry) (sym is))
    where
      each : (i : ℕ) → i < start + length name + 1 → get_or entry i 0 ≡ get_or full i 0
      each i below = elim (cases_lt i start) [
        | inl early ↦ m.front i early ∙ sym (full_front i early)
        | inr late ↦ elim (cases_lt i (start + length name)) [
          | inl inside ↦
              let at : start + (i - start) ≡ i = omega arith in
              ap (λ (n : ℕ). get_or entry n 0) (sym at) ∙ m.part (i - start) (omega arith)
              ∙ sym (full_part (i - start) (omega arith)) ∙ ap (λ (n : ℕ). get_or full n 0) at
          | inr last ↦
              let at : i ≡ start + length name = omega arith in
              ap (λ (n : ℕ). get_or entry n 0) at ∙ m.dot ∙ sym full_dot ∙ ap (λ (n : ℕ). get_or full n 0) (sym at)
        ]
      ]

begins : (root name entry : List ℕ) (start : ℕ) → IsStart root start → Meets root entry name start
    → starts_with nat_eq entry (dotted (qualified (scope_before root start) name)) ≡ true
begins root name entry start s m =
    ap (λ (q : List ℕ). starts_with nat_eq entry (dotted q)) (led (scope_before root start) name)
    ∙ meets_front root name (leading (scope_before root start)) start (spelled root start s) entry m

meets : (root name entry : List ℕ) (start : ℕ) → IsStart root start
    → starts_with nat_eq entry (dotted (qualified (scope_before root start) name)) ≡ true → Meets root entry name start
meets root name entry start s h =
    front_meets root name (leading (scope_before root start)) start (spelled root start s) entry
    (sym (ap (λ (q : List ℕ). starts_with nat_eq entry (dotted q)) (led (scope_before root start) name)) ∙ h)

-- ---- the table

has_bytes : (scope name : List ℕ) → IsPlain name → (length (qualified scope name) == 0) ≡ false
has_bytes scope name p = not_none (qualified scope name) (subst (λ (q : List ℕ). 0 < length q) (sym (led scope name))
    (let both = length-append (leading scope) name in let some = p.some in omega (arith, both, some)))
  where
    not_none : (q : List ℕ) → 0 < length q → (length q == 0) ≡ false
    not_none [] some = absurd (omega arith)
    not_none (c ∷ cs) some = grind (arith, nat_tests)

pub along_from : (parts packages : List (List ℕ × ℕ)) (files : List FileDefs) (root : List ℕ) → IsIndex packages files
    → IsSorted root_order parts → AllMeet parts packages root
    → ((k : ℕ) → k < length packages → HasMet parts root (get_or packages k ([], 0)).0)
    → IsAlong parts files root
along_from parts packages files root x sorted meet met = record {
  sorted = sorted;
  each = λ name start c p.
      let at = meet name start c in
      let scope = scope_before root start in (
        at.0,
        sym (known_package files x (qualified scope name) (has_bytes scope name p))
            ∙ list_any_at (λ (e : List ℕ × ℕ). starts_with nat_eq e.0 (dotted (qualified scope name))) packages at.1 ([], 0) at.2
            (begins root name (get_or packages at.1 ([], 0)).0 start at.0 at.3),
      );
  all = λ name start p s h.
      let scope = scope_before root start in
      let some = Any-from_list_any (λ (e : List ℕ × ℕ). starts_with nat_eq e.0 (dotted (qualified scope name))) packages
      (known_package files x (qualified scope name) (has_bytes scope name p) ∙ h) in
      let is : get_or packages some.0 ([], 0) ≡ some.1 = get_or_default packages some.0 ([], 0) some.1 some.2 ∙ some.3 in
      met some.0 some.2 name start p s
      (meets root name (get_or packages some.0 ([], 0)).0 start s
      (subst (λ (e : List ℕ × ℕ). starts_with nat_eq e.0 (dotted (qualified scope name)) ≡ true) (sym is) some.4));
}
