-- What a package meets in the scopes from another outwards: the parts that the walk over its bytes
-- finds.
use Rattle.std.proofs.Common.{◌≡◌, ◌≢◌, ◌⊎◌, inl, inr, ℕ, zero, suc, ◌+◌, ◌-◌, ◌<◌, ◌≤◌, length, get_or, drop, List, [], ◌∷◌, ◌++◌, sym, ap, subst, ◌∙◌, arith}
use Rattle.std.specs.List.{Contains, slice_range}
use Rattle.std.specs.List.Sorted.{IsPermutation}
use Rattle.std.proofs.lemmas.List.Sorted.{Contains-permutation, IsPermutation-sym}
use Rattle.std.proofs.lemmas.Bool.{cases_lt}
use Rattle.std.proofs.lemmas.Grind.{same_number_lists}
use Rattle.std.proofs.lemmas.List.{get_or-drop, get_or-take, get_or_past, length-drop, length-take-le}
use Rattle.std.proofs.lemmas.List.Elements.{Contains-append_left, Contains-append_right, Contains-append_cases}
use Rattle.pq_schema.specs.aux.Along.{AllMeet, AreKept, HasMet, IsCovered, IsPlain, IsSame, IsStart, MeetBeside, Meets}

-- ---- a part of an entry

part_length : (entry : List ℕ) (start at : ℕ) → start ≤ at → at ≤ length entry → length (slice_range entry start at) ≡ at - start
part_length entry start at up within =
    let rest = length-drop start entry in length-take-le (at - start) (drop start entry) (omega arith)

part_byte : (entry : List ℕ) (start at i : ℕ) → i < at - start → get_or (slice_range entry start at) i 0 ≡ get_or entry (start + i) 0
part_byte entry start at i below = get_or-take (at - start) (drop start entry) i 0 below ∙ get_or-drop start entry i 0

-- a byte that is a dot is within
pub dot_within : (entry : List ℕ) (i : ℕ) → get_or entry i 0 ≡ 46 → i < length entry
dot_within entry i dot = elim (cases_lt i (length entry)) [
  | inl below ↦ below
  | inr past ↦ let none = get_or_past entry i 0 past in absurd (omega arith)
]

abbrev Blank : List ℕ → ℕ → ℕ → Type 0
Blank entry start at = (i : ℕ) → start ≤ i → i < at → 0 < i → get_or entry i 0 ≢ 46

module _ (root entry : List ℕ) (start at to : ℕ) (same : IsSame root entry to) (within : start ≤ to) (up : start ≤ at)
    (dot : get_or entry at 0 ≡ 46) where
  -- the part before a dot is met
  pub part_met : Meets root entry (slice_range entry start at) start
  part_met =
      let inside = dot_within entry at dot in
      let long = part_length entry start at up (omega arith) in
      let end : start + length (slice_range entry start at) ≡ at = omega arith in
      record {
        front = λ i below. same i (omega arith);
        part = λ i below. sym (part_byte entry start at i (omega arith));
        dot = ap (λ (n : ℕ). get_or entry n 0) end ∙ dot;
      }

  -- and is all that is met there, where no dot is before it
  pub part_is : Blank entry start at → 0 < at → (name : List ℕ) → IsPlain name → Meets root entry name start
      → name ≡ slice_range entry start at
  part_is blank past name p m =
      let inside = dot_within entry at dot in
      let long = part_length entry start at up (omega arith) in
      let some = p.some in
      let count : length name ≡ at - start = elim (cases_lt (start + length name) at) [
        | inl early ↦ absurd (blank (start + length name) (omega arith) early (omega arith) m.dot)
        | inr late ↦ elim (cases_lt at (start + length name)) [
          | inl over ↦
              let there : start + (at - start) ≡ at = omega arith in
              absurd (p.plain (at - start) (omega arith) (sym (m.part (at - start) (omega arith)) ∙ ap (λ (n : ℕ). get_or entry n 0) there ∙ dot))
          | inr here ↦ omega arith
        ]
      ] in
      same_number_lists name (slice_range entry start at) (omega arith)
      (λ i below. sym (m.part i below) ∙ sym (part_byte entry start at i (omega arith)))

  -- no scope ends where no dot is
  pub no_start : Blank entry start at → (t : ℕ) → start < t → t ≤ at → t ≤ to → IsStart root t → ⊥
  no_start blank t after early inside s =
      let a = s.after (omega arith) in
      let one = a.0 in
      blank (t - 1) (omega arith) (omega arith) (omega arith) (same (t - 1) (omega arith) ∙ a.1)

  -- after the dot the names of the next scope begin
  pub next_start : IsStart root to → 0 < at → at < to → IsStart root (at + 1)
  next_start end past inside =
      let high = end.within in
      let back : at + 1 - 1 ≡ at = omega arith in
      record {
        within = omega arith;
        after = λ _. (omega arith, ap (λ (n : ℕ). get_or root n 46) back ∙ sym (same at inside) ∙ dot);
      }

-- ---- a part more

one_only : (p x : List ℕ × ℕ) → Contains (p ∷ []) x → p ≡ x
one_only p x (zero, within, is) = is
one_only p x (suc k, within, is) = absurd (omega arith)

module _ (old new : List (List ℕ × ℕ)) (p : List ℕ × ℕ) (is : new ≡ old ++ p ∷ []) where
  pub kept_more : AreKept old new
  kept_more name start c = subst (λ (ps : List (List ℕ × ℕ)). Contains ps (name, start)) (sym is) (Contains-append_left old (p ∷ []) (name, start) c)

  pub has_more : (x : List ℕ × ℕ) → x ≡ p → Contains new x
  has_more x same = subst (λ (ps : List (List ℕ × ℕ)). Contains ps x) (sym is)
      (Contains-append_right old (p ∷ []) x (zero, (omega arith), sym same))

  pub cases_more : (x : List ℕ × ℕ) → Contains new x → Contains old x ⊎ (p ≡ x)
  cases_more x c =
      elim (Contains-append_cases old (p ∷ []) x (subst (λ (ps : List (List ℕ × ℕ)). Contains ps x) is c)) [
        | inl there ↦ inl there
        | inr last ↦ inr (one_only p x last)
      ]

-- what is met, once the part from `start` to `at` is added
module _ (root entry : List ℕ) (first old new : List (List ℕ × ℕ)) (from start at to : ℕ) (same : IsSame root entry to)
    (within : start ≤ to) (up : start ≤ at) (dot : get_or entry at 0 ≡ 46)
    (is : new ≡ old ++ (slice_range entry start at, start) ∷ []) where
  pub meet_more : IsStart root start → MeetBeside first old root entry → MeetBeside first new root entry
  meet_more begins so_far name t c =
      elim (cases_more old new (slice_range entry start at, start) is (name, t) c) [
        | inl there ↦ so_far name t there
        | inr last ↦ inr (
          subst (IsStart root) (ap (λ (x : List ℕ × ℕ). x.1) last) begins,
          subst (λ (x : List ℕ × ℕ). Meets root entry x.0 x.1) last (part_met root entry start at to same within up dot),
        )
      ]

  pub met_more : ((i : ℕ) → start ≤ i → i < at → 0 < i → get_or entry i 0 ≢ 46) → 0 < at
      → ((name : List ℕ) (t : ℕ) → from ≤ t → t < start → IsPlain name → IsStart root t → Meets root entry name t → Contains old (name, t))
      → (name : List ℕ) (t : ℕ) → from ≤ t → t ≤ at → t ≤ to → IsPlain name → IsStart root t → Meets root entry name t → Contains new (name, t)
  met_more blank past so_far name t low early inside p s m =
      elim (cases_lt t start) [
        | inl before ↦ kept_more old new (slice_range entry start at, start) is name t (so_far name t low before p s m)
        | inr late ↦ elim (cases_lt start t) [
          | inl after ↦ absurd (no_start root entry start at to same within up dot blank t after early inside s)
          | inr here ↦
              let at_start : t ≡ start = omega arith in
              let whole = part_is root entry start at to same within up dot blank past name p (subst (λ (n : ℕ). Meets root entry name n) at_start m) in
              has_more old new (slice_range entry start at, start) is (name, t) (ap (λ (x : List ℕ). (x, t)) whole ∙ ap (λ (n : ℕ). (slice_range entry start at, n)) at_start)
        ]
      ]

-- once no dot is left
pub met_end : (root entry : List ℕ) (start : ℕ) → ((i : ℕ) → start ≤ i → i < length entry → 0 < i → get_or entry i 0 ≢ 46)
    → (name : List ℕ) (t : ℕ) → start ≤ t → IsPlain name → Meets root entry name t → ⊥
met_end root entry start blank name t late p m =
    let some = p.some in
    let inside = dot_within entry (t + length name) m.dot in
    blank (t + length name) (omega arith) inside (omega arith) m.dot

-- ---- what is covered

-- entries that are in one scope meet the same parts before it
agree : (root entry other name : List ℕ) (t inner : ℕ) → IsStart root inner → IsSame root entry inner → IsSame root other inner
    → t < inner → IsPlain name → Meets root other name t → Meets root entry name t
agree root entry other name t inner s same there before p m =
    let a = s.after (omega arith) in
    let one = a.0 in
    let dot : get_or other (inner - 1) 0 ≡ 46 = there (inner - 1) (omega arith) ∙ a.1 in
    let inside : t + length name < inner = elim (cases_lt (inner - 1) (t + length name)) [
      | inl over ↦
          let at : t + (inner - 1 - t) ≡ inner - 1 = omega arith in
          absurd (p.plain (inner - 1 - t) (omega arith) (sym (m.part (inner - 1 - t) (omega arith)) ∙ ap (λ (n : ℕ). get_or other n 0) at ∙ dot))
      | inr up ↦ omega arith
    ] in
    record {
      front = λ i below. same i (omega arith);
      part = λ i below. same (t + i) (omega arith) ∙ sym (there (t + i) (omega arith)) ∙ m.part i below;
      dot = same (t + length name) inside ∙ sym (there (t + length name) inside) ∙ m.dot;
    }

same_within : (root entry : List ℕ) (m n : ℕ) → m ≤ n → IsSame root entry n → IsSame root entry m
same_within root entry m n up same i below = same i (omega arith)

-- an entry in a scope further in than what is covered
module _ (root entry : List ℕ) (old new : List (List ℕ × ℕ)) (covered start : ℕ) (is : IsCovered old root covered) (kept : AreKept old new)
    (begins : IsStart root start) (same : IsSame root entry start)
    (last : (name : List ℕ) (t : ℕ) → IsStart root t → Meets root entry name t → t ≤ start) where
  pub met_further : covered < start
      → ((name : List ℕ) (t : ℕ) → covered ≤ t → t ≤ start → IsPlain name → IsStart root t → Meets root entry name t → Contains new (name, t))
      → HasMet new root entry
  met_further inside added name t p s m = elim (cases_lt t covered) [
    | inl before ↦ kept name t (is.has entry name t covered is.start (omega arith) (same_within root entry covered start (omega arith) same) before p s m)
    | inr from ↦ added name t from (last name t s m) p s m
  ]

  pub covered_further : HasMet new root entry → IsCovered new root start
  covered_further met = record {
    start = begins;
    has = λ other name t inner i within there before p s m.
        met name t p s (agree root entry other name t inner i (same_within root entry inner start within same) there before p m);
  }

  -- and one in a scope that is covered
  pub met_within : start ≤ covered
      → ((name : List ℕ) (t : ℕ) → start ≤ t → t ≤ start → IsPlain name → IsStart root t → Meets root entry name t → Contains new (name, t))
      → HasMet new root entry
  met_within inside added name t p s m = elim (cases_lt t start) [
    | inl before ↦ kept name t (is.has entry name t start begins inside same before p s m)
    | inr from ↦ added name t from (last name t s m) p s m
  ]

pub covered_still : (root : List ℕ) (old new : List (List ℕ × ℕ)) (covered : ℕ) → IsCovered old root covered → AreKept old new → IsCovered new root covered
covered_still root old new covered is kept = record {
  start = is.start;
  has = λ other name t inner i within there before p s m. kept name t (is.has other name t inner i within there before p s m);
}

pub covered_none : (root : List ℕ) → IsCovered [] root 0
covered_none root = record {
  start = record { within = omega arith; after = λ some. absurd (omega arith) };
  has = λ other name t inner i within there before p s m. absurd (omega arith);
}

-- ---- the packages one after the other

pub none_meet : (packages : List (List ℕ × ℕ)) (root : List ℕ) → AllMeet [] packages root
none_meet packages root name start c = let within = c.1 in absurd (omega arith)

pub all_meet_more : (packages old new : List (List ℕ × ℕ)) (root entry : List ℕ) (n : ℕ) → n < length packages
    → entry ≡ (get_or packages n ([], 0)).0 → MeetBeside old new root entry → AllMeet old packages root → AllMeet new packages root
all_meet_more packages old new root entry n within is beside so_far name start c =
    elim (beside name start c) [
      | inl there ↦ so_far name start there
      | inr here ↦ (here.0, n, within, subst (λ (e : List ℕ). Meets root e name start) is here.1)
    ]

pub all_meet_sorted : (parts sorted packages : List (List ℕ × ℕ)) (root : List ℕ) → IsPermutation parts sorted → AllMeet parts packages root → AllMeet sorted packages root
all_meet_sorted parts sorted packages root same all name start c =
    all name start (Contains-permutation sorted parts (name, start) (IsPermutation-sym parts sorted same) c)

pub met_sorted : (parts sorted : List (List ℕ × ℕ)) (root entry : List ℕ) → IsPermutation parts sorted → HasMet parts root entry → HasMet sorted root entry
met_sorted parts sorted root entry same met name start p s m = Contains-permutation parts sorted (name, start) same (met name start p s m)

abbrev Met : List (List ℕ × ℕ) → List (List ℕ × ℕ) → List ℕ → ℕ → Type 0
Met parts packages root n = (k : ℕ) → k < n → HasMet parts root (get_or packages k ([], 0)).0

-- one package more, new or of the name of the one before
pub met_next : (packages old new : List (List ℕ × ℕ)) (root entry : List ℕ) (n : ℕ) → entry ≡ (get_or packages n ([], 0)).0
    → AreKept old new → HasMet new root entry → Met old packages root n → Met new packages root (n + 1)
met_next packages old new root entry n is kept met so_far k below name start p s m =
    elim (cases_lt k n) [
      | inl earlier ↦ kept name start (so_far k earlier name start p s m)
      | inr here ↦
          let at : k ≡ n = omega arith in
          met name start p s (subst (λ (e : List ℕ). Meets root e name start) (ap (λ (i : ℕ). (get_or packages i ([], 0)).0) at ∙ sym is) m)
    ]

pub met_again : (packages parts : List (List ℕ × ℕ)) (root : List ℕ) (n : ℕ) → 0 < n
    → (get_or packages n ([], 0)).0 ≡ (get_or packages (n - 1) ([], 0)).0
    → Met parts packages root n → Met parts packages root (n + 1)
met_again packages parts root n some is so_far k below =
    elim (cases_lt k n) [
      | inl earlier ↦ so_far k earlier
      | inr here ↦
          let at : k ≡ n = omega arith in
          subst (HasMet parts root) (sym (ap (λ (i : ℕ). (get_or packages i ([], 0)).0) at ∙ is)) (so_far (n - 1) (omega arith))
    ]
