-- The first answer of files is that of the first near file which gives one, where a file answers
-- for a full name only if it defines the name.
use Rattle.std.proofs.Common.{◌≡◌, ◌⊎◌, ℕ, suc, zero, ◌<◌, ◌≤◌, Bool, true, false, cond, ◌&&◌, true≢false, List, [], ◌∷◌, Option, Some, None, inl, inr, refl, sym, ap, subst, ◌∙◌, arith}
use Rattle.std.specs.Prelude.{bytes_eq, find, is_some, not, slice_get, filter, option_map}
use Rattle.std.specs.List.{list_any}
use Rattle.std.specs.List.Sorted.{IsSorted, IsNonDecreasingBy}
use Rattle.std.specs.Ordering.{nat_cmp}
use Rattle.std.proofs.lemmas.List.Sorted.{IsNonDecreasingBy-from_sort}
use Rattle.pq_rules.specs.Relations.{Each, In}
use Rattle.pq_rules.proofs.ListLemmas.{each_from, in_index}
use Rattle.pq_schema.specs.declared.define.definitions.Definition.{Definition}
use Rattle.pq_schema.specs.declared.scope.scope.FileDefs.{FileDefs}
use Rattle.pq_schema.specs.Others.{defines, first_with}
use Rattle.pq_schema.specs.Resolution.{Meaning, meaning}
use Rattle.pq_schema.specs.Resolution.Meaning.{Defined, Undefined}
use Rattle.pq_schema.specs.declared.scope.named.Place.{Place}
use Rattle.pq_schema.specs.aux.FirstOf.{either, first_of, answer_by, answer_at, other_with, definition_in, first_near, is_other, is_other_at}
use Rattle.pq_schema.specs.aux.Grouping.{AreNear, IsBelow, around, find_in}
use Rattle.pq_schema.specs.aux.Hits.{placed, meaning_at}
use Rattle.pq_schema.specs.aux.NearFiles.{AreOthers}
use Rattle.pq_schema.specs.aux.NearNames.{Rises}
use Rattle.pq_schema.proofs.Grouping.{can_have}
use Rattle.pq_schema.proofs.Meanings.{or_else, defined_find}

-- ---- places that rise

pub each_in : {A : Type 0} (P : A → Type 0) (xs : List A) (x : A) → Each P xs → In x xs → P x
each_in P [] x all there = absurd there
each_in P (y ∷ ys) x all (inl same) = subst P (sym same) all.0
each_in P (y ∷ ys) x all (inr more) = each_in P ys x all.1 more

rises_by : (xs : List ℕ) → IsNonDecreasingBy (λ (n : ℕ). n) xs → Rises xs
rises_by [] h = tt
rises_by (k ∷ ks) h = (
  each_from (λ j. k ≤ j) ks (λ j there.
      let c = in_index j 0 ks there in
      let within = c.1 in
      subst (λ (m : ℕ). k ≤ m) c.2 (h 0 (suc c.0) 0 (omega arith) (omega arith))),
  rises_by ks (λ i j d up within. h (suc i) (suc j) d (omega arith) (omega arith)),
)

pub rises_from : (xs : List ℕ) → IsSorted nat_cmp xs → Rises xs
rises_from xs sorted = rises_by xs (IsNonDecreasingBy-from_sort (λ (n : ℕ). n) xs sorted)

each_filter : (P : ℕ → Type 0) (p : ℕ → Bool) (xs : List ℕ) → Each P xs → Each P (filter p xs)
each_filter P p [] all = tt
each_filter P p (k ∷ ks) all = by (p k) (each_filter P p ks all.1)
  where
    by : (b : Bool) → Each P (filter p ks) → Each P (cond b (k ∷ filter p ks) (filter p ks))
    by true rest = (all.0, rest)
    by false rest = rest

rises_filter : (p : ℕ → Bool) (xs : List ℕ) → Rises xs → Rises (filter p xs)
rises_filter p [] r = tt
rises_filter p (k ∷ ks) r = by (p k) (each_filter (λ j. k ≤ j) p ks r.0) (rises_filter p ks r.1)
  where
    by : (b : Bool) → Each (λ j. k ≤ j) (filter p ks) → Rises (filter p ks) → Rises (cond b (k ∷ filter p ks) (filter p ks))
    by true up rest = (up, rest)
    by false up rest = rest

pub others_rise : (places : List ℕ) (file : List ℕ) (files : List FileDefs) (roots : List (List ℕ)) → AreOthers places file files roots → Rises places
others_rise places file files roots are =
    subst Rises (sym are.is) (rises_filter (is_other_at file files) are.near (rises_from are.near are.are.rising))

-- ---- the first answer of a list

module _ {X : Type 0} (answer : FileDefs → Option X) where
  pub here : (files : List FileDefs) (n : ℕ) (x : X) → ((k : ℕ) → k < n → answer_at answer files k ≡ None) → answer_at answer files n ≡ Some x → first_of answer files ≡ Some x
  here [] n x h is = is
  here (f ∷ fs) zero x h is = ap (λ (o : Option X). either o (first_of answer fs)) is
  here (f ∷ fs) (suc n) x h is = ap (λ (o : Option X). either o (first_of answer fs)) (h 0 (omega arith)) ∙ here fs n x (λ k l. h (suc k) (omega arith)) is

  pub nowhere : (files : List FileDefs) → ((k : ℕ) → answer_at answer files k ≡ None) → first_of answer files ≡ None
  nowhere [] h = refl
  nowhere (f ∷ fs) h = ap (λ (o : Option X). either o (first_of answer fs)) (h 0) ∙ nowhere fs (λ k. h (suc k))

-- ---- the first answer of the files at some places

module _ {X : Type 0} (answer : FileDefs → Option X) (files : List FileDefs) where
  -- `NoneOf places` is that no file at one of `places` gives an answer
  abbrev pub NoneOf : List ℕ → Type 0
  NoneOf places = (first_near answer files places ≡ None) × ((j : ℕ) → In j places → answer_at answer files j ≡ None)

  -- `OneOf places` is that the first answer is that of the least of `places` whose file gives one
  abbrev pub OneOf : List ℕ → Type 0
  OneOf places =
      (k : ℕ) × (x : X) × In k places × (answer_at answer files k ≡ Some x) × (first_near answer files places ≡ Some x)
      × ((j : ℕ) → In j places → j < k → answer_at answer files j ≡ None)

  pub near_cases : (places : List ℕ) → Rises places → NoneOf places ⊎ OneOf places
  near_cases [] r = inl (refl, λ j there. absurd there)
  near_cases (k ∷ ks) r = by (answer_at answer files k) refl (near_cases ks r.1)
    where
      by : (o : Option X) → answer_at answer files k ≡ o → NoneOf ks ⊎ OneOf ks → NoneOf (k ∷ ks) ⊎ OneOf (k ∷ ks)
      by (Some x) e rest = inr (
        k,
        x,
        inl refl,
        e,
        ap (λ (o : Option X). either o (first_near answer files ks)) e,
        λ j there less.
            elim there [
              | inl same ↦ absurd (omega arith)
              | inr more ↦ let up = each_in (λ i. k ≤ i) ks j r.0 more in absurd (omega arith)
            ],
      )
      by None e (inl n) = inl (
        ap (λ (o : Option X). either o (first_near answer files ks)) e ∙ n.0,
        λ j there.
            elim there [
              | inl same ↦ ap (λ (i : ℕ). answer_at answer files i) same ∙ e
              | inr more ↦ n.1 j more
            ],
      )
      by None e (inr s) = inr (
        s.0,
        s.1,
        inr s.2,
        s.3,
        ap (λ (o : Option X). either o (first_near answer files ks)) e ∙ s.4,
        λ j there less.
            elim there [
              | inl same ↦ ap (λ (i : ℕ). answer_at answer files i) same ∙ e
              | inr more ↦ s.5 j more less
            ],
      )

-- ---- the first answer of the near files

module _ {X : Type 0} (answer : FileDefs → Option X) (files : List FileDefs) (near : List ℕ) (name : List ℕ)
    (only : (f : FileDefs) → find_in f name ≡ None → answer f ≡ None)
    (are : AreNear near files (around name)) (below : Each IsBelow files) where
  -- where the near files give no answer, the others do not
  silent_by : (k : ℕ) (o : Option FileDefs) → slice_get files k ≡ o → (In k near → answer_by answer o ≡ None) → answer_by answer o ≡ None
  silent_by k None at h = refl
  silent_by k (Some f) at h = elim (can_have files near name k f are below at) [ inl there ↦ h there | inr none ↦ only f none ]

  silent : (k : ℕ) → (In k near → answer_at answer files k ≡ None) → answer_at answer files k ≡ None
  silent k h = silent_by k (slice_get files k) refl h

  pub near_all : first_near answer files near ≡ first_of answer files
  near_all = elim (near_cases answer files near (rises_from near are.rising)) [
    | inl n ↦ n.0 ∙ sym (nowhere answer files (λ k. silent k (λ there. n.1 k there)))
    | inr s ↦ s.4 ∙ sym (here answer files s.0 s.1 (λ k less. silent k (λ there. s.5 k there less)) s.3)
  ]

-- ---- the other files that define a name

-- a full name is found where the file defines it
pub found_defines : (name : List ℕ) (ds : List Definition) → is_some (find (λ (d : Definition). bytes_eq d.full_name name) ds) ≡ list_any (λ (d : Definition). bytes_eq d.full_name name) ds
found_defines name [] = refl
found_defines name (d ∷ ds) = by (found_defines name ds) (bytes_eq d.full_name name) refl
  where
    by : is_some (find (λ (d : Definition). bytes_eq d.full_name name) ds) ≡ list_any (λ (d : Definition). bytes_eq d.full_name name) ds → (b : Bool) → bytes_eq d.full_name name ≡ b → is_some (find (λ (d : Definition). bytes_eq d.full_name name) (d ∷ ds)) ≡ list_any (λ (d : Definition). bytes_eq d.full_name name) (d ∷ ds)
    by rest true e = rw e refl
    by rest false e = rw e rest

-- a file without the name is not found
pub other_only : (file name : List ℕ) (f : FileDefs) → find_in f name ≡ None → other_with file name f ≡ None
other_only file name f none =
    let absent : defines name f ≡ false = sym (found_defines name f.defs.definitions) ∙ ap (λ (o : Option Definition). is_some o) none in
    by (bytes_eq f.file file) absent
  where
    by : (b : Bool) → defines name f ≡ false → cond (not b && defines name f) (Some f.file) None ≡ None
    by true e = refl
    by false e = rw e refl

-- the first of the others
pub others_first : (file name : List ℕ) (files : List FileDefs)
    → first_of (other_with file name) files ≡ first_with name (filter (λ (v : FileDefs). not (bytes_eq v.file file)) files)
others_first file name [] = refl
others_first file name (f ∷ fs) = by (bytes_eq f.file file) refl (defines name f) refl (others_first file name fs)
  where
    by : (b : Bool) → bytes_eq f.file file ≡ b → (t : Bool) → defines name f ≡ t
        → first_of (other_with file name) fs ≡ first_with name (filter (λ (v : FileDefs). not (bytes_eq v.file file)) fs)
        → first_of (other_with file name) (f ∷ fs) ≡ first_with name (filter (λ (v : FileDefs). not (bytes_eq v.file file)) (f ∷ fs))
    by true e t d rest = rw e rest
    by false e true d rest = rw (e, d) refl
    by false e false d rest = rw (e, d) rest

-- `of_file answer` is the name of the file that `answer` gives
abbrev pub of_file : Option (List ℕ × Definition) → Option (List ℕ)
of_file answer = option_map (λ (a : List ℕ × Definition). a.0) answer

-- one other file, where it is there
other_found : (file : List ℕ) (b t : Bool) (found : Option Definition) (more : Option (List ℕ × Definition)) (rest : Option (List ℕ))
    → is_some found ≡ t → of_file more ≡ rest
    → of_file (cond (not b) (either (option_map (λ (d : Definition). (file, d)) found) more) more) ≡ either (cond (not b && t) (Some file) None) rest
other_found file true t found more rest is e = e
other_found file false true (Some d) more rest is e = refl
other_found file false false (Some d) more rest is e = absurd (true≢false is)
other_found file false true None more rest is e = absurd (true≢false (sym is))
other_found file false false None more rest is e = e

other_step : (file name : List ℕ) (o : Option FileDefs) (more : Option (List ℕ × Definition)) (rest : Option (List ℕ))
    → of_file more ≡ rest
    → of_file (cond (is_other file o) (either (answer_by (definition_in name) o) more) more) ≡ either (answer_by (other_with file name) o) rest
other_step file name None more rest e = e
other_step file name (Some f) more rest e =
    other_found f.file (bytes_eq f.file file) (defines name f) (find_in f name) more rest (found_defines name f.defs.definitions) e

kept_near : (name : List ℕ) (files : List FileDefs) (k : ℕ) (ks : List ℕ) (b : Bool)
    → first_near (definition_in name) files (cond b (k ∷ ks) ks)
    ≡ cond b (either (answer_at (definition_in name) files k) (first_near (definition_in name) files ks)) (first_near (definition_in name) files ks)
kept_near name files k ks true = refl
kept_near name files k ks false = refl

-- the first definition of the others is in the first other file
pub others_near : (file name : List ℕ) (files : List FileDefs) (near : List ℕ)
    → of_file (first_near (definition_in name) files (filter (is_other_at file files) near)) ≡ first_near (other_with file name) files near
others_near file name files [] = refl
others_near file name files (k ∷ ks) =
    ap of_file (kept_near name files k (filter (is_other_at file files) ks) (is_other_at file files k))
    ∙ other_step file name (slice_get files k) (first_near (definition_in name) files (filter (is_other_at file files) ks)) (first_near (other_with file name) files ks)
    (others_near file name files ks)

-- and it is the first of all other files, where the files near the name are among them
pub first_of_others : (places : List ℕ) (file name : List ℕ) (files : List FileDefs) (o : AreOthers places file files (around name)) → Each IsBelow files
    → of_file (first_near (definition_in name) files places) ≡ first_of (other_with file name) files
first_of_others places file name files o below =
    ap (λ (ks : List ℕ). of_file (first_near (definition_in name) files ks)) o.is
    ∙ others_near file name files o.near
    ∙ near_all (other_with file name) files o.near name (other_only file name) o.are below

-- ---- the first definition of a name

pub is_placed : (o : Option Place) → is_some (placed o) ≡ is_some o
is_placed None = refl
is_placed (Some p) = refl

pub file_placed : (o : Option Place) → of_file (placed o) ≡ option_map (λ (p : Place). p.file.now) o
file_placed None = refl
file_placed (Some p) = refl

-- a file without the name has no definition of it
pub definition_only : (name : List ℕ) (f : FileDefs) → find_in f name ≡ None → definition_in name f ≡ None
definition_only name f none = ap (λ (o : Option Definition). option_map (λ (d : Definition). (f.file, d)) o) none

pub definition_there : (files : List FileDefs) (place : ℕ) (name : List ℕ) (f : FileDefs) (d : Definition)
    → slice_get files place ≡ Some f
    → Some d ≡ find_in f name
    → Some (f.file, d) ≡ answer_at (definition_in name) files place
definition_there files place name f d at is =
    ap (λ (o : Option Definition). option_map (λ (x : Definition). (f.file, x)) o) is ∙ sym (ap (λ (o : Option FileDefs). answer_by (definition_in name) o) at)

-- `meaning_of answer` is the meaning of a name whose first definition is `answer`
abbrev pub meaning_of : Option (List ℕ × Definition) → Meaning
meaning_of None = Undefined
meaning_of (Some a) = Defined a.0 a.1

pub placed_meaning : (o : Option Place) → meaning_at o ≡ meaning_of (placed o)
placed_meaning None = refl
placed_meaning (Some p) = refl

pub meaning_first : (files : List FileDefs) (name : List ℕ) → meaning files name ≡ meaning_of (first_of (definition_in name) files)
unfolding meaning
meaning_first [] name = refl
meaning_first (f ∷ fs) name = defined_find f.file f.defs.definitions name (meaning fs name) ∙ by (find_in f name) (meaning_first fs name)
  where
    by : (o : Option Definition) → meaning fs name ≡ meaning_of (first_of (definition_in name) fs)
        → or_else f.file o (meaning fs name) ≡ meaning_of (either (option_map (λ (d : Definition). (f.file, d)) o) (first_of (definition_in name) fs))
    by None rest = rest
    by (Some d) rest = refl

-- the first definition of the near files is the meaning
pub near_meaning : (files : List FileDefs) (near : List ℕ) (name : List ℕ) (o : Option Place) → AreNear near files (around name) → Each IsBelow files
    → placed o ≡ first_near (definition_in name) files near → meaning_at o ≡ meaning files name
near_meaning files near name o are below is =
    placed_meaning o
    ∙ ap meaning_of (is ∙ near_all (definition_in name) files near name (definition_only name) are below)
    ∙ sym (meaning_first files name)

-- ---- a loop over the places

-- once the answer of one place is none
pub near_some : {X : Type 0} (answer : FileDefs → Option X) (files : List FileDefs) (k : ℕ) (ks : List ℕ) (o : Option X)
    → o ≡ answer_at answer files k → is_some o ≡ true → o ≡ first_near answer files (k ∷ ks)
near_some answer files k ks None is some = absurd (true≢false (sym some))
near_some {X} answer files k ks (Some x) is some = ap (λ (o : Option X). either o (first_near answer files ks)) is

pub near_none : {X : Type 0} (answer : FileDefs → Option X) (files : List FileDefs) (k : ℕ) (ks : List ℕ) (o : Option X)
    → o ≡ answer_at answer files k → is_some o ≡ false → first_near answer files (k ∷ ks) ≡ first_near answer files ks
near_none {X} answer files k ks None is some = ap (λ (o : Option X). either o (first_near answer files ks)) (sym is)
near_none answer files k ks (Some x) is some = absurd (true≢false some)
