-- What is kept of a file, as it is read and written.
use Rattle.std.proofs.Common.{◌≡◌, ℕ, zero, suc, inl, inr, true, false, cond, List, [], ◌∷◌, ◌++◌, length, slice_get, slice_set, Option, Some, None, is_some, unwrap_or, refl, sym, ap, ap₂, ◌∙◌, arith, true≢false, Bor}
use Rattle.std.specs.Option.{option_copied, option_map}
use Rattle.std.specs.Str.{bytes_eq}
use Rattle.std.proofs.lemmas.Bool.{false_from_ne_true}
use Rattle.std.proofs.lemmas.Option.{none-some, same_Some}
use Rattle.std.proofs.Math.Seq.{set-append_seam}
use Rattle.std.proofs.lemmas.Slice.Eq.{bytes_eq-Decides}
use Rattle.pq_names.proofs.Places.{push_last}
use Rattle.pq_inputs.specs.Sources.{File, Sources, never_set, file_in, with_file}
use Rattle.pq_inputs.specs.Refusal.{was_set}
use Rattle.pq_inputs.specs.aux.Kept.{Entry, Entries, blank, lookup, entry_in, with_entry, side_by_side, sources_of}
use Rattle.pq_inputs.proofs.FileTests.{cases_bool}

-- texts that differ fail the test
apart : (a b : List ℕ) → (a ≡ b → ⊥) → bytes_eq a b ≡ false
apart a b differ = false_from_ne_true (bytes_eq a b) (λ same. differ ((bytes_eq-Decides a b).0 same))

-- texts that fail the test differ
differ_from : (a b : List ℕ) → bytes_eq a b ≡ false → a ≡ b → ⊥
differ_from a b other same = true≢false (sym ((bytes_eq-Decides a b).1 same) ∙ other)

pub entry_is : (es : Entries) (name : List ℕ) → entry_in es name ≡ unwrap_or (lookup es name) blank
unfolding entry_in lookup
entry_is [] name = refl
entry_is (e ∷ es) name = elim (cases_bool (bytes_eq e.0 name)) [ inl same ↦ rw same refl | inr other ↦ rw other (entry_is es name) ]

pub entry_found : (es : Entries) (name : List ℕ) (entry : Entry) → lookup es name ≡ Some entry → entry_in es name ≡ entry
entry_found es name entry found = entry_is es name ∙ ap (λ (o : Option Entry). unwrap_or o blank) found

pub entry_not_found : (es : Entries) (name : List ℕ) → lookup es name ≡ None → entry_in es name ≡ blank
entry_not_found es name none = entry_is es name ∙ ap (λ (o : Option Entry). unwrap_or o blank) none

-- the sources of entries have the files of the entries
pub file_is : (es : Entries) (name : List ℕ) → file_in (sources_of es) name ≡ (entry_in es name).file
unfolding file_in sources_of entry_in
file_is [] name = refl
file_is (e ∷ es) name = elim (cases_bool (bytes_eq e.0 name)) [ inl same ↦ rw same refl | inr other ↦ rw other (file_is es name) ]

-- and they have the written file where the entries have the written entry
pub sources_with : (es : Entries) (name : List ℕ) (entry : Entry) → sources_of (with_entry es name entry) ≡ with_file (sources_of es) name entry.file
unfolding with_file sources_of with_entry
sources_with [] name entry = refl
sources_with (e ∷ es) name entry = elim (cases_bool (bytes_eq e.0 name)) [ inl same ↦ rw same refl | inr other ↦ rw other (ap (λ (s : Sources). (e.0, e.1.file) ∷ s) (sources_with es name entry)) ]

-- a file was set exactly where there is an entry of it
pub was_set_is : (es : Entries) (name : List ℕ) → was_set (sources_of es) name ≡ is_some (lookup es name)
unfolding was_set sources_of lookup
was_set_is [] name = refl
was_set_is (e ∷ es) name = elim (cases_bool (bytes_eq e.0 name)) [ inl same ↦ rw same refl | inr other ↦ rw other (was_set_is es name) ]

pub length_sources : (es : Entries) → length (sources_of es) ≡ length es
unfolding sources_of
length_sources [] = refl
length_sources (e ∷ es) = ap suc (length_sources es)

-- a file that was set takes no new place
pub length_with_known : (es : Entries) (name : List ℕ) (entry : Entry) → is_some (lookup es name) ≡ true → length (with_entry es name entry) ≡ length es
unfolding lookup with_entry
length_with_known [] name entry known = absurd (true≢false (sym known))
length_with_known (e ∷ es) name entry known = elim (cases_bool (bytes_eq e.0 name)) [ inl same ↦ rw same refl | inr other ↦ rw other (ap suc (length_with_known es name entry (rw other at known))) ]

-- a file that was never set comes to the end
pub with_new : (es : Entries) (name : List ℕ) (entry : Entry) → lookup es name ≡ None → with_entry es name entry ≡ es ++ (name, entry) ∷ []
unfolding lookup with_entry
with_new [] name entry none = refl
with_new (e ∷ es) name entry none = elim (cases_bool (bytes_eq e.0 name)) [
  | inl same ↦ absurd (none-some e.1 (sym (rw same at none)))
  | inr other ↦ rw other (ap (λ (s : Entries). e ∷ s) (with_new es name entry (rw other at none)))
]

-- what is read after a write
pub entry_after : (es : Entries) (name : List ℕ) (entry : Entry) (q : List ℕ) → entry_in (with_entry es name entry) q ≡ cond (bytes_eq name q) entry (entry_in es q)
unfolding entry_in with_entry
entry_after [] name entry q = refl
entry_after (e ∷ es) name entry q = elim (cases_bool (bytes_eq e.0 name)) [
  | inl same ↦ rw (same, (bytes_eq-Decides e.0 name).0 same) (elim (cases_bool (bytes_eq name q)) [ inl here ↦ rw here refl | inr there ↦ rw there refl ])
  | inr other ↦ rw other (elim (cases_bool (bytes_eq e.0 q)) [
    | inl here ↦ let apart_now : bytes_eq name q ≡ false = apart name q (λ n. differ_from e.0 name other ((bytes_eq-Decides e.0 q).0 here ∙ sym n)) in rw (here, apart_now) refl
    | inr there ↦ rw there (entry_after es name entry q)
  ])
]

-- names and entries side by side, one more of each
pub side_push : (ns : List (List ℕ)) (es : List Entry) (n : List ℕ) (e : Entry) → length ns ≡ length es → side_by_side (ns ++ n ∷ []) (es ++ e ∷ []) ≡ side_by_side ns es ++ (n, e) ∷ []
unfolding side_by_side
side_push [] [] n e paired = refl
side_push [] (f ∷ es) n e paired = absurd (omega arith)
side_push (m ∷ ns) [] n e paired = absurd (omega arith)
side_push (m ∷ ns) (f ∷ es) n e paired = ap (λ (s : Entries). (m, f) ∷ s) (side_push ns es n e (omega arith))

pub side_length : (ns : List (List ℕ)) (es : List Entry) → length ns ≡ length es → length (side_by_side ns es) ≡ length es
unfolding side_by_side
side_length [] [] paired = refl
side_length [] (f ∷ es) paired = absurd (omega arith)
side_length (m ∷ ns) [] paired = absurd (omega arith)
side_length (m ∷ ns) (f ∷ es) paired = ap suc (side_length ns es (omega arith))

-- an entry is the record at its place
pub side_get : (ns : List (List ℕ)) (es : List Entry) (i : ℕ) (n : List ℕ) (e : Entry) → slice_get (side_by_side ns es) i ≡ Some (n, e) → slice_get es i ≡ Some e
unfolding side_by_side
side_get [] es i n e is = absurd (none-some (n, e) is)
side_get (m ∷ ns) [] i n e is = absurd (none-some (n, e) is)
side_get (m ∷ ns) (f ∷ es) zero n e is = ap (λ (p : List ℕ × Entry). Some p.1) (same_Some (m, f) (n, e) is)
side_get (m ∷ ns) (f ∷ es) (suc i) n e is = side_get ns es i n e is

-- one entry written
pub side_set : (ns : List (List ℕ)) (es : List Entry) (i : ℕ) (n : List ℕ) (old e : Entry) → slice_get (side_by_side ns es) i ≡ Some (n, old) → side_by_side ns (slice_set es i e) ≡ slice_set (side_by_side ns es) i (n, e)
unfolding side_by_side
side_set [] es i n old e is = refl
side_set (m ∷ ns) [] i n old e is = refl
side_set (m ∷ ns) (f ∷ es) zero n old e is = let same : m ≡ n = ap (λ (p : List ℕ × Entry). p.0) (same_Some (m, f) (n, old) is) in rw same refl
side_set (m ∷ ns) (f ∷ es) (suc i) n old e is = ap (λ (s : Entries). (m, f) ∷ s) (side_set ns es i n old e is)

-- a name that stands nowhere has no entry
pub lookup_nowhere : (ns : List (List ℕ)) (es : List Entry) (name : List ℕ) → ((j : ℕ) → slice_get ns j ≡ Some name → ⊥) → lookup (side_by_side ns es) name ≡ None
unfolding side_by_side lookup
lookup_nowhere [] es name nowhere = refl
lookup_nowhere (n ∷ ns) [] name nowhere = refl
lookup_nowhere (n ∷ ns) (e ∷ es) name nowhere =
    let other : bytes_eq n name ≡ false = apart n name (λ same. nowhere 0 (ap (λ (z : List ℕ). Some z) same)) in
    rw other (lookup_nowhere ns es name (λ j. nowhere (suc j)))

-- what follows where a name stands at one place
pub record StandsAt (entries : Entries) (name : List ℕ) (i : ℕ) (entry : Entry) : Type 0 where
  pub there : slice_get entries i ≡ Some (name, entry)
  pub found : lookup entries name ≡ Some entry
  pub read : entry_in entries name ≡ entry
  pub written : (e : Entry) → slice_set entries i (name, e) ≡ with_entry entries name e

-- a name that stands at one place has its entry there
pub stands_at : (ns : List (List ℕ)) (es : List Entry) (name : List ℕ) (i : ℕ) (entry : Entry) → slice_get ns i ≡ Some name → ((j : ℕ) → slice_get ns j ≡ Some name → j ≡ i) → slice_get es i ≡ Some entry → StandsAt (side_by_side ns es) name i entry
unfolding side_by_side lookup with_entry entry_in
stands_at [] es name i entry is one has = absurd (none-some name is)
stands_at (n ∷ ns) [] name i entry is one has = absurd (none-some entry has)
stands_at (n ∷ ns) (f ∷ es) name zero entry is one has =
    let same_name : n ≡ name = same_Some n name is in
    let same_entry : f ≡ entry = same_Some f entry has in
    let same : bytes_eq n name ≡ true = (bytes_eq-Decides n name).1 same_name in
    record { there = rw (same_name, same_entry) refl; found = rw (same, same_entry) refl; read = rw (same, same_entry) refl; written = λ e. rw same refl }
stands_at (n ∷ ns) (f ∷ es) name (suc i) entry is one has =
    let other : bytes_eq n name ≡ false = apart n name (λ same. let wrong = one 0 (ap (λ (z : List ℕ). Some z) same) in omega arith) in
    let rest = stands_at ns es name i entry is (λ j at. let more = one (suc j) at in omega arith) has in
    record { there = rest.there; found = rw other rest.found; read = rw other rest.read; written = λ e. rw other (ap (λ (s : Entries). (n, f) ∷ s) (rest.written e)) }

-- where a number is found exactly at the places of a name, the name stands there, and only there
pub stands_found : (ns : List (List ℕ)) (es : List Entry) (name : List ℕ) (number : Option ℕ) (i : ℕ) (entry : Entry) → ((id : ℕ) → (number ≡ Some id → slice_get ns id ≡ Some name) × (slice_get ns id ≡ Some name → number ≡ Some id)) → number ≡ Some i → slice_get es i ≡ Some entry → StandsAt (side_by_side ns es) name i entry
stands_found ns es name number i entry finds is has = stands_at ns es name i entry ((finds i).0 is) (λ j at. same_Some j i (sym ((finds j).1 at) ∙ is)) has

-- where none is found, the name stands nowhere
pub not_found : (ns : List (List ℕ)) (name : List ℕ) (number : Option ℕ) → ((id : ℕ) → (number ≡ Some id → slice_get ns id ≡ Some name) × (slice_get ns id ≡ Some name → number ≡ Some id)) → number ≡ None → (j : ℕ) → slice_get ns j ≡ Some name → ⊥
not_found ns name number finds none j at = none-some j (sym none ∙ (finds j).1 at)

-- what follows where a name is put at the end
pub record PutAt (old new : Entries) (name : List ℕ) (i : ℕ) : Type 0 where
  pub there : slice_get new i ≡ Some (name, entry_in old name)
  pub written : (e : Entry) → slice_set new i (name, e) ≡ with_entry old name e

-- a name that stands nowhere is put at the end, with nothing kept of its file
pub put_at_end : (ns : List (List ℕ)) (es : List Entry) (name : List ℕ) → length ns ≡ length es → ((j : ℕ) → slice_get ns j ≡ Some name → ⊥) → PutAt (side_by_side ns es) (side_by_side (ns ++ name ∷ []) (es ++ blank ∷ [])) name (length ns)
put_at_end ns es name paired nowhere =
    let entries = side_by_side ns es in
    let none = lookup_nowhere ns es name nowhere in
    let at_end : length ns ≡ length entries = paired ∙ sym (side_length ns es paired) in
    record {
      there = rw (side_push ns es name blank paired, at_end, entry_not_found entries name none) (push_last entries (name, blank));
      written = λ e. rw (side_push ns es name blank paired, at_end, with_new entries name e none) (set-append_seam entries (name, blank) [] (name, e));
    }

-- the source of an entry stands at its place
pub sources_get : (es : Entries) (i : ℕ) (n : List ℕ) (e : Entry) → slice_get es i ≡ Some (n, e) → slice_get (sources_of es) i ≡ Some (n, e.file)
unfolding sources_of
sources_get [] i n e is = absurd (none-some (n, e) is)
sources_get (f ∷ es) zero n e is = ap (λ (p : List ℕ × Entry). Some (p.0, p.1.file)) (same_Some f (n, e) is)
sources_get (f ∷ es) (suc i) n e is = sources_get es i n e is

-- the file of an entry that was found
pub file_found : (es : Entries) (files : Sources) (name : List ℕ) (entry : Entry) → sources_of es ≡ files → lookup es name ≡ Some entry → file_in files name ≡ entry.file
file_found es files name entry are found = ap (λ (s : Sources). file_in s name) (sym are) ∙ file_is es name ∙ ap (λ (e : Entry). e.file) (entry_found es name entry found)

-- the file of a name without an entry
pub file_not_found : (es : Entries) (files : Sources) (name : List ℕ) → sources_of es ≡ files → lookup es name ≡ None → file_in files name ≡ never_set
file_not_found es files name are none = ap (λ (s : Sources). file_in s name) (sym are) ∙ file_is es name ∙ ap (λ (e : Entry). e.file) (entry_not_found es name none)

-- an entry of this file and this revision
pub entry_path : (entry : Entry) (file : File) (changed : ℕ) → entry.file ≡ file → entry.changed ≡ changed → entry ≡ record { file = file; changed = changed }
entry_path entry file changed of_file of_changed = ap₂ make of_file of_changed
  where
    make : File → ℕ → Entry
    make f n = record { file = f; changed = n }

-- what a reference in an option refers to is there where the reference is
pub copied_some : {X : Type 0} (o : Option (Bor X)) → is_some (option_copied o) ≡ is_some o
copied_some None = refl
copied_some (Some x) = refl

-- a copied option has what its reference refers to
pub copied_map : {X : Type 0} (o : Option (Bor X)) → option_copied o ≡ option_map (λ x. x.now) o
copied_map None = refl
copied_map (Some x) = refl
