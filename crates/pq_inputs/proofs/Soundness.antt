-- The table stays sound: at first, and as a file is set.
use Rattle.std.proofs.Common.{◌≡◌, ◌≢◌, ℕ, ◌+◌, ◌<◌, ◌≤◌, inl, inr, Bool, true, false, cond, if◌then◌else◌, List, [], ◌∷◌, ◌++◌, length, slice_get, Option, Some, None, refl, sym, ap, ◌∙◌, subst, arith, leb-true, leb-false, true≢false}
use Rattle.std.specs.Prelude.{nat_le, ◌==◌, MatchOption, is_some}
use Rattle.std.specs.Str.{bytes_eq}
use Rattle.std.proofs.lemmas.List.{length_push}
use Rattle.std.proofs.lemmas.Option.{none-some, slice_get_within}
use Rattle.std.proofs.lemmas.Slice.Eq.{bytes_eq-Decides}
use Rattle.pq_names.proofs.Places.{push_keeps, push_last, push_cases}
use Rattle.pq_inputs.specs.declared.durability.Durability.{Durability}
use Rattle.pq_inputs.specs.Sources.{File, Sources, file_in, with_file, ChangesAt}
use Rattle.pq_inputs.specs.Changes.{level, ChangesOfAt, IsLastChange, IsLastChangeOf}
use Rattle.pq_inputs.specs.declared.fault.InputFault.TheVariants.{TextTooLong, TooManyFiles, RevisionsUsedUp}
use Rattle.pq_inputs.specs.Refusal.{most_files, last_revision, is_too_long, is_full_for, refusal}
use Rattle.pq_inputs.specs.aux.Kept.{Entry, Entries, lookup, entry_in, with_entry, sources_of, Marks, mark_of, IsKept}
use Rattle.pq_inputs.proofs.FileTests.{cases_bool, below_limit}
use Rattle.pq_inputs.proofs.EntryLemmas.{sources_with, file_is, entry_after, was_set_is, length_sources, length_with_known, with_new}
use Rattle.pq_inputs.proofs.Last.{last_stays, last_moves}
use Rattle.pq_inputs.proofs.Histories.{push_before, changes_extended, changes_of_extended, last_before, no_last_change, last_change, no_change}

-- at first no file was set, and nothing changed
pub kept_new : (limit : ℕ) (marks : Marks) → limit ≤ most_files → ((d : Durability) → mark_of marks d ≡ 0) → IsKept limit [] 0 marks ([] ∷ [])
unfolding sources_of entry_in
kept_new limit marks most none = record {
  few = omega arith;
  limited = most;
  bounded = omega arith;
  counted = refl;
  first = refl;
  latest = refl;
  made = λ r before after was is. let within = slice_get_within ([] ∷ []) (r + 1) after is in absurd (omega arith);
  changes = λ name. record { happened = λ p is. absurd (omega arith); latest = λ p after c. no_change [] name p c };
  of_level = λ d. rw (none d) (record { happened = λ p is. absurd (omega arith); latest = λ p after c. no_change [] c.name p c.change });
}

module _ (limit : ℕ) (es : Entries) (n : ℕ) (marks : Marks) (history : List Sources) (kept : IsKept limit es n marks history) (name : List ℕ) (entry : Entry) where
  abbrev pub after : Entries
  after = with_entry es name entry

  abbrev pub next : List Sources
  next = history ++ sources_of after ∷ []

  -- what all that follows takes for granted
  pub record Accepted : Type 0 where
    pub room : length after ≤ limit
    pub below : n < last_revision

  -- another file stays
  same_elsewhere : (q : List ℕ) → bytes_eq name q ≡ false → entry_in after q ≡ entry_in es q
  same_elsewhere q other = entry_after es name entry q ∙ ap (λ (b : Bool). cond b entry (entry_in es q)) other

  -- the file of the name is the new one
  here : (q : List ℕ) → bytes_eq name q ≡ true → entry_in after q ≡ entry
  here q same = entry_after es name entry q ∙ ap (λ (b : Bool). cond b entry (entry_in es q)) same

  -- a file of the same text and durability in both did not change
  unchanged : (q : List ℕ) → (entry_in es q).file ≡ (entry_in after q).file → ChangesAt next q n → ⊥
  unchanged q same = no_last_change history n (sources_of es) (sources_of after) kept.counted kept.latest q (file_is es q ∙ same ∙ sym (file_is after q))

  -- each sources of the new history are the ones before with one file set
  made_next : (r : ℕ) (before later : Sources) → slice_get next r ≡ Some before → slice_get next (r + 1) ≡ Some later → (q : List ℕ) × (file : File) × (later ≡ with_file before q file)
  made_next r before later was is = elim (push_cases history (sources_of after) (r + 1) later is) [
    | inl old ↦
        let within = slice_get_within history (r + 1) later old in
        kept.made r before later (push_before history (sources_of after) r before (omega arith) was) old
    | inr last ↦
        let counted = kept.counted in
        let end = last.0 in
        let at : r ≡ n = omega arith in
        let before_is : before ≡ sources_of es = last_before history n (sources_of es) (sources_of after) kept.counted kept.latest before (subst (λ (i : ℕ). slice_get next i ≡ Some before) at was) in
        (name, entry.file, sym last.1 ∙ sources_with es name entry ∙ ap (λ (s : Sources). with_file s name entry.file) (sym before_is))
  ]

  -- what holds of the new history, whatever changed
  sound : Accepted → (more : Marks) → ((q : List ℕ) → IsLastChange next q (entry_in after q).changed) → ((d : Durability) → IsLastChangeOf next d (mark_of more d)) → IsKept limit after (n + 1) more next
  sound accepted more changes of_level = record {
    few = accepted.room;
    limited = kept.limited;
    bounded = let below = accepted.below in omega arith;
    counted = let counted = kept.counted in omega (arith, length_push history (sources_of after));
    first = push_keeps history (sources_of after) 0 [] kept.first;
    latest = ap (slice_get next) (sym kept.counted) ∙ push_last history (sources_of after);
    made = made_next;
    changes = changes;
    of_level = of_level;
  }

  -- a file that is set to what it was: nothing changed
  pub kept_same : Accepted → (entry_in es name).file ≡ entry.file → entry.changed ≡ (entry_in es name).changed → IsKept limit after (n + 1) marks next
  kept_same accepted same changed = sound accepted marks
      (λ q. let stays : (entry_in es q).changed ≡ (entry_in after q).changed = changed_stays q in
      subst (λ (r : ℕ). IsLastChange next q r) stays (last_stays (changes_extended history n (sources_of es) (sources_of after) kept.counted kept.latest q) (entry_in es q).changed (kept.changes q) (unchanged q (file_stays q))))
      (λ d. last_stays (changes_of_extended history n (sources_of es) (sources_of after) kept.counted kept.latest d) (mark_of marks d) (kept.of_level d) (λ c. unchanged c.name (file_stays c.name) c.change))
    where
      file_stays : (q : List ℕ) → (entry_in es q).file ≡ (entry_in after q).file
      file_stays q = elim (cases_bool (bytes_eq name q)) [
        | inl is ↦ let one : name ≡ q = (bytes_eq-Decides name q).0 is in
            ap (λ (s : List ℕ). (entry_in es s).file) (sym one) ∙ same ∙ ap (λ (e : Entry). e.file) (sym (here q is))
        | inr other ↦ ap (λ (e : Entry). e.file) (sym (same_elsewhere q other))
      ]

      changed_stays : (q : List ℕ) → (entry_in es q).changed ≡ (entry_in after q).changed
      changed_stays q = elim (cases_bool (bytes_eq name q)) [
        | inl is ↦ let one : name ≡ q = (bytes_eq-Decides name q).0 is in
            ap (λ (s : List ℕ). (entry_in es s).changed) (sym one) ∙ sym changed ∙ ap (λ (e : Entry). e.changed) (sym (here q is))
        | inr other ↦ ap (λ (e : Entry). e.changed) (sym (same_elsewhere q other))
      ]

  -- where the files differ, the file of the name changed
  abbrev change_here : ((entry_in es name).file ≡ entry.file → ⊥) → ChangesAt next name n
  change_here differs = last_change history n (sources_of es) (sources_of after) kept.counted kept.latest name
      (λ same. differs (sym (file_is es name) ∙ same ∙ file_is after name ∙ ap (λ (e : Entry). e.file) (here name ((bytes_eq-Decides name name).1 refl))))

  -- a file that changed: its revision and those of its durability and the lower ones move
  pub kept_changed : Accepted → (more : Marks) → ((entry_in es name).file ≡ entry.file → ⊥) → entry.changed ≡ n + 1 → ((d : Durability) → mark_of more d ≡ (if nat_le (level d) (level (entry_in es name).file.durability) then n + 1 else mark_of marks d)) → IsKept limit after (n + 1) more next
  kept_changed accepted more differs changed noted = sound accepted more changes of_level
    where
      -- no other file changed
      elsewhere : (q : List ℕ) → bytes_eq name q ≡ false → ChangesAt next q n → ⊥
      elsewhere q other = unchanged q (ap (λ (e : Entry). e.file) (sym (same_elsewhere q other)))

      changes : (q : List ℕ) → IsLastChange next q (entry_in after q).changed
      changes q = elim (cases_bool (bytes_eq name q)) [
        | inl is ↦ let one : name ≡ q = (bytes_eq-Decides name q).0 is in
            let moved = last_moves (changes_extended history n (sources_of es) (sources_of after) kept.counted kept.latest q) (subst (λ (s : List ℕ). ChangesAt next s n) one (change_here differs)) in
            let at : n + 1 ≡ (entry_in after q).changed = sym changed ∙ ap (λ (e : Entry). e.changed) (sym (here q is)) in
            subst (λ (r : ℕ). IsLastChange next q r) at moved
        | inr other ↦ let at : (entry_in es q).changed ≡ (entry_in after q).changed = ap (λ (e : Entry). e.changed) (sym (same_elsewhere q other)) in
            subst (λ (r : ℕ). IsLastChange next q r) at (last_stays (changes_extended history n (sources_of es) (sources_of after) kept.counted kept.latest q) (entry_in es q).changed (kept.changes q) (elsewhere q other))
      ]

      -- a change of a lasting file was of the file that was set
      not_lower : (d : Durability) → nat_le (level d) (level (entry_in es name).file.durability) ≡ false → ChangesOfAt next d n → ⊥
      not_lower d above c = elim (cases_bool (bytes_eq name c.name)) [
        | inl is ↦ let one : name ≡ c.name = (bytes_eq-Decides name c.name).0 is in
            let before : c.change.before ≡ sources_of es = last_before history n (sources_of es) (sources_of after) kept.counted kept.latest c.change.before c.change.was in
            let was : file_in c.change.before c.name ≡ (entry_in es name).file = ap (λ (s : Sources). file_in s c.name) before ∙ ap (file_in (sources_of es)) (sym one) ∙ file_is es name in
            let lasting = subst (λ (f : File). level d ≤ level f.durability) was c.lasting in
            absurd (let below = leb-false (level d) (level (entry_in es name).file.durability) above in omega arith)
        | inr other ↦ elsewhere c.name other c.change
      ]

      of_level : (d : Durability) → IsLastChangeOf next d (mark_of more d)
      of_level d = elim (cases_bool (nat_le (level d) (level (entry_in es name).file.durability))) [
        | inl reaches ↦
            let lasting : level d ≤ level (file_in (sources_of es) name).durability = rw file_is (leb-true (level d) (level (entry_in es name).file.durability) reaches) in
            let moved = last_moves (changes_of_extended history n (sources_of es) (sources_of after) kept.counted kept.latest d) (record { name = name; change = (change_here differs); lasting = lasting }) in
            let at : n + 1 ≡ mark_of more d = sym (noted d ∙ rw reaches refl) in
            subst (λ (r : ℕ). IsLastChangeOf next d r) at moved
        | inr above ↦
            let at : mark_of marks d ≡ mark_of more d = sym (noted d ∙ rw above refl) in
            subst (λ (r : ℕ). IsLastChangeOf next d r) at (last_stays (changes_of_extended history n (sources_of es) (sources_of after) kept.counted kept.latest d) (mark_of marks d) (kept.of_level d) (not_lower d above))
      ]

-- what is not refused meets no test
unrefused_parts : (too_long full used_up : Bool) → (if too_long then Some TextTooLong else (if full then Some TooManyFiles else (if used_up then Some RevisionsUsedUp else None))) ≡ None → (full ≡ false) × (used_up ≡ false)
unrefused_parts true full used_up none = absurd (none-some TextTooLong (sym none))
unrefused_parts false true used_up none = absurd (none-some TooManyFiles (sym none))
unrefused_parts false false true none = absurd (none-some RevisionsUsedUp (sym none))
unrefused_parts false false false none = (refl, refl)

-- an option that has nothing
not_some : (o : Option Entry) → is_some o ≡ false → o ≡ None
not_some None none = refl
not_some (Some e) none = absurd (true≢false none)

-- what is not refused finds room for its file and its revision
pub accepted : (limit : ℕ) (es : Entries) (n : ℕ) (marks : Marks) (history : List Sources) (kept : IsKept limit es n marks history) (name : List ℕ) (entry : Entry) (text : Option (List ℕ)) → refusal (record { files = sources_of es; revision = n; history = history; limit = limit }) name text ≡ None → Accepted limit es n marks history kept name entry
accepted limit es n marks history kept name entry text unrefused = record { room = room; below = below }
  where
    parts : (is_full_for (record { files = sources_of es; revision = n; history = history; limit = limit }) name ≡ false) × ((n == last_revision) ≡ false)
    parts = unrefused_parts (is_too_long text) (is_full_for (record { files = sources_of es; revision = n; history = history; limit = limit }) name) (n == last_revision) unrefused

    room : length (with_entry es name entry) ≤ limit
    room = elim (cases_bool (is_some (lookup es name))) [
      | inl known ↦ rw (length_with_known es name entry known) kept.few
      | inr new ↦
          let free : (length (sources_of es) == limit) ≡ false = rw (was_set_is es name ∙ new) at parts.0 in
          let below_all : length es < limit = below_limit (length es) limit kept.few (rw length_sources at free) in
          rw (with_new es name entry (not_some (lookup es name) new)) (omega (arith, length_push es (name, entry), below_all))
    ]

    below : n < last_revision
    below = below_limit n last_revision kept.bounded parts.1

-- a file that is set, whether it changed or not
pub kept_set : (limit : ℕ) (es : Entries) (n : ℕ) (marks : Marks) (history : List Sources) (kept : IsKept limit es n marks history) (name : List ℕ) (entry : Entry) (text : Option (List ℕ)) (more : Marks) (before : Option Durability) → refusal (record { files = sources_of es; revision = n; history = history; limit = limit }) name text ≡ None → entry.changed ≡ (if is_some before then n + 1 else (entry_in es name).changed) → MatchOption before ((entry_in es name).file ≡ entry.file) (λ d. (d ≡ (entry_in es name).file.durability) × ((entry_in es name).file ≢ entry.file)) → MatchOption before (more ≡ marks) (λ b. (d : Durability) → mark_of more d ≡ (if nat_le (level d) (level b) then n + 1 else mark_of marks d)) → IsKept limit (with_entry es name entry) (n + 1) more (history ++ sources_of (with_entry es name entry) ∷ [])
kept_set limit es n marks history kept name entry text more None unrefused changed same noted =
    rw noted (kept_same limit es n marks history kept name entry (accepted limit es n marks history kept name entry text unrefused) same changed)
kept_set limit es n marks history kept name entry text more (Some b) unrefused changed differs noted =
    kept_changed limit es n marks history kept name entry (accepted limit es n marks history kept name entry text unrefused) more differs.1 changed
    (λ d. noted d ∙ ap (λ (l : Durability). if nat_le (level d) (level l) then n + 1 else mark_of marks d) differs.0)
