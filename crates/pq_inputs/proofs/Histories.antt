-- Histories, as one more state of the sources comes.
use Rattle.std.proofs.Common.{◌≡◌, ℕ, ◌+◌, ◌-◌, ◌<◌, ◌≤◌, inl, inr, List, [], ◌∷◌, ◌++◌, length, slice_get, Some, sym, ap, ◌∙◌, subst, arith, zero, suc, get_or}
use Rattle.std.proofs.lemmas.Bool.{cases_lt}
use Rattle.std.proofs.lemmas.List.{length_push}
use Rattle.std.proofs.lemmas.Option.{slice_get_within, slice_get-get_or, same_Some}
use Rattle.pq_names.proofs.Places.{push_keeps, push_last, push_cases}
use Rattle.pq_inputs.specs.declared.durability.Durability.{Durability}
use Rattle.pq_inputs.specs.Sources.{File, Sources, file_in, ChangesAt}
use Rattle.pq_inputs.specs.Changes.{level, ChangesOfAt, IsLastChange, IsLastChangeOf}
use Rattle.pq_inputs.proofs.FileTests.{same_unless}
use Rattle.pq_inputs.proofs.Last.{IsExtended}

-- what a list has before its end does not depend on what was pushed
pub push_before : {X : Type 0} (xs : List X) (y : X) (i : ℕ) (x : X) → i < length xs → slice_get (xs ++ y ∷ []) i ≡ Some x → slice_get xs i ≡ Some x
push_before xs y i x within is = elim (push_cases xs y i x is) [ inl before ↦ before | inr last ↦ absurd (let at_end = last.0 in omega arith) ]

-- a change that a history has, it has with one more state at its end
abbrev change_kept : (history : List Sources) (next : Sources) (name : List ℕ) (p : ℕ) → ChangesAt history name p → ChangesAt (history ++ next ∷ []) name p
change_kept history next name p c = record { before = c.before; after = c.after; was = push_keeps history next p c.before c.was; is = push_keeps history next (p + 1) c.after c.is; differs = c.differs }

-- and the other way round, but for the last change
abbrev change_before : (history : List Sources) (next : Sources) (name : List ℕ) (p : ℕ) → p + 1 < length history → ChangesAt (history ++ next ∷ []) name p → ChangesAt history name p
change_before history next name p within c = record { before = c.before; after = c.after; was = push_before history next p c.before (omega arith) c.was; is = push_before history next (p + 1) c.after within c.is; differs = c.differs }

-- a change lies within the history
change_within : (history : List Sources) (name : List ℕ) (p : ℕ) → ChangesAt history name p → p + 1 < length history
change_within history name p c = slice_get_within history (p + 1) c.after c.is

module _ (history : List Sources) (n : ℕ) (now next : Sources) (counted : length history ≡ n + 1) (latest : slice_get history n ≡ Some now) where
  -- the changes of a file
  pub changes_extended : (name : List ℕ) → IsExtended (ChangesAt history name) (ChangesAt (history ++ next ∷ []) name) n
  changes_extended name = record {
    old_below = λ p c. let within = change_within history name p c in omega arith;
    kept = λ p c. change_kept history next name p c;
    no_more = λ p within c. change_before history next name p (omega arith) c;
    new_below = λ p c. let within = change_within (history ++ next ∷ []) name p c in omega (arith, length_push history next);
  }

  -- the changes of the files of a durability or more
  pub changes_of_extended : (d : Durability) → IsExtended (ChangesOfAt history d) (ChangesOfAt (history ++ next ∷ []) d) n
  changes_of_extended d = record {
    old_below = λ p c. (changes_extended c.name).old_below p c.change;
    kept = λ p c. record { name = c.name; change = change_kept history next c.name p c.change; lasting = c.lasting };
    no_more = λ p within c. record { name = c.name; change = change_before history next c.name p (omega arith) c.change; lasting = c.lasting };
    new_below = λ p c. (changes_extended c.name).new_below p c.change;
  }

  -- the state before the last change, and the one after it
  pub last_before : (before : Sources) → slice_get (history ++ next ∷ []) n ≡ Some before → before ≡ now
  last_before before is = same_Some before now (sym is ∙ push_keeps history next n now latest)

  pub last_after : (after : Sources) → slice_get (history ++ next ∷ []) (n + 1) ≡ Some after → after ≡ next
  last_after after is = same_Some after next (sym is ∙ ap (slice_get (history ++ next ∷ [])) (sym counted) ∙ push_last history next)

  -- a file that is the same in the next state did not change last
  pub no_last_change : (name : List ℕ) → file_in now name ≡ file_in next name → ChangesAt (history ++ next ∷ []) name n → ⊥
  no_last_change name same c = c.differs (ap (λ (s : Sources). file_in s name) (last_before c.before c.was) ∙ same ∙ ap (λ (s : Sources). file_in s name) (sym (last_after c.after c.is)))

  -- a file that is another in the next state changed last
  abbrev pub last_change : (name : List ℕ) → (file_in now name ≡ file_in next name → ⊥) → ChangesAt (history ++ next ∷ []) name n
  last_change name differs = record { before = now; after = next; was = push_keeps history next n now latest; is = ap (slice_get (history ++ next ∷ [])) (sym counted) ∙ push_last history next; differs = differs }

-- a history of one state has no change
pub no_change : (only : Sources) (name : List ℕ) (p : ℕ) → ChangesAt (only ∷ []) name p → ⊥
no_change only name p c = let within = change_within (only ∷ []) name p c in omega arith

-- a file that did not change after a revision is at the end what it was then
pub same_since : (history : List Sources) (n : ℕ) (now : Sources) (name : List ℕ) (r : ℕ) → length history ≡ n + 1 → slice_get history n ≡ Some now → IsLastChange history name r → (left v : ℕ) (then : Sources) → v + left ≡ n → r ≤ v → slice_get history v ≡ Some then → file_in then name ≡ file_in now name
same_since history n now name r counted latest last zero v then at_end after is =
    let same : then ≡ now = same_Some then now (sym is ∙ ap (slice_get history) (omega arith) ∙ latest) in
    ap (λ (s : Sources). file_in s name) same
same_since history n now name r counted latest last (suc left) v then at_end after is =
    let next = get_or history (v + 1) [] in
    let next_is : slice_get history (v + 1) ≡ Some next = slice_get-get_or history (v + 1) [] (omega arith) in
    let rest : file_in next name ≡ file_in now name = same_since history n now name r counted latest last left (v + 1) next (omega arith) (omega arith) next_is in
    same_unless (file_in then name) (file_in next name) (λ differs. last.latest v after (record { before = then; after = next; was = is; is = next_is; differs = differs })) ∙ rest

-- the last change lies within the history
pub last_change_within : (history : List Sources) (n : ℕ) (name : List ℕ) (r : ℕ) → length history ≡ n + 1 → IsLastChange history name r → r ≤ n
last_change_within history n name r counted last = elim (cases_lt 0 r) [
  | inr none ↦ omega arith
  | inl some ↦ let within = change_within history name (r - 1) (last.happened (r - 1) (omega arith)) in omega arith
]

-- and so does that of a durability
pub last_change_of_within : (history : List Sources) (n : ℕ) (d : Durability) (r : ℕ) → length history ≡ n + 1 → IsLastChangeOf history d r → r ≤ n
last_change_of_within history n d r counted last = elim (cases_lt 0 r) [
  | inr none ↦ omega arith
  | inl some ↦ let c = last.happened (r - 1) (omega arith) in let within = change_within history c.name (r - 1) c.change in omega arith
]

-- a file of a durability or more that had its last such change before a revision is from that
-- revision on what it was
pub lasting_since : (history : List Sources) (d : Durability) (r : ℕ) → IsLastChangeOf history d r → (left v : ℕ) (then later : Sources) → r ≤ v → slice_get history v ≡ Some then → slice_get history (v + left) ≡ Some later → (name : List ℕ) → level d ≤ level (file_in then name).durability → file_in then name ≡ file_in later name
lasting_since history d r last zero v then later after was is name lasting =
    let same : then ≡ later = same_Some then later (sym was ∙ ap (slice_get history) (omega arith) ∙ is) in
    ap (λ (s : Sources). file_in s name) same
lasting_since history d r last (suc left) v then later after was is name lasting =
    let within = slice_get_within history (v + suc left) later is in
    let next = get_or history (v + 1) [] in
    let next_is : slice_get history (v + 1) ≡ Some next = slice_get-get_or history (v + 1) [] (omega (arith, within)) in
    let same : file_in then name ≡ file_in next name = same_unless (file_in then name) (file_in next name) (λ differs. last.latest v after (record { name = name; change = record { before = then; after = next; was = was; is = next_is; differs = differs }; lasting = lasting })) in
    let lasts : level d ≤ level (file_in next name).durability = subst (λ (f : File). level d ≤ level f.durability) same lasting in
    let end_is : slice_get history ((v + 1) + left) ≡ Some later = ap (slice_get history) (omega arith) ∙ is in
    same ∙ lasting_since history d r last left (v + 1) next later (omega arith) next_is end_is name lasts
