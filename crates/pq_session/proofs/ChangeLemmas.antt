-- The changes of a list, read one after another.
use Rattle.std.proofs.Common.{◌≡◌, refl, sym, ◌∙◌, ap, List, [], ◌∷◌, ◌++◌, append_assoc, Option, Some, None, option_map, length, arith}
use Rattle.std.specs.Prelude.{option_and_then}
use Rattle.std.proofs.lemmas.List.{append-nil}
use Rattle.serde_json.specs.View.{view, items_view}
use Rattle.serde_json.specs.declared.value.Value.{Value}
use Rattle.pq_lex.specs.TextChanges.{TextChangeView}
use Rattle.pq_session.specs.Session.{change_member, change_members}

-- the changes `taken` and those after them
abbrev pub taken_and : List TextChangeView → Option (List TextChangeView) → Option (List TextChangeView)
taken_and taken others = option_map (λ more. taken ++ more) others

-- a change, and those after it
abbrev with_first : Option TextChangeView → Option (List TextChangeView) → Option (List TextChangeView)
with_first first others = option_and_then (λ c. option_map (λ more. c ∷ more) others) first

one_more : (taken : List TextChangeView) (c : TextChangeView) (first : Option TextChangeView) (others : Option (List TextChangeView)) → Some c ≡ first → taken_and (taken ++ c ∷ []) others ≡ taken_and taken (with_first first others)
one_more taken c None others e = absurd (cc e)
one_more taken c (Some d) None e = refl
one_more taken c (Some d) (Some others) e =
    let same : c ≡ d = cc e in
    ap (λ (x : TextChangeView). Some ((taken ++ x ∷ []) ++ others)) same ∙ ap (λ (all : List TextChangeView). Some all) (append_assoc taken (d ∷ []) others)

-- the changes `taken` and those of `members`
abbrev read_after : List TextChangeView → List Value → Option (List TextChangeView)
read_after taken members = taken_and taken (change_members (items_view members))

-- a change that is readable joins those that were taken
pub read_one : (taken : List TextChangeView) (members : List Value) (v : Value) (vs : List Value) (c : TextChangeView) → members ≡ v ∷ vs → Some c ≡ change_member (view v) → taken_and (taken ++ c ∷ []) (change_members (items_view vs)) ≡ taken_and taken (change_members (items_view members))
read_one taken members v vs c steps is = one_more taken c (change_member (view v)) (change_members (items_view vs)) is ∙ ap (read_after taken) (sym steps)

none_first : (taken : List TextChangeView) (first : Option TextChangeView) (others : Option (List TextChangeView)) → None ≡ first → None ≡ taken_and taken (with_first first others)
none_first taken None others e = refl
none_first taken (Some c) others e = absurd (cc e)

-- after one that is not readable there are no changes
pub read_none : (taken : List TextChangeView) (members : List Value) (v : Value) (vs : List Value) → members ≡ v ∷ vs → None ≡ change_member (view v) → None ≡ taken_and taken (change_members (items_view members))
read_none taken members v vs steps is = none_first taken (change_member (view v)) (change_members (items_view vs)) is ∙ ap (read_after taken) (sym steps)

-- after the last member all were taken
pub read_all : (taken : List TextChangeView) (vs : List Value) → length vs ≡ 0 → Some taken ≡ taken_and taken (change_members (items_view vs))
read_all taken [] none = ap (λ (all : List TextChangeView). Some all) (sym (append-nil taken))
read_all taken (v ∷ vs) none = absurd (omega (arith, none))

none_taken : (others : Option (List TextChangeView)) → taken_and [] others ≡ others
none_taken None = refl
none_taken (Some others) = refl

-- before the first member none was taken
pub read_first : (vs : List Value) → taken_and [] (change_members (items_view vs)) ≡ change_members (items_view vs)
read_first vs = none_taken (change_members (items_view vs))
