-- Full names in parts, and their order.
use Rattle.std.proofs.Common.{◌≡◌, ◌==◌, ℕ, true, false, true≢false, Some, None, List, [], ◌∷◌, ◌++◌, length, refl, sym, ap, ◌∙◌, append_assoc, append-nil, arith}
use Rattle.std.specs.Prelude.{codes}
use Rattle.pq_schema.specs.Definitions.{qualified}
use Rattle.pq_schema.specs.aux.Inside.{next_in}
use Rattle.pq_schema.specs.aux.NameParts.{leading}
use Rattle.std.specs.List.{concat}
use Rattle.std.proofs.lemmas.Bool.Decides.{nat_tests}
use Rattle.std.proofs.lemmas.List.{length-append}
use Rattle.std.proofs.lemmas.List.Folds.{concat-append}

leading_some : (whole : List ℕ) → (length whole == 0) ≡ false → whole ++ codes "." ≡ leading whole
leading_some [] some = cc
leading_some (c ∷ cs) some = refl

-- the parts of a name and the dot after it
pub leading_parts : (scope parts more : List (List ℕ)) (name dotted whole : List ℕ)
    → parts ≡ scope
    → dotted ≡ name ++ codes "."
    → more ≡ parts ++ dotted ∷ []
    → concat scope ++ name ≡ whole
    → (length whole == 0) ≡ false
    → concat more ≡ leading whole
leading_parts scope parts more name dotted whole same is_dotted is is_whole some =
    ap concat is
    ∙ concat-append parts (dotted ∷ [])
    ∙ ap (λ (b : List ℕ). concat parts ++ b) (append-nil dotted ∙ is_dotted)
    ∙ ap (λ (ps : List (List ℕ)). concat ps ++ (name ++ codes ".")) same
    ∙ sym (append_assoc (concat scope) name (codes "."))
    ∙ ap (λ (b : List ℕ). b ++ codes ".") is_whole
    ∙ leading_some whole some

-- the parts of the empty package
no_leading : (name : List ℕ) → length name ≡ 0 → [] ≡ leading name
no_leading [] none = refl
no_leading (c ∷ cs) none = cc

pub empty_root : (name text : List ℕ) → text ≡ name → (length text == 0) ≡ true → [] ≡ leading name
empty_root name text is none =
    let empty : length text ≡ 0 = grind (arith, nat_tests) in
    no_leading name (sym (ap (λ (b : List ℕ). length b) is) ∙ empty)

-- the one part of another package
pub one_root : (none parts : List (List ℕ)) (name text root part : List ℕ) → none ≡ [] → parts ≡ none ++ part ∷ [] → part ≡ root → root ≡ name ++ codes "." → text ≡ name → (length text == 0) ≡ false
    → concat parts ≡ leading name
one_root none parts name text root part empty is same rooted as_text some =
    ap concat (is ∙ ap (λ (ps : List (List ℕ)). ps ++ part ∷ []) empty)
    ∙ append-nil part
    ∙ same
    ∙ rooted
    ∙ leading_some name (ap (λ (b : List ℕ). length b == 0) (sym as_text) ∙ some)

-- ---- what is before a name in a scope inside another

pub parts_after : (front old new : List (List ℕ)) (text : List ℕ) → old ≡ front → new ≡ old ++ text ∷ [] → concat new ≡ concat front ++ text
parts_after front old new text same is =
    ap concat (is ∙ ap (λ (ps : List (List ℕ)). ps ++ text ∷ []) same)
    ∙ concat-append front (text ∷ [])
    ∙ ap (λ (b : List ℕ). concat front ++ b) (append-nil text)

pub lead_empty : (front root scope lead : List ℕ) → (length (front ++ []) == 0) ≡ true → front ≡ leading root → lead ≡ leading scope → lead ≡ leading (qualified root scope)
lead_empty front [] scope lead none is same = same
lead_empty front (r ∷ rs) scope lead none is same =
    let empty : length (front ++ []) ≡ 0 = grind (arith, nat_tests) in
    let count = ap (λ (b : List ℕ). length b) (append-nil front ∙ is) in
    let some = length-append (r ∷ rs) (codes ".") in
    absurd (omega arith)

pub lead_some : (front root scope dotted lead : List ℕ) → (length (front ++ []) == 0) ≡ false → front ≡ leading root → dotted ≡ scope ++ codes "." → lead ≡ front ++ dotted → lead ≡ leading (qualified root scope)
lead_some front [] scope dotted lead some is dot same =
    absurd (true≢false (ap (λ (b : List ℕ). length (b ++ []) == 0) (sym is) ∙ some))
lead_some front (r ∷ rs) scope dotted lead some is dot same =
    same
    ∙ ap (λ (b : List ℕ). b ++ dotted) is
    ∙ ap (λ (b : List ℕ). ((r ∷ rs) ++ codes ".") ++ b) dot
    ∙ sym (append_assoc ((r ∷ rs) ++ codes ".") scope (codes "."))

-- ---- the name of a scope that is opened

pub next_some : (scope name : List ℕ) → (length name == 0) ≡ false → Some name ≡ next_in scope name
next_some [] [] some = absurd (true≢false some)
next_some [] (c ∷ cs) some = refl
next_some (r ∷ rs) name some = refl

pub next_scope : (scope name : List ℕ) → (length scope == 0) ≡ false → Some name ≡ next_in scope name
next_scope [] name some = absurd (true≢false some)
next_scope (r ∷ rs) name some = refl

pub next_none : (scope name : List ℕ) → (length scope == 0) ≡ true → (length name == 0) ≡ true → None ≡ next_in scope name
next_none [] [] none empty = refl
next_none [] (c ∷ cs) none empty = let is : length (c ∷ cs) ≡ 0 = grind (arith, nat_tests) in cc
next_none (r ∷ rs) name none empty = let is : length (r ∷ rs) ≡ 0 = grind (arith, nat_tests) in cc
