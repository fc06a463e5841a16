-- What was looked up in the open scopes: answers that are kept, and scopes that close and open.
use Rattle.std.proofs.Common.{◌≡◌, ◌⊎◌, ℕ, zero, suc, ◌+◌, ◌-◌, ◌<◌, Bool, true, false, cond, nat_lt, List, [], ◌∷◌, ◌++◌, length, get_or, map, slice_set, take, unwrap_or, Option, Some, None, IfSome, Result, Ok, Err, OnOk, refl, sym, ap, subst, ◌∙◌, inl, inr, arith, append_assoc}
use Rattle.std.proofs.lemmas.List.{get_or-append-add, get_or-take, length-append, length-take-le}
use Rattle.pq_rules.specs.Relations.{Each}
use Rattle.pq_rules.proofs.Characterisation.{each_append}
use Rattle.pq_syntax.specs.declared.tree.Statement.{Statement}
use Rattle.pq_syntax.specs.declared.tree.Statement.TheVariants as statements
use Rattle.pq_syntax.specs.Places.{Item}
use Rattle.pq_syntax.specs.Stacks.{closed, innermost}
use Rattle.pq_syntax.proofs.Walk.{inner_at}
use Rattle.pq_schema.specs.declared.search.asked.Answer.{Answer}
use Rattle.pq_schema.specs.declared.search.asked.Asked.{Asked}
use Rattle.pq_schema.specs.declared.scope.named.Place.{Place}
use Rattle.pq_schema.specs.declared.scope.package_range.PackageRange.{PackageRange}
use Rattle.pq_schema.specs.declared.scope.scope.FileDefs.{FileDefs}
use Rattle.pq_schema.specs.Definitions.{qualified}
use Rattle.pq_schema.specs.Resolution.{meaning}
use Rattle.pq_schema.specs.aux.Asked.{AreAsked, IsAsked}
use Rattle.pq_schema.specs.aux.Hits.{meaning_at}
use Rattle.pq_schema.specs.aux.Inside.{next_in, opened_by}
use Rattle.pq_schema.specs.aux.NameParts.{leading}
use Rattle.pq_schema.specs.aux.PackageRange.{IsRangeOf}
use Rattle.pq_schema.specs.aux.Scopes.{before}
use Rattle.pq_schema.proofs.Cases.{either}
use Rattle.pq_schema.proofs.Inside.{keep}

-- ---- one scope

each_or : {A : Type 0} (P : A → Type 0) (xs : List A) (i : ℕ) (d : A) → Each P xs → i < length xs → P (get_or xs i d)
each_or P [] i d all within = absurd (omega arith)
each_or P (x ∷ xs) zero d all within = all.0
each_or P (x ∷ xs) (suc i) d all within = each_or P xs i d all.1 (omega arith)

-- an answer that is kept under a name
pub known_right : (files : List FileDefs) (lead : List ℕ) (items answers : List Answer) (n : ℕ) (a : Answer) (text name : List ℕ)
    → items ≡ answers → n < length items → get_or items n a ≡ a → text ≡ a.name → text ≡ name
    → Each (λ (x : Answer). meaning_at x.place ≡ meaning files (lead ++ x.name)) answers
    → meaning_at a.place ≡ meaning files (lead ++ name)
known_right files lead items answers n a text name are within at is same all =
    subst (λ (x : Answer). meaning_at x.place ≡ meaning files (lead ++ x.name)) at
    (each_or (λ (x : Answer). meaning_at x.place ≡ meaning files (lead ++ x.name)) items n a
    (subst (λ (xs : List Answer). Each (λ (x : Answer). meaning_at x.place ≡ meaning files (lead ++ x.name)) xs) (sym are) all) within)
    ∙ ap (λ (b : List ℕ). meaning files (lead ++ b)) (sym is ∙ same)

-- a scope of which one more answer is kept
pub kept_more : (files : List FileDefs) (lead : List ℕ) (old new : Asked) (a : Answer) (name : List ℕ)
    → new.packages ≡ old.packages → new.answers.items ≡ old.answers.items ++ a ∷ [] → a.name ≡ name
    → IsAsked files lead old → meaning_at a.place ≡ meaning files (lead ++ name) → IsAsked files lead new
kept_more files lead old new a name kept added is are right = (
  subst (λ (xs : List Answer). Each (λ (x : Answer). meaning_at x.place ≡ meaning files (lead ++ x.name)) xs) (sym added)
      (each_append (λ (x : Answer). meaning_at x.place ≡ meaning files (lead ++ x.name)) old.answers.items (a ∷ []) are.0
      (right ∙ ap (λ (b : List ℕ). meaning files (lead ++ b)) (sym is), tt)),
  subst (λ (p : Option PackageRange). IsRangeOf files p lead) (sym kept) are.1,
)

-- the packages of a scope that is opened, if they are those of the innermost
pub range_there : (files : List FileDefs) (inner : List (List ℕ)) (at : ℕ) (is_there : Bool) (packages there : Option PackageRange)
    → there ≡ cond is_there packages None → (is_there ≡ true → at ≡ 0)
    → IsRangeOf files packages (get_or inner 0 []) → IsRangeOf files there (get_or inner at [])
range_there files inner at true packages there is first range =
    subst (λ (o : Option PackageRange). IsRangeOf files o (get_or inner at [])) (sym is)
    (subst (λ (n : ℕ). IsRangeOf files packages (get_or inner n [])) (sym (first refl)) range)
range_there files inner at false packages there is first range =
    subst (λ (o : Option PackageRange). IsRangeOf files o (get_or inner at [])) (sym is) tt

-- the same of one of several scopes
pub known_scope : (asked : List Asked) (scope : Asked) (level : ℕ) (name : List ℕ) (o : Option (Option Place)) → get_or asked level scope ≡ scope
    → IfSome o (λ p. (files : List FileDefs) (lead : List ℕ) → IsAsked files lead scope → meaning_at p ≡ meaning files (lead ++ name))
    → IfSome o (λ p. (files : List FileDefs) (leads : List (List ℕ)) (at : ℕ) → AreAsked files leads asked → level + (at + 1) ≡ length leads
    → meaning_at p ≡ meaning files (get_or leads at [] ++ name))
known_scope asked scope level name None here known = tt
known_scope asked scope level name (Some p) here known = λ files leads at are there.
    known files (get_or leads at []) (subst (λ (s : Asked). IsAsked files (get_or leads at []) s) here (are.right level at scope there))

-- ---- scopes by their numbers

get_set : {A : Type 0} (xs : List A) (n k : ℕ) (x d : A) → n < length xs
    → ((k ≡ n) × (get_or (slice_set xs n x) k d ≡ x)) ⊎ (get_or (slice_set xs n x) k d ≡ get_or xs k d)
get_set [] n k x d h = absurd (omega arith)
get_set (y ∷ ys) zero zero x d h = inl (refl, refl)
get_set (y ∷ ys) zero (suc k) x d h = inr refl
get_set (y ∷ ys) (suc n) zero x d h = inr refl
get_set (y ∷ ys) (suc n) (suc k) x d h = more (get_set ys n k x d (omega arith))
  where
    more : ((k ≡ n) × (get_or (slice_set ys n x) k d ≡ x)) ⊎ (get_or (slice_set ys n x) k d ≡ get_or ys k d)
        → ((suc k ≡ suc n) × (get_or (slice_set ys n x) k d ≡ x)) ⊎ (get_or (slice_set ys n x) k d ≡ get_or ys k d)
    more (inl same) = inl (ap suc same.0, same.1)
    more (inr other) = inr other

snoc_at : {A : Type 0} (xs : List A) (k : ℕ) (x d : A) → k < length (xs ++ x ∷ [])
    → ((k < length xs) × (get_or (xs ++ x ∷ []) k d ≡ get_or xs k d)) ⊎ ((k ≡ length xs) × (get_or (xs ++ x ∷ []) k d ≡ x))
snoc_at [] zero x d h = inr (refl, refl)
snoc_at [] (suc k) x d h = absurd (omega (arith, h))
snoc_at (y ∷ ys) zero x d h = inl (omega arith, refl)
snoc_at (y ∷ ys) (suc k) x d h = more (snoc_at ys k x d (omega (arith, h)))
  where
    more : ((k < length ys) × (get_or (ys ++ x ∷ []) k d ≡ get_or ys k d)) ⊎ ((k ≡ length ys) × (get_or (ys ++ x ∷ []) k d ≡ x))
        → ((suc k < suc (length ys)) × (get_or (ys ++ x ∷ []) k d ≡ get_or ys k d)) ⊎ ((suc k ≡ suc (length ys)) × (get_or (ys ++ x ∷ []) k d ≡ x))
    more (inl before) = inl (omega (arith, before.0), before.1)
    more (inr last) = inr (ap suc last.0, last.1)

length_set : {A : Type 0} (xs : List A) (n : ℕ) (x : A) → length (slice_set xs n x) ≡ length xs
length_set [] n x = refl
length_set (y ∷ ys) zero x = refl
length_set (y ∷ ys) (suc n) x = ap suc (length_set ys n x)

-- a scope of which more is kept
pub kept_at : (files : List FileDefs) (leads : List (List ℕ)) (asked : List Asked) (level at : ℕ) (scope : Asked)
    → level + (at + 1) ≡ length leads → IsAsked files (get_or leads at []) scope
    → AreAsked files leads asked → AreAsked files leads (slice_set asked level scope)
kept_at files leads asked level at scope there right are = record {
  count = length_set asked level scope ∙ are.count;
  right = λ l a d is. cases l a d is (get_set asked level l scope d (omega (arith, there, are.count)));
}
  where
    cases : (l a : ℕ) (d : Asked) → l + (a + 1) ≡ length leads
        → ((l ≡ level) × (get_or (slice_set asked level scope) l d ≡ scope)) ⊎ (get_or (slice_set asked level scope) l d ≡ get_or asked l d)
        → IsAsked files (get_or leads a []) (get_or (slice_set asked level scope) l d)
    cases l a d is (inl same) =
        let here : a ≡ at = omega (arith, there, is, same.0) in
        subst (λ (s : Asked). IsAsked files (get_or leads a []) s) (sym same.1)
        (subst (λ (n : ℕ). IsAsked files (get_or leads n []) scope) (sym here) right)
    cases l a d is (inr other) = subst (λ (s : Asked). IsAsked files (get_or leads a []) s) (sym other) (are.right l a d is)

-- the scopes that are left once the others are closed
closed_to : (files : List FileDefs) (more leads : List (List ℕ)) (old new : List Asked) (count : ℕ) → new ≡ take count old → count ≡ length leads
    → AreAsked files (more ++ leads) old → AreAsked files leads new
closed_to files more leads old new count left is are =
    let total = length-append more leads in
    record {
      count = ap length left ∙ length-take-le count old (omega (arith, is, total, are.count)) ∙ is;
      right = λ level at d there.
          subst (λ (s : Asked). IsAsked files (get_or leads at []) s)
          (sym (ap (λ (xs : List Asked). get_or xs level d) left ∙ get_or-take count old level d (omega (arith, is, there))))
          (subst (λ (l : List ℕ). IsAsked files l (get_or old level d)) (get_or-append-add more leads at [])
          (are.right level (length more + at) d (omega (arith, total, there))));
    }

-- `AreRight files leads asked` is that the answers of the scopes `asked` are right, which are the
-- outermost of those with `leads` before their names
abbrev pub AreRight : List FileDefs → List (List ℕ) → List Asked → Type 0
AreRight files leads asked = (level at : ℕ) (d : Asked) → level < length asked → level + (at + 1) ≡ length leads
    → IsAsked files (get_or leads at []) (get_or asked level d)

-- before some scopes are opened
pub opened_none : (files : List FileDefs) (more leads : List (List ℕ)) (asked : List Asked) → AreAsked files leads asked → AreRight files (more ++ leads) asked
opened_none files more leads asked are level at d within there =
    let a = at - length more in
    let further : length more + a ≡ at = omega (arith, within, there, are.count, length-append more leads) in
    subst (λ (l : List ℕ). IsAsked files l (get_or asked level d))
    (sym (get_or-append-add more leads a []) ∙ ap (λ (n : ℕ). get_or (more ++ leads) n []) further)
    (are.right level a d (omega (arith, further, there, length-append more leads)))

-- once one of them is
pub opened_more : (files : List FileDefs) (leads : List (List ℕ)) (asked new : List Asked) (s : Asked) → new ≡ asked ++ s ∷ []
    → ((at : ℕ) → length asked + (at + 1) ≡ length leads → IsAsked files (get_or leads at []) s)
    → AreRight files leads asked → AreRight files leads new
opened_more files leads asked new s added one are =
    subst (λ (xs : List Asked). AreRight files leads xs) (sym added)
    (λ level at d within there. by_level level at d there (snoc_at asked level s d within))
  where
    by_level : (level at : ℕ) (d : Asked) → level + (at + 1) ≡ length leads
        → ((level < length asked) × (get_or (asked ++ s ∷ []) level d ≡ get_or asked level d)) ⊎ ((level ≡ length asked) × (get_or (asked ++ s ∷ []) level d ≡ s))
        → IsAsked files (get_or leads at []) (get_or (asked ++ s ∷ []) level d)
    by_level level at d there (inl before) = subst (λ (x : Asked). IsAsked files (get_or leads at []) x) (sym before.1) (are level at d before.0 there)
    by_level level at d there (inr last) = subst (λ (x : Asked). IsAsked files (get_or leads at []) x) (sym last.1) (one at (omega (arith, last.0, there)))

-- once all are
pub opened_all : (files : List FileDefs) (leads : List (List ℕ)) (asked : List Asked) → length asked ≡ length leads → AreRight files leads asked → AreAsked files leads asked
opened_all files leads asked count are = record {
  count = count;
  right = λ level at d there. are level at d (omega (arith, count, there)) there;
}

-- ---- a search from scope to scope

-- what stays where a call that does not change it is the last
pub asked_on : {A E P : Type 0} (r : Result A E) → P → OnOk r P
asked_on (Ok a) p = p
asked_on (Err e) p = tt

-- ---- the walk

pub none_open : (files : List FileDefs) → AreAsked files [] []
none_open files = record { count = refl; right = λ level at d there. absurd (omega (arith, there)) }

-- `Ends all some` is that `all` ends in `some`
abbrev pub Ends : List (List ℕ) → List (List ℕ) → Type 0
Ends all some = (more : List (List ℕ)) × (all ≡ more ++ some)

ends_through : (a b c : List (List ℕ)) → Ends a b → Ends b c → Ends a c
ends_through a b c f g = (f.0 ++ g.0, f.1 ∙ ap (λ (x : List (List ℕ)). f.0 ++ x) g.1 ∙ sym (append_assoc f.0 g.0 c))

-- `first root stack` is the innermost of the open scopes `stack`, or the package `root`
abbrev pub first : List ℕ → List (ℕ × (List ℕ × List (List ℕ))) → List ℕ × List (List ℕ)
first root stack = unwrap_or (innermost stack) (root, [])

-- `AreNested root stack` is that each open scope is in the scopes that the next one is in
unfoldable pub AreNested : List ℕ → List (ℕ × (List ℕ × List (List ℕ))) → Type 0
AreNested root [] = Unit {0}
AreNested root (e ∷ es) = Ends e.1.1 (first root es).1 × AreNested root es

pub nested_none : (root : List ℕ) → AreNested root []
unfolding AreNested
nested_none root = tt

closed_nested : (root : List ℕ) (depth : ℕ) (stack : List (ℕ × (List ℕ × List (List ℕ)))) → AreNested root stack
    → AreNested root (closed depth stack) × Ends (first root stack).1 (first root (closed depth stack)).1
unfolding closed AreNested
closed_nested root depth [] all = (tt, ([], refl))
closed_nested root depth (e ∷ es) all =
    let rest = closed_nested root depth es all.1 in
    either (nat_lt e.0 depth)
    (λ b. AreNested root (cond b (e ∷ es) (closed depth es)) × Ends e.1.1 (first root (cond b (e ∷ es) (closed depth es))).1)
    (λ t. (all, ([], refl)))
    (λ f. (rest.0, ends_through e.1.1 (first root es).1 (first root (closed depth es)).1 all.0 rest.1))

keep_ends : (i : Item) (outer : List ℕ × List (List ℕ)) → Ends (keep i outer).1 outer.1
keep_ends i outer = by_statement i.node.statement
  where
    by_statement : (s : Statement) → Ends (opened_by s outer).1 outer.1
    by_statement (statements.Import kind name) = ([], refl)
    by_statement (statements.Package name) = ([], refl)
    by_statement (statements.«Option» o) = ([], refl)
    by_statement (statements.Message name) = (map leading (map (qualified outer.0) (before (next_in outer.0 name.text))), refl)
    by_statement (statements.Field label kind name field options) = ([], refl)
    by_statement (statements.MapField key value name field options) = ([], refl)
    by_statement (statements.Oneof name) = ([], refl)
    by_statement (statements.ReservedNumbers n) = ([], refl)
    by_statement (statements.ReservedNames n) = ([], refl)
    by_statement (statements.Enum name) = ([], refl)
    by_statement (statements.Value name value options) = ([], refl)
    by_statement (statements.Service name) = (map leading (map (qualified outer.0) (before (next_in outer.0 name.text))), refl)
    by_statement (statements.Method name input output) = ([], refl)
    by_statement (statements.Extend name) = ([], refl)

-- what is kept of the scopes that stay open, as those deeper than a statement are closed
pub asked_closed : (files : List FileDefs) (root : List ℕ) (stack : List (ℕ × (List ℕ × List (List ℕ)))) (depth : ℕ) (scope : List ℕ × List (List ℕ)) (old new : List Asked) (count : ℕ)
    → scope ≡ inner_at (root, []) stack depth → count ≡ length scope.1 → new ≡ take count old
    → AreNested root stack → AreAsked files (first root stack).1 old → AreAsked files scope.1 new
asked_closed files root stack depth scope old new count inner is left nested are =
    let ends = (closed_nested root depth stack nested).1 in
    closed_to files ends.0 scope.1 old new count left is
    (subst (λ (s : List ℕ × List (List ℕ)). AreAsked files (ends.0 ++ s.1) old) (sym inner)
    (subst (λ (ls : List (List ℕ)). AreAsked files ls old) ends.1 are))

-- what is kept once the scope of a statement's contents is opened
pub asked_opened : (files : List FileDefs) (root : List ℕ) (depth : ℕ) (i : Item) (scope : List ℕ × List (List ℕ)) (new rest : List (ℕ × (List ℕ × List (List ℕ)))) (old opened : List Asked) (count : ℕ) (packages : Option PackageRange)
    → new ≡ (depth, keep i scope) ∷ rest → count ≡ length (keep i scope).1 → IsRangeOf files packages (get_or (keep i scope).1 0 [])
    → ((fs : List FileDefs) (more leads : List (List ℕ)) → count ≡ length (more ++ leads) → IsRangeOf fs packages (get_or (more ++ leads) 0 [])
    → AreAsked fs leads old → AreAsked fs (more ++ leads) opened)
    → AreAsked files scope.1 old → AreAsked files (first root new).1 opened
asked_opened files root depth i scope new rest old opened count packages is same range opens are =
    let ends = keep_ends i scope in
    subst (λ (es : List (ℕ × (List ℕ × List (List ℕ)))). AreAsked files (first root es).1 opened) (sym is)
    (subst (λ (ls : List (List ℕ)). AreAsked files ls opened) (sym ends.1)
    (opens files ends.0 scope.1 (same ∙ ap (λ (ls : List (List ℕ)). length ls) ends.1)
    (subst (λ (ls : List (List ℕ)). IsRangeOf files packages (get_or ls 0 [])) ends.1 range) are))

pub nested_more : (root : List ℕ) (depth : ℕ) (stack new : List (ℕ × (List ℕ × List (List ℕ)))) (i : Item) (scope : List ℕ × List (List ℕ))
    → scope ≡ inner_at (root, []) stack depth → new ≡ (depth, keep i scope) ∷ closed depth stack → AreNested root stack → AreNested root new
unfolding AreNested
nested_more root depth stack new i scope inner is all =
    subst (λ (es : List (ℕ × (List ℕ × List (List ℕ)))). AreNested root es) (sym is) (
      subst (λ (s : List ℕ × List (List ℕ)). Ends (keep i scope).1 s.1) inner (keep_ends i scope),
      (closed_nested root depth stack all).0,
    )
