-- The packages inside a scope that is opened are found among those inside the scope around it.
use Rattle.std.proofs.Common.{◌≡◌, ℕ, ◌+◌, ◌-◌, ◌<◌, ◌==◌, true≢false, false, List, [], ◌∷◌, ◌++◌, length, get_or, map, Option, Some, None, refl, sym, ap, subst, ◌∙◌, arith, append_assoc}
use Rattle.std.specs.Prelude.{codes, slice_get}
use Rattle.std.proofs.lemmas.Option.{get_or_from_slice_get, slice_get-get_or, slice_get_within}
use Rattle.pq_schema.specs.declared.search.asked.Asked.{Asked}
use Rattle.pq_schema.specs.declared.scope.package_range.PackageRange.{PackageRange}
use Rattle.pq_schema.specs.declared.scope.scope.FileDefs.{FileDefs}
use Rattle.pq_schema.specs.Definitions.{qualified}
use Rattle.pq_schema.specs.Resolution.{scopes}
use Rattle.pq_schema.specs.aux.Asked.{AreAsked, IsAsked}
use Rattle.pq_schema.specs.aux.InPackage.{dotted}
use Rattle.pq_schema.specs.aux.Inside.{AreInner, opened}
use Rattle.pq_schema.specs.aux.NameParts.{leading}
use Rattle.pq_schema.specs.aux.PackageRange.{IsRange, IsRangeOf}

-- ---- the innermost of the open scopes

head_scope : (within : List ℕ) → get_or (scopes within) 0 [] ≡ within
head_scope [] = refl
head_scope (c ∷ cs) = refl

-- without a scope inside the package it is the package
outermost_is : (root within : List ℕ) (leads : List (List ℕ)) → leads ≡ [] → AreInner leads root within → within ≡ root
outermost_is root within leads none inner = by_scopes inner.scopes (sym inner.are ∙ none) inner.all
  where
    by_scopes : (ss : List (List ℕ)) → map leading ss ≡ [] → scopes within ≡ ss ++ scopes root → within ≡ root
    by_scopes [] empty all = sym (head_scope within) ∙ ap (λ (xs : List (List ℕ)). get_or xs 0 []) all ∙ head_scope root
    by_scopes (s ∷ ss) empty all = cc

-- else the first of the leads is its own
innermost_is : (root within : List ℕ) (leads : List (List ℕ)) → 0 < length leads → AreInner leads root within → get_or leads 0 [] ≡ leading within
innermost_is root within leads some inner =
    ap (λ (xs : List (List ℕ)). get_or xs 0 []) inner.are ∙ by_scopes inner.scopes (subst (λ (xs : List (List ℕ)). 0 < length xs) inner.are some) inner.all
  where
    by_scopes : (ss : List (List ℕ)) → 0 < length (map leading ss) → scopes within ≡ ss ++ scopes root → get_or (map leading ss) 0 [] ≡ leading within
    by_scopes [] h all = absurd (omega (arith, h))
    by_scopes (s ∷ ss) h all = ap leading (sym (ap (λ (xs : List (List ℕ)). get_or xs 0 []) all) ∙ head_scope within)

none_asked : (leads : List (List ℕ)) (asked : List Asked) → length asked ≡ length leads → asked ≡ [] → leads ≡ []
none_asked [] asked same none = refl
none_asked (l ∷ ls) asked same none = absurd (omega (arith, same, ap length none))

no_last : (asked : List Asked) → None ≡ slice_get asked (length asked - 1) → asked ≡ []
no_last [] none = refl
no_last (x ∷ xs) none = let there = slice_get-get_or (x ∷ xs) (length (x ∷ xs) - 1) x (omega arith) in cc

pub around_package : (files : List FileDefs) (root : List ℕ) (scope : List ℕ × List (List ℕ)) (asked : List Asked) (outermost : PackageRange)
    → None ≡ slice_get asked (length asked - 1)
    → IsRange files (leading root) outermost → AreInner scope.1 root scope.0 → AreAsked files scope.1 asked → IsRange files (leading scope.0) outermost
around_package files root scope asked outermost none range inner are =
    subst (λ (w : List ℕ). IsRange files (leading w) outermost) (sym (outermost_is root scope.0 scope.1 (none_asked scope.1 asked are.count (no_last asked none)) inner)) range

pub around_scope : (files : List FileDefs) (root : List ℕ) (scope : List ℕ × List (List ℕ)) (asked : List Asked) (s : Asked) (outer : PackageRange)
    → Some s ≡ slice_get asked (length asked - 1) → s.packages ≡ Some outer
    → AreInner scope.1 root scope.0 → AreAsked files scope.1 asked → IsRange files (leading scope.0) outer
around_scope files root scope asked s outer last has inner are =
    let within = slice_get_within asked (length asked - 1) s (sym last) in
    let there : (length asked - 1) + (0 + 1) ≡ length scope.1 = omega (arith, within, are.count) in
    let known : IsAsked files (get_or scope.1 0 []) s =
    subst (λ (x : Asked). IsAsked files (get_or scope.1 0 []) x) (get_or_from_slice_get asked (length asked - 1) s s (sym last)) (are.right (length asked - 1) 0 s there) in
    subst (λ (l : List ℕ). IsRange files l outer) (innermost_is root scope.0 scope.1 (omega (arith, there)) inner)
    (subst (λ (o : Option PackageRange). IsRangeOf files o (get_or scope.1 0 [])) has known.1)

-- ---- a scope in it

pub some_name : (name : List ℕ) → (length name == 0) ≡ false → 0 < length name
some_name [] h = absurd (true≢false h)
some_name (c ∷ cs) h = omega arith

opened_lead : (scope name : List ℕ) → 0 < length name → leading scope ++ dotted name ≡ leading (qualified scope name)
opened_lead [] [] some = absurd (omega (arith, some))
opened_lead [] (c ∷ cs) some = refl
opened_lead (s ∷ ss) name some =
    sym (append_assoc ((s ∷ ss) ++ codes ".") name (codes "."))

opened_first : (scope : List ℕ × List (List ℕ)) (name : List ℕ) → 0 < length name → leading (qualified scope.0 name) ≡ get_or (opened name scope).1 0 []
opened_first scope [] some = absurd (omega (arith, some))
opened_first scope (c ∷ cs) some = by_scope scope.0 scope.1
  where
    by_scope : (s : List ℕ) (ls : List (List ℕ)) → leading (qualified s (c ∷ cs)) ≡ get_or (opened (c ∷ cs) (s, ls)).1 0 []
    by_scope [] ls = refl
    by_scope (r ∷ rs) ls = refl

pub opened_range : (files : List FileDefs) (scope : List ℕ × List (List ℕ)) (name : List ℕ) (outer inner : PackageRange) → 0 < length name
    → ((fs : List FileDefs) (lead : List ℕ) → IsRange fs lead outer → IsRange fs (lead ++ dotted name) inner)
    → IsRange files (leading scope.0) outer → IsRangeOf files (Some inner) (get_or (opened name scope).1 0 [])
opened_range files scope name outer inner some inside range =
    subst (λ (l : List ℕ). IsRange files l inner) (opened_lead scope.0 name some ∙ opened_first scope name some) (inside files (leading scope.0) range)
