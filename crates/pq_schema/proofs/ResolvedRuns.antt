-- The references of a file, each with what it resolves to, one after the other.
use Rattle.std.proofs.Common.{◌≡◌, ◌⊎◌, ℕ, suc, ◌+◌, ◌<◌, ◌≤◌, Bool, false, List, [], ◌∷◌, ◌++◌, length, get_or, map, drop, inl, inr, refl, sym, ap, subst, ◌∙◌, add-one, append-nil, append_assoc}
use Rattle.std.proofs.lemmas.List.{at_drop_all, at_drop_more, drop_more, map-append}
use Rattle.std.specs.Prelude.{flat_map, slice_get}
use Rattle.pq_links.specs.declared.places.TypePart.{TypePart}
use Rattle.pq_schema.specs.declared.search.references.Reference.{Reference}
use Rattle.pq_schema.specs.declared.queries.resolved.ResolvedReference.{ResolvedReference}
use Rattle.pq_schema.specs.declared.scope.scope.FileDefs.{FileDefs}
use Rattle.pq_schema.specs.declared.search.uses.Use.{Use}
use Rattle.pq_syntax.specs.declared.tree.Node.{Node}
use Rattle.pq_syntax.specs.Places.{enclosing, kept, places, places_after}
use Rattle.pq_schema.specs.References.{references_at, references_by}
use Rattle.pq_schema.specs.Compile.{resolved_in}
use Rattle.pq_schema.specs.Resolution.{Found, Lookup, lookup_by, resolution_of, scopes, search}
use Rattle.pq_schema.specs.Resolution.Found.{FoundType, FoundOther, FoundNothing}
use Rattle.pq_schema.specs.ScopeContents.{Scope}
use Rattle.pq_schema.specs.aux.Hits.{found_at}
use Rattle.pq_schema.specs.aux.Inside.{AreThere, IsFirstAt, found_use, resolved_as, resolved_uses, used, used_as}
use Rattle.pq_schema.specs.aux.Outward.{found_in, is_nothing}

-- one use more
pub put_more : (old new : List Use) (u : Use) (f : ℕ × (TypePart × Found)) → new ≡ old ++ u ∷ [] → used u ≡ f → map used new ≡ map used old ++ f ∷ []
put_more old new u f is same =
    ap (λ (us : List Use). map used us) is ∙ map-append used old (u ∷ []) ∙ ap (λ (g : ℕ × (TypePart × Found)). map used old ++ g ∷ []) same

-- the parts of a use
abbrev item_of : ℕ × (TypePart × Found) → ℕ
item_of (i, rest) = i

abbrev part_of : ℕ × (TypePart × Found) → TypePart
part_of (i, rest) = rest.0

abbrev found_of : ℕ × (TypePart × Found) → Found
found_of (i, rest) = rest.1

-- what the first of some uses is found as, where there is one
one_use : (uses : List Use) (i : ℕ) (p : TypePart) (f : Found) (more : List (ℕ × (TypePart × Found))) → map used uses ≡ (i, (p, f)) ∷ more → found_use (slice_get uses 0) ≡ f
one_use [] i p f more is = cc
one_use (u ∷ us) i p f more is = ap (λ (xs : List (ℕ × (TypePart × Found))). found_of (get_or xs 0 (i, (p, f)))) is

one_place : (root : List ℕ) (n : Node) → flat_map (references_at root) (places (n ∷ [])) ≡ references_by root 0 n.statement ++ []
unfolding places_after enclosing kept
one_place root n = refl

pub one_alone : (files : List FileDefs) (root name : List ℕ) (uses : List Use) (n : Node) → IsFirstAt n.statement name
    → map used uses ≡ map (used_as files) (flat_map (references_at root) (places (n ∷ []))) → found_use (slice_get uses 0) ≡ search files (scopes root) name
one_alone files root name uses n first are =
    let at = first root 0 in
    one_use uses 0 at.0 (search files (scopes root) name) (map (used_as files) (at.1 ++ []))
    (are ∙ ap (λ (rs : List Reference). map (used_as files) rs) (one_place root n ∙ ap (λ (rs : List Reference). rs ++ []) at.2))

-- ---- uses that are there

pub there_more : (uses : List Use) (i : ℕ) (u : Use) (b : Bool) → i < length uses → get_or uses i u ≡ u → b ≡ is_nothing (found_at u.hit) → b ≡ false
    → (AreThere (drop i uses) → AreThere uses) → AreThere (drop (i + 1) uses) → AreThere uses
there_more uses i u b within at is there so_far rest =
    so_far (subst (λ (us : List Use). AreThere us) (sym (at_drop_more (λ (us : List Use). us) uses i u within))
    (ap (λ (x : Use). is_nothing (found_at x.hit)) at ∙ sym is ∙ there, rest))

pub there_so_far : (uses : List Use) (i : ℕ) → length uses ≤ i → (AreThere (drop i uses) → AreThere uses) → AreThere uses
there_so_far uses i past so_far = so_far (subst (λ (us : List Use). AreThere us) (sym (at_drop_all (λ (us : List Use). us) uses i past)) tt)

same_lookup : (f a b : Found) → is_nothing f ≡ false → lookup_by f a ≡ lookup_by f b
same_lookup (FoundType file d) a b h = refl
same_lookup FoundOther a b h = refl
same_lookup FoundNothing a b h = cc

-- ---- the uses, each with what it resolves to

resolved_one : (s : Scope) (r : Reference) (u : Use) (reached : Found) → used u ≡ used_as s.visible r → lookup_by (found_at u.hit) reached ≡ lookup_by (found_at u.hit) (found_in s.reach r)
    → resolved_as u reached ≡ resolved_in s r
resolved_one s r u reached seen same =
    let item : u.item ≡ r.item = ap item_of seen in
    let part : u.part ≡ r.part = ap part_of seen in
    let hit : found_at u.hit ≡ found_in s.visible r = ap found_of seen in
    ap (λ (l : Lookup). record { item = u.item; part = u.part; resolution = resolution_of l }) (same ∙ ap (λ (f : Found). lookup_by f (found_in s.reach r)) hit)
    ∙ ap (λ (i : ℕ). record { item = i; part = u.part; resolution = resolution_of (lookup_by (found_in s.visible r) (found_in s.reach r)) }) item
    ∙ ap (λ (p : TypePart). record { item = r.item; part = p; resolution = resolution_of (lookup_by (found_in s.visible r) (found_in s.reach r)) }) part

resolved_after : (us vs : List Use) (v : Use) (n : ℕ) → resolved_uses us (v ∷ vs) (suc n) ≡ resolved_uses us vs n
unfolding resolved_uses
resolved_after [] vs v n = refl
resolved_after (u ∷ us) vs v n = ap (λ (xs : List ResolvedReference). resolved_as u (found_use (slice_get vs n)) ∷ xs) (resolved_after us vs v (suc n))

resolved_there : (s : Scope) (refs : List Reference) (visible reached : List Use) (n : ℕ) → map used visible ≡ map (used_as s.visible) refs
    → AreThere visible → resolved_uses visible reached n ≡ map (resolved_in s) refs
unfolding resolved_uses
resolved_there s [] [] reached n seen there = refl
resolved_there s [] (u ∷ us) reached n seen there = cc
resolved_there s (r ∷ rs) [] reached n seen there = cc
resolved_there s (r ∷ rs) (u ∷ us) reached n seen there =
    let further = found_use (slice_get reached n) in
    let here : used u ≡ used_as s.visible r = cc in
    let rest : map used us ≡ map (used_as s.visible) rs = cc in
    ap (λ (x : ResolvedReference). x ∷ resolved_uses us reached (suc n)) (resolved_one s r u further here (same_lookup (found_at u.hit) further (found_in s.reach r) there.0))
    ∙ ap (λ (xs : List ResolvedReference). resolved_in s r ∷ xs) (resolved_there s rs us reached (suc n) rest there.1)

resolved_both : (s : Scope) (refs : List Reference) (visible reached : List Use) → map used visible ≡ map (used_as s.visible) refs
    → map used reached ≡ map (used_as s.reach) refs → resolved_uses visible reached 0 ≡ map (resolved_in s) refs
unfolding resolved_uses
resolved_both s [] [] reached seen all = refl
resolved_both s [] (u ∷ us) reached seen all = cc
resolved_both s (r ∷ rs) [] reached seen all = cc
resolved_both s (r ∷ rs) (u ∷ us) [] seen all = cc
resolved_both s (r ∷ rs) (u ∷ us) (v ∷ vs) seen all =
    let here : used u ≡ used_as s.visible r = cc in
    let there : found_at v.hit ≡ found_in s.reach r = ap (λ (xs : List (ℕ × (TypePart × Found))). found_of (get_or xs 0 (used v))) all in
    let rest : map used us ≡ map (used_as s.visible) rs = cc in
    let others : map used vs ≡ map (used_as s.reach) rs = cc in
    ap (λ (x : ResolvedReference). x ∷ resolved_uses us (v ∷ vs) 1) (resolved_one s r u (found_at v.hit) here (ap (λ (f : Found). lookup_by (found_at u.hit) f) there))
    ∙ ap (λ (xs : List ResolvedReference). resolved_in s r ∷ xs) (resolved_after us vs v 0 ∙ resolved_both s rs us vs rest others)

pub resolved_all : (s : Scope) (refs : List Reference) (visible reached : List Use) → map used visible ≡ map (used_as s.visible) refs
    → (map used reached ≡ map (used_as s.reach) refs) ⊎ AreThere visible → resolved_uses visible reached 0 ≡ map (resolved_in s) refs
resolved_all s refs visible reached seen (inl all) = resolved_both s refs visible reached seen all
resolved_all s refs visible reached seen (inr there) = resolved_there s refs visible reached 0 seen there

-- one use more of the loop
pub resolved_more : (visible reached : List Use) (old new whole : List ResolvedReference) (i : ℕ) (u : Use) (x : ResolvedReference) (f : Found)
    → i < length visible → get_or visible i u ≡ u → f ≡ found_use (slice_get reached i) → x ≡ resolved_as u f → new ≡ old ++ x ∷ []
    → old ++ resolved_uses (drop i visible) reached i ≡ whole → new ++ resolved_uses (drop (i + 1) visible) reached (i + 1) ≡ whole
unfolding resolved_uses
resolved_more visible reached old new whole i u x f within at further is added so_far =
    let later = drop (i + 1) visible in
    let here : drop i visible ≡ u ∷ later = drop_more visible i u within ∙ ap (λ (y : Use). y ∷ later) at in
    ap (λ (xs : List ResolvedReference). xs ++ resolved_uses later reached (i + 1)) added
    ∙ append_assoc old (x ∷ []) (resolved_uses later reached (i + 1))
    ∙ ap (λ (n : ℕ). old ++ x ∷ resolved_uses later reached n) (add-one i)
    ∙ ap (λ (y : ResolvedReference). old ++ y ∷ resolved_uses later reached (suc i)) (is ∙ ap (λ (g : Found). resolved_as u g) further)
    ∙ ap (λ (us : List Use). old ++ resolved_uses us reached i) (sym here)
    ∙ so_far

pub resolved_end : (visible reached : List Use) (old whole : List ResolvedReference) (i : ℕ) → length visible ≤ i
    → old ++ resolved_uses (drop i visible) reached i ≡ whole → old ≡ whole
unfolding resolved_uses
resolved_end visible reached old whole i past so_far =
    sym (append-nil old) ∙ ap (λ (xs : List ResolvedReference). old ++ xs) (sym (at_drop_all (λ (us : List Use). resolved_uses us reached i) visible i past)) ∙ so_far
