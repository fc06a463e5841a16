-- One step of a search among resolved references.
use Rattle.std.proofs.Common.{◌≡◌, ℕ, ◌+◌, ◌<◌, ◌≤◌, true, false, cond, ◌&&◌, nat_eq, length, get_or, drop, List, [], ◌∷◌, refl, sym, ap, ◌∙◌}
use Rattle.std.specs.Prelude.{None}
use Rattle.std.proofs.lemmas.List.{at_drop_all, at_drop_more}
use Rattle.std.proofs.lemmas.Bool.{cond-true, cond-false}
use Rattle.pq_syntax.specs.declared.tree.Node.{Node}
use Rattle.pq_links.specs.declared.places.TypePart.{TypePart}
use Rattle.pq_schema.specs.declared.queries.resolved.ResolvedReference.{ResolvedReference}
use Rattle.pq_proto.specs.Types.{is_part, no_type, referred, type_to}
use Rattle.pq_links.specs.Place.{place}
use Rattle.pq_links.specs.declared.places.Part.TheVariants as part
use Rattle.pq_proto.specs.Definition.{definition_at, holds, type_item}

-- ---- the definition at an offset

definition_first : (nodes : List Node) (offset : ℕ) (r : ResolvedReference) (rs : List ResolvedReference)
    → definition_at nodes offset (r ∷ rs) ≡ cond (holds (place nodes r.item (part.«Type» r.part)) offset) (type_item r.resolution) (definition_at nodes offset rs)
unfolding definition_at
definition_first nodes offset r rs = refl

definition_step : (nodes : List Node) (offset : ℕ) (rs : List ResolvedReference) (i : ℕ) (r : ResolvedReference) → i < length rs → r ≡ get_or rs i r
    → definition_at nodes offset (drop i rs) ≡ cond (holds (place nodes r.item (part.«Type» r.part)) offset) (type_item r.resolution) (definition_at nodes offset (drop (i + 1) rs))
definition_step nodes offset rs i r within is =
    at_drop_more (definition_at nodes offset) rs i r within
    ∙ ap (λ (x : ResolvedReference). definition_at nodes offset (x ∷ drop (i + 1) rs)) (sym is)
    ∙ definition_first nodes offset r (drop (i + 1) rs)

pub definition_here : (nodes : List Node) (offset : ℕ) (rs : List ResolvedReference) (i : ℕ) (r : ResolvedReference) → i < length rs → r ≡ get_or rs i r
    → holds (place nodes r.item (part.«Type» r.part)) offset ≡ true → type_item r.resolution ≡ definition_at nodes offset (drop i rs)
definition_here nodes offset rs i r within is holds_it =
    sym (definition_step nodes offset rs i r within is
    ∙ cond-true (holds (place nodes r.item (part.«Type» r.part)) offset) (type_item r.resolution) (definition_at nodes offset (drop (i + 1) rs)) holds_it)

pub definition_later : (nodes : List Node) (offset : ℕ) (rs : List ResolvedReference) (i : ℕ) (r : ResolvedReference) → i < length rs → r ≡ get_or rs i r
    → holds (place nodes r.item (part.«Type» r.part)) offset ≡ false → definition_at nodes offset (drop (i + 1) rs) ≡ definition_at nodes offset (drop i rs)
definition_later nodes offset rs i r within is passes =
    sym (definition_step nodes offset rs i r within is
    ∙ cond-false (holds (place nodes r.item (part.«Type» r.part)) offset) (type_item r.resolution) (definition_at nodes offset (drop (i + 1) rs)) passes)

definition_empty : (nodes : List Node) (offset : ℕ) → definition_at nodes offset [] ≡ None
unfolding definition_at
definition_empty nodes offset = refl

pub definition_none : (nodes : List Node) (offset : ℕ) (rs : List ResolvedReference) (i : ℕ) → length rs ≤ i
    → None ≡ definition_at nodes offset (drop i rs)
definition_none nodes offset rs i past =
    sym (at_drop_all (definition_at nodes offset) rs i past ∙ definition_empty nodes offset)

-- ---- the type that a part refers to

referred_first : (r : ResolvedReference) (rs : List ResolvedReference) (n : ℕ) (p : TypePart)
    → referred (r ∷ rs) n p ≡ cond (nat_eq r.item n && is_part r.part p) (type_to r.resolution) (referred rs n p)
unfolding referred
referred_first r rs n p = refl

referred_step : (rs : List ResolvedReference) (n : ℕ) (p : TypePart) (i : ℕ) (r : ResolvedReference) → i < length rs → r ≡ get_or rs i r
    → referred (drop i rs) n p ≡ cond (nat_eq r.item n && is_part r.part p) (type_to r.resolution) (referred (drop (i + 1) rs) n p)
referred_step rs n p i r within is =
    at_drop_more (λ ys. referred ys n p) rs i r within
    ∙ ap (λ (x : ResolvedReference). referred (x ∷ drop (i + 1) rs) n p) (sym is)
    ∙ referred_first r (drop (i + 1) rs) n p

pub referred_here : (rs : List ResolvedReference) (n : ℕ) (p : TypePart) (i : ℕ) (r : ResolvedReference) → i < length rs → r ≡ get_or rs i r
    → (nat_eq r.item n && is_part r.part p) ≡ true → referred (drop i rs) n p ≡ type_to r.resolution
referred_here rs n p i r within is holds_it =
    referred_step rs n p i r within is
    ∙ cond-true (nat_eq r.item n && is_part r.part p) (type_to r.resolution) (referred (drop (i + 1) rs) n p) holds_it

pub referred_later : (rs : List ResolvedReference) (n : ℕ) (p : TypePart) (i : ℕ) (r : ResolvedReference) → i < length rs → r ≡ get_or rs i r
    → (nat_eq r.item n && is_part r.part p) ≡ false → referred (drop (i + 1) rs) n p ≡ referred (drop i rs) n p
referred_later rs n p i r within is passes =
    sym (referred_step rs n p i r within is
    ∙ cond-false (nat_eq r.item n && is_part r.part p) (type_to r.resolution) (referred (drop (i + 1) rs) n p) passes)

referred_empty : (n : ℕ) (p : TypePart) → referred [] n p ≡ no_type
unfolding referred
referred_empty n p = refl

pub referred_none : (rs : List ResolvedReference) (n : ℕ) (p : TypePart) (i : ℕ) → length rs ≤ i → referred (drop i rs) n p ≡ no_type
referred_none rs n p i past = at_drop_all (λ ys. referred ys n p) rs i past ∙ referred_empty n p
