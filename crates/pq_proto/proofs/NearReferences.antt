-- The references of the only statement whose types can hold an offset decide what is defined there.
use Rattle.std.proofs.Common.{◌≡◌, ℕ, ◌<◌, ◌≤◌, Bool, true, false, ◌&&◌, nat_le, List, [], ◌∷◌, ◌++◌, Option, Some, None, refl, sym, ap, subst, ◌∙◌, arith}
use Rattle.std.specs.Prelude.{cond, slice_get, option_and_then}
use Rattle.std.specs.List.{All, AllByRecursion}
use Rattle.std.proofs.lemmas.Bool.{cond-false, leb-true, lt-leb}
use Rattle.std.proofs.lemmas.List.{append-nil}
use Rattle.std.proofs.lemmas.List.Elements.{recursion_from_All}
use Rattle.pq_lex.specs.declared.token.Span.{Span}
use Rattle.pq_syntax.specs.TypeSpans.{AllTypes, IsApart, IsOnlyAt}
use Rattle.pq_syntax.specs.declared.tree.Node.{Node}
use Rattle.pq_syntax.specs.declared.tree.Statement.{Statement}
use Rattle.pq_syntax.specs.declared.tree.Statement.TheVariants.{Import, Package, Option as OptionStatement, Message, Field, MapField, Oneof, ReservedNumbers, ReservedNames, Enum, Value, Service, Method, Extend}
use Rattle.pq_links.specs.Place.{place, span_at, type_span}
use Rattle.pq_links.specs.declared.places.Part.TheVariants as part
use Rattle.pq_links.specs.declared.places.TypePart.{TypePart}
use Rattle.pq_links.specs.declared.places.TypePart.TheVariants as types
use Rattle.pq_schema.specs.OfItem.{IsOfAnother, IsOfItem}
use Rattle.pq_schema.specs.declared.queries.resolved.ResolvedReference.{ResolvedReference}
use Rattle.pq_proto.specs.Definition.{definition_at, holds, type_item}
use Rattle.pq_proto.specs.declared.definition.TypeItem.{TypeItem}

second_false : (a b : Bool) → (a ≡ true → b ≡ false) → (a && b) ≡ false
second_false true b f = f refl
second_false false b f = refl

apart_from : (offset : ℕ) (at : Span) → IsApart offset at → holds (Some at) offset ≡ false
apart_from offset at apart =
    second_false (nat_le at.start offset) (nat_le offset at.end) (λ e. lt-leb offset at.end (apart (leb-true at.start offset e)))

-- a type that is apart from the offset does not hold it
type_apart : (offset : ℕ) (p : TypePart) (s : Statement) → AllTypes (IsApart offset) s → holds (type_span p s) offset ≡ false
unfolding AllTypes type_span
type_apart offset types.«Type» (Import kind file) apart = refl
type_apart offset types.«Type» (Package name) apart = refl
type_apart offset types.«Type» (OptionStatement setting) apart = refl
type_apart offset types.«Type» (Message name) apart = refl
type_apart offset types.«Type» (Field label kind name number options) apart = apart_from offset kind.span apart
type_apart offset types.«Type» (MapField key value name number options) apart = apart_from offset value.span apart
type_apart offset types.«Type» (Oneof name) apart = refl
type_apart offset types.«Type» (ReservedNumbers ranges) apart = refl
type_apart offset types.«Type» (ReservedNames names) apart = refl
type_apart offset types.«Type» (Enum name) apart = refl
type_apart offset types.«Type» (Value name number options) apart = refl
type_apart offset types.«Type» (Service name) apart = refl
type_apart offset types.«Type» (Method name input output) apart = refl
type_apart offset types.«Type» (Extend type_name) apart = refl
type_apart offset types.Input (Import kind file) apart = refl
type_apart offset types.Input (Package name) apart = refl
type_apart offset types.Input (OptionStatement setting) apart = refl
type_apart offset types.Input (Message name) apart = refl
type_apart offset types.Input (Field label kind name number options) apart = refl
type_apart offset types.Input (MapField key value name number options) apart = refl
type_apart offset types.Input (Oneof name) apart = refl
type_apart offset types.Input (ReservedNumbers ranges) apart = refl
type_apart offset types.Input (ReservedNames names) apart = refl
type_apart offset types.Input (Enum name) apart = refl
type_apart offset types.Input (Value name number options) apart = refl
type_apart offset types.Input (Service name) apart = refl
type_apart offset types.Input (Method name input output) apart = apart_from offset input.type_name.span apart.0
type_apart offset types.Input (Extend type_name) apart = refl
type_apart offset types.Output (Import kind file) apart = refl
type_apart offset types.Output (Package name) apart = refl
type_apart offset types.Output (OptionStatement setting) apart = refl
type_apart offset types.Output (Message name) apart = refl
type_apart offset types.Output (Field label kind name number options) apart = refl
type_apart offset types.Output (MapField key value name number options) apart = refl
type_apart offset types.Output (Oneof name) apart = refl
type_apart offset types.Output (ReservedNumbers ranges) apart = refl
type_apart offset types.Output (ReservedNames names) apart = refl
type_apart offset types.Output (Enum name) apart = refl
type_apart offset types.Output (Value name number options) apart = refl
type_apart offset types.Output (Service name) apart = refl
type_apart offset types.Output (Method name input output) apart = apart_from offset output.type_name.span apart.1
type_apart offset types.Output (Extend type_name) apart = refl

module _ (nodes : List Node) (offset : ℕ) where
  abbrev holds_it : ResolvedReference → Bool
  holds_it r = holds (place nodes r.item (part.«Type» r.part)) offset

  at_item : (n item : ℕ) (p : TypePart) → IsOnlyAt nodes offset n → (item ≡ n → ⊥) → (o : Option Node) → slice_get nodes item ≡ o
      → holds (option_and_then (span_at (part.«Type» p)) o) offset ≡ false
  at_item n item p only other None is = refl
  at_item n item p only other (Some node) is = type_apart offset p node.statement (only item node is other)

  -- a reference of another item than the only one does not hold the offset
  other_apart : (n : ℕ) → IsOnlyAt nodes offset n → (r : ResolvedReference) → IsOfAnother n r → holds_it r ≡ false
  other_apart n only r other = at_item n r.item r.part only other (slice_get nodes r.item) refl

  one_skipped : (r : ResolvedReference) (rs : List ResolvedReference) → holds_it r ≡ false → definition_at nodes offset (r ∷ rs) ≡ definition_at nodes offset rs
  unfolding definition_at
  one_skipped r rs e = cond-false (holds_it r) (type_item r.resolution) (definition_at nodes offset rs) e

  one_more : (r : ResolvedReference) (rs others : List ResolvedReference) → definition_at nodes offset rs ≡ definition_at nodes offset others
      → definition_at nodes offset (r ∷ rs) ≡ definition_at nodes offset (r ∷ others)
  unfolding definition_at
  one_more r rs others e = ap (λ (d : Option TypeItem). cond (holds_it r) (type_item r.resolution) d) e

  module _ (n : ℕ) (only : IsOnlyAt nodes offset n) where
    -- references of other items before others change nothing
    before_skipped : (rs others : List ResolvedReference) → AllByRecursion (IsOfAnother n) rs → definition_at nodes offset (rs ++ others) ≡ definition_at nodes offset others
    before_skipped [] others h = refl
    before_skipped (r ∷ rs) others h = one_skipped r (rs ++ others) (other_apart n only r h.0) ∙ before_skipped rs others h.1

    -- nor do they after others
    after_skipped : (rs others : List ResolvedReference) → AllByRecursion (IsOfAnother n) others → definition_at nodes offset (rs ++ others) ≡ definition_at nodes offset rs
    after_skipped [] others h = ap (definition_at nodes offset) (sym (append-nil others)) ∙ before_skipped others [] h
    after_skipped (r ∷ rs) others h = one_more r (rs ++ others) rs (after_skipped rs others h)

    -- the references of the only statement decide
    pub of_only : (references part : List ResolvedReference) → IsOfItem references n part → definition_at nodes offset part ≡ definition_at nodes offset references
    of_only references part of =
        sym (ap (definition_at nodes offset) of.is
        ∙ before_skipped of.before (part ++ of.after) (recursion_from_All (IsOfAnother n) of.before of.others_before)
        ∙ after_skipped part of.after (recursion_from_All (IsOfAnother n) of.after of.others_after))

pub none_defined : (nodes : List Node) (offset : ℕ) → None ≡ definition_at nodes offset []
unfolding definition_at
none_defined nodes offset = refl
