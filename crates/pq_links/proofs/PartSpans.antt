-- The span of a part of a statement lies in the span of the statement.
use Rattle.std.proofs.Common.{◌≡◌, ℕ, zero, suc, List, [], ◌∷◌, ◌++◌, Option, Some, None, refl, subst, arith}
use Rattle.std.specs.Prelude.{slice_get, option_and_then}
use Rattle.std.specs.List.{All, AllByRecursion, flat_map}
use Rattle.std.specs.Option.{option_map}
use Rattle.std.proofs.lemmas.List.Concat.{flat_map-cons}
use Rattle.std.proofs.lemmas.List.Elements.{recursion_from_All}
use Rattle.pq_lex.specs.declared.token.Span.{Span}
use Rattle.pq_syntax.specs.declared.parts.Range.{Range}
use Rattle.pq_syntax.specs.declared.parts.Setting.{Setting}
use Rattle.pq_syntax.specs.declared.tree.Node.{Node}
use Rattle.pq_syntax.specs.declared.tree.Statement.{Statement}
use Rattle.pq_syntax.specs.declared.tree.Statement.TheVariants.{Import, Package, Option as OptionStatement, Message, Field, MapField, Oneof, ReservedNumbers, ReservedNames, Enum, Value, Service, Method, Extend}
use Rattle.pq_syntax.specs.Spans.{IsPlaced, Within, part_spans, range_spans, setting_spans}
use Rattle.pq_links.specs.Place.{LiesIn, name_span, number_span, type_span, settings_of, ranges_of, constant_span, range_span, span_at, place}
use Rattle.pq_links.specs.declared.places.Part.{Part}
use Rattle.pq_links.specs.declared.places.Part.TheVariants as part
use Rattle.pq_links.specs.declared.places.TypePart.{TypePart}
use Rattle.pq_links.specs.declared.places.TypePart.TheVariants as types

left_all : {A : Type 0} (P : A → Type 0) (xs ys : List A) → AllByRecursion P (xs ++ ys) → AllByRecursion P xs
left_all P [] ys a = tt
left_all P (x ∷ xs) ys a = (a.0, left_all P xs ys a.1)

right_all : {A : Type 0} (P : A → Type 0) (xs ys : List A) → AllByRecursion P (xs ++ ys) → AllByRecursion P ys
right_all P [] ys a = a
right_all P (x ∷ xs) ys a = right_all P xs ys a.1

none_there : {A : Type 0} (n : ℕ) (x : A) → slice_get [] n ≡ Some x → ⊥
none_there zero x e = cc
none_there (suc n) x e = cc

-- what holds of all that the items of a list make holds of what one of them makes
made_all : {A B : Type 0} (P : B → Type 0) (f : A → List B) (xs : List A) (n : ℕ) (x : A)
    → slice_get xs n ≡ Some x → AllByRecursion P (flat_map f xs) → AllByRecursion P (f x)
made_all P f [] n x e a = absurd (none_there n x e)
made_all {A} {B} P f (y ∷ ys) zero x e a =
    let is : y ≡ x = cc in
    subst (λ (z : A). AllByRecursion P (f z)) is (left_all P (f y) (flat_map f ys) (subst (λ (zs : List B). AllByRecursion P zs) (flat_map-cons f y ys) a))
made_all {A} {B} P f (y ∷ ys) (suc n) x e a =
    made_all P f ys n x e (right_all P (f y) (flat_map f ys) (subst (λ (zs : List B). AllByRecursion P zs) (flat_map-cons f y ys) a))

-- what an option that is mapped to a value held
mapped_from : {A B : Type 0} (f : A → B) (o : Option A) (b : B) → option_map f o ≡ Some b → (a : A) × (o ≡ Some a) × (f a ≡ b)
mapped_from f None b e = cc
mapped_from f (Some a) b e = let is : f a ≡ b = cc in (a, refl, is)

bound_from : {A B : Type 0} (f : A → Option B) (o : Option A) (b : B) → option_and_then f o ≡ Some b → (a : A) × (o ≡ Some a) × (f a ≡ Some b)
bound_from f None b e = cc
bound_from f (Some a) b e = (a, refl, e)

module _ (outer : Span) where
  abbrev Inside : List Span → Type 0
  Inside spans = AllByRecursion (λ s. Within s outer) spans

  abbrev inside : Span → Type 0
  inside s = Within s outer

  name_inside : (s : Statement) (at : Span) → name_span s ≡ Some at → Inside (part_spans s) → Within at outer
  unfolding name_span
  name_inside (Import kind file) at e a = let is : file.span ≡ at = cc in subst inside is a.0
  name_inside (Package name) at e a = let is : name.span ≡ at = cc in subst inside is a.0
  name_inside (OptionStatement setting) at e a = cc
  name_inside (Message name) at e a = let is : name.span ≡ at = cc in subst inside is a.0
  name_inside (Field label kind name number options) at e a = let is : name.span ≡ at = cc in subst inside is a.1.0
  name_inside (MapField key value name number options) at e a = let is : name.span ≡ at = cc in subst inside is a.1.1.0
  name_inside (Oneof name) at e a = let is : name.span ≡ at = cc in subst inside is a.0
  name_inside (ReservedNumbers ranges) at e a = cc
  name_inside (ReservedNames names) at e a = cc
  name_inside (Enum name) at e a = let is : name.span ≡ at = cc in subst inside is a.0
  name_inside (Value name number options) at e a = let is : name.span ≡ at = cc in subst inside is a.0
  name_inside (Service name) at e a = let is : name.span ≡ at = cc in subst inside is a.0
  name_inside (Method name input output) at e a = let is : name.span ≡ at = cc in subst inside is a.0
  name_inside (Extend type_name) at e a = cc

  number_inside : (s : Statement) (at : Span) → number_span s ≡ Some at → Inside (part_spans s) → Within at outer
  unfolding number_span
  number_inside (Import kind file) at e a = cc
  number_inside (Package name) at e a = cc
  number_inside (OptionStatement setting) at e a = cc
  number_inside (Message name) at e a = cc
  number_inside (Field label kind name number options) at e a = let is : number.span ≡ at = cc in subst inside is a.1.1.0
  number_inside (MapField key value name number options) at e a = let is : number.span ≡ at = cc in subst inside is a.1.1.1.0
  number_inside (Oneof name) at e a = cc
  number_inside (ReservedNumbers ranges) at e a = cc
  number_inside (ReservedNames names) at e a = cc
  number_inside (Enum name) at e a = cc
  number_inside (Value name number options) at e a = let is : number.span ≡ at = cc in subst inside is a.1.0
  number_inside (Service name) at e a = cc
  number_inside (Method name input output) at e a = cc
  number_inside (Extend type_name) at e a = cc

  type_inside : (p : TypePart) (s : Statement) (at : Span) → type_span p s ≡ Some at → Inside (part_spans s) → Within at outer
  unfolding type_span
  type_inside types.«Type» (Import kind file) at e a = cc
  type_inside types.«Type» (Package name) at e a = cc
  type_inside types.«Type» (OptionStatement setting) at e a = cc
  type_inside types.«Type» (Message name) at e a = cc
  type_inside types.«Type» (Field label kind name number options) at e a = let is : kind.span ≡ at = cc in subst inside is a.0
  type_inside types.«Type» (MapField key value name number options) at e a = let is : value.span ≡ at = cc in subst inside is a.1.0
  type_inside types.«Type» (Oneof name) at e a = cc
  type_inside types.«Type» (ReservedNumbers ranges) at e a = cc
  type_inside types.«Type» (ReservedNames names) at e a = cc
  type_inside types.«Type» (Enum name) at e a = cc
  type_inside types.«Type» (Value name number options) at e a = cc
  type_inside types.«Type» (Service name) at e a = cc
  type_inside types.«Type» (Method name input output) at e a = cc
  type_inside types.«Type» (Extend type_name) at e a = cc
  type_inside types.Input (Import kind file) at e a = cc
  type_inside types.Input (Package name) at e a = cc
  type_inside types.Input (OptionStatement setting) at e a = cc
  type_inside types.Input (Message name) at e a = cc
  type_inside types.Input (Field label kind name number options) at e a = cc
  type_inside types.Input (MapField key value name number options) at e a = cc
  type_inside types.Input (Oneof name) at e a = cc
  type_inside types.Input (ReservedNumbers ranges) at e a = cc
  type_inside types.Input (ReservedNames names) at e a = cc
  type_inside types.Input (Enum name) at e a = cc
  type_inside types.Input (Value name number options) at e a = cc
  type_inside types.Input (Service name) at e a = cc
  type_inside types.Input (Method name input output) at e a = let is : input.type_name.span ≡ at = cc in subst inside is a.1.0
  type_inside types.Input (Extend type_name) at e a = cc
  type_inside types.Output (Import kind file) at e a = cc
  type_inside types.Output (Package name) at e a = cc
  type_inside types.Output (OptionStatement setting) at e a = cc
  type_inside types.Output (Message name) at e a = cc
  type_inside types.Output (Field label kind name number options) at e a = cc
  type_inside types.Output (MapField key value name number options) at e a = cc
  type_inside types.Output (Oneof name) at e a = cc
  type_inside types.Output (ReservedNumbers ranges) at e a = cc
  type_inside types.Output (ReservedNames names) at e a = cc
  type_inside types.Output (Enum name) at e a = cc
  type_inside types.Output (Value name number options) at e a = cc
  type_inside types.Output (Service name) at e a = cc
  type_inside types.Output (Method name input output) at e a = let is : output.type_name.span ≡ at = cc in subst inside is a.1.1.0
  type_inside types.Output (Extend type_name) at e a = cc

  setting_inside : (s : Statement) (n : ℕ) (o : Setting) → slice_get (settings_of s) n ≡ Some o → Inside (part_spans s) → Inside (setting_spans o)
  unfolding settings_of
  setting_inside (Import kind file) n o e a = absurd (none_there n o e)
  setting_inside (Package name) n o e a = absurd (none_there n o e)
  setting_inside (OptionStatement setting) zero o e a = let is : setting ≡ o = cc in subst (λ (x : Setting). Inside (setting_spans x)) is a
  setting_inside (OptionStatement setting) (suc n) o e a = absurd (none_there n o e)
  setting_inside (Message name) n o e a = absurd (none_there n o e)
  setting_inside (Field label kind name number options) n o e a = made_all inside setting_spans options n o e a.1.1.1
  setting_inside (MapField key value name number options) n o e a = made_all inside setting_spans options n o e a.1.1.1.1
  setting_inside (Oneof name) n o e a = absurd (none_there n o e)
  setting_inside (ReservedNumbers ranges) n o e a = absurd (none_there n o e)
  setting_inside (ReservedNames names) n o e a = absurd (none_there n o e)
  setting_inside (Enum name) n o e a = absurd (none_there n o e)
  setting_inside (Value name number options) n o e a = made_all inside setting_spans options n o e a.1.1
  setting_inside (Service name) n o e a = absurd (none_there n o e)
  setting_inside (Method name input output) n o e a = absurd (none_there n o e)
  setting_inside (Extend type_name) n o e a = absurd (none_there n o e)

  range_inside : (s : Statement) (n : ℕ) (r : Range) → slice_get (ranges_of s) n ≡ Some r → Inside (part_spans s) → Inside (range_spans r)
  unfolding ranges_of
  range_inside (Import kind file) n r e a = absurd (none_there n r e)
  range_inside (Package name) n r e a = absurd (none_there n r e)
  range_inside (OptionStatement setting) n r e a = absurd (none_there n r e)
  range_inside (Message name) n r e a = absurd (none_there n r e)
  range_inside (Field label kind name number options) n r e a = absurd (none_there n r e)
  range_inside (MapField key value name number options) n r e a = absurd (none_there n r e)
  range_inside (Oneof name) n r e a = absurd (none_there n r e)
  range_inside (ReservedNumbers ranges) n r e a = made_all inside range_spans ranges n r e a
  range_inside (ReservedNames names) n r e a = absurd (none_there n r e)
  range_inside (Enum name) n r e a = absurd (none_there n r e)
  range_inside (Value name number options) n r e a = absurd (none_there n r e)
  range_inside (Service name) n r e a = absurd (none_there n r e)
  range_inside (Method name input output) n r e a = absurd (none_there n r e)
  range_inside (Extend type_name) n r e a = absurd (none_there n r e)

  constant_inside : (s : Statement) (n : ℕ) (at : Span) → constant_span n s ≡ Some at → Inside (part_spans s) → Within at outer
  constant_inside s n at e a =
      let o = mapped_from (λ (o : Setting). o.constant.span) (slice_get (settings_of s) n) at e in
      subst inside o.2 (setting_inside s n o.0 o.1 a).1.0

  numbers_inside : (s : Statement) (n : ℕ) (at : Span) → range_span n s ≡ Some at → Inside (part_spans s) → Within at outer
  numbers_inside s n at e a =
      let r = mapped_from (λ (r : Range). r.span) (slice_get (ranges_of s) n) at e in
      subst inside r.2 (range_inside s n r.0 r.1 a).0

part_inside : (node : Node) (p : Part) (at : Span) → Within node.span node.span → AllByRecursion (λ s. Within s node.span) (part_spans node.statement)
    → span_at p node ≡ Some at → Within at node.span
part_inside node part.Whole at whole a e = let is : node.span ≡ at = cc in subst (λ (s : Span). Within s node.span) is whole
part_inside node part.Name at whole a e = name_inside node.span node.statement at e a
part_inside node part.Number at whole a e = number_inside node.span node.statement at e a
part_inside node (part.«Type» t) at whole a e = type_inside node.span t node.statement at e a
part_inside node (part.Constant n) at whole a e = constant_inside node.span node.statement n at e a
part_inside node (part.Range n) at whole a e = numbers_inside node.span node.statement n at e a

itself : {inner outer : Span} → Within inner outer → Within inner inner
itself w = record { from = omega arith; ordered = w.ordered; to = omega arith }

-- the span of a part of a placed statement lies in the span of the statement
pub part_within : (size : ℕ) (node : Node) (p : Part) (at : Span) → IsPlaced size node → span_at p node ≡ Some at → Within at node.span
part_within size node p at placed e =
    part_inside node p at (itself placed.statement) (recursion_from_All (λ s. Within s node.span) (part_spans node.statement) placed.parts) e

item_at : {A : Type 0} (P : A → Type 0) (xs : List A) (n : ℕ) (x : A) → slice_get xs n ≡ Some x → AllByRecursion P xs → P x
item_at P [] n x e a = absurd (none_there n x e)
item_at P (y ∷ ys) zero x e a = let is : y ≡ x = cc in subst P is a.0
item_at P (y ∷ ys) (suc n) x e a = item_at P ys n x e a.1

within_outer : {inner middle outer : Span} → Within inner middle → Within middle outer → Within inner outer
within_outer a b =
    let start = a.from in
    let outer_start = b.from in
    let end = a.to in
    let outer_end = b.to in
    record { from = omega (arith, start, outer_start); ordered = a.ordered; to = omega (arith, end, outer_end) }

-- in a tree of placed statements, what is at a place lies in the text and in its statement
pub place_within : (size : ℕ) (nodes : List Node) (item : ℕ) (p : Part) (at : Span) → All (IsPlaced size) nodes → place nodes item p ≡ Some at
    → LiesIn size nodes item at
place_within size nodes item p at placed e =
    let found = bound_from (span_at p) (slice_get nodes item) at e in
    let node = item_at (IsPlaced size) nodes item found.0 found.1 (recursion_from_All (IsPlaced size) nodes placed) in
    let lies = part_within size found.0 p at node found.2 in
    record { node = found.0; is = found.1; statement = lies; text = within_outer lies node.statement }
