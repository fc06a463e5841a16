-- Leaving spans out of a tree keeps which items have which parts.
use Rattle.std.proofs.Common.{◌≡◌, ℕ, List, map, Option, Some, None, refl, sym, ap, ◌∙◌}
use Rattle.std.specs.Prelude.{slice_get, is_some, option_and_then}
use Rattle.std.specs.Option.{option_map}
use Rattle.std.proofs.lemmas.Option.{slice_get-map}
use Rattle.pq_syntax.specs.declared.parts.Range.{Range}
use Rattle.pq_syntax.specs.declared.parts.Setting.{Setting}
use Rattle.pq_syntax.specs.declared.tree.Node.{Node}
use Rattle.pq_syntax.specs.declared.tree.Statement.{Statement}
use Rattle.pq_syntax.specs.declared.tree.Statement.TheVariants.{Import, Package, Option as OptionStatement, Message, Field, MapField, Oneof, ReservedNumbers, ReservedNames, Enum, Value, Service, Method, Extend}
use Rattle.pq_links.specs.Bare.{bare, bare_statement, bare_setting, bare_range}
use Rattle.pq_links.specs.Place.{name_span, number_span, type_span, settings_of, ranges_of, span_at, place}
use Rattle.pq_links.specs.declared.places.Part.{Part}
use Rattle.pq_links.specs.declared.places.Part.TheVariants as part
use Rattle.pq_links.specs.declared.places.TypePart.{TypePart}
use Rattle.pq_links.specs.declared.places.TypePart.TheVariants as types

some_map : {A B : Type 0} (f : A → B) (o : Option A) → is_some (option_map f o) ≡ is_some o
some_map f None = refl
some_map f (Some x) = refl

-- an item of a list that is mapped is there exactly if the item was
some_mapped : {A B C : Type 0} (f : A → C) (g : B → C) (h : B → A) (xs : List A) (ys : List B) (n : ℕ) → xs ≡ map h ys
    → is_some (option_map f (slice_get xs n)) ≡ is_some (option_map g (slice_get ys n))
some_mapped {A} f g h xs ys n e =
    some_map f (slice_get xs n)
    ∙ ap (λ (zs : List A). is_some (slice_get zs n)) e
    ∙ ap is_some (slice_get-map h ys n)
    ∙ some_map h (slice_get ys n)
    ∙ sym (some_map g (slice_get ys n))

same_name : (s : Statement) → is_some (name_span (bare_statement s)) ≡ is_some (name_span s)
unfolding name_span bare_statement
same_name (Import kind file) = refl
same_name (Package name) = refl
same_name (OptionStatement setting) = refl
same_name (Message name) = refl
same_name (Field label kind name number options) = refl
same_name (MapField key value name number options) = refl
same_name (Oneof name) = refl
same_name (ReservedNumbers ranges) = refl
same_name (ReservedNames names) = refl
same_name (Enum name) = refl
same_name (Value name number options) = refl
same_name (Service name) = refl
same_name (Method name input output) = refl
same_name (Extend type_name) = refl

same_number : (s : Statement) → is_some (number_span (bare_statement s)) ≡ is_some (number_span s)
unfolding number_span bare_statement
same_number (Import kind file) = refl
same_number (Package name) = refl
same_number (OptionStatement setting) = refl
same_number (Message name) = refl
same_number (Field label kind name number options) = refl
same_number (MapField key value name number options) = refl
same_number (Oneof name) = refl
same_number (ReservedNumbers ranges) = refl
same_number (ReservedNames names) = refl
same_number (Enum name) = refl
same_number (Value name number options) = refl
same_number (Service name) = refl
same_number (Method name input output) = refl
same_number (Extend type_name) = refl

same_type : (p : TypePart) (s : Statement) → is_some (type_span p (bare_statement s)) ≡ is_some (type_span p s)
unfolding type_span bare_statement
same_type types.«Type» (Import kind file) = refl
same_type types.«Type» (Package name) = refl
same_type types.«Type» (OptionStatement setting) = refl
same_type types.«Type» (Message name) = refl
same_type types.«Type» (Field label kind name number options) = refl
same_type types.«Type» (MapField key value name number options) = refl
same_type types.«Type» (Oneof name) = refl
same_type types.«Type» (ReservedNumbers ranges) = refl
same_type types.«Type» (ReservedNames names) = refl
same_type types.«Type» (Enum name) = refl
same_type types.«Type» (Value name number options) = refl
same_type types.«Type» (Service name) = refl
same_type types.«Type» (Method name input output) = refl
same_type types.«Type» (Extend type_name) = refl
same_type types.Input (Import kind file) = refl
same_type types.Input (Package name) = refl
same_type types.Input (OptionStatement setting) = refl
same_type types.Input (Message name) = refl
same_type types.Input (Field label kind name number options) = refl
same_type types.Input (MapField key value name number options) = refl
same_type types.Input (Oneof name) = refl
same_type types.Input (ReservedNumbers ranges) = refl
same_type types.Input (ReservedNames names) = refl
same_type types.Input (Enum name) = refl
same_type types.Input (Value name number options) = refl
same_type types.Input (Service name) = refl
same_type types.Input (Method name input output) = refl
same_type types.Input (Extend type_name) = refl
same_type types.Output (Import kind file) = refl
same_type types.Output (Package name) = refl
same_type types.Output (OptionStatement setting) = refl
same_type types.Output (Message name) = refl
same_type types.Output (Field label kind name number options) = refl
same_type types.Output (MapField key value name number options) = refl
same_type types.Output (Oneof name) = refl
same_type types.Output (ReservedNumbers ranges) = refl
same_type types.Output (ReservedNames names) = refl
same_type types.Output (Enum name) = refl
same_type types.Output (Value name number options) = refl
same_type types.Output (Service name) = refl
same_type types.Output (Method name input output) = refl
same_type types.Output (Extend type_name) = refl

settings_bare : (s : Statement) → settings_of (bare_statement s) ≡ map bare_setting (settings_of s)
unfolding settings_of bare_statement
settings_bare (Import kind file) = refl
settings_bare (Package name) = refl
settings_bare (OptionStatement setting) = refl
settings_bare (Message name) = refl
settings_bare (Field label kind name number options) = refl
settings_bare (MapField key value name number options) = refl
settings_bare (Oneof name) = refl
settings_bare (ReservedNumbers ranges) = refl
settings_bare (ReservedNames names) = refl
settings_bare (Enum name) = refl
settings_bare (Value name number options) = refl
settings_bare (Service name) = refl
settings_bare (Method name input output) = refl
settings_bare (Extend type_name) = refl

ranges_bare : (s : Statement) → ranges_of (bare_statement s) ≡ map bare_range (ranges_of s)
unfolding ranges_of bare_statement
ranges_bare (Import kind file) = refl
ranges_bare (Package name) = refl
ranges_bare (OptionStatement setting) = refl
ranges_bare (Message name) = refl
ranges_bare (Field label kind name number options) = refl
ranges_bare (MapField key value name number options) = refl
ranges_bare (Oneof name) = refl
ranges_bare (ReservedNumbers ranges) = refl
ranges_bare (ReservedNames names) = refl
ranges_bare (Enum name) = refl
ranges_bare (Value name number options) = refl
ranges_bare (Service name) = refl
ranges_bare (Method name input output) = refl
ranges_bare (Extend type_name) = refl

same_part : (p : Part) (n : Node) → is_some (span_at p (bare n)) ≡ is_some (span_at p n)
same_part part.Whole n = refl
same_part part.Name n = same_name n.statement
same_part part.Number n = same_number n.statement
same_part (part.«Type» t) n = same_type t n.statement
same_part (part.Constant k) n =
    some_mapped (λ (o : Setting). o.constant.span) (λ (o : Setting). o.constant.span) bare_setting
    (settings_of (bare_statement n.statement)) (settings_of n.statement) k (settings_bare n.statement)
same_part (part.Range k) n =
    some_mapped (λ (r : Range). r.span) (λ (r : Range). r.span) bare_range
    (ranges_of (bare_statement n.statement)) (ranges_of n.statement) k (ranges_bare n.statement)

same_at : (p : Part) (o : Option Node) → is_some (option_and_then (span_at p) (option_map bare o)) ≡ is_some (option_and_then (span_at p) o)
same_at p None = refl
same_at p (Some n) = same_part p n

pub parts_stay : (nodes : List Node) (item : ℕ) (p : Part) → is_some (place (map bare nodes) item p) ≡ is_some (place nodes item p)
parts_stay nodes item p =
    ap (λ (o : Option Node). is_some (option_and_then (span_at p) o)) (slice_get-map bare nodes item)
    ∙ same_at p (slice_get nodes item)
