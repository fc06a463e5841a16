-- What the checks look at in a tree is at parts of its statements.
use Rattle.std.proofs.Common.{◌≡◌, ℕ, zero, suc, ◌+◌, Bool, true, false, cond, List, [], ◌∷◌, map, Option, Some, true≢false, refl, sym, ap, subst, ◌∙◌, inl, inr, arith}
use Rattle.std.specs.Prelude.{◌⊎◌, Contains, option_and_then, slice_get}
use Rattle.std.specs.List.{enumerate_from}
use Rattle.std.specs.Option.{option_map}
use Rattle.std.proofs.lemmas.List.Folds.{flat_map-map}
use Rattle.pq_lex.specs.declared.token.Span.{Span}
use Rattle.pq_syntax.specs.Places.{Item, Place, enclosing, places, places_after}
use Rattle.pq_syntax.specs.declared.parts.Range.{Range}
use Rattle.pq_syntax.specs.declared.parts.Setting.{Setting}
use Rattle.pq_syntax.specs.declared.tree.Node.{Node}
use Rattle.pq_syntax.specs.declared.tree.Statement.{Statement}
use Rattle.pq_syntax.specs.declared.tree.Statement.TheVariants.{Import, Package, Option as OptionStatement, Message, Field, MapField, Oneof, ReservedNumbers, Enum, Value, Service, Method}
use Rattle.pq_links.specs.Place.{name_span, number_span, type_span, settings_of, ranges_of, span_at, place}
use Rattle.pq_links.specs.declared.places.Part.{Part}
use Rattle.pq_links.specs.declared.places.Part.TheVariants as part
use Rattle.pq_links.specs.declared.places.TypePart.{TypePart}
use Rattle.pq_links.specs.declared.places.TypePart.TheVariants as types
use Rattle.pq_schema.specs.Definitions.{definitions_of, defined_at, defined_by, package_of, scope_in, named, entry_of}
use Rattle.pq_schema.specs.References.{references_of, references_at, references_by, is_one_of, scalars}
use Rattle.pq_schema.specs.declared.define.definitions.Definition.{Definition}
use Rattle.pq_schema.specs.declared.define.definitions.DefinitionKind.TheVariants as kinds
use Rattle.pq_schema.specs.declared.search.references.Reference.{Reference}
use Rattle.pq_checks.specs.Members.{Sited, sited_at, sited, is_of, of_kind_at, of_kind, Member, member_at, field_at, value_at, range_at, reserved_range, ImportName, import_at, Assigned, assigned, constant_at, each_at}
use Rattle.pq_checks.specs.Owners.{Site, site_of}
use Rattle.pq_checks.specs.declared.tree.members.Kind.{Kind}
use Rattle.pq_checks.specs.declared.tree.members.Kind.TheVariants as kind
use Rattle.pq_checks.specs.declared.tree.members.Reserved.{Reserved}
use Rattle.pq_checks.proofs.EachLine.{head_or_tail, none_said, only_one, said_of}

-- `HasPart p n` is that the statement `n` has the part `p`
abbrev pub HasPart : Part → Node → Type 0
HasPart p n = (s : Span) × (span_at p n ≡ Some s)

-- `HasPlace nodes item p` is that a file with the statements `nodes` has the part `p` of the item
-- `item`
unfoldable pub HasPlace : List Node → ℕ → Part → Type 0
HasPlace nodes item p = (s : Span) × (place nodes item p ≡ Some s)

-- ---- the statements of a file by their numbers

abbrev first_place : List Item → ℕ → Node → Place
first_place earlier n s = record { item = record { number = n; node = s }; within = enclosing earlier s.depth }

abbrev with_first : List Item → ℕ → Node → List Item
with_first earlier n s = record { number = n; node = s } ∷ earlier

-- `IsAt n nodes p` is that the item of the place `p` is one of the statements `nodes`, of which the
-- first has the number `n`
abbrev IsAt : ℕ → List Node → Place → Type 0
IsAt n nodes p = (k : ℕ) × (p.item.number ≡ n + k) × (slice_get nodes k ≡ Some p.item.node)

numbered : (earlier : List Item) (n : ℕ) (nodes : List Node) (p : Place) → Contains (places_after earlier n nodes) p → IsAt n nodes p
unfolding places_after
numbered earlier n [] p h = absurd (none_said p h)
numbered earlier n (s ∷ ss) p h =
    by (numbered (with_first earlier n s) (suc n) ss p) (head_or_tail (first_place earlier n s) p (places_after (with_first earlier n s) (suc n) ss) h)
  where
    by : (Contains (places_after (with_first earlier n s) (suc n) ss) p → IsAt (suc n) ss p)
        → ((first_place earlier n s ≡ p) ⊎ Contains (places_after (with_first earlier n s) (suc n) ss) p) → IsAt n (s ∷ ss) p
    by rest (inl is) =
        let number : p.item.number ≡ n = ap (λ (q : Place). q.item.number) (sym is) in
        (zero, omega (arith, number), ap (λ (q : Place). Some q.item.node) is)
    by rest (inr there) =
        let r = rest there in
        let number : p.item.number ≡ suc n + r.0 = r.1 in
        (suc r.0, omega (arith, number), r.2)

at_number : (nodes : List Node) (p : Place) → Contains (places nodes) p → slice_get nodes p.item.number ≡ Some p.item.node
at_number nodes p h =
    let r = numbered [] 0 nodes p h in
    let number : p.item.number ≡ 0 + r.0 = r.1 in
    let same : r.0 ≡ p.item.number = omega (arith, number) in
    subst (λ (k : ℕ). slice_get nodes k ≡ Some p.item.node) same r.2

-- a place of a file has the parts of its statement
has_place : (nodes : List Node) (q : Place) (item : ℕ) (p : Part) → Contains (places nodes) q → item ≡ q.item.number → HasPart p q.item.node → HasPlace nodes item p
unfolding HasPlace
has_place nodes q item p among same has =
    (has.0, ap (λ (i : ℕ). place nodes i p) same ∙ ap (λ (o : Option Node). option_and_then (span_at p) o) (at_number nodes q among) ∙ has.1)

-- ---- what is listed of each statement

-- `Keeps f item p` is that all that `f` lists of a statement is at a part of that: `y` is at the
-- part `p y` of the item `item y`
abbrev Keeps : {A : Type 0} → (Site → Statement → List A) → (A → ℕ) → (A → Part) → Type 0
Keeps {A = A} f item p = (s : Site) (n : Node) (y : A) → Contains (f s n.statement) y → (item y ≡ s.item) × HasPart (p y) n

listed : {A : Type 0} (f : Site → Statement → List A) (item : A → ℕ) (p : A → Part) → Keeps f item p
    → (nodes : List Node) (y : A) → Contains (each_at f (sited nodes)) y → HasPlace nodes (item y) (p y)
listed {A = A} f item p keeps nodes y h =
    let r = said_of (λ (q : Place). f (site_of q) q.item.node.statement) (places nodes) y (subst (λ (ys : List A). Contains ys y) (flat_map-map (λ (s : Sited). f s.0 s.1.statement) sited_at (places nodes)) h) in
    let k = keeps (site_of r.0) r.0.item.node y r.2 in
    has_place nodes r.0 (item y) (p y) r.1 k.0 k.1

-- `Named t`, `Counted t` and `Typed p t` are that the statement `t` has a name, a number, and the
-- type `p`
abbrev Named : Statement → Type 0
Named t = (s : Span) × (name_span t ≡ Some s)

abbrev Counted : Statement → Type 0
Counted t = (s : Span) × (number_span t ≡ Some s)

abbrev Typed : TypePart → Statement → Type 0
Typed p t = (s : Span) × (type_span p t ≡ Some s)

item_of : (s : Site) (m x : Member) → m ≡ x → x.item ≡ s.item → m.item ≡ s.item
item_of s m x is e = ap (λ (y : Member). y.item) is ∙ e

field_parts : (s : Site) (t : Statement) (m : Member) → Contains (field_at s t) m → (m.item ≡ s.item) × Named t × Counted t
unfolding name_span number_span
field_parts s (Field label kind name number options) m h =
    (item_of s m (member_at s name number) (only_one (member_at s name number) m h) refl, (name.span, refl), (number.span, refl))
field_parts s (MapField key value name number options) m h =
    (item_of s m (member_at s name number) (only_one (member_at s name number) m h) refl, (name.span, refl), (number.span, refl))
field_parts s _ m h = absurd (none_said m h)

value_parts : (s : Site) (t : Statement) (m : Member) → Contains (value_at s t) m → (m.item ≡ s.item) × Named t × Counted t
unfolding name_span number_span
value_parts s (Value name number options) m h =
    (item_of s m (member_at s name number) (only_one (member_at s name number) m h) refl, (name.span, refl), (number.span, refl))
value_parts s _ m h = absurd (none_said m h)

of_kind_parts : (k : Kind) (s : Site) (t : Statement) (i : ℕ) → Contains (of_kind_at k s t) i → (i ≡ s.item) × (is_of t k ≡ true)
of_kind_parts k s t i = by (is_of t k)
  where
    by : (b : Bool) → Contains (cond b (s.item ∷ []) []) i → (i ≡ s.item) × (b ≡ true)
    by true h = (only_one s.item i h, refl)
    by false h = absurd (none_said i h)

-- `has_name k` is whether the statements of the kind `k` have names
abbrev pub has_name : Kind → Bool
has_name kind.Extend = false
has_name _ = true

of_kind_named : (k : Kind) (t : Statement) → has_name k ≡ true → is_of t k ≡ true → Named t
unfolding name_span
of_kind_named kind.Extend t has e = absurd (true≢false (sym has))
of_kind_named k (Package name) has e = (name.span, refl)
of_kind_named k (Message name) has e = (name.span, refl)
of_kind_named k (Oneof name) has e = (name.span, refl)
of_kind_named k (Enum name) has e = (name.span, refl)
of_kind_named k (Service name) has e = (name.span, refl)
of_kind_named k (Method name input output) has e = (name.span, refl)
of_kind_named _ _ has e = absurd (true≢false (sym e))

import_parts : (s : Site) (t : Statement) (i : ImportName) → Contains (import_at s t) i → (i.item ≡ s.item) × Named t
unfolding name_span
import_parts s (Import kind file) i h =
    (ap (λ (x : ImportName). x.item) (only_one (record { item = s.item; value = file.value }) i h), (file.span, refl))
import_parts s _ i h = absurd (none_said i h)

-- an element of a list that is mapped with its numbers
abbrev IsNumbered : {A B : Type 0} → (ℕ × A → B) → ℕ → List A → B → Type 0
IsNumbered {A = A} f n xs y = (e : ℕ × A) × (k : ℕ) × (y ≡ f e) × (e.0 ≡ n + k) × (slice_get xs k ≡ Some e.1)

counted : {A B : Type 0} (f : ℕ × A → B) (n : ℕ) (xs : List A) (y : B) → Contains (map f (enumerate_from n xs)) y → IsNumbered f n xs y
counted f n [] y h = absurd (none_said y h)
counted f n (x ∷ xs) y h = by (counted f (n + 1) xs y) (head_or_tail (f (n, x)) y (map f (enumerate_from (n + 1) xs)) h)
  where
    by : (Contains (map f (enumerate_from (n + 1) xs)) y → IsNumbered f (n + 1) xs y)
        → ((f (n, x) ≡ y) ⊎ Contains (map f (enumerate_from (n + 1) xs)) y) → IsNumbered f n (x ∷ xs) y
    by rest (inl is) = ((n, x), zero, sym is, omega arith, refl)
    by rest (inr there) =
        let r = rest there in
        let number : r.0.0 ≡ (n + 1) + r.1 = r.3 in
        (r.0, suc r.1, r.2, omega (arith, number), r.4)

-- the same of a list that is numbered from 0
by_number : {A B : Type 0} (f : ℕ × A → B) (xs : List A) (y : B) → Contains (map f (enumerate_from 0 xs)) y
    → (e : ℕ × A) × (y ≡ f e) × (slice_get xs e.0 ≡ Some e.1)
by_number f xs y h =
    let r = counted f 0 xs y h in
    let number : r.0.0 ≡ 0 + r.1 = r.3 in
    let same : r.1 ≡ r.0.0 = omega (arith, number) in
    (r.0, r.2, subst (λ (k : ℕ). slice_get xs k ≡ Some r.0.1) same r.4)

-- `Ranged n t` and `Assigning n t` are that the statement `t` has a reserved range `n`, and an option
-- `n`
abbrev Ranged : ℕ → Statement → Type 0
Ranged n t = (s : Span) × (option_map (λ (r : Range). r.span) (slice_get (ranges_of t) n) ≡ Some s)

abbrev Assigning : ℕ → Statement → Type 0
Assigning n t = (s : Span) × (option_map (λ (o : Setting). o.constant.span) (slice_get (settings_of t) n) ≡ Some s)

range_parts : (s : Site) (t : Statement) (r : Reserved) → Contains (range_at s t) r → (r.item ≡ s.item) × Ranged r.nth t
unfolding ranges_of
range_parts s (ReservedNumbers ranges) r h =
    let e = by_number (reserved_range s) ranges r h in
    let nth : r.nth ≡ e.0.0 = ap (λ (x : Reserved). x.nth) e.1 in (
      ap (λ (x : Reserved). x.item) e.1,
      (e.0.1.span, ap (λ (n : ℕ). option_map (λ (x : Range). x.span) (slice_get ranges n)) nth ∙ ap (option_map (λ (x : Range). x.span)) e.2),
    )
range_parts s _ r h = absurd (none_said r h)

-- the constants of the options `options`, those of the statement `t`
of_options : (s : Site) (t : Statement) (options : List Setting) (a : Assigned) → settings_of t ≡ options
    → Contains (map (assigned s.item) (enumerate_from 0 options)) a → (a.item ≡ s.item) × Assigning a.nth t
of_options s t options a same h =
    let e = by_number (assigned s.item) options a h in
    let nth : a.nth ≡ e.0.0 = ap (λ (x : Assigned). x.nth) e.1 in
    let of = option_map (λ (x : Setting). x.constant.span) in (
      ap (λ (x : Assigned). x.item) e.1,
      (
        e.0.1.constant.span,
        ap (λ (os : List Setting). option_map (λ (x : Setting). x.constant.span) (slice_get os a.nth)) same
            ∙ ap (λ (n : ℕ). option_map (λ (x : Setting). x.constant.span) (slice_get options n)) nth
            ∙ ap (λ (o : Option Setting). option_map (λ (x : Setting). x.constant.span) o) e.2,
      ),
    )

constant_parts : (s : Site) (t : Statement) (a : Assigned) → Contains (constant_at s t) a → (a.item ≡ s.item) × Assigning a.nth t
unfolding settings_of
constant_parts s (OptionStatement setting) a h =
    let is = only_one (assigned s.item (0, setting)) a h in
    let nth : a.nth ≡ 0 = ap (λ (x : Assigned). x.nth) is in (
      ap (λ (x : Assigned). x.item) is,
      (setting.constant.span, ap (λ (n : ℕ). option_map (λ (x : Setting). x.constant.span) (slice_get (setting ∷ []) n)) nth),
    )
constant_parts s (Field label kind name number options) a h = of_options s (Field label kind name number options) options a refl h
constant_parts s (MapField key value name number options) a h = of_options s (MapField key value name number options) options a refl h
constant_parts s (Value name number options) a h = of_options s (Value name number options) options a refl h
constant_parts s _ a h = absurd (none_said a h)

-- ---- the lists of a file

module _ (nodes : List Node) where
  pub field_number : (m : Member) → Contains (each_at field_at (sited nodes)) m → HasPlace nodes m.item part.Number
  field_number m h =
      listed field_at (λ (x : Member). x.item) (λ (x : Member). part.Number)
      (λ s n x a. let k = field_parts s n.statement x a in (k.0, k.2)) nodes m h

  pub field_name : (m : Member) → Contains (each_at field_at (sited nodes)) m → HasPlace nodes m.item part.Name
  field_name m h =
      listed field_at (λ (x : Member). x.item) (λ (x : Member). part.Name)
      (λ s n x a. let k = field_parts s n.statement x a in (k.0, k.1)) nodes m h

  pub value_number : (m : Member) → Contains (each_at value_at (sited nodes)) m → HasPlace nodes m.item part.Number
  value_number m h =
      listed value_at (λ (x : Member). x.item) (λ (x : Member). part.Number)
      (λ s n x a. let k = value_parts s n.statement x a in (k.0, k.2)) nodes m h

  pub value_name : (m : Member) → Contains (each_at value_at (sited nodes)) m → HasPlace nodes m.item part.Name
  value_name m h =
      listed value_at (λ (x : Member). x.item) (λ (x : Member). part.Name)
      (λ s n x a. let k = value_parts s n.statement x a in (k.0, k.1)) nodes m h

  pub of_kind_name : (k : Kind) (i : ℕ) → has_name k ≡ true → Contains (of_kind k (sited nodes)) i → HasPlace nodes i part.Name
  of_kind_name k i has h =
      listed (of_kind_at k) (λ (x : ℕ). x) (λ (x : ℕ). part.Name)
      (λ s n x a. let q = of_kind_parts k s n.statement x a in (q.0, of_kind_named k n.statement has q.1)) nodes i h

  pub of_kind_whole : (k : Kind) (i : ℕ) → Contains (of_kind k (sited nodes)) i → HasPlace nodes i part.Whole
  of_kind_whole k i h =
      listed (of_kind_at k) (λ (x : ℕ). x) (λ (x : ℕ). part.Whole) (λ s n x a. let q = of_kind_parts k s n.statement x a in (q.0, (n.span, refl))) nodes i h

  pub import_name : (i : ImportName) → Contains (each_at import_at (sited nodes)) i → HasPlace nodes i.item part.Name
  import_name i h =
      listed import_at (λ (x : ImportName). x.item) (λ (x : ImportName). part.Name) (λ s n x a. import_parts s n.statement x a) nodes i h

  pub range_itself : (r : Reserved) → Contains (each_at range_at (sited nodes)) r → HasPlace nodes r.item (part.Range r.nth)
  range_itself r h =
      listed range_at (λ (x : Reserved). x.item) (λ (x : Reserved). part.Range x.nth) (λ s n x a. range_parts s n.statement x a) nodes r h

  pub constant_itself : (c : Assigned) → Contains (each_at constant_at (sited nodes)) c → HasPlace nodes c.item (part.Constant c.nth)
  constant_itself c h =
      listed constant_at (λ (x : Assigned). x.item) (λ (x : Assigned). part.Constant x.nth) (λ s n x a. constant_parts s n.statement x a) nodes c h

-- ---- definitions and type references

item_is : (d x : Definition) (number : ℕ) → d ≡ x → x.item ≡ number → d.item ≡ number
item_is d x number is e = ap (λ (y : Definition). y.item) is ∙ e

defined_parts : (scope : List ℕ) (number : ℕ) (t : Statement) (d : Definition) → Contains (defined_by scope number t) d → (d.item ≡ number) × Named t
unfolding name_span
defined_parts scope number (Message name) d h = (item_is d _ number (only_one (named kinds.Message scope name number) d h) refl, (name.span, refl))
defined_parts scope number (Enum name) d h = (item_is d _ number (only_one (named kinds.Enum scope name number) d h) refl, (name.span, refl))
defined_parts scope number (Service name) d h = (item_is d _ number (only_one (named kinds.Service scope name number) d h) refl, (name.span, refl))
defined_parts scope number (Field label kind name field options) d h = (item_is d _ number (only_one (named kinds.Field scope name number) d h) refl, (name.span, refl))
defined_parts scope number (MapField key value name field options) d h =
    (by (head_or_tail (named kinds.Field scope name number) d (entry_of scope name number ∷ []) h), (name.span, refl))
  where
    by : ((named kinds.Field scope name number ≡ d) ⊎ Contains (entry_of scope name number ∷ []) d) → d.item ≡ number
    by (inl is) = ap (λ (x : Definition). x.item) (sym is)
    by (inr there) = item_is d _ number (only_one (entry_of scope name number) d there) refl
defined_parts scope number (Oneof name) d h = (item_is d _ number (only_one (named kinds.Oneof scope name number) d h) refl, (name.span, refl))
defined_parts scope number (Value name field options) d h = (item_is d _ number (only_one (named kinds.Value scope name number) d h) refl, (name.span, refl))
defined_parts scope number (Method name input output) d h = (item_is d _ number (only_one (named kinds.Method scope name number) d h) refl, (name.span, refl))
defined_parts scope number _ d h = absurd (none_said d h)

pub defined_name : (nodes : List Node) (d : Definition) → Contains (definitions_of nodes) d → HasPlace nodes d.item part.Name
defined_name nodes d h =
    let r = said_of (defined_at (package_of nodes)) (places nodes) d h in
    let k = defined_parts (scope_in (package_of nodes) r.0.within) r.0.item.number r.0.item.node.statement d r.2 in
    has_place nodes r.0 d.item part.Name r.1 k.0 k.1

-- `IsTypeOf number t r` is that the reference `r` is a type of the statement `t` of the number `number`
abbrev IsTypeOf : ℕ → Statement → Reference → Type 0
IsTypeOf number t r = (r.item ≡ number) × Typed r.part t

is_type : (number : ℕ) (t : Statement) (r x : Reference) → r ≡ x → IsTypeOf number t x → IsTypeOf number t r
is_type number t r x is type = subst (λ (y : Reference). IsTypeOf number t y) (sym is) type

type_is : (b : Bool) (number : ℕ) (t : Statement) (r x : Reference) → IsTypeOf number t x → Contains (cond b [] (x ∷ [])) r → IsTypeOf number t r
type_is true number t r x type h = absurd (none_said r h)
type_is false number t r x type h = is_type number t r x (only_one x r h) type

abbrev reference : ℕ → TypePart → List ℕ → List ℕ → Reference
reference number p within name = record { item = number; part = p; within = within; name = name }

reference_parts : (within : List ℕ) (number : ℕ) (t : Statement) (r : Reference) → Contains (references_by within number t) r → IsTypeOf number t r
unfolding type_span
reference_parts within number (Field label kind name field options) r h =
    type_is (is_one_of scalars kind.text) number (Field label kind name field options) r (reference number types.«Type» within kind.text) (refl, (kind.span, refl)) h
reference_parts within number (MapField key value name field options) r h =
    type_is (is_one_of scalars value.text) number (MapField key value name field options) r (reference number types.«Type» within value.text) (refl, (value.span, refl)) h
reference_parts within number (Method name input output) r h =
    by (head_or_tail (reference number types.Input within input.type_name.text) r (reference number types.Output within output.type_name.text ∷ []) h)
  where
    by : ((reference number types.Input within input.type_name.text ≡ r) ⊎ Contains (reference number types.Output within output.type_name.text ∷ []) r)
        → IsTypeOf number (Method name input output) r
    by (inl is) = is_type number (Method name input output) r _ (sym is) (refl, (input.type_name.span, refl))
    by (inr there) =
        is_type number (Method name input output) r _ (only_one (reference number types.Output within output.type_name.text) r there)
        (refl, (output.type_name.span, refl))
reference_parts within number _ r h = absurd (none_said r h)

pub referred_type : (nodes : List Node) (r : Reference) → Contains (references_of nodes) r → HasPlace nodes r.item (part.«Type» r.part)
referred_type nodes r h =
    let f = said_of (references_at (package_of nodes)) (places nodes) r h in
    let k = reference_parts (scope_in (package_of nodes) f.0.within) f.0.item.number f.0.item.node.statement r f.2 in
    has_place nodes f.0 r.item (part.«Type» r.part) f.1 k.0 k.1
