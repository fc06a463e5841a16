-- One step of a loop over a slice, or over a body, that prints what each item makes.
use Rattle.std.proofs.Common.{◌≡◌, ℕ, Bool, true, false, cond, ◌+◌, ◌<◌, ◌≤◌, length, get_or, drop, map, List, [], ◌∷◌, ◌++◌, refl, sym, ap, ◌∙◌, arith, append-nil, append_assoc}
use Rattle.std.specs.Prelude.{flat_map}
use Rattle.std.proofs.lemmas.Grind.{flat_map-append}
use Rattle.std.proofs.lemmas.List.{at_drop_all, at_drop_more}
use Rattle.json.specs.Token.{Token, end_array}
use Rattle.std.specs.Str.{is_utf8}
use Rattle.serde_json.specs.Data.{Data, string}
use Rattle.pq_syntax.specs.declared.parts.Strings.{Strings}
use Rattle.pq_proto.specs.Reserved.{name_texts}
use Rattle.serde_json.specs.View.{items_of}
use Rattle.serde_json.specs.Written.{items_outline}
use Rattle.json.specs.Tree.{items_tokens}
use Rattle.std.specs.Prelude.{ℤ, Option, Some, None}
use Rattle.pq_lex.specs.declared.position.Position.{Position}
use Rattle.pq_lex.specs.declared.token.Span.{Span}
use Rattle.pq_syntax.specs.declared.parts.Name.{Name}
use Rattle.pq_syntax.specs.declared.tree.Statement.{Statement}
use Rattle.pq_syntax.specs.declared.tree.Statement.TheVariants.{Import, Package, Option as OptionStatement, Message, Field, MapField, Oneof, ReservedNumbers, ReservedNames, Enum, Value, Service, Method, Extend}
use Rattle.pq_proto.specs.aux.Views.{kind_named}
use Rattle.pq_syntax.specs.Places.{Item}
use Rattle.pq_schema.specs.declared.queries.resolved.ResolvedReference.{ResolvedReference}
use Rattle.pq_syntax.specs.declared.parts.Setting.{Setting}
use Rattle.pq_proto.specs.Types.{TypeOf}
use Rattle.pq_proto.specs.Descriptor.{FieldOf, message_by, messages_in}
use Rattle.pq_proto.specs.Symbols.{symbol_data, symbols_by, symbols_in}
use Rattle.pq_proto.specs.Bodies.{Body, Empty, Holds, each}
use Rattle.pq_proto.specs.aux.Printed.{tokens_of, values_of}

-- ---- slices

-- `PrintedTo f old out xs i` is that `out` is `old` with what `f` makes of the first `i` of `xs`,
-- said by what is left
pub record PrintedTo {X T : Type 0} (f : X → List T) (old out : List T) (xs : List X) (i : ℕ) : Type 0 where
  pub is : out ++ flat_map f (drop i xs) ≡ old ++ flat_map f xs

pub printed_none : {X T : Type 0} (f : X → List T) (old : List T) (xs : List X) → PrintedTo f old old xs 0
printed_none f old xs = record { is = refl }

pub printed_more : {X T : Type 0} (f : X → List T) (old out more : List T) (xs : List X) (i : ℕ) (x : X)
    → i < length xs → x ≡ get_or xs i x → more ≡ out ++ f x → PrintedTo f old out xs i → PrintedTo f old more xs (i + 1)
printed_more {X} {T} f old out more xs i x within is adds so_far =
    let rest = flat_map f (drop (i + 1) xs) in
    let left : flat_map f (drop i xs) ≡ f x ++ rest = at_drop_more (λ ys. flat_map f ys) xs i x within ∙ ap (λ (y : X). f y ++ rest) (sym is) in
    record {
      is = ap (λ (ts : List T). ts ++ rest) adds ∙ append_assoc out (f x) rest ∙ ap (λ (ts : List T). out ++ ts) (sym left) ∙ so_far.is;
    }

pub printed_all : {X T : Type 0} (f : X → List T) (old out : List T) (xs : List X) (i : ℕ)
    → length xs ≤ i → PrintedTo f old out xs i → out ≡ old ++ flat_map f xs
printed_all {X} {T} f old out xs i past so_far =
    sym (append-nil out) ∙ ap (λ (ts : List T). out ++ ts) (sym (at_drop_all (λ ys. flat_map f ys) xs i past)) ∙ so_far.is

-- the tokens of a value for each item
pub values_map : {X : Type 0} (f : X → Data) (xs : List X) → values_of (map f xs) ≡ flat_map (λ x. tokens_of (f x)) xs
values_map f [] = refl
values_map f (x ∷ xs) = ap (λ ts. tokens_of (f x) ++ ts) (values_map f xs)

-- ---- bodies

-- `WalkedTo f old out body left` is that `out` is `old` with what `f` makes of the statements of
-- `body` before `left`, which is the rest of it
pub record WalkedTo (f : Item → Body → List Data) (old out : List Token) (body left : Body) : Type 0 where
  pub is : out ++ values_of (each f left) ≡ old ++ values_of (each f body)

pub walked_none : (f : Item → Body → List Data) (old : List Token) (body : Body) → WalkedTo f old old body body
walked_none f old body = record { is = refl }

each_holds : (f : Item → Body → List Data) (item : Item) (inside later : Body) → each f (Holds item inside later) ≡ f item inside ++ each f later
unfolding each
each_holds f item inside later = refl

each_empty : (f : Item → Body → List Data) → each f Empty ≡ []
unfolding each
each_empty f = refl

pub walked_more : (f : Item → Body → List Data) (old out more : List Token) (body left inside later : Body) (item : Item)
    → left ≡ Holds item inside later → more ≡ out ++ values_of (f item inside) → WalkedTo f old out body left → WalkedTo f old more body later
walked_more f old out more body left inside later item is adds so_far =
    let rest = values_of (each f later) in
    let here = values_of (f item inside) in
    let both : values_of (each f left) ≡ here ++ rest =
    ap (λ (b : Body). values_of (each f b)) is ∙ ap values_of (each_holds f item inside later) ∙ flat_map-append tokens_of (f item inside) (each f later) in
    record {
      is = ap (λ (ts : List Token). ts ++ rest) adds ∙ append_assoc out here rest ∙ ap (λ (ts : List Token). out ++ ts) (sym both) ∙ so_far.is;
    }

pub walked_all : (f : Item → Body → List Data) (old out : List Token) (body left : Body)
    → left ≡ Empty → WalkedTo f old out body left → out ≡ old ++ values_of (each f body)
walked_all f old out body left is so_far =
    sym (append-nil out) ∙ ap (λ (ts : List Token). out ++ ts) (sym (ap (λ (b : Body). values_of (each f b)) is ∙ ap values_of (each_empty f))) ∙ so_far.is

-- ---- lists

-- the tokens of a list
pub list_tokens : (ds : List Data) → items_tokens (items_outline (items_of ds)) ≡ values_of ds ++ end_array ∷ []
list_tokens [] = refl
list_tokens (d ∷ ds) = ap (λ ts. tokens_of d ++ ts) (list_tokens ds) ∙ sym (append_assoc (tokens_of d) (values_of ds) (end_array ∷ []))

-- ---- bodies that are walked with what lies deeper

-- `LeftTo F old out body left size bound` is that `out` is `old` with what `F` makes of the
-- statements of `body` before `left`, which is the rest of it. `size` is at most `bound`.
pub record LeftTo (F : Body → List Data) (old out : List Token) (body left : Body) (size bound : ℕ) : Type 0 where
  pub is : out ++ values_of (F left) ≡ old ++ values_of (F body)
  pub fewer : size ≤ bound

pub left_none : (F : Body → List Data) (old : List Token) (body : Body) (size : ℕ) → LeftTo F old old body body size size
left_none F old body size = record { is = refl; fewer = omega arith }

pub left_more : (F : Body → List Data) (old out more : List Token) (body left later : Body) (here : List Data) (size next bound : ℕ)
    → F left ≡ here ++ F later → more ≡ out ++ values_of here → next < size
    → LeftTo F old out body left size bound → LeftTo F old more body later next bound
left_more F old out more body left later here size next bound step adds less so_far =
    let rest = values_of (F later) in
    let both : values_of (F left) ≡ values_of here ++ rest = ap values_of step ∙ flat_map-append tokens_of here (F later) in
    let fewer = so_far.fewer in
    record {
      is = ap (λ (ts : List Token). ts ++ rest) adds ∙ append_assoc out (values_of here) rest ∙ ap (λ (ts : List Token). out ++ ts) (sym both) ∙ so_far.is;
      fewer = omega arith;
    }

pub left_all : (F : Body → List Data) (old out : List Token) (body left : Body) (size bound : ℕ)
    → F left ≡ [] → LeftTo F old out body left size bound → out ≡ old ++ values_of (F body)
left_all F old out body left size bound none so_far =
    sym (append-nil out) ∙ ap (λ (ts : List Token). out ++ ts) (sym (ap values_of none)) ∙ so_far.is

-- ---- names that are UTF-8

either_name : (b : Bool) (t : List ℕ) (ts : List (List ℕ))
    → values_of (map (λ (x : List ℕ). string x) (cond b (t ∷ ts) ts)) ≡ values_of (cond b (string t ∷ []) []) ++ values_of (map (λ (x : List ℕ). string x) ts)
either_name true t ts = refl
either_name false t ts = refl

-- the tokens of the names that are UTF-8
pub names_tokens : (names : List Strings)
    → values_of (map (λ (t : List ℕ). string t) (name_texts names)) ≡ flat_map (λ (s : Strings). values_of (cond (is_utf8 s.value) (string s.value ∷ []) [])) names
names_tokens [] = refl
names_tokens (s ∷ ss) =
    either_name (is_utf8 s.value) s.value (name_texts ss)
    ∙ ap (λ ts. values_of (cond (is_utf8 s.value) (string s.value ∷ []) []) ++ ts) (names_tokens ss)

-- ---- what is made of the values that statements make

either_more : {A B : Type 0} (g : A → B) (xs ys : List A) (zs : List B) → map g ys ≡ zs → map g (xs ++ ys) ≡ map g xs ++ zs
either_more g [] ys zs e = e
either_more g (x ∷ xs) ys zs e = ap (λ us. g x ∷ us) (either_more g xs ys zs e)

pub map_each : {A B : Type 0} (g : A → B) (f : Item → Body → List A) (body : Body) → map g (each f body) ≡ each (λ (i : Item) (b : Body). map g (f i b)) body
unfolding each
map_each g f Empty = refl
map_each g f (Holds item inside later) = either_more g (f item inside) (each f later) (each (λ (i : Item) (b : Body). map g (f i b)) later) (map_each g f later)

-- ---- messages and symbols

pub messages_first : (references : List ResolvedReference) (scope : List ℕ) (item : Item) (inside later : Body)
    → messages_in references (Holds item inside later) scope
    ≡ message_by references scope item.number inside (messages_in references inside) item.node.statement ++ messages_in references later scope
unfolding messages_in
messages_first references scope item inside later = refl

pub messages_none : (references : List ResolvedReference) (scope : List ℕ) → messages_in references Empty scope ≡ []
unfolding messages_in
messages_none references scope = refl

pub symbols_first : (place : ℕ → Position) (item : Item) (inside later : Body)
    → symbols_in place (Holds item inside later) ≡ symbols_by place item.node.span (symbols_in place inside) item.node.statement ++ symbols_in place later
unfolding symbols_in
symbols_first place item inside later = refl

pub symbols_none : (place : ℕ → Position) → symbols_in place Empty ≡ []
unfolding symbols_in
symbols_none place = refl

-- ---- parts that are printed one after the other

pub link : {T : Type 0} (old mid new more rest : List T) → mid ≡ old ++ more → new ≡ mid ++ rest → new ≡ old ++ (more ++ rest)
link {T} old mid new more rest first later = later ∙ ap (λ (ts : List T). ts ++ rest) first ∙ append_assoc old more rest

-- `Adds old steps` is that each step `s` adds `s.0` to what was printed before it, which gives `s.1`;
-- `old` comes before the first
abbrev pub Adds : {T : Type 0} → List T → List (List T × List T) → Type 0
Adds old [] = Unit {0}
Adds old (s ∷ more) = (s.1 ≡ old ++ s.0) × Adds s.1 more

-- `all_added steps` is what the steps add, one after the other
abbrev pub all_added : {T : Type 0} → List (List T × List T) → List T
all_added [] = []
all_added (s ∷ []) = s.0
all_added (s ∷ (t ∷ more)) = s.0 ++ all_added (t ∷ more)

-- `last_of old steps` is what the last step gives
abbrev pub last_of : {T : Type 0} → List T → List (List T × List T) → List T
last_of old [] = old
last_of old (s ∷ more) = last_of s.1 more

-- so the last gives what was there first and what all steps add
pub chain : {T : Type 0} (old : List T) (steps : List (List T × List T)) → Adds old steps → last_of old steps ≡ old ++ all_added steps
chain old [] a = sym (append-nil old)
chain old (s ∷ []) a = a.0
chain old (s ∷ (t ∷ more)) a = link old s.1 (last_of s.1 (t ∷ more)) s.0 (all_added (t ∷ more)) a.0 (chain s.1 (t ∷ more) a.1)

-- a list before `rest`
pub list_then : (ds : List Data) (rest : List Token) → values_of ds ++ (end_array ∷ rest) ≡ items_tokens (items_outline (items_of ds)) ++ rest
list_then ds rest = sym (ap (λ (ts : List Token). ts ++ rest) (list_tokens ds) ∙ append_assoc (values_of ds) (end_array ∷ []) rest)

-- ---- symbols that a statement declares

told : (ℕ → Position) → Span → List Data → Option (ℕ × Name) → List Data
told place whole children None = []
told place whole children (Some s) = symbol_data place s.0 s.1 whole children ∷ []

pub symbols_named : (place : ℕ → Position) (whole : Span) (children : List Data) (statement : Statement) (kind : ℕ) (name : Name)
    → Some (kind, name) ≡ kind_named statement → symbols_by place whole children statement ≡ symbol_data place kind name whole children ∷ []
unfolding told
symbols_named place whole children (Import k f) kind name e = ap (told place whole children) (sym e)
symbols_named place whole children (Package n) kind name e = ap (told place whole children) (sym e)
symbols_named place whole children (OptionStatement s) kind name e = ap (told place whole children) (sym e)
symbols_named place whole children (Message n) kind name e = ap (told place whole children) (sym e)
symbols_named place whole children (Field l k n i o) kind name e = ap (told place whole children) (sym e)
symbols_named place whole children (MapField k v n i o) kind name e = ap (told place whole children) (sym e)
symbols_named place whole children (ReservedNumbers r) kind name e = ap (told place whole children) (sym e)
symbols_named place whole children (ReservedNames r) kind name e = ap (told place whole children) (sym e)
symbols_named place whole children (Enum n) kind name e = ap (told place whole children) (sym e)
symbols_named place whole children (Value n i o) kind name e = ap (told place whole children) (sym e)
symbols_named place whole children (Service n) kind name e = ap (told place whole children) (sym e)
symbols_named place whole children (Method n i o) kind name e = ap (told place whole children) (sym e)
symbols_named place whole children (Extend n) kind name e = ap (told place whole children) (sym e)
symbols_named place whole children (Oneof n) kind name e = cc

-- ---- fields

abbrev pub field_parts : ℕ → List ℕ → ℤ → Option (List ℕ) → Bool → List Setting → TypeOf → FieldOf
field_parts label name number oneof is_optional options kind = record {
  label = label;
  name = name;
  number = number;
  oneof = oneof;
  is_optional = is_optional;
  options = options;
  kind = kind;
}
