-- Auxiliary: the rule set of a schema keeps the laws, by what each query preserves of the names
-- that the sources mention (used by proofs and invariants only).
use Rattle.std.proofs.Common.{◌≡◌, ℕ, false, ◌≤◌, List, ◌∷◌, refl, inl, inr, arith}
use Rattle.std.specs.Prelude.{IsSome, ◌↔◌}
use Rattle.std.specs.declared.cmp.Ordering.{Ordering}
use Rattle.std.specs.declared.cmp.Ordering.TheVariants.{Equal}
use Rattle.pq_inputs.specs.Sources.{Sources}
use Rattle.pq_rules.specs.Laws.{Laws}
use Rattle.pq_rules.specs.declared.turn.Turn.TheVariants.{Ask}
use Rattle.pq_rules.specs.declared.turn.Answer.{Answer}
use Rattle.pq_rules.specs.declared.turn.Answer.TheVariants.{Value, Cycle}
use Rattle.pq_rules.specs.Turns.{Instance, over, IsLower}
use Rattle.pq_rules.specs.Relations.{In}
use Rattle.pq_rules.specs.Value.{ComesTo}
use Rattle.pq_rules.proofs.Embedded.{embedded_falls}
use Rattle.pq_rules.proofs.Preserved.{TurnIn, AnswerIn, Preserves, asked_in, embedded_in}
use Rattle.pq_rules.specs.aux.KeysBy.{keys_by, in_keys_by, keys_by_in}
use Rattle.pq_links.specs.aux.Mentioned.{all_mentioned}
use Rattle.pq_links.specs.Files.{read_file, file_imports, items_of, nodes_in}
use Rattle.pq_links.specs.aux.Queries.{linked_starts, linked_advances, linked_left}
use Rattle.pq_links.specs.aux.Falls.{linked_falls}
use Rattle.pq_links.proofs.Mentions.{text_in_kind}
use Rattle.pq_links.proofs.NameKinds.{IfImportsIn, LinksIn, LinkingIn, no_links_in, linked_starts_in, linked_advances_in}
use Rattle.pq_schema.specs.aux.Queries.{scope_starts, scope_advances, scope_left, resolved_advances, resolved_left}
use Rattle.pq_schema.specs.aux.Falls.{scope_falls, resolved_falls}
use Rattle.pq_schema.specs.aux.NameKinds.{ScopeIn, ScopePartIn, scope_starts_in, scope_advances_in}
use Rattle.pq_schema.specs.aux.RuleSet.{text_read, parsed_read, items_read, imports_read, links_read, defs_read, scope_read, schema_level, schema_file, schema_start, schema_advance, schema_left, schema_rules, own_name, makers, schema_reach}
use Rattle.pq_schema.specs.declared.queries.resolved.ResolvedPart.{ResolvedPart}
use Rattle.pq_schema.specs.declared.queries.resolved.ResolvedPart.TheVariants.{ReadScope, ReadTree}
use Rattle.pq_schema.specs.declared.queries.rules.SchemaKey.{SchemaKey}
use Rattle.pq_schema.specs.declared.queries.rules.SchemaKey.TheVariants.{Input, Parse, Items, Imports, Linked, Defs, Scope, Resolved}
use Rattle.pq_schema.specs.declared.queries.rules.SchemaPart.{SchemaPart}
use Rattle.pq_schema.specs.declared.queries.rules.SchemaPart.TheVariants.{Parsing, Itemizing, Importing, LinkingFiles, Defining, Scoping, Resolving}
use Rattle.pq_schema.specs.declared.queries.rules.SchemaValue.{SchemaValue}
use Rattle.pq_schema.specs.declared.queries.rules.SchemaValue.TheVariants as values

pub schema_inputs : (k : SchemaKey) → (schema_level k ≡ 0) ↔ IsSome (schema_file k)
schema_inputs (Input f) = (λ e. refl, λ e. refl)
schema_inputs (Parse f) = (λ e. cc, λ e. cc)
schema_inputs (Items f) = (λ e. cc, λ e. cc)
schema_inputs (Imports f) = (λ e. cc, λ e. cc)
schema_inputs (Linked f) = (λ e. cc, λ e. cc)
schema_inputs (Defs f) = (λ e. cc, λ e. cc)
schema_inputs (Scope f) = (λ e. cc, λ e. cc)
schema_inputs (Resolved f) = (λ e. cc, λ e. cc)

-- ---- kinds of keys, parts and values: of the names `ns`, up to the level `l`
abbrev KeyIn : List (List ℕ) → ℕ → SchemaKey → Type 0
KeyIn ns l k = In (own_name k) ns × (schema_level k ≤ l)

abbrev ResolvedPartIn : List (List ℕ) → ResolvedPart → Type 0
ResolvedPartIn ns (ReadScope f) = In f ns
ResolvedPartIn ns (ReadTree scope) = Unit {0}

abbrev PartIn : List (List ℕ) → ℕ → SchemaPart → Type 0
PartIn ns l Parsing = 1 ≤ l
PartIn ns l Itemizing = 2 ≤ l
PartIn ns l Importing = 3 ≤ l
PartIn ns l (LinkingFiles q) = (4 ≤ l) × LinkingIn (λ n. In n ns) q
PartIn ns l Defining = 5 ≤ l
PartIn ns l (Scoping q) = (6 ≤ l) × ScopePartIn (λ n. In n ns) q
PartIn ns l (Resolving q) = (7 ≤ l) × ResolvedPartIn ns q

abbrev ValueIn : List (List ℕ) → SchemaValue → Type 0
ValueIn ns (values.Source text) = IfImportsIn (λ n. In n ns) (file_imports (items_of (read_file false text)))
ValueIn ns (values.Parse file) = IfImportsIn (λ n. In n ns) (file_imports (items_of file))
ValueIn ns (values.Items items) = IfImportsIn (λ n. In n ns) (file_imports items)
ValueIn ns (values.Imports is) = IfImportsIn (λ n. In n ns) is
ValueIn ns (values.Linked links) = LinksIn (λ n. In n ns) links
ValueIn ns (values.Defs defs) = Unit {0}
ValueIn ns (values.Scope scope) = ScopeIn (λ n. In n ns) scope
ValueIn ns (values.Resolved rs) = Unit {0}

text_in : (ns : List (List ℕ)) (a : Answer SchemaKey SchemaValue) → AnswerIn (ValueIn ns) a → IfImportsIn (λ n. In n ns) (file_imports (items_of (read_file false (text_read a))))
text_in ns (Value (values.Source text)) i = i
text_in ns (Value v) i = tt
text_in ns (Cycle ring) i = tt

parsed_in : (ns : List (List ℕ)) (a : Answer SchemaKey SchemaValue) → AnswerIn (ValueIn ns) a → IfImportsIn (λ n. In n ns) (file_imports (items_of (parsed_read a)))
parsed_in ns (Value (values.Parse file)) i = i
parsed_in ns (Value v) i = tt
parsed_in ns (Cycle ring) i = tt

items_in : (ns : List (List ℕ)) (a : Answer SchemaKey SchemaValue) → AnswerIn (ValueIn ns) a → IfImportsIn (λ n. In n ns) (file_imports (items_read a))
items_in ns (Value (values.Items items)) i = i
items_in ns (Value v) i = tt
items_in ns (Cycle ring) i = tt

imports_in : (ns : List (List ℕ)) (a : Answer SchemaKey SchemaValue) → AnswerIn (ValueIn ns) a → IfImportsIn (λ n. In n ns) (imports_read a)
imports_in ns (Value (values.Imports is)) i = i
imports_in ns (Value v) i = tt
imports_in ns (Cycle ring) i = tt

links_in : (ns : List (List ℕ)) (a : Answer SchemaKey SchemaValue) → AnswerIn (ValueIn ns) a → LinksIn (λ n. In n ns) (links_read a)
links_in ns (Value (values.Linked links)) i = i
links_in ns (Value v) i = no_links_in (λ n. In n ns)
links_in ns (Cycle ring) i = no_links_in (λ n. In n ns)

schema_falls : (p : SchemaPart) (a : Answer SchemaKey SchemaValue) (q : SchemaKey) (r : SchemaPart) → schema_advance p a ≡ Ask q r → IsLower (schema_left r) (schema_left p)
schema_falls Parsing a q r e = cc
schema_falls Itemizing a q r e = cc
schema_falls Importing a q r e = cc
schema_falls (LinkingFiles p) a q r e =
    embedded_falls (λ x. LinkingFiles x) (λ v. values.Linked v) schema_left linked_left (linked_advances (λ n. Linked n) (imports_read a) (links_read a) p) (linked_left p)
    (λ x. refl) (linked_falls (λ n. Linked n) (imports_read a) (links_read a) p) q r e
schema_falls Defining a q r e = cc
schema_falls (Scoping p) a q r e =
    embedded_falls (λ x. Scoping x) (λ v. values.Scope v) schema_left scope_left (scope_advances (λ n. Defs n) (links_read a) (defs_read a) p) (scope_left p)
    (λ x. refl) (scope_falls (λ n. Defs n) (links_read a) (defs_read a) p) q r e
schema_falls (Resolving p) a q r e =
    embedded_falls (λ x. Resolving x) (λ v. values.Resolved v) schema_left resolved_left (resolved_advances (λ n. Items n) (scope_read a) (nodes_in (items_read a)) p) (resolved_left p)
    (λ x. refl) (resolved_falls (λ n. Items n) (scope_read a) (nodes_in (items_read a)) p) q r e

-- ---- the keys of names

in_keys : (k : SchemaKey) (ns : List (List ℕ)) → In (own_name k) ns → In k (keys_by makers ns)
in_keys (Input f) ns i = in_keys_by makers (λ n. Input n) f ns (inl refl) i
in_keys (Parse f) ns i = in_keys_by makers (λ n. Parse n) f ns (inr (inl refl)) i
in_keys (Items f) ns i = in_keys_by makers (λ n. Items n) f ns (inr (inr (inl refl))) i
in_keys (Imports f) ns i = in_keys_by makers (λ n. Imports n) f ns (inr (inr (inr (inl refl)))) i
in_keys (Linked f) ns i = in_keys_by makers (λ n. Linked n) f ns (inr (inr (inr (inr (inl refl))))) i
in_keys (Defs f) ns i = in_keys_by makers (λ n. Defs n) f ns (inr (inr (inr (inr (inr (inl refl)))))) i
in_keys (Scope f) ns i = in_keys_by makers (λ n. Scope n) f ns (inr (inr (inr (inr (inr (inr (inl refl))))))) i
in_keys (Resolved f) ns i = in_keys_by makers (λ n. Resolved n) f ns (inr (inr (inr (inr (inr (inr (inr (inl refl)))))))) i

keys_in : (k : SchemaKey) (ns : List (List ℕ)) → In k (keys_by makers ns) → In (own_name k) ns
keys_in = keys_by_in own_name makers (λ n. refl, (λ n. refl, (λ n. refl, (λ n. refl, (λ n. refl, (λ n. refl, (λ n. refl, (λ n. refl, tt))))))))

module _ (order : SchemaKey → SchemaKey → Ordering) (files : Sources) where
  abbrev m : Instance SchemaKey SchemaPart SchemaValue
  m = over order schema_rules files

  module _ (ns : List (List ℕ)) (l : ℕ) (mentions : (w : List ℕ) → In w (all_mentioned false files) → In w ns) where
    inputs_in : (k : SchemaKey) → schema_level k ≡ 0 → ValueIn ns (m.input k)
    inputs_in (Input f) at = text_in_kind (λ n. In n ns) false files mentions f
    inputs_in k at = cc

    starts_in : (k : SchemaKey) → KeyIn ns l k → TurnIn (KeyIn ns l) (PartIn ns l) (ValueIn ns) (schema_start k)
    starts_in (Input f) i = tt
    starts_in (Parse f) i = let h : 1 ≤ l = i.1 in ((i.0, omega arith), h)
    starts_in (Items f) i = let h : 2 ≤ l = i.1 in ((i.0, omega arith), h)
    starts_in (Imports f) i = let h : 3 ≤ l = i.1 in ((i.0, omega arith), h)
    starts_in (Linked f) i =
        let h : 4 ≤ l = i.1 in
        embedded_in (KeyIn ns l) (LinkingIn (λ n. In n ns)) (LinksIn (λ n. In n ns)) (PartIn ns l) (ValueIn ns) (λ q. LinkingFiles q) (λ v. values.Linked v)
        (λ q j. (h, j)) (λ v j. j) (linked_starts (λ n. Imports n) f)
        (linked_starts_in (KeyIn ns l) (λ n. In n ns) (λ n. Imports n) (λ n. Linked n) (λ x j. (j, omega arith)) (λ x j. (j, h)) f i.0)
    starts_in (Defs f) i = let h : 5 ≤ l = i.1 in ((i.0, omega arith), h)
    starts_in (Scope f) i =
        let h : 6 ≤ l = i.1 in
        embedded_in (KeyIn ns l) (ScopePartIn (λ n. In n ns)) (ScopeIn (λ n. In n ns)) (PartIn ns l) (ValueIn ns) (λ q. Scoping q) (λ v. values.Scope v)
        (λ q j. (h, j)) (λ v j. j) (scope_starts (λ n. Linked n) f)
        (scope_starts_in (KeyIn ns l) (λ n. In n ns) (λ n. Linked n) (λ n. Defs n) (λ x j. (j, omega arith)) (λ x j. (j, omega arith)) f i.0)
    starts_in (Resolved f) i = let h : 7 ≤ l = i.1 in ((i.0, omega arith), (h, i.0))

    advances_in : (p : SchemaPart) (a : Answer SchemaKey SchemaValue) → PartIn ns l p → AnswerIn (ValueIn ns) a
        → TurnIn (KeyIn ns l) (PartIn ns l) (ValueIn ns) (schema_advance p a)
    advances_in Parsing a i j = text_in ns a j
    advances_in Itemizing a i j = parsed_in ns a j
    advances_in Importing a i j = items_in ns a j
    advances_in (LinkingFiles p) a i j =
        let h : 4 ≤ l = i.0 in
        embedded_in (KeyIn ns l) (LinkingIn (λ n. In n ns)) (LinksIn (λ n. In n ns)) (PartIn ns l) (ValueIn ns) (λ q. LinkingFiles q) (λ v. values.Linked v)
        (λ q x. (h, x)) (λ v x. x) (linked_advances (λ n. Linked n) (imports_read a) (links_read a) p)
        (linked_advances_in (KeyIn ns l) (λ n. In n ns) (λ n. Imports n) (λ n. Linked n) (λ x y. (y, omega arith)) (λ x y. (y, h))
        (imports_read a) (links_read a) p (imports_in ns a j) (links_in ns a j) i.1)
    advances_in Defining a i j = tt
    advances_in (Scoping p) a i j =
        let h : 6 ≤ l = i.0 in
        embedded_in (KeyIn ns l) (ScopePartIn (λ n. In n ns)) (ScopeIn (λ n. In n ns)) (PartIn ns l) (ValueIn ns) (λ q. Scoping q) (λ v. values.Scope v)
        (λ q x. (h, x)) (λ v x. x) (scope_advances (λ n. Defs n) (links_read a) (defs_read a) p)
        (scope_advances_in (KeyIn ns l) (λ n. In n ns) (λ n. Linked n) (λ n. Defs n) (λ x y. (y, omega arith)) (λ x y. (y, omega arith))
        (links_read a) (defs_read a) p (links_in ns a j) i.1)
    advances_in (Resolving (ReadScope f)) a i j = let h : 7 ≤ l = i.0 in ((i.1, omega arith), (h, tt))
    advances_in (Resolving (ReadTree scope)) a i j = tt

    preserves : Preserves m (KeyIn ns l) (PartIn ns l) (ValueIn ns)
    preserves = record { inputs = λ k at i. inputs_in k at; starts = starts_in; advances = advances_in }

  no_higher : (k q : SchemaKey) (p : SchemaPart) → ComesTo m k (Ask q p) → schema_level q ≤ schema_level k
  no_higher k q p c =
      let ns : List (List ℕ) = own_name k ∷ all_mentioned false files in
      (asked_in m (KeyIn ns (schema_level k)) (PartIn ns (schema_level k)) (ValueIn ns) (preserves ns (schema_level k) (λ w i. inr i)) k q p (inl refl, omega arith) c).1

  stays : (k x q : SchemaKey) (p : SchemaPart) → In x (schema_reach files k) → ComesTo m x (Ask q p) → In q (schema_reach files k)
  stays k x q p i c =
      let ns : List (List ℕ) = own_name k ∷ all_mentioned false files in
      in_keys q ns (asked_in m (KeyIn ns (schema_level x)) (PartIn ns (schema_level x)) (ValueIn ns) (preserves ns (schema_level x) (λ w j. inr j)) x q p (keys_in x ns i, omega arith) c).0

  pub schema_lawful : ((a b : SchemaKey) → order a b ≡ Equal → a ≡ b) → Laws m (schema_reach files)
  schema_lawful exact = record {
    no_higher = no_higher;
    falls = schema_falls;
    reaches = λ k. in_keys k (own_name k ∷ all_mentioned false files) (inl refl);
    stays = stays;
    exact = exact;
  }
