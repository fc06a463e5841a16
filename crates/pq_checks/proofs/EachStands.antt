-- The tree of a file has the place of each error of the file by the table: one search goes through all
-- lines, by a lemma for each form of what is said.
use Rattle.std.proofs.Common.{◌≡◌, ℕ, Bool, true, false, cond, is_some, List, [], ◌∷◌, ◌++◌, map, take, Option, Some, None, true≢false, refl, sym, ap, subst, ◌∙◌, inl, inr}
use Rattle.std.specs.Prelude.{◌⊎◌, Contains, slice_get}
use Rattle.std.proofs.lemmas.List.Elements.{Contains-append_cases}
use Rattle.pq_inputs.specs.Sources.{Sources}
use Rattle.pq_lex.specs.declared.token.Span.{Span}
use Rattle.pq_syntax.specs.declared.fault.Parsed.{Parsed}
use Rattle.pq_syntax.specs.declared.fault.Parsed.TheVariants.{Tree, Fault as SyntaxFault}
use Rattle.pq_syntax.specs.declared.parts.ConstantKind.{ConstantKind}
use Rattle.pq_syntax.specs.declared.parts.ConstantKind.TheVariants.{Aggregate, Float}
use Rattle.pq_syntax.specs.declared.parts.Name.{Name}
use Rattle.pq_syntax.specs.declared.tree.Node.{Node}
use Rattle.pq_links.specs.Bare.{bare}
use Rattle.pq_links.specs.Files.{items_of, nodes_in, nodes_of, parsed_items, parsed_nodes, read_in}
use Rattle.pq_links.specs.Place.{place}
use Rattle.pq_links.specs.declared.files.ParsedFile.{ParsedFile}
use Rattle.pq_links.specs.declared.files.ParsedFile.TheVariants.{Absent, Present}
use Rattle.pq_links.specs.declared.files.Shown.{Shown}
use Rattle.pq_links.specs.declared.file_items.FileItems.TheVariants as items
use Rattle.pq_links.specs.declared.places.Part.{Part}
use Rattle.pq_links.specs.declared.places.Part.TheVariants as part
use Rattle.pq_links.specs.declared.places.TypePart.{TypePart}
use Rattle.pq_links.proofs.BareParts.{parts_stay}
use Rattle.pq_schema.specs.Compile.{resolved_in}
use Rattle.pq_schema.specs.Definitions.{definitions_of}
use Rattle.pq_schema.specs.References.{references_of}
use Rattle.pq_schema.specs.ScopeContents.{Scope}
use Rattle.pq_schema.specs.declared.define.definitions.Definition.{Definition}
use Rattle.pq_schema.specs.declared.search.resolution.Resolution.{Resolution}
use Rattle.pq_schema.specs.declared.search.resolution.Resolution.TheVariants as resolutions
use Rattle.pq_schema.specs.declared.queries.resolved.ResolvedReference.{ResolvedReference}
use Rattle.pq_checks.specs.Compile.{AreFaults, file_faults}
use Rattle.pq_checks.specs.Diagnostics.{Stands}
use Rattle.pq_checks.specs.Faults.{at, kind_faults, package_faults, state_faults, ring_faults, other_faults, resolution_faults, reference_faults, named_type, table}
use Rattle.pq_checks.specs.Line.{Line, each, after, unless, IsSaid, IsSaidByOne}
use Rattle.pq_checks.specs.Members.{ImportName}
use Rattle.pq_checks.specs.Surroundings.{Surroundings}
use Rattle.pq_checks.specs.declared.errors.code.Code.{Code}
use Rattle.pq_checks.specs.declared.errors.fault.Fault.{Fault}
use Rattle.pq_checks.specs.declared.around.surroundings.FileState.{FileState}
use Rattle.pq_checks.specs.declared.around.surroundings.FileState.TheVariants.{Missing, Unreadable, Readable}
use Rattle.pq_checks.proofs.EachLine.{contains_head, each_line, head_or_tail, none_said, only_one, tail}
use Rattle.pq_checks.proofs.EachPart.{HasPlace, field_number, field_name, value_number, value_name, of_kind_name, of_kind_whole, import_name, range_itself, constant_itself, defined_name, referred_type}
use Rattle.pq_checks.proofs.References.{no_statement, no_name, with_name}

-- ---- the place of what is said

-- `AllStand nodes fs` is that the tree has the place of each of the errors `fs`
AllStand : List Node → List Fault → Type 0
AllStand nodes fs = (x : Fault) → Contains fs x → Stands nodes x

module _ (nodes : List Node) where
  none_stand : AllStand nodes []
  unfolding AllStand
  none_stand x h = absurd (none_said x h)

  one_stands : (item : ℕ) (p : Part) (c : Code) (text : List ℕ) → HasPlace nodes item p → AllStand nodes (at item p c text ∷ [])
  unfolding AllStand HasPlace
  one_stands item p c text has x h = subst (λ (f : Fault). Stands nodes f) (sym (only_one (at item p c text) x h)) has

  cond_stand : (b : Bool) (xs ys : List Fault) → AllStand nodes xs → AllStand nodes ys → AllStand nodes (cond b xs ys)
  cond_stand true xs ys a c = a
  cond_stand false xs ys a c = c

  both_stand : (xs ys : List Fault) → AllStand nodes xs → AllStand nodes ys → AllStand nodes (xs ++ ys)
  unfolding AllStand
  both_stand xs ys a b x h = elim (Contains-append_cases xs ys x h) [ inl here ↦ a x here | inr there ↦ b x there ]

  kind_stands : (k : ConstantKind) (item nth : ℕ) → HasPlace nodes item (part.Constant nth) → AllStand nodes (kind_faults k item nth)
  kind_stands Aggregate item nth has = one_stands _ _ _ _ has
  kind_stands Float item nth has = one_stands _ _ _ _ has
  kind_stands _ item nth has = none_stand

  package_stands : (earlier : List ℕ) (i : ℕ) → HasPlace nodes i part.Name → AllStand nodes (package_faults earlier i)
  package_stands [] i has = none_stand
  package_stands (q ∷ qs) i has = one_stands _ _ _ _ has

  state_stands : (state : FileState) (i : ImportName) → HasPlace nodes i.item part.Name → AllStand nodes (state_faults state i)
  state_stands Missing i has = one_stands _ _ _ _ has
  state_stands Unreadable i has = one_stands _ _ _ _ has
  state_stands Readable i has = none_stand

  ring_stands : (ring : Option (List (List ℕ))) (next : Option (List ℕ)) (repeated : Bool) (i : ImportName)
      → HasPlace nodes i.item part.Name → AllStand nodes (ring_faults ring next repeated i)
  ring_stands (Some ring) (Some next) repeated i has = search (cond_stand, one_stands, none_stand)
  ring_stands (Some ring) None repeated i has = none_stand
  ring_stands None next repeated i has = none_stand

  other_stands : (other : Option (List ℕ)) (d : Definition) → HasPlace nodes d.item part.Name → AllStand nodes (other_faults other d)
  other_stands None d has = none_stand
  other_stands (Some file) d has = one_stands _ _ _ _ has

  resolution_stands : (item : ℕ) (p : TypePart) (name : List ℕ) (r : Resolution) → HasPlace nodes item (part.«Type» p) → AllStand nodes (resolution_faults item p name r)
  resolution_stands item p name resolutions.NotFound has = one_stands _ _ _ _ has
  resolution_stands item p name (resolutions.NotVisible file) has = one_stands _ _ _ _ has
  resolution_stands item p name resolutions.NotAType has = one_stands _ _ _ _ has
  resolution_stands item p name (resolutions.«Type» target) has = search (cond_stand, one_stands, none_stand)

  module _ (r : ResolvedReference) (has : HasPlace nodes r.item (part.«Type» r.part)) where
    abbrev Standing : List Fault → Type 0
    Standing fs = AllStand nodes fs

    of_name : (n : Node) → slice_get nodes r.item ≡ Some n → (o : Option Name) → named_type r.part n.statement ≡ o → Standing (reference_faults nodes r)
    of_name n is None none = subst Standing (sym (no_name nodes r n is none)) none_stand
    of_name n is (Some name) found = subst Standing (sym (with_name nodes r n name is found)) (resolution_stands r.item r.part name.text r.resolution has)

    of_statement : (o : Option Node) → slice_get nodes r.item ≡ o → Standing (reference_faults nodes r)
    of_statement None none = subst Standing (sym (no_statement nodes r none)) none_stand
    of_statement (Some n) is = of_name n is (named_type r.part n.statement) refl

  reference_stands : (r : ResolvedReference) → HasPlace nodes r.item (part.«Type» r.part) → AllStand nodes (reference_faults nodes r)
  reference_stands r has = of_statement r has (slice_get nodes r.item) refl

-- ---- each line

-- `Places nodes l` is that the tree has the place of each error that the line `l` says, and
-- `AllPlace nodes ls` is that of each of the lines `ls`
Places : List Node → Line → Type 0
Places nodes l = (x : Fault) → IsSaid l x → Stands nodes x

abbrev AllPlace : List Node → List Line → Type 0
AllPlace nodes [] = Unit {0}
AllPlace nodes (l ∷ ls) = Places nodes l × AllPlace nodes ls

one_places : (nodes : List Node) (ls : List Line) → AllPlace nodes ls → (x : Fault) → IsSaidByOne ls x → Stands nodes x
unfolding Places
one_places nodes [] all x h = absurd h
one_places nodes (l ∷ ls) all x (inl here) = all.0 x here
one_places nodes (l ∷ ls) all x (inr there) = one_places nodes ls all.1 x there

from_map : {A B : Type 0} (f : A → B) (xs : List A) (y : B) → Contains (map f xs) y → (x : A) × Contains xs x × (y ≡ f x)
from_map f [] y h = absurd (none_said y h)
from_map {A = A} {B = B} f (x ∷ xs) y h = by (from_map f xs y) (head_or_tail (f x) y (map f xs) h)
  where
    by : (Contains (map f xs) y → (z : A) × Contains xs z × (y ≡ f z)) → ((f x ≡ y) ⊎ Contains (map f xs) y) → (z : A) × Contains (x ∷ xs) z × (y ≡ f z)
    by rest (inl is) = (x, contains_head x xs, sym is)
    by rest (inr there) = let r = rest there in (r.0, tail x r.0 xs r.1, r.2)

module _ (nodes : List Node) where
  by_each : {A : Type 0} (f : A → List Fault) (xs : List A) → ((y : A) → Contains xs y → AllStand nodes (f y)) → Places nodes (each f xs)
  unfolding Places AllStand
  by_each f xs all x said = all said.0 said.1 x said.2

  by_after : {A : Type 0} (f : List A → A → List Fault) (xs : List A) → ((earlier : List A) (y : A) → Contains xs y → AllStand nodes (f earlier y)) → Places nodes (after f xs)
  unfolding Places AllStand
  by_after f xs all x said = all (take said.0 xs) said.1 (said.0, said.2, said.3) x said.4

  by_unless : (b : Bool) (l : Line) → Places nodes l → Places nodes (unless b l)
  unfolding Places
  by_unless b l placed x h = placed x h.1

  defined : (ds : List Definition) → ds ≡ definitions_of nodes → (d : Definition) → Contains ds d → HasPlace nodes d.item part.Name
  defined ds are d among = defined_name nodes d (subst (λ (es : List Definition). Contains es d) are among)

  referred : (scope : Scope) (rs : List ResolvedReference) → rs ≡ map (resolved_in scope) (references_of nodes) → (r : ResolvedReference) → Contains rs r → HasPlace nodes r.item (part.«Type» r.part)
  referred scope rs are r among =
      let f = from_map (resolved_in scope) (references_of nodes) r (subst (λ (es : List ResolvedReference). Contains es r) are among) in
      subst (λ (y : ResolvedReference). HasPlace nodes y.item (part.«Type» y.part)) (sym f.2) (referred_type nodes f.0 f.1)

  table_places : (s : Surroundings) (scope : Scope) → s.definitions ≡ definitions_of nodes → s.references ≡ map (resolved_in scope) (references_of nodes)
      → AllPlace nodes (table s nodes)
  table_places s scope ds rs =
      let definition = defined s.definitions ds in
      let type = referred scope s.references rs in
      search (
        by_each,
        by_after,
        by_unless,
        none_stand,
        one_stands,
        cond_stand,
        both_stand,
        kind_stands,
        package_stands,
        state_stands,
        ring_stands,
        other_stands,
        reference_stands,
        constant_itself,
        of_kind_name,
        of_kind_whole,
        import_name,
        field_number,
        field_name,
        range_itself,
        value_number,
        value_name,
        definition,
        type,
      ) depth 30

-- ---- the file

spanned : (o p : Option Span) (s : Span) → o ≡ Some s → is_some o ≡ is_some p → (t : Span) × (p ≡ Some t)
spanned o (Some t) s is same = (t, refl)
spanned o None s is same = absurd (true≢false (ap (λ (x : Option Span). is_some x) (sym is) ∙ same))

-- what the tree without spans has the place of, the tree has the place of
stays_standing : (nodes : List Node) (x : Fault) → Stands (map bare nodes) x → Stands nodes x
stays_standing nodes x h = spanned (place (map bare nodes) x.item x.part) (place nodes x.item x.part) h.0 h.1 (parts_stay nodes x.item x.part)

-- of a text with an error no error is said by the table
no_faults : (s : Surroundings) (nodes : List Node) (other : Bool) → file_faults s (cond other (items.Other nodes) (items.Fault nodes)) ≡ []
no_faults s nodes true = refl
no_faults s nodes false = refl

text_stands : (p : Parsed) (shown : Shown) (s : Surroundings) (scope : Scope) (x : Fault) → s.definitions ≡ definitions_of (nodes_in (parsed_items p shown))
    → s.references ≡ map (resolved_in scope) (references_of (nodes_in (parsed_items p shown))) → Contains (file_faults s (parsed_items p shown)) x → Stands (parsed_nodes p shown) x
text_stands (Tree nodes) shown s scope x ds rs h =
    let all = map bare nodes in
    stays_standing nodes x (one_places all (table s all) (table_places all s scope ds rs) x ((each_line (table s all) x).0 h))
text_stands (SyntaxFault span code) shown s scope x ds rs h =
    absurd (none_said x (subst (λ (xs : List Fault). Contains xs x) (no_faults s (map bare shown.nodes) shown.is_other) h))

file_stands : (file : ParsedFile) (s : Surroundings) (scope : Scope) (x : Fault) → s.definitions ≡ definitions_of (nodes_in (items_of file))
    → s.references ≡ map (resolved_in scope) (references_of (nodes_in (items_of file))) → Contains (file_faults s (items_of file)) x → Stands (nodes_of file) x
file_stands Absent s scope x ds rs h = absurd (none_said x h)
file_stands (Present p shown lines) s scope x ds rs h = text_stands p shown s scope x ds rs h

pub all_stand : (loose : Bool) (files : Sources) (f : List ℕ) (fs : List Fault) (x : Fault) → AreFaults loose files f fs → Contains fs x → Stands (nodes_of (read_in loose files f)) x
all_stand loose files f fs x are h =
    let around = are.1 in
    let resolved = around.references_are in
    file_stands (read_in loose files f) are.0 resolved.0 x around.definitions_are resolved.2 (subst (λ (xs : List Fault). Contains xs x) are.2 h)
