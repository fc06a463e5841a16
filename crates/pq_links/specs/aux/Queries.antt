-- Auxiliary: the four queries as functions of the key makers of a sum of queries and of what the
-- sum's readers say of an answer. The public laws tie them to `specs/Answers`.
use Rattle.std.specs.Prelude.{ℕ, Bool, List, [], ◌∷◌, ◌++◌, length, Option, Some, None}
use Rattle.pq_rules.specs.declared.turn.Turn.{Turn}
use Rattle.pq_rules.specs.declared.turn.Turn.TheVariants.{Ask, Done}
use Rattle.pq_links.specs.Visibility.{links_by, no_links}
use Rattle.pq_links.specs.Files.{read_file, file_imports, items_of}
use Rattle.pq_links.specs.declared.file_items.FileItems.{FileItems}
use Rattle.pq_links.specs.declared.files.ParsedFile.{ParsedFile}
use Rattle.pq_links.specs.declared.linked.Linking.{Linking}
use Rattle.pq_links.specs.declared.linked.Linking.TheVariants.{Reading, Joining}
use Rattle.pq_links.specs.declared.links.Import.{Import}
use Rattle.pq_links.specs.declared.links.Links.{Links}

-- `parse_level`, `items_level`, `imports_level` and `linked_level` are the levels of the queries'
-- keys
abbrev pub parse_level : ℕ
parse_level = 1

abbrev pub items_level : ℕ
items_level = 2

abbrev pub imports_level : ℕ
imports_level = 3

abbrev pub linked_level : ℕ
linked_level = 4

-- `parse_starts input f` is the first turn of the parse of the file `f`: it asks for the text
abbrev pub parse_starts : {K : Type 0} → (List ℕ → K) → List ℕ → Turn K (Unit {0}) ParsedFile
parse_starts input f = Ask (input f) tt

-- `parse_advances loose text` is the turn after that: it is done with what the file is read as
abbrev pub parse_advances : {K : Type 0} → Bool → Option (List ℕ) → Turn K (Unit {0}) ParsedFile
parse_advances loose text = Done (read_file loose text)

-- `items_starts parse f` is the first turn of the tree without spans of the file `f`: it asks for
-- the parse
abbrev pub items_starts : {K : Type 0} → (List ℕ → K) → List ℕ → Turn K (Unit {0}) FileItems
items_starts parse f = Ask (parse f) tt

-- `items_advances file` is the turn after that: it is done with what `file` is without spans
abbrev pub items_advances : {K : Type 0} → ParsedFile → Turn K (Unit {0}) FileItems
items_advances file = Done (items_of file)

-- `imports_starts items f` is the first turn of the imports of the file `f`: it asks for the tree
-- without spans
abbrev pub imports_starts : {K : Type 0} → (List ℕ → K) → List ℕ → Turn K (Unit {0}) (Option (List Import))
imports_starts items f = Ask (items f) tt

-- `imports_advances items` is the turn after that: it is done with the imports of a file that is
-- `items`
abbrev pub imports_advances : {K : Type 0} → FileItems → Turn K (Unit {0}) (Option (List Import))
imports_advances items = Done (file_imports items)

-- `join_next linked f left pairs` is the turn of the links of the file `f` that asks the links of
-- the first import of `left`. Without one it is done with the links by `pairs`.
abbrev pub join_next : {K : Type 0} → (List ℕ → K) → List ℕ → List Import → List (Import × Links) → Turn K Linking Links
join_next linked f [] pairs = Done (links_by f pairs)
join_next linked f (i ∷ is) pairs = Ask (linked i.file) (Joining f (i ∷ is, pairs))

-- `join_imports linked f imports` is the turn after the question for the imports of the file `f`
abbrev pub join_imports : {K : Type 0} → (List ℕ → K) → List ℕ → Option (List Import) → Turn K Linking Links
join_imports linked f None = Done no_links
join_imports linked f (Some is) = join_next linked f is []

-- `join_after linked links part` is the turn after the question for the links of the first import
-- that is left in `part`
abbrev pub join_after : {K : Type 0} → (List ℕ → K) → Links → Linking → Turn K Linking Links
join_after linked links (Reading f) = Done no_links
join_after linked links (Joining f ([], pairs)) = Done no_links
join_after linked links (Joining f (i ∷ is, pairs)) = join_next linked f is (pairs ++ (i, links) ∷ [])

-- `linked_starts imports f` is the first turn of the links of the file `f`: it asks for its imports
abbrev pub linked_starts : {K : Type 0} → (List ℕ → K) → List ℕ → Turn K Linking Links
linked_starts imports f = Ask (imports f) (Reading f)

-- `linked_advances linked imports links part` is the turn after an answer, read as `imports` and as
-- `links`
abbrev pub linked_advances : {K : Type 0} → (List ℕ → K) → Option (List Import) → Links → Linking → Turn K Linking Links
linked_advances linked imports links (Reading f) = join_imports linked f imports
linked_advances linked imports links (Joining f j) = join_after linked links (Joining f j)

-- `linked_left part` is what is left to ask at `part`
abbrev pub linked_left : Linking → ℕ × ℕ
linked_left (Reading f) = (1, 0)
linked_left (Joining f (is, pairs)) = (0, length is)
