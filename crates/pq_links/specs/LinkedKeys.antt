-- The answers of links in a rule set that embeds the query of links.
use Rattle.std.specs.Prelude.{ℕ, ◌≡◌, ◌<◌, List, map, Option}
use Rattle.std.specs.Cmp.Lexicographic.{slice_cmp}
use Rattle.std.specs.Ordering.{nat_cmp}
use Rattle.pq_rules.specs.declared.turn.Answer.{Answer}
use Rattle.pq_rules.specs.declared.turn.Answer.TheVariants.{Value, Cycle}
use Rattle.pq_rules.specs.Turns.{Instance}
use Rattle.pq_rules.specs.Value.{Means}
use Rattle.pq_rules.specs.InSum.{ReadInSum}
use Rattle.pq_links.specs.ImportGraph.{Graph, IsRingOf}
use Rattle.pq_links.specs.Visibility.{AreLinks}
use Rattle.pq_links.specs.aux.Queries.{linked_starts, linked_advances}
use Rattle.pq_links.specs.declared.links.Import.{Import}
use Rattle.pq_links.specs.declared.links.Links.{Links}

-- `EmbedsLinks m g imports imports_read level` is that the rule set `m` embeds the query of links at
-- the level `level`, above imports that are those of the graph `g`. `imports f` is the key of the
-- imports of the file `f`, and `imports_read` reads their answers.
pub record EmbedsLinks {K P V : Type 0} (m : Instance K P V) (g : Graph) (imports : List ℕ → K) (imports_read : Answer K V → Option (List Import)) (level : ℕ) : Type 0 where
  pub linked : ReadInSum m level (linked_starts imports) (λ key read q a. linked_advances key (imports_read a) (read a) q)
  -- the answers of imports are those of the graph
  pub graph_is : (f : List ℕ) (a : Answer K V) → Means m (imports f) a → imports_read a ≡ g f
  -- imports are of a lower level
  pub above : (f : List ℕ) → m.level (imports f) < level
  -- keys of links are ordered as the names of their files
  pub one : (f h : List ℕ) → linked.key f ≡ linked.key h → f ≡ h
  pub order_is : (f h : List ℕ) → m.order (linked.key f) (linked.key h) ≡ slice_cmp nat_cmp f h

-- `LinkedIs g linked value f a` is that the answer `a` is the value of the links of the file `f`, a
-- good file, or the cycle of the ring into which `f` leads, a bad file
abbrev pub LinkedIs : {K V : Type 0} → Graph → (List ℕ → K) → (Links → V) → List ℕ → Answer K V → Type 0
LinkedIs g linked value f (Value v) = (l : Links) × (v ≡ value l) × AreLinks g f l
LinkedIs g linked value f (Cycle r) = (ring : List (List ℕ)) × (r ≡ map linked ring) × IsRingOf g f ring
