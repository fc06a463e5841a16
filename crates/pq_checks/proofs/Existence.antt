-- Each file of the sources has links or leads into a ring of imports, so it has a scope and
-- resolved references.
use Rattle.std.proofs.Common.{◌⊎◌, ℕ, Bool, List, map, refl, inl, inr}
use Rattle.pq_inputs.specs.Sources.{Sources}
use Rattle.pq_links.specs.Files.{graph_of}
use Rattle.pq_links.specs.ImportGraph.{IsRingOf}
use Rattle.pq_links.specs.Visibility.{AreLinks, links_within}
use Rattle.pq_links.specs.declared.links.Links.{Links}
use Rattle.pq_links.specs.aux.Mentioned.{all_mentioned}
use Rattle.pq_links.proofs.GraphDecided.{good_or_ring}
use Rattle.pq_links.proofs.Mentions.{file_mentions}
use Rattle.pq_schema.specs.Compile.{IsScope, AreResolved, defs_at, nodes_at, resolved_in, scope_of_links}
use Rattle.pq_schema.specs.Missing.{no_scope}
use Rattle.pq_schema.specs.References.{references_of}
use Rattle.pq_schema.specs.ScopeContents.{Scope}
use Rattle.pq_schema.specs.declared.queries.resolved.ResolvedReference.{ResolvedReference}

module _ (loose : Bool) (files : Sources) where
  pub linked_or_ring : (f : List ℕ) → ((l : Links) × AreLinks (graph_of loose files) f l) ⊎ ((ring : List (List ℕ)) × IsRingOf (graph_of loose files) f ring)
  linked_or_ring f = elim (good_or_ring (graph_of loose files) (all_mentioned loose files) (λ k h i. file_mentions loose files k h i) f) [
    | inl e ↦ inl (links_within (graph_of loose files) e.0 f, (e.0, e.1, refl))
    | inr r ↦ inr r
  ]

  pub scope_exists : (f : List ℕ) → (s : Scope) × IsScope loose files f s
  scope_exists f = elim (linked_or_ring f) [
    | inl l ↦ (scope_of_links (defs_at loose files) l.0, inl (l.0, l.1, refl))
    | inr r ↦ (no_scope, inr (r.0, r.1, refl))
  ]

  pub resolved_exist : (f : List ℕ) → (rs : List ResolvedReference) × AreResolved loose files f rs
  resolved_exist f = let s = scope_exists f in (map (resolved_in s.0) (references_of (nodes_at loose files f)), (s.0, s.1, refl))
