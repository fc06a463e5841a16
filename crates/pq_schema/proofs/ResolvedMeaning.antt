-- In every rule set in which the query of resolved references is embedded, the answer of a file is
-- its type references, each with what it resolves to in the answer of the file's scope.
use Rattle.std.proofs.Common.{◌≡◌, ℕ, ◌<◌, List, [], ◌∷◌, refl, sym, ap, subst, ◌∙◌, arith}
use Rattle.pq_rules.specs.declared.turn.Turn.{Turn}
use Rattle.pq_rules.specs.declared.turn.Turn.TheVariants.{Ask, Done}
use Rattle.pq_rules.specs.declared.turn.Answer.{Answer}
use Rattle.pq_rules.specs.declared.turn.Answer.TheVariants.{Value}
use Rattle.pq_rules.specs.Turns.{Instance}
use Rattle.pq_rules.specs.Relations.{Each}
use Rattle.pq_rules.specs.Value.{Trace, Means}
use Rattle.pq_rules.specs.Embedding.{Runs, Embeds}
use Rattle.pq_rules.proofs.LowerReads.{lower_runs, runs_mean}
use Rattle.pq_syntax.specs.declared.tree.Node.{Node}
use Rattle.pq_schema.specs.ScopeContents.{Scope}
use Rattle.pq_schema.specs.aux.Queries.{resolved_starts, resolved_by, resolved_advances}
use Rattle.pq_schema.specs.declared.queries.resolved.ResolvedReference.{ResolvedReference}
use Rattle.pq_schema.specs.declared.queries.resolved.ResolvedPart.{ResolvedPart}
use Rattle.pq_schema.specs.declared.queries.resolved.ResolvedPart.TheVariants.{ReadScope, ReadTree}

module _ {K P V : Type 0} (m : Instance K P V) (scope items key : List ℕ → K) (part : ResolvedPart → P) (value : List ResolvedReference → V)
    (scope_read : Answer K V → Scope) (nodes_read : Answer K V → List Node) (level : ℕ)
    (s : Embeds m key part value level (resolved_starts scope) (λ q a. resolved_advances items (scope_read a) (nodes_read a) q))
    (above_scope : (f : List ℕ) → m.level (scope f) < level) (above_items : (f : List ℕ) → m.level (items f) < level) where
  abbrev advances : ResolvedPart → Answer K V → Turn K ResolvedPart (List ResolvedReference)
  advances q a = resolved_advances items (scope_read a) (nodes_read a) q

  up : 0 < level
  up = let x = above_scope [] in omega arith

  second : (f : List ℕ) (sc : Scope) (es : Trace K V) (k : K) (q : ResolvedPart) → Runs advances (Ask (items f) (ReadTree sc)) es (Ask k q) → m.level k < level
  unfolding Runs
  second f sc [] k q r = let key : items f ≡ k = cc in subst (λ (x : K). m.level x < level) key (above_items f)
  second f sc (e ∷ []) k q r =
      let asks = r.1 in
      let part_is : r.0 ≡ ReadTree sc = cc in
      let last : advances (ReadTree sc) e.1 ≡ Ask k q = subst (λ (y : ResolvedPart). advances y e.1 ≡ Ask k q) part_is r.2 in cc
  second f sc (e ∷ (d ∷ ds)) k q r =
      let asks = r.1 in
      let part_is : r.0 ≡ ReadTree sc = cc in
      let next : advances (ReadTree sc) e.1 ≡ Ask d.0 r.2.0 = subst (λ (y : ResolvedPart). advances y e.1 ≡ Ask d.0 r.2.0) part_is r.2.1 in cc

  -- the rule asks keys of lower levels alone
  lower : (f : List ℕ) (es : Trace K V) (k : K) (q : ResolvedPart) → Runs advances (resolved_starts scope f) es (Ask k q) → m.level k < level
  unfolding Runs
  lower f [] k q r = let key : scope f ≡ k = cc in subst (λ (x : K). m.level x < level) key (above_scope f)
  lower f (e ∷ es) k q r =
      let asks = r.1 in
      let part_is : r.0 ≡ ReadScope f = cc in
      second f (scope_read e.1) es k q (subst (λ (y : ResolvedPart). Runs advances (advances y e.1) es (Ask k q)) part_is r.2)

  last : (f : List ℕ) (sc : Scope) (es : Trace K V) (w : List ResolvedReference) → Runs advances (Ask (items f) (ReadTree sc)) es (Done w)
      → Each (λ e. Means m e.0 e.1) es → (c : Answer K V) × Means m (items f) c × (w ≡ resolved_by sc (nodes_read c))
  unfolding Runs
  last f sc [] w r t = cc
  last f sc (e ∷ []) w r t =
      let asks = r.1 in
      let key : items f ≡ e.0 = cc in
      let part_is : r.0 ≡ ReadTree sc = cc in
      let done : advances (ReadTree sc) e.1 ≡ Done w = subst (λ (y : ResolvedPart). advances y e.1 ≡ Done w) part_is r.2 in
      let is : w ≡ resolved_by sc (nodes_read e.1) = cc in
      (e.1, subst (λ (k : K). Means m k e.1) (sym key) t.0, is)
  last f sc (e ∷ (d ∷ ds)) w r t =
      let asks = r.1 in
      let part_is : r.0 ≡ ReadTree sc = cc in
      let next : advances (ReadTree sc) e.1 ≡ Ask d.0 r.2.0 = subst (λ (y : ResolvedPart). advances y e.1 ≡ Ask d.0 r.2.0) part_is r.2.1 in cc

  ends : (f : List ℕ) (es : Trace K V) (w : List ResolvedReference) → Runs advances (resolved_starts scope f) es (Done w) → Each (λ e. Means m e.0 e.1) es
      → (b : Answer K V) × (c : Answer K V) × Means m (scope f) b × Means m (items f) c × (w ≡ resolved_by (scope_read b) (nodes_read c))
  unfolding Runs
  ends f [] w r t = cc
  ends f (e ∷ es) w r t =
      let asks = r.1 in
      let key : scope f ≡ e.0 = cc in
      let part_is : r.0 ≡ ReadScope f = cc in
      let rest = last f (scope_read e.1) es w (subst (λ (y : ResolvedPart). Runs advances (advances y e.1) es (Done w)) part_is r.2) t.1 in
      (e.1, rest.0, subst (λ (k : K). Means m k e.1) (sym key) t.0, rest.1, rest.2)

  -- the answer of a file is its references, resolved by an answer of its scope
  pub resolved_is : (f : List ℕ) (a : Answer K V) → Means m (key f) a
      → (b : Answer K V) × (c : Answer K V) × Means m (scope f) b × Means m (items f) c × (a ≡ Value (value (resolved_by (scope_read b) (nodes_read c))))
  resolved_is f a h =
      let r = lower_runs m key part value level (resolved_starts scope) advances s up lower f a h in
      let e = ends f r.0 r.1 r.2 r.4 in
      (e.0, e.1, e.2, e.3, r.3 ∙ ap (λ (w : List ResolvedReference). Value (value w)) e.4)

  -- the references of a file, resolved by an answer of its scope, are its answer
  pub is_resolved : (f : List ℕ) (b c : Answer K V) → Means m (scope f) b → Means m (items f) c
      → Means m (key f) (Value (value (resolved_by (scope_read b) (nodes_read c))))
  unfolding Runs
  is_resolved f b c h i =
      runs_mean m key part value level (resolved_starts scope) advances s up lower f ((scope f, b) ∷ (items f, c) ∷ []) (resolved_by (scope_read b) (nodes_read c))
      (ReadScope f, refl, (ReadTree (scope_read b), refl, refl)) ((above_scope f, h), ((above_items f, i), tt))
