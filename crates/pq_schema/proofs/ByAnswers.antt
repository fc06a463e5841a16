-- What each query asks and ends in, by the answers that it reads, in every sum of queries.
use Rattle.std.proofs.Common.{◌≡◌, ℕ, List, [], ◌∷◌, ◌++◌, refl, sym, ap, subst, ◌∙◌, append-nil, append_assoc}
use Rattle.pq_rules.specs.declared.turn.Turn.{Turn}
use Rattle.pq_rules.specs.declared.turn.Turn.TheVariants.{Ask, Done}
use Rattle.pq_rules.specs.Embedding.{Runs}
use Rattle.pq_links.specs.Files.{nodes_in}
use Rattle.pq_links.specs.declared.file_items.FileItems.{FileItems}
use Rattle.pq_links.specs.declared.links.Links.{Links}
use Rattle.pq_schema.specs.Answers.{AreDefsBy, scope_by, AsksDefs, IsScopeBy, AreResolvedBy}
use Rattle.pq_schema.specs.Contents.{Defs}
use Rattle.pq_schema.specs.ScopeContents.{Scope}
use Rattle.pq_schema.specs.Definitions.{defs_of}
use Rattle.pq_schema.specs.aux.Queries.{defs_starts, defs_advances, collect_next, scope_starts, scope_advances, resolved_starts, resolved_by, resolved_advances}
use Rattle.pq_schema.specs.declared.queries.resolved.ResolvedPart.{ResolvedPart}
use Rattle.pq_schema.specs.declared.queries.resolved.ResolvedPart.TheVariants.{ReadScope, ReadTree}
use Rattle.pq_schema.specs.declared.queries.resolved.ResolvedReference.{ResolvedReference}
use Rattle.pq_schema.specs.declared.scope.scope.FileDefs.{FileDefs}
use Rattle.pq_schema.specs.declared.queries.scopes.ScopePart.{ScopePart}
use Rattle.pq_schema.specs.declared.queries.scopes.ScopePart.TheVariants.{ReadLinks, Collect}

-- one question with its answer, where the key is another's
abbrev asked_one : {K A : Type 0} → K → A → List (K × A)
asked_one k a = (k, a) ∷ []

module _ {K A : Type 0} (items : List ℕ → K) (itemed : A → FileItems) where
  abbrev defs_next : Unit {0} → A → Turn K (Unit {0}) Defs
  defs_next q a = defs_advances (nodes_in (itemed a))

  pub defs_given : (f : List ℕ) (es : List (K × A)) (v : Defs) → Runs defs_next (defs_starts items f) es (Done v) → AreDefsBy items itemed f es v
  unfolding Runs
  defs_given f [] v r = cc
  defs_given f (e ∷ []) v r =
      let asks = r.1 in
      let key : e.0 ≡ items f = cc in
      let last = r.2 in
      let is : v ≡ defs_of (nodes_in (itemed e.1)) = cc in
      (e.1, ap (λ (k : K). asked_one k e.1) key, is)
  defs_given f (e ∷ (d ∷ ds)) v r = let more = r.2.1 in cc

module _ {K A : Type 0} (linked defs : List ℕ → K) (links : A → Links) (defined : A → Defs) where
  abbrev scope_next : ScopePart → A → Turn K ScopePart Scope
  scope_next q a = scope_advances defs (links a) (defined a) q

  collected : (visible left : List (List ℕ)) (files : List FileDefs) (es : List (K × A)) (s : Scope)
      → Runs scope_next (collect_next defs visible left files) es (Done s)
      → (more : List FileDefs) × AsksDefs defs defined left es more × (s ≡ scope_by visible (files ++ more))
  unfolding Runs
  collected visible [] files [] s r = let is : s ≡ scope_by visible files = cc in ([], refl, is ∙ ap (scope_by visible) (sym (append-nil files)))
  collected visible [] files (e ∷ es) s r = let none = r.1 in cc
  collected visible (n ∷ ns) files [] s r = cc
  collected visible (n ∷ ns) files (e ∷ es) s r =
      let asks = r.1 in
      let key : e.0 ≡ defs n = cc in
      let part_is : r.0 ≡ Collect (visible, (n ∷ ns, files)) = cc in
      let here : FileDefs = record { file = n; defs = defined e.1 } in
      let rest = collected visible ns (files ++ here ∷ []) es s (subst (λ (q : ScopePart). Runs scope_next (scope_next q e.1) es (Done s)) part_is r.2) in
      (here ∷ rest.0, (rest.0, key, refl, rest.1), rest.2 ∙ ap (scope_by visible) (append_assoc files (here ∷ []) rest.0))

  pub scope_given : (f : List ℕ) (es : List (K × A)) (s : Scope) → Runs scope_next (scope_starts linked f) es (Done s) → IsScopeBy linked defs links defined f es s
  unfolding Runs
  scope_given f [] s r = cc
  scope_given f (e ∷ es) s r =
      let asks = r.1 in
      let key : e.0 ≡ linked f = cc in
      let part_is : r.0 ≡ ReadLinks = cc in
      let rest = collected (links e.1).visible (links e.1).reach [] es s (subst (λ (q : ScopePart). Runs scope_next (scope_next q e.1) es (Done s)) part_is r.2) in
      (rest.0, key, rest.1, rest.2)

module _ {K A : Type 0} (scope items : List ℕ → K) (scoped : A → Scope) (itemed : A → FileItems) where
  abbrev resolved_next : ResolvedPart → A → Turn K ResolvedPart (List ResolvedReference)
  resolved_next q a = resolved_advances items (scoped a) (nodes_in (itemed a)) q

  abbrev two : K → A → K → A → List (K × A)
  two k a h b = (k, a) ∷ (h, b) ∷ []

  tree_read : (f : List ℕ) (sc : Scope) (es : List (K × A)) (rs : List ResolvedReference) → Runs resolved_next (Ask (items f) (ReadTree sc)) es (Done rs)
      → (b : A) × (es ≡ asked_one (items f) b) × (rs ≡ resolved_by sc (nodes_in (itemed b)))
  unfolding Runs
  tree_read f sc [] rs r = cc
  tree_read f sc (e ∷ []) rs r =
      let asks = r.1 in
      let key : e.0 ≡ items f = cc in
      let part_is : r.0 ≡ ReadTree sc = cc in
      let last : resolved_next (ReadTree sc) e.1 ≡ Done rs = subst (λ (q : ResolvedPart). resolved_next q e.1 ≡ Done rs) part_is r.2 in
      let is : rs ≡ resolved_by sc (nodes_in (itemed e.1)) = cc in
      (e.1, ap (λ (k : K). asked_one k e.1) key, is)
  tree_read f sc (e ∷ (d ∷ ds)) rs r =
      let asks = r.1 in
      let part_is : r.0 ≡ ReadTree sc = cc in
      let next : resolved_next (ReadTree sc) e.1 ≡ Ask d.0 r.2.0 = subst (λ (q : ResolvedPart). resolved_next q e.1 ≡ Ask d.0 r.2.0) part_is r.2.1 in cc

  pub resolved_given : (f : List ℕ) (es : List (K × A)) (rs : List ResolvedReference) → Runs resolved_next (resolved_starts scope f) es (Done rs) → AreResolvedBy scope items scoped itemed f es rs
  unfolding Runs
  resolved_given f [] rs r = cc
  resolved_given f (e ∷ es) rs r =
      let asks = r.1 in
      let key : e.0 ≡ scope f = cc in
      let part_is : r.0 ≡ ReadScope f = cc in
      let rest = tree_read f (scoped e.1) es rs (subst (λ (q : ResolvedPart). Runs resolved_next (resolved_next q e.1) es (Done rs)) part_is r.2) in
      (e.1, rest.0, ap (λ (ds : List (K × A)). e ∷ ds) rest.1 ∙ ap (λ (k : K). two k e.1 (items f) rest.0) key, rest.2)
