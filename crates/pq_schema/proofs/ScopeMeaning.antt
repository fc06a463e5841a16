-- In every rule set in which the query of scopes is embedded, and in which the answers of
-- definitions are known, the answer of a file's scope is the scope by the answer of its links.
use Rattle.std.proofs.Common.{◌≡◌, ℕ, ◌<◌, List, [], ◌∷◌, ◌++◌, map, refl, sym, ap, subst, ◌∙◌, arith, append-nil, append_assoc}
use Rattle.pq_rules.specs.declared.turn.Turn.{Turn}
use Rattle.pq_rules.specs.declared.turn.Turn.TheVariants.{Ask, Done}
use Rattle.pq_rules.specs.declared.turn.Answer.{Answer}
use Rattle.pq_rules.specs.declared.turn.Answer.TheVariants.{Value}
use Rattle.pq_rules.specs.Turns.{Instance}
use Rattle.pq_rules.specs.Relations.{Each}
use Rattle.pq_rules.specs.Value.{Trace, Means}
use Rattle.pq_rules.specs.Embedding.{Runs, Embeds}
use Rattle.pq_rules.proofs.LowerReads.{lower_runs, runs_mean}
use Rattle.pq_links.specs.declared.links.Links.{Links}
use Rattle.pq_schema.specs.Contents.{Defs}
use Rattle.pq_schema.specs.ScopeContents.{Scope}
use Rattle.pq_schema.specs.Compile.{with_defs}
use Rattle.pq_schema.specs.Answers.{scope_by}
use Rattle.pq_schema.specs.aux.Queries.{collect_next, scope_starts, scope_advances}
use Rattle.pq_schema.specs.declared.scope.scope.FileDefs.{FileDefs}
use Rattle.pq_schema.specs.declared.queries.scopes.ScopePart.{ScopePart}
use Rattle.pq_schema.specs.declared.queries.scopes.ScopePart.TheVariants.{ReadLinks, Collect}

module _ {K P V : Type 0} (m : Instance K P V) (linked defs scope : List ℕ → K) (part : ScopePart → P) (value : Scope → V)
    (links_read : Answer K V → Links) (defs_read : Answer K V → Defs) (defined : List ℕ → Defs) (level : ℕ)
    (s : Embeds m scope part value level (scope_starts linked) (λ q a. scope_advances defs (links_read a) (defs_read a) q))
    (defs_are : (f : List ℕ) (a : Answer K V) → Means m (defs f) a → defs_read a ≡ defined f)
    (above_links : (f : List ℕ) → m.level (linked f) < level) (above_defs : (f : List ℕ) → m.level (defs f) < level) where
  abbrev advances : ScopePart → Answer K V → Turn K ScopePart Scope
  advances q a = scope_advances defs (links_read a) (defs_read a) q

  -- `with_file files n d` is `files` and the file `n` with the definitions `d`
  abbrev with_file : List FileDefs → List ℕ → Defs → List FileDefs
  with_file files n d = files ++ record { file = n; defs = d } ∷ []

  up : 0 < level
  up = let x = above_links [] in omega arith

  one_more : (visible : List (List ℕ)) (files : List FileDefs) (n : List ℕ) (ns : List (List ℕ)) (d : Defs) → d ≡ defined n
      → scope_by visible (with_file files n d ++ map (with_defs defined) ns) ≡ scope_by visible (files ++ map (with_defs defined) (n ∷ ns))
  one_more visible files n ns d e =
      ap (scope_by visible) (append_assoc files (record { file = n; defs = d } ∷ []) (map (with_defs defined) ns)
      ∙ ap (λ (x : Defs). files ++ record { file = n; defs = x } ∷ map (with_defs defined) ns) e)

  -- with right answers the rule ends in the scope by the files that are left
  collects : (visible left : List (List ℕ)) (files : List FileDefs) (es : Trace K V) (w : Scope)
      → Runs advances (collect_next defs visible left files) es (Done w) → Each (λ e. Means m e.0 e.1) es
      → w ≡ scope_by visible (files ++ map (with_defs defined) left)
  unfolding Runs
  collects visible [] files [] w r t = let is : w ≡ scope_by visible files = cc in is ∙ ap (scope_by visible) (sym (append-nil files))
  collects visible [] files (e ∷ es) w r t = let none = r.1 in cc
  collects visible (n ∷ ns) files [] w r t = cc
  collects visible (n ∷ ns) files (e ∷ es) w r t =
      let asks = r.1 in
      let key : defs n ≡ e.0 = cc in
      let part_is : r.0 ≡ Collect (visible, (n ∷ ns, files)) = cc in
      let read : defs_read e.1 ≡ defined n = defs_are n e.1 (subst (λ (k : K). Means m k e.1) (sym key) t.0) in
      let next : Runs advances (advances (Collect (visible, (n ∷ ns, files))) e.1) es (Done w) = subst (λ (q : ScopePart). Runs advances (advances q e.1) es (Done w)) part_is r.2 in
      collects visible ns (with_file files n (defs_read e.1)) es w next t.1 ∙ one_more visible files n ns (defs_read e.1) read

  collect_asks : (visible left : List (List ℕ)) (files : List FileDefs) (es : Trace K V) (k : K) (q : ScopePart)
      → Runs advances (collect_next defs visible left files) es (Ask k q) → m.level k < level
  unfolding Runs
  collect_asks visible [] files [] k q r = cc
  collect_asks visible [] files (e ∷ es) k q r = let none = r.1 in cc
  collect_asks visible (n ∷ ns) files [] k q r =
      let key : defs n ≡ k = cc in subst (λ (x : K). m.level x < level) key (above_defs n)
  collect_asks visible (n ∷ ns) files (e ∷ es) k q r =
      let asks = r.1 in
      let part_is : r.0 ≡ Collect (visible, (n ∷ ns, files)) = cc in
      collect_asks visible ns (with_file files n (defs_read e.1)) es k q
      (subst (λ (y : ScopePart). Runs advances (advances y e.1) es (Ask k q)) part_is r.2)

  -- the rule asks keys of lower levels alone
  lower : (f : List ℕ) (es : Trace K V) (k : K) (q : ScopePart) → Runs advances (scope_starts linked f) es (Ask k q) → m.level k < level
  unfolding Runs
  lower f [] k q r = let key : linked f ≡ k = cc in subst (λ (x : K). m.level x < level) key (above_links f)
  lower f (e ∷ es) k q r =
      let asks = r.1 in
      let part_is : r.0 ≡ ReadLinks = cc in
      collect_asks (links_read e.1).visible (links_read e.1).reach [] es k q (subst (λ (y : ScopePart). Runs advances (advances y e.1) es (Ask k q)) part_is r.2)

  -- `scope_with b` is the scope of a file by the answer `b` of its links
  abbrev pub scope_with : Answer K V → Scope
  scope_with b = scope_by (links_read b).visible (map (with_defs defined) (links_read b).reach)

  ends : (f : List ℕ) (es : Trace K V) (w : Scope) → Runs advances (scope_starts linked f) es (Done w) → Each (λ e. Means m e.0 e.1) es
      → (b : Answer K V) × Means m (linked f) b × (w ≡ scope_with b)
  unfolding Runs
  ends f [] w r t = cc
  ends f (e ∷ es) w r t =
      let asks = r.1 in
      let key : linked f ≡ e.0 = cc in
      let part_is : r.0 ≡ ReadLinks = cc in (
        e.1,
        subst (λ (k : K). Means m k e.1) (sym key) t.0,
        collects (links_read e.1).visible (links_read e.1).reach [] es w (subst (λ (y : ScopePart). Runs advances (advances y e.1) es (Done w)) part_is r.2) t.1,
      )

  -- the answer of a file's scope is its scope by an answer of its links
  pub scope_is : (f : List ℕ) (a : Answer K V) → Means m (scope f) a
      → (b : Answer K V) × Means m (linked f) b × (a ≡ Value (value (scope_with b)))
  scope_is f a h =
      let r = lower_runs m scope part value level (scope_starts linked) advances s up lower f a h in
      let e = ends f r.0 r.1 r.2 r.4 in
      (e.0, e.1, r.3 ∙ ap (λ (w : Scope). Value (value w)) e.2)

  module _ (have : (f : List ℕ) → (a : Answer K V) × Means m (defs f) a) where
    reads : List (List ℕ) → Trace K V
    reads [] = []
    reads (n ∷ ns) = (defs n, (have n).0) ∷ reads ns

    reads_mean : (ns : List (List ℕ)) → Each (λ e. (m.level e.0 < level) × Means m e.0 e.1) (reads ns)
    unfolding reads
    reads_mean [] = tt
    reads_mean (n ∷ ns) = ((above_defs n, (have n).1), reads_mean ns)

    collect_runs : (visible left : List (List ℕ)) (files : List FileDefs)
        → Runs advances (collect_next defs visible left files) (reads left) (Done (scope_by visible (files ++ map (with_defs defined) left)))
    unfolding Runs reads
    collect_runs visible [] files = ap (λ (fs : List FileDefs). Done (scope_by visible fs)) (sym (append-nil files))
    collect_runs visible (n ∷ ns) files =
        let a = (have n).0 in
        let read : defs_read a ≡ defined n = defs_are n a (have n).1 in
        let next = collect_runs visible ns (with_file files n (defs_read a)) in (
          Collect (visible, (n ∷ ns, files)),
          refl,
          subst (λ (w : Scope). Runs advances (collect_next defs visible ns (with_file files n (defs_read a))) (reads ns) (Done w)) (one_more visible files n ns (defs_read a) read) next,
        )

    -- the scope of a file by an answer of its links is the answer of the file's scope
    pub is_scope : (f : List ℕ) (b : Answer K V) → Means m (linked f) b → Means m (scope f) (Value (value (scope_with b)))
    unfolding Runs
    is_scope f b h =
        let l = links_read b in
        runs_mean m scope part value level (scope_starts linked) advances s up lower f ((linked f, b) ∷ reads l.reach) (scope_with b)
        (ReadLinks, refl, collect_runs l.visible l.reach []) ((above_links f, h), reads_mean l.reach)
