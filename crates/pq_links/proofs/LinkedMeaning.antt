-- In every rule set in which the query of links is embedded, and in which the answers of imports
-- are those of a graph, the answer of a file's links is the links of the file, or the cycle of the
-- ring into which the file leads. `LinkedAnswers` has the other direction.
--
-- That a value is the links of a good file goes by induction on right reads (`means_fits`). A key
-- with a cycle waits for the links of an import after good ones, again and again, so walks of every
-- length start at its file.
use Rattle.std.proofs.Common.{◌≡◌, ℕ, zero, suc, ◌+◌, ◌<◌, List, [], ◌∷◌, ◌++◌, map, Option, Some, None, unwrap_or, refl, sym, ap, subst, ◌∙◌, inl, inr, arith, append-nil, append_assoc}
use Rattle.std.specs.Cmp.Lexicographic.{slice_cmp}
use Rattle.std.specs.Ordering.{nat_cmp}
use Rattle.std.specs.declared.cmp.Ordering.TheVariants.{Less}
use Rattle.pq_rules.specs.declared.turn.Turn.{Turn}
use Rattle.pq_rules.specs.declared.turn.Turn.TheVariants.{Ask, Done}
use Rattle.pq_rules.specs.declared.turn.Answer.{Answer}
use Rattle.pq_rules.specs.declared.turn.Answer.TheVariants.{Value, Cycle}
use Rattle.pq_rules.specs.Turns.{Instance}
use Rattle.pq_rules.specs.Relations.{Each, In, Chain, Leads, Round, IsRing, LeadsInto}
use Rattle.pq_rules.specs.Value.{Trace, Means, RightRead, ComesBy, Waits}
use Rattle.pq_rules.proofs.Rings.{Strict}
use Rattle.pq_rules.proofs.Characterisation.{cycle_leads, cycle_waits, cycle_round, means_ring}
use Rattle.pq_rules.proofs.Induction.{means_fits}
use Rattle.pq_rules.specs.Embedding.{Runs}
use Rattle.pq_rules.proofs.Embedded.{done_runs, asks_runs}
use Rattle.pq_links.specs.ImportGraph.{Graph, file_of, imported, Walks, EndsWithin, IsBad, IsGood, IsNext, IsRingOf}
use Rattle.pq_links.specs.Visibility.{links_by, no_links, links_or_none, links_within, AreLinks}
use Rattle.pq_links.proofs.GraphLemmas.{with_links, bound_up, bounds_up}
use Rattle.pq_links.specs.LinkedKeys.{EmbedsLinks, LinkedIs}
use Rattle.pq_links.specs.aux.Queries.{join_next, join_imports, linked_starts, linked_advances}
use Rattle.pq_links.specs.declared.linked.Linking.{Linking}
use Rattle.pq_links.specs.declared.linked.Linking.TheVariants.{Reading, Joining}
use Rattle.pq_links.specs.declared.links.Import.{Import}
use Rattle.pq_links.specs.declared.links.Links.{Links}

module _ {K P V : Type 0} (m : Instance K P V) (g : Graph) (imports : List ℕ → K) (imports_read : Answer K V → Option (List Import)) (level : ℕ)
    (s : EmbedsLinks m g imports imports_read level) where
  abbrev linked : List ℕ → K
  linked = s.linked.key

  abbrev part : Linking → P
  part = s.linked.part

  abbrev value : Links → V
  value = s.linked.value

  abbrev pub advances : Linking → Answer K V → Turn K Linking Links
  advances q a = linked_advances linked (imports_read a) (s.linked.read a) q

  up : 0 < level
  up = let a = s.above [] in omega arith

  -- `IfLinks k a` is that `a` is the links of a file, if it is a value and `k` the key of them
  abbrev pub IfLinks : K → Answer K V → Type 0
  IfLinks k a = (f : List ℕ) (v : V) → k ≡ linked f → a ≡ Value v → (l : Links) × (v ≡ value l) × AreLinks g f l

  -- with the links of the imports that are left, the rule ends in the links by all imports
  joins : (f : List ℕ) (left : List Import) (pairs : List (Import × Links)) (es : Trace K V) (l : Links)
      → Runs advances (join_next linked f left pairs) es (Done l) → Each (RightRead m level) es → Each (λ e. IfLinks e.0 e.1) es
      → (n : ℕ) × Each (EndsWithin g n) (map file_of left) × (l ≡ links_by f (pairs ++ with_links g n left))
  unfolding Runs
  joins f [] pairs [] l r t i = let is : l ≡ links_by f pairs = cc in (0, tt, is ∙ ap (links_by f) (sym (append-nil pairs)))
  joins f [] pairs (e ∷ es) l r t i = let none = r.1 in cc
  joins f (x ∷ xs) pairs [] l r t i = cc
  joins f (x ∷ xs) pairs (e ∷ es) l r t i =
      let asks = r.1 in
      let key : linked x.file ≡ e.0 = cc in
      let part_is : r.0 ≡ Joining f (x ∷ xs, pairs) = cc in
      let at : m.level e.0 ≡ level = subst (λ (k : K). m.level k ≡ level) key (s.linked.embeds.level_is x.file) in
      let v = t.0.value at in
      let got = i.0 x.file v.0 (sym key) v.1 in
      let read : s.linked.read e.1 ≡ got.0 = ap s.linked.read (v.1 ∙ ap (λ (w : V). Value w) got.1) ∙ s.linked.back got.0 in
      let next : Runs advances (advances (Joining f (x ∷ xs, pairs)) e.1) es (Done l) = subst (λ (q : Linking). Runs advances (advances q e.1) es (Done l)) part_is r.2 in
      let on : Runs advances (join_next linked f xs (pairs ++ (x, got.0) ∷ [])) es (Done l) = subst (λ (y : Links). Runs advances (join_next linked f xs (pairs ++ (x, y) ∷ [])) es (Done l)) read next in
      let rest = joins f xs (pairs ++ (x, got.0) ∷ []) es l on t.1 i.1 in
      let n = got.2.0 + rest.0 in
      let head = bound_up g got.2.0 n (omega arith) x.file got.2.1 in
      let tail = bounds_up g rest.0 n (omega arith) xs rest.1 in (
        n,
        (head.0, tail.0),
        rest.2 ∙ ap (links_by f) (append_assoc pairs ((x, got.0) ∷ []) (with_links g rest.0 xs)
            ∙ ap (λ (ys : List (Import × Links)). pairs ++ ys)
            (ap (λ (y : Links). (x, y) ∷ with_links g rest.0 xs) (got.2.2 ∙ sym head.1)
            ∙ ap (λ (ys : List (Import × Links)). (x, links_within g n x.file) ∷ ys) (sym tail.1))),
      )

  ends_by : (f : List ℕ) (o : Option (List Import)) → g f ≡ o → (es : Trace K V) (l : Links)
      → Runs advances (join_imports linked f o) es (Done l) → Each (RightRead m level) es → Each (λ e. IfLinks e.0 e.1) es → AreLinks g f l
  unfolding Runs EndsWithin links_within
  ends_by f None h [] l r t i =
      let is : l ≡ no_links = cc in (
        1,
        subst (λ (o : Option (List Import)). Each (EndsWithin g 0) (map file_of (unwrap_or o []))) (sym h) tt,
        is ∙ ap (λ (o : Option (List Import)). links_or_none f (λ j. links_within g 0 j.file) o) (sym h),
      )
  ends_by f None h (e ∷ es) l r t i = let none = r.1 in cc
  ends_by f (Some is) h es l r t i =
      let j = joins f is [] es l r t i in (
        suc j.0,
        subst (λ (o : Option (List Import)). Each (EndsWithin g j.0) (map file_of (unwrap_or o []))) (sym h) j.1,
        j.2 ∙ ap (λ (o : Option (List Import)). links_or_none f (λ x. links_within g j.0 x.file) o) (sym h),
      )

  -- with right answers the rule ends in the links of the file
  ends : (f : List ℕ) (es : Trace K V) (l : Links)
      → Runs advances (linked_starts imports f) es (Done l) → Each (RightRead m level) es → Each (λ e. IfLinks e.0 e.1) es → AreLinks g f l
  unfolding Runs
  ends f [] l r t i = cc
  ends f (e ∷ es) l r t i =
      let asks = r.1 in
      let key : imports f ≡ e.0 = cc in
      let part_is : r.0 ≡ Reading f = cc in
      let read : imports_read e.1 ≡ g f = s.graph_is f e.1 (subst (λ (k : K). Means m k e.1) (sym key) t.0.means) in
      let next : Runs advances (advances (Reading f) e.1) es (Done l) = subst (λ (q : Linking). Runs advances (advances q e.1) es (Done l)) part_is r.2 in
      ends_by f (g f) refl es l (subst (λ (o : Option (List Import)). Runs advances (join_imports linked f o) es (Done l)) read next) t.1 i.1

  pub values_are_links : (k : K) (a : Answer K V) → Means m k a → IfLinks k a
  values_are_links = means_fits m IfLinks
      (λ k at f v e h. absurd (let l : m.level k ≡ level = ap m.level e ∙ s.linked.embeds.level_is f in let u = up in omega arith))
      (λ k v es c i f w e h.
      let of_file : ComesBy m (linked f) es (Done v) = subst (λ (x : K). ComesBy m x es (Done v)) e c in
      let r = done_runs m linked part value level (linked_starts imports) advances s.linked.embeds f es v of_file in
      let same : v ≡ w = cc in
      (r.0, sym same ∙ r.2, ends f es r.0 r.1 r.3 i))
      (λ k ring h f v e x. cc)

  -- a question for the links of an import comes after those before it, which are good files
  joins_asks : (f : List ℕ) (left : List Import) (pairs : List (Import × Links)) (es : Trace K V) (k : K) (q : Linking)
      → Runs advances (join_next linked f left pairs) es (Ask k q) → Each (RightRead m level) es
      → (before : List (List ℕ)) × (h : List ℕ) × (after : List (List ℕ)) × (map file_of left ≡ before ++ h ∷ after) × (k ≡ linked h) × Each (IsGood g) before
  unfolding Runs
  joins_asks f [] pairs [] k q r t = cc
  joins_asks f [] pairs (e ∷ es) k q r t = let none = r.1 in cc
  joins_asks f (x ∷ xs) pairs [] k q r t = let key : k ≡ linked x.file = cc in ([], x.file, map file_of xs, refl, key, tt)
  joins_asks f (x ∷ xs) pairs (e ∷ es) k q r t =
      let asks = r.1 in
      let key : linked x.file ≡ e.0 = cc in
      let part_is : r.0 ≡ Joining f (x ∷ xs, pairs) = cc in
      let at : m.level e.0 ≡ level = subst (λ (y : K). m.level y ≡ level) key (s.linked.embeds.level_is x.file) in
      let v = t.0.value at in
      let got = values_are_links e.0 e.1 t.0.means x.file v.0 (sym key) v.1 in
      let on : Runs advances (advances (Joining f (x ∷ xs, pairs)) e.1) es (Ask k q) = subst (λ (y : Linking). Runs advances (advances y e.1) es (Ask k q)) part_is r.2 in
      let rest = joins_asks f xs (pairs ++ (x, s.linked.read e.1) ∷ []) es k q on t.1 in
      (x.file ∷ rest.0, rest.1, rest.2, ap (λ (ys : List (List ℕ)). x.file ∷ ys) rest.3, rest.4, ((got.2.0, got.2.1), rest.5))

  asks_by : (f : List ℕ) (o : Option (List Import)) → (es : Trace K V) (k : K) (q : Linking)
      → Runs advances (join_imports linked f o) es (Ask k q) → Each (RightRead m level) es
      → (before : List (List ℕ)) × (h : List ℕ) × (after : List (List ℕ)) × (map file_of (unwrap_or o []) ≡ before ++ h ∷ after) × (k ≡ linked h) × Each (IsGood g) before
  unfolding Runs
  asks_by f None [] k q r t = cc
  asks_by f None (e ∷ es) k q r t = let none = r.1 in cc
  asks_by f (Some is) es k q r t = joins_asks f is [] es k q r t

  -- the links of a file wait for those of an import after good ones
  waits_for : (f : List ℕ) (k : K) → Waits m (linked f) k
      → (before : List (List ℕ)) × (h : List ℕ) × (after : List (List ℕ)) × (imported g f ≡ before ++ h ∷ after) × (k ≡ linked h) × Each (IsGood g) before
  unfolding Waits Runs
  waits_for f k w =
      let r = asks_runs m linked part value level (linked_starts imports) advances s.linked.embeds f k w.1.0 w.1.1 in
      by_trace r.0 r.1 r.2 r.4
    where
      by_trace : (es : Trace K V) (q : Linking) → Runs advances (linked_starts imports f) es (Ask k q) → Each (RightRead m level) es
          → (before : List (List ℕ)) × (h : List ℕ) × (after : List (List ℕ)) × (imported g f ≡ before ++ h ∷ after) × (k ≡ linked h) × Each (IsGood g) before
      by_trace [] q r t =
          let key : k ≡ imports f = cc in
          let low = s.above f in
          let same : m.level (imports f) ≡ level = ap m.level (sym key) ∙ w.0 ∙ s.linked.embeds.level_is f in
          absurd (omega arith)
      by_trace (e ∷ es) q r t =
          let asks = r.1 in
          let key : imports f ≡ e.0 = cc in
          let part_is : r.0 ≡ Reading f = cc in
          let read : imports_read e.1 ≡ g f = s.graph_is f e.1 (subst (λ (y : K). Means m y e.1) (sym key) t.0.means) in
          let next : Runs advances (advances (Reading f) e.1) es (Ask k q) = subst (λ (y : Linking). Runs advances (advances y e.1) es (Ask k q)) part_is r.2 in
          asks_by f (g f) es k q (subst (λ (o : Option (List Import)). Runs advances (join_imports linked f o) es (Ask k q)) read next) t.1

  in_middle : (before after : List (List ℕ)) (h : List ℕ) → In h (before ++ h ∷ after)
  in_middle [] after h = inl refl
  in_middle (x ∷ xs) after h = inr (in_middle xs after h)

  level_up : (f : List ℕ) → 0 < m.level (linked f)
  level_up f = subst (λ (i : ℕ). 0 < i) (sym (s.linked.embeds.level_is f)) up

  -- walks of every length start at a file with a cycle
  cycle_walks : (n : ℕ) (f : List ℕ) (r : List K) → Means m (linked f) (Cycle r) → Walks g n f
  unfolding Walks
  cycle_walks zero f r c = tt
  cycle_walks (suc n) f r c =
      let w = cycle_waits m (linked f) r (level_up f) c in
      let a = waits_for f w.0 w.1 in (
        a.1,
        subst (λ (hs : List (List ℕ)). In a.1 hs) (sym a.3) (in_middle a.0 a.2 a.1),
        cycle_walks n a.1 r (subst (λ (k : K). Means m k (Cycle r)) a.4 w.2),
      )

  pub cycle_bad : (f : List ℕ) (r : List K) → Means m (linked f) (Cycle r) → IsBad g f
  cycle_bad f r c n = cycle_walks n f r c

  walks_before : (f h : List ℕ) → IsBad g h → In h (imported g f) → IsBad g f
  unfolding Walks
  walks_before f h bad i zero = tt
  walks_before f h bad i (suc n) = (h, i, bad n)

  -- where links wait for each other up to those of a bad file, the files lead to it by next files
  chain_next : (f : List ℕ) (xs : List K) (z : List ℕ) → Chain (Waits m) (linked f) xs (linked z) → IsBad g z
      → (ys : List (List ℕ)) × (xs ≡ map linked ys) × Chain (IsNext g) f ys z × IsBad g f
  unfolding Chain
  chain_next f [] z c bad =
      let a = waits_for f (linked z) c in
      let here : a.1 ≡ z = sym (s.one z a.1 a.4) in
      let split : imported g f ≡ a.0 ++ z ∷ a.2 = a.3 ∙ ap (λ (h : List ℕ). a.0 ++ h ∷ a.2) here in
      ([], refl, (a.0, a.2, split, a.5, bad), walks_before f z bad (subst (λ (hs : List (List ℕ)). In z hs) (sym split) (in_middle a.0 a.2 z)))
  chain_next f (x ∷ xs) z c bad =
      let a = waits_for f x c.0 in
      let rest = chain_next a.1 xs z (subst (λ (k : K). Chain (Waits m) k xs (linked z)) a.4 c.1) bad in (
        a.1 ∷ rest.0,
        ap (λ (k : K). k ∷ xs) a.4 ∙ ap (λ (ks : List K). linked a.1 ∷ ks) rest.1,
        ((a.0, a.2, a.3, a.5, rest.3), rest.2),
        walks_before f a.1 rest.3 (subst (λ (hs : List (List ℕ)). In a.1 hs) (sym a.3) (in_middle a.0 a.2 a.1)),
      )

  -- links wait for links alone
  chain_end : (f : List ℕ) (xs : List K) (z : K) → Chain (Waits m) (linked f) xs z → (h : List ℕ) × (z ≡ linked h)
  unfolding Chain
  chain_end f [] z c = let a = waits_for f z c in (a.1, a.4)
  chain_end f (x ∷ xs) z c =
      let a = waits_for f x c.0 in chain_end a.1 xs z (subst (λ (k : K). Chain (Waits m) k xs z) a.4 c.1)

  least_name : (z : List ℕ) (zs : List (List ℕ)) → Each (λ k. m.order (linked z) k ≡ Less) (map linked zs) → Each (λ y. slice_cmp nat_cmp z y ≡ Less) zs
  least_name z [] e = tt
  least_name z (y ∷ ys) e = (sym (s.order_is z y) ∙ e.0, least_name z ys e.1)

  -- the cycle of a file's links is of the links of the ring into which the file leads
  pub cycle_is_ring : Strict m.order → (f : List ℕ) (r : List K) → Means m (linked f) (Cycle r)
      → (ring : List (List ℕ)) × (r ≡ map linked ring) × IsRingOf g f ring
  unfolding IsRing LeadsInto Leads Round
  cycle_is_ring strict f r c = by_ring r c (cycle_round m (linked f) r (level_up f) c) (cycle_leads m (linked f) r (level_up f) c)
    where
      of_first : (z : List ℕ) (zs : List K) → Means m (linked f) (Cycle (linked z ∷ zs))
          → Chain (Waits m) (linked z) zs (linked z) → Each (λ x. m.order (linked z) x ≡ Less) zs
          → Leads (Waits m) (linked f) (linked z)
          → (ring : List (List ℕ)) × (linked z ∷ zs ≡ map linked ring) × IsRingOf g f ring
      of_first z zs c round least leads =
          let bad : IsBad g z = cycle_bad z (linked z ∷ zs) (means_ring m strict (linked z) zs (level_up z) round least (linked z) (inl refl)) in
          let n = chain_next z zs z round bad in
          let order = least_name z n.0 (subst (Each (λ x. m.order (linked z) x ≡ Less)) n.1 least) in (
            z ∷ n.0,
            ap (λ (ks : List K). linked z ∷ ks) n.1,
            (
              (n.2, order),
              elim leads [
                | inl e ↦ inl (s.one f z e)
                | inr w ↦ (let x = chain_next f w.0 z w.1 bad in inr (x.0, x.2))
              ],
            ),
          )

      first_name : (z : K) → Leads (Waits m) (linked f) z → (h : List ℕ) × (z ≡ linked h)
      first_name z (inl e) = (f, sym e)
      first_name z (inr w) = chain_end f w.0 z w.1

      by_ring : (r : List K) → Means m (linked f) (Cycle r) → IsRing m.order (Waits m) r → LeadsInto (Waits m) (linked f) r
          → (ring : List (List ℕ)) × (r ≡ map linked ring) × IsRingOf g f ring
      by_ring [] c round leads = absurd round
      by_ring (z ∷ zs) c round leads =
          let h = first_name z leads in
          let is : z ∷ zs ≡ linked h.0 ∷ zs = ap (λ (k : K). k ∷ zs) h.1 in
          let x = of_first h.0 zs (subst (λ (ks : List K). Means m (linked f) (Cycle ks)) is c)
          (subst (λ (k : K). Chain (Waits m) k zs k) h.1 round.0)
          (subst (λ (k : K). Each (λ y. m.order k y ≡ Less) zs) h.1 round.1)
          (subst (λ (k : K). Leads (Waits m) (linked f) k) h.1 leads) in
          (x.0, is ∙ x.1, x.2)

  -- each answer of a file's links is what the graph says
  pub linked_is : Strict m.order → (f : List ℕ) (a : Answer K V) → Means m (linked f) a → LinkedIs g linked value f a
  linked_is strict f (Value v) h = values_are_links (linked f) (Value v) h f v refl refl
  linked_is strict f (Cycle r) h = cycle_is_ring strict f r h
