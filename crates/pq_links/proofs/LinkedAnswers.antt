-- The other direction of `LinkedMeaning`: the links of a good file are the value of its links in
-- every such rule set, and the ring of a bad file is their cycle.
use Rattle.std.proofs.Common.{◌≡◌, ℕ, zero, suc, ◌<◌, List, [], ◌∷◌, ◌++◌, map, Option, Some, None, unwrap_or, refl, sym, ap, subst, ◌∙◌, inl, inr, arith, append-nil, append_assoc}
use Rattle.std.specs.Cmp.Lexicographic.{slice_cmp}
use Rattle.std.specs.Ordering.{nat_cmp}
use Rattle.std.specs.declared.cmp.Ordering.TheVariants.{Less}
use Rattle.pq_rules.specs.declared.turn.Turn.{Turn}
use Rattle.pq_rules.specs.declared.turn.Turn.TheVariants.{Ask, Done}
use Rattle.pq_rules.specs.declared.turn.Answer.{Answer}
use Rattle.pq_rules.specs.declared.turn.Answer.TheVariants.{Value, Cycle}
use Rattle.pq_rules.specs.Turns.{Instance}
use Rattle.pq_rules.specs.Relations.{Each, Chain, Leads, Round, IsRing, LeadsInto}
use Rattle.pq_rules.specs.Value.{Means, RightRead, ComesTo, Waits}
use Rattle.pq_rules.proofs.Rings.{Strict}
use Rattle.pq_rules.proofs.Characterisation.{comes_start, comes_on, means_done, means_ring, means_passed}
use Rattle.pq_rules.specs.Embedding.{embedded}
use Rattle.pq_links.specs.ImportGraph.{Graph, file_of, imported, EndsWithin, IsGood, IsNext, IsRingOf}
use Rattle.pq_links.specs.Visibility.{links_by, links_or_none, links_within}
use Rattle.pq_links.proofs.GraphLemmas.{with_links}
use Rattle.pq_links.specs.aux.Queries.{join_next, join_imports}
use Rattle.pq_links.specs.declared.linked.Linking.{Linking}
use Rattle.pq_links.specs.declared.linked.Linking.TheVariants.{Reading, Joining}
use Rattle.pq_links.specs.LinkedKeys.{EmbedsLinks, LinkedIs}
use Rattle.pq_links.specs.declared.links.Import.{Import}
use Rattle.pq_links.specs.declared.links.Links.{Links}

module _ {K P V : Type 0} (m : Instance K P V) (g : Graph) (imports : List ℕ → K) (imports_read : Answer K V → Option (List Import)) (level : ℕ)
    (s : EmbedsLinks m g imports imports_read level)
    (have_imports : (f : List ℕ) → (a : Answer K V) × Means m (imports f) a) where
  abbrev linked : List ℕ → K
  linked = s.linked.key

  abbrev part : Linking → P
  part = s.linked.part

  abbrev value : Links → V
  value = s.linked.value

  -- `Has n f` is that the links of the file `f`, with walks shorter than `n`, are its value
  Has : ℕ → List ℕ → Type 0
  Has n f = Means m (linked f) (Value (value (links_within g n f)))

  abbrev turn : Turn K Linking Links → Turn K P V
  turn = embedded part value

  right_links : (f h : List ℕ) (l : Links) → Means m (linked h) (Value (value l)) → RightRead m (m.level (linked f)) (linked h, Value (value l))
  right_links f h l c =
      let same : m.level (linked h) ≡ m.level (linked f) = s.linked.embeds.level_is h ∙ sym (s.linked.embeds.level_is f) in
      record { no_higher = omega arith; means = c; value = λ e. (value l, refl) }

  -- after the links of an import the rule goes on to the next
  join_on : (f : List ℕ) (x : Import) (xs : List Import) (pairs : List (Import × Links)) (l : Links)
      → ComesTo m (linked f) (turn (join_next linked f (x ∷ xs) pairs)) → Means m (linked x.file) (Value (value l))
      → ComesTo m (linked f) (turn (join_next linked f xs (pairs ++ (x, l) ∷ [])))
  join_on f x xs pairs l c h =
      let q = Joining f (x ∷ xs, pairs) in
      let a : Answer K V = Value (value l) in
      let on : ComesTo m (linked f) (m.advance (part q) a) = comes_on m (linked f) (linked x.file) (part q) a c (right_links f x.file l h) in
      let to : ComesTo m (linked f) (turn (join_next linked f xs (pairs ++ (x, s.linked.read a) ∷ []))) = subst (ComesTo m (linked f)) (s.linked.embeds.advance_is q a) on in
      subst (λ (y : Links). ComesTo m (linked f) (turn (join_next linked f xs (pairs ++ (x, y) ∷ [])))) (s.linked.back l) to

  join_done : (f : List ℕ) (n : ℕ) (left : List Import) (pairs : List (Import × Links))
      → Each (λ h. Means m (linked h) (Value (value (links_within g n h)))) (map file_of left)
      → ComesTo m (linked f) (turn (join_next linked f left pairs))
      → ComesTo m (linked f) (Done (value (links_by f (pairs ++ with_links g n left))))
  join_done f n [] pairs h c = subst (λ (ys : List (Import × Links)). ComesTo m (linked f) (Done (value (links_by f ys)))) (sym (append-nil pairs)) c
  join_done f n (x ∷ xs) pairs h c =
      let l = links_within g n x.file in
      let d = join_done f n xs (pairs ++ (x, l) ∷ []) h.1 (join_on f x xs pairs l c h.0) in
      subst (λ (ys : List (Import × Links)). ComesTo m (linked f) (Done (value (links_by f ys)))) (append_assoc pairs ((x, l) ∷ []) (with_links g n xs)) d

  -- after the imports of its file the rule goes on to the first
  read_imports : (f : List ℕ) → ComesTo m (linked f) (turn (join_imports linked f (g f)))
  read_imports f =
      let i = have_imports f in
      let low = s.above f in
      let here = s.linked.embeds.level_is f in
      let first : ComesTo m (linked f) (Ask (imports f) (part (Reading f))) = subst (ComesTo m (linked f)) (s.linked.embeds.start_is f) (comes_start m (linked f)) in
      let right : RightRead m (m.level (linked f)) (imports f, i.0) = record { no_higher = omega arith; means = i.1; value = λ e. absurd (omega arith) } in
      let on : ComesTo m (linked f) (m.advance (part (Reading f)) i.0) = comes_on m (linked f) (imports f) (part (Reading f)) i.0 first right in
      let to : ComesTo m (linked f) (turn (join_imports linked f (imports_read i.0))) = subst (ComesTo m (linked f)) (s.linked.embeds.advance_is (Reading f) i.0) on in
      subst (λ (o : Option (List Import)). ComesTo m (linked f) (turn (join_imports linked f o))) (s.graph_is f i.0 i.1) to

  done_by : (f : List ℕ) (n : ℕ) (o : Option (List Import))
      → Each (λ h. Means m (linked h) (Value (value (links_within g n h)))) (map file_of (unwrap_or o []))
      → ComesTo m (linked f) (turn (join_imports linked f o))
      → ComesTo m (linked f) (Done (value (links_or_none f (λ i. links_within g n i.file) o)))
  done_by f n None h c = c
  done_by f n (Some is) h c = join_done f n is [] h c

  good_each : (n : ℕ) → ((f : List ℕ) → EndsWithin g n f → Has n f) → (fs : List (List ℕ)) → Each (EndsWithin g n) fs → Each (λ h. Means m (linked h) (Value (value (links_within g n h)))) fs
  unfolding Has
  good_each n h [] e = tt
  good_each n h (f ∷ fs) e = (h f e.0, good_each n h fs e.1)

  -- the value of a good file's links is its links
  pub good_means : (n : ℕ) (f : List ℕ) → EndsWithin g n f → Means m (linked f) (Value (value (links_within g n f)))
  unfolding EndsWithin links_within Has
  good_means zero f e = absurd e
  good_means (suc n) f e =
      means_done m (linked f) (value (links_within g (suc n) f)) (subst (λ (i : ℕ). 0 < i) (sym (s.linked.embeds.level_is f)) (let a = s.above [] in omega arith))
      (done_by f n (g f) (good_each n (good_means n) (imported g f) e) (read_imports f))

  asks_behind : (f : List ℕ) (left : List Import) (pairs : List (Import × Links)) (before : List (List ℕ)) (h : List ℕ) (after : List (List ℕ))
      → map file_of left ≡ before ++ h ∷ after → Each (IsGood g) before → ComesTo m (linked f) (turn (join_next linked f left pairs))
      → (p : P) × ComesTo m (linked f) (Ask (linked h) p)
  asks_behind f [] pairs [] h after e good c = cc
  asks_behind f [] pairs (b ∷ bs) h after e good c = cc
  asks_behind f (x ∷ xs) pairs [] h after e good c =
      let here : x.file ≡ h = cc in
      (part (Joining f (x ∷ xs, pairs)), subst (λ (y : List ℕ). ComesTo m (linked f) (Ask (linked y) (part (Joining f (x ∷ xs, pairs))))) here c)
  asks_behind f (x ∷ xs) pairs (b ∷ bs) h after e good c =
      let here : b ≡ x.file = cc in
      let rest : map file_of xs ≡ bs ++ h ∷ after = cc in
      let n = good.0.0 in
      let means : Means m (linked x.file) (Value (value (links_within g n x.file))) = good_means n x.file (subst (EndsWithin g n) here good.0.1) in
      asks_behind f xs (pairs ++ (x, links_within g n x.file) ∷ []) bs h after rest good.1 (join_on f x xs pairs (links_within g n x.file) c means)

  asks_next : (f : List ℕ) (o : Option (List Import)) (before : List (List ℕ)) (h : List ℕ) (after : List (List ℕ))
      → map file_of (unwrap_or o []) ≡ before ++ h ∷ after → Each (IsGood g) before → ComesTo m (linked f) (turn (join_imports linked f o))
      → (p : P) × ComesTo m (linked f) (Ask (linked h) p)
  asks_next f None [] h after e good c = cc
  asks_next f None (b ∷ bs) h after e good c = cc
  asks_next f (Some is) before h after e good c = asks_behind f is [] before h after e good c

  -- the links of a file wait for those of its next file
  next_waits : (f h : List ℕ) → IsNext g f h → Waits m (linked f) (linked h)
  unfolding Waits
  next_waits f h n = (s.linked.embeds.level_is h ∙ sym (s.linked.embeds.level_is f), asks_next f (g f) n.0 h n.1 n.2 n.3 (read_imports f))

  chain_waits : (f : List ℕ) (xs : List (List ℕ)) (z : List ℕ) → Chain (IsNext g) f xs z → Chain (Waits m) (linked f) (map linked xs) (linked z)
  unfolding Chain
  chain_waits f [] z c = next_waits f z c
  chain_waits f (x ∷ xs) z c = (next_waits f x c.0, chain_waits x xs z c.1)

  least_key : (z : List ℕ) (zs : List (List ℕ)) → Each (λ y. slice_cmp nat_cmp z y ≡ Less) zs → Each (λ k. m.order (linked z) k ≡ Less) (map linked zs)
  least_key z [] e = tt
  least_key z (y ∷ ys) e = (s.order_is z y ∙ e.0, least_key z ys e.1)

  passes_on : Strict m.order → (f : List ℕ) (xs : List (List ℕ)) (z : List ℕ) (r : List K) → Means m (linked z) (Cycle r) → Chain (IsNext g) f xs z → Means m (linked f) (Cycle r)
  unfolding Chain
  passes_on strict f [] z r h c = means_passed m strict (linked f) (linked z) r (subst (λ (i : ℕ). 0 < i) (sym (s.linked.embeds.level_is f)) (let a = s.above [] in omega arith)) (next_waits f z c) h
  passes_on strict f (x ∷ xs) z r h c =
      means_passed m strict (linked f) (linked x) r (subst (λ (i : ℕ). 0 < i) (sym (s.linked.embeds.level_is f)) (let a = s.above [] in omega arith)) (next_waits f x c.0) (passes_on strict x xs z r h c.1)

  -- the ring into which a bad file leads is the cycle of its links
  pub ring_means : Strict m.order → (f : List ℕ) (ring : List (List ℕ)) → IsRingOf g f ring → Means m (linked f) (Cycle (map linked ring))
  unfolding IsRing LeadsInto Leads Round
  ring_means strict f [] i = absurd i.0
  ring_means strict f (z ∷ zs) i =
      let first : Means m (linked z) (Cycle (linked z ∷ map linked zs)) =
      means_ring m strict (linked z) (map linked zs) (subst (λ (j : ℕ). 0 < j) (sym (s.linked.embeds.level_is z)) (let a = s.above [] in omega arith))
      (chain_waits z zs z i.0.0) (least_key z zs i.0.1) (linked z) (inl refl) in
      elim i.1 [
        | inl e ↦ subst (λ (y : List ℕ). Means m (linked y) (Cycle (linked z ∷ map linked zs))) (sym e) first
        | inr c ↦ passes_on strict f c.0 z (linked z ∷ map linked zs) first c.1
      ]

  -- what the graph says of a file's links is an answer of them
  pub is_linked : Strict m.order → (f : List ℕ) (a : Answer K V) → LinkedIs g linked value f a → Means m (linked f) a
  is_linked strict f (Value v) i =
      subst (λ (w : V). Means m (linked f) (Value w)) (sym (i.1 ∙ ap value i.2.2)) (good_means i.2.0 f i.2.1)
  is_linked strict f (Cycle r) i =
      subst (λ (ks : List K). Means m (linked f) (Cycle ks)) (sym i.1) (ring_means strict f i.0 i.2)
