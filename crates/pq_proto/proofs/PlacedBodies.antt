-- The nested bodies of a file whose depths rise by one at most have its places.
--
-- Before the statements `nodes`, the bodies of the depths from some depth down to 0 are open: the
-- statements belong to these, the deepest body first.
use Rattle.std.proofs.Common.{◌≡◌, ◌⊎◌, ℕ, zero, suc, ◌<◌, ◌≤◌, true, false, nat_lt, List, [], ◌∷◌, ◌++◌, refl, sym, ap, ◌∙◌, inl, inr, arith, append_assoc}
use Rattle.std.proofs.lemmas.Bool.{cond-true, cond-false}
use Rattle.std.proofs.lemmas.Bool.Decides.{nat_tests}
use Rattle.pq_syntax.specs.Places.{Item, Place, enclosing, places, places_after}
use Rattle.pq_syntax.specs.declared.tree.Node.{Node}
use Rattle.pq_proto.specs.Bodies.{Body, Empty, Holds, body_at, body_of, placed_in}
use Rattle.pq_proto.proofs.BodySteps.{body_deeper, less, same}
use Rattle.pq_proto.proofs.TreeDepths.{Nests}

-- `item_at n s` is the statement `s`, the `n`th of its file
abbrev item_at : ℕ → Node → Item
item_at n s = record { number = n; node = s }

-- `part earlier d n nodes` is the places of `nodes` in the body of the depth `d` that is open after
-- the items `earlier`, the last first
abbrev part : List Item → ℕ → ℕ → List Node → List Place
part earlier d n nodes = placed_in (enclosing earlier d) (body_at d n nodes)

-- `parts earlier d n nodes` is the places of `nodes` in the open bodies of the depths from `d` down
unfoldable parts : List Item → ℕ → ℕ → List Node → List Place
parts earlier zero n nodes = part earlier zero n nodes
parts earlier (suc d) n nodes = part earlier (suc d) n nodes ++ parts earlier d n nodes

parts_end : (earlier : List Item) (d n : ℕ) → parts earlier d n [] ≡ []
unfolding parts body_at placed_in
parts_end earlier zero n = refl
parts_end earlier (suc d) n = parts_end earlier d n

-- an item that is not less deep than `d` contains nothing of the depth `d`
enclosing_skips : (i : Item) (earlier : List Item) (d : ℕ) → d ≤ i.node.depth → enclosing (i ∷ earlier) d ≡ enclosing earlier d
unfolding enclosing
enclosing_skips i earlier d h = let not_less : nat_lt i.node.depth d ≡ false = grind (arith, nat_tests) in cond-false (nat_lt i.node.depth d) _ _ not_less

enclosing_next : (i : Item) (earlier : List Item) (d : ℕ) → i.node.depth < d → enclosing (i ∷ earlier) d ≡ i ∷ enclosing earlier i.node.depth
unfolding enclosing
enclosing_next i earlier d h = let is_less : nat_lt i.node.depth d ≡ true = grind (arith, nat_tests) in cond-true (nat_lt i.node.depth d) _ _ is_less

empty_part : (around : List Item) → placed_in around Empty ≡ []
unfolding placed_in
empty_part around = refl

held_part : (around : List Item) (i : Item) (inside later : Body)
    → placed_in around (Holds i inside later) ≡ record { item = i; within = around } ∷ placed_in (i ∷ around) inside ++ placed_in around later
unfolding placed_in
held_part around i inside later = refl

same_or_less : (e d : ℕ) → e ≤ suc d → (e ≡ suc d) ⊎ (e ≤ d)
same_or_less zero d h = inr (omega arith)
same_or_less (suc e) zero h = inl (omega (arith, h))
same_or_less (suc e) (suc d) h = elim (same_or_less e d (omega (arith, h))) [ inl i ↦ inl (omega (arith, i)) | inr i ↦ inr (omega (arith, i)) ]

-- the bodies of a greater depth than that of the first statement have nothing of the rest
parts_from : (earlier : List Item) (d n : ℕ) (s : Node) (ss : List Node) → s.depth ≤ d → parts earlier d n (s ∷ ss) ≡ parts earlier s.depth n (s ∷ ss)
unfolding parts
parts_from earlier zero n s ss h = let is : 0 ≡ s.depth = omega (arith, h) in ap (λ (x : ℕ). parts earlier x n (s ∷ ss)) is
parts_from earlier (suc d) n s ss h = elim (same_or_less s.depth d h) [
  | inl e ↦ ap (λ (x : ℕ). parts earlier x n (s ∷ ss)) (sym e)
  | inr l ↦
      ap (λ (b : Body). placed_in (enclosing earlier (suc d)) b ++ parts earlier d n (s ∷ ss)) (less (suc d) n s ss (omega (arith, l)))
      ∙ ap (λ (ps : List Place). ps ++ parts earlier d n (s ∷ ss)) (empty_part (enclosing earlier (suc d)))
      ∙ parts_from earlier d n s ss l
]

-- the part of a body that is less deep than the first statement is that of the rest
part_under : (earlier : List Item) (d n : ℕ) (s : Node) (ss : List Node) → d < s.depth → part earlier d n (s ∷ ss) ≡ part (item_at n s ∷ earlier) d (suc n) ss
part_under earlier d n s ss h =
    ap (placed_in (enclosing earlier d)) (body_deeper d n s ss h)
    ∙ ap (λ (is : List Item). placed_in is (body_at d (suc n) ss)) (sym (enclosing_skips (item_at n s) earlier d (omega (arith, h))))

parts_under : (earlier : List Item) (d n : ℕ) (s : Node) (ss : List Node) → d < s.depth → parts earlier d n (s ∷ ss) ≡ parts (item_at n s ∷ earlier) d (suc n) ss
unfolding parts
parts_under earlier zero n s ss h = part_under earlier zero n s ss h
parts_under earlier (suc d) n s ss h =
    ap (λ (ps : List Place). ps ++ parts earlier d n (s ∷ ss)) (part_under earlier (suc d) n s ss h)
    ∙ ap (λ (ps : List Place). part (item_at n s ∷ earlier) (suc d) (suc n) ss ++ ps) (parts_under earlier d n s ss (omega (arith, h)))

-- the body of the first statement: its place, its own body, and the rest
part_at : (earlier : List Item) (n : ℕ) (s : Node) (ss : List Node)
    → part earlier s.depth n (s ∷ ss)
    ≡ record { item = item_at n s; within = enclosing earlier s.depth }
    ∷ part (item_at n s ∷ earlier) (suc s.depth) (suc n) ss ++ part (item_at n s ∷ earlier) s.depth (suc n) ss
part_at earlier n s ss =
    let i = item_at n s in
    let e = s.depth in
    let first : Place = record { item = i; within = enclosing earlier e } in
    ap (placed_in (enclosing earlier e)) (same e n s ss refl)
    ∙ held_part (enclosing earlier e) i (body_at (suc e) (suc n) ss) (body_at e (suc n) ss)
    ∙ ap (λ (is : List Item). first ∷ placed_in is (body_at (suc e) (suc n) ss) ++ placed_in (enclosing earlier e) (body_at e (suc n) ss))
    (sym (enclosing_next i earlier (suc e) (omega arith)))
    ∙ ap (λ (is : List Item). first ∷ part (i ∷ earlier) (suc e) (suc n) ss ++ placed_in is (body_at e (suc n) ss)) (sym (enclosing_skips i earlier e (omega arith)))

-- all open bodies, by the first statement's depth `d`
parts_at : (earlier : List Item) (d n : ℕ) (s : Node) (ss : List Node) → s.depth ≡ d
    → parts earlier d n (s ∷ ss) ≡ record { item = item_at n s; within = enclosing earlier s.depth } ∷ parts (item_at n s ∷ earlier) (suc d) (suc n) ss
unfolding parts
parts_at earlier zero n s ss e =
    let i = item_at n s in
    let first : Place = record { item = i; within = enclosing earlier s.depth } in
    ap (λ (x : ℕ). part earlier x n (s ∷ ss)) (sym e)
    ∙ part_at earlier n s ss
    ∙ ap (λ (x : ℕ). first ∷ part (i ∷ earlier) (suc x) (suc n) ss ++ part (i ∷ earlier) x (suc n) ss) e
parts_at earlier (suc d) n s ss e =
    let i = item_at n s in
    let first : Place = record { item = i; within = enclosing earlier s.depth } in
    let rest = parts earlier d n (s ∷ ss) in
    let inner = part (i ∷ earlier) (suc (suc d)) (suc n) ss in
    let later = part (i ∷ earlier) (suc d) (suc n) ss in
    ap (λ (x : ℕ). part earlier x n (s ∷ ss) ++ rest) (sym e)
    ∙ ap (λ (ps : List Place). ps ++ rest) (part_at earlier n s ss)
    ∙ ap (λ (x : ℕ). (first ∷ part (i ∷ earlier) (suc x) (suc n) ss ++ part (i ∷ earlier) x (suc n) ss) ++ rest) e
    ∙ ap (λ (ps : List Place). first ∷ ps) (append_assoc inner later rest)
    ∙ ap (λ (ps : List Place). first ∷ (inner ++ (later ++ ps))) (parts_under earlier d n s ss (omega (arith, e)))

places_by : (nodes : List Node) (earlier : List Item) (d n : ℕ) → Nests d nodes → parts earlier d n nodes ≡ places_after earlier n nodes
unfolding places_after
places_by [] earlier d n nests = parts_end earlier d n
places_by (s ∷ ss) earlier d n nests =
    let first : Place = record { item = item_at n s; within = enclosing earlier s.depth } in
    parts_from earlier d n s ss nests.0
    ∙ parts_at earlier s.depth n s ss refl
    ∙ ap (λ (ps : List Place). first ∷ ps) (places_by ss (item_at n s ∷ earlier) (suc s.depth) (suc n) nests.1)

pub bodies_placed : (nodes : List Node) → Nests 0 nodes → placed_in [] (body_of nodes) ≡ places nodes
unfolding parts enclosing
bodies_placed nodes nests = places_by nodes [] 0 0 nests
