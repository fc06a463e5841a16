-- One walk over the statements of a file with a stack of what it keeps, and what it gives.
--
-- For each statement the walk closes the stack to the statement's depth, gives what `emit` makes of
-- the innermost kept value and the item, and opens the statement with what `keep` makes of them. It
-- gives what `emit` makes at each place of the file, in text order (`walk_all`).
use Rattle.std.proofs.Common.{◌≡◌, ℕ, suc, ◌+◌, ◌<◌, ◌≤◌, Bool, true, false, cond, nat_lt, length, get_or, drop, List, [], ◌∷◌, ◌++◌, unwrap_or, refl, sym, ap, ◌∙◌, arith, append-nil, append_assoc, add-one}
use Rattle.std.specs.Prelude.{flat_map}
use Rattle.std.proofs.lemmas.Bool.Decides.{nat_tests}
use Rattle.std.proofs.lemmas.List.{at_drop_all, drop_more}
use Rattle.pq_names.proofs.Cases.{either}
use Rattle.pq_syntax.specs.declared.tree.Node.{Node}
use Rattle.pq_syntax.specs.Places.{Item, Place, enclosing, places_after, places, kept}
use Rattle.pq_syntax.specs.Stacks.{closed, innermost}

-- ---- what contains the next statement

-- the items that contain a statement of this depth, of those that contain the one before it
unfoldable cut : ℕ → List Item → List Item
cut d [] = []
cut d (i ∷ is) = cond (nat_lt i.node.depth d) (i ∷ is) (cut d is)

cut_enclosing : (earlier : List Item) (d e : ℕ) → d ≤ e → cut d (enclosing earlier e) ≡ enclosing earlier d
unfolding cut enclosing
cut_enclosing [] d e h = refl
cut_enclosing (i ∷ is) d e h =
    either (nat_lt i.node.depth e) (λ b. cut d (cond b (i ∷ enclosing is i.node.depth) (enclosing is e)) ≡ cond (nat_lt i.node.depth d) (i ∷ enclosing is i.node.depth) (enclosing is d))
    (λ t. either (nat_lt i.node.depth d) (λ b. cond b (i ∷ enclosing is i.node.depth) (cut d (enclosing is i.node.depth)) ≡ cond b (i ∷ enclosing is i.node.depth) (enclosing is d))
    (λ s. refl) (λ f. cut_enclosing is d i.node.depth (grind (arith, nat_tests, f))))
    (λ f. cut_enclosing is d e h ∙ either (nat_lt i.node.depth d) (λ b. enclosing is d ≡ cond b (i ∷ enclosing is i.node.depth) (enclosing is d))
    (λ s. absurd (grind (arith, nat_tests, f, s, h))) (λ s. refl))

next_enclosing : (i : Item) (earlier : List Item) (d : ℕ) → enclosing (i ∷ earlier) d ≡ cut d (i ∷ enclosing earlier i.node.depth)
unfolding cut enclosing
next_enclosing i earlier d =
    either (nat_lt i.node.depth d) (λ b. cond b (i ∷ enclosing earlier i.node.depth) (enclosing earlier d) ≡ cond b (i ∷ enclosing earlier i.node.depth) (cut d (enclosing earlier i.node.depth)))
    (λ t. refl) (λ f. sym (cut_enclosing earlier d i.node.depth (grind (arith, nat_tests, f))))

-- ---- the walk

-- the statement as the item of this number
abbrev pub item_at : ℕ → Node → Item
item_at n s = record { number = n; node = s }

-- what is kept of the innermost statement that contains one of this depth
abbrev pub inner_at : {A : Type 0} → A → List (ℕ × A) → ℕ → A
inner_at root stack depth = unwrap_or (innermost (closed depth stack)) root

unfoldable pub walk : {A B : Type 0} → (Item → A → A) → A → (A → Item → List B) → List (ℕ × A) → ℕ → List Node → List B
walk keep root emit stack n [] = []
walk keep root emit stack n (s ∷ ss) =
    emit (inner_at root stack s.depth) (item_at n s)
    ++ walk keep root emit ((s.depth, keep (item_at n s) (inner_at root stack s.depth)) ∷ closed s.depth stack) (suc n) ss

-- what `emit` makes at each place
abbrev pub given : {A B : Type 0} → (Item → A → A) → A → (A → Item → List B) → List Place → List B
given keep root emit ps = flat_map (λ (p : Place). emit (kept keep root p.within) p.item) ps

-- the stack of these items
unfoldable stack_of : {A : Type 0} → (Item → A → A) → A → List Item → List (ℕ × A)
stack_of keep root [] = []
stack_of keep root (i ∷ outer) = (i.node.depth, kept keep root (i ∷ outer)) ∷ stack_of keep root outer

closed_test : {A : Type 0} (keep : Item → A → A) (root : A) (d : ℕ) (i : Item) (is : List Item) (b : Bool)
    → closed d (stack_of keep root is) ≡ stack_of keep root (cut d is)
    → cond b (stack_of keep root (i ∷ is)) (closed d (stack_of keep root is)) ≡ stack_of keep root (cond b (i ∷ is) (cut d is))
closed_test keep root d i is true h = refl
closed_test keep root d i is false h = h

closed_stack : {A : Type 0} (keep : Item → A → A) (root : A) (d : ℕ) (is : List Item)
    → closed d (stack_of keep root is) ≡ stack_of keep root (cut d is)
unfolding stack_of closed cut
closed_stack keep root d [] = refl
closed_stack keep root d (i ∷ is) = closed_test keep root d i is (nat_lt i.node.depth d) (closed_stack keep root d is)

innermost_stack : {A : Type 0} (keep : Item → A → A) (root : A) (is : List Item)
    → unwrap_or (innermost (stack_of keep root is)) root ≡ kept keep root is
unfolding stack_of kept
innermost_stack keep root [] = refl
innermost_stack keep root (i ∷ outer) = refl

opened_stack : {A : Type 0} (keep : Item → A → A) (root : A) (i : Item) (is : List Item)
    → (i.node.depth, keep i (kept keep root is)) ∷ stack_of keep root is ≡ stack_of keep root (i ∷ is)
unfolding stack_of kept
opened_stack keep root i is = refl

walk_from : {A B : Type 0} (keep : Item → A → A) (root : A) (emit : A → Item → List B) (st earlier : List Item) (n : ℕ) (ss : List Node)
    → ((d : ℕ) → enclosing earlier d ≡ cut d st)
    → walk keep root emit (stack_of keep root st) n ss ≡ given keep root emit (places_after earlier n ss)
unfolding walk places_after
walk_from keep root emit st earlier n [] h = refl
walk_from {A} {B} keep root emit st earlier n (s ∷ ss) h =
    let i = item_at n s in
    let open' = cut s.depth st in
    let shut : closed s.depth (stack_of keep root st) ≡ stack_of keep root open' = closed_stack keep root s.depth st in
    let inner : inner_at root (stack_of keep root st) s.depth ≡ kept keep root (enclosing earlier s.depth) =
    ap (λ (es : List (ℕ × A)). unwrap_or (innermost es) root) shut ∙ innermost_stack keep root open' ∙ ap (kept keep root) (sym (h s.depth)) in
    let stack : (s.depth, keep i (inner_at root (stack_of keep root st) s.depth)) ∷ closed s.depth (stack_of keep root st) ≡ stack_of keep root (i ∷ open') =
    ap (λ (es : List (ℕ × A)). (s.depth, keep i (unwrap_or (innermost es) root)) ∷ es) shut
    ∙ ap (λ (a : A). (s.depth, keep i a) ∷ stack_of keep root open') (innermost_stack keep root open')
    ∙ opened_stack keep root i open' in
    ap (λ (a : A). emit a i ++ walk keep root emit ((s.depth, keep i (inner_at root (stack_of keep root st) s.depth)) ∷ closed s.depth (stack_of keep root st)) (suc n) ss) inner
    ∙ ap (λ (es : List (ℕ × A)). emit (kept keep root (enclosing earlier s.depth)) i ++ walk keep root emit es (suc n) ss) stack
    ∙ ap (λ (bs : List B). emit (kept keep root (enclosing earlier s.depth)) i ++ bs)
    (walk_from keep root emit (i ∷ open') (i ∷ earlier) (suc n) ss (λ d. next_enclosing i earlier d ∙ ap (λ (is : List Item). cut d (i ∷ is)) (h s.depth)))

-- the walk from an empty stack gives what `emit` makes at each place of the file
pub walk_all : {A B : Type 0} (keep : Item → A → A) (root : A) (emit : A → Item → List B) (nodes : List Node)
    → walk keep root emit [] 0 nodes ≡ given keep root emit (places nodes)
unfolding stack_of enclosing cut
walk_all keep root emit nodes = walk_from keep root emit [] [] 0 nodes (λ d. refl)

-- ---- a loop that is the walk

-- `out`, which the walk gave before the item `n`, and what it gives from there on are what it gives
abbrev pub Walked : {A B : Type 0} → (Item → A → A) → A → (A → Item → List B) → List Node → List (ℕ × A) → ℕ → List B → Type 0
Walked keep root emit nodes stack n out =
    out ++ walk keep root emit stack n (drop n nodes) ≡ given keep root emit (places nodes)

pub walked_none : {A B : Type 0} (keep : Item → A → A) (root : A) (emit : A → Item → List B) (nodes : List Node)
    → Walked keep root emit nodes [] 0 []
walked_none keep root emit nodes = walk_all keep root emit nodes

-- one statement more
pub walked_more : {A B : Type 0} (keep : Item → A → A) (root : A) (emit : A → Item → List B) (nodes : List Node)
    (stack opened : List (ℕ × A)) (n : ℕ) (out more : List B) (node : Node) (inner : A)
    → n < length nodes → node ≡ get_or nodes n node
    → inner ≡ inner_at root stack node.depth
    → opened ≡ (node.depth, keep (item_at n node) inner) ∷ closed node.depth stack
    → more ≡ out ++ emit inner (item_at n node)
    → Walked keep root emit nodes stack n out → Walked keep root emit nodes opened (n + 1) more
unfolding walk
walked_more {A} {B} keep root emit nodes stack opened n out more node inner within is inner_is opened_is more_is so_far =
    let rest = drop (n + 1) nodes in
    let opens : opened ≡ (node.depth, keep (item_at n node) (inner_at root stack node.depth)) ∷ closed node.depth stack =
    opened_is ∙ ap (λ (a : A). (node.depth, keep (item_at n node) a) ∷ closed node.depth stack) inner_is in
    let left : drop n nodes ≡ node ∷ rest = drop_more nodes n node within ∙ ap (λ (s : Node). s ∷ rest) (sym is) in
    ap (λ (bs : List B). bs ++ walk keep root emit opened (n + 1) rest) (more_is ∙ ap (λ (a : A). out ++ emit a (item_at n node)) inner_is)
    ∙ append_assoc out (emit (inner_at root stack node.depth) (item_at n node)) (walk keep root emit opened (n + 1) rest)
    ∙ ap (λ (es : List (ℕ × A)). out ++ (emit (inner_at root stack node.depth) (item_at n node) ++ walk keep root emit es (n + 1) rest)) opens
    ∙ ap (λ (m : ℕ). out ++ (emit (inner_at root stack node.depth) (item_at n node) ++ walk keep root emit ((node.depth, keep (item_at n node) (inner_at root stack node.depth)) ∷ closed node.depth stack) m rest)) (add-one n)
    ∙ ap (λ (ss : List Node). out ++ walk keep root emit stack n ss) (sym left)
    ∙ so_far

-- the end of the walk
pub walked_all : {A B : Type 0} (keep : Item → A → A) (root : A) (emit : A → Item → List B) (nodes : List Node)
    (stack : List (ℕ × A)) (n : ℕ) (out : List B)
    → length nodes ≤ n → Walked keep root emit nodes stack n out → out ≡ given keep root emit (places nodes)
unfolding walk
walked_all keep root emit nodes stack n out past so_far =
    sym (append-nil out) ∙ ap (λ bs. out ++ bs) (sym (at_drop_all (walk keep root emit stack n) nodes n past)) ∙ so_far
