-- Places: which statements contain a statement of a file.
--
-- The tree is the flat list of a file's statements in text order, each with its depth. An item is a
-- statement with its number; the parent of an item is the last item before it that is less deep.
use Rattle.std.specs.Prelude.{ℕ, suc, nat_lt, cond, List, [], ◌∷◌}
use Rattle.pq_syntax.specs.declared.tree.Node.{Node}

-- `record { number = n; node = s }` is the statement `s`, the `n`th of its file, counted from 0
pub record Item : Type 0 where
  pub number : ℕ
  pub node : Node

-- `enclosing earlier depth` lists the items that contain a statement of the depth `depth`, the
-- innermost first. `earlier` lists the items before that statement, the last first.
unfoldable pub enclosing : List Item → ℕ → List Item
enclosing [] depth = []
enclosing (i ∷ earlier) depth =
    cond (nat_lt i.node.depth depth) (i ∷ enclosing earlier i.node.depth) (enclosing earlier depth)

-- `record { item = i; within = is }` is the item `i`, and `is` are the items that contain it, the
-- innermost first
pub record Place : Type 0 where
  pub item : Item
  pub within : List Item

-- `places_after earlier n nodes` lists the places of the statements `nodes`, the first of which has
-- the number `n`, where `earlier` lists the items before them, the last first
unfoldable pub places_after : List Item → ℕ → List Node → List Place
places_after earlier n [] = []
places_after earlier n (s ∷ ss) =
    record { item = record { number = n; node = s }; within = enclosing earlier s.depth }
    ∷ places_after (record { number = n; node = s } ∷ earlier) (suc n) ss

-- `places nodes` lists the places of a file's statements, in text order
abbrev pub places : List Node → List Place
places nodes = places_after [] 0 nodes

-- `kept keep root within` is what a walk keeps of the innermost of the items `within`, or `root` if
-- there are none. `keep i outer` is what it keeps of the item `i`, where it keeps `outer` of the
-- innermost item that contains `i`.
unfoldable pub kept : {A : Type 0} → (Item → A → A) → A → List Item → A
kept keep root [] = root
kept keep root (i ∷ outer) = keep i (kept keep root outer)
