-- The tree of a file as nested bodies. The body of a file, a message, an enum, a oneof, a service
-- or a method is the list of the statements directly in it, each with its own body.
use Rattle.std.specs.Prelude.{ℕ, suc, nat_lt, nat_eq, cond, List, [], ◌∷◌, ◌++◌}
use Rattle.pq_syntax.specs.declared.tree.Node.{Node}
use Rattle.pq_syntax.specs.Places.{Item, Place}

-- `Holds item inside later` is the body that begins with `item`, whose own body is `inside`;
-- `later` is the rest of the body. `Empty` has no statement.
pub data Body : Type 0 where
  Empty : Body
  Holds : (item : Item) → (inside : Body) → (later : Body) → Body

-- `body_at depth n nodes` is the rest of a body with statements of the depth `depth`, where `nodes`
-- are the statements left in the file, the first of which has the number `n`. It ends before the
-- first statement that is less deep. Deeper statements are in the bodies of its own.
unfoldable pub body_at : ℕ → ℕ → List Node → Body
body_at depth n [] = Empty
body_at depth n (s ∷ ss) =
    cond (nat_lt s.depth depth) Empty
    (cond (nat_eq s.depth depth)
    (Holds (record { number = n; node = s }) (body_at (suc depth) (suc n) ss) (body_at depth (suc n) ss))
    (body_at depth (suc n) ss))

-- `body_of nodes` is the body of a file with the statements `nodes`
abbrev pub body_of : List Node → Body
body_of nodes = body_at 0 0 nodes

-- `each f body` lists, in text order, what `f` makes of each statement of `body` and its own body
unfoldable pub each : {A : Type 0} → (Item → Body → List A) → Body → List A
each f Empty = []
each f (Holds item inside later) = f item inside ++ each f later

-- `placed_in around body` lists the places of the statements of `body` and of the bodies within it,
-- in text order, where `around` lists the items that contain `body`, the innermost first
unfoldable pub placed_in : List Item → Body → List Place
placed_in around Empty = []
placed_in around (Holds item inside later) =
    record { item = item; within = around } ∷ (placed_in (item ∷ around) inside ++ placed_in around later)
