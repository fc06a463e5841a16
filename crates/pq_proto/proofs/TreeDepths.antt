-- The depths of a tree: its first statement is at depth 0, and no other is more than one deeper than
-- the statement before it.
use Rattle.std.proofs.Common.{ℕ, zero, suc, ◌≤◌, true, false, List, [], ◌∷◌, ◌++◌, sym, subst, arith}
use Rattle.std.specs.List.{AllByRecursion}
use Rattle.pq_syntax.specs.Rule.{Rule, Parse}
use Rattle.pq_syntax.specs.Rule.Rule.{Seq, Alt, Star}
use Rattle.pq_syntax.specs.Rule.Parse.{Nil, Pair, Left, Right}
use Rattle.pq_syntax.specs.FaultPlace.{IsTree}
use Rattle.pq_syntax.specs.Grammar.{bodied, enum, extend, file, file_item, import', item, labelled, mapped, message, method, method_end, oneof, option, package', reserved, service, statement, tail, type_from, value}
use Rattle.pq_syntax.specs.Parts.{list_of}
use Rattle.pq_syntax.specs.Tree.{body_nodes, either, enum_nodes, extend_nodes, field_nodes, file_item_nodes, file_nodes, import_nodes, item_nodes, labelled_nodes, mapped_nodes, message_nodes, method_end_nodes, method_nodes, no_nodes, oneof_nodes, option_nodes, package_nodes, reserved_nodes, service_nodes, statement_nodes, value_nodes}
use Rattle.pq_syntax.specs.Words.{Word}
use Rattle.pq_syntax.specs.declared.parts.Name.{Name}
use Rattle.pq_syntax.specs.declared.tree.Node.{Node}
use Rattle.pq_syntax.specs.declared.tree.Statement.{Statement}
use Rattle.pq_syntax.specs.declared.tree.Statement.TheVariants.{Enum, Message, Oneof, Service}
use Rattle.pq_syntax.proofs.ParseShape.{HasShape, shaped}

-- `Nests limit nodes` is that the first of the statements `nodes` is at most `limit` deep, and each
-- other at most one deeper than the one before it
abbrev pub Nests : ℕ → List Node → Type 0
Nests limit [] = Unit {0}
Nests limit (s ∷ ss) = (s.depth ≤ limit) × Nests (suc s.depth) ss

-- `AreUnder depth nodes` is that none of the statements `nodes` is less deep than `depth`
abbrev AreUnder : ℕ → List Node → Type 0
AreUnder depth nodes = AllByRecursion (λ (s : Node). depth ≤ s.depth) nodes

-- `Stand depth nodes` is that `nodes` can be the statements of a body at the depth `depth`
record Stand (depth : ℕ) (nodes : List Node) : Type 0 where
  under : AreUnder depth nodes
  nests : Nests depth nodes

nests_up : (l m : ℕ) (nodes : List Node) → l ≤ m → Nests l nodes → Nests m nodes
nests_up l m [] h n = tt
nests_up l m (s ∷ ss) h n = let first = n.0 in (omega (arith, first, h), n.1)

nests_append : (l d : ℕ) (xs ys : List Node) → d ≤ l → AreUnder d xs → Nests l xs → Nests d ys → Nests l (xs ++ ys)
nests_append l d [] ys h under n ns = nests_up d l ys h ns
nests_append l d (x ∷ xs) ys h under n ns = let first = under.0 in (n.0, nests_append (suc x.depth) d xs ys (omega (arith, first)) under.1 n.1 ns)

under_append : (d : ℕ) (xs ys : List Node) → AreUnder d xs → AreUnder d ys → AreUnder d (xs ++ ys)
under_append d [] ys u v = v
under_append d (x ∷ xs) ys u v = (u.0, under_append d xs ys u.1 v)

stand_append : (d : ℕ) (xs ys : List Node) → Stand d xs → Stand d ys → Stand d (xs ++ ys)
stand_append d xs ys s t = record { under = under_append d xs ys s.under t.under; nests = nests_append d d xs ys (omega arith) s.under s.nests t.nests }

under_less : (d : ℕ) (nodes : List Node) → AreUnder (suc d) nodes → AreUnder d nodes
under_less d [] u = tt
under_less d (x ∷ xs) u = let first = u.0 in (omega (arith, first), under_less d xs u.1)

-- a statement and those of its body
stand_first : (n : Node) (inside : List Node) → Stand (suc n.depth) inside → Stand n.depth (n ∷ inside)
stand_first n inside s = record { under = (omega arith, under_less n.depth inside s.under); nests = (omega arith, s.nests) }

stand_none : (depth : ℕ) → Stand depth []
stand_none depth = record { under = tt; nests = tt }

stand_one : (n : Node) → Stand n.depth (n ∷ [])
stand_one n = stand_first n [] (stand_none (suc n.depth))

-- `Stands depth r view` is that the statements which `view` makes of a parse of `r` can be those of
-- a body at the depth `depth`
record Stands {A : Type 0} (depth : ℕ) (r : Rule A) (view : Parse Word → List Node) : Type 0 where
  at : (p : Parse Word) → HasShape p r → Stand depth (view p)

-- ---- choices, lists and bodies

none_stand : {A : Type 0} {r : Rule A} (depth : ℕ) → Stands depth r no_nodes
none_stand depth = record { at = λ p s. stand_none depth }

either_at : {A : Type 0} {a b : Rule A} {f g : Parse Word → List Node} (depth : ℕ) → Stands depth a f → Stands depth b g
    → (p : Parse Word) → HasShape p (Alt a b) → Stand depth (either f g p)
either_at depth x y (Left p) s = x.at p s
either_at depth x y (Right p) s = y.at p s
either_at depth x y _ s = absurd s

either_stand : {A : Type 0} {a b : Rule A} {f g : Parse Word → List Node} (depth : ℕ) → Stands depth a f → Stands depth b g → Stands depth (Alt a b) (either f g)
either_stand depth x y = record { at = either_at depth x y }

list_at : {A : Type 0} {r : Rule A} {view : Parse Word → List Node} (depth : ℕ) → Stands depth r view → (p : Parse Word) → HasShape p (Star r) → Stand depth (list_of view p)
list_at depth x Nil s = stand_none depth
list_at {view = view} depth x (Pair p ps) s = stand_append depth (view p) (list_of view ps) (x.at p s.0) (list_at depth x ps s.1)
list_at depth x _ s = absurd s

body_at : {r : Rule _} {view : Parse Word → List Node} (keyword : _) (depth : ℕ) (statement : Name → Statement) → Stands (suc depth) r view
    → (p : Parse Word) → HasShape p (bodied keyword r) → Stand depth (body_nodes depth statement view p)
body_at keyword depth statement x (Pair h (Pair body close')) s = stand_first _ _ (list_at (suc depth) x body s.1.0)
body_at keyword depth statement x (Pair h _) s = absurd s.1
body_at keyword depth statement x _ s = absurd s

body_stands : {r : Rule _} {view : Parse Word → List Node} (keyword : _) (depth : ℕ) (statement : Name → Statement) → Stands (suc depth) r view
    → Stands depth (bodied keyword r) (body_nodes depth statement view)
body_stands keyword depth statement x = record { at = body_at keyword depth statement x }

-- ---- statements without a body

option_at : (n depth : ℕ) (p : Parse Word) → HasShape p (option n) → Stand depth (option_nodes depth p)
option_at n depth (Pair k (Pair set semicolon)) s = stand_one _
option_at n depth (Pair k _) s = absurd s.1
option_at n depth _ s = absurd s

option_stands : (n depth : ℕ) → Stands depth (option n) (option_nodes depth)
option_stands n depth = record { at = option_at n depth }

field_at : (c : _) (n depth : ℕ) (p : Parse Word) → HasShape p (Seq (type_from c) (tail n)) → Stand depth (field_nodes depth p)
field_at c n depth (Pair kind t) s = stand_one _
field_at c n depth _ s = absurd s

labelled_at : (n depth : ℕ) (p : Parse Word) → HasShape p (labelled n) → Stand depth (labelled_nodes depth p)
labelled_at n depth (Pair label (Pair kind t)) s = stand_one _
labelled_at n depth (Pair label _) s = absurd s.1
labelled_at n depth _ s = absurd s

mapped_at : (n depth : ℕ) (p : Parse Word) → HasShape p (mapped n) → Stand depth (mapped_nodes depth p)
mapped_at n depth (Pair k (Left (Pair entry t))) s = stand_one _
mapped_at n depth (Pair k (Right (Pair d t))) s = stand_one _
mapped_at n depth (Pair k _) s = absurd s.1
mapped_at n depth _ s = absurd s

reserved_at : (signs : _) (depth : ℕ) (p : Parse Word) → HasShape p (reserved signs) → Stand depth (reserved_nodes depth p)
reserved_at signs depth (Pair k (Pair (Left ranges) semicolon)) s = stand_one _
reserved_at signs depth (Pair k (Pair (Right names) semicolon)) s = stand_one _
reserved_at signs depth (Pair k (Pair _ semicolon)) s = absurd s.1.0
reserved_at signs depth (Pair k _) s = absurd s.1
reserved_at signs depth _ s = absurd s

value_at : (n depth : ℕ) (p : Parse Word) → HasShape p (value n) → Stand depth (value_nodes depth p)
value_at n depth (Pair name (Pair equals (Pair number (Pair options semicolon)))) s = stand_one _
value_at n depth (Pair name (Pair equals (Pair number _))) s = absurd s.1.1.1
value_at n depth (Pair name (Pair equals _)) s = absurd s.1.1
value_at n depth (Pair name _) s = absurd s.1
value_at n depth _ s = absurd s

extend_at : (n depth : ℕ) (p : Parse Word) → HasShape p (extend n) → Stand depth (extend_nodes depth p)
extend_at n depth (Pair k (Pair kind block)) s = stand_one _
extend_at n depth (Pair k _) s = absurd s.1
extend_at n depth _ s = absurd s

import_at : (p : Parse Word) → HasShape p import' → Stand 0 (import_nodes p)
import_at (Pair k (Pair kind (Pair file' semicolon))) s = stand_one _
import_at (Pair k (Pair kind _)) s = absurd s.1.1
import_at (Pair k _) s = absurd s.1
import_at _ s = absurd s

package_at : (p : Parse Word) → HasShape p package' → Stand 0 (package_nodes p)
package_at (Pair k (Pair name semicolon)) s = stand_one _
package_at (Pair k _) s = absurd s.1
package_at _ s = absurd s

-- ---- statements with a body

oneof_stands : (n depth : ℕ) → Stands depth (oneof n) (oneof_nodes depth)
oneof_stands n depth =
    body_stands _ depth (λ name. Oneof name)
    (either_stand (suc depth) (option_stands n (suc depth)) (either_stand (suc depth) (record { at = field_at _ n (suc depth) }) (none_stand (suc depth))))

enum_stands : (n depth : ℕ) → Stands depth (enum n) (enum_nodes depth)
enum_stands n depth =
    body_stands _ depth (λ name. Enum name)
    (either_stand (suc depth) (option_stands n (suc depth)) (either_stand (suc depth) (record { at = reserved_at true (suc depth) })
    (either_stand (suc depth) (record { at = value_at n (suc depth) }) (none_stand (suc depth)))))

end_at : (n depth : ℕ) (p : Parse Word) → HasShape p (method_end n) → Stand depth (method_end_nodes depth p)
end_at n depth (Left (Pair open' (Pair items close'))) s = list_at depth (either_stand depth (option_stands n depth) (none_stand depth)) items s.1.0
end_at n depth (Left (Pair open' _)) s = absurd s.1
end_at n depth (Right p) s = stand_none depth
end_at n depth _ s = absurd s

method_at : (n depth : ℕ) (p : Parse Word) → HasShape p (method n) → Stand depth (method_nodes depth p)
method_at n depth (Pair k (Pair name (Pair input (Pair returns (Pair output end))))) s = stand_first _ _ (end_at n (suc depth) end s.1.1.1.1.1)
method_at n depth (Pair k (Pair name (Pair input (Pair returns _)))) s = absurd s.1.1.1.1
method_at n depth (Pair k (Pair name (Pair input _))) s = absurd s.1.1.1
method_at n depth (Pair k (Pair name _)) s = absurd s.1.1
method_at n depth (Pair k _) s = absurd s.1
method_at n depth _ s = absurd s

service_stands : (n depth : ℕ) → Stands depth (service n) (service_nodes depth)
service_stands n depth =
    body_stands _ depth (λ name. Service name)
    (either_stand (suc depth) (option_stands n (suc depth)) (either_stand (suc depth) (record { at = method_at n (suc depth) }) (none_stand (suc depth))))

statement_stands : (n depth : ℕ) → Stands depth (statement n) (statement_nodes depth)
statement_stands n depth =
    either_stand depth (enum_stands n depth) (either_stand depth (record { at = extend_at n depth }) (either_stand depth (option_stands n depth)
    (either_stand depth (oneof_stands n depth) (either_stand depth (record { at = reserved_at false depth })
    (either_stand depth (record { at = labelled_at n depth }) (either_stand depth (record { at = mapped_at n depth })
    (either_stand depth (none_stand depth) (record { at = field_at _ n depth }))))))))

item_stands : (n levels depth : ℕ) → Stands depth (item n levels) (item_nodes levels depth)
unfolding item item_nodes
item_stands n zero depth = statement_stands n depth
item_stands n (suc levels) depth = either_stand depth (body_stands _ depth (λ name. Message name) (item_stands n levels (suc depth))) (statement_stands n depth)

message_stands : (n levels depth : ℕ) → Stands depth (message n levels) (message_nodes levels depth)
message_stands n levels depth = body_stands _ depth (λ name. Message name) (item_stands n levels (suc depth))

-- ---- files

file_item_stands : (n levels : ℕ) → Stands 0 (file_item n levels) (file_item_nodes levels)
file_item_stands n levels =
    either_stand 0 (record { at = import_at }) (either_stand 0 (record { at = package_at })
    (either_stand 0 (option_stands n 0) (either_stand 0 (message_stands n levels 0) (either_stand 0 (enum_stands n 0)
    (either_stand 0 (service_stands n 0) (either_stand 0 (record { at = extend_at n 0 }) (none_stand 0)))))))

file_at : (n levels : ℕ) (p : Parse Word) → HasShape p (file n levels) → Stand 0 (file_nodes levels p)
file_at n levels (Pair syntax' items) s = list_at 0 (file_item_stands n levels) items s.1
file_at n levels _ s = absurd s

pub tree_nests : (text : List ℕ) (nodes : List Node) → IsTree text nodes → Nests 0 nodes
tree_nests text nodes t =
    let shape = (shaped _ t.derives).0.0 in
    subst (Nests 0) (sym t.is) (file_at 63 63 t.parse shape).nests
