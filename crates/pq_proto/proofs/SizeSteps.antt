-- What the sizes of bodies say of walks, and one step of their computation.
use Rattle.std.proofs.Common.{◌≡◌, ℕ, suc, ◌+◌, ◌-◌, ◌<◌, ◌≤◌, Bool, true, false, nat_lt, length, get_or, drop, List, [], ◌∷◌, refl, sym, ap, ◌∙◌, arith, add-zero, zero-add, length-drop, set}
use Rattle.std.proofs.lemmas.Bool.Decides.{nat_tests}
use Rattle.std.proofs.lemmas.List.{drop_all, drop_more, drop-drop, get_or_default, get_or-drop, get_or-set_same, get_or-set_other, length-set}
use Rattle.std.proofs.lemmas.Bool.{cond-true, cond-false}
use Rattle.pq_syntax.specs.declared.tree.Node.{Node}
use Rattle.pq_syntax.proofs.Walk.{item_at}
use Rattle.pq_proto.specs.Bodies.{Body, Holds, body_at}
use Rattle.pq_proto.specs.aux.Rests.{IsNext}
use Rattle.pq_proto.specs.aux.Sizes.{deeper, size_of, IsSized}
use Rattle.pq_proto.proofs.BodySteps.{body_deeper}

deeper_yes : (d : ℕ) (s : Node) (ss : List Node) → d < s.depth → deeper d (s ∷ ss) ≡ suc (deeper d ss)
unfolding deeper
deeper_yes d s ss h =
    let t : nat_lt d s.depth ≡ true = grind (arith, nat_tests) in
    cond-true (nat_lt d s.depth) (suc (deeper d ss)) 0 t

deeper_no : (d : ℕ) (s : Node) (ss : List Node) → s.depth ≤ d → deeper d (s ∷ ss) ≡ 0
unfolding deeper
deeper_no d s ss h =
    let f : nat_lt d s.depth ≡ false = grind (arith, nat_tests) in
    cond-false (nat_lt d s.depth) (suc (deeper d ss)) 0 f

deeper_empty : (d : ℕ) → deeper d [] ≡ 0
unfolding deeper
deeper_empty d = refl

split : (P : Type 0) (a b : ℕ) → (a < b → P) → (b ≤ a → P) → P
split P a b f g = either (nat_lt a b) (λ t. f (grind (arith, nat_tests, t))) (λ t. g (grind (arith, nat_tests, t)))
  where
    either : (x : Bool) → (x ≡ true → P) → (x ≡ false → P) → P
    either true u v = u refl
    either false u v = v refl

pub deeper_within : (d : ℕ) (ss : List Node) → deeper d ss ≤ length ss
deeper_within d [] = let e = deeper_empty d in omega arith
deeper_within d (s ∷ ss) =
    let more = deeper_within d ss in
    split (deeper d (s ∷ ss) ≤ suc (length ss)) d s.depth
    (λ h. let e = deeper_yes d s ss h in omega arith) (λ h. let e = deeper_no d s ss h in omega arith)

-- the statements deeper than `e` go first among those deeper than `d`
deeper_first : (d e : ℕ) (ss : List Node) → d ≤ e → deeper d ss ≡ deeper e ss + deeper d (drop (deeper e ss) ss)
deeper_first d e [] h = let a = deeper_empty d in let b = deeper_empty e in rw b (sym (zero-add (deeper d [])))
deeper_first d e (s ∷ ss) h =
    split (deeper d (s ∷ ss) ≡ deeper e (s ∷ ss) + deeper d (drop (deeper e (s ∷ ss)) (s ∷ ss))) e s.depth
    (λ in'. let yes = deeper_yes e s ss in' in let outer = deeper_yes d s ss (omega arith) in let more = deeper_first d e ss h in
    rw yes (let g : deeper d (s ∷ ss) ≡ suc (deeper e ss) + deeper d (drop (deeper e ss) ss) = omega arith in g))
    (λ out. let no = deeper_no e s ss out in rw no (sym (zero-add (deeper d (s ∷ ss)))))

-- ---- a walk passes over the statements in a body

pub body_past : (d : ℕ) (ss : List Node) (n e : ℕ) → d ≤ e → body_at d n ss ≡ body_at d (n + deeper e ss) (drop (deeper e ss) ss)
body_past d [] n e h = let none = deeper_empty e in rw none (ap (λ (m : ℕ). body_at d m []) (sym (add-zero n)))
body_past d (s ∷ ss) n e h =
    split (body_at d n (s ∷ ss) ≡ body_at d (n + deeper e (s ∷ ss)) (drop (deeper e (s ∷ ss)) (s ∷ ss))) e s.depth
    (λ in'. let yes = deeper_yes e s ss in' in
    rw yes (body_deeper d n s ss (omega arith) ∙ body_past d ss (suc n) e h ∙ ap (λ (m : ℕ). body_at d m (drop (deeper e ss) ss)) (omega arith)))
    (λ out. let no = deeper_no e s ss out in rw no (ap (λ (m : ℕ). body_at d m (s ∷ ss)) (sym (add-zero n))))

drop_further : (nodes : List Node) (i z : ℕ) → drop z (drop i nodes) ≡ drop (i + z) nodes
drop_further nodes i z = drop-drop z i nodes

size_here : (nodes : List Node) (k : ℕ) (s : Node) → k < length nodes → s ≡ get_or nodes k s → size_of (drop k nodes) ≡ deeper s.depth (drop (k + 1) nodes)
size_here nodes k s within is =
    ap size_of (drop_more nodes k s within) ∙ ap (λ (x : Node). deeper x.depth (drop (k + 1) nodes)) (sym is)

-- a statement with its body ends in the file
pub after_within : (nodes : List Node) (k : ℕ) (s : Node) → k < length nodes → s ≡ get_or nodes k s → k + 1 + size_of (drop k nodes) ≤ length nodes
after_within nodes k s within is =
    let here = size_here nodes k s within is in
    let fits = deeper_within s.depth (drop (k + 1) nodes) in
    let left = length-drop (k + 1) nodes in
    omega arith

-- what `IsNext` says of the statement `s`, where the later statements are those after its body
pub next_past : (d number k e size : ℕ) (nodes : List Node) (s : Node) → IsNext d nodes k → s ≡ get_or nodes k s → e ≡ s.depth
    → size ≡ size_of (drop k nodes)
    → body_at d number nodes
    ≡ Holds (record { number = number + k; node = s }) (body_at (e + 1) (number + (k + 1)) (drop (k + 1) nodes)) (body_at d (number + (k + 1 + size)) (drop (k + 1 + size) nodes))
next_past d number k e size nodes s next is depth sized =
    let item = item_at (number + k) s in
    let rest = drop (k + 1) nodes in
    let same : s.depth ≡ d = next.at s is in
    let here : size ≡ deeper s.depth rest = sized ∙ size_here nodes k s next.within is in
    let inner : body_at (suc d) (suc (number + k)) rest ≡ body_at (e + 1) (number + (k + 1)) rest =
    ap (λ (m : ℕ). body_at m (suc (number + k)) rest) (omega arith) ∙ ap (λ (m : ℕ). body_at (e + 1) m rest) (omega arith) in
    let later : body_at d (suc (number + k)) rest ≡ body_at d (number + (k + 1 + size)) (drop (k + 1 + size) nodes) =
    body_past d rest (suc (number + k)) s.depth (omega arith)
    ∙ ap (λ (z : ℕ). body_at d (suc (number + k) + z) (drop z rest)) (sym here)
    ∙ ap (body_at d (suc (number + k) + size)) (drop_further nodes (k + 1) size)
    ∙ ap (λ (m : ℕ). body_at d m (drop (k + 1 + size) nodes)) (omega arith) in
    next.is number s is
    ∙ ap (λ (b : Body). Holds item b (body_at d (suc (number + k)) rest)) inner
    ∙ ap (λ (b : Body). Holds item (body_at (e + 1) (number + (k + 1)) rest) b) later

-- ---- the sizes of what is left

pub sized_from : (nodes : List Node) (sizes : List ℕ) (i : ℕ) → i ≤ length nodes → IsSized 0 nodes sizes → IsSized 0 (drop i nodes) (drop i sizes)
sized_from nodes sizes i within sized =
    let a = length-drop i nodes in
    let b = length-drop i sizes in
    let n = sized.len in
    record {
      len = omega arith;
      each = λ j _ l. get_or-drop i sizes j 0 ∙ sized.each (i + j) (omega arith) (omega arith) ∙ ap size_of (sym (drop_further nodes i j));
    }

-- ---- their computation

-- `HoppedTo nodes index next` is that the statements from `index + 1` up to `next` lie in that at
-- `index`
pub record HoppedTo (d : ℕ) (nodes : List Node) (index next : ℕ) : Type 0 where
  pub from : index + 1 ≤ next
  pub to : next ≤ length nodes
  pub is : next + deeper d (drop next nodes) ≡ index + 1 + deeper d (drop (index + 1) nodes)

pub hopped_none : (d : ℕ) (nodes : List Node) (index : ℕ) → index < length nodes → HoppedTo d nodes index (index + 1)
hopped_none d nodes index within = record { from = omega arith; to = omega arith; is = refl }

pub hopped_more : (d : ℕ) (nodes : List Node) (sizes : List ℕ) (index next size : ℕ) (s : Node) → next < length nodes → s ≡ get_or nodes next s → d < s.depth
    → size ≡ get_or sizes next size → IsSized (index + 1) nodes sizes → HoppedTo d nodes index next → HoppedTo d nodes index (next + 1 + size)
hopped_more d nodes sizes index next size s within is more read sized so_far =
    let rest = drop (next + 1) nodes in
    let from = so_far.from in
    let n = sized.len in
    let here : size ≡ deeper s.depth rest =
    read ∙ get_or_default sizes next size 0 (omega arith) ∙ sized.each next from within ∙ size_here nodes next s within is in
    let fits = deeper_within s.depth rest in
    let left = length-drop (next + 1) nodes in
    let first : deeper d (drop next nodes) ≡ suc (deeper d rest) =
    ap (deeper d) (drop_more nodes next s within ∙ ap (λ (x : Node). x ∷ rest) (sym is)) ∙ deeper_yes d s rest more in
    let parts : deeper d rest ≡ size + deeper d (drop (next + 1 + size) nodes) =
    deeper_first d s.depth rest (omega arith) ∙ ap (λ (z : ℕ). z + deeper d (drop z rest)) (sym here) ∙ ap (λ (ss : List Node). size + deeper d ss) (drop_further nodes (next + 1) size) in
    let was = so_far.is in
    record { from = omega arith; to = omega arith; is = omega arith }

pub hopped_end : (d : ℕ) (nodes : List Node) (index next : ℕ) → length nodes ≤ next → HoppedTo d nodes index next
    → next - index - 1 ≡ deeper d (drop (index + 1) nodes)
hopped_end d nodes index next past so_far =
    let none : deeper d (drop next nodes) ≡ 0 = ap (deeper d) (drop_all next nodes past) ∙ deeper_empty d in
    let was = so_far.is in
    let from = so_far.from in
    omega arith

pub hopped_less : (d : ℕ) (nodes : List Node) (index next : ℕ) (s : Node) → next < length nodes → s ≡ get_or nodes next s → s.depth ≤ d → HoppedTo d nodes index next
    → next - index - 1 ≡ deeper d (drop (index + 1) nodes)
hopped_less d nodes index next s within is less so_far =
    let none : deeper d (drop next nodes) ≡ 0 =
    ap (deeper d) (drop_more nodes next s within ∙ ap (λ (x : Node). x ∷ drop (next + 1) nodes) (sym is)) ∙ deeper_no d s (drop (next + 1) nodes) less in
    let was = so_far.is in
    let from = so_far.from in
    omega arith

pub size_is : (nodes : List Node) (index size : ℕ) (s : Node) → index < length nodes → s ≡ get_or nodes index s
    → size ≡ deeper s.depth (drop (index + 1) nodes) → size ≡ size_of (drop index nodes)
size_is nodes index size s within is e = e ∙ sym (size_here nodes index s within is)

-- `SizedTo index nodes sizes` is that the sizes from `index` on are known, and `index` is no more
-- than the number of statements
pub record SizedTo (index : ℕ) (nodes : List Node) (sizes : List ℕ) : Type 0 where
  pub within : index ≤ length nodes
  pub sized : IsSized index nodes sizes

pub sized_none : (nodes : List Node) (sizes : List ℕ) → length sizes ≡ length nodes → SizedTo (length nodes) nodes sizes
sized_none nodes sizes len = record {
  within = omega arith;
  sized = record { len = len; each = λ j from within. absurd (omega arith) };
}

pub sized_more : (nodes : List Node) (old new : List ℕ) (index size : ℕ) → index + 1 ≤ length nodes → SizedTo (index + 1) nodes old
    → new ≡ set old index size → size ≡ size_of (drop index nodes) → SizedTo index nodes new
sized_more nodes old new index size within so_far is here =
    let was = so_far.sized in
    let n = was.len in
    let len : length new ≡ length nodes = ap length is ∙ length-set old index size ∙ n in
    record {
      within = omega arith;
      sized = record {
        len = len;
        each = λ j from l. split (get_or new j 0 ≡ size_of (drop j nodes)) index j
            (λ h. ap (λ (xs : List ℕ). get_or xs j 0) is ∙ get_or-set_other old index j size 0 (λ e. omega arith) ∙ was.each j (omega arith) l)
            (λ h. let same : j ≡ index = omega arith in
            ap (λ (xs : List ℕ). get_or xs j 0) is ∙ ap (λ (m : ℕ). get_or (set old index size) m 0) same ∙ get_or-set_same old index size 0 (omega arith)
            ∙ here ∙ ap (λ (m : ℕ). size_of (drop m nodes)) (sym same));
      };
    }
