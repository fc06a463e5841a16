-- Auxiliary: the invariant and the steps of the slow evaluator (used by proofs and invariants
-- only).
--
-- Its state is the answers found, `done`, and the stack of frames. A frame is a key whose rule
-- waits for the answer of the key that it asked.
use Rattle.std.specs.Prelude.{ℕ, ◌≡◌, ◌<◌, ◌+◌, ◌*◌, ◌^◌, cond, true, List, [], ◌∷◌, ◌++◌, length, Bool, false, slice_index_or}
use Rattle.std.specs.declared.cmp.Ordering.{Ordering}
use Rattle.std.specs.declared.cmp.Ordering.TheVariants.{Less}
use Rattle.std.specs.Ordering.{is_gt, is_eq}
use Rattle.pq_inputs.specs.Sources.{Sources}
use Rattle.pq_rules.specs.declared.turn.Turn.{Turn}
use Rattle.pq_rules.specs.declared.turn.Turn.TheVariants.{Ask, Done}
use Rattle.pq_rules.specs.declared.turn.Answer.TheVariants.{Value, Cycle}
use Rattle.pq_rules.specs.aux.AnswerTable.{Finished, Places, Placed, finished, done_keys, Covers}
use Rattle.pq_rules.specs.declared.scratch.Frame.{Frame}
use Rattle.pq_rules.specs.Turns.{Instance, Machine, over}
use Rattle.pq_rules.specs.Relations.{Each, In}
use Rattle.pq_rules.specs.Value.{Means, ComesTo}

-- `frame_keys fs` is the keys of the frames
abbrev pub frame_keys : {K P : Type 0} → List (Frame K P) → List K
frame_keys [] = []
frame_keys (f ∷ fs) = f.key ∷ frame_keys fs

-- `IsLeastAt order frames i` is that the key of frame `i` is greater than no other frame's
unfoldable pub IsLeastAt : {K P : Type 0} → (K → K → Ordering) → List (Frame K P) → ℕ → Type 0
IsLeastAt {K} {P} order frames i =
    (j : ℕ) (d : Frame K P) → j < length frames
    → is_gt (order (slice_index_or frames i d).key (slice_index_or frames j d).key) ≡ false

-- `Distinct xs` is that no key is in `xs` twice
unfoldable pub Distinct : {K : Type 0} → List K → Type 0
Distinct [] = Unit {0}
Distinct (x ∷ xs) = (In x xs → ⊥) × Distinct xs

-- `RotatedToLeast order xs ys` is that `ys` is `xs` rotated so that its least key is the first
unfoldable pub RotatedToLeast : {K : Type 0} → (K → K → Ordering) → List K → List K → Type 0
RotatedToLeast {K} order xs ys =
    (front : List K) × (z : K) × (back : List K) × (xs ≡ front ++ z ∷ back) × (ys ≡ z ∷ (back ++ front))
    × Each (λ x. order z x ≡ Less) (back ++ front)

-- `Sits m f` is that the rule of the frame's key, by right reads, asked the frame's question
pub record Sits {K P V : Type 0} (m : Instance K P V) (f : Frame K P) : Type 0 where
  pub comes : ComesTo m f.key (Ask f.asked f.part)
  pub high : 0 < m.level f.key
  pub fits : ((m.left f.part).0 < 2 ^ 32) × ((m.left f.part).1 < 2 ^ 64)

-- `LinksTo f fs` is that the frame `f` asked the key of the first of `fs`, if there is one
abbrev pub LinksTo : {K P : Type 0} → Frame K P → List (Frame K P) → Type 0
LinksTo f [] = Unit {0}
LinksTo f (g ∷ gs) = f.asked ≡ g.key

-- `Linked m fs` is that each frame sits at its question, and asked the key of the frame after it
unfoldable pub Linked : {K P V : Type 0} → Instance K P V → List (Frame K P) → Type 0
Linked m [] = Unit {0}
Linked m (f ∷ fs) = Sits m f × LinksTo f fs × Linked m fs

-- `seen done stack` is the keys that have an answer or wait
abbrev pub seen : {K P V : Type 0} → List (Finished K V) → List (Frame K P) → List K
seen done stack = done_keys done ++ frame_keys stack

-- `IsInvariant m reach root done stack` is the invariant of an evaluation of `root`: the answers
-- are right, the frames are linked and of distinct keys in `reach`, and `root` has its answer or
-- waits
pub record IsInvariant {K P V : Type 0} (m : Instance K P V) (reach : List K) (root : K) (done : List (Finished K V)) (stack : List (Frame K P)) : Type 0 where
  pub answered : Each (λ f. Means m f.key f.answer) done
  pub linked : Linked m stack
  pub distinct : Distinct (frame_keys stack)
  pub rooted : In root (seen done stack)
  pub within : Each (λ k. In k reach) (frame_keys stack)

-- `has order x ys` is whether a key of `ys` compares as equal to `x`
unfoldable pub has : {K : Type 0} → (K → K → Ordering) → K → List K → Bool
has order x [] = false
has order x (y ∷ ys) = cond (is_eq (order x y)) true (has order x ys)

-- `unseen order xs ys` is the count of the keys of `xs` that `ys` lacks
unfoldable pub unseen : {K : Type 0} → (K → K → Ordering) → List K → List K → ℕ
unseen order [] ys = 0
unseen order (x ∷ xs) ys = cond (has order x ys) 0 1 + unseen order xs ys

-- `left_number p` is the pair `p` as one number, which falls as the pair does
abbrev pub left_number : ℕ × ℕ → ℕ
left_number p = p.0 * (2 ^ 64) + p.1

-- `top_left m stack` is what the rule of the last frame has left
unfoldable pub top_left : {K P V : Type 0} → Instance K P V → List (Frame K P) → ℕ
top_left m [] = 0
top_left m (f ∷ []) = left_number (m.left f.part)
top_left m (f ∷ (g ∷ gs)) = top_left m (g ∷ gs)

-- `weight m reach done stack` is the number that each step lowers: first the keys of `reach` that
-- are not seen, then the frames, then what the last frame's rule has left
unfoldable pub weight : {K P V : Type 0} → Instance K P V → List K → List (Finished K V) → List (Frame K P) → ℕ
weight m reach done stack =
    (2 * unseen m.order reach (seen done stack) + length stack) * (2 ^ 97) + top_left m stack

-- `ring_entries ring fs` is the frames' keys with `ring` as their answer, the last key first
unfoldable pub ring_entries : {K P V : Type 0} → List K → List (Frame K P) → List (Finished K V)
ring_entries ring [] = []
ring_entries ring (f ∷ fs) = ring_entries ring fs ++ record { key = f.key; answer = Cycle ring } ∷ []

-- `RingDone ring place done stack after rest` is that the frames from `place` on were popped,
-- `rest` being left, and that `after` has their keys with `ring` besides the answers of `done`
pub record RingDone {K P V : Type 0} (ring : List K) (place : ℕ) (done : List (Finished K V)) (stack : List (Frame K P))
    (after : List (Finished K V)) (rest : List (Frame K P)) : Type 0 where
  pub popped : List (Frame K P)
  pub whole : stack ≡ rest ++ popped
  pub place_is : length rest ≡ place
  pub added : Covers (done ++ ring_entries ring popped) after

-- `Applies m key turn done stack after rest` is that the turn of `key` was applied: a question
-- became a frame, a value an answer
unfoldable pub Applies : {K P V : Type 0} → Instance K P V → K → Turn K P V → List (Finished K V) → List (Frame K P)
    → List (Finished K V) → List (Frame K P) → Type 0
Applies m key (Ask asked part) done stack after rest =
    (after ≡ done) × (rest ≡ stack ++ record { key = key; asked = asked; part = part } ∷ [])
    × (((m.left part).0 < 2 ^ 32) × ((m.left part).1 < 2 ^ 64))
Applies m key (Done value) done stack after rest =
    Covers (done ++ record { key = key; answer = Value value } ∷ []) after × (rest ≡ stack)

-- `GoesOn m reach root done stack after rest` is that the invariant holds after a step, which
-- lowered the weight
abbrev pub GoesOn : {K P V : Type 0} → Instance K P V → List K → K → List (Finished K V) → List (Frame K P)
    → List (Finished K V) → List (Frame K P) → Type 0
GoesOn m reach root done stack after rest =
    IsInvariant m reach root after rest × (weight m reach after rest < weight m reach done stack)

-- `Holds order machine reach files root found stack` is the invariant in a call of `from_scratch`
-- for the key `root` at the sources `files`: the frames' keys are also found at their places
pub record Holds {K P V : Type 0} (order : K → K → Ordering) (machine : Machine K P V) (reach : Sources → K → List K) (files : Sources) (root : K)
    (found : Places K V) (stack : List (Frame K P)) : Type 0 where
  pub invariant : IsInvariant (over order machine files) (reach files root) root (finished found) stack
  pub placed : Placed order found.started (frame_keys stack)

-- `Proceeds order machine reach files root found stack after rest` is that a step of such a call
-- went on from `found` and `stack` to `after` and `rest`
pub record Proceeds {K P V : Type 0} (order : K → K → Ordering) (machine : Machine K P V) (reach : Sources → K → List K) (files : Sources) (root : K)
    (found : Places K V) (stack : List (Frame K P)) (after : Places K V) (rest : List (Frame K P)) : Type 0 where
  pub goes : GoesOn (over order machine files) (reach files root) root (finished found) stack (finished after) rest
  pub placed : Placed order after.started (frame_keys rest)

-- `IsNew machine key done` is that `key` has a rule and no answer yet
pub record IsNew {K P V : Type 0} (m : Machine K P V) (key : K) (done : List (Finished K V)) : Type 0 where
  pub high : 0 < m.level key
  pub no_answer : In key (done_keys done) → ⊥

-- `Grows m before after` is that `after` has the keys of `before`, and right answers where `before`
-- does
pub record Grows {K P V : Type 0} (m : Instance K P V) (before after : List (Finished K V)) : Type 0 where
  pub right : Each (λ f. Means m f.key f.answer) before → Each (λ f. Means m f.key f.answer) after
  pub keys : (k : K) → In k (done_keys before) → In k (done_keys after)
