-- One step of a walk over the statements that are left of a body.
use Rattle.std.proofs.Common.{◌≡◌, ℕ, suc, ◌+◌, ◌<◌, ◌≤◌, true, false, nat_lt, nat_eq, length, get_or, drop, List, [], ◌∷◌, refl, sym, ap, ◌∙◌, arith, ◌-◌, take, add-zero, add-one, length-drop}
use Rattle.std.proofs.lemmas.Bool.Decides.{nat_tests}
use Rattle.std.proofs.lemmas.List.{drop_all, drop_more, get_or_default, take_all}
use Rattle.std.proofs.lemmas.Bool.{cond-true, cond-false}
use Rattle.pq_syntax.specs.declared.tree.Node.{Node}
use Rattle.pq_proto.specs.Bodies.{Body, Empty, Holds, body_at}
use Rattle.pq_proto.specs.aux.Rests.{IsLast, IsNext}

-- `SkippedTo d nodes i` is that the first `i` of `nodes` are deeper than `d`
pub record SkippedTo (d : ℕ) (nodes : List Node) (i : ℕ) : Type 0 where
  pub is : (n : ℕ) → body_at d n nodes ≡ body_at d (n + i) (drop i nodes)

pub skipped_none : (d : ℕ) (nodes : List Node) → SkippedTo d nodes 0
skipped_none d nodes = record { is = λ n. ap (λ (m : ℕ). body_at d m nodes) (sym (add-zero n)) }

-- the statements left begin with `s`
front : (nodes : List Node) (i : ℕ) (s : Node) → i < length nodes → s ≡ get_or nodes i s → drop i nodes ≡ s ∷ drop (i + 1) nodes
front nodes i s within is = drop_more nodes i s within ∙ ap (λ (x : Node). x ∷ drop (i + 1) nodes) (sym is)

pub body_deeper : (d n : ℕ) (s : Node) (ss : List Node) → d < s.depth → body_at d n (s ∷ ss) ≡ body_at d (suc n) ss
unfolding body_at
body_deeper d n s ss more =
    let not_less : nat_lt s.depth d ≡ false = grind (arith, nat_tests) in
    let not_same : nat_eq s.depth d ≡ false = grind (arith, nat_tests) in
    cond-false (nat_lt s.depth d) _ _ not_less ∙ cond-false (nat_eq s.depth d) _ _ not_same

pub less : (d n : ℕ) (s : Node) (ss : List Node) → s.depth < d → body_at d n (s ∷ ss) ≡ Empty
unfolding body_at
less d n s ss h =
    let is_less : nat_lt s.depth d ≡ true = grind (arith, nat_tests) in
    cond-true (nat_lt s.depth d) _ _ is_less

pub same : (d n : ℕ) (s : Node) (ss : List Node) → s.depth ≡ d
    → body_at d n (s ∷ ss) ≡ Holds (record { number = n; node = s }) (body_at (suc d) (suc n) ss) (body_at d (suc n) ss)
unfolding body_at
same d n s ss h =
    let not_less : nat_lt s.depth d ≡ false = grind (arith, nat_tests) in
    let is_same : nat_eq s.depth d ≡ true = grind (arith, nat_tests) in
    cond-false (nat_lt s.depth d) _ _ not_less ∙ cond-true (nat_eq s.depth d) _ _ is_same

pub skipped_more : (d : ℕ) (nodes : List Node) (i : ℕ) (s : Node) → i < length nodes → s ≡ get_or nodes i s → d < s.depth
    → SkippedTo d nodes i → SkippedTo d nodes (i + 1)
skipped_more d nodes i s within is more so_far = record {
  is = λ n. so_far.is n ∙ ap (body_at d (n + i)) (front nodes i s within is) ∙ body_deeper d (n + i) s (drop (i + 1) nodes) more
      ∙ ap (λ (m : ℕ). body_at d m (drop (i + 1) nodes)) (omega arith);
}

pub ends_less : (d : ℕ) (nodes : List Node) (i : ℕ) (s : Node) → i < length nodes → s ≡ get_or nodes i s → s.depth < d
    → SkippedTo d nodes i → IsLast d nodes
ends_less d nodes i s within is h so_far = record {
  is = λ n. so_far.is n ∙ ap (body_at d (n + i)) (front nodes i s within is) ∙ less d (n + i) s (drop (i + 1) nodes) h;
}

nothing : (d n : ℕ) → body_at d n [] ≡ Empty
unfolding body_at
nothing d n = refl

pub ends_all : (d : ℕ) (nodes : List Node) (i : ℕ) → length nodes ≤ i → SkippedTo d nodes i → IsLast d nodes
ends_all d nodes i past so_far = record {
  is = λ n. so_far.is n ∙ ap (body_at d (n + i)) (drop_all i nodes past) ∙ nothing d (n + i);
}

pub next_at : (d : ℕ) (nodes : List Node) (i : ℕ) (s : Node) → i < length nodes → s ≡ get_or nodes i s → s.depth ≡ d
    → SkippedTo d nodes i → IsNext d nodes i
next_at d nodes i s within is h so_far = record {
  within = within;
  at = λ t t_is. ap (λ (x : Node). x.depth) (t_is ∙ get_or_default nodes i t s within ∙ sym is) ∙ h;
  is = λ n t t_is.
      let one : t ≡ s = t_is ∙ get_or_default nodes i t s within ∙ sym is in
      so_far.is n ∙ ap (body_at d (n + i)) (front nodes i t within t_is)
      ∙ same d (n + i) t (drop (i + 1) nodes) (ap (λ (x : Node). x.depth) one ∙ h);
}

-- what `IsNext` says of the statement `s`, where the rest of the file is written as a slice
pub next_body : (d number k e : ℕ) (nodes rest : List Node) (s : Node) → IsNext d nodes k → s ≡ get_or nodes k s → e ≡ s.depth
    → rest ≡ drop (k + 1) nodes
    → body_at d number nodes ≡ Holds (record { number = number + k; node = s }) (body_at (e + 1) (number + k + 1) rest) (body_at d (number + k + 1) rest)
next_body d number k e nodes rest s next is depth rest_is =
    let inner : body_at (suc d) (suc (number + k)) (drop (k + 1) nodes) ≡ body_at (e + 1) (number + k + 1) rest =
    ap (λ (m : ℕ). body_at m (suc (number + k)) (drop (k + 1) nodes)) (sym (add-one d) ∙ ap (λ (m : ℕ). m + 1) (sym (depth ∙ next.at s is)))
    ∙ ap (λ (m : ℕ). body_at (e + 1) m (drop (k + 1) nodes)) (sym (add-one (number + k))) ∙ ap (body_at (e + 1) (number + k + 1)) (sym rest_is) in
    let later : body_at d (suc (number + k)) (drop (k + 1) nodes) ≡ body_at d (number + k + 1) rest =
    ap (λ (m : ℕ). body_at d m (drop (k + 1) nodes)) (sym (add-one (number + k))) ∙ ap (body_at d (number + k + 1)) (sym rest_is) in
    next.is number s is
    ∙ ap (λ (b : Body). Holds (record { number = number + k; node = s }) b (body_at d (suc (number + k)) (drop (k + 1) nodes))) inner
    ∙ ap (λ (b : Body). Holds (record { number = number + k; node = s }) (body_at (e + 1) (number + k + 1) rest) b) later

-- a slice to the end
pub rest_is : (nodes : List Node) (k : ℕ) → take (length nodes - k) (drop k nodes) ≡ drop k nodes
rest_is nodes k = take_all (length nodes - k) (drop k nodes) (omega (arith, length-drop k nodes))
