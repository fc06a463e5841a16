-- What closes a stack: its last entry, which is the innermost, goes while it is not less deep.
use Rattle.std.proofs.Common.{◌≡◌, ℕ, suc, ◌-◌, ◌<◌, true, false, nat_lt, length, get_or, take, reverse, List, [], ◌∷◌, refl, sym, ap, ◌∙◌, arith}
use Rattle.std.proofs.Math.Seq.{take-suc}
use Rattle.std.proofs.lemmas.List.{reverse-append, take_all}
use Rattle.std.proofs.lemmas.Bool.{cond-true, cond-false}
use Rattle.pq_syntax.specs.Stacks.{closed}

-- the last item of a list, in the form that `last` and `pop` give
pub reverse_at_last : {X : Type 0} (xs : List X) (x : X) → 0 < length xs → x ≡ get_or xs (length xs - 1) x
    → reverse xs ≡ x ∷ reverse (take (length xs - 1) xs)
reverse_at_last xs x some is =
    let all : take (suc (length xs - 1)) xs ≡ xs = take_all (suc (length xs - 1)) xs (omega arith) in
    ap reverse (sym all ∙ take-suc xs (length xs - 1) x (omega arith))
    ∙ reverse-append (take (length xs - 1) xs) (get_or xs (length xs - 1) x ∷ [])
    ∙ ap (λ y. y ∷ reverse (take (length xs - 1) xs)) (sym is)

-- an innermost entry that is less deep stays
pub closed_stop : {T : Type 0} (depth : ℕ) (es : List (ℕ × T)) (e : ℕ × T) → 0 < length es → e ≡ get_or es (length es - 1) e
    → nat_lt e.0 depth ≡ true → closed depth (reverse es) ≡ reverse es
unfolding closed
closed_stop depth es e some is less =
    let ends = reverse_at_last es e some is in
    ap (closed depth) ends ∙ cond-true (nat_lt e.0 depth) _ _ less ∙ sym ends

-- another goes
pub closed_more : {T : Type 0} (depth : ℕ) (es : List (ℕ × T)) (e : ℕ × T) → 0 < length es → e ≡ get_or es (length es - 1) e
    → nat_lt e.0 depth ≡ false → closed depth (reverse (take (length es - 1) es)) ≡ closed depth (reverse es)
unfolding closed
closed_more depth es e some is not_less =
    sym (ap (closed depth) (reverse_at_last es e some is) ∙ cond-false (nat_lt e.0 depth) _ _ not_less)

-- no entries stay as they are
pub closed_none : {T : Type 0} (depth : ℕ) (es : List (ℕ × T)) → length es ≡ 0 → closed depth (reverse es) ≡ reverse es
unfolding closed
closed_none depth [] none = refl
closed_none depth (e ∷ es) none = absurd (omega arith)
