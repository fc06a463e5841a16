-- One step of a list of changes: `apply` of the text so far and of the changes left is `apply` of all.
use Rattle.std.proofs.Common.{◌≡◌, ℕ, ◌+◌, ◌<◌, ◌≤◌, ◌==◌, Bool, true, false, not, List, [], ◌∷◌, length, drop, get_or, Option, Some, None, is_some, refl, sym, ◌∙◌, ap, arith}
use Rattle.std.proofs.lemmas.Bool.Decides.{nat_tests}
use Rattle.std.proofs.lemmas.List.{drop_all, drop_more}
use Rattle.pq_lex.specs.TextChanges.{TextChangeView, after_change, apply}

-- `after cs t` is the text after the changes `cs`, where `t` is what the change before them gave
abbrev pub after : List TextChangeView → Option (List ℕ) → Option (List ℕ)
after cs t = elim t [ None ↦ None | Some bytes ↦ apply (Some bytes) cs ]

pub one_change : (text : Option (List ℕ)) (cs : List TextChangeView) (k : ℕ) (c : TextChangeView) (t : Option (List ℕ)) → k < length cs → c ≡ get_or cs k c → t ≡ after_change text c → after (drop (k + 1) cs) t ≡ apply text (drop k cs)
unfolding apply
one_change text cs k c t less is e =
    ap (after (drop (k + 1) cs)) e
    ∙ ap (λ d. after (drop (k + 1) cs) (after_change text d)) is
    ∙ sym (ap (apply text) (drop_more cs k c less))

pub no_change : (text : Option (List ℕ)) (cs : List TextChangeView) (k : ℕ) → length cs ≤ k → text ≡ apply text (drop k cs)
unfolding apply
no_change text cs k le = ap (apply text) (sym (drop_all k cs le))

-- a first change of the whole text gives the same, whatever the text before it is
pub whole_first : (cs : List TextChangeView) (c : TextChangeView) → 0 < length cs → c ≡ get_or cs 0 c → c.range ≡ None → (text other : Option (List ℕ)) → apply text cs ≡ apply other cs
unfolding apply
whole_first [] c some is none text other = absurd (omega (arith, some))
whole_first (d ∷ cs) c some is none text other =
    let e : d.range ≡ None = ap (λ x. x.range) (sym is) ∙ none in
    ap (after cs) (whole text e) ∙ sym (ap (after cs) (whole other e))
  where
    whole : (text : Option (List ℕ)) → d.range ≡ None → after_change text d ≡ Some d.text
    whole text e = rw e refl

pub some_first : (n : ℕ) → false ≡ (n == 0) → 0 < n
some_first n h = grind (arith, nat_tests)

pub none_of : {X : Type 0} (o : Option X) (b : Bool) → is_some o ≡ not b → b ≡ true → o ≡ None
none_of None b e h = refl
none_of (Some x) true e h = cc
none_of (Some x) false e h = cc
