-- Changes that all fit leave what they leave when they are cut, and where a text may be cut.
use Rattle.std.proofs.Common.{◌≡◌, ℕ, ◌+◌, ◌≤◌, ◌<◌, Bool, true, false, cond, List, [], ◌∷◌, length, drop, get_or, max, nat_lt, Option, Some, None, refl, sym, ◌∙◌, ap, arith}
use Rattle.std.specs.Prelude.{unwrap_or}
use Rattle.std.proofs.lemmas.List.{drop_all, drop_more}
use Rattle.std.proofs.lemmas.Bool.Decides.{nat_tests}
use Rattle.std.specs.List.{replace_range}
use Rattle.pq_lex.specs.declared.position.Position.{Position}
use Rattle.pq_lex.specs.Lines.{IsOffset}
use Rattle.pq_lex.specs.TextChanges.{TextChangeView, offset_of, replace_between, after_change, apply}
use Rattle.pq_lex.proofs.ComingBack.{one}
use Rattle.pq_lex.proofs.LineSearch.{offset_is_known}
use Rattle.pq_session.specs.Cuts.{cut_offset, after_cut, after_cuts}

-- ---- changes that fit

-- two offsets in order
later : (i j : ℕ) → nat_lt j i ≡ false → max i j ≡ j
later i j h = grind (arith, nat_tests)

by_order : (text new after : List ℕ) (i j : ℕ) (less : Bool) → nat_lt j i ≡ less → cond less None (Some (replace_range text i j new)) ≡ Some after → replace_range text i (max i j) new ≡ after
by_order text new after i j true h e = absurd (cc e)
by_order text new after i j false h e = let same : replace_range text i j new ≡ after = cc e in ap (λ (k : ℕ). replace_range text i k new) (later i j h) ∙ same

between_fits : (text new after : List ℕ) (n : ℕ) (i j : Option ℕ) → replace_between text i j new ≡ Some after → replace_range text (unwrap_or i n) (max (unwrap_or i n) (unwrap_or j n)) new ≡ after
between_fits text new after n None j e = absurd (cc e)
between_fits text new after n (Some i) None e = absurd (cc e)
between_fits text new after n (Some i) (Some j) e = by_order text new after i j (nat_lt j i) refl e

by_range : (text after new : List ℕ) (range : Option (Position × Position)) → after_change (Some text) (record { range = range; text = new }) ≡ Some after → after_cut text (record { range = range; text = new }) ≡ after
by_range text after new None e = cc e
by_range text after new (Some r) e = between_fits text new after (length text) (offset_of text r.0) (offset_of text r.1) e

one_fits : (text after : List ℕ) (c : TextChangeView) → after_change (Some text) c ≡ Some after → after_cut text c ≡ after
one_fits text after c e = by_range text after c.text c.range e

first_fits : (text after : List ℕ) (c : TextChangeView) (cs : List TextChangeView) (rest : (next : List ℕ) → apply (Some next) cs ≡ Some after → after_cuts next cs ≡ after) (next : Option (List ℕ))
    → after_change (Some text) c ≡ next → (elim next [ None ↦ None | Some bytes ↦ apply (Some bytes) cs ]) ≡ Some after → after_cuts (after_cut text c) cs ≡ after
first_fits text after c cs rest None is e = absurd (cc e)
first_fits text after c cs rest (Some next) is e = ap (λ (t : List ℕ). after_cuts t cs) (one_fits text next c is) ∙ rest next e

-- changes that all fit are not cut
pub all_fit : (text after : List ℕ) (cs : List TextChangeView) → apply (Some text) cs ≡ Some after → after_cuts text cs ≡ after
unfolding apply after_cuts
all_fit text after [] e = cc e
all_fit text after (c ∷ cs) e = first_fits text after c cs (λ next h. all_fit next after cs h) (after_change (Some text) c) refl e

-- ---- where a text is cut

pub cut_known : (text : List ℕ) (p : Position) (a : Option ℕ) → IsOffset text p a → unwrap_or a (length text) ≡ cut_offset text p
cut_known text p a found = ap (λ (o : Option ℕ). unwrap_or o (length text)) (one text p a (offset_of text p) found (offset_is_known text p))

-- ---- one change after the other

pub one_more : (text next all : List ℕ) (cs : List TextChangeView) (k : ℕ) (c : TextChangeView) → k < length cs → c ≡ get_or cs k c → next ≡ after_cut text c → after_cuts text (drop k cs) ≡ all → after_cuts next (drop (k + 1) cs) ≡ all
unfolding after_cuts
one_more text next all cs k c less is made so_far =
    ap (λ (t : List ℕ). after_cuts t (drop (k + 1) cs)) made
    ∙ ap (λ (d : TextChangeView). after_cuts (after_cut text d) (drop (k + 1) cs)) is
    ∙ sym (ap (after_cuts text) (drop_more cs k c less))
    ∙ so_far

pub no_more : (text all : List ℕ) (cs : List TextChangeView) (k : ℕ) → length cs ≤ k → after_cuts text (drop k cs) ≡ all → text ≡ all
unfolding after_cuts
no_more text all cs k le so_far = sym (ap (after_cuts text) (drop_all k cs le)) ∙ so_far
