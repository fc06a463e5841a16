-- One more import: what the imports with links pass on, show and reach, and the part of the query
-- of links.
use Rattle.std.proofs.Common.{◌≡◌, ℕ, zero, suc, cond, List, [], ◌∷◌, ◌++◌, length, Some, refl, sym, ap, ◌∙◌, append-nil, append_assoc, arith}
use Rattle.std.specs.Prelude.{drop, slice_get}
use Rattle.std.proofs.lemmas.List.{length-append}
use Rattle.pq_links.specs.Visibility.{firsts, passed_on, shown, reached, links_by}
use Rattle.pq_links.specs.aux.Joined.{join_read}
use Rattle.pq_links.specs.declared.links.Import.{Import}
use Rattle.pq_links.specs.declared.links.Links.{Links}

pub drop_at : {A : Type 0} (n : ℕ) (xs : List A) (x : A) → slice_get xs n ≡ Some x → drop n xs ≡ x ∷ drop (suc n) xs
drop_at zero [] x e = cc
drop_at zero (y ∷ ys) x e = let is : y ≡ x = cc in ap (λ z. z ∷ ys) is
drop_at (suc n) [] x e = cc
drop_at (suc n) (y ∷ ys) x e = drop_at n ys x e

-- the first of those that are left
pub first_left : {A : Type 0} (n : ℕ) (xs : List A) → slice_get xs n ≡ slice_get (drop n xs) 0
first_left zero xs = refl
first_left (suc n) [] = refl
first_left (suc n) (y ∷ ys) = first_left n ys

-- the part after the links of the first import that is left were read
pub join_read_next : (imports : List Import) (pairs : List (Import × Links)) (i : Import) (l : Links) → slice_get imports (length pairs) ≡ Some i
    → (drop (length (pairs ++ (i, l) ∷ [])) imports, pairs ++ (i, l) ∷ []) ≡ join_read (drop (length pairs) imports, pairs) l
join_read_next imports pairs i l e =
    let more : length (pairs ++ (i, l) ∷ []) ≡ suc (length pairs) = length-append pairs ((i, l) ∷ []) ∙ omega arith in
    ap (λ (n : ℕ). (drop n imports, pairs ++ (i, l) ∷ [])) more
    ∙ ap (λ (is : List Import). join_read (is, pairs) l) (sym (drop_at (length pairs) imports i e))

abbrev pub by_lists : List (List ℕ) → List (List ℕ) → List (List ℕ) → Links
by_lists x y z = record { exports = x; visible = y; reach = z }

pub passed_last : (es : List (Import × Links)) (e : Import × Links) → passed_on (es ++ e ∷ []) ≡ passed_on es ++ cond e.0.is_public e.1.exports []
passed_last [] e = append-nil (cond e.0.is_public e.1.exports [])
passed_last (x ∷ xs) e = ap (λ ys. cond x.0.is_public x.1.exports [] ++ ys) (passed_last xs e) ∙ sym (append_assoc (cond x.0.is_public x.1.exports []) (passed_on xs) (cond e.0.is_public e.1.exports []))

pub shown_last : (es : List (Import × Links)) (e : Import × Links) → shown (es ++ e ∷ []) ≡ shown es ++ e.1.exports
shown_last [] e = append-nil e.1.exports
shown_last (x ∷ xs) e = ap (λ ys. x.1.exports ++ ys) (shown_last xs e) ∙ sym (append_assoc x.1.exports (shown xs) e.1.exports)

pub reached_last : (es : List (Import × Links)) (e : Import × Links) → reached (es ++ e ∷ []) ≡ reached es ++ e.1.reach
reached_last [] e = append-nil e.1.reach
reached_last (x ∷ xs) e = ap (λ ys. x.1.reach ++ ys) (reached_last xs e) ∙ sym (append_assoc x.1.reach (reached xs) e.1.reach)

-- the links by the imports so far and one more
pub links_last : (f : List ℕ) (pairs : List (Import × Links)) (i : Import) (l : Links) (x y z : List (List ℕ))
    → x ≡ firsts (f ∷ (passed_on pairs ++ cond i.is_public l.exports [])) → y ≡ firsts (f ∷ (shown pairs ++ l.exports)) → z ≡ firsts (f ∷ (reached pairs ++ l.reach))
    → by_lists x y z ≡ links_by f (pairs ++ (i, l) ∷ [])
links_last f pairs i l x y z a b c =
    ap (λ u. by_lists u y z) (a ∙ ap (λ ns. firsts (f ∷ ns)) (sym (passed_last pairs (i, l))))
    ∙ ap (λ u. by_lists (firsts (f ∷ passed_on (pairs ++ (i, l) ∷ []))) u z) (b ∙ ap (λ ns. firsts (f ∷ ns)) (sym (shown_last pairs (i, l))))
    ∙ ap (λ u. by_lists (firsts (f ∷ passed_on (pairs ++ (i, l) ∷ []))) (firsts (f ∷ shown (pairs ++ (i, l) ∷ []))) u) (c ∙ ap (λ ns. firsts (f ∷ ns)) (sym (reached_last pairs (i, l))))
