-- A name is the part of a package before a dot exactly where it is among its prefixes; and that it
-- is a package or such a part is a test of both names with a dot after them.
use Rattle.std.proofs.Common.{◌≡◌, ℕ, Bool, true, false, cond, ◌||◌, ◌&&◌, nat_eq, List, [], ◌∷◌, ◌++◌, map, refl, sym, ap, ◌∙◌}
use Rattle.std.specs.Prelude.{bytes_eq, codes}
use Rattle.std.specs.List.{starts_with}
use Rattle.std.proofs.lemmas.Bool.Decides.{same_from_decides, Decides-eqb, Decides-like}
use Rattle.pq_schema.specs.Resolution.{prefixes}
use Rattle.pq_schema.specs.aux.InPackage.{dotted}
use Rattle.pq_schema.specs.aux.Scopes.{is_among}
use Rattle.pq_schema.proofs.Meanings.{covers}

same_turned : (m n : ℕ) → nat_eq m n ≡ nat_eq n m
same_turned m n = same_from_decides (nat_eq m n) (nat_eq n m) (Decides-eqb m n) (Decides-like (nat_eq n m) (λ e. sym e) (λ e. sym e) (Decides-eqb n m))

and_true : (b : Bool) → (b && true) ≡ b
and_true true = refl
and_true false = refl

or_false : (b : Bool) → (b || false) ≡ b
or_false true = refl
or_false false = refl

or_grouped : (a b c : Bool) → ((a || b) || c) ≡ (a || (b || c))
or_grouped true b c = refl
or_grouped false b c = refl

and_over_or : (a b c : Bool) → ((a && b) || (a && c)) ≡ (a && (b || c))
and_over_or true b c = refl
and_over_or false b c = refl

pub among_append : (name : List ℕ) (xs ys : List (List ℕ)) → is_among name (xs ++ ys) ≡ (is_among name xs || is_among name ys)
among_append name [] ys = refl
among_append name (x ∷ xs) ys =
    ap (λ (b : Bool). bytes_eq x name || b) (among_append name xs ys)
    ∙ sym (or_grouped (bytes_eq x name) (is_among name xs) (is_among name ys))

none_empty : (c : ℕ) (ss : List (List ℕ)) → is_among [] (map (λ s. c ∷ s) ss) ≡ false
none_empty c [] = refl
none_empty c (s ∷ ss) = none_empty c ss

among_longer : (c n : ℕ) (ns : List ℕ) (ss : List (List ℕ)) → is_among (n ∷ ns) (map (λ s. c ∷ s) ss) ≡ (nat_eq c n && is_among ns ss)
among_longer c n ns [] = none (nat_eq c n)
  where
    none : (b : Bool) → false ≡ (b && false)
    none true = refl
    none false = refl
among_longer c n ns (s ∷ ss) =
    ap (λ (b : Bool). (nat_eq c n && bytes_eq s ns) || b) (among_longer c n ns ss)
    ∙ and_over_or (nat_eq c n) (bytes_eq s ns) (is_among ns ss)

empty_if : (b : Bool) → is_among [] (cond b ([] ∷ []) []) ≡ b
empty_if true = refl
empty_if false = refl

longer_if : (b : Bool) (n : ℕ) (ns : List ℕ) → is_among (n ∷ ns) (cond b ([] ∷ []) []) ≡ false
longer_if true n ns = refl
longer_if false n ns = refl

pub starts_among : (p name : List ℕ) → starts_with nat_eq p (name ++ codes ".") ≡ is_among name (prefixes p)
unfolding prefixes
starts_among [] [] = refl
starts_among [] (n ∷ ns) = refl
starts_among (c ∷ cs) [] =
    and_true (nat_eq 46 c)
    ∙ same_turned 46 c
    ∙ sym (among_append [] (map (λ s. c ∷ s) (prefixes cs)) (cond (nat_eq c 46) ([] ∷ []) [])
    ∙ ap (λ (b : Bool). b || is_among [] (cond (nat_eq c 46) ([] ∷ []) [])) (none_empty c (prefixes cs))
    ∙ empty_if (nat_eq c 46))
starts_among (c ∷ cs) (n ∷ ns) =
    ap (λ (b : Bool). nat_eq n c && b) (starts_among cs ns)
    ∙ ap (λ (b : Bool). b && is_among ns (prefixes cs)) (same_turned n c)
    ∙ sym (among_append (n ∷ ns) (map (λ s. c ∷ s) (prefixes cs)) (cond (nat_eq c 46) ([] ∷ []) [])
    ∙ ap (λ (b : Bool). is_among (n ∷ ns) (map (λ s. c ∷ s) (prefixes cs)) || b) (longer_if (nat_eq c 46) n ns)
    ∙ or_false (is_among (n ∷ ns) (map (λ s. c ∷ s) (prefixes cs)))
    ∙ among_longer c n ns (prefixes cs))

-- ---- the test of a package, with a dot after each name

and_false : (b : Bool) → (b && false) ≡ false
and_false true = refl
and_false false = refl

none_inside : (ns : List ℕ) → starts_with nat_eq [] (ns ++ codes ".") ≡ false
none_inside [] = refl
none_inside (n ∷ ns) = refl

pub covers_dotted : (p name : List ℕ) → starts_with nat_eq (dotted p) (dotted name) ≡ covers p name
covers_dotted [] [] = refl
covers_dotted [] (n ∷ ns) = ap (λ (b : Bool). nat_eq n 46 && b) (none_inside ns) ∙ and_false (nat_eq n 46)
covers_dotted (c ∷ cs) [] = refl
covers_dotted (c ∷ cs) (n ∷ ns) =
    ap (λ (b : Bool). nat_eq n c && b) (covers_dotted cs ns)
    ∙ sym (and_over_or (nat_eq n c) (bytes_eq cs ns) (starts_with nat_eq cs (ns ++ codes ".")))
    ∙ ap (λ (b : Bool). (b && bytes_eq cs ns) || (nat_eq n c && starts_with nat_eq cs (ns ++ codes "."))) (same_turned n c)
