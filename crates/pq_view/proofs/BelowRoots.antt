-- Names below folders.
use Rattle.std.proofs.Common.{◌≡◌, ◌≢◌, ℕ, suc, List, ◌∷◌, ◌++◌, length, drop, Bool, true, false, cond, refl, sym, ◌∙◌, ap, subst, add-one, lit<}
use Rattle.std.specs.Prelude.{Option, Some, None, not, ◌&&◌, bytes_eq, MatchOption}
use Rattle.std.specs.Borrow.{Bor}
use Rattle.std.specs.Option.{option_copied}
use Rattle.std.specs.Str.Pattern.{FindsTextPrefix, FindsCharPrefix, StripsPrefix}
use Rattle.std.proofs.Math.Seq.{drop-append-add, drop-append_seam}
use Rattle.std.proofs.lemmas.Slice.Eq.{bytes_eq-Decides}
use Rattle.std.proofs.lemmas.Str.Pattern.{strip_prefix_char}
use Rattle.pq_view.specs.Views.{below, slash, is_path, name_below}
use Rattle.pq_view.specs.aux.Rests.{IsRest}

-- what is left after a folder and a slash
pub drop_below : (root name : List ℕ) → drop (suc (length root)) (below root name) ≡ name
drop_below root name = ap (λ n. drop n (below root name)) (sym (add-one (length root))) ∙ drop-append-add root (slash ∷ name) 1

-- the test of a text that is found by its name
found_named : (b c : Bool) (name : List ℕ) → b ≡ true → c ≡ false → cond (b && not c) (Some name) None ≡ Some name
found_named b c name e f = rw (e, f)

-- what the test says of what it found
pub kept : (b c : Bool) (n m : List ℕ) → cond (b && not c) (Some n) None ≡ Some m → (b ≡ true) × (c ≡ false) × (n ≡ m)
kept true false n m e = (refl, refl, cc)
kept true true n m e = absurd (cc)
kept false c n m e = absurd (cc)

-- what holds of a test that keeps nothing
left_out : (b c : Bool) (n : List ℕ) → (b ≡ true → c ≡ true) → cond (b && not c) (Some n) None ≡ None
left_out true true n h = refl
left_out true false n h = absurd (let e : false ≡ true = h refl in cc)
left_out false c n h = refl

-- a file below a folder has its name there
pub named : (path root name : List ℕ) → path ≡ below root name → is_path name ≡ false → name_below path root ≡ Some name
unfolding name_below
named path root name e f =
    let P : List ℕ → Type 0 = λ p. name_below p root ≡ Some name in
    let Q : List ℕ → Type 0 = λ n. cond (bytes_eq (below root name) (below root n) && not (is_path n)) (Some n) None ≡ Some name in
    subst P (sym e) (subst Q (sym (drop_below root name)) (found_named (bytes_eq (below root name) (below root name)) (is_path name) name ((bytes_eq-Decides (below root name) (below root name)).1 refl) f))

-- a name below a folder is that of the file there
pub named_is : (path root name : List ℕ) → name_below path root ≡ Some name → (path ≡ below root name) × (is_path name ≡ false)
unfolding name_below
named_is path root name e =
    let n = drop (suc (length root)) path in
    let k = kept (bytes_eq path (below root n)) (is_path n) n name e in
    ((bytes_eq-Decides path (below root n)).0 k.0 ∙ ap (below root) k.2, ap is_path (sym k.2) ∙ k.1)

-- a file that is not below a folder, or only by a path, has no name there
pub unnamed : (path root : List ℕ) → ((name : List ℕ) → path ≡ below root name → is_path name ≡ true) → name_below path root ≡ None
unfolding name_below
unnamed path root h =
    let n = drop (suc (length root)) path in
    left_out (bytes_eq path (below root n)) (is_path n) n (λ e. h n ((bytes_eq-Decides path (below root n)).0 e))

-- a folder and a name are one path once
pub below_once : (root n m : List ℕ) → below root n ≡ below root m → n ≡ m
below_once root n m e = sym (drop_below root n) ∙ ap (drop (suc (length root))) e ∙ drop_below root m

-- a path that is a folder's and a path has no name there
pub path_unnamed : (path root name : List ℕ) → path ≡ below root name → is_path name ≡ true → name_below path root ≡ None
path_unnamed path root name e f = unnamed path root (λ n g. ap is_path (below_once root n name (sym g ∙ e)) ∙ f)

-- what is left after the folder begins with a slash, or the file is not below it
rest_after : (path root rest : List ℕ) (r : Option (Bor (List ℕ))) → path ≡ root ++ rest
    → MatchOption r ((name : List ℕ) → rest ≢ slash ∷ name) (λ x. rest ≡ slash ∷ x.now) → IsRest path root (option_copied r)
rest_after path root rest None e h = λ name f. h name (sym (drop-append_seam root rest) ∙ ap (drop (length root)) (sym e ∙ f) ∙ drop-append_seam root (slash ∷ name))
rest_after path root rest (Some x) e h = e ∙ ap (λ t. root ++ t) h

-- what two calls leave of a path
pub rest_is : (path root : List ℕ) (rest : Bor (List ℕ)) (r : Option (Bor (List ℕ))) → StripsPrefix (FindsTextPrefix root) path rest.now
    → MatchOption r (FindsCharPrefix slash rest.now None) (λ x. StripsPrefix (FindsCharPrefix slash) rest.now x.now) → IsRest path root (option_copied r)
rest_is path root rest r s h =
    rest_after path root rest.now r (s.1.1 ∙ ap (λ t. root ++ t) (sym s.2)) (strip_prefix_char slash rest.now r h (lit< tt))
