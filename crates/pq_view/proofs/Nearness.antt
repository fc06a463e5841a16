-- How long a common folder is, byte by byte, and the folder before a name.
use Rattle.std.proofs.Common.{◌≡◌, ◌≢◌, ℕ, zero, suc, ◌+◌, ◌<◌, ◌≤◌, List, [], ◌∷◌, ◌++◌, length, get_or, drop, Bool, true, false, cond, refl, sym, ◌∙◌, ap, add-one, drop-cons, append_assoc, arith, lit<}
use Rattle.std.specs.Prelude.{Option, Some, None, ◌==◌, MatchOption}
use Rattle.std.specs.Borrow.{Bor}
use Rattle.std.specs.Option.{option_copied}
use Rattle.std.specs.Str.Pattern.{FindsCharSuffix, FindsTextSuffix, StripsSuffix}
use Rattle.std.proofs.lemmas.Bool.{cond-true, cond-false, false_from_ne_true}
use Rattle.std.proofs.lemmas.Bool.Decides.{Decides-eqb}
use Rattle.std.proofs.lemmas.List.{append_cancel_right, drop_all}
use Rattle.std.proofs.lemmas.Str.Pattern.{strip_suffix_char}
use Rattle.pq_view.specs.Nearest.{common_folder, common_more}
use Rattle.pq_view.specs.Views.{below, slash}
use Rattle.pq_view.specs.aux.Tails.{IsRoot}

-- `joined common index n` is the length of a common folder, of which `n` bytes come after the first
-- `index`, and `common` if there are none
abbrev pub joined : ℕ → ℕ → ℕ → ℕ
joined common index zero = common
joined common index (suc n) = index + suc n

-- one byte more in common
joined_more : (common index n : ℕ) (s : Bool) → joined (cond s (index + 1) common) (index + 1) n ≡ joined common index (common_more s n)
joined_more common index zero true = omega arith
joined_more common index zero false = refl
joined_more common index (suc n) true = omega arith
joined_more common index (suc n) false = omega arith

-- one byte more of two texts
folder_next : (a b : List ℕ) (i : ℕ) → i < length a → i < length b
    → common_folder (drop i a) (drop i b)
    ≡ cond (get_or a i 0 == get_or b i 0) (common_more (get_or a i 0 == slash) (common_folder (drop (i + 1) a) (drop (i + 1) b))) 0
unfolding common_folder
folder_next a b i h k = rw (add-one, drop-cons a i 0, drop-cons b i 0) refl

-- numbers that are the same, and others
test_same : (x y : ℕ) → x ≡ y → (x == y) ≡ true
test_same x y = (Decides-eqb x y).1

test_other : (x y : ℕ) → x ≢ y → (x == y) ≡ false
test_other x y h = false_from_ne_true (x == y) (λ t. h ((Decides-eqb x y).0 t))

-- a byte that is the same
folder_more : (a b : List ℕ) (i common next : ℕ) (s : Bool) → i < length a → i < length b → get_or a i 0 ≡ get_or b i 0
    → joined common i (common_folder (drop i a) (drop i b)) ≡ common_folder a b
    → (get_or a i 0 == slash) ≡ s → next ≡ cond s (i + 1) common
    → joined next (i + 1) (common_folder (drop (i + 1) a) (drop (i + 1) b)) ≡ common_folder a b
folder_more a b i common next s h k same is t n =
    ap (λ (c : ℕ). joined c (i + 1) (common_folder (drop (i + 1) a) (drop (i + 1) b))) n
    ∙ joined_more common i (common_folder (drop (i + 1) a) (drop (i + 1) b)) s
    ∙ ap (λ (b' : Bool). joined common i (common_more b' (common_folder (drop (i + 1) a) (drop (i + 1) b)))) (sym t)
    ∙ ap (joined common i) (sym (folder_next a b i h k ∙ cond-true (get_or a i 0 == get_or b i 0) (common_more (get_or a i 0 == slash) (common_folder (drop (i + 1) a) (drop (i + 1) b))) 0 (test_same (get_or a i 0) (get_or b i 0) same)))
    ∙ is

pub folder_slash : (a b : List ℕ) (i common next : ℕ) → i < length a → i < length b → get_or a i 0 ≡ get_or b i 0
    → joined common i (common_folder (drop i a) (drop i b)) ≡ common_folder a b
    → get_or a i 0 ≡ slash → next ≡ i + 1
    → joined next (i + 1) (common_folder (drop (i + 1) a) (drop (i + 1) b)) ≡ common_folder a b
folder_slash a b i common next h k same is t n = folder_more a b i common next true h k same is (test_same (get_or a i 0) slash t) n

pub folder_byte : (a b : List ℕ) (i common next : ℕ) → i < length a → i < length b → get_or a i 0 ≡ get_or b i 0
    → joined common i (common_folder (drop i a) (drop i b)) ≡ common_folder a b
    → get_or a i 0 ≢ slash → next ≡ common
    → joined next (i + 1) (common_folder (drop (i + 1) a) (drop (i + 1) b)) ≡ common_folder a b
folder_byte a b i common next h k same is t n = folder_more a b i common next false h k same is (test_other (get_or a i 0) slash t) n

-- a byte that differs
pub folder_apart : (a b : List ℕ) (i common : ℕ) → i < length a → i < length b → get_or a i 0 ≢ get_or b i 0
    → joined common i (common_folder (drop i a) (drop i b)) ≡ common_folder a b → common ≡ common_folder a b
folder_apart a b i common h k other is =
    ap (joined common i) (sym (folder_next a b i h k ∙ cond-false (get_or a i 0 == get_or b i 0) (common_more (get_or a i 0 == slash) (common_folder (drop (i + 1) a) (drop (i + 1) b))) 0 (test_other (get_or a i 0) (get_or b i 0) other))) ∙ is

-- the end of either text
none_right : (a : List ℕ) → common_folder a [] ≡ 0
unfolding common_folder
none_right [] = refl
none_right (x ∷ xs) = refl

none_left : (b : List ℕ) → common_folder [] b ≡ 0
unfolding common_folder
none_left b = refl

pub folder_ended_right : (a b : List ℕ) (i common : ℕ) → length b ≤ i
    → joined common i (common_folder (drop i a) (drop i b)) ≡ common_folder a b → common ≡ common_folder a b
folder_ended_right a b i common h is =
    ap (joined common i) (sym (ap (common_folder (drop i a)) (drop_all i b h) ∙ none_right (drop i a))) ∙ is

pub folder_ended_left : (a b : List ℕ) (i common : ℕ) → length a ≤ i
    → joined common i (common_folder (drop i a) (drop i b)) ≡ common_folder a b → common ≡ common_folder a b
folder_ended_left a b i common h is =
    ap (joined common i) (sym (ap (λ (t : List ℕ). common_folder t (drop i b)) (drop_all i a h) ∙ none_left (drop i b))) ∙ is

-- nothing is in common at the start
pub folder_started : (a b : List ℕ) → joined 0 0 (common_folder a b) ≡ common_folder a b
folder_started a b = by_length (common_folder a b)
  where
    by_length : (n : ℕ) → joined 0 0 n ≡ n
    by_length zero = refl
    by_length (suc n) = omega arith

-- ---- the folder before a name

-- what is left before the name ends with a slash, or the file has not that name
root_after : (path name front : List ℕ) (r : Option (Bor (List ℕ))) → path ≡ front ++ name
    → MatchOption r ((root : List ℕ) → front ≢ root ++ (slash ∷ [])) (λ x. front ≡ x.now ++ (slash ∷ [])) → IsRoot path name (option_copied r)
root_after path name front None e h = λ root f. h root (append_cancel_right front (root ++ slash ∷ []) name (sym e ∙ f ∙ sym (append_assoc root (slash ∷ []) name)))
root_after path name front (Some x) e h = e ∙ ap (λ (t : List ℕ). t ++ name) h ∙ append_assoc x.now (slash ∷ []) name

-- what two calls leave of a path
pub root_is : (path name : List ℕ) (front : Bor (List ℕ)) (r : Option (Bor (List ℕ))) → StripsSuffix (FindsTextSuffix name) path front.now
    → MatchOption r (FindsCharSuffix slash front.now None) (λ x. StripsSuffix (FindsCharSuffix slash) front.now x.now) → IsRoot path name (option_copied r)
root_is path name front r s h =
    root_after path name front.now r (s.1.1 ∙ ap (λ (t : List ℕ). t ++ name) (sym s.2)) (strip_suffix_char slash front.now r h (lit< tt))

-- a path that does not end with the name
pub no_root : (path name : List ℕ) → ((front : List ℕ) → path ≢ front ++ name) → (root : List ℕ) → path ≢ below root name
no_root path name h root e = h (root ++ slash ∷ []) (e ∙ sym (append_assoc root (slash ∷ []) name))
