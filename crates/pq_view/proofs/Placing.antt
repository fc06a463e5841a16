-- The place of a file, root by root.
use Rattle.std.proofs.Common.{◌≡◌, ℕ, suc, ◌+◌, ◌<◌, ◌≤◌, List, [], ◌∷◌, ◌++◌, length, drop, get_or, Bool, true, false, cond, refl, sym, ◌∙◌, ap, add-one, drop-cons, append-nil, append_assoc}
use Rattle.std.specs.Prelude.{Option, Some, None, is_some, filter_map, ◌||◌}
use Rattle.std.specs.Borrow.{Bor}
use Rattle.std.specs.List.{cons_option, list_any}
use Rattle.std.specs.Option.{option_copied}
use Rattle.std.proofs.lemmas.List.{drop_all}
use Rattle.std.proofs.lemmas.Bool.{cond-true, cond-false}
use Rattle.pq_view.specs.Views.{View, below, is_path, text_at, place_in, paths_before, paths_before_in, name_below, names_of, first_placed, is_found, is_placed, own_text, or_else}
use Rattle.pq_view.specs.aux.Sights.{placed_below, kept_name}

-- one root more
pub place_more : (v : View) (roots : List (List ℕ)) (i : ℕ) (root name : List ℕ) → i < length roots
    → place_in v (drop i roots) name
    ≡ cond (is_some (text_at v (below (get_or roots i root) name))) (Some (below (get_or roots i root) name)) (place_in v (drop (i + 1) roots) name)
unfolding place_in
place_more v roots i root name h = rw (add-one, drop-cons roots i root)

-- a copied option has what the option has
pub is_some_copied : (r : Option (Bor (List ℕ))) → is_some (option_copied r) ≡ is_some r
is_some_copied None = refl
is_some_copied (Some t) = refl

-- the place is below this root
pub place_found : (v : View) (roots : List (List ℕ)) (i : ℕ) (root name path seen : List ℕ) (r : Option (Bor (List ℕ))) → i < length roots
    → path ≡ below root name → root ≡ get_or roots i root → seen ≡ path → option_copied r ≡ text_at v seen → is_some r ≡ true
    → place_in v (drop i roots) name ≡ Some path
place_found v roots i root name path seen r h e d s t f =
    let here : below (get_or roots i root) name ≡ path = ap (λ q. below q name) (sym d) ∙ sym e in
    let found : is_some (text_at v (below (get_or roots i root) name)) ≡ true = ap (λ q. is_some (text_at v q)) (here ∙ sym s) ∙ ap is_some (sym t) ∙ is_some_copied r ∙ f in
    place_more v roots i root name h ∙ cond-true (is_some (text_at v (below (get_or roots i root) name))) (Some (below (get_or roots i root) name)) (place_in v (drop (i + 1) roots) name) found ∙ ap Some here

-- the place is not below this root
pub place_passed : (v : View) (roots : List (List ℕ)) (i : ℕ) (root name path seen : List ℕ) (r : Option (Bor (List ℕ))) → i < length roots
    → path ≡ below root name → root ≡ get_or roots i root → seen ≡ path → option_copied r ≡ text_at v seen → is_some r ≡ false
    → place_in v (drop (i + 1) roots) name ≡ place_in v (drop i roots) name
place_passed v roots i root name path seen r h e d s t f =
    let here : below (get_or roots i root) name ≡ path = ap (λ q. below q name) (sym d) ∙ sym e in
    let missed : is_some (text_at v (below (get_or roots i root) name)) ≡ false = ap (λ q. is_some (text_at v q)) (here ∙ sym s) ∙ ap is_some (sym t) ∙ is_some_copied r ∙ f in
    sym (place_more v roots i root name h ∙ cond-false (is_some (text_at v (below (get_or roots i root) name))) (Some (below (get_or roots i root) name)) (place_in v (drop (i + 1) roots) name) missed)

-- one root more, of the paths before the place
before_more : (v : View) (roots : List (List ℕ)) (i : ℕ) (root name : List ℕ) → i < length roots
    → paths_before_in v (drop i roots) name
    ≡ cond (is_some (text_at v (below (get_or roots i root) name))) [] (below (get_or roots i root) name ∷ paths_before_in v (drop (i + 1) roots) name)
unfolding paths_before_in
before_more v roots i root name h = rw (add-one, drop-cons roots i root)

-- the place is below this root: no path more comes before it
pub before_found : (v : View) (roots : List (List ℕ)) (i : ℕ) (root name path seen : List ℕ) (r : Option (Bor (List ℕ))) → i < length roots
    → path ≡ below root name → root ≡ get_or roots i root → seen ≡ path → option_copied r ≡ text_at v seen → is_some r ≡ true
    → paths_before_in v (drop i roots) name ≡ []
before_found v roots i root name path seen r h e d s t f =
    let here : below (get_or roots i root) name ≡ path = ap (λ q. below q name) (sym d) ∙ sym e in
    let found : is_some (text_at v (below (get_or roots i root) name)) ≡ true = ap (λ q. is_some (text_at v q)) (here ∙ sym s) ∙ ap is_some (sym t) ∙ is_some_copied r ∙ f in
    before_more v roots i root name h ∙ cond-true (is_some (text_at v (below (get_or roots i root) name))) [] (below (get_or roots i root) name ∷ paths_before_in v (drop (i + 1) roots) name) found

-- the place is not below this root: its path comes before
pub before_passed : (v : View) (roots : List (List ℕ)) (i : ℕ) (root name path seen : List ℕ) (r : Option (Bor (List ℕ))) → i < length roots
    → path ≡ below root name → root ≡ get_or roots i root → seen ≡ path → option_copied r ≡ text_at v seen → is_some r ≡ false
    → paths_before_in v (drop i roots) name ≡ path ∷ paths_before_in v (drop (i + 1) roots) name
before_passed v roots i root name path seen r h e d s t f =
    let here : below (get_or roots i root) name ≡ path = ap (λ q. below q name) (sym d) ∙ sym e in
    let missed : is_some (text_at v (below (get_or roots i root) name)) ≡ false = ap (λ q. is_some (text_at v q)) (here ∙ sym s) ∙ ap is_some (sym t) ∙ is_some_copied r ∙ f in
    before_more v roots i root name h
    ∙ cond-false (is_some (text_at v (below (get_or roots i root) name))) [] (below (get_or roots i root) name ∷ paths_before_in v (drop (i + 1) roots) name) missed
    ∙ ap (λ (p : List ℕ). p ∷ paths_before_in v (drop (i + 1) roots) name) here

-- one path more
pub before_next : (paths more rest next all : List (List ℕ)) (path : List ℕ) → more ≡ paths ++ path ∷ [] → rest ≡ path ∷ next
    → paths ++ rest ≡ all → more ++ next ≡ all
before_next paths more rest next all path m r h =
    ap (λ (ps : List (List ℕ)). ps ++ next) m ∙ append_assoc paths (path ∷ []) next ∙ ap (λ (ps : List (List ℕ)). paths ++ ps) (sym r) ∙ h

-- no path is left
pub before_done : (v : View) (name : List ℕ) (paths rest : List (List ℕ)) → is_path name ≡ false → rest ≡ []
    → paths ++ rest ≡ paths_before_in v v.roots name → paths ≡ paths_before v name
before_done v name paths rest p e h =
    sym (append-nil paths) ∙ ap (λ (ps : List (List ℕ)). paths ++ ps) (sym e) ∙ h ∙ sym (cond-false (is_path name) [] (paths_before_in v v.roots name) p)

-- past the last root no path is left
pub before_ended : (v : View) (roots : List (List ℕ)) (i : ℕ) (name : List ℕ) → length roots ≤ i → paths_before_in v (drop i roots) name ≡ []
unfolding paths_before_in
before_ended v roots i name h = rw (drop_all i roots h)

-- past the last root there is no place
pub place_ended : (v : View) (roots : List (List ℕ)) (i : ℕ) (name : List ℕ) → length roots ≤ i → place_in v (drop i roots) name ≡ None
unfolding place_in
place_ended v roots i name h = rw (drop_all i roots h)

-- ---- the first name of a file of which it is the file

-- one name more, if there is one
first_step : (v : View) (path : List ℕ) (o : Option (List ℕ)) (ns : List (List ℕ))
    → first_placed v path (cons_option o ns) ≡ or_else (kept_name v path o) (first_placed v path ns)
unfolding first_placed
first_step v path None ns = refl
first_step v path (Some n) ns = chosen (is_placed v path n) n (first_placed v path ns)
  where
    chosen : (b : Bool) (n : List ℕ) (o : Option (List ℕ)) → cond b (Some n) o ≡ or_else (cond b (Some n) None) o
    chosen true n o = refl
    chosen false n o = refl

-- `first_in v path roots` is the first of the names of `path` below `roots` of which it is the file
abbrev pub first_in : View → List ℕ → List (List ℕ) → Option (List ℕ)
first_in v path roots = first_placed v path (filter_map (name_below path) roots)

-- one root more
first_more : (v : View) (path : List ℕ) (roots : List (List ℕ)) (i : ℕ) (root : List ℕ) → i < length roots
    → first_in v path (drop i roots) ≡ or_else (placed_below v path (get_or roots i root)) (first_in v path (drop (i + 1) roots))
first_more v path roots i root h =
    rw (add-one, drop-cons roots i root) (first_step v path (name_below path (get_or roots i root)) (filter_map (name_below path) (drop (suc i) roots)))

-- what a root gives
pub first_at : (v : View) (path : List ℕ) (roots : List (List ℕ)) (i : ℕ) (root seen : List ℕ) (o : Option (List ℕ)) → i < length roots
    → seen ≡ root → root ≡ get_or roots i root → o ≡ placed_below v path seen
    → first_in v path (drop i roots) ≡ or_else o (first_in v path (drop (i + 1) roots))
first_at v path roots i root seen o h s d e =
    first_more v path roots i root h ∙ ap (λ q. or_else q (first_in v path (drop (i + 1) roots))) (ap (placed_below v path) (sym (s ∙ d)) ∙ sym e)

-- past the last root there is none
pub first_ended : (v : View) (path : List ℕ) (roots : List (List ℕ)) (i : ℕ) → length roots ≤ i → first_in v path (drop i roots) ≡ None
unfolding first_placed
first_ended v path roots i h = rw (drop_all i roots h)

-- a file is the file of one of its names, if there is a first
pub found_first : (v : View) (path : List ℕ) (ns : List (List ℕ)) → list_any (is_placed v path) ns ≡ is_some (first_placed v path ns)
unfolding first_placed
found_first v path [] = refl
found_first v path (n ∷ ns) = chosen (is_placed v path n) n (first_placed v path ns) (found_first v path ns)
  where
    chosen : (b : Bool) (n : List ℕ) (o : Option (List ℕ)) → list_any (is_placed v path) ns ≡ is_some o → (b || list_any (is_placed v path) ns) ≡ is_some (cond b (Some n) o)
    chosen true n o h = refl
    chosen false n o h = h

-- the own text of a file, by its first name
pub own_by_first : (v : View) (path : List ℕ) (o : Option (List ℕ)) → o ≡ first_placed v path (names_of v path)
    → own_text v path ≡ cond (is_some o) None (v.documents path)
own_by_first v path o e = ap (λ b. cond b None (v.documents path)) (found_first v path (names_of v path) ∙ ap is_some (sym e))

-- a path without a document has no own text
pub own_shut : (v : View) (path : List ℕ) → v.documents path ≡ None → own_text v path ≡ None
own_shut v path e = ap (λ o. cond (is_found v path) None o) e ∙ neither (is_found v path)
  where
    neither : (t : Bool) → cond {A = Option (List ℕ)} t None None ≡ None
    neither true = refl
    neither false = refl
