-- The names that a change touches, root by root.
use Rattle.std.proofs.Common.{◌≡◌, ℕ, ◌+◌, ◌<◌, List, [], ◌∷◌, ◌++◌, length, take, get_or, refl, sym, ◌∙◌, ap, append_assoc}
use Rattle.std.specs.Prelude.{Option, Some, None, filter_map, flat_map, is_some, map, option_to_list}
use Rattle.std.specs.List.{cons_option, filter}
use Rattle.std.proofs.lemmas.List.{map-append, take_more}
use Rattle.std.proofs.lemmas.List.Elements.{filter-append, filter_map-append}
use Rattle.std.proofs.lemmas.Grind.{flat_map-append}
use Rattle.pq_view.specs.Views.{Texts, below, name_below}
use Rattle.pq_view.specs.aux.Touched.{open_below, touched_by}

-- two ways to make a list of an option
pub listed : (o : Option (List ℕ)) → option_to_list o ≡ cons_option o []
listed None = refl
listed (Some n) = refl

-- one root more
pub touched_more : (documents : Texts) (path seen root : List ℕ) (roots names more : List (List ℕ)) (i : ℕ) → i < length roots
    → names ≡ path ∷ flat_map (touched_by documents roots) (filter_map (name_below path) (take i roots)) → seen ≡ root → root ≡ get_or roots i root
    → more ≡ names ++ flat_map (touched_by documents roots) (option_to_list (name_below path seen))
    → more ≡ path ∷ flat_map (touched_by documents roots) (filter_map (name_below path) (take (i + 1) roots))
touched_more documents path seen root roots names more i h so s d e =
    let r = get_or roots i root in
    let ns = filter_map (name_below path) (take i roots) in
    e
    ∙ ap (λ (xs : List (List ℕ)). xs ++ flat_map (touched_by documents roots) (option_to_list (name_below path seen))) so
    ∙ ap (λ (x : List ℕ). path ∷ (flat_map (touched_by documents roots) ns ++ flat_map (touched_by documents roots) (option_to_list (name_below path x)))) (s ∙ d)
    ∙ ap (λ (xs : List (List ℕ)). path ∷ (flat_map (touched_by documents roots) ns ++ flat_map (touched_by documents roots) xs)) (listed (name_below path r))
    ∙ ap (λ (xs : List (List ℕ)). path ∷ xs) (sym (flat_map-append (touched_by documents roots) ns (cons_option (name_below path r) [])))
    ∙ ap (λ (xs : List (List ℕ)). path ∷ flat_map (touched_by documents roots) xs) (sym (filter_map-append (name_below path) (take i roots) (r ∷ [])))
    ∙ ap (λ (xs : List (List ℕ)). path ∷ flat_map (touched_by documents roots) (filter_map (name_below path) xs)) (sym (take_more roots i root h))

-- one root more of a name
pub open_more : (documents : Texts) (name seen root : List ℕ) (roots old names more : List (List ℕ)) (i : ℕ) → i < length roots
    → names ≡ old ++ open_below documents (take i roots) name → seen ≡ root → root ≡ get_or roots i root
    → more ≡ names ++ filter (λ q. is_some (documents q)) (below seen name ∷ [])
    → more ≡ old ++ open_below documents (take (i + 1) roots) name
open_more documents name seen root roots old names more i h so s d e =
    let r = get_or roots i root in
    let shown = λ (q : List ℕ). is_some (documents q) in
    let put = λ (x : List ℕ). below x name in
    e
    ∙ ap (λ (xs : List (List ℕ)). xs ++ filter shown (below seen name ∷ [])) so
    ∙ append_assoc old (open_below documents (take i roots) name) (filter shown (below seen name ∷ []))
    ∙ ap (λ (x : List ℕ). old ++ (open_below documents (take i roots) name ++ filter shown (below x name ∷ []))) (s ∙ d)
    ∙ ap (λ (xs : List (List ℕ)). old ++ xs) (sym (filter-append shown (map put (take i roots)) (below r name ∷ [])))
    ∙ ap (λ (xs : List (List ℕ)). old ++ filter shown xs) (sym (map-append put (take i roots) (r ∷ [])))
    ∙ ap (λ (xs : List (List ℕ)). old ++ filter shown (map put xs)) (sym (take_more roots i root h))
