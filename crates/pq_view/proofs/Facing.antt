-- The path that is shown, root by root.
use Rattle.std.proofs.Common.{◌≡◌, ℕ, suc, ◌+◌, ◌<◌, ◌≤◌, List, [], ◌∷◌, length, drop, get_or, refl, sym, ◌∙◌, ap, add-one, drop-cons, arith}
use Rattle.std.specs.Prelude.{Option, Some, None, MatchOption, option_map, unwrap_or}
use Rattle.std.specs.Borrow.{Bor}
use Rattle.std.specs.List.{HoldsAt}
use Rattle.std.specs.Option.{option_copied}
use Rattle.std.proofs.lemmas.List.{drop_all}
use Rattle.pq_view.specs.Shown.{shown_path}
use Rattle.pq_view.specs.Views.{below, name_below}
use Rattle.pq_view.specs.aux.Faces.{shown_below}

-- without faces the path is shown as it is
no_faces : (roots : List (List ℕ)) (path : List ℕ) → shown_path roots [] path ≡ path
unfolding shown_path
no_faces [] path = refl
no_faces (root ∷ roots) path = refl

-- one root more
pub shown_more : (roots faces : List (List ℕ)) (path : List ℕ) (i : ℕ) (root seen : List ℕ) (r : Option (Bor (List ℕ))) (o : Option (List ℕ)) → i < length roots
    → MatchOption r (length faces ≤ i) (λ x. (i < length faces) × HoldsAt (λ y. x.now ≡ y) faces i) → seen ≡ root → root ≡ get_or roots i root
    → o ≡ shown_below seen (option_copied r) path
    → shown_path (drop i roots) (drop i faces) path ≡ unwrap_or o (shown_path (drop (i + 1) roots) (drop (i + 1) faces) path)
unfolding shown_path
shown_more roots faces path i root seen None o h found s d e =
    rw (drop_all i faces found, drop_all (i + 1) faces (omega arith)) (no_faces (drop i roots) path ∙ sym (ap (λ p. unwrap_or p (shown_path (drop (i + 1) roots) [] path)) e ∙ no_faces (drop (i + 1) roots) path))
shown_more roots faces path i root seen (Some x) o h found s d e =
    let within : i < length faces = found.0 in
    let rest = shown_path (drop (suc i) roots) (drop (suc i) faces) path in
    rw (add-one, drop-cons roots i root, drop-cons faces i x.now)
    (ap (λ f. unwrap_or (option_map (below f) (name_below path (get_or roots i root))) rest) (sym (found.1 x.now))
    ∙ ap (λ q. unwrap_or (option_map (below x.now) (name_below path q)) rest) (sym (s ∙ d))
    ∙ ap (λ p. unwrap_or p rest) (sym e))

-- past the last root
pub shown_ended : (roots faces : List (List ℕ)) (path : List ℕ) (i : ℕ) → length roots ≤ i → shown_path (drop i roots) (drop i faces) path ≡ path
unfolding shown_path
shown_ended roots faces path i h = rw (drop_all i roots h)
