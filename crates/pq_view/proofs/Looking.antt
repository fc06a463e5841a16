-- What was looked at is enough: the source of a name on a disk that was seen at the paths before its
-- place and at the place.
use Rattle.std.proofs.Common.{◌≡◌, ℕ, List, [], ◌∷◌, Bool, true, false, cond, refl, sym, ◌∙◌, ap}
use Rattle.std.specs.Prelude.{Option, Some, None, is_some, Contains}
use Rattle.std.proofs.lemmas.Bool.{cond-false}
use Rattle.std.proofs.lemmas.List.Elements.{Contains-append_left, Contains-append_right, Contains-push}
use Rattle.pq_view.specs.Views.{Texts, View, below, is_path, or_else, own_text, paths_before, paths_before_in, place, place_in, placed_text, source, text_at}
use Rattle.pq_view.specs.Edits.{with_disk}

-- a text that is absent
no_document : (a b : Option (List ℕ)) → is_some (or_else a b) ≡ false → a ≡ None
no_document None b h = refl
no_document (Some t) b h = absurd (cc)

module _ (v : View) (name : List ℕ) (disk : Texts) where
  -- the text at a path that the disk has as the view has it
  same_at : (path : List ℕ) → (v.documents path ≡ None → disk path ≡ v.disk path) → text_at v path ≡ text_at (with_disk disk v) path
  same_at path same = by_document (v.documents path) refl
    where
      by_document : (o : Option (List ℕ)) → v.documents path ≡ o → or_else o (v.disk path) ≡ or_else o (disk path)
      by_document None e = sym (same e)
      by_document (Some t) e = refl

  -- the source, root by root
  placed_same : (roots : List (List ℕ)) → ((path : List ℕ) → Contains (paths_before_in v roots name) path → disk path ≡ None)
      → ((path : List ℕ) → place_in v roots name ≡ Some path → v.documents path ≡ None → disk path ≡ v.disk path)
      → placed_text v (place_in v roots name) ≡ placed_text (with_disk disk v) (place_in (with_disk disk v) roots name)
  unfolding place_in paths_before_in
  placed_same [] before at = refl
  placed_same (r ∷ rs) before at = by_test (λ b a. placed_same rs b a) (is_some (text_at v (below r name))) refl before at
    where
      here : List ℕ
      here = below r name

      by_test : (((path : List ℕ) → Contains (paths_before_in v rs name) path → disk path ≡ None)
          → ((path : List ℕ) → place_in v rs name ≡ Some path → v.documents path ≡ None → disk path ≡ v.disk path)
          → placed_text v (place_in v rs name) ≡ placed_text (with_disk disk v) (place_in (with_disk disk v) rs name))
          → (t : Bool) → is_some (text_at v here) ≡ t
          → ((path : List ℕ) → Contains (cond t [] (here ∷ paths_before_in v rs name)) path → disk path ≡ None)
          → ((path : List ℕ) → cond t (Some here) (place_in v rs name) ≡ Some path → v.documents path ≡ None → disk path ≡ v.disk path)
          → placed_text v (cond t (Some here) (place_in v rs name))
          ≡ placed_text (with_disk disk v) (cond (is_some (text_at (with_disk disk v) here)) (Some here) (place_in (with_disk disk v) rs name))
      by_test rest true e before at =
          let same = same_at here (at here refl) in
          same ∙ ap (λ b. placed_text (with_disk disk v) (cond b (Some here) (place_in (with_disk disk v) rs name))) (sym (ap is_some (sym same) ∙ e))
      by_test rest false e before at =
          let gone : disk here ≡ None = before here (Contains-append_left (here ∷ []) (paths_before_in v rs name) here (Contains-push [] here)) in
          let shut : v.documents here ≡ None = no_document (v.documents here) (v.disk here) e in
          let none : is_some (text_at (with_disk disk v) here) ≡ false = ap (λ o. is_some (or_else o (disk here))) shut ∙ ap is_some gone in
          rest (λ path k. before path (Contains-append_right (here ∷ []) (paths_before_in v rs name) path k)) at
          ∙ ap (λ b. placed_text (with_disk disk v) (cond b (Some here) (place_in (with_disk disk v) rs name))) (sym none)

  -- the source of a name
  pub looked_enough : is_path name ≡ false → ((path : List ℕ) → Contains (paths_before v name) path → disk path ≡ None)
      → ((path : List ℕ) → place v name ≡ Some path → v.documents path ≡ None → disk path ≡ v.disk path)
      → source v name ≡ source (with_disk disk v) name
  looked_enough p before at =
      cond-false (is_path name) (own_text v name) (placed_text v (place v name)) p
      ∙ placed_same v.roots (λ path k. before path (sym_contains path k)) at
      ∙ sym (cond-false (is_path name) (own_text (with_disk disk v) name) (placed_text (with_disk disk v) (place (with_disk disk v) name)) p)
    where
      sym_contains : (path : List ℕ) → Contains (paths_before_in v v.roots name) path → Contains (paths_before v name) path
      sym_contains path k = rw p k
