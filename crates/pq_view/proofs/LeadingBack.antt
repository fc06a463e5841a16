-- The name of a path leads back to it, and to the text of its document.
use Rattle.std.proofs.Common.{◌≡◌, ℕ, List, [], ◌∷◌, Bool, true, false, cond, refl, sym, ◌∙◌, ap}
use Rattle.std.specs.Prelude.{Option, Some, None, filter_map, unwrap_or}
use Rattle.std.specs.List.{cons_option}
use Rattle.std.proofs.lemmas.Bool.{cond-true, cond-false}
use Rattle.pq_view.specs.Views.{View, below, first_placed, first_root, is_at, is_path, is_placed, name_below, name_of, names_of, or_else, own_text, path_of, place, placed_text, source}
use Rattle.pq_view.proofs.BelowRoots.{named_is}
use Rattle.pq_view.proofs.Placing.{own_by_first}
use Rattle.pq_view.proofs.ListTests.{bytes_is}

-- `LeadsTo v path name` is that `path` is the path of the relative name `name`
record LeadsTo (v : View) (path name : List ℕ) : Type 0 where
  relative : is_path name ≡ false
  placed : place v name ≡ Some path

-- a place that is the path
at_path : (path : List ℕ) (o : Option (List ℕ)) → is_at path o ≡ true → o ≡ Some path
at_path path None h = absurd (cc)
at_path path (Some p) h = ap Some (bytes_is p path h)

-- the first name of which a path is the file leads to it
first_leads : (v : View) (path name : List ℕ) (roots : List (List ℕ)) → first_placed v path (filter_map (name_below path) roots) ≡ Some name → LeadsTo v path name
unfolding first_placed
first_leads v path name [] h = absurd (cc)
first_leads v path name (r ∷ rs) h = by_name (λ k. first_leads v path name rs k) (name_below path r) refl h
  where
    by_name : (first_placed v path (filter_map (name_below path) rs) ≡ Some name → LeadsTo v path name) → (o : Option (List ℕ)) → name_below path r ≡ o
        → first_placed v path (cons_option o (filter_map (name_below path) rs)) ≡ Some name → LeadsTo v path name
    by_name rest None e k = rest k
    by_name rest (Some n) e k = by_test (is_placed v path n) refl k
      where
        by_test : (t : Bool) → is_placed v path n ≡ t → cond t (Some n) (first_placed v path (filter_map (name_below path) rs)) ≡ Some name → LeadsTo v path name
        by_test true u l =
            let same : n ≡ name = cc in
            record { relative = ap is_path (sym same) ∙ (named_is path r n e).1; placed = ap (place v) (sym same) ∙ at_path path (place v n) u }
        by_test false u l = rest l

-- the name of a path has that path
pub back_to_path : (v : View) (path : List ℕ) → is_path path ≡ true → path_of v (name_of v path) ≡ path
back_to_path v path p = by_first (first_placed v path (names_of v path)) refl
  where
    by_first : (o : Option (List ℕ)) → first_placed v path (names_of v path) ≡ o → path_of v (unwrap_or o path) ≡ path
    by_first None e = cond-true (is_path path) path (unwrap_or (place v path) (below (first_root v) path)) p
    by_first (Some n) e =
        let l = first_leads v path n v.roots e in
        cond-false (is_path n) n (unwrap_or (place v n) (below (first_root v) n)) l.relative ∙ ap (λ o. unwrap_or o (below (first_root v) n)) l.placed

-- the text of a document is the source of its name
pub document_found : (v : View) (path text : List ℕ) → is_path path ≡ true → v.documents path ≡ Some text → source v (name_of v path) ≡ Some text
document_found v path text p d = by_first (first_placed v path (names_of v path)) refl
  where
    by_first : (o : Option (List ℕ)) → first_placed v path (names_of v path) ≡ o → source v (unwrap_or o path) ≡ Some text
    by_first None e =
        cond-true (is_path path) (own_text v path) (placed_text v (place v path)) p
        ∙ own_by_first v path None (sym e) ∙ d
    by_first (Some n) e =
        let l = first_leads v path n v.roots e in
        cond-false (is_path n) (own_text v n) (placed_text v (place v n)) l.relative
        ∙ ap (placed_text v) l.placed ∙ ap (λ o. or_else o (v.disk path)) d
