-- What a change at a path leaves: the source of each name that it does not touch.
--
-- A name that is not below a root at the path has the same places. A path that is none of the paths
-- of the file's names has other names, and so it is the file of the same names. A path at which no
-- document is open has no source before and after.
use Rattle.std.proofs.Common.{◌≡◌, ◌⊎◌, inl, inr, ℕ, List, [], ◌∷◌, Bool, true, false, cond, refl, sym, ◌∙◌, ap}
use Rattle.std.specs.Prelude.{Option, Some, None, ◌&&◌, ◌||◌, bytes_eq, is_some, map, flat_map, filter_map}
use Rattle.std.specs.List.{list_any}
use Rattle.std.proofs.lemmas.Bool.{cond-true, cond-false, false_from_ne_true}
use Rattle.pq_view.specs.Views.{View, below, is_path, name_below, names_of, place_in, place, placed_text, text_at, is_at, is_placed, is_found, own_text, source}
use Rattle.pq_view.specs.aux.Touched.{SameBut, open_below, touched, touched_by}
use Rattle.pq_view.proofs.BelowRoots.{named, named_is}
use Rattle.pq_view.proofs.Placing.{own_shut}
use Rattle.pq_view.proofs.ListTests.{or_false, false_or, bytes_same, bytes_is, append_false, list_any-map, both_false, any_weaker, option_any, list_any-cons_option, filtered}

-- a relative name that a root does not give is not below that root at the path
not_below : (path root name : List ℕ) → is_path name ≡ false → option_any (bytes_eq name) (name_below path root) ≡ false → bytes_eq (below root name) path ≡ false
not_below path root name f h = false_from_ne_true (bytes_eq (below root name) path) (λ t.
    let e : name_below path root ≡ Some name = named path root name (sym (bytes_is (below root name) path t)) f in
    let g : option_any (bytes_eq name) (name_below path root) ≡ true = ap (option_any (bytes_eq name)) e ∙ bytes_same name name refl in
    cc)

module _ (path : List ℕ) (b a : View) (same : SameBut path b a) where
  -- the place of a name that is none of the path's
  place_kept : (name : List ℕ) → is_path name ≡ false → (roots : List (List ℕ)) → list_any (bytes_eq name) (filter_map (name_below path) roots) ≡ false
      → place_in b roots name ≡ place_in a roots name
  unfolding place_in
  place_kept name f [] h = refl
  place_kept name f (r ∷ rs) h =
      let s = or_false (option_any (bytes_eq name) (name_below path r)) (list_any (bytes_eq name) (filter_map (name_below path) rs)) (sym (list_any-cons_option (bytes_eq name) (name_below path r) (filter_map (name_below path) rs)) ∙ h) in
      ap (λ t. cond (is_some t) (Some (below r name)) (place_in b rs name)) (same.texts (below r name) (not_below path r name f s.0))
      ∙ ap (λ p. cond (is_some (text_at a (below r name))) (Some (below r name)) p) (place_kept name f rs s.1)

  -- the text at a choice of places
  placed_cond : (v : View) (c : Bool) (q : List ℕ) (o : Option (List ℕ)) → placed_text v (cond c (Some q) o) ≡ cond c (text_at v q) (placed_text v o)
  placed_cond v true q o = refl
  placed_cond v false q o = refl

  -- the text of a name that is none of the path's
  placed_kept : (name : List ℕ) → is_path name ≡ false → (roots : List (List ℕ)) → list_any (bytes_eq name) (filter_map (name_below path) roots) ≡ false
      → placed_text b (place_in b roots name) ≡ placed_text a (place_in a roots name)
  unfolding place_in
  placed_kept name f [] h = refl
  placed_kept name f (r ∷ rs) h =
      let s = or_false (option_any (bytes_eq name) (name_below path r)) (list_any (bytes_eq name) (filter_map (name_below path) rs)) (sym (list_any-cons_option (bytes_eq name) (name_below path r) (filter_map (name_below path) rs)) ∙ h) in
      placed_cond b (is_some (text_at b (below r name))) (below r name) (place_in b rs name)
      ∙ ap (λ t. cond (is_some t) t (placed_text b (place_in b rs name))) (same.texts (below r name) (not_below path r name f s.0))
      ∙ ap (λ t. cond (is_some (text_at a (below r name))) (text_at a (below r name)) t) (placed_kept name f rs s.1)
      ∙ sym (placed_cond a (is_some (text_at a (below r name))) (below r name) (place_in a rs name))

  -- a relative name that is none of the path's
  relative_kept : (name : List ℕ) → is_path name ≡ false → list_any (bytes_eq name) (names_of b path) ≡ false → source b name ≡ source a name
  relative_kept name f h =
      cond-false (is_path name) (own_text b name) (placed_text b (place b name)) f
      ∙ placed_kept name f b.roots h
      ∙ ap (λ rs. placed_text a (place_in a rs name)) same.roots
      ∙ sym (cond-false (is_path name) (own_text a name) (placed_text a (place a name)) f)

  -- a name below a root of a path that is none of those of the path's names
  name_out : (q root m : List ℕ) (ns : List (List ℕ)) → q ≡ below root m → list_any (λ n. bytes_eq q (below root n)) ns ≡ false → list_any (bytes_eq m) ns ≡ false
  name_out q root m ns e h = false_from_ne_true (list_any (bytes_eq m) ns) (λ t.
      let g : list_any (λ n. bytes_eq q (below root n)) ns ≡ true =
      any_weaker (bytes_eq m) (λ n. bytes_eq q (below root n)) (λ n u. bytes_same q (below root n) (e ∙ ap (below root) (bytes_is m n u))) ns t in
      cc)

  -- whether such a path is the file of a name
  placed_alike : (q root : List ℕ) → list_any (λ n. bytes_eq q (below root n)) (names_of b path) ≡ false → (o : Option (List ℕ)) → name_below q root ≡ o
      → option_any (is_placed b q) o ≡ option_any (is_placed a q) o
  placed_alike q root h None e = refl
  placed_alike q root h (Some m) e =
      let n = named_is q root m e in
      ap (is_at q) (place_kept m n.1 b.roots (name_out q root m (names_of b path) n.0 h) ∙ ap (λ rs. place_in a rs m) same.roots)

  -- the same below all roots
  found_kept : (q : List ℕ) (roots : List (List ℕ)) → list_any (λ n. list_any (λ r. bytes_eq q (below r n)) roots) (names_of b path) ≡ false
      → list_any (is_placed b q) (filter_map (name_below q) roots) ≡ list_any (is_placed a q) (filter_map (name_below q) roots)
  found_kept q [] h = refl
  found_kept q (r ∷ rs) h =
      let s = both_false (λ n. bytes_eq q (below r n)) (λ n. list_any (λ r. bytes_eq q (below r n)) rs) (names_of b path) h in
      list_any-cons_option (is_placed b q) (name_below q r) (filter_map (name_below q) rs)
      ∙ ap (λ t. t || list_any (is_placed b q) (filter_map (name_below q) rs)) (placed_alike q r s.0 (name_below q r) refl)
      ∙ ap (λ t. option_any (is_placed a q) (name_below q r) || t) (found_kept q rs s.1)
      ∙ sym (list_any-cons_option (is_placed a q) (name_below q r) (filter_map (name_below q) rs))

  -- the own text of such a path
  own_kept : (q : List ℕ) → bytes_eq q path ≡ false → list_any (λ n. list_any (λ r. bytes_eq q (below r n)) b.roots) (names_of b path) ≡ false
      → own_text b q ≡ own_text a q
  own_kept q f h =
      ap (λ t. cond t None (b.documents q)) (found_kept q b.roots h ∙ ap (λ rs. list_any (is_placed a q) (filter_map (name_below q) rs)) same.roots)
      ∙ ap (λ t. cond (is_found a q) None t) (same.documents q f)

  -- a path with a document that is not touched
  out_of : (q : List ℕ) (roots ns : List (List ℕ)) → is_some (b.documents q) ≡ true → list_any (bytes_eq q) (flat_map (touched_by b.documents roots) ns) ≡ false
      → list_any (λ n. list_any (λ r. bytes_eq q (below r n)) roots) ns ≡ false
  out_of q roots [] o h = refl
  out_of q roots (n ∷ ns) o h =
      let s = append_false (bytes_eq q) (touched_by b.documents roots n) (flat_map (touched_by b.documents roots) ns) h in
      let t = or_false (bytes_eq q n) (list_any (bytes_eq q) (open_below b.documents roots n)) s.0 in
      let all : list_any (bytes_eq q) (map (λ r. below r n) roots) ≡ false =
      sym (and_true (list_any (bytes_eq q) (map (λ r. below r n) roots)) (is_some (b.documents q)) o)
      ∙ sym (filtered (λ p. is_some (b.documents p)) q (map (λ r. below r n) roots)) ∙ t.1 in
      false_or (list_any (λ r. bytes_eq q (below r n)) roots) (list_any (λ n. list_any (λ r. bytes_eq q (below r n)) roots) ns)
      (sym (list_any-map (bytes_eq q) (λ r. below r n) roots) ∙ all) (out_of q roots ns o s.1)
    where
      and_true : (x y : Bool) → y ≡ true → (x && y) ≡ x
      and_true true y e = e
      and_true false y e = refl

  -- a name that is not touched is none of the path's
  no_name : (q : List ℕ) (roots ns : List (List ℕ)) → list_any (bytes_eq q) (flat_map (touched_by b.documents roots) ns) ≡ false → list_any (bytes_eq q) ns ≡ false
  no_name q roots [] h = refl
  no_name q roots (n ∷ ns) h =
      let s = append_false (bytes_eq q) (touched_by b.documents roots n) (flat_map (touched_by b.documents roots) ns) h in
      let t = or_false (bytes_eq q n) (list_any (bytes_eq q) (open_below b.documents roots n)) s.0 in
      false_or (bytes_eq q n) (list_any (bytes_eq q) ns) t.0 (no_name q roots ns s.1)

  -- the own text of a path that is not touched
  own_untouched : (q : List ℕ) → bytes_eq q path ≡ false → list_any (bytes_eq q) (flat_map (touched_by b.documents b.roots) (names_of b path)) ≡ false
      → (o : Option (List ℕ)) → b.documents q ≡ o → own_text b q ≡ own_text a q
  own_untouched q f h None e = own_shut b q e ∙ sym (own_shut a q (sym (same.documents q f) ∙ e))
  own_untouched q f h (Some t) e = own_kept q f (out_of q b.roots (names_of b path) (ap is_some e) h)

  -- a name that is not touched keeps its source
  untouched : (name : List ℕ) → list_any (bytes_eq name) (touched b path) ≡ false → (p : Bool) → is_path name ≡ p → source b name ≡ source a name
  untouched name h true e =
      let s = or_false (bytes_eq name path) (list_any (bytes_eq name) (flat_map (touched_by b.documents b.roots) (names_of b path))) h in
      cond-true (is_path name) (own_text b name) (placed_text b (place b name)) e
      ∙ own_untouched name s.0 s.1 (b.documents name) refl
      ∙ sym (cond-true (is_path name) (own_text a name) (placed_text a (place a name)) e)
  untouched name h false e =
      let s = or_false (bytes_eq name path) (list_any (bytes_eq name) (flat_map (touched_by b.documents b.roots) (names_of b path))) h in
      relative_kept name e (no_name name b.roots (names_of b path) s.1)

  -- each name keeps its source or is touched
  pub kept_or_touched : (name : List ℕ) → (source b name ≡ source a name) ⊎ (list_any (bytes_eq name) (touched b path) ≡ true)
  kept_or_touched name = by_test (list_any (bytes_eq name) (touched b path)) refl
    where
      by_test : (t : Bool) → list_any (bytes_eq name) (touched b path) ≡ t → (source b name ≡ source a name) ⊎ (list_any (bytes_eq name) (touched b path) ≡ true)
      by_test true e = inr e
      by_test false e = inl (untouched name e (is_path name) refl)
