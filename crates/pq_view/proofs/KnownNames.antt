-- The names of known paths, and that no other name has a source.
use Rattle.std.proofs.Common.{◌≡◌, ◌⊎◌, inl, inr, ℕ, ◌+◌, ◌<◌, List, [], ◌∷◌, ◌++◌, length, take, get_or, Bool, true, false, cond, refl, sym, ◌∙◌, ap, append_assoc}
use Rattle.std.specs.Prelude.{Option, Some, None, ◌||◌, bytes_eq, is_some, map, filter_map, flat_map, option_to_list, string_bytes, String}
use Rattle.std.specs.BTreeMap.{BTreeMap, get_by_text, keys}
use Rattle.std.specs.List.{list_any}
use Rattle.std.proofs.lemmas.Bool.{cond-true, cond-false, false_from_ne_true}
use Rattle.std.proofs.lemmas.List.{take_more}
use Rattle.std.proofs.lemmas.List.Elements.{filter_map-append}
use Rattle.pq_view.specs.Views.{View, below, is_path, name_below, place_in, place, placed_text, own_text, is_found, or_else, source}
use Rattle.pq_view.specs.Edits.{AreEdits, with_roots}
use Rattle.pq_view.specs.aux.Known.{IsKnown, known_by, known_names}
use Rattle.pq_view.specs.aux.Touched.{edited}
use Rattle.pq_view.specs.declared.edits.Edit.{Edit}
use Rattle.pq_view.proofs.BelowRoots.{named}
use Rattle.pq_view.proofs.Editing.{are_edits}
use Rattle.pq_view.proofs.MapPaths.{any_alike, at_path}
use Rattle.pq_view.proofs.ListTests.{or_false, false_or, bytes_same, bytes_is, append_false, both_false, any_weaker, option_any, list_any-cons_option}
use Rattle.pq_view.proofs.TouchedNames.{listed}

-- one root more
pub names_more : (path seen root : List ℕ) (roots old names more : List (List ℕ)) (i : ℕ) → i < length roots
    → names ≡ old ++ filter_map (name_below path) (take i roots) → seen ≡ root → root ≡ get_or roots i root
    → more ≡ names ++ option_to_list (name_below path seen) → more ≡ old ++ filter_map (name_below path) (take (i + 1) roots)
names_more path seen root roots old names more i h so s d e =
    let r = get_or roots i root in
    let ns = filter_map (name_below path) (take i roots) in
    e
    ∙ ap (λ (xs : List (List ℕ)). xs ++ option_to_list (name_below path seen)) so
    ∙ append_assoc old ns (option_to_list (name_below path seen))
    ∙ ap (λ (x : List ℕ). old ++ (ns ++ option_to_list (name_below path x))) (s ∙ d)
    ∙ ap (λ (xs : List (List ℕ)). old ++ (ns ++ xs)) (listed (name_below path r))
    ∙ ap (λ (xs : List (List ℕ)). old ++ xs) (sym (filter_map-append (name_below path) (take i roots) (r ∷ [])))
    ∙ ap (λ (xs : List (List ℕ)). old ++ filter_map (name_below path) xs) (sym (take_more roots i root h))

-- an option that is absent
absent : (o : Option (List ℕ)) → is_some o ≡ false → o ≡ None
absent None h = refl
absent (Some t) h = absurd (cc)

module _ (name : List ℕ) where
  -- a name that is not among those of the known paths
  out_of_known : (old new ps : List (List ℕ)) → list_any (bytes_eq name) (flat_map (known_by old new) ps) ≡ false
      → (list_any (bytes_eq name) ps ≡ false)
      × (list_any (λ p. list_any (bytes_eq name) (filter_map (name_below p) old)) ps ≡ false)
      × (list_any (λ p. list_any (bytes_eq name) (filter_map (name_below p) new)) ps ≡ false)
  out_of_known old new [] h = (refl, refl, refl)
  out_of_known old new (p ∷ ps) h =
      let t = bytes_eq name in
      let xs = filter_map (name_below p) old in
      let ys = filter_map (name_below p) new in
      let s = append_false t (known_by old new p) (flat_map (known_by old new) ps) h in
      let u = or_false (t p) (list_any t (xs ++ ys)) s.0 in
      let w = append_false t xs ys u.1 in
      let z = out_of_known old new ps s.1 in (
        false_or (t p) (list_any t ps) u.0 z.0,
        false_or (list_any t xs) (list_any (λ p. list_any t (filter_map (name_below p) old)) ps) w.0 z.1,
        false_or (list_any t ys) (list_any (λ p. list_any t (filter_map (name_below p) new)) ps) w.1 z.2,
      )

  -- the first root and the others
  apart : (root : List ℕ) (roots ps : List (List ℕ)) → list_any (λ p. list_any (bytes_eq name) (filter_map (name_below p) (root ∷ roots))) ps ≡ false
      → (list_any (λ p. option_any (bytes_eq name) (name_below p root)) ps ≡ false)
      × (list_any (λ p. list_any (bytes_eq name) (filter_map (name_below p) roots)) ps ≡ false)
  apart root roots ps h =
      both_false (λ p. option_any (bytes_eq name) (name_below p root)) (λ p. list_any (bytes_eq name) (filter_map (name_below p) roots)) ps
      (sym (any_alike (λ p. list_any (bytes_eq name) (filter_map (name_below p) (root ∷ roots))) (λ p. option_any (bytes_eq name) (name_below p root) || list_any (bytes_eq name) (filter_map (name_below p) roots))
      (λ p. list_any-cons_option (bytes_eq name) (name_below p root) (filter_map (name_below p) roots)) ps) ∙ h)

  -- the path below a root is not known
  path_out : (root : List ℕ) (ps : List (List ℕ)) → is_path name ≡ false → list_any (λ p. option_any (bytes_eq name) (name_below p root)) ps ≡ false
      → list_any (bytes_eq (below root name)) ps ≡ false
  path_out root ps f h = false_from_ne_true (list_any (bytes_eq (below root name)) ps) (λ t.
      let g : list_any (λ p. option_any (bytes_eq name) (name_below p root)) ps ≡ true =
      any_weaker (bytes_eq (below root name)) (λ p. option_any (bytes_eq name) (name_below p root))
      (λ p u. ap (option_any (bytes_eq name)) (named p root name (sym (bytes_is (below root name) p u)) f) ∙ bytes_same name name refl) ps t in
      cc)

  module _ (v : View) (disk documents : List (List ℕ)) (known : IsKnown v disk documents) where
    -- a name of no known path has no place
    no_place : is_path name ≡ false → (roots : List (List ℕ)) → list_any (λ p. list_any (bytes_eq name) (filter_map (name_below p) roots)) disk ≡ false
        → list_any (λ p. list_any (bytes_eq name) (filter_map (name_below p) roots)) documents ≡ false → place_in v roots name ≡ None
    unfolding place_in
    no_place f [] h k = refl
    no_place f (r ∷ rs) h k =
        let s = apart r rs disk h in
        let t = apart r rs documents k in
        ap (λ o. cond (is_some (or_else o (v.disk (below r name)))) (Some (below r name)) (place_in v rs name)) (known.open_at (below r name) (path_out r documents f t.0))
        ∙ ap (λ o. cond (is_some o) (Some (below r name)) (place_in v rs name)) (known.on_disk (below r name) (path_out r disk f s.0))
        ∙ no_place f rs s.1 t.1

    -- a name of no known path has no source
    no_source : (p : Bool) → is_path name ≡ p → list_any (bytes_eq name) documents ≡ false
        → list_any (λ p. list_any (bytes_eq name) (filter_map (name_below p) v.roots)) disk ≡ false
        → list_any (λ p. list_any (bytes_eq name) (filter_map (name_below p) v.roots)) documents ≡ false → source v name ≡ None
    no_source true e o h k =
        cond-true (is_path name) (own_text v name) (placed_text v (place v name)) e
        ∙ ap (λ t. cond (is_found v name) None t) (known.open_at name o) ∙ neither (is_found v name)
      where
        neither : (b : Bool) → cond {A = Option (List ℕ)} b None None ≡ None
        neither true = refl
        neither false = refl
    no_source false e o h k =
        cond-false (is_path name) (own_text v name) (placed_text v (place v name)) e ∙ ap (placed_text v) (no_place e v.roots h k)

-- with other roots the same paths are known
known_after : (v : View) (roots disk documents : List (List ℕ)) → IsKnown v disk documents → IsKnown (with_roots roots v) disk documents
known_after v roots disk documents k = record { on_disk = k.on_disk; open_at = k.open_at }

-- each name has no source, or is that of a known path
settled_or_known : (v : View) (roots disk documents : List (List ℕ)) → IsKnown v disk documents → (name : List ℕ)
    → (source v name ≡ source (with_roots roots v) name) ⊎ (list_any (bytes_eq name) (known_names v.roots roots disk documents) ≡ true)
settled_or_known v roots disk documents k name = by_test (list_any (bytes_eq name) (known_names v.roots roots disk documents)) refl
  where
    by_test : (t : Bool) → list_any (bytes_eq name) (known_names v.roots roots disk documents) ≡ t
        → (source v name ≡ source (with_roots roots v) name) ⊎ (list_any (bytes_eq name) (known_names v.roots roots disk documents) ≡ true)
    by_test true e = inr e
    by_test false e =
        let s = append_false (bytes_eq name) (flat_map (known_by v.roots roots) disk) (flat_map (known_by v.roots roots) documents) e in
        let d = out_of_known name v.roots roots disk s.0 in
        let o = out_of_known name v.roots roots documents s.1 in
        inl
        (no_source name v disk documents k (is_path name) refl o.0 d.1 o.1
        ∙ sym (no_source name (with_roots roots v) disk documents (known_after v roots disk documents k) (is_path name) refl o.0 d.2 o.2))

-- a map has no texts but at its paths
pub at_keys : {Y : Type 0} (m : BTreeMap (String Y) (List ℕ)) (q : List ℕ) → list_any (bytes_eq q) (map string_bytes (keys m)) ≡ false → get_by_text m q ≡ None
at_keys m q h = absent (get_by_text m q) (at_path m q ∙ h)

-- the edits of the roots
pub roots_done : (v b a : View) (roots new names disk documents : List (List ℕ)) (es : List Edit) → IsKnown v disk documents → b ≡ v → a ≡ with_roots new v → roots ≡ v.roots
    → names ≡ known_names roots new disk documents → es ≡ edited b a [] names → AreEdits v (with_roots new v) es
roots_done v b a roots new names disk documents es k eb ea same is e =
    are_edits v (with_roots new v) (known_names v.roots new disk documents) es (settled_or_known v new disk documents k)
    (e ∙ ap (λ x. edited x a [] names) eb ∙ ap (λ x. edited v x [] names) ea ∙ ap (edited v (with_roots new v) []) (is ∙ ap (λ rs. known_names rs new disk documents) same))
