-- The edits of a list of names.
use Rattle.std.proofs.Common.{◌≡◌, ◌⊎◌, inl, inr, ℕ, ◌+◌, ◌<◌, ◌≤◌, List, [], ◌∷◌, ◌++◌, length, drop, get_or, Bool, true, false, cond, refl, sym, ◌∙◌, ap, subst, add-one, drop-cons, append-nil, append_assoc, arith}
use Rattle.std.specs.Prelude.{Option, Some, None, ◌||◌, bytes_eq, map, Contains}
use Rattle.std.specs.BTreeMap.{is_at}
use Rattle.std.specs.BTreeSet.{BTreeSet, contains}
use Rattle.std.specs.Cmp.Lexicographic.{slice_cmp}
use Rattle.std.specs.Ordering.{nat_cmp}
use Rattle.std.specs.List.{IsDistinct, list_any}
use Rattle.std.proofs.lemmas.Cmp.{nat_list_eq_equiv}
use Rattle.std.proofs.lemmas.List.{drop_all, map-append}
use Rattle.std.proofs.lemmas.List.Elements.{Contains-append_left, Contains-append_right, Contains-push, Contains-push_cases}
use Rattle.std.proofs.lemmas.List.Folds.{list_any-append}
use Rattle.std.proofs.lemmas.Map.Keys.{IsDistinct-push}
use Rattle.std.proofs.lemmas.Map.Text.{is_eq-slice_cmp}
use Rattle.pq_view.specs.Views.{View, source}
use Rattle.pq_view.specs.Edits.{Differs, AreEdits}
use Rattle.pq_view.specs.aux.Touched.{HasNames, IsDone, add_edit, edit_at, edited, is_edited, same_text}
use Rattle.pq_view.specs.declared.edits.Edit.{Edit}
use Rattle.pq_view.proofs.ListTests.{bytes_same, bytes_is, list_any-map}

-- one edit more
is_edited-push : (es : List Edit) (e : Edit) (q : List ℕ) → is_edited (es ++ e ∷ []) q ≡ (is_edited es q || (bytes_eq q e.name || false))
is_edited-push es e q = list_any-append (λ (e : Edit). bytes_eq q e.name) es (e ∷ [])

-- two orders of a choice
swapped : (a b : Bool) → cond a true b ≡ (b || (a || false))
swapped true true = refl
swapped true false = refl
swapped false true = refl
swapped false false = refl

-- a set with one file more
pub has_names_push : (old new : BTreeSet (List ℕ)) (es : List Edit) (key : List ℕ) (e : Edit) → HasNames old es
    → ((q : List ℕ) → contains (slice_cmp nat_cmp) new q ≡ cond (is_at (slice_cmp nat_cmp key) q) true (contains (slice_cmp nat_cmp) old q))
    → key ≡ e.name → HasNames new (es ++ e ∷ [])
has_names_push old new es key e has updates same q =
    updates q
    ∙ ap (λ b. cond b true (contains (slice_cmp nat_cmp) old q)) (is_eq-slice_cmp key q ∙ ap (λ k. bytes_eq k q) same ∙ nat_list_eq_equiv.symm e.name q)
    ∙ ap (λ b. cond (bytes_eq q e.name) true b) (has q)
    ∙ swapped (bytes_eq q e.name) (is_edited es q)
    ∙ sym (is_edited-push es e q)

-- one name more
pub edited_more : (b a : View) (es fs : List Edit) (names : List (List ℕ)) (i : ℕ) (name : List ℕ) → i < length names → name ≡ get_or names i name
    → fs ≡ add_edit es (edit_at b a name) → edited b a fs (drop (i + 1) names) ≡ edited b a es (drop i names)
unfolding edited
edited_more b a es fs names i name h d e =
    ap (λ gs. edited b a gs (drop (i + 1) names)) (e ∙ ap (λ n. add_edit es (edit_at b a n)) d)
    ∙ rw (add-one, drop-cons names i name) refl

-- past the last name
pub edited_all : (b a : View) (es : List Edit) (names : List (List ℕ)) (i : ℕ) → length names ≤ i → es ≡ edited b a es (drop i names)
unfolding edited
edited_all b a es names i h = rw (drop_all i names h)

-- ---- the edits of a list of names are done

-- an item at the front
contains_head : {X : Type 0} (x : X) (xs : List X) → Contains (x ∷ xs) x
contains_head x xs = Contains-append_left (x ∷ []) xs x (Contains-push [] x)

-- a file that is edited is among those of the edits
pub contains_named : (es : List Edit) (name : List ℕ) → is_edited es name ≡ true → Contains (map (λ (e : Edit). e.name) es) name
contains_named [] name h = absurd (cc)
contains_named (e ∷ es) name h = by_test (contains_named es name) (bytes_eq name e.name) refl
  where
    by_test : (is_edited es name ≡ true → Contains (map (λ (e : Edit). e.name) es) name) → (t : Bool) → bytes_eq name e.name ≡ t → Contains (map (λ (e : Edit). e.name) (e ∷ es)) name
    by_test rest true u =
        let P : List ℕ → Type 0 = λ m. Contains (map (λ (e : Edit). e.name) (e ∷ es)) m in
        subst P (sym (bytes_is name e.name u)) (contains_head e.name (map (λ (e : Edit). e.name) es))
    by_test rest false u =
        Contains-append_right (e.name ∷ []) (map (λ (e : Edit). e.name) es) name (rest (sym (ap (λ t. t || is_edited es name) u) ∙ h))

-- the same texts
same_text_same : (o : Option (List ℕ)) → same_text o o ≡ true
same_text_same None = refl
same_text_same (Some t) = bytes_same t t refl

same_text_is : (o p : Option (List ℕ)) → same_text o p ≡ true → o ≡ p
same_text_is None None h = refl
same_text_is None (Some b) h = absurd (cc)
same_text_is (Some a) None h = absurd (cc)
same_text_is (Some a) (Some b) h = ap Some (bytes_is a b h)

differs : (o p : Option (List ℕ)) → same_text o p ≡ false → o ≡ p → ⊥
differs o p h e =
    let t : same_text o p ≡ true = ap (λ q. same_text o q) (sym e) ∙ same_text_same o in
    cc

module _ (b a : View) where
  -- `IsSettled es name` is that the file `name` keeps its source or is edited
  abbrev IsSettled : List Edit → List ℕ → Type 0
  IsSettled es name = (source b name ≡ source a name) ⊎ (is_edited es name ≡ true)

  -- more edits
  settled_more : (es fs : List Edit) (name : List ℕ) → (is_edited es name ≡ true → is_edited fs name ≡ true) → IsSettled es name → IsSettled fs name
  settled_more es fs name more (inl s) = inl s
  settled_more es fs name more (inr t) = inr (more t)

  -- one name more
  all_more : (names : List (List ℕ)) (n : List ℕ) (es fs : List Edit) → ((name : List ℕ) → is_edited es name ≡ true → is_edited fs name ≡ true)
      → ((name : List ℕ) → list_any (bytes_eq name) names ≡ true → IsSettled es name) → IsSettled fs n
      → (name : List ℕ) → list_any (bytes_eq name) (names ++ n ∷ []) ≡ true → IsSettled fs name
  all_more names n es fs more all here name h = by_test (list_any (bytes_eq name) names) (bytes_eq name n) refl refl (sym (list_any-append (bytes_eq name) names (n ∷ [])) ∙ h)
    where
      by_test : (s t : Bool) → list_any (bytes_eq name) names ≡ s → bytes_eq name n ≡ t → (s || (t || false)) ≡ true → IsSettled fs name
      by_test true t e f g = settled_more es fs name (more name) (all name e)
      by_test false true e f g = subst (IsSettled fs) (sym (bytes_is name n f)) here
      by_test false false e f g = absurd (cc)

  -- no names
  pub done_none : IsDone b a [] []
  unfolding IsDistinct
  done_none = record { right = λ e k. absurd (omega (arith, k.1)); all = λ name h. absurd (cc); once = tt }

  -- a name that keeps its source, or is edited
  done_still : (names : List (List ℕ)) (n : List ℕ) (es : List Edit) → IsDone b a names es → IsSettled es n → IsDone b a (names ++ n ∷ []) es
  done_still names n es d here = record { right = d.right; all = all_more names n es es (λ name t. t) d.all here; once = d.once }

  -- a name that gets an edit
  done_push : (names : List (List ℕ)) (n : List ℕ) (es : List Edit) (e : Edit) → IsDone b a names es → e.name ≡ n → e.text ≡ source a n → Differs b a n
      → is_edited es n ≡ false → IsDone b a (names ++ n ∷ []) (es ++ e ∷ [])
  done_push names n es e d s t f u = record {
    right = λ x k. by_place x (Contains-push_cases es e x k);
    all = all_more names n es (es ++ e ∷ []) (λ name t. is_edited-push es e name ∙ ap (λ v. v || (bytes_eq name e.name || false)) t) d.all (inr here);
    once = subst (IsDistinct bytes_eq) (sym (map-append (λ (e : Edit). e.name) es (e ∷ []))) (IsDistinct-push nat_list_eq_equiv (map (λ (e : Edit). e.name) es) e.name d.once new);
  }
    where
      here : is_edited (es ++ e ∷ []) n ≡ true
      here = is_edited-push es e n ∙ ap (λ v. v || (bytes_eq n e.name || false)) u ∙ ap (λ v. v || false) (bytes_same n e.name (sym s))

      new : list_any (bytes_eq e.name) (map (λ (e : Edit). e.name) es) ≡ false
      new = list_any-map (bytes_eq e.name) (λ (e : Edit). e.name) es ∙ ap (is_edited es) s ∙ u

      made : (e.text ≡ source a e.name) × Differs b a e.name
      made = (t ∙ ap (source a) (sym s), λ g. f (ap (source b) (sym s) ∙ g ∙ ap (source a) s))

      by_place : (x : Edit) → Contains es x ⊎ (e ≡ x) → (x.text ≡ source a x.name) × Differs b a x.name
      by_place x (inl k) = d.right x k
      by_place x (inr g) = let P : Edit → Type 0 = λ y. (y.text ≡ source a y.name) × Differs b a y.name in subst P g made

  -- one name more
  done_more : (names : List (List ℕ)) (n : List ℕ) (es : List Edit) → IsDone b a names es → IsDone b a (names ++ n ∷ []) (add_edit es (edit_at b a n))
  done_more names n es d = by_text (same_text (source b n) (source a n)) refl
    where
      by_edit : (t : Bool) → is_edited es n ≡ t → Differs b a n
          → IsDone b a (names ++ n ∷ []) (cond t es (es ++ (record { name = n; text = source a n }) ∷ []))
      by_edit true u f = done_still names n es d (inr u)
      by_edit false u f = done_push names n es (record { name = n; text = source a n }) d refl refl f u

      by_text : (s : Bool) → same_text (source b n) (source a n) ≡ s
          → IsDone b a (names ++ n ∷ []) (add_edit es (cond s None (Some (record { name = n; text = source a n }))))
      by_text true e = done_still names n es d (inl (same_text_is (source b n) (source a n) e))
      by_text false e = by_edit (is_edited es n) refl (differs (source b n) (source a n) e)

  -- all names
  pub done_all : (names more : List (List ℕ)) (es : List Edit) → IsDone b a names es → IsDone b a (names ++ more) (edited b a es more)
  unfolding edited
  done_all names [] es d = let P : List (List ℕ) → Type 0 = λ ns. IsDone b a ns es in subst P (sym (append-nil names)) d
  done_all names (n ∷ ns) es d =
      let fs = add_edit es (edit_at b a n) in
      let P : List (List ℕ) → Type 0 = λ ms. IsDone b a ms (edited b a fs ns) in
      subst P (append_assoc names (n ∷ []) ns) (done_all (names ++ n ∷ []) ns fs (done_more names n es d))

  -- the edits of names, of which each file is one or keeps its source
  pub are_edits : (names : List (List ℕ)) (es : List Edit) → ((name : List ℕ) → (source b name ≡ source a name) ⊎ (list_any (bytes_eq name) names ≡ true))
      → es ≡ edited b a [] names → AreEdits b a es
  are_edits names es cover e = record {
    right = done.right;
    all = λ name. by_cover name (cover name);
    once = done.once;
  }
    where
      done : IsDone b a names es
      done = subst (IsDone b a names) (sym e) (done_all [] names [] done_none)

      by_edit : (name : List ℕ) → IsSettled es name → (source b name ≡ source a name) ⊎ Contains (map (λ (e : Edit). e.name) es) name
      by_edit name (inl s) = inl s
      by_edit name (inr t) = inr (contains_named es name t)

      by_cover : (name : List ℕ) → (source b name ≡ source a name) ⊎ (list_any (bytes_eq name) names ≡ true)
          → (source b name ≡ source a name) ⊎ Contains (map (λ (e : Edit). e.name) es) name
      by_cover name (inl s) = inl s
      by_cover name (inr t) = by_edit name (done.all name t)
