-- The paths to read again, path by path, and that they are those at which two looks differ.
use Rattle.std.proofs.Common.{◌≡◌, ◌≢◌, ℕ, List, [], ◌∷◌, ◌++◌, Bool, true, false, cond, refl, sym, ◌∙◌, ap, subst, append_assoc}
use Rattle.std.specs.Prelude.{◌↔◌, ◌&&◌, ◌||◌, not, bytes_eq, is_some, map, Contains, IsTrue, Option, Some, None, string_bytes, String}
use Rattle.std.specs.BTreeMap.{BTreeMap, get_by_text}
use Rattle.std.specs.List.{AllByRecursion, IsDistinct, filter, list_any}
use Rattle.std.proofs.lemmas.List.Folds.{list_any-append}
use Rattle.std.proofs.lemmas.List.Kept.{AllPairs-filter}
use Rattle.std.proofs.lemmas.Map.Keys.{IsDistinct-cons, IsDistinct-head, IsDistinct-tail}
use Rattle.std.proofs.lemmas.Map.Made.{AllPairs-from_IsDistinct, IsDistinct-from_AllPairs, is_member-Decides}
use Rattle.std.proofs.lemmas.Slice.Eq.{bytes_eq-Decides}
use Rattle.pq_view.specs.Looks.{is_news}
use Rattle.pq_view.specs.aux.Known.{paths_of}
use Rattle.pq_view.specs.aux.News.{is_gone, is_news_at}
use Rattle.pq_view.specs.declared.looks.Look.{Look}
use Rattle.pq_view.proofs.ListTests.{bytes_same, filtered, or_false, or_true}
use Rattle.pq_view.proofs.MapPaths.{at_path}

-- ---- path by path

module _ {Y : Type 0} (p : List ℕ → Bool) (start : List (List ℕ)) where
  -- a path that passes
  pub news_more : (news more : List (List ℕ)) (key : String Y) (path : List ℕ) (left rest : List (String Y)) → left ≡ key ∷ rest → path ≡ string_bytes key → p path ≡ true
      → more ≡ news ++ path ∷ [] → news ++ filter p (map string_bytes left) ≡ start → more ++ filter p (map string_bytes rest) ≡ start
  news_more news more key path left rest d e t m i =
      let ys = filter p (map string_bytes rest) in
      let same : cond (p path) (path ∷ ys) ys ≡ path ∷ ys = ap (λ b. cond b (path ∷ ys) ys) t in
      ap (λ (xs : List (List ℕ)). xs ++ ys) m ∙ append_assoc news (path ∷ []) ys
      ∙ ap (λ (xs : List (List ℕ)). news ++ xs) (sym same ∙ ap (λ (x : List ℕ). cond (p x) (x ∷ ys) ys) e)
      ∙ ap (λ (xs : List (String Y)). news ++ filter p (map string_bytes xs)) (sym d) ∙ i

  -- a path that does not pass
  pub news_passed : (news : List (List ℕ)) (key : String Y) (path : List ℕ) (left rest : List (String Y)) → left ≡ key ∷ rest → path ≡ string_bytes key → p path ≡ false
      → news ++ filter p (map string_bytes left) ≡ start → news ++ filter p (map string_bytes rest) ≡ start
  news_passed news key path left rest d e t i =
      let ys = filter p (map string_bytes rest) in
      let same : cond (p path) (path ∷ ys) ys ≡ ys = ap (λ b. cond b (path ∷ ys) ys) t in
      ap (λ (xs : List (List ℕ)). news ++ xs) (sym same ∙ ap (λ (x : List ℕ). cond (p x) (x ∷ ys) ys) e)
      ∙ ap (λ (xs : List (String Y)). news ++ filter p (map string_bytes xs)) (sym d) ∙ i

-- ---- which paths they are

-- the tests of both lists are that of news
tests : (e l : Option Look) → ((is_some l && is_news e l) || (is_some e && not (is_some l))) ≡ is_news e l
tests None None = refl
tests None (Some b) = refl
tests (Some a) None = refl
tests (Some a) (Some b) = or_none (is_news (Some a) (Some b))
  where
    or_none : (t : Bool) → (t || false) ≡ t
    or_none true = refl
    or_none false = refl

-- what passes one test does not pass the other
in_one_test : (a n b : Bool) → (a && n) ≡ true → (b && not a) ≡ false
in_one_test true n true h = refl
in_one_test true n false h = refl
in_one_test false n b h = absurd (cc)

-- ---- each once

all_append : {X : Type 0} (P : X → Type 0) (xs ys : List X) → AllByRecursion P xs → AllByRecursion P ys → AllByRecursion P (xs ++ ys)
all_append P [] ys h k = k
all_append P (x ∷ xs) ys h k = (h.0, all_append P xs ys h.1 k)

none_passes : {X : Type 0} (t : X → Bool) (xs : List X) → list_any t xs ≡ false → AllByRecursion (λ x. t x ≡ false) xs
none_passes t [] h = tt
none_passes t (x ∷ xs) h = let s = or_false (t x) (list_any t xs) h in (s.0, none_passes t xs s.1)

-- two lists without a common item
distinct_append : (xs ys : List (List ℕ)) → IsDistinct bytes_eq xs → IsDistinct bytes_eq ys
    → ((q : List ℕ) → list_any (bytes_eq q) xs ≡ true → list_any (bytes_eq q) ys ≡ false) → IsDistinct bytes_eq (xs ++ ys)
distinct_append [] ys d e h = e
distinct_append (x ∷ xs) ys d e h =
    IsDistinct-cons bytes_eq x (xs ++ ys)
    (all_append (λ y. bytes_eq x y ≡ false) xs ys (IsDistinct-head bytes_eq x xs d) (none_passes (bytes_eq x) ys (h x (ap (λ t. t || list_any (bytes_eq x) xs) (bytes_same x x refl)))))
    (distinct_append xs ys (IsDistinct-tail bytes_eq x xs d) e (λ q t. h q (or_true (bytes_eq q x) (list_any (bytes_eq q) xs) t)))

distinct_filter : (p : List ℕ → Bool) (xs : List (List ℕ)) → IsDistinct bytes_eq xs → IsDistinct bytes_eq (filter p xs)
distinct_filter p xs d =
    IsDistinct-from_AllPairs bytes_eq-Decides (filter p xs) (AllPairs-filter (λ x y. x ≢ y) p xs (AllPairs-from_IsDistinct bytes_eq-Decides xs d))

module _ {Y : Type 0} (earlier later : BTreeMap (String Y) Look) where
  -- whether a path is among them
  listed_news : (q : List ℕ) → list_any (bytes_eq q) (filter (is_news_at earlier later) (paths_of later) ++ filter (is_gone later) (paths_of earlier)) ≡ is_news_at earlier later q
  listed_news q =
      let a = is_some (get_by_text later q) in
      let b = is_some (get_by_text earlier q) in
      let n = is_news_at earlier later q in
      let g = is_gone later q in
      list_any-append (bytes_eq q) (filter (is_news_at earlier later) (paths_of later)) (filter (is_gone later) (paths_of earlier))
      ∙ ap (λ t. t || list_any (bytes_eq q) (filter (is_gone later) (paths_of earlier))) (filtered (is_news_at earlier later) q (paths_of later) ∙ ap (λ t. t && n) (sym (at_path later q)))
      ∙ ap (λ t. (a && n) || t) (filtered (is_gone later) q (paths_of earlier) ∙ ap (λ t. t && g) (sym (at_path earlier q)))
      ∙ tests (get_by_text earlier q) (get_by_text later q)

  -- what two calls add
  pub news_added : (none changed news : List (List ℕ)) → none ≡ [] → changed ≡ none ++ filter (is_news_at earlier later) (paths_of later)
      → news ≡ changed ++ filter (is_gone later) (paths_of earlier)
      → news ≡ filter (is_news_at earlier later) (paths_of later) ++ filter (is_gone later) (paths_of earlier)
  news_added none changed news n c g =
      let xs = filter (is_news_at earlier later) (paths_of later) in
      let ys = filter (is_gone later) (paths_of earlier) in
      g ∙ ap (λ (zs : List (List ℕ)). zs ++ ys) (c ∙ ap (λ (zs : List (List ℕ)). zs ++ xs) n)

  -- a path is among them exactly if it is news
  pub news_are : (news : List (List ℕ)) → news ≡ filter (is_news_at earlier later) (paths_of later) ++ filter (is_gone later) (paths_of earlier)
      → (q : List ℕ) → Contains news q ↔ IsTrue (is_news_at earlier later q)
  news_are news is q =
      let d = is_member-Decides bytes_eq-Decides news q in
      let same : list_any (bytes_eq q) news ≡ is_news_at earlier later q = ap (list_any (bytes_eq q)) is ∙ listed_news q in
      (λ h. sym same ∙ d.1 h, λ h. d.0 (same ∙ h))

  -- no path is in both lists
  in_one_list : (q : List ℕ) → list_any (bytes_eq q) (filter (is_news_at earlier later) (paths_of later)) ≡ true
      → list_any (bytes_eq q) (filter (is_gone later) (paths_of earlier)) ≡ false
  in_one_list q h =
      let a = is_some (get_by_text later q) in
      filtered (is_gone later) q (paths_of earlier)
      ∙ in_one_test a (is_news_at earlier later q) (list_any (bytes_eq q) (paths_of earlier))
      (ap (λ t. t && is_news_at earlier later q) (at_path later q) ∙ sym (filtered (is_news_at earlier later) q (paths_of later)) ∙ h)

  -- each path comes once
  pub news_once : (news : List (List ℕ)) → news ≡ filter (is_news_at earlier later) (paths_of later) ++ filter (is_gone later) (paths_of earlier)
      → IsDistinct bytes_eq (paths_of later) → IsDistinct bytes_eq (paths_of earlier) → IsDistinct bytes_eq news
  news_once news is l e =
      subst (IsDistinct bytes_eq) (sym is)
      (distinct_append (filter (is_news_at earlier later) (paths_of later)) (filter (is_gone later) (paths_of earlier))
      (distinct_filter (is_news_at earlier later) (paths_of later) l) (distinct_filter (is_gone later) (paths_of earlier) e) in_one_list)
