-- The paths of a map: those at which it has something, each once.
use Rattle.std.proofs.Common.{◌≡◌, ℕ, List, [], ◌∷◌, Bool, false, refl, sym, ◌∙◌, ap}
use Rattle.std.specs.Prelude.{◌↔◌, ◌||◌, bytes_eq, is_some, map, Contains, IsSome, string_bytes, String}
use Rattle.std.specs.BTreeMap.{BTreeMap, IsOrdered, get_by_text, keys}
use Rattle.std.specs.List.{AllByRecursion, IsDistinct, list_any}
use Rattle.std.specs.Ordering.{eq_by_cmp}
use Rattle.std.specs.String.{string_cmp}
use Rattle.std.proofs.lemmas.Map.Keys.{IsDistinct-from_sorted}
use Rattle.std.proofs.lemmas.Map.Made.{is_member-Decides, is_some-lookup}
use Rattle.std.proofs.lemmas.Map.Text.{is_eq-slice_cmp}
use Rattle.std.proofs.lemmas.Slice.Eq.{bytes_eq-Decides}
use Rattle.pq_view.specs.aux.Known.{paths_of}
use Rattle.pq_view.proofs.ListTests.{list_any-map}

-- tests that are alike
pub any_alike : {X : Type 0} (p q : X → Bool) → ((x : X) → p x ≡ q x) → (xs : List X) → list_any p xs ≡ list_any q xs
any_alike p q same [] = refl
any_alike p q same (x ∷ xs) = ap (λ t. t || list_any p xs) (same x) ∙ ap (λ t. q x || t) (any_alike p q same xs)

-- a map has something at its paths
pub at_path : {X Y : Type 0} (m : BTreeMap (String Y) X) (q : List ℕ) → is_some (get_by_text m q) ≡ list_any (bytes_eq q) (paths_of m)
at_path m q =
    is_some-lookup _ m.entries ∙ any_alike _ (λ k. bytes_eq q (string_bytes k)) (λ k. is_eq-slice_cmp q (string_bytes k)) (keys m)
    ∙ sym (list_any-map (bytes_eq q) string_bytes (keys m))

-- a map has something at a path exactly if that is one of its paths
pub has_path : {X Y : Type 0} (m : BTreeMap (String Y) X) (q : List ℕ) → IsSome (get_by_text m q) ↔ Contains (paths_of m) q
has_path m q =
    let d = is_member-Decides bytes_eq-Decides (paths_of m) q in
    (λ h. d.0 (sym (at_path m q) ∙ h), λ h. at_path m q ∙ d.1 h)

-- items that differ after f
all_images : {X Y : Type 0} (d : X → Bool) (e : Y → Bool) (f : X → Y) → ((x : X) → d x ≡ e (f x)) → (xs : List X)
    → AllByRecursion (λ x. d x ≡ false) xs → AllByRecursion (λ y. e y ≡ false) (map f xs)
all_images d e f same [] h = tt
all_images d e f same (x ∷ xs) h = (sym (same x) ∙ h.0, all_images d e f same xs h.1)

distinct_images : {X Y : Type 0} (d : X → X → Bool) (e : Y → Y → Bool) (f : X → Y) → ((x y : X) → d x y ≡ e (f x) (f y)) → (xs : List X)
    → IsDistinct d xs → IsDistinct e (map f xs)
unfolding IsDistinct
distinct_images d e f same [] h = tt
distinct_images d e f same (x ∷ xs) h = (all_images (d x) (λ y. e (f x) y) f (same x) xs h.0, distinct_images d e f same xs h.1)

-- no two paths of a map are the same
pub paths_once : {X Y : Type 0} (m : BTreeMap (String Y) X) → IsOrdered string_cmp m → IsDistinct bytes_eq (paths_of m)
paths_once m sorted =
    distinct_images (eq_by_cmp string_cmp) bytes_eq string_bytes (λ x y. is_eq-slice_cmp (string_bytes x) (string_bytes y)) (keys m)
    (IsDistinct-from_sorted string_cmp (keys m) sorted)
