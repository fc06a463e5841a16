-- The lists that are owed to the documents of a map.
use Rattle.std.proofs.Common.{◌≡◌, ℕ, List, [], ◌∷◌, get_or, refl, sym, ◌∙◌, ap, subst}
use Rattle.std.specs.Prelude.{bytes_eq, is_some, map, Contains, IsSome, String}
use Rattle.std.specs.BTreeMap.{BTreeMap, IsOrdered, get_by_text}
use Rattle.std.specs.List.{All, IsDistinct}
use Rattle.std.specs.String.{string_cmp}
use Rattle.std.proofs.lemmas.List.Elements.{All-contains, All-map, Contains-get_or}
use Rattle.pq_view.specs.Owed.{AreOwed}
use Rattle.pq_view.specs.Views.{View, name_of}
use Rattle.pq_view.specs.aux.Known.{paths_of}
use Rattle.pq_view.specs.aux.Owing.{owed_at}
use Rattle.pq_view.specs.declared.owed.Owed.{Owed}
use Rattle.pq_view.proofs.MapPaths.{has_path, paths_once}

-- the paths of what is owed
owed_paths : (v : View) (paths : List (List ℕ)) → map (λ (o : Owed). o.path) (map (owed_at v) paths) ≡ paths
owed_paths v [] = refl
owed_paths v (p ∷ ps) = ap (λ (qs : List (List ℕ)). p ∷ qs) (owed_paths v ps)

-- `IsRight v o` is that `o` is owed to an open document, by the name of its file
abbrev IsRight : View → Owed → Type 0
IsRight v o = IsSome (v.documents o.path) × (o.name ≡ name_of v o.path)

-- the lists of all documents are owed
pub are_owed : {Y : Type 0} (v : View) (m : BTreeMap (String Y) (List ℕ)) (owed : List Owed) → ((q : List ℕ) → v.documents q ≡ get_by_text m q)
    → IsOrdered string_cmp m → owed ≡ map (owed_at v) (paths_of m) → AreOwed v owed
are_owed v m owed open_at sorted is = record {
  right = λ o h. All-contains (IsRight v) owed o all_right h;
  all = λ q h. subst (λ (qs : List (List ℕ)). Contains qs q) (sym paths) ((has_path m q).0 (sym (ap is_some (open_at q)) ∙ h));
  once = subst (IsDistinct bytes_eq) (sym paths) (paths_once m sorted);
}
  where
    paths : map (λ (o : Owed). o.path) owed ≡ paths_of m
    paths = ap (map (λ (o : Owed). o.path)) is ∙ owed_paths v (paths_of m)

    all_right : All (IsRight v) owed
    all_right =
        let each : All (λ q. IsRight v (owed_at v q)) (paths_of m) =
        λ k d h. let q = get_or (paths_of m) k d in (ap is_some (open_at q) ∙ (has_path m q).1 (Contains-get_or (paths_of m) k d h), refl) in
        subst (All (IsRight v)) (sym is) (All-map (IsRight v) (owed_at v) (paths_of m) each)
