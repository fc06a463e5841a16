-- The places of all files, one after the other.
use Rattle.std.proofs.Common.{◌≡◌, ℕ, ◌<◌, ◌≤◌, ◌+◌, List, [], ◌∷◌, ◌++◌, length, inl, inr, sym, subst, arith}
use Rattle.std.specs.List.Sorted.{IsPermutation, IsSorted}
use Rattle.std.specs.Ordering.{nat_cmp}
use Rattle.std.proofs.lemmas.Bool.{cases_lt}
use Rattle.std.proofs.lemmas.List.Sorted.{Contains-permutation}
use Rattle.std.proofs.lemmas.Option.{slice_get_within}
use Rattle.pq_rules.specs.Relations.{In}
use Rattle.pq_rules.specs.aux.Lists.{in_append_left, in_append_right}
use Rattle.pq_rules.proofs.ListLemmas.{in_contains, contains_in}
use Rattle.pq_schema.specs.declared.scope.scope.FileDefs.{FileDefs}
use Rattle.pq_schema.specs.aux.Grouping.{AreNear}

-- one number more
pub one_more : (old new : List ℕ) (n : ℕ) → new ≡ old ++ n ∷ [] → ((k : ℕ) → k < n → In k old) → (k : ℕ) → k < n + 1 → In k new
one_more old new n added so_far k below =
    subst (λ (ks : List ℕ). In k ks) (sym added) (elim (cases_lt k n) [
      | inl earlier ↦ in_append_left k old (n ∷ []) (so_far k earlier)
      | inr last ↦
          let here : k ≡ n = omega arith in
          in_append_right k old (n ∷ []) (inl here)
    ])

-- the places of all files are near any scopes
pub all_near : (all sorted : List ℕ) (count n : ℕ) → count ≤ n → ((k : ℕ) → k < n → In k all) → IsPermutation all sorted → IsSorted nat_cmp sorted
    → (files : List FileDefs) (roots : List (List ℕ)) → length files ≡ count → AreNear sorted files roots
all_near all sorted count n past so_far same rising files roots many = record {
  rising = rising;
  all = λ k f at among.
      let within = slice_get_within files k f at in
      contains_in k sorted (Contains-permutation all sorted k same (in_contains k all (so_far k (omega arith))));
}
