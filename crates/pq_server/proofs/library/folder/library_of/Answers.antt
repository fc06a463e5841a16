use Rattle.std.proofs.Common.{List, ℕ, map, sym, subst}
use Rattle.std.specs.Prelude.{string_bytes}
use Rattle.std.specs.List.Sorted.{IsPermutation, IsSorted}
use Rattle.std.specs.Ordering.{nat_cmp}
use Rattle.std.specs.Cmp.Lexicographic.{slice_cmp}
use Rattle.std.proofs.lemmas.List.Sorted.{IsPermutation-map}
use Rattle.pq_server.proofs.ListLemmas.{texts_in_order}
use Rattle.pq_server.proofs.library.folder.library_of.Goals as goal

pub returns : goal.returns
returns g c =
    let ordered = c.in_ok-ordered.ordered.items in
    let named = sym c.in_ok-files.ensures in (
      c.in_ok-files.files.items,
      subst (λ (names : List (List ℕ)). IsPermutation (map string_bytes c.args.names.items) names) {x = map string_bytes ordered} named (IsPermutation-map string_bytes c.args.names.items ordered c.in_ok-ordered.ensures.same),
      subst (λ (names : List (List ℕ)). IsSorted (slice_cmp nat_cmp) names) {x = map string_bytes ordered} named (texts_in_order ordered c.in_ok-ordered.ensures.sorted),
      (c.in_ok-inputs.ensures.files, c.in_ok-inputs.ensures.revision, c.in_ok-inputs.ensures.limit),
    )
