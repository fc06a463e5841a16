use Rattle.std.proofs.Common.{ap, Some}
use Rattle.std.specs.declared.cmp.Ordering.TheVariants.{Equal}
use Rattle.std.specs.Cmp.Lexicographic.{slice_cmp, texts_po, bytes_decides}
use Rattle.std.specs.Ordering.{nat_cmp}
use Rattle.std.proofs.lemmas.Option.{same_Some}
use Rattle.pq_names.proofs.laws.texts_compare_by_bytes.Goals as goal

-- a tie of the order is an equality of bytes, which decides whether the lists are the same
pub returns-clause-tie : goal.returns-clause-tie
returns-clause-tie c a b = (
  λ tie. (bytes_decides a b).0 ((texts_po.matches_eq a b).1 (ap Some tie)),
  λ same. same_Some (slice_cmp nat_cmp a b) Equal ((texts_po.matches_eq a b).0 ((bytes_decides a b).1 same)),
)
