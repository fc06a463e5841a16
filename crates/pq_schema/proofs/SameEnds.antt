-- Names that end in the same bytes.
use Rattle.std.proofs.Common.{ℕ, List, ◌++◌, ap, ◌∙◌, arith, append_assoc}
use Rattle.std.proofs.lemmas.List.{length-append}
use Rattle.pq_schema.specs.aux.Fronts.{AreSameEnds}

-- more bytes before some
pub ends_more : (n left less : ℕ) (a b x y u v : List ℕ) → AreSameEnds n left a b x y → AreSameEnds left less x y u v → AreSameEnds n less a b u v
ends_more n left less a b x y u v e f = record {
  end = f.end ++ e.end;
  count = omega (arith, length-append f.end e.end, e.count, f.count);
  first = e.first ∙ ap (λ (t : List ℕ). t ++ e.end) f.first ∙ append_assoc u f.end e.end;
  second = e.second ∙ ap (λ (t : List ℕ). t ++ e.end) f.second ∙ append_assoc v f.end e.end;
}
