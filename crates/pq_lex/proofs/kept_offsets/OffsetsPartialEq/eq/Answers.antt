use Rattle.std.proofs.Common.{sym, ◌∙◌, arith}
use Rattle.std.proofs.lemmas.Grind.{same_number_lists}
use Rattle.std.specs.Cmp.{unsigned_Decides}
use Rattle.std.specs.Cmp.Lexicographic.{pointwise_decides}
use Rattle.pq_lex.proofs.kept_offsets.OffsetsPartialEq.eq.Goals as goal

pub returns : goal.returns
returns c = sym ((pointwise_decides unsigned_Decides c.args.self.now c.args.other.now).1 (same_number_lists c.args.self.now c.args.other.now (sym c.len.ensures ∙ c.if-len.false ∙ c.len-2.ensures) (λ k less. c.loop-k.invariant k (omega (arith, less, c.loop-k-test.false, c.len-k-end.ensures)))))
