use Rattle.std.proofs.Common.{◌<◌, length, sym, subst, arith, List, ℕ, rules}
use Rattle.std.proofs.lemmas.Grind.{common_steps}
use Rattle.pq_rules.proofs.NameCuts.{rest_shorter, one_more_piece}
use Rattle.pq_rules.proofs.sums.names.names_in.Goals as goal

pub pieces-smaller : goal.pieces-smaller
pieces-smaller c =
    let shorter = rest_shorter c.pieces.left.now (λ e. grind (arith, common_steps, e)) in
    subst (λ (x : List ℕ). length x < length c.pieces.left.now) (sym c.cut.ensures.left) shorter

pub pieces-preserved : goal.pieces-preserved
pieces-preserved c = (
  one_more_piece c.pieces.found.items c.push_name.new.names.items c.pieces.left.now c.args.text.now c.cut.result.0.now c.cut.result.1.now
      c.pieces.invariant.0 c.cut.ensures.name c.cut.ensures.left (c.in_ok-push_name.ensures {u = tt}),
  search rules,
)
