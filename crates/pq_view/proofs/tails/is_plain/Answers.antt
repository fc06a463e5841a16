use Rattle.std.proofs.Common.{ap, lit<, rules, tests}
use Rattle.std.specs.Prelude.{not}
use Rattle.std.proofs.lemmas.Iterator.Search.{any_from_yields_List}
use Rattle.std.proofs.lemmas.Iterator.Splits.{YieldsList-from_str_split}
use Rattle.pq_view.specs.Nearest.{is_no_step}
use Rattle.pq_view.proofs.tails.is_plain.Goals as goal

pub returns : goal.returns
returns c =
    ap not (any_from_yields_List is_no_step _ _ _ c.any.ensures.ran
    (YieldsList-from_str_split 47 c.args.name.now (lit< tt) c.split.ensures.text c.split.ensures.has_more c.split.ensures.pattern) (λ x b q k. search (rules, tests)))
