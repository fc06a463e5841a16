use Rattle.std.proofs.Common.{[], ◌∙◌, ap, sym}
use Rattle.pq_rules.proofs.ListLemmas.{not_both}
use Rattle.pq_rules.proofs.Weight.{Exact}
use Rattle.pq_memo.proofs.Coded.{other_number}
use Rattle.pq_memo.proofs.table.numbers.Numbers.get.Goals as goal

pub returns-else-is_same_key : goal.returns-else-is_same_key
returns-else-is_same_key g c =
    let laws = g.met.R.Rules.lawful c.args.rules.now [] in
    let exact : Exact g.R.Key.Ord.cmp = record { total = g.met.R.Key.Ord.total; exact = laws.exact } in
    c.noted.ensures
    ∙ other_number g.R.Key.Ord.cmp exact g.R.Rules.codes c.self.inside.codes.entries c.self.inside.others.entries c.args.self.now c.self.view_is
    c.args.key.now c.code.result c.in-Some.first.now c.code.ensures.code c.in-Some.ensures
    (λ e. not_both (c.is_same_key.ensures.1 (c.key.ensures ∙ e)) c.if-is_same_key.false)
