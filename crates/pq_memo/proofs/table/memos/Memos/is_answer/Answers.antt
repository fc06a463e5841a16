use Rattle.std.proofs.Common.{sym}
use Rattle.pq_rules.proofs.Order.{strict}
use Rattle.pq_memo.specs.Table.{memo_at}
use Rattle.pq_memo.proofs.Mates.{mates_compared}
use Rattle.pq_memo.proofs.table.memos.Memos.is_answer.Goals as goal

pub returns-then-are_mates : goal.returns-then-are_mates
returns-then-are_mates g c =
    mates_compared g.R.Key.Ord.cmp (strict g.R.Key.Ord.cmp g.met.R.Key.Ord.total) (g.R.Rules.machine c.args.self.now.rules)
    c.requires.kept.0.history c.requires.kept.0.revision (memo_at g.R.Key.Ord.cmp c.args.self.now.places) c.requires.kept.1
    c.args.previous.now c.args.key.now c.in-Some.other.now c.args.entry.now (sym c.in-Some.ensures) c.requires.has
    (c.are_mates.ensures.own c.if-are_mates.true) (c.are_mates.ensures.other c.if-are_mates.true) c.args.answer.now c.args.same c.requires.same
