use Rattle.std.proofs.Common.{[]}
use Rattle.pq_rules.proofs.Weight.{Exact}
use Rattle.pq_memo.specs.Table.{memo_at}
use Rattle.pq_memo.proofs.Demanding.{answer_read}
use Rattle.pq_memo.proofs.table.memos.Memos.usable_answer.Goals as goal

pub returns-clause-value : goal.returns-clause-value
returns-clause-value g c =
    let laws = g.met.R.Rules.lawful c.args.self.now.rules [] in
    let exact : Exact g.R.Key.Ord.cmp = record { total = g.met.R.Key.Ord.total; exact = laws.exact } in
    answer_read g.R.Key.Ord.cmp exact (g.R.Rules.machine c.args.self.now.rules) c.args.inputs.now c.now-latest.ensures.last
    (memo_at g.R.Key.Ord.cmp c.args.self.now.places) c.requires c.args.key.now c.read_answer.result c.read_answer.ensures.answer
