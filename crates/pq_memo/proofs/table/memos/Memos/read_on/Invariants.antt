use Rattle.pq_memo.specs.Table.{memo_at, HasIn}
use Rattle.pq_memo.specs.Frames.{Came}
use Rattle.pq_memo.specs.aux.Demand.{IsLater}
use Rattle.pq_memo.proofs.table.memos.Memos.read_on.Given as goal

abbrev pub invariant-turns : goal.invariant-turns
invariant-turns g l = record {
  came : Came g.R.Key.Ord.cmp (g.R.Rules.machine l.self.rules) l.inputs.history l.inputs.revision (HasIn (memo_at g.R.Key.Ord.cmp l.self.places)) l._key l.turn l.reads.items;
  later : IsLater (g.R.Rules.machine l.self.rules) l.fn.turn l.turn;
}
