use Rattle.std.proofs.Common.{◌≡◌, take}
use Rattle.pq_memo.specs.Table.{memo_at, HasIn, IsSameTable}
use Rattle.pq_memo.specs.aux.Written.{ArePrepared, AllHaveRoom, IsCompared}
use Rattle.pq_memo.proofs.table.memos.Memos.prepare_all.Given as goal

abbrev pub invariant-members : goal.invariant-members
invariant-members g l = record {
  rules : l.self.rules ≡ l.initial.self.rules;
  same : IsSameTable (memo_at g.R.Key.Ord.cmp l.initial.self.places) (memo_at g.R.Key.Ord.cmp l.self.places);
  room : AllHaveRoom g.R.Key.Ord.cmp l.self.places (take l.i l.members);
  done : ArePrepared l.now (HasIn (memo_at g.R.Key.Ord.cmp l.initial.self.places)) l.answer (take l.i l.members) l.prepared.items;
  compared : IsCompared (HasIn (memo_at g.R.Key.Ord.cmp l.initial.self.places)) l.previous l.answer l.same;
}
