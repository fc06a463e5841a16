use Rattle.std.proofs.Common.{◌≡◌, ◌++◌, List, length, vec_len}
use Rattle.pq_memo.specs.Sound.{Memo}
use Rattle.pq_memo.specs.Table.{memo_at}
use Rattle.pq_memo.specs.aux.Written.{AllHaveRoom, memos_of, put_back}
use Rattle.pq_memo.proofs.table.memos.Memos.put_all.Given as goal

abbrev pub invariant-members : goal.invariant-members
invariant-members g l = record {
  rules : l.self.rules ≡ l.initial.self.rules;
  even : length l.members.items ≡ length l.prepared.items;
  room : AllHaveRoom g.R.Key.Ord.cmp l.self.places l.members.items;
  done : (rest : List (g.row.R-Key.Denot × Memo g.row.R-Key.Denot g.row.R-Value.Denot))
      × (memos_of l.now l.durability l.members.items l.prepared.items ++ rest ≡ memos_of l.now l.durability l.initial.members.items l.initial.prepared.items)
      × ((q : g.row.R-Key.Denot) → memo_at g.R.Key.Ord.cmp l.self.places q ≡ put_back g.R.Key.Ord.cmp rest (memo_at g.R.Key.Ord.cmp l.initial.self.places) q);
}

abbrev pub decreases-members : goal.decreases-members
decreases-members g l = vec_len l.members
