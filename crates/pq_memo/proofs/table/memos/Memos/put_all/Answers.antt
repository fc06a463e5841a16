use Rattle.std.proofs.Common.{List, refl, sym, ◌∙◌, ap, ap₂, subst}
use Rattle.pq_memo.specs.Sound.{Memo}
use Rattle.pq_memo.specs.Table.{memo_at}
use Rattle.pq_memo.specs.aux.Written.{AllHaveRoom, HasRoom, memo_of, memos_of}
use Rattle.pq_memo.proofs.PutAll.{none_put, put_member, rooms_front, rooms_stay, length_pop}
use Rattle.pq_memo.proofs.table.memos.Memos.put_all.Goals as goal

pub members-init : goal.members-init
members-init g c = record {
  rules = refl;
  even = c.requires.even;
  room = c.requires.room;
  done = none_put g.R.Key.Ord.cmp (memo_at g.R.Key.Ord.cmp c.args.self.now.places) (memos_of c.args.now c.args.durability c.args.members.items c.args.prepared.items);
}

pub put-requires : goal.put-requires
put-requires g c = record {
  room = subst (λ (k : g.row.R-Key.Denot). HasRoom g.R.Key.Ord.cmp c.members.self.places k) (sym c.parts-key.ensures.0)
      (rooms_front g.R.Key.Ord.cmp c.members.self.places c.pop.new.self.items c.in-Some.member
      (subst (λ (l : List (g.row.R-Key.Denot × List g.row.R-Key.Denot)). AllHaveRoom g.R.Key.Ord.cmp c.members.self.places l) c.in-Some.ensures.items c.members.invariant.room)).1;
}

pub members-preserved : goal.members-preserved
members-preserved g c = record {
  rules = c.put.ensures.rules ∙ c.members.invariant.rules;
  even = length_pop c.members.members.items c.pop.new.self.items c.in-Some.member c.members.prepared.items c.pop-in-Some.new.self.items c.in-Some-pop.next
      c.in-Some.ensures.items c.in-Some-pop.ensures.items c.members.invariant.even;
  room = rooms_stay g.R.Key.Ord.cmp c.members.self.places c.put.new.self.places c.pop.new.self.items c.put.ensures.kept
      (rooms_front g.R.Key.Ord.cmp c.members.self.places c.pop.new.self.items c.in-Some.member
      (subst (λ (l : List (g.row.R-Key.Denot × List g.row.R-Key.Denot)). AllHaveRoom g.R.Key.Ord.cmp c.members.self.places l) c.in-Some.ensures.items c.members.invariant.room)).0;
  done = put_member g.R.Key.Ord.cmp c.args.now c.args.durability (memo_at g.R.Key.Ord.cmp c.args.self.now.places) (memo_at g.R.Key.Ord.cmp c.members.self.places)
      (memo_at g.R.Key.Ord.cmp c.put.new.self.places) (memos_of c.args.now c.args.durability c.args.members.items c.args.prepared.items)
      c.members.members.items c.pop.new.self.items c.members.prepared.items c.pop-in-Some.new.self.items c.in-Some.member c.in-Some-pop.next
      c.parts-key.result.0 c.new-entry.result c.members.invariant.done.0 c.members.invariant.done.1 c.in-Some.ensures.items c.in-Some-pop.ensures.items c.members.invariant.even
      (ap₂ (λ (k : g.row.R-Key.Denot) (e : Memo g.row.R-Key.Denot g.row.R-Value.Denot). (k, e)) c.parts-key.ensures.0
      (c.new-entry.ensures ∙ ap (λ (l : List g.row.R-Key.Denot). (memo_of c.args.now c.args.durability (c.in-Some.member.0, l) c.in-Some-pop.next).1) c.parts-key.ensures.1))
      c.members.invariant.done.2 c.put.ensures.put;
}
