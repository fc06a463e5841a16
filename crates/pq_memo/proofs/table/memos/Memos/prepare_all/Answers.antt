use Rattle.std.proofs.Common.{ℕ, List, [], refl, sym, ◌∙◌, subst}
use Rattle.pq_rules.specs.declared.turn.Answer.{Answer}
use Rattle.pq_memo.specs.Table.{memo_at, HasIn, KeptOver}
use Rattle.pq_memo.specs.Writes.{IsDated}
use Rattle.pq_memo.specs.aux.Written.{ArePrepared}
use Rattle.pq_memo.proofs.Mates.{compared_as}
use Rattle.pq_memo.proofs.PutAll.{rooms_next, prepared_next}
use Rattle.pq_memo.proofs.TableCalls.{kept_same}
use Rattle.pq_memo.proofs.table.memos.Memos.prepare_all.Goals as goal

pub members-init : goal.members-init
members-init g c = record {
  rules = refl;
  same = λ q. refl;
  room = tt;
  done = subst (λ (l : List (Answer g.row.R-Key.Denot g.row.R-Value.Denot × ℕ)). ArePrepared c.args.now (HasIn (memo_at g.R.Key.Ord.cmp c.args.self.now.places)) c.args.answer.now [] l)
      (sym c.new-prepared.ensures.items) tt;
  compared = compared_as (memo_at g.R.Key.Ord.cmp c.args.self.now.places) (memo_at g.R.Key.Ord.cmp c.args.self.now.places) (λ q. refl)
      c.key-previous.result.now c.get.result.now c.args.answer.now c.get.ensures.value c.compared_first-same.result c.compared_first-same.ensures;
}

pub members-preserved : goal.members-preserved
members-preserved g c = record {
  rules = c.make_room.ensures.rules ∙ c.members.invariant.rules;
  same = λ q. c.make_room.ensures.same q ∙ c.members.invariant.same q;
  room = rooms_next g.R.Key.Ord.cmp c.members.self.places c.make_room.new.self.places c.args.members.now c.members.i c.index-members-i.result c.key-key.result.now
      c.members-test.true c.index-members-i.is c.key-key.ensures (c.in_ok-make_room.ensures.room) c.make_room.ensures.kept c.members.invariant.room;
  done = prepared_next c.args.now (memo_at g.R.Key.Ord.cmp c.args.self.now.places) (memo_at g.R.Key.Ord.cmp c.members.self.places) c.members.invariant.same
      c.args.answer.now c.args.members.now c.members.i c.index-members-i.result c.key-key.result.now c.members.prepared.items c.push.new.items.items
      (c.in_ok-share.share, c.compared-again.result.1)
      c.members-test.true c.index-members-i.is c.key-key.ensures (c.in_ok-push.ensures {u = tt}).added
      (record {
        answer_is = c.in_ok-share.ensures.copy;
        dated = subst (λ (a : Answer g.row.R-Key.Denot g.row.R-Value.Denot). IsDated c.args.now (HasIn (memo_at g.R.Key.Ord.cmp c.members.self.places)) c.key-key.result.now a c.compared-again.result.1)
            c.get-in-members.ensures.value c.compared-again.ensures.dated;
      })
      c.members.invariant.done;
  compared = compared_as (memo_at g.R.Key.Ord.cmp c.members.self.places) (memo_at g.R.Key.Ord.cmp c.args.self.now.places) (λ q. sym (c.members.invariant.same q))
      c.key-key.result.now c.get-in-members.result.now c.args.answer.now c.get-in-members.ensures.value c.compared-again.result.0 c.compared-again.ensures.same;
}

pub compared-again-requires-clause-kept : goal.compared-again-requires-clause-kept
compared-again-requires-clause-kept g c = (
  c.requires.kept.0,
  subst (λ (r : g.row.R.Denot). KeptOver g.R.Key.Ord.cmp (g.R.Rules.machine r) c.requires.kept.0 c.members.self.places) (sym c.members.invariant.rules)
      (kept_same g.R.Key.Ord.cmp (g.R.Rules.machine c.args.self.now.rules) c.requires.kept.0 c.args.self.now.places c.members.self.places c.members.invariant.same c.requires.kept.1),
)

pub compared-again-requires-clause-same : goal.compared-again-requires-clause-same
compared-again-requires-clause-same g c =
    compared_as (memo_at g.R.Key.Ord.cmp c.args.self.now.places) (memo_at g.R.Key.Ord.cmp c.members.self.places) c.members.invariant.same
    c.members.previous.now c.args.answer.now c.get-in-members.result.now (sym c.get-in-members.ensures.value) c.members.same c.members.invariant.compared
