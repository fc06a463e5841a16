use Rattle.std.proofs.Common.{List, sym, subst}
use Rattle.pq_memo.specs.declared.stepping.frame.Frame.{Frame}
use Rattle.pq_memo.specs.Table.{memo_at}
use Rattle.pq_memo.specs.aux.Demand.{LastAwaits}
use Rattle.pq_memo.proofs.Stacked.{last_awaits}
use Rattle.pq_memo.proofs.RoundTurned.{last_apart}
use Rattle.pq_memo.proofs.TableCalls.{kept_same}
use Rattle.pq_memo.proofs.table.memos.Memos.enter.Goals as goal

pub push-requires : goal.push-requires
push-requires g c = last_apart c.args.stack.now c.args.frame c.requires.distinct

pub close-requires-clause-awaits : goal.close-requires-clause-awaits
close-requires-clause-awaits g c =
    subst (λ (l : List (Frame g.row.R-Key.Denot g.row.R-Part.Denot)). LastAwaits g.R.Key.Ord.cmp (g.R.Rules.machine c.args.self.now.rules) c.args.inputs.now (memo_at g.R.Key.Ord.cmp c.args.self.now.places) c.args.next l)
    (sym (c.in_ok-push.ensures {u = tt}))
    (last_awaits g.R.Key.Ord.cmp (g.R.Rules.machine c.args.self.now.rules) c.args.inputs.now (memo_at g.R.Key.Ord.cmp c.args.self.now.places) c.args.next
    c.args.stack.now c.args.frame c.requires.awaits)

pub returns-in_err-own-in-None-clause-kept : goal.returns-in_err-own-in-None-clause-kept
returns-in_err-own-in-None-clause-kept g c =
    kept_same g.R.Key.Ord.cmp (g.R.Rules.machine c.args.self.now.rules) c.args.inputs.now c.args.self.now.places c.make_room.new.self.places
    c.make_room.ensures.same c.requires.kept

pub returns-in_err-push-in-None-clause-kept : goal.returns-in_err-push-in-None-clause-kept
returns-in_err-push-in-None-clause-kept g c =
    kept_same g.R.Key.Ord.cmp (g.R.Rules.machine c.args.self.now.rules) c.args.inputs.now c.args.self.now.places c.make_room.new.self.places
    c.make_room.ensures.same c.requires.kept

pub returns-in_ok-push-in-None-clause-kept : goal.returns-in_ok-push-in-None-clause-kept
returns-in_ok-push-in-None-clause-kept g c =
    kept_same g.R.Key.Ord.cmp (g.R.Rules.machine c.args.self.now.rules) c.args.inputs.now c.args.self.now.places c.make_room.new.self.places
    c.make_room.ensures.same c.requires.kept
