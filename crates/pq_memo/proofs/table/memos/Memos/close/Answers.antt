use Rattle.std.proofs.Common.{[], ◌<◌, List, length, ◌∙◌, subst}
use Rattle.pq_memo.specs.declared.stepping.frame.Frame.{Frame}
use Rattle.pq_memo.specs.Table.{memo_at}
use Rattle.pq_memo.specs.aux.Demand.{IsLeastKey}
use Rattle.pq_memo.proofs.RoundTurned.{closes, popped_of}
use Rattle.pq_memo.proofs.table.memos.Memos.close.Goals as goal

pub publish_round_hinted-requires-clause-round : goal.publish_round_hinted-requires-clause-round
publish_round_hinted-requires-clause-round g c =
    let laws = g.met.R.Rules.lawful c.args.self.now.rules [] in
    let least : IsLeastKey g.R.Key.Ord.cmp c.in_ok-round.round.items c.least_place-least.result =
    subst (λ (l : List (Frame g.row.R-Key.Denot g.row.R-Part.Denot)). IsLeastKey g.R.Key.Ord.cmp l c.least_place-least.result) c.deref.ensures.value c.least_place-least.ensures.least in
    let low : c.least_place-least.result < length c.in_ok-round.round.items =
    subst (λ (l : List (Frame g.row.R-Key.Denot g.row.R-Part.Denot)). c.least_place-least.result < length l) c.deref.ensures.value c.least_place-least.ensures.within in
    closes g.R.Key.Ord.cmp (g.R.Rules.machine c.args.self.now.rules) c.args.inputs.now (memo_at g.R.Key.Ord.cmp c.args.self.now.places) laws.exact
    c.args.stack.now c.args.place c.least_place-least.result c.args._next.now c.in_ok-round.round.items c.deref-2.result.now
    c.requires.linked c.requires.distinct c.requires.awaits c.requires.within c.requires.there (c.in_ok-round.ensures {u = tt}).taken low least
    (c.deref-2.ensures.value ∙ c.rotate_left.ensures.items)

pub returns-clause-popped : goal.returns-clause-popped
returns-clause-popped g c =
    let w = c.in_ok-publish_round_hinted.ensures.published in
    let taken = (c.in_ok-round.ensures {u = tt}).taken in
    let low : c.least_place-least.result < length c.in_ok-round.round.items =
    subst (λ (l : List (Frame g.row.R-Key.Denot g.row.R-Part.Denot)). c.least_place-least.result < length l) c.deref.ensures.value c.least_place-least.ensures.within in
    popped_of c.args.inputs.now.revision (memo_at g.R.Key.Ord.cmp c.args.self.now.places) (memo_at g.R.Key.Ord.cmp c.publish_round_hinted.new.self.places)
    c.args.stack.now c.split_off.new.self c.in_ok-round.round.items c.deref-2.result.now c.args.place c.least_place-least.result
    w.0 w.1 c.requires.within (c.in_ok-round.ensures {u = tt}).rest taken low (c.deref-2.ensures.value ∙ c.rotate_left.ensures.items) w.2 w.3
