use Rattle.pq_syntax.proofs.Showing.{takes_now, shallow_now}
use Rattle.pq_syntax.proofs.loose.show_next.Goals as goal

pub turn-requires : goal.turn-requires
turn-requires c = shallow_now c.args.text.now c.args.braces.now _ c.args.begins c.args.tokens.now _ _ c.requires c.close_before.ensures c.innermost-holder.ensures c.sight_at-sight.ensures

pub returns-clause-takes : goal.returns-clause-takes
returns-clause-takes c = takes_now c.args.text.now c.args.braces.now _ c.args.begins c.args.tokens.now _ _ c.requires c.close_before.ensures c.innermost-holder.ensures c.sight_at-sight.ensures
