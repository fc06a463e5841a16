use Rattle.pq_hall.proofs.HandMoves.{hand_is_of}
use Rattle.pq_hall.proofs.hall.Hall.+advance.Goals as goal

pub run_step-requires : goal.run_step-requires
run_step-requires g t c = hand_is_of g.R.OneValue.one c.args.state.now.store.rules c.new-run.result c.args.task.run c.new-run.ensures c.args.brought c.requires
