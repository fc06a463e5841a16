use denote.Param.Send.{param_send}
use Rattle.pq_server.proofs.editor.session.fn.run.scope.Goals as goal

-- the bounds of the function, which the closure requires: of the handle and of the output, and then of the
-- ends of a client
pub run_clients-outcome-requires-send-F-Porter : goal.run_clients-outcome-requires-send-F-Porter
run_clients-outcome-requires-send-F-Porter g c κs within = param_send _ _ c.requires.1.1.1.1.1.1.1.1.1.1.2

pub run_clients-outcome-requires-send-F-Take : goal.run_clients-outcome-requires-send-F-Take
run_clients-outcome-requires-send-F-Take g c κs within = param_send _ _ c.requires.1.1.1.1.1.1.1.1.1.1.3

pub run_clients-outcome-requires-send-F-Post : goal.run_clients-outcome-requires-send-F-Post
run_clients-outcome-requires-send-F-Post g c κs within = param_send _ _ c.requires.1.1.1.1.1.1.1.1.1.1.4

pub run_clients-outcome-requires-send-F-Receipt : goal.run_clients-outcome-requires-send-F-Receipt
run_clients-outcome-requires-send-F-Receipt g c κs within = param_send _ _ c.requires.1.1.1.1.1.1.1.1.1.1.5
