use Rattle.pq_hall.proofs.Crosses.{hall_sync}
use Rattle.pq_server.proofs.editor.session.serve_in.Goals as goal

-- src/editor/session.rt
pub run-requires-sync-F : goal.run-requires-sync-F
run-requires-sync-F g c κs within = let b = c.type_bounds in let y = hall_sync _ _ _ _ _ g.S.Rules g.S.Key.Ord g.S.Key.PartialEq
    g.S.Key.PartialOrd g.S.Value.PartialEq g.J.BoardName g.J.BoardName-dict _ g.S.Clone g.S.Key.Eq g.S.Value.Eq g.R.Wait b.send-S b.sync-S b.send-J b.sync-J b.send-R b.send-S-Key
    b.sync-S-Key b.send-S-Value b.sync-S-Value b.send-S-Part in record { shared = y.shared }
