-- A hall is shared by threads where its rule set, keys, values and parts may go to another thread.
use denote.RattleType.{RattleType}
use mir.Syntax.{Dict}
use denote.Param.Send.{IsSend, IsSync, sendable}
use Rattle.std.proofs.Crossing.{crosses}
use Rattle.pq_inputs.specs.contracts.inputs.Inputs as inputs
use Rattle.pq_inputs.proofs.files.Files.TheSendSync as files
use Rattle.pq_inputs.proofs.last_changed.LastChanged.TheSendSync as last_changed
use Rattle.boxcar.proofs.vec.Vec.TheSendSync as vec
use Rattle.pq_hall.proofs.mark.Mark.TheSendSync as marks
use Rattle.pq_hall.specs.declared.mark.BoardName as name
use Rattle.pq_hall.specs.contracts.board.Board as board
use Rattle.pq_hall.specs.contracts.entry.Entry as entry
use Rattle.pq_hall.specs.contracts.mark.Mark as mark
use Rattle.std.specs.declared.clone.Clone as clone
use Rattle.std.specs.declared.cmp.Eq as full
use Rattle.std.specs.declared.cmp.Ord as ord
use Rattle.std.specs.declared.cmp.PartialEq as eq
use Rattle.std.specs.declared.cmp.PartialOrd as partial
use Rattle.std.specs.declared.sync.Wait as wait
use Rattle.pq_rules.specs.declared.rules.Rules as rules
use Rattle.pq_core.proofs.Crosses.{store_send}
use Rattle.pq_core.specs.contracts.runs.job.Job as job
use Rattle.pq_core.specs.contracts.runs.work.Work as work
use Rattle.pq_core.specs.contracts.values.ready.Ready as ready
use Rattle.pq_hall.specs.contracts.state.State as state
use Rattle.pq_hall.specs.contracts.working.Turn as turn
use Rattle.pq_hall.specs.contracts.mark.MarkStamp.TheImpl as stamps
use Rattle.pq_hall.specs.contracts.hall.Hall as hall
use Rattle.pq_hall.specs.contracts.seats.Seat as seat
use Rattle.pq_core.proofs.lanes.lane.Lane.TheSendSync as lanes
use Rattle.pq_mail.proofs.outboxes.LaneEnd.TheSendSync as ends

inputs_send : IsSend inputs.the_row
inputs_send = search (files.the_send, last_changed.the_send, sendable, crosses) depth 40

inputs_sync : IsSync inputs.the_row
inputs_sync = search (files.the_sync, last_changed.the_sync, sendable, crosses) depth 40

entry_send : IsSend entry.the_row
entry_send = let a = inputs_send in let b = inputs_sync in search (sendable, crosses) depth 40

entry_sync : IsSync entry.the_row
entry_sync = let a = inputs_send in let b = inputs_sync in search (sendable, crosses) depth 40

board_sync : (J : RattleType) (b : name.Ghosts J.Denot) → IsSync J → IsSync (board.the_row J b)
board_sync J b j = let s = entry_send in let y = entry_sync in search (vec.the_sync, sendable, crosses) depth 40

mark_send : (J : RattleType) (b : name.Ghosts J.Denot) → IsSend J → IsSend (mark.the_row J b)
mark_send J b j = search (marks.the_send, sendable, crosses) depth 40

module _ (R J K V P : RattleType) (rs : rules.Ghosts R.Denot K.Denot V.Denot P.Denot) (o : ord.Ghosts K.Denot) (e : eq.Ghosts K.Denot)
    (p : partial.Ghosts K.Denot) (ev : eq.Ghosts V.Denot) (b : name.Ghosts J.Denot) (d : Dict) where
  job_send : IsSend R → IsSend K → IsSync K → IsSend V → IsSync V → IsSend P → IsSend (job.the_row R K V P rs o e p ev)
  job_send r k ky v vy q = let a = inputs_send in let y = inputs_sync in search (sendable, crosses) depth 40 fits 20000

  work_send : IsSend R → IsSend J → IsSend K → IsSync K → IsSend V → IsSync V → IsSend P → IsSend (work.the_row R (mark.the_row J b) K V P rs o e p ev (stamps.ghosts J b d))
  work_send r j k ky v vy q = let m = mark_send J b j in let w = job_send r k ky v vy q in search (sendable, crosses) depth 40

  ready_send : IsSend R → IsSend J → IsSend K → IsSync K → IsSend V → IsSync V → IsSend (ready.the_row R (mark.the_row J b) K V P rs o e p ev (stamps.ghosts J b d))
  ready_send r j k ky v vy = let m = mark_send J b j in search (sendable, crosses) depth 40 fits 20000

  turn_send : IsSend R → IsSend J → IsSend K → IsSync K → IsSend V → IsSync V → IsSend P → IsSend (turn.the_row R J K V P rs o e p ev b)
  turn_send r j k ky v vy q = let w = work_send r j k ky v vy q in let y = ready_send r j k ky v vy in search (sendable, crosses) depth 40

  state_send : IsSend R → IsSend J → IsSend K → IsSync K → IsSend V → IsSync V → IsSend P → IsSend (state.the_row R J K V P rs o e p ev b)
  state_send r j k ky v vy q =
      let m = mark_send J b j in
      let s = store_send R (mark.the_row J b) K V P rs o e p ev (stamps.ghosts J b d) r m k ky v vy q in
      let t = turn_send r j k ky v vy q in
      search (sendable, crosses) depth 40

  module _ (H : RattleType) (c : clone.Ghosts R.Denot) (ke : full.Ghosts K.Denot) (ve : full.Ghosts V.Denot) (w : wait.Ghosts H.Denot) where
    seat_send : IsSend R → IsSend J → IsSend H → IsSend K → IsSync K → IsSend V → IsSync V → IsSend P → IsSend (seat.the_row R J H K V P rs c o ke e p ve ev b w)
    seat_send r j h k ky v vy q = let m = mark_send J b j in search (lanes.the_send, ends.the_send, sendable, crosses) depth 40

    pub hall_sync : IsSend R → IsSync R → IsSend J → IsSync J → IsSend H → IsSend K → IsSync K → IsSend V → IsSync V → IsSend P → IsSync (hall.the_row R J H K V P rs c o ke e p ve ev b w)
    hall_sync r ry j jy h k ky v vy q = let s = state_send r j k ky v vy q in let t = seat_send r j h k ky v vy q in let y = board_sync J b jy in search (sendable, crosses) depth 40
