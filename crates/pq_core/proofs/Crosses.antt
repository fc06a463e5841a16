-- A store, work and its result go to another thread where their rule set, keys, values, parts and
-- stamps go. A search that goes down through the inputs runs out of steps.
use denote.RattleType.{RattleType}
use denote.Param.Send.{IsSend, IsSync, sendable}
use Rattle.std.proofs.Crossing.{crosses}
use Rattle.std.specs.declared.cmp.Ord as ord
use Rattle.std.specs.declared.cmp.PartialEq as eq
use Rattle.std.specs.declared.cmp.PartialOrd as partial
use Rattle.pq_rules.specs.declared.rules.Rules as rules
use Rattle.pq_inputs.specs.contracts.inputs.Inputs as inputs
use Rattle.pq_inputs.proofs.files.Files.TheSendSync as files
use Rattle.pq_inputs.proofs.last_changed.LastChanged.TheSendSync as last_changed
use Rattle.pq_memo.proofs.table.memos.Memos.TheSendSync as memos
use Rattle.pq_claims.proofs.claims.Claims.TheSendSync as claims
use Rattle.pq_core.specs.declared.values.stamp.Stamp as stamp
use Rattle.pq_core.specs.contracts.store.store.Store as store
use Rattle.pq_core.proofs.store.rising.Rising.TheSendSync as rising
use Rattle.pq_core.proofs.store.account.Account.TheSendSync as account
use Rattle.pq_core.proofs.runs.run.Run.TheSendSync as run

inputs_send : IsSend inputs.the_row
inputs_send = search (files.the_send, last_changed.the_send, sendable, crosses) depth 40

module _ (R M K V P : RattleType) (rs : rules.Ghosts R.Denot K.Denot V.Denot P.Denot) (o : ord.Ghosts K.Denot) (e : eq.Ghosts K.Denot)
    (p : partial.Ghosts K.Denot) (ev : eq.Ghosts V.Denot) (s : stamp.Ghosts M.Denot) where
  pub store_send : IsSend R → IsSend M → IsSend K → IsSync K → IsSend V → IsSync V → IsSend P → IsSend (store.the_row R M K V P rs o e p ev s)
  store_send r m k ky v vy q = let a = inputs_send in search (memos.the_send, claims.the_send, rising.the_send, account.the_send, run.the_send, sendable, crosses) depth 40
