-- Auxiliary (used by private clauses only): the server's state and the steps of its messages, as
-- contracts see them.
use Rattle.std.specs.Prelude.{string_bytes}
use Rattle.pq_session.specs.declared.state.server_state.ServerState.{ServerState}
use Rattle.pq_session.specs.declared.state.server_state.Step.{Step}
use Rattle.pq_session.specs.declared.state.server_state.Step.TheVariants.{Reply, Silence, Finish}
use Rattle.pq_session.specs.Responses.{ScriptState, Response, replies, silent, finishes}

-- `state_of server` is the state of a script that keeps `server`.
abbrev pub state_of : ServerState → ScriptState
state_of server = record { loose = server.engine.rules.loose; phase = server.session; files = server.engine.inputs.files; revision = server.engine.inputs.revision; limit = server.engine.inputs.limit }

-- `response_of step` is the response that `step` makes.
abbrev pub response_of : Step → Response
response_of (Reply text) = replies (string_bytes text)
response_of Silence = silent
response_of (Finish status) = finishes status
