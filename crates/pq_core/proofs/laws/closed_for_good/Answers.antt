use Rattle.pq_core.specs.RightReply.{answer_by}
use Rattle.pq_core.proofs.Shutting.{shut_opens, shut_accepts, shut_edits, shut_starts, shut_looks, shut_gives, shut_starves, shut_withdraws, shut_releases, shut_closes, shut_takes}
use Rattle.pq_core.proofs.laws.closed_for_good.Goals as goal

pub returns : goal.returns
returns g c =
    let puts = g.O.Outbox.puts in
    let takes = g.O.Outbox.takes in
    record {
      opens = λ d outbox answer l m shut s. shut_opens d outbox answer l m shut s;
      accepts = λ d client request answer l m shut s. shut_accepts puts d client request answer l m shut s;
      edits = λ d client change answer l m shut s. shut_edits d client change answer l m shut s;
      starts = λ d answer l m shut s. shut_starts d answer l m shut s;
      looks = λ d run answer l m shut s. shut_looks (answer_by g.R.Key.Ord.cmp (g.R.Rules.machine c.args._rules.now) g.M.Stamp.point) c.args._rules.now d run answer l m shut s;
      gives = λ d run done answer l m shut s. shut_gives d run done answer l m shut s;
      starves = λ d run answer l m shut s. shut_starves d run answer l m shut s;
      withdraws = λ d client label answer l m shut s. shut_withdraws d client label answer l m shut s;
      releases = λ d client answer l m shut s. shut_releases puts takes g.O.Outbox.was_full g.O.Outbox.was_gone d client answer l m shut s;
      closes = λ d client answer l m shut s. shut_closes d client answer l m shut s;
      takes = λ d client answer l m shut s. shut_takes puts takes d client answer l m shut s;
    }
