use Rattle.pq_core.specs.RightReply.{answer_by}
use Rattle.pq_core.proofs.Keeping.{kept_opens, kept_accepts, kept_edits, kept_starts, kept_looks, kept_gives, kept_starves, kept_withdraws, kept_releases, kept_closes, kept_takes}
use Rattle.pq_core.proofs.laws.moves_keep.Goals as goal

pub returns : goal.returns
returns g c =
    let means = answer_by g.R.Key.Ord.cmp (g.R.Rules.machine c.args._rules.now) g.M.Stamp.point in
    let puts = g.O.Outbox.puts in
    record {
      opens = λ outbox answer l m e k s. kept_opens means puts outbox answer l m e k s;
      accepts = λ client request answer l m k s. kept_accepts means puts client request answer l m k s;
      edits = λ client change answer l m k s. kept_edits means puts client change answer l m k s;
      starts = λ answer l m k s. kept_starts means puts answer l m k s;
      looks = λ run answer l m k s. kept_looks means puts c.args._rules.now run answer l m k s;
      gives = λ run done answer l m k s. kept_gives means puts run done answer l m k s;
      starves = λ run answer l m k s. kept_starves means puts run answer l m k s;
      withdraws = λ client label answer l m k s. kept_withdraws means puts client label answer l m k s;
      releases = λ client answer l m k s. kept_releases means puts g.O.Outbox.takes g.O.Outbox.was_full g.O.Outbox.was_gone client answer l m k s;
      closes = λ client answer l m k s. kept_closes means puts client answer l m k s;
      takes = λ client answer l m k s. kept_takes means puts g.O.Outbox.takes client answer l m k s;
    }
