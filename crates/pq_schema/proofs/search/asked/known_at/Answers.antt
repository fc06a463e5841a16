use Rattle.std.proofs.Common.{sym}
use Rattle.std.proofs.lemmas.Result.{IfOk-weaker}
use Rattle.pq_schema.proofs.Answered.{known_scope}
use Rattle.pq_schema.proofs.search.asked.known_at.Goals as goal

pub returns-in-Some : goal.returns-in-Some
returns-in-Some c =
    let scope = c.in-Some.scope.now in
    record {
      known = IfOk-weaker c.known.result _ _
          (λ o h. known_scope c.args.asked.now scope c.args.level c.args.name.now o (sym (c.in-Some.ensures.lookup.3.1 scope)) h) c.known.ensures.known;
    }
