use Rattle.std.proofs.Common.{arith, lit<}
use Rattle.std.proofs.lemmas.Str.Pattern.{strip_prefix_char}
use Rattle.pq_schema.proofs.OutwardSearch.{after_some}
use Rattle.pq_schema.proofs.search.outward.after_scope.Goals as goal

pub returns : goal.returns
returns c =
    let r = c.strip_prefix.result in
    let rest = c.in_ok-rest.rest.now in
    record {
      after = after_some c.args.count c.args.lead.now rest r (omega (arith, c.if-count-eq0.false)) c.in_ok-rest.ensures.back (strip_prefix_char 46 rest r c.strip_prefix.ensures.cases (lit< tt));
    }
