use Rattle.std.proofs.Common.{sym, rules}
use Rattle.pq_view.specs.aux.News.{is_gone}
use Rattle.pq_view.proofs.MapPaths.{paths_once}
use Rattle.pq_view.proofs.News.{news_more, news_passed}
use Rattle.pq_view.proofs.looks.push_gone.Goals as goal

pub paths-preserved-in_ok-push : goal.paths-preserved-in_ok-push
paths-preserved-in_ok-push c =
    news_more (is_gone c.args.later.now) _ c.paths.news.items c.push.new.self.items c.in-Some.path.now c.as_str-path.result.now c.paths.path-iterator c.next.new.self
    (c.in-Some.ensures {u = tt}).steps c.as_str-path.ensures.value (sym (c.if-is_gone.ensures {u = tt}).gone) (search rules) c.paths.invariant

pub paths-preserved : goal.paths-preserved
paths-preserved c =
    news_passed (is_gone c.args.later.now) _ c.paths.news.items c.in-Some.path.now c.as_str-path.result.now c.paths.path-iterator c.next.new.self
    (c.in-Some.ensures {u = tt}).steps c.as_str-path.ensures.value (sym (c.if-is_gone.ensures {u = tt}).gone) c.paths.invariant

pub returns-clause-once : goal.returns-clause-once
returns-clause-once c = paths_once c.args.earlier.now c.keys-path-items.ensures.ordered
