use Rattle.std.proofs.Common.{sym, rules}
use Rattle.pq_view.specs.aux.News.{is_news_at}
use Rattle.pq_view.proofs.MapPaths.{paths_once}
use Rattle.pq_view.proofs.News.{news_more, news_passed}
use Rattle.pq_view.proofs.looks.push_changed.Goals as goal

pub paths-preserved-in_ok-push : goal.paths-preserved-in_ok-push
paths-preserved-in_ok-push c =
    news_more (is_news_at c.args.earlier.now c.args.later.now) _ c.paths.news.items c.push.new.self.items c.in-Some.path.now c.as_str-path.result.now c.paths.path-iterator c.next.new.self
    (c.in-Some.ensures {u = tt}).steps c.as_str-path.ensures.value (sym (c.if-is_news_at.ensures {u = tt}).news) (search rules) c.paths.invariant

pub paths-preserved : goal.paths-preserved
paths-preserved c =
    news_passed (is_news_at c.args.earlier.now c.args.later.now) _ c.paths.news.items c.in-Some.path.now c.as_str-path.result.now c.paths.path-iterator c.next.new.self
    (c.in-Some.ensures {u = tt}).steps c.as_str-path.ensures.value (sym (c.if-is_news_at.ensures {u = tt}).news) c.paths.invariant

pub returns-clause-once : goal.returns-clause-once
returns-clause-once c = paths_once c.args.later.now c.keys-path-items.ensures.ordered
