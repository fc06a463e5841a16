use Rattle.pq_view.proofs.News.{news_added, news_are, news_once}
use Rattle.pq_view.proofs.looks.Looks.news.Goals as goal

pub returns-clause-news : goal.returns-clause-news
returns-clause-news c =
    news_are c.args.earlier.now.files c.args.self.now.files c.push_gone.new.news.items
    (news_added c.args.earlier.now.files c.args.self.now.files c.new-news.result.items c.push_changed.new.news.items c.push_gone.new.news.items
    c.new-news.ensures.items c.in_ok-push_changed.ensures.added c.in_ok-push_gone.ensures.added)

pub returns-clause-once : goal.returns-clause-once
returns-clause-once c =
    news_once c.args.earlier.now.files c.args.self.now.files c.push_gone.new.news.items
    (news_added c.args.earlier.now.files c.args.self.now.files c.new-news.result.items c.push_changed.new.news.items c.push_gone.new.news.items
    c.new-news.ensures.items c.in_ok-push_changed.ensures.added c.in_ok-push_gone.ensures.added)
    c.in_ok-push_changed.ensures.once c.in_ok-push_gone.ensures.once
