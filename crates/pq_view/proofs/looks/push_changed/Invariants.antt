use Rattle.std.proofs.Common.{◌≡◌, ◌++◌}
use Rattle.std.specs.Prelude.{map, string_bytes}
use Rattle.std.specs.List.{filter}
use Rattle.pq_view.specs.aux.Known.{paths_of}
use Rattle.pq_view.specs.aux.News.{is_news_at}
use Rattle.pq_view.proofs.looks.push_changed.Given as goal

abbrev pub invariant-paths : goal.invariant-paths
invariant-paths l = l.news.items ++ filter (is_news_at l.earlier l.later) (map string_bytes l.path-iterator) ≡ l.initial.news.items ++ filter (is_news_at l.earlier l.later) (paths_of l.later)
