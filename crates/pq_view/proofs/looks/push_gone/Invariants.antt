use Rattle.std.proofs.Common.{◌≡◌, ◌++◌}
use Rattle.std.specs.Prelude.{map, string_bytes}
use Rattle.std.specs.List.{filter}
use Rattle.pq_view.specs.aux.Known.{paths_of}
use Rattle.pq_view.specs.aux.News.{is_gone}
use Rattle.pq_view.proofs.looks.push_gone.Given as goal

abbrev pub invariant-paths : goal.invariant-paths
invariant-paths l = l.news.items ++ filter (is_gone l.later) (map string_bytes l.path-iterator) ≡ l.initial.news.items ++ filter (is_gone l.later) (paths_of l.earlier)
