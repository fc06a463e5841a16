use Rattle.std.proofs.Common.{◌≡◌, None}
use Rattle.std.specs.Option.{option_copied}
use Rattle.pq_view.specs.aux.Tails.{chosen, ending, texts_of}
use Rattle.pq_view.proofs.tails.nearest.Given as goal

abbrev pub invariant-paths : goal.invariant-paths
invariant-paths l = chosen l.importer (option_copied l.best) (texts_of l.path-iterator) ≡ chosen l.importer None (texts_of (ending l.paths l.name))
