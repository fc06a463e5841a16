use Rattle.std.proofs.Common.{rules}
use Rattle.pq_core.specs.aux.Rising.{has_value}
use Rattle.pq_core.specs.declared.store.rising.Place.{Place}
use Rattle.std.proofs.lemmas.List.Elements.{filter_from_retain}
use Rattle.pq_core.proofs.store.rising.compact.Goals as goal

pub returns-clause-items : goal.returns-clause-items
returns-clause-items g c = filter_from_retain _ (λ (p : Place g.row.T.Denot). has_value p) (λ p x b q r. search rules) _ _ _ c.retain.ensures.filtered
