use Rattle.std.proofs.Common.{sym, ◌∙◌, eq-eqb}
use Rattle.std.proofs.lemmas.Bool.{eqb-true}
use Rattle.pq_core.proofs.Slots.{empty_found, found_empty}
use Rattle.pq_core.proofs.store.rising.Rising.is_empty.Goals as goal

pub returns : goal.returns
returns g c =
    let xs = c.self.inside.places.items in
    let counted = c.self.invariant.counted in
    rw (← c.self.view_is) (λ t. empty_found xs (sym counted ∙ eqb-true c.self.inside.live 0 t), λ none. eq-eqb c.self.inside.live 0 (counted ∙ found_empty xs c.self.invariant.rises none))
