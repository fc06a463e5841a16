-- The clause of a call of a core, in terms of the rules that it was made with.
use Rattle.std.proofs.Common.{◌≡◌, sym, subst}
use Rattle.std.specs.declared.cmp.Ordering.{Ordering}
use Rattle.pq_inputs.specs.Sources.{Table}
use Rattle.pq_rules.specs.Turns.{Machine}
use Rattle.pq_core.specs.Points.{Point}
use Rattle.pq_core.specs.Outboxes.{Listed}
use Rattle.pq_core.specs.Ledger.{Ledger}
use Rattle.pq_core.specs.Cores.{CoreView, StandsFor}
use Rattle.pq_core.specs.Works.{DoneView}
use Rattle.pq_core.specs.Moves.{Reaches, IsMade}
use Rattle.pq_play.specs.World.{replies_of, own_point}

pub by_rules : {R K P V : Type 0} (order : K → K → Ordering) (machine : R → Machine K P V) (own rules : R) → own ≡ rules
    → (Move : Ledger K V Point (Listed K V Point) → Ledger K V Point (Listed K V Point) → Type 0) (before after : CoreView R K P V Point (Listed K V Point)) (l : Ledger K V Point (Listed K V Point))
    → ((k : Ledger K V Point (Listed K V Point)) → StandsFor order (machine own) own_point replies_of before k → Reaches Move k (StandsFor order (machine own) own_point replies_of after))
    → StandsFor order (machine rules) own_point replies_of before l → Reaches Move l (StandsFor order (machine rules) own_point replies_of after)
by_rules {R} {K} {P} {V} order machine own rules same Move before after l moved =
    subst (λ (r : R). StandsFor order (machine r) own_point replies_of before l → Reaches Move l (StandsFor order (machine r) own_point replies_of after)) same (moved l)

pub made_by : {R K P V : Type 0} (own rules : R) (inputs table : Table) (done : DoneView R K P V) → own ≡ rules → inputs ≡ table → IsMade rules inputs done → IsMade own table done
made_by {R} own rules inputs table done same here made =
    subst (λ (r : R). IsMade r table done) (sym same) (subst (λ (t : Table). IsMade rules t done) here made)
