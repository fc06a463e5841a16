-- The lanes whose next reply is there, one after the other.
use Rattle.std.proofs.Common.{◌≡◌, ℕ, Bool, true, false, slice_get, Some, sym, ◌∙◌, ap}
use Rattle.pq_core.proofs.Lists.{some_one}
use Rattle.pq_core.proofs.Slots.{found_at}
use Rattle.pq_core.proofs.CoreLeaving.{not_both}
use Rattle.pq_core.specs.Lanes.{Tray, HasNext}
use Rattle.pq_core.specs.declared.store.rising.Place.{Place as Slot}
use Rattle.pq_core.specs.aux.Rising.{Slots, Rises}
use Rattle.pq_core.specs.aux.Resting.{HasReadyLane, LetsNext}

module _ {K V M O : Type 0} where
  -- the last release was refused
  pub refused_first : (p : Slot (Tray K V M O)) (tray : Tray K V M O) (t : Bool) → p.value ≡ Some tray → t ≡ tray.refused → t ≡ true
      → (other : Tray K V M O) → p.value ≡ Some other → LetsNext other → ⊥
  refused_first p tray t is same on other value next =
      not_both t (same ∙ (ap (λ (y : Tray K V M O). y.refused) (some_one tray other (sym is ∙ value)) ∙ next.1)) on

  pub lane_found : (lanes : Slots (Tray K V M O)) (n : ℕ) (p : Slot (Tray K V M O)) (tray : Tray K V M O) → Rises lanes.items
      → slice_get lanes.items n ≡ Some p → p.value ≡ Some tray → HasNext tray → tray.refused ≡ false → HasReadyLane lanes
  lane_found lanes n p tray rises get value next refused = record {
    client = p.number;
    tray = tray;
    here = found_at lanes.items n p rises get ∙ value;
    next = next;
    not_refused = refused;
  }
