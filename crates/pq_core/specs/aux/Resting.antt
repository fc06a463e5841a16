-- Auxiliary: lanes whose next reply is there to leave.
use Rattle.std.specs.Prelude.{ℕ, ◌≡◌, false, Some}
use Rattle.pq_core.specs.Lanes.{Tray, HasNext}
use Rattle.pq_core.specs.aux.Rising.{Slots, found}

-- `HasReadyLane lanes` is that the next reply of a lane is there, and was not refused
pub record HasReadyLane {K V M O : Type 0} (lanes : Slots (Tray K V M O)) : Type 0 where
  pub client : ℕ
  pub tray : Tray K V M O
  pub here : found lanes.items client ≡ Some tray
  pub next : HasNext tray
  pub not_refused : tray.refused ≡ false

-- `LetsNext tray` is that the next reply of the lane `tray` is there, and was not refused
abbrev pub LetsNext : {K V M O : Type 0} → Tray K V M O → Type 0
LetsNext tray = HasNext tray × (tray.refused ≡ false)
