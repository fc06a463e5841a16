-- What each answer of `look` says.
use Rattle.std.specs.Prelude.{ℕ, List}
use Rattle.pq_inputs.specs.Sources.{Sources}
use Rattle.pq_rules.specs.Turns.{Machine}
use Rattle.pq_memo.specs.declared.table.look.Look.{Look}
use Rattle.pq_memo.specs.declared.table.look.Look.TheVariants.{Usable, Green, Walk, Run}
use Rattle.pq_memo.specs.declared.table.look.Why.TheVariants.{Fresh, Changed, Ring}
use Rattle.pq_memo.specs.Sound.{Memo}
use Rattle.pq_memo.specs.Look.{IsUpToDate, IsGreen, WalksTo, HasChangedRead, IsFresh, IsLapsedRing}

-- `IsLook m history now Has k look` is that `look` is the state of `k` in the table `Has`, for the
-- rule set `m` and the inputs whose sources were `history`, up to the revision `now`
abbrev pub IsLook : {K P V : Type 0} → Machine K P V → List Sources → ℕ → (K → Memo K V → Type 0) → K → Look K → Type 0
IsLook m history now Has k Usable = IsUpToDate m now Has k
IsLook m history now Has k Green = IsGreen m history now Has k
IsLook m history now Has k (Walk q) = WalksTo m history now Has k q.now
IsLook m history now Has k (Run Fresh) = IsFresh m Has k
IsLook m history now Has k (Run (Changed q)) = HasChangedRead m history now Has k q.now
IsLook m history now Has k (Run Ring) = IsLapsedRing history now Has k
