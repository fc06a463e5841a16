-- The frames of a round, and the keys of their members.
use Rattle.std.proofs.Common.{◌≡◌, ℕ, List, [], ◌∷◌, Option, refl, ◌∙◌, ap}
use Rattle.std.specs.declared.cmp.Ordering.{Ordering}
use Rattle.pq_inputs.specs.Sources.{Sources}
use Rattle.pq_rules.specs.Turns.{Machine}
use Rattle.pq_rules.specs.Relations.{Each}
use Rattle.pq_memo.specs.declared.stepping.frame.Frame.{Frame}
use Rattle.pq_memo.specs.Sound.{Memo}
use Rattle.pq_memo.specs.Table.{HasIn}
use Rattle.pq_memo.specs.Writes.{ring_keys}
use Rattle.pq_memo.specs.Frames.{Awaits, RoundOf, IsRound, AreMembers, frame_keys}

module _ {K P V : Type 0} (order : K → K → Ordering) (m : Machine K P V) (history : List Sources) (now : ℕ) (table : K → Option (Memo K V)) where
  -- each frame of a round waits for some key
  waits_each : (first : K) (fs : List (Frame K P)) → RoundOf order m history now table first fs → Each (λ f. (q : K) × Awaits order m history now (HasIn table) f.key f.stage q) fs
  unfolding RoundOf
  waits_each first [] r = tt
  waits_each first (f ∷ []) r = ((first, r), tt)
  waits_each first (f ∷ (g ∷ fs)) r = ((g.key, r.0), waits_each first (g ∷ fs) r.1)

  pub waits_all : (fs : List (Frame K P)) → IsRound order m history now table fs → Each (λ f. (q : K) × Awaits order m history now (HasIn table) f.key f.stage q) fs
  waits_all [] r = tt
  waits_all (f ∷ fs) r = waits_each f.key (f ∷ fs) r.0

  -- the members of frames have their keys
  pub member_keys : (fs : List (Frame K P)) (es : List (K × List K)) → Each (λ f. (q : K) × Awaits order m history now (HasIn table) f.key f.stage q) fs → AreMembers order m history now table fs es
      → ring_keys es ≡ frame_keys fs
  member_keys [] [] w a = refl
  member_keys [] (e ∷ es) w a = absurd a
  member_keys (f ∷ fs) [] w a = absurd a
  member_keys (f ∷ fs) (e ∷ es) w a =
      let head : e.0 ≡ f.key = ap (λ (p : K × List K). p.0) (a.0 w.0.0 w.0.1) in
      ap (λ (k : K). k ∷ ring_keys es) head ∙ ap (λ (ks : List K). f.key ∷ ks) (member_keys fs es w.1 a.1)
