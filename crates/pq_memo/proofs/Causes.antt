-- Each rule that waits in a frame of a demand has a cause, and keeps it over a step (`caused_on`).
use Rattle.std.proofs.Common.{◌≡◌, List, [], ◌∷◌, ◌++◌, Option, refl, sym, ◌∙◌, subst, inl, inr}
use Rattle.std.specs.declared.cmp.Ordering.{Ordering}
use Rattle.pq_inputs.specs.Sources.{Table}
use Rattle.pq_rules.specs.declared.turn.Turn.{Turn}
use Rattle.pq_rules.specs.Turns.{Machine}
use Rattle.pq_rules.specs.Relations.{In}
use Rattle.pq_rules.proofs.Weight.{Exact}
use Rattle.pq_memo.specs.declared.stepping.frame.Frame.{Frame}
use Rattle.pq_memo.specs.declared.stepping.frame.Stage.{Stage}
use Rattle.pq_memo.specs.declared.stepping.frame.Stage.TheVariants.{Walking, Waiting}
use Rattle.pq_memo.specs.declared.demand.demanded.Carried.{Carried}
use Rattle.pq_memo.specs.declared.table.look.Why.{Why}
use Rattle.pq_memo.specs.Sound.{Memo}
use Rattle.pq_memo.specs.Table.{HasIn, IsSameTable}
use Rattle.pq_memo.specs.Frames.{Awaits}
use Rattle.pq_memo.specs.Steps.{IsWhy, HasPart, StaysAt}
use Rattle.pq_memo.specs.aux.Demand.{Caused, Stands, Asked, Enters, Starts, GoesOn, Advances, Popped, Wrote, waiting_key, waiting_keys, walks}
use Rattle.pq_memo.proofs.Wrote.{wrote_none}
use Rattle.pq_memo.proofs.Stacked as stacked
use Rattle.pq_memo.proofs.Stacked.{waiting_in, waiting_left, waiting_right, waiting_either}
use Rattle.pq_memo.proofs.Going as going
use Rattle.pq_memo.proofs.Advancing.{stays_fits}
use Rattle.pq_memo.proofs.Confirming.{caused_still}

-- a rule that waits in one frame
one_key : {K P : Type 0} (k : K) (f : Frame K P) → In k (waiting_keys (f ∷ [])) → k ≡ f.key
one_key k f i = elim (waiting_in k (f ∷ []) i) [ inl e ↦ e | inr j ↦ absurd j ]

part_waits : {K P : Type 0} (k : K) (stage : Stage K P) (part : P) → HasPart stage part → In k (waiting_key k stage ++ [])
part_waits k (Walking place) part h = absurd h
part_waits k (Waiting other asked reads) part h = inl refl

stays_back : {K P : Type 0} (k j : K) (a b : Stage K P) → StaysAt a b → In k (waiting_key j b ++ []) → In k (waiting_key j a ++ [])
stays_back k j (Walking i) (Walking h) s w = w
stays_back k j (Walking i) (Waiting part asked reads) s w = absurd s
stays_back k j (Waiting part asked reads) (Walking i) s w = absurd s
stays_back k j (Waiting part asked reads) (Waiting other question front) s w = w

module _ {K P V : Type 0} (order : K → K → Ordering) (exact : Exact order) (m : Machine K P V) (inputs : Table) (reach : List K) (root : K) where
  abbrev Cause : (K → Option (Memo K V)) → K → Type 0
  Cause table k = (why : Why K) × IsWhy m inputs.history inputs.revision (HasIn table) k why

  -- a table that is the same
  same_cause : (before after : K → Option (Memo K V)) → IsSameTable before after → (fs : List (Frame K P)) → Caused m inputs before fs → Caused m inputs after fs
  same_cause before after same fs caused =
      caused_still order m inputs before after [] (wrote_none inputs.revision before after same) (λ k i. absurd i) fs (λ k i j. j) caused

  -- frames that are popped
  popped_causes : (before after : K → Option (Memo K V)) (all rest : List (Frame K P)) → Stands order m inputs reach root before all
      → Popped inputs.revision before after all rest → Caused m inputs before all → Caused m inputs after rest
  popped_causes before after all rest stands popped caused =
      caused_still order m inputs before after popped.keys popped.written
      (going.stale_keys order exact m inputs reach root before after all rest stands popped) rest
      (λ k i. going.out order exact m inputs reach root before after all rest stands popped k (waiting_in k rest i))
      (λ k i. caused k (subst (λ (l : List (Frame K P)). In k (waiting_keys l)) (sym popped.whole) (waiting_left k rest (popped.first ∷ popped.others) i)))

  module _ (before after : K → Option (Memo K V)) (f : Frame K P) (stack rest : List (Frame K P)) (stands : Stands order m inputs reach root before (stack ++ f ∷ []))
      (caused : Caused m inputs before (stack ++ f ∷ [])) where
    -- a rule asks, and has a cause
    asked_causes : (turn : Turn K P V) (front : List K) → Asked m before after f.key turn front stack rest → Cause before f.key → Caused m inputs after rest
    asked_causes turn front asked cause =
        same_cause before after asked.same rest
        (subst (λ (l : List (Frame K P)). Caused m inputs before l) (sym asked.pushed)
        (λ k i. elim (waiting_either k stack (asked.frame ∷ []) i) [
          | inl j ↦ caused k (waiting_left k stack (f ∷ []) j)
          | inr j ↦ subst (λ (x : K). Cause before x) (sym (one_key k asked.frame j ∙ asked.key_is)) cause
        ]))

    written_causes : Wrote inputs.revision before after (f.key ∷ []) → rest ≡ stack → Caused m inputs after rest
    written_causes written left =
        popped_causes before after (stack ++ f ∷ []) rest stands (going.one_popped order exact m inputs reach root before after stack rest f written left) caused

    started_causes : (entry : Carried K) → Starts order m inputs before after f stack rest entry → Caused m inputs after rest
    started_causes entry starts = elim starts.gone.taken [
      | inl asked ↦ asked_causes starts.gone.last starts.gone.front asked (starts.why, starts.because)
      | inr ended ↦ written_causes ended.0 ended.1
    ]

    further_causes : GoesOn order m inputs before after f stack rest → Caused m inputs after rest
    further_causes on = elim on.gone.taken [
      | inl asked ↦ asked_causes on.gone.last on.gone.front asked (caused f.key (waiting_right f.key stack (f ∷ []) (part_waits f.key f.stage on.part on.waited)))
      | inr ended ↦ written_causes ended.0 ended.1
    ]

    entered_causes : Enters order m inputs before after f stack rest → Caused m inputs after rest
    entered_causes enters = elim enters.entered [
      | inl pushed ↦ same_cause before after pushed.same rest
          (subst (λ (l : List (Frame K P)). Caused m inputs before l) (sym pushed.pushed)
          (λ k i. elim (waiting_either k (stack ++ enters.frame ∷ []) (walks enters.next ∷ []) i) [ inl j ↦ swapped k j | inr j ↦ absurd j ]))
      | inr popped ↦ popped_causes before after (stack ++ enters.frame ∷ []) rest standing popped swapped
    ]
      where
        swapped : Caused m inputs before (stack ++ enters.frame ∷ [])
        swapped k i = elim (waiting_either k stack (enters.frame ∷ []) i) [
          | inl j ↦ caused k (waiting_left k stack (f ∷ []) j)
          | inr j ↦ caused k (waiting_right k stack (f ∷ []) (back k j))
        ]
          where
            back : (k : K) → In k (waiting_keys (enters.frame ∷ [])) → In k (waiting_keys (f ∷ []))
            back k j = stays_back k f.key f.stage enters.frame.stage enters.stays (subst (λ (x : K). In k (waiting_key {P = P} x enters.frame.stage ++ [])) enters.key_is j)

        awaits : Awaits order m inputs.history inputs.revision (HasIn before) enters.frame.key enters.frame.stage enters.next
        awaits = subst (λ (k : K). Awaits order m inputs.history inputs.revision (HasIn before) k enters.frame.stage enters.next) (sym enters.key_is) enters.awaits

        standing : Stands order m inputs reach root before (stack ++ enters.frame ∷ [])
        standing = going.swap_stands order exact m inputs reach root before before (λ k. refl) stack f enters.frame enters.key_is
            (stacked.awaits_frame order m inputs before enters.frame.key enters.frame.stage enters.next awaits)
            (stays_fits m f.stage enters.frame.stage enters.stays (stacked.linked_last order m inputs before stack f stands.linked).1) stands

    -- a step
    pub caused_on : (carried entries : List (Carried K)) → Advances order m inputs before after f stack carried rest entries → Caused m inputs after rest
    caused_on carried entries (inl a) = started_causes a.0 a.1
    caused_on carried entries (inr (e, inl a)) = written_causes a.0 a.1
    caused_on carried entries (inr (e, inr (inl a))) = entered_causes a
    caused_on carried entries (inr (e, inr (inr a))) = further_causes a

-- the first frame
pub first_causes : {K P V : Type 0} (m : Machine K P V) (inputs : Table) (table : K → Option (Memo K V)) (stack : List (Frame K P)) (k : K) → stack ≡ walks k ∷ []
    → Caused m inputs table stack
first_causes {K} {P} m inputs table stack k is = subst (λ (l : List (Frame K P)). Caused m inputs table l) (sym is) (λ q i. absurd i)
