-- An account represents its client after each move.
use Rattle.std.proofs.Common.{◌≡◌, ◌≢◌, ℕ, ◌+◌, ◌-◌, ◌<◌, ◌≤◌, List, [], ◌∷◌, ◌++◌, length, slice_get, slice_set, Option, Some, refl, sym, ◌∙◌, ap, subst, inl, inr, arith}
use Rattle.pq_inputs.specs.Sources.{Table}
use Rattle.pq_rules.specs.declared.turn.Answer.{Answer}
use Rattle.pq_core.specs.Points.{Point}
use Rattle.pq_core.specs.Replies.{ReplyView}
use Rattle.pq_core.specs.Ledger.{Out, Place, Put, Dropped, Entry, Client, with_entry, moved_to, opened, Unharmed}
use Rattle.pq_core.specs.Ledger.{Waiting as PlaceWaiting, Running as PlaceRunning, Ready as PlaceReady}
use Rattle.pq_core.specs.Lanes.{ReadyView}
use Rattle.pq_core.specs.Accounts.{AccountView, no_requests, IsStage, with_stage, with_request, first_stage}
use Rattle.pq_core.specs.Moves.{new_entry, first_place, with_new}
use Rattle.pq_core.specs.Kept.{PlaceKept, ClientKept}
use Rattle.pq_core.specs.declared.values.request.Request.{Request}
use Rattle.pq_core.specs.declared.values.request.Want.{Want}
use Rattle.pq_core.specs.declared.values.request.Want.TheVariants.{Demand, Fixed}
use Rattle.pq_core.specs.declared.store.account.Begun.{Begun}
use Rattle.pq_core.specs.declared.store.account.Stage.{Stage}
use Rattle.pq_core.specs.declared.store.account.Stage.TheVariants.{Waiting, Running, Made, Collected}
use Rattle.pq_core.specs.aux.Accounts.{StageStands, StageAt, AccountStands}
use Rattle.pq_rules.proofs.ListLemmas.{get_last}
use Rattle.pq_core.proofs.Lists.{get_set, get_append, get_longer, get_within, get_there, set_same, set_other, set_long, append_long, same_or_other}
use Rattle.pq_core.proofs.Writes.{nothing_there, one_entry}
use Rattle.pq_core.proofs.AccountMoves.{stage_within}

-- ---- stages and entries

-- `IsPending place` is that the request in `place` is owed a reply
abbrev pub IsPending : {K V M : Type 0} → Place K V M → Type 0
IsPending PlaceWaiting = Unit {0}
IsPending (PlaceRunning run started out) = Unit {0}
IsPending (PlaceReady reply) = Unit {0}
IsPending Put = ⊥
IsPending Dropped = ⊥

-- the request at its acceptance
first_stands : {K : Type 0} (V M : Type 0) (c n revision : ℕ) (request : Request K) (want : Want K) → StageStands {K = K} {V = V} {M = M} (first_stage c n request revision want) (record { request = request; accepted = revision; place = first_place c n request revision want; fate = Unharmed })
first_stands V M c n revision request (Demand key) = (refl, refl, refl)
first_stands V M c n revision request (Fixed text) = (refl, refl)

-- the work of a run that is out changes
out_stands : {K V M : Type 0} (stage : Stage K (ReadyView K V M)) (entry : Entry K V M) (run started : ℕ) (out new : Option (Out K)) → entry.place ≡ PlaceRunning run started out → StageStands stage entry → StageStands stage (moved_to entry (PlaceRunning run started new))
out_stands (Waiting request accepted) entry run started out new is s = let e = s.0 in cc
out_stands (Running begun) entry run started out new is s = (started, new, (let e = s.2 in cc), s.3)
out_stands (Made ready) entry run started out new is s = let e = s.0 in cc
out_stands Collected entry run started out new is s = let e = s.1 in cc

running_stage : {K V M : Type 0} (stage : Stage K (ReadyView K V M)) (entry : Entry K V M) (run started : ℕ) (out : Option (Out K)) → entry.place ≡ PlaceRunning run started out → StageStands stage entry → stage ≡ Running (record { run = run; accepted = entry.accepted })
running_stage (Waiting request accepted) entry run started out is s = let e = s.0 in cc
running_stage (Running begun) entry run started out is s =
    let same : begun.run ≡ run = (let e = s.2 in cc) in
    ap (λ (r : ℕ). Running (record { run = r; accepted = begun.accepted })) same ∙ ap (λ (n : ℕ). Running (record { run = run; accepted = n })) (sym s.3)
running_stage (Made ready) entry run started out is s = let e = s.0 in cc
running_stage Collected entry run started out is s = let e = s.1 in cc

waiting_stage : {K V M : Type 0} (stage : Stage K (ReadyView K V M)) (entry : Entry K V M) → entry.place ≡ PlaceWaiting → StageStands stage entry → stage ≡ Waiting entry.request entry.accepted
waiting_stage (Waiting request accepted) entry is s = ap (λ r. Waiting r accepted) (sym s.1) ∙ ap (λ a. Waiting entry.request a) (sym s.2)
waiting_stage (Running begun) entry is s = let e = s.2 in cc
waiting_stage (Made ready) entry is s = let e = s.0 in cc
waiting_stage Collected entry is s = let e = s.1 in cc

module _ {K V M O : Type 0} (puts : O → List (ReplyView K V M)) where
  -- ---- a new client, a new request

  pub opened_stands : (outbox : O) → puts outbox ≡ [] → AccountStands puts no_requests (opened outbox)
  opened_stands outbox e = record {
    open_yet = refl;
    seen = sym (ap length e);
    counted = refl;
    each = λ i stage get. nothing_there stage get;
  }

  -- the new request
  push_at : (client : Client K V M O) (entry : Entry K V M) (n : ℕ) (stage it : Stage K (ReadyView K V M)) → n ≡ length client.entries → it ≡ stage → StageStands stage entry → StageAt (with_new client entry) n it
  push_at client entry n stage it e same s = record {
    entry = entry;
    here = ap (slice_get (client.entries ++ entry ∷ [])) e ∙ get_last client.entries entry;
    stands = subst (λ (x : Stage K (ReadyView K V M)). StageStands x entry) (sym same) s;
  }

  longer_at : (client : Client K V M O) (entry : Entry K V M) (n : ℕ) (it : Stage K (ReadyView K V M)) → StageAt client n it → StageAt (with_new client entry) n it
  longer_at client entry n it a = record { entry = a.entry; here = get_longer client.entries (entry ∷ []) n a.entry a.here; stands = a.stands }

  pub pushed_stands : (account : AccountView K V M) (client : Client K V M O) (entry : Entry K V M) (stage : Stage K (ReadyView K V M)) → AccountStands puts account client → StageStands stage entry → AccountStands puts (with_request account stage) (with_new client entry)
  pushed_stands account client entry stage h s =
      let long = h.counted in
      let more = append_long client.entries entry in
      let most = append_long account.stages stage in
      record {
        open_yet = h.open_yet;
        seen = h.seen;
        counted = omega arith;
        each = λ i it get. elim (get_append account.stages stage i it get) [
          | inl w ↦ push_at client entry (account.seen + i) stage it (let e : i ≡ length account.stages = w.0 in omega arith) w.1 s
          | inr w ↦ longer_at client entry (account.seen + i) it (h.each i it w)
        ];
      }

  -- after `accept`
  pub accepted_stands : (account : AccountView K V M) (client : Client K V M O) (c n revision : ℕ) (request : Request K) → AccountStands puts account client → AccountStands puts (with_request account (first_stage c n request revision request.want)) (with_new client (new_entry c n request revision))
  accepted_stands account client c n revision request h =
      pushed_stands account client (new_entry c n request revision) (first_stage c n request revision request.want) h (first_stands V M c n revision request request.want)

  -- ---- a request written

  pub stage_at : (account : AccountView K V M) (client : Client K V M O) (n : ℕ) (stage : Stage K (ReadyView K V M)) → AccountStands puts account client → IsStage account n stage → StageAt client n stage
  stage_at account client n stage h w =
      let past = w.past in
      let e : account.seen + (n - account.seen) ≡ n = omega arith in
      subst (λ (k : ℕ). StageAt client k stage) e (h.each (n - account.seen) stage w.here)

  set_at : (client : Client K V M O) (entry : Entry K V M) (n k : ℕ) (stage it : Stage K (ReadyView K V M)) → n < length client.entries → k ≡ n → it ≡ stage → StageStands stage entry → StageAt (with_entry client n entry) k it
  set_at client entry n k stage it lt e same s = record {
    entry = entry;
    here = ap (slice_get (slice_set client.entries n entry)) e ∙ set_same client.entries n entry lt;
    stands = subst (λ (x : Stage K (ReadyView K V M)). StageStands x entry) (sym same) s;
  }

  other_at : (client : Client K V M O) (entry : Entry K V M) (n k : ℕ) (it : Stage K (ReadyView K V M)) → k ≢ n → StageAt client k it → StageAt (with_entry client n entry) k it
  other_at client entry n k it ne a = record { entry = a.entry; here = set_other client.entries n entry k ne ∙ a.here; stands = a.stands }

  pub set_stands : (account : AccountView K V M) (client : Client K V M O) (n : ℕ) (entry : Entry K V M) (old stage : Stage K (ReadyView K V M)) → AccountStands puts account client → IsStage account n old → StageStands stage entry → AccountStands puts (with_stage account n stage) (with_entry client n entry)
  set_stands account client n entry old stage h was s =
      let long = h.counted in
      let past = was.past in
      let within = stage_within account n old was in
      let same = set_long client.entries n entry in
      let stages = set_long account.stages (n - account.seen) stage in
      record {
        open_yet = h.open_yet;
        seen = h.seen;
        counted = omega arith;
        each = λ i it get. elim (get_set account.stages (n - account.seen) stage i it get) [
          | inl w ↦ set_at client entry n (account.seen + i) stage it (omega arith) (let e : i ≡ n - account.seen = w.0 in omega arith) w.1 s
          | inr w ↦ other_at client entry n (account.seen + i) it (let ne : i ≢ n - account.seen = w.0 in omega arith) (h.each i it w.1)
        ];
      }

  -- after `start` of a request that waited, whose entry is `entry`
  pub started_stands : (account : AccountView K V M) (client : Client K V M O) (n accepted : ℕ) (request : Request K) (entry : Entry K V M) (run started : ℕ) (out : Option (Out K)) → AccountStands puts account client → IsStage account n (Waiting request accepted) → entry.accepted ≡ accepted
      → AccountStands puts (with_stage account n (Running (record { run = run; accepted = accepted }))) (with_entry client n (moved_to entry (PlaceRunning run started out)))
  started_stands account client n accepted request entry run started out h w e =
      set_stands account client n (moved_to entry (PlaceRunning run started out)) (Waiting request accepted) (Running (record { run = run; accepted = accepted })) h w (started, out, refl, e)

  -- after `finish`
  pub finished_stands : (account : AccountView K V M) (client : Client K V M O) (n : ℕ) (begun : Begun) (entry : Entry K V M) (reply : ReplyView K V M) → AccountStands puts account client → IsStage account n (Running begun) → entry.place ≡ PlaceReady reply → entry.accepted ≡ begun.accepted
      → AccountStands puts (with_stage account n (Made (record { reply = reply; accepted = begun.accepted }))) (with_entry client n entry)
  finished_stands account client n begun entry reply h w is e = set_stands account client n entry (Running begun) (Made (record { reply = reply; accepted = begun.accepted })) h w (is, e)

  -- after a change of the work of a run that is out
  out_at : (client : Client K V M O) (n k : ℕ) (entry : Entry K V M) (run started : ℕ) (out new : Option (Out K)) (it : Stage K (ReadyView K V M)) → slice_get client.entries n ≡ Some entry → entry.place ≡ PlaceRunning run started out → k ≡ n → StageAt client k it → StageAt (with_entry client n (moved_to entry (PlaceRunning run started new))) k it
  out_at client n k entry run started out new it here is e a =
      let same : a.entry ≡ entry = one_entry client.entries k a.entry entry a.here (ap (slice_get client.entries) e ∙ here) in
      let s : StageStands it entry = subst (λ (x : Entry K V M). StageStands it x) same a.stands in
      set_at client (moved_to entry (PlaceRunning run started new)) n k it it (get_within client.entries n entry here) e refl (out_stands it entry run started out new is s)

  pub out_changed_stands : (account : AccountView K V M) (client : Client K V M O) (n : ℕ) (entry : Entry K V M) (run started : ℕ) (out new : Option (Out K)) → AccountStands puts account client → slice_get client.entries n ≡ Some entry → entry.place ≡ PlaceRunning run started out → AccountStands puts account (with_entry client n (moved_to entry (PlaceRunning run started new)))
  out_changed_stands account client n entry run started out new h here is =
      record {
        open_yet = h.open_yet;
        seen = h.seen;
        counted = set_long client.entries n (moved_to entry (PlaceRunning run started new)) ∙ h.counted;
        each = λ i it get. elim (same_or_other (account.seen + i) n) [
          | inl e ↦ out_at client n (account.seen + i) entry run started out new it here is e (h.each i it get)
          | inr ne ↦ other_at client (moved_to entry (PlaceRunning run started new)) n (account.seen + i) it ne (h.each i it get)
        ];
      }

  -- ---- the requests that are owed a reply

  past_of : (means : M → Point → K → Answer K V → Type 0) (inputs : Table) (ps : List (ReplyView K V M)) (c n : ℕ) (entry : Entry K V M) (place : Place K V M) → PlaceKept means inputs ps c n entry place → IsPending place → length ps ≤ n
  past_of means inputs ps c n entry PlaceWaiting k p = k.0
  past_of means inputs ps c n entry (PlaceRunning run started out) k p = k.0
  past_of means inputs ps c n entry (PlaceReady reply) k p = k.0
  past_of means inputs ps c n entry Put k p = absurd p
  past_of means inputs ps c n entry Dropped k p = absurd p

  -- `StageOf account n entry` is that the request `n` of `account`, which represents `entry`, has a
  -- stage
  pub record StageOf (account : AccountView K V M) (n : ℕ) (entry : Entry K V M) : Type 0 where
    pub stage : Stage K (ReadyView K V M)
    pub is_at : IsStage account n stage
    pub stands : StageStands stage entry

  -- a request of an open client at a place after those put has a stage
  pub stage_past : (account : AccountView K V M) (client : Client K V M O) (n : ℕ) (entry : Entry K V M) → AccountStands puts account client → slice_get client.entries n ≡ Some entry → account.seen ≤ n → StageOf account n entry
  stage_past account client n entry h here past =
      let lt = get_within client.entries n entry here in
      let long = h.counted in
      let there = get_there account.stages (n - account.seen) (omega arith) in
      let is_at : IsStage account n there.0 = record { past = past; here = there.1 } in
      let a = stage_at account client n there.0 h is_at in
      record {
        stage = there.0;
        is_at = is_at;
        stands = subst (λ (x : Entry K V M). StageStands there.0 x) (one_entry client.entries n a.entry entry a.here here) a.stands;
      }

  pub stage_of : (means : M → Point → K → Answer K V → Type 0) (inputs : Table) (c : ℕ) (account : AccountView K V M) (client : Client K V M O) (n : ℕ) (entry : Entry K V M) → ClientKept means inputs (puts client.outbox) c client.entries → AccountStands puts account client → slice_get client.entries n ≡ Some entry → IsPending entry.place → StageOf account n entry
  stage_of means inputs c account client n entry kept h here pending =
      let past : length (puts client.outbox) ≤ n = past_of means inputs (puts client.outbox) c n entry entry.place (kept.each n entry here).placed pending in
      let seen = h.seen in
      stage_past account client n entry h here (omega arith)

  pending_as : (place other : Place K V M) → place ≡ other → IsPending other → IsPending place
  pending_as place other e p = subst (λ (x : Place K V M). IsPending x) (sym e) p

  stage_is : (account : AccountView K V M) (n : ℕ) (stage other : Stage K (ReadyView K V M)) → stage ≡ other → IsStage account n stage → IsStage account n other
  stage_is account n stage other e w = subst (λ (x : Stage K (ReadyView K V M)). IsStage account n x) e w

  pub waiting_there : (means : M → Point → K → Answer K V → Type 0) (inputs : Table) (c : ℕ) (account : AccountView K V M) (client : Client K V M O) (n : ℕ) (entry : Entry K V M) → ClientKept means inputs (puts client.outbox) c client.entries → AccountStands puts account client → slice_get client.entries n ≡ Some entry → entry.place ≡ PlaceWaiting → IsStage account n (Waiting entry.request entry.accepted)
  waiting_there means inputs c account client n entry kept h here is =
      let w = stage_of means inputs c account client n entry kept h here (pending_as entry.place PlaceWaiting is tt) in
      stage_is account n w.stage (Waiting entry.request entry.accepted) (waiting_stage w.stage entry is w.stands) w.is_at

  pub running_there : (means : M → Point → K → Answer K V → Type 0) (inputs : Table) (c : ℕ) (account : AccountView K V M) (client : Client K V M O) (n : ℕ) (entry : Entry K V M) (run started : ℕ) (out : Option (Out K)) → ClientKept means inputs (puts client.outbox) c client.entries → AccountStands puts account client → slice_get client.entries n ≡ Some entry → entry.place ≡ PlaceRunning run started out → IsStage account n (Running (record { run = run; accepted = entry.accepted }))
  running_there means inputs c account client n entry run started out kept h here is =
      let w = stage_of means inputs c account client n entry kept h here (pending_as entry.place (PlaceRunning run started out) is tt) in
      stage_is account n w.stage (Running (record { run = run; accepted = entry.accepted })) (running_stage w.stage entry run started out is w.stands) w.is_at

  pub ready_there : (means : M → Point → K → Answer K V → Type 0) (inputs : Table) (c : ℕ) (account : AccountView K V M) (client : Client K V M O) (n : ℕ) (entry : Entry K V M) (reply : ReplyView K V M) → ClientKept means inputs (puts client.outbox) c client.entries → AccountStands puts account client → slice_get client.entries n ≡ Some entry → entry.place ≡ PlaceReady reply → StageOf account n entry
  ready_there means inputs c account client n entry reply kept h here is =
      stage_of means inputs c account client n entry kept h here (pending_as entry.place (PlaceReady reply) is tt)

  -- ---- collecting, and what was put

  -- a reply that was made is collected
  pub collected_stands : (account : AccountView K V M) (client : Client K V M O) (n : ℕ) (ready : ReadyView K V M) → AccountStands puts account client → IsStage account n (Made ready) → AccountStands puts (with_stage account n Collected) client
  collected_stands account client n ready h was =
      let long = h.counted in
      let past = was.past in
      let stages = set_long account.stages (n - account.seen) Collected in
      let at = stage_at account client n (Made ready) h was in
      record {
        open_yet = h.open_yet;
        seen = h.seen;
        counted = omega arith;
        each = λ i it get. elim (get_set account.stages (n - account.seen) Collected i it get) [
          | inl w ↦
              let e : n ≡ account.seen + i = (let f : i ≡ n - account.seen = w.0 in omega arith) in
              record {
                entry = at.entry;
                here = ap (slice_get client.entries) (sym e) ∙ at.here;
                stands = subst (λ (x : Stage K (ReadyView K V M)). StageStands x at.entry) (sym w.1) (ready.reply, at.stands.0);
              }
          | inr w ↦ h.each i it w.1
        ];
      }
