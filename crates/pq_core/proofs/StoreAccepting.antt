-- Accepting a request, at what a store keeps.
use Rattle.std.proofs.Common.{◌≡◌, ℕ, ◌+◌, ◌<◌, ◌≤◌, ◌==◌, if◌then◌else◌, Bool, true, false, List, ◌∷◌, ◌++◌, length, Some, refl, sym, ◌∙◌, ap, subst, inl, inr, arith}
use Rattle.std.specs.Prelude.{Ok, Err, Result, OnOk, is_err}
use Rattle.std.specs.Option.{option_map}
use Rattle.std.specs.declared.cmp.Ordering.{Ordering}
use Rattle.pq_inputs.specs.Sources.{Table}
use Rattle.pq_rules.specs.Turns.{Machine}
use Rattle.pq_core.proofs.Lists.{some_one}
use Rattle.pq_core.proofs.Changing.{if_at, if_other}
use Rattle.pq_core.proofs.Queued.{long_longer}
use Rattle.pq_core.proofs.Calling.{open_of, closed_of, run_at}
use Rattle.pq_core.proofs.Moving.{accept_stands}
use Rattle.pq_core.proofs.Keeping.{kept_accepts, runs_placed}
use Rattle.pq_core.proofs.AccountStanding.{accepted_stands}
use Rattle.pq_core.specs.Points.{Point}
use Rattle.pq_core.specs.Replies.{ReplyView}
use Rattle.pq_core.specs.Ledger.{Client, Ledger, with_client}
use Rattle.pq_core.specs.RightReply.{answer_by}
use Rattle.pq_core.specs.Moves.{Reaches, Accepts, AcceptRefusal, window, owed, first_place, new_entry, with_new}
use Rattle.pq_core.specs.Stores.{Held, fields_of, run_seen as seen_of, StandsOf}
use Rattle.pq_core.specs.aux.Stands.{Fields, EntryStands}
use Rattle.pq_core.specs.aux.Rising.{found}
use Rattle.pq_core.specs.Accounts.{AccountView, next_of, with_request, first_stage}
use Rattle.pq_core.specs.aux.Accounts.{AccountStands}
use Rattle.pq_core.specs.aux.Accepting.{MayNot, MayPost}
use Rattle.pq_core.specs.declared.values.request.Request.{Request}
use Rattle.pq_core.specs.declared.values.request.Want.{Want}
use Rattle.pq_core.specs.declared.values.request.Want.TheVariants.{Demand, Fixed}
use Rattle.pq_core.specs.declared.values.fault.AcceptFault.{AcceptFault}
use Rattle.pq_core.specs.declared.values.fault.AcceptFault.TheVariants.{NoClient, Closed, WindowFull, Memory}
use Rattle.pq_core.specs.aux.Runs.{RunView}
use Rattle.pq_core.specs.aux.Stands.{RunSeen}

module _ {K P V M O : Type 0} (order : K → K → Ordering) (m : Machine K P V) (point : M → Point) (puts : O → List (ReplyView K V M)) where
  few_owed : (account : AccountView K V M) (client : Client K V M O) → AccountStands puts account client → length account.stages < window → owed puts client < window
  few_owed account client h few =
      let a = h.counted in
      let b = h.seen in
      omega arith

  -- why a request is refused
  pub accept_refusal_so : (b : Held K P V M) (l : Ledger K V M O) (c : ℕ) (fault : AcceptFault) → StandsOf order m point puts b l → MayNot b c fault → AcceptRefusal puts l c fault
  accept_refusal_so b l c NoClient s h = subst (λ (n : ℕ). n ≤ c) (sym s.clients) h
  accept_refusal_so b l c Closed s h = closed_of (AccountStands puts) (answer_by order m point) puts (fields_of b) l c s h.1 h.0
  accept_refusal_so b l c WindowFull s h =
      let w = open_of (AccountStands puts) (answer_by order m point) puts (fields_of b) l c h.0 s h.1 in
      let long = w.2.counted in
      let seen = w.2.seen in
      (w.0, w.1, elim h.2 [ inl full ↦ inl (omega arith) | inr used ↦ inr (omega arith) ])
  accept_refusal_so b l c Memory s h = absurd h

  -- who may post is open, with a window that is not full
  pub may_post : (b : Held K P V M) (l : Ledger K V M O) (c : ℕ) → StandsOf order m point puts b l → MayPost b c → AcceptRefusal puts l c Memory
  may_post b l c s h =
      let w = open_of (AccountStands puts) (answer_by order m point) puts (fields_of b) l c h.0 s h.1 in
      let few : length h.0.stages < window = below (length h.0.stages) (λ full. h.2 (inl full)) in
      (w.0, w.1, few_owed h.0 w.0 w.2 few)
    where
      below : (n : ℕ) → (window ≤ n → ⊥) → n < window
      below n f = grind (arith, f)

  there_of : (f : Fields K (AccountView K V M)) (c n revision : ℕ) (request : Request K) (want : Want K)
      → EntryStands f c n (new_entry {V = V} {M = M} c n request revision) (first_place c n request revision want)
  there_of f c n revision request (Demand key) = tt
  there_of f c n revision request (Fixed text) = tt

  -- a request is accepted
  pub accept_moved : (b a : Held K P V M) (c n revision : ℕ) (request : Request K) (account : AccountView K V M) (l : Ledger K V M O)
      → found b.accounts c ≡ Some account → (length account.stages < window)
      → ((k : ℕ) → found a.accounts k ≡ (if k == c then Some (with_request account (first_stage c n request revision request.want)) else found b.accounts k))
      → n ≡ next_of account → revision ≡ b.inputs.revision
      → a.inputs ≡ b.inputs → a.opened ≡ b.opened → a.clients ≡ b.clients → ((k : ℕ) → found a.runs k ≡ found b.runs k) → a.started ≡ b.started
      → StandsOf order m point puts b l
      → Reaches (Accepts puts c request (Ok n)) l (StandsOf order m point puts a)
  accept_moved b a c n revision request account l here few accounts number is_now inputs count clients runs started s =
      let w = open_of (AccountStands puts) (answer_by order m point) puts (fields_of b) l c account s here in
      let client : Client K V M O = w.0 in
      let at : n ≡ length client.entries = number ∙ sym w.2.counted in
      let revision_is : l.inputs.revision ≡ revision = ap (λ (t : Table). t.revision) s.inputs ∙ sym is_now in
      let after : Ledger K V M O = with_client l c (with_new client (new_entry c n request l.inputs.revision)) in
      let move : Accepts puts c request (Ok n) l after = (client, w.1, at, few_owed account client w.2 few, refl) in (
        after,
        move,
        accept_stands (AccountStands puts) (answer_by order m point) puts (fields_of b) (fields_of a) l after c n client (with_request account (first_stage c n request revision request.want)) request s
            w.1 at
            (record {
              here = accounts c ∙ if_at c (Some _) (found b.accounts c);
              others = λ k ne. accounts k ∙ if_other k c (Some _) (found b.accounts k) ne;
            })
            (record { inputs = inputs; opened = count; clients = clients })
            (λ r. ap (option_map seen_of) (runs r)) started
            (there_of (fields_of a) c n l.inputs.revision request request.want)
            (subst (λ (r : ℕ). AccountStands puts (with_request account (first_stage c n request r request.want)) (with_new client (new_entry c n request l.inputs.revision))) revision_is
            (accepted_stands puts account client c n l.inputs.revision request w.2))
            refl
            (kept_accepts (answer_by order m point) puts c request (Ok n) l after s.kept move),
      )

  -- no run was started later than now
  pub run_past : (b : Held K P V M) (l : Ledger K V M O) (r : ℕ) (run : RunView K P) → StandsOf order m point puts b l → found b.runs r ≡ Some run → run.started ≤ b.inputs.revision
  run_past b l r run s h =
      let x = run_at (AccountStands puts) (answer_by order m point) puts (fields_of b) l r (seen_of run) s (ap (option_map seen_of) h) in
      let placed = runs_placed (answer_by order m point) puts l r x.0 s.kept x.1 in
      let a : x.0.started ≤ l.inputs.revision = placed.3 in
      let e : run.started ≡ x.0.started = ap (λ (y : RunSeen K). y.started) x.2 in
      let i : l.inputs.revision ≡ b.inputs.revision = ap (λ (t : Table). t.revision) s.inputs in
      omega arith

-- the window of who may post is not full
pub not_full : {K P V M : Type 0} (b : Held K P V M) (c : ℕ) (account : AccountView K V M) → MayPost b c → found b.accounts c ≡ Some account → length account.stages < window
not_full b c account h here = below (length account.stages) (λ full. h.2 (inl (subst (λ (y : AccountView _ _ _). window ≤ length y.stages) (sym (some_one h.0 account (sym h.1 ∙ here))) full)))
  where
    below : (n : ℕ) → (window ≤ n → ⊥) → n < window
    below n f = grind (arith, f)

-- the room for runs, after a request was queued
pub queue_room : {X Y : Type 0} {n : ℕ} {b : Bool} (r : Result X Y) (before after front back : List (ℕ × ℕ)) (x : ℕ × ℕ) → OnOk r (length before + 1 ≤ n) → b ≡ false → b ≡ is_err r
    → before ≡ front ++ back → after ≡ front ++ x ∷ back → length after ≤ n
queue_room {n = n} (Ok y) before after front back x h e f was is =
    let a = long_longer front back x in
    let was_long = ap (λ (xs : List (ℕ × ℕ)). length xs) was in
    let is_long = ap (λ (xs : List (ℕ × ℕ)). length xs) is in
    omega (arith, a, h, was_long, is_long)
queue_room (Err y) before after front back x h e f was is = absurd (cc)

-- room that was made
pub ready_so : {X Y P : Type 0} {b : Bool} (r : Result X Y) → OnOk r P → b ≡ false → b ≡ is_err r → P
ready_so (Ok y) h e f = h
ready_so (Err y) h e f = absurd (cc)

pub false_true : false ≡ true → ⊥
false_true e = cc
