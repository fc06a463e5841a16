-- The headline from what is kept, and one more event. A middle term: only proofs need it.
use Rattle.std.proofs.Common.{◌≡◌, ℕ, zero, suc, ◌<◌, ◌≤◌, ◌⊎◌, Bool, true, false, List, [], ◌∷◌, length, take, slice_get, Option, Some, None, refl, sym, ◌∙◌, ap, subst, inl, inr, arith}
use Rattle.std.specs.Prelude.{Ok}
use Rattle.std.specs.declared.alloc.AllocError.{AllocError}
use Rattle.std.specs.declared.cmp.Ordering.{Ordering}
use Rattle.pq_inputs.specs.Sources.{Table}
use Rattle.pq_rules.specs.declared.turn.Answer.{Answer}
use Rattle.pq_rules.specs.Turns.{Machine}
use Rattle.pq_core.specs.Points.{Point}
use Rattle.pq_core.specs.Replies.{ReplyView}
use Rattle.pq_core.specs.Works.{DoneView}
use Rattle.pq_core.specs.Outboxes.{Listed, taken_front, HasNoRoom, HasLostEnd}
use Rattle.pq_core.specs.Ledger.{Place, Waiting, Running, Ready, Put, Dropped, Ledger, Client, Entry, IsClosed, unused}
use Rattle.pq_core.specs.RightReply.{IsRight, IsRightFor, answer_by}
use Rattle.pq_core.specs.Kept.{PlaceKept, Kept}
use Rattle.pq_core.proofs.Lists.{some_one, none_some, get_within, get_there}
use Rattle.pq_core.proofs.Keeping.{kept_opens, kept_accepts, kept_edits, kept_starts, kept_looks, kept_gives, kept_starves, kept_withdraws, kept_releases, kept_closes, kept_takes}
use Rattle.pq_core.proofs.Shutting.{shut_opens, shut_accepts, shut_edits, shut_starts, shut_looks, shut_gives, shut_starves, shut_withdraws, shut_releases, shut_closes, shut_takes}
use Rattle.pq_play.specs.World.{World, no_files, beginning, replies_of, own_point}
use Rattle.pq_play.specs.Headline.{Headline, LeavesClosed}
use Rattle.pq_play.specs.Steps.{Steps, LeadsTo, empty_list}
use Rattle.pq_play.specs.aux.Seats.{SeatView, Seated, Aligned}
use Rattle.pq_play.specs.aux.Running.{Run, run_at, OutOf}
use Rattle.pq_play.specs.aux.Playing.{Stood, Carried, Carries, Playing}
use Rattle.pq_play.specs.declared.event.Event.{Event}
use Rattle.pq_play.specs.declared.event.Event.TheVariants.{Open, Accept, Edit, Withdraw, Start, Step, Give, Starve, Release, Take, Close}

pub true_or_false : (b : Bool) → (b ≡ true) ⊎ (b ≡ false)
true_or_false true = inl refl
true_or_false false = inr refl

get_taken : {A : Type 0} (xs : List A) (n i : ℕ) (x : A) → slice_get (take n xs) i ≡ Some x → slice_get xs i ≡ Some x
get_taken xs zero i x h = absurd (none_some x h)
get_taken [] (suc n) i x h = h
get_taken (a ∷ xs) (suc n) zero x h = h
get_taken (a ∷ xs) (suc n) (suc i) x h = get_taken xs n i x h

module _ {K V : Type 0} (means : Point → Point → K → Answer K V → Type 0) where
  put_right : (inputs : Table) (qs : List (ReplyView K V Point)) (c i : ℕ) (entry : Entry K V Point) (reply : ReplyView K V Point) (place : Place K V Point) → i < length qs
      → slice_get qs i ≡ Some reply → PlaceKept means inputs qs c i entry place → IsRightFor means inputs c i entry reply
  put_right inputs qs c i entry reply Waiting b h p = let x : length qs ≤ i = p.0 in absurd (omega arith)
  put_right inputs qs c i entry reply (Running run started out) b h p = let x : length qs ≤ i = p.0 in absurd (omega arith)
  put_right inputs qs c i entry reply (Ready other) b h p = let x : length qs ≤ i = p.0 in absurd (omega arith)
  put_right inputs qs c i entry reply Put b h p = subst (IsRightFor means inputs c i entry) (some_one p.0 reply (sym p.1 ∙ h)) p.2
  put_right inputs qs c i entry reply Dropped b h p = let x : length qs ≤ i = p in absurd (omega arith)

  -- each reply that was put is right
  right_put : (l : Ledger K V Point (Listed K V Point)) (c i : ℕ) (client : Client K V Point (Listed K V Point)) (reply : ReplyView K V Point) → Kept means replies_of l → slice_get l.clients c ≡ Some client
      → slice_get client.outbox.replies i ≡ Some reply → IsRight means l c i reply
  right_put l c i client reply k here h =
      let ck = k.clients c client here in
      let few : length client.outbox.replies ≤ length client.entries = ck.few in
      let b : i < length client.outbox.replies = get_within client.outbox.replies i reply h in
      let e = get_there client.entries i (omega arith) in
      record {
        client = client;
        entry = e.0;
        is_entry = record { client_here = here; here = e.1 };
        right = put_right l.inputs client.outbox.replies c i e.0 reply e.0.place b h (ck.each i e.0 e.1).placed;
      }

  pub headline_of : (w : World K V) (seats : List (SeatView K V)) → Aligned w.ledger.clients w.taken seats → Kept means replies_of w.ledger → Headline means w
  headline_of w seats a k = record {
    clients = a.counted;
    each = λ c i tk reply h g.
        let b : length w.taken ≡ length w.ledger.clients = a.counted in
        let p : length seats ≡ length w.ledger.clients = a.places in
        let t : c < length w.taken = get_within w.taken c tk h in
        let client = get_there w.ledger.clients c (omega arith) in
        let seat = get_there seats c (omega arith) in
        let seated : Seated client.0 tk seat.0 = a.each c client.0 tk seat.0 client.1 h seat.1 in
        right_put w.ledger c i client.0 reply k client.1
        (elim (true_or_false client.0.is_open) [
          | inl e ↦ get_taken client.0.outbox.replies client.0.outbox.taken i reply (subst (λ (qs : List (ReplyView K V Point)). slice_get qs i ≡ Some reply) (seated.open_so e).1 g)
          | inr e ↦
              let u = seated.shut_so e in
              subst (λ (qs : List (ReplyView K V Point)). slice_get qs i ≡ Some reply) u.3
              (get_taken u.0.replies u.0.taken i reply (subst (λ (qs : List (ReplyView K V Point)). slice_get qs i ≡ Some reply) u.2 g))
        ]);
  }

module _ {K V : Type 0} where
  kept_as : (means : Point → Point → K → Answer K V → Type 0) (l m : Ledger K V Point (Listed K V Point)) → m ≡ l → Kept means replies_of l → Kept means replies_of m
  kept_as means l m e k = subst (Kept means replies_of) (sym e) k

  closed_as : (l m : Ledger K V Point (Listed K V Point)) → m ≡ l → LeavesClosed l m
  closed_as l m e = λ c shut. subst (λ (x : Ledger K V Point (Listed K V Point)). (after : IsClosed x c) × (after.client.outbox ≡ shut.client.outbox)) (sym e) (shut, refl)

  ledger_of : (w v : World K V) → v ≡ w → v.ledger ≡ w.ledger
  ledger_of w v e = ap (λ (x : World K V). x.ledger) e

module _ {R K P V : Type 0} (room : ℕ) (order : K → K → Ordering) (machine : Machine K P V) (rules : R) where
  kept_steps : (event : Event K) (w v : World K V) → Steps room order machine rules event w v → Kept (answer_by order machine own_point) replies_of w.ledger → Kept (answer_by order machine own_point) replies_of v.ledger
  kept_steps Open w v s k = kept_opens (answer_by order machine own_point) replies_of (empty_list room) s.0 w.ledger v.ledger refl k s.2
  kept_steps (Accept c request) w v s k = kept_accepts (answer_by order machine own_point) replies_of c request s.0 w.ledger v.ledger k s.2
  kept_steps (Edit c change) w v s k = kept_edits (answer_by order machine own_point) replies_of c change s.0 w.ledger v.ledger k s.2
  kept_steps (Withdraw c label) w v s k = kept_withdraws (answer_by order machine own_point) replies_of c label s.0 w.ledger v.ledger k s.1
  kept_steps Start w v s k = kept_starts (answer_by order machine own_point) replies_of s.0 w.ledger v.ledger k s.1
  kept_steps (Step run) w v s k = kept_looks (answer_by order machine own_point) replies_of rules run s.0 w.ledger v.ledger k s.2
  kept_steps (Give run) w v s k = elim s [
    | inl g ↦ kept_gives (answer_by order machine own_point) replies_of run g.done (Ok g.move) w.ledger v.ledger k g.given
    | inr g ↦ kept_as (answer_by order machine own_point) w.ledger v.ledger (ledger_of w v g.same) k
  ]
  kept_steps (Starve run) w v s k = kept_starves (answer_by order machine own_point) replies_of run s.0 w.ledger v.ledger k s.1
  kept_steps (Release c) w v s k = kept_releases (answer_by order machine own_point) replies_of taken_front HasNoRoom HasLostEnd c s.0 w.ledger v.ledger k s.1
  kept_steps (Take c) w v s k = elim s [
    | inl t ↦ elim (true_or_false t.client.is_open) [
      | inl e ↦ kept_takes (answer_by order machine own_point) replies_of {A = AllocError} taken_front c (Ok true) w.ledger v.ledger k (t.open_so e)
      | inr e ↦ kept_as (answer_by order machine own_point) w.ledger v.ledger (t.shut_so e) k
    ]
    | inr t ↦ kept_as (answer_by order machine own_point) w.ledger v.ledger (ledger_of w v t.same) k
  ]
  kept_steps (Close c) w v s k = kept_closes (answer_by order machine own_point) replies_of c s.0 w.ledger v.ledger k s.1

  pub closed_steps : (event : Event K) (w v : World K V) → Steps room order machine rules event w v → LeavesClosed w.ledger v.ledger
  closed_steps Open w v s = λ d shut. shut_opens d (empty_list room) s.0 w.ledger v.ledger shut s.2
  closed_steps (Accept c request) w v s = λ d shut. shut_accepts replies_of d c request s.0 w.ledger v.ledger shut s.2
  closed_steps (Edit c change) w v s = λ d shut. shut_edits d c change s.0 w.ledger v.ledger shut s.2
  closed_steps (Withdraw c label) w v s = λ d shut. shut_withdraws d c label s.0 w.ledger v.ledger shut s.1
  closed_steps Start w v s = λ d shut. shut_starts d s.0 w.ledger v.ledger shut s.1
  closed_steps (Step run) w v s = λ d shut. shut_looks (answer_by order machine own_point) rules d run s.0 w.ledger v.ledger shut s.2
  closed_steps (Give run) w v s = elim s [
    | inl g ↦ λ d shut. shut_gives d run g.done (Ok g.move) w.ledger v.ledger shut g.given
    | inr g ↦ closed_as w.ledger v.ledger (ledger_of w v g.same)
  ]
  closed_steps (Starve run) w v s = λ d shut. shut_starves d run s.0 w.ledger v.ledger shut s.1
  closed_steps (Release c) w v s = λ d shut. shut_releases replies_of taken_front HasNoRoom HasLostEnd d c s.0 w.ledger v.ledger shut s.1
  closed_steps (Take c) w v s = elim s [
    | inl t ↦ elim (true_or_false t.client.is_open) [
      | inl e ↦ λ d shut. shut_takes {A = AllocError} replies_of taken_front d c (Ok true) w.ledger v.ledger shut (t.open_so e)
      | inr e ↦ closed_as w.ledger v.ledger (t.shut_so e)
    ]
    | inr t ↦ closed_as w.ledger v.ledger (ledger_of w v t.same)
  ]
  closed_steps (Close c) w v s = λ d shut. shut_closes d c s.0 w.ledger v.ledger shut s.1

  -- the world after an event is one for which the core stands
  pub stood_after : (event : Event K) (w : World K V) (own after_own : R) (Stands After : Ledger K V Point (Listed K V Point) → Type 0) (seats after_seats : List (SeatView K V)) (dones after_dones : ℕ → Option (DoneView R K P V))
      → Stood order machine rules own Stands w seats dones → (d : Carried room order machine rules event w after_own After after_seats after_dones) → Stood order machine rules after_own After d.v after_seats after_dones
  stood_after event w own after_own Stands After seats after_seats dones after_dones s d = record {
    own_same = d.own_same;
    stands = d.stands;
    kept = kept_steps event w d.v d.steps s.kept;
    fits = d.fits;
  }

  -- one more event
  pub playing_on : (events : List (Event K)) (event : Event K) (rest : List (Event K)) (start : World K V) (own after_own : R) (Stands After : Ledger K V Point (Listed K V Point) → Type 0) (seats after_seats : List (SeatView K V)) (dones after_dones : ℕ → Option (DoneView R K P V))
      → Playing room order machine rules events (event ∷ rest) start own Stands seats dones → Carries room order machine rules event own Stands seats dones after_own After after_seats after_dones
      → Playing room order machine rules events rest start after_own After after_seats after_dones
  playing_on events event rest start own after_own Stands After seats after_seats dones after_dones p f =
      let d = f p.w p.stood in
      let after = stood_after event p.w own after_own Stands After seats after_seats dones after_dones p.stood d in
      record {
        w = d.v;
        stood = after;
        goes_on = λ v h. p.goes_on v (d.v, d.steps, headline_of (answer_by order machine own_point) d.v after_seats d.fits.aligned after.kept, closed_steps event p.w d.v d.steps, h);
      }

  no_run : (c n : ℕ) (a : Run K) → run_at {V = V} {M = Point} {O = Listed K V Point} [] c n ≡ Some a → ⊥
  no_run c n a h = none_some a h

  -- a core that was just made
  pub stood_start : (own : R) (Stands : Ledger K V Point (Listed K V Point) → Type 0) (seats : List (SeatView K V)) (dones : ℕ → Option (DoneView R K P V)) → own ≡ rules → Stands (unused no_files)
      → seats ≡ [] → ((r : ℕ) → dones r ≡ None) → Stood order machine rules own Stands beginning seats dones
  stood_start own Stands seats dones same stands e none = record {
    own_same = same;
    stands = stands;
    kept = record { inputs = record { counted = refl; latest = refl }; clients = λ c client h. absurd (none_some client h) };
    fits = record {
      aligned = record {
        counted = refl;
        places = ap (λ (xs : List (SeatView K V)). length xs) e;
        each = λ c client tk seat h i j. absurd (none_some client h);
      };
      runs = record { below = λ c n a h. absurd (no_run c n a h); once = λ c n d i a b h g same_number. absurd (no_run c n a h) };
      outs = λ r. subst (OutOf rules (unused no_files) r) (sym (none r)) (λ c n a h number. absurd (no_run c n a h));
    };
  }

  pub leads_closed : (events : List (Event K)) (w v : World K V) → LeadsTo room order machine rules events w v → LeavesClosed w.ledger v.ledger
  leads_closed [] w v e = closed_as w.ledger v.ledger (ledger_of w v e)
  leads_closed (event ∷ events) w v s = λ c shut.
      let first = s.3 c shut in
      let later = leads_closed events s.0 v s.4 c first.0 in
      (later.0, later.1 ∙ first.1)
