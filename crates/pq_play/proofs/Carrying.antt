-- Each event, carried out. A middle term: only proofs need it.
use Rattle.std.proofs.Common.{◌≡◌, ℕ, ◌<◌, ◌≤◌, Bool, true, false, List, [], ◌∷◌, ◌++◌, length, slice_get, slice_set, Option, Some, None, refl, sym, ◌∙◌, ap, subst, inl, inr, arith}
use Rattle.std.specs.Prelude.{Ok, Err, Result}
use Rattle.std.specs.declared.alloc.AllocError.{AllocError}
use Rattle.std.specs.declared.cmp.Ordering.{Ordering}
use Rattle.pq_rules.specs.Turns.{Machine}
use Rattle.pq_core.specs.Points.{Point}
use Rattle.pq_core.specs.Replies.{ReplyView}
use Rattle.pq_core.specs.Changes.{ChangeView}
use Rattle.pq_core.specs.Works.{DoneView, WorkView}
use Rattle.pq_core.specs.Outboxes.{Listed, taken_front, HasNoRoom, HasLostEnd, TakesNext}
use Rattle.pq_core.specs.Ledger.{Ledger}
use Rattle.pq_core.specs.RightReply.{answer_by}
use Rattle.pq_core.specs.Moves.{Reaches, Opens, Accepts, Edits, Starts, Looks, RunAt, Runs, NoneRuns, IsMade, IsOf, Gives, Starves, Withdraws, Releases, Closes, TakesOut}
use Rattle.pq_core.specs.declared.values.label.Label.{Label}
use Rattle.pq_core.specs.declared.values.request.Request.{Request}
use Rattle.pq_core.specs.declared.values.fault.OpenRefused.{OpenRefused}
use Rattle.pq_core.specs.declared.values.fault.EditRefused.{EditRefused}
use Rattle.pq_core.specs.declared.values.fault.GiveFault.{GiveFault}
use Rattle.pq_core.specs.declared.values.fault.GiveFault.TheVariants.{NotThisRun, Memory as GiveMemory}
use Rattle.pq_core.specs.declared.values.fault.GiveRefused.{GiveRefused}
use Rattle.pq_core.specs.declared.values.fault.WithdrawFault.{WithdrawFault}
use Rattle.pq_core.specs.declared.values.moves.Move.{Move}
use Rattle.pq_core.specs.declared.values.moves.Released.{Released}
use Rattle.pq_core.proofs.Lists.{some_one, none_some, get_within, get_there, same_or_other}
use Rattle.pq_play.specs.World.{World, replies_of, own_point}
use Rattle.pq_play.specs.Steps.{Steps, OpenAnswered, EditAnswered, empty_list}
use Rattle.pq_play.specs.aux.Seats.{SeatView, free_seat, with_request, with_left, Seated, Aligned, SetsSeat, SeatLeaves, TakesLeft, LeavesNone}
use Rattle.pq_play.specs.aux.Running.{OutOf, IsPut, IsSame, KeepsMove}
use Rattle.pq_play.specs.aux.Playing.{Stood, Carried}
use Rattle.pq_core.proofs.Writes.{set_back}
use Rattle.pq_play.proofs.Aligning.{aligned_opens, aligned_accepts, aligned_edits, aligned_starts, aligned_looks, aligned_gives, aligned_starves, aligned_withdraws, aligned_releases, aligned_closes, aligned_takes, aligned_takes_left, seated_at}
use Rattle.pq_play.proofs.Running.{Ran, ran_same, ran_fewer, ran_none, ran_looks, ran_gives, ran_starves, ran_starts, runs_opens, runs_accepts, runs_edits, runs_withdraws, runs_releases, runs_closes, runs_takes, same_as, given_at, given_of, made_of, none_given}
use Rattle.pq_play.proofs.Leading.{true_or_false}
use Rattle.pq_play.specs.declared.event.Event.{Event}
use Rattle.pq_play.specs.declared.event.Event.TheVariants.{Open, Accept, Edit, Withdraw, Start, Step, Give, Starve, Release, Take, Close}

module _ {R K P V M O : Type 0} where
  -- a result that is none of the work that is out
  given_not : (run : ℕ) (done : DoneView R K P V) (refused : GiveRefused (DoneView R K P V)) (l m : Ledger K V M O) → refused.fault ≡ NotThisRun → Gives run done (Err refused) l m
      → ((at : RunAt K V M O) → Runs l run at → IsOf run at done → ⊥) × (m ≡ l)
  given_not run done refused l m e s = by_fault refused.fault refused.done e s
    where
      by_fault : (fault : GiveFault) (back : DoneView R K P V) → fault ≡ NotThisRun → Gives run done (Err (record { fault = fault; done = back })) l m → ((at : RunAt K V M O) → Runs l run at → IsOf run at done → ⊥) × (m ≡ l)
      by_fault NotThisRun back f g = (g.1, g.2)
      by_fault GiveMemory back f g = absurd (cc)

module _ {R K P V : Type 0} (room : ℕ) (order : K → K → Ordering) (machine : Machine K P V) (rules own after_own : R) (Stands After : Ledger K V Point (Listed K V Point) → Type 0) (w : World K V) (seats : List (SeatView K V)) (dones : ℕ → Option (DoneView R K P V)) (s : Stood order machine rules own Stands w seats dones) (same_rules : after_own ≡ own) where
  ran : Ran rules w.ledger dones
  ran = (s.fits.runs, s.fits.outs)

  carried : (event : Event K) (m : Ledger K V Point (Listed K V Point)) (taken : List (List (ReplyView K V Point))) (after_seats : List (SeatView K V)) (after_dones : ℕ → Option (DoneView R K P V)) → After m
      → Steps room order machine rules event w (record { ledger = m; taken = taken }) → Aligned m.clients taken after_seats → Ran rules m after_dones → Carried room order machine rules event w after_own After after_seats after_dones
  carried event m taken after_seats after_dones stands steps aligned ran_after = record {
    v = record { ledger = m; taken = taken };
    own_same = same_rules ∙ s.own_same;
    stands = stands;
    steps = steps;
    fits = record { aligned = aligned; runs = ran_after.0; outs = ran_after.1 };
  }

  pub given_made : (run : ℕ) (done : DoneView R K P V) → Some done ≡ dones run → IsMade rules w.ledger.inputs done
  given_made run done e = made_of rules w.ledger run done s.kept.inputs (subst (OutOf rules w.ledger run) (sym e) (s.fits.outs run))

  pub carried_opened : (n : ℕ) (after_seats : List (SeatView K V)) → Reaches (Opens (empty_list room) (Ok n)) w.ledger After → after_seats ≡ seats ++ free_seat ∷ []
      → Carried room order machine rules Open w after_own After after_seats dones
  carried_opened n after_seats r e =
      carried Open r.0 (w.taken ++ [] ∷ []) after_seats dones r.2 (Ok n, tt, r.1, refl)
      (subst (λ (ys : List (SeatView K V)). Aligned r.0.clients (w.taken ++ [] ∷ []) ys) (sym e) (aligned_opens (empty_list room) n w.taken seats w.ledger r.0 refl r.1 s.fits.aligned))
      (ran_same rules w.ledger r.0 dones dones (runs_opens (empty_list room) (Ok n) w.ledger r.0 r.1) (λ q. refl) ran)

  pub carried_not_opened : (refused : OpenRefused (Listed K V Point)) → OpenAnswered (Err refused) → Reaches (Opens (empty_list room) (Err refused)) w.ledger After
      → Carried room order machine rules Open w after_own After seats dones
  carried_not_opened refused answered r =
      carried Open r.0 w.taken seats dones r.2 (Err refused, answered, r.1, refl)
      (subst (λ (x : Ledger K V Point (Listed K V Point)). Aligned x.clients w.taken seats) (sym r.1.2) s.fits.aligned)
      (ran_same rules w.ledger r.0 dones dones (same_as w.ledger r.0 r.1.2) (λ q. refl) ran)

  pub carried_accepted : (c : ℕ) (request : Request K) (n : ℕ) (after_seats : List (SeatView K V)) → Reaches (Accepts replies_of c request (Ok n)) w.ledger After → SetsSeat seats after_seats c (λ seat. with_request seat request)
      → Carried room order machine rules (Accept c request) w after_own After after_seats dones
  carried_accepted c request n after_seats r k =
      carried (Accept c request) r.0 w.taken after_seats dones r.2 (Ok n, tt, r.1, refl)
      (subst (λ (ys : List (SeatView K V)). Aligned r.0.clients w.taken ys) (sym k.set_so) (aligned_accepts w.taken seats c request n w.ledger r.0 k.seat k.here r.1 s.fits.aligned))
      (ran_same rules w.ledger r.0 dones dones (runs_accepts replies_of c request (Ok n) w.ledger r.0 r.1) (λ q. refl) ran)

  pub carried_edit : (c : ℕ) (change : ChangeView) (answer : Result ℕ EditRefused) → EditAnswered answer → Reaches (Edits c change answer) w.ledger After → Carried room order machine rules (Edit c change) w after_own After seats dones
  carried_edit c change answer answered r =
      carried (Edit c change) r.0 w.taken seats dones r.2 (answer, answered, r.1, refl)
      (aligned_edits w.taken seats c change answer w.ledger r.0 r.1 s.fits.aligned)
      (ran_fewer rules w.ledger r.0 dones dones (runs_edits c change answer w.ledger r.0 r.1) (λ q. refl) ran)

  pub carried_withdraw : (c : ℕ) (label : Label) (answer : Result Bool WithdrawFault) → Reaches (Withdraws c label answer) w.ledger After → Carried room order machine rules (Withdraw c label) w after_own After seats dones
  carried_withdraw c label answer r =
      carried (Withdraw c label) r.0 w.taken seats dones r.2 (answer, r.1, refl)
      (aligned_withdraws w.taken seats c label answer w.ledger r.0 r.1 s.fits.aligned)
      (ran_fewer rules w.ledger r.0 dones dones (runs_withdraws c label answer w.ledger r.0 r.1) (λ q. refl) ran)

  pub carried_start : (answer : Option ℕ) → Reaches (Starts answer) w.ledger After → Carried room order machine rules Start w after_own After seats dones
  carried_start answer r =
      carried Start r.0 w.taken seats dones r.2 (answer, r.1, refl)
      (aligned_starts w.taken seats answer w.ledger r.0 r.1 s.fits.aligned)
      (ran_starts rules answer w.ledger r.0 dones r.1 ran)

  pub carried_release : (c : ℕ) (answer : Released) → Reaches (Releases replies_of taken_front HasNoRoom HasLostEnd c answer) w.ledger After → Carried room order machine rules (Release c) w after_own After seats dones
  carried_release c answer r =
      carried (Release c) r.0 w.taken seats dones r.2 (answer, r.1, refl)
      (aligned_releases w.taken seats c answer w.ledger r.0 r.1 s.fits.aligned)
      (ran_same rules w.ledger r.0 dones dones (runs_releases replies_of taken_front HasNoRoom HasLostEnd c answer w.ledger r.0 r.1) (λ q. refl) ran)

  pub carried_step : (run : ℕ) (move : Move (WorkView R K P V)) (after_dones : ℕ → Option (DoneView R K P V)) → Reaches (Looks order machine own_point rules run (Ok move)) w.ledger After → KeepsMove run move dones after_dones
      → Carried room order machine rules (Step run) w after_own After seats after_dones
  carried_step run move after_dones r k =
      carried (Step run) r.0 w.taken seats after_dones r.2 (Ok move, tt, r.1, refl)
      (aligned_looks w.taken seats (answer_by order machine own_point) rules run (Ok move) w.ledger r.0 r.1 s.fits.aligned)
      (ran_looks rules (answer_by order machine own_point) run move w.ledger r.0 dones after_dones s.kept.inputs r.1 k ran)

  pub carried_given : (run : ℕ) (done : DoneView R K P V) (move : Move (WorkView R K P V)) (after_dones : ℕ → Option (DoneView R K P V)) → Some done ≡ dones run → IsPut dones after_dones run None → Reaches (Gives run done (Ok move)) w.ledger After
      → Carried room order machine rules (Give run) w after_own After seats after_dones
  carried_given run done move after_dones e p r =
      let kept : OutOf rules w.ledger run (Some done) = subst (OutOf rules w.ledger run) (sym e) (s.fits.outs run) in
      let at = given_at run done move w.ledger r.0 r.1 in
      carried (Give run) r.0 w.taken seats after_dones r.2
      (inl (record {
        done = done;
        at = at.0;
        runs = at.1;
        is_of = at.2;
        made = made_of rules w.ledger run done s.kept.inputs kept;
        move = move;
        given = r.1;
        taken_same = refl;
      }))
      (aligned_gives w.taken seats run done move w.ledger r.0 r.1 s.fits.aligned)
      (ran_gives rules run done move w.ledger r.0 dones after_dones r.1 p ran)

  -- the run of a result that is kept is over, and nothing changes
  pub carried_over : (run : ℕ) (done : DoneView R K P V) (refused : GiveRefused (DoneView R K P V)) (after_dones : ℕ → Option (DoneView R K P V)) → refused.fault ≡ NotThisRun → Some done ≡ dones run → IsPut dones after_dones run None
      → Reaches (Gives run done (Err refused)) w.ledger After → Carried room order machine rules (Give run) w after_own After seats after_dones
  carried_over run done refused after_dones fault e p r =
      let kept : OutOf rules w.ledger run (Some done) = subst (OutOf rules w.ledger run) (sym e) (s.fits.outs run) in
      let told = given_not run done refused w.ledger r.0 fault r.1 in
      let none : NoneRuns w.ledger run = λ at runs. told.0 at runs (given_of rules w.ledger run done kept at runs) in
      carried (Give run) r.0 w.taken seats after_dones r.2
      (inr (record {
        none = λ at runs. absurd (none at runs);
        same = ap (λ (x : Ledger K V Point (Listed K V Point)). record { ledger = x; taken = w.taken }) told.1;
      }))
      (subst (λ (x : Ledger K V Point (Listed K V Point)). Aligned x.clients w.taken seats) (sym told.1) s.fits.aligned)
      (ran_none rules w.ledger r.0 run dones after_dones none told.1 p ran)

  pub carried_starve : (run : ℕ) (answer : Bool) (after_dones : ℕ → Option (DoneView R K P V)) → IsPut dones after_dones run None → Reaches (Starves run answer) w.ledger After
      → Carried room order machine rules (Starve run) w after_own After seats after_dones
  carried_starve run answer after_dones p r =
      carried (Starve run) r.0 w.taken seats after_dones r.2 (answer, r.1, refl)
      (aligned_starves w.taken seats run answer w.ledger r.0 r.1 s.fits.aligned)
      (ran_starves rules run answer w.ledger r.0 dones after_dones r.1 p ran)

  -- a take out of an open client's outbox, out of one that is kept, and none
  pub carried_take : (c : ℕ) → Reaches (TakesOut {A = AllocError} replies_of taken_front c (Ok true)) w.ledger After → Carried room order machine rules (Take c) w after_own After seats dones
  carried_take c r =
      let o = r.1 in
      let client = o.0 in
      let u = seated_at w.ledger.clients w.taken seats c client s.fits.aligned o.1.here in
      let is_taken = (u.4.open_so o.1.open_yet).1 in
      carried (Take c) r.0 (slice_set w.taken c (taken_front o.2.0)) seats dones r.2
      (inl (record {
        client = client;
        client_here = o.1.here;
        taken = u.0;
        taken_here = u.2;
        after_it = taken_front o.2.0;
        next = subst (λ (qs : List (ReplyView K V Point)). TakesNext client.outbox.replies qs (taken_front o.2.0)) (sym is_taken) o.2.2;
        taken_after = refl;
        open_so = λ _. o;
        shut_so = λ e. absurd (not_both client.is_open o.1.open_yet e);
      }))
      (subst (λ (x : Ledger K V Point (Listed K V Point)). Aligned x.clients (slice_set w.taken c (taken_front o.2.0)) seats) (sym o.2.3)
      (aligned_takes w.taken seats c o.2.0 client w.ledger.clients o.1.here o.1.open_yet s.fits.aligned))
      (ran_same rules w.ledger r.0 dones dones (runs_takes {A = AllocError} replies_of taken_front c (Ok true) w.ledger r.0 o) (λ q. refl) ran)
    where
      not_both : (b : Bool) → b ≡ true → b ≡ false → ⊥
      not_both b e f = cc

  pub carried_left : (c : ℕ) (after_seats : List (SeatView K V)) → Reaches (TakesOut {A = AllocError} replies_of taken_front c (Ok false)) w.ledger After → TakesLeft seats after_seats c
      → Carried room order machine rules (Take c) w after_own After after_seats dones
  carried_left c after_seats r o =
      let a = s.fits.aligned in
      let t = o.takes in
      let p : length seats ≡ length w.ledger.clients = a.places in
      let f : c < length seats = get_within seats c o.seat o.here in
      let client = get_there w.ledger.clients c (omega arith) in
      let u = seated_at w.ledger.clients w.taken seats c client.0 a client.1 in
      let mine : u.1 ≡ o.seat = some_one u.1 o.seat (sym u.3 ∙ o.here) in
      let seated : Seated client.0 u.0 o.seat = subst (λ (x : SeatView K V). Seated client.0 u.0 x) mine u.4 in
      let shut : client.0.is_open ≡ false = elim (true_or_false client.0.is_open) [ inl e ↦ absurd (none_some t.old (sym (seated.open_so e).0 ∙ t.left_here)) | inr e ↦ e ] in
      let left = seated.shut_so shut in
      let it : left.0 ≡ t.old = some_one left.0 t.old (sym left.1 ∙ t.left_here) in
      carried (Take c) r.0 (slice_set w.taken c (taken_front t.next)) after_seats dones r.2
      (inl (record {
        client = client.0;
        client_here = client.1;
        taken = u.0;
        taken_here = u.2;
        after_it = taken_front t.next;
        next =
            subst (λ (qs : List (ReplyView K V Point)). TakesNext qs u.0 (taken_front t.next)) (ap (λ (x : Listed K V Point). x.replies) (sym it) ∙ left.3)
            (subst (λ (qs : List (ReplyView K V Point)). TakesNext t.old.replies qs (taken_front t.next)) (ap (λ (x : Listed K V Point). taken_front x) (sym it) ∙ sym left.2) t.takes);
        taken_after = refl;
        open_so = λ e. absurd (not_both client.0.is_open e shut);
        shut_so = λ _. r.1.1;
      }))
      (subst (λ (x : Ledger K V Point (Listed K V Point)). Aligned x.clients (slice_set w.taken c (taken_front t.next)) after_seats) (sym r.1.1)
      (subst (λ (ys : List (SeatView K V)). Aligned w.ledger.clients (slice_set w.taken c (taken_front t.next)) ys) (sym (o.set_so ∙ ap (λ (x : SeatView K V). slice_set seats c x) t.after_it))
      (aligned_takes_left w.taken seats c t.next t.old o.seat client.0 w.ledger.clients client.1 shut o.here t.left_here t.same a)))
      (ran_same rules w.ledger r.0 dones dones (same_as w.ledger r.0 r.1.1) (λ q. refl) ran)
    where
      not_both : (b : Bool) → b ≡ true → b ≡ false → ⊥
      not_both b e f = cc

  pub carried_none : (c : ℕ) (after_seats : List (SeatView K V)) → Reaches (TakesOut {A = AllocError} replies_of taken_front c (Ok false)) w.ledger After → LeavesNone seats after_seats c
      → Carried room order machine rules (Take c) w after_own After after_seats dones
  carried_none c after_seats r o =
      let a = s.fits.aligned in
      carried (Take c) r.0 w.taken after_seats dones r.2
      (inr (record {
        none = λ client tk h i.
            let u = seated_at w.ledger.clients w.taken seats c client a h in
            let mine : u.0 ≡ tk = some_one u.0 tk (sym u.2 ∙ i) in
            subst (λ (qs : List (ReplyView K V Point)). length client.outbox.replies ≤ length qs) mine
            (elim (true_or_false client.is_open) [
              | inl e ↦
                  let x : length client.outbox.replies ≡ length (taken_front client.outbox) = r.1.0 client (record { here = h; open_yet = e }) in
                  subst (λ (qs : List (ReplyView K V Point)). length client.outbox.replies ≤ length qs) (sym (u.4.open_so e).1) (omega arith)
              | inr e ↦
                  let left = u.4.shut_so e in
                  subst (λ (qs : List (ReplyView K V Point)). length client.outbox.replies ≤ length qs) (sym left.2)
                  (subst (λ (qs : List (ReplyView K V Point)). length qs ≤ length (taken_front left.0)) left.3 (o.none u.1 left.0 u.3 left.1))
            ]);
        same = ap (λ (x : Ledger K V Point (Listed K V Point)). record { ledger = x; taken = w.taken }) r.1.1;
      }))
      (subst (λ (x : Ledger K V Point (Listed K V Point)). Aligned x.clients w.taken after_seats) (sym r.1.1)
      (subst (λ (ys : List (SeatView K V)). Aligned w.ledger.clients w.taken ys) (sym o.same) a))
      (ran_same rules w.ledger r.0 dones dones (same_as w.ledger r.0 r.1.1) (λ q. refl) ran)

  pub carried_closed : (c : ℕ) (o : Listed K V Point) (after_seats : List (SeatView K V)) → Reaches (Closes c (Some o)) w.ledger After → SetsSeat seats after_seats c (λ seat. with_left seat o)
      → Carried room order machine rules (Close c) w after_own After after_seats dones
  carried_closed c o after_seats r k =
      carried (Close c) r.0 w.taken after_seats dones r.2 (Some o, r.1, refl)
      (subst (λ (ys : List (SeatView K V)). Aligned r.0.clients w.taken ys) (sym k.set_so) (aligned_closes w.taken seats c o w.ledger r.0 k.seat k.here r.1 s.fits.aligned))
      (ran_same rules w.ledger r.0 dones dones (runs_closes c (Some o) w.ledger r.0 r.1) (λ q. refl) ran)

module _ {R K P V : Type 0} (room : ℕ) (order : K → K → Ordering) (machine : Machine K P V) (rules own : R) (Stands : Ledger K V Point (Listed K V Point) → Type 0) (w : World K V) (seats : List (SeatView K V)) (dones : ℕ → Option (DoneView R K P V)) (s : Stood order machine rules own Stands w seats dones) where
  pub carried_not_given : (run : ℕ) (after_dones : ℕ → Option (DoneView R K P V)) → None ≡ dones run → IsPut dones after_dones run None → Carried room order machine rules (Give run) w own Stands seats after_dones
  carried_not_given run after_dones e p =
      let none : OutOf {P = P} rules w.ledger run None = subst (OutOf rules w.ledger run) (sym e) (s.fits.outs run) in
      let same : IsSame dones after_dones = λ q. elim (same_or_other q run) [
        | inl f ↦ ap after_dones f ∙ p.here ∙ e ∙ ap dones (sym f)
        | inr ne ↦ p.others q ne
      ] in
      let x : Ran rules w.ledger after_dones = ran_same rules w.ledger w.ledger dones after_dones (same_as w.ledger w.ledger refl) same (s.fits.runs, s.fits.outs) in
      record {
        v = w;
        own_same = s.own_same;
        stands = s.stands;
        steps = inr (record { none = none_given w.ledger run none; same = refl });
        fits = record { aligned = s.fits.aligned; runs = x.0; outs = x.1 };
      }

pub left_none : {K V : Type 0} (before : List (SeatView K V)) (c : ℕ) (seat other : SeatView K V) → slice_get before c ≡ Some seat → SeatLeaves seat other → LeavesNone before (slice_set before c other) c
left_none {K} {V} before c seat other here o = record {
  none = λ found old h i. o.none old (ap (λ (x : SeatView K V). x.left) (some_one seat found (sym here ∙ h)) ∙ i);
  same = ap (λ (x : SeatView K V). slice_set before c x) o.same ∙ set_back before c seat here;
}
