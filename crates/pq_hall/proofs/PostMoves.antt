-- What a post does to a store, from the call that it is.
use Rattle.std.proofs.Common.{◌≡◌, ℕ, Bool, Result, Ok, refl, sym, subst}
use Rattle.std.specs.declared.cmp.Ordering.{Ordering}
use Rattle.pq_rules.specs.Turns.{Machine}
use Rattle.pq_core.proofs.TwoCalls.{goes_nowhere, goes_as}
use Rattle.pq_core.specs.Changes.{ChangeView}
use Rattle.pq_core.specs.Points.{Point}
use Rattle.pq_core.specs.Moves.{Accepts, Edits, Withdraws}
use Rattle.pq_core.specs.Told.{told_puts}
use Rattle.pq_core.specs.Starts.{IsCountedIn, Log}
use Rattle.pq_core.specs.Stores.{StoreView, Goes}
use Rattle.pq_core.specs.declared.values.request.Request.{Request}
use Rattle.pq_core.specs.declared.values.fault.AcceptRefused.{AcceptRefused}
use Rattle.pq_core.specs.declared.values.fault.EditRefused.{EditRefused}
use Rattle.pq_core.specs.declared.values.fault.WithdrawFault.{WithdrawFault}
use Rattle.pq_core.specs.declared.values.label.Label.{Label}
use Rattle.pq_mail.specs.declared.post.Post.{Post}
use Rattle.pq_mail.specs.declared.post.Post.TheVariants.{Ask, Edit, Withdraw, End}
use Rattle.pq_hall.specs.declared.fault.HallFault.{HallFault}
use Rattle.pq_hall.specs.declared.posting.Moved.{Moved}
use Rattle.pq_hall.specs.declared.posting.Moved.TheVariants.{Ended}
use Rattle.pq_hall.specs.Steps.{Posts, asked, edited, log_posted, withdrew}

module _ {R K P V M : Type 0} (order : K → K → Ordering) (m : Machine K P V) (point : M → Point) (before after : StoreView R K P V M) (c : ℕ) where
  pub asked_goes : (request : Request K) (called : Result ℕ (AcceptRefused K)) → Goes order m point before after (Accepts told_puts c request called) → Goes order m point before after (Posts c (Ask request) (asked called))
  asked_goes request called moved = goes_as order m point before after (Accepts told_puts c request called) (Posts c (Ask request) (asked called)) (λ l n s w. (called, w, refl)) moved

  pub ended_goes : (post : Post K) → post ≡ End → Goes order m point before before (Posts c post (Ok Ended))
  ended_goes post e = goes_nowhere order m point before (Posts c post (Ok Ended)) (λ l. subst (λ (p : Post K). Posts c p (Ok Ended) l l) (sym e) (refl, refl))

  pub edited_goes : (change : ChangeView) (called : Result ℕ EditRefused) → Goes order m point before after (Edits c change called) → Goes order m point before after (Posts c (Edit change) (edited called))
  edited_goes change called moved = goes_as order m point before after (Edits c change called) (Posts c (Edit change) (edited called)) (λ l n s w. (called, w, refl)) moved

  pub withdrew_goes : (label : Label) (called : Result Bool WithdrawFault) → Goes order m point before after (Withdraws c label called) → Goes order m point before after (Posts c (Withdraw label) (withdrew called))
  withdrew_goes label called moved = goes_as order m point before after (Withdraws c label called) (Posts c (Withdraw label) (withdrew called)) (λ l n s w. (called, w, refl)) moved

  -- the same post
  pub posted_goes : (post other : Post K) (answer : Result (Moved K) HallFault) → post ≡ other → Goes order m point before after (Posts c other answer) → Goes order m point before after (Posts c post answer)
  posted_goes post other answer e moved = subst (λ (p : Post K). Goes order m point before after (Posts c p answer)) (sym e) moved

-- what the same post adds to a log
pub posted_counted : {R K P V M : Type 0} (order : K → K → Ordering) (m : Machine K P V) (before after : StoreView R K P V M) (c : ℕ) (post other : Post K) (answer : Result (Moved K) HallFault) (log : Log K)
    → post ≡ other → IsCountedIn order m after (log_posted before c other answer log) → IsCountedIn order m after (log_posted before c post answer log)
posted_counted {K = K} order m before after c post other answer log e x = subst (λ (p : Post K). IsCountedIn order m after (log_posted before c p answer log)) (sym e) x
