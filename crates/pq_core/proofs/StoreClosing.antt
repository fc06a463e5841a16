-- Clients that close, at what a store keeps.
use Rattle.std.proofs.Common.{◌≡◌, ℕ, ◌+◌, ◌≤◌, ◌==◌, if◌then◌else◌, true, false, List, Option, Some, None, refl, sym, ◌∙◌, ap, inl, inr, arith}
use Rattle.std.specs.Option.{option_map}
use Rattle.std.specs.declared.cmp.Ordering.{Ordering}
use Rattle.pq_rules.specs.Turns.{Machine}
use Rattle.pq_core.proofs.Lists.{same_or_other}
use Rattle.pq_core.proofs.Changing.{if_at, if_other}
use Rattle.pq_core.proofs.Standing.{count_closed}
use Rattle.pq_core.proofs.Calling.{SeatSet, open_of, none_open}
use Rattle.pq_core.proofs.Moving.{SameRuns}
use Rattle.pq_core.proofs.Ending.{close_stands}
use Rattle.pq_core.proofs.Keeping.{kept_closes}
use Rattle.pq_core.proofs.StoreOpening.{SameMaps, unmoved}
use Rattle.pq_core.specs.Points.{Point}
use Rattle.pq_core.specs.Replies.{ReplyView}
use Rattle.pq_core.specs.Ledger.{Ledger, with_client, closed}
use Rattle.pq_core.specs.RightReply.{answer_by}
use Rattle.pq_core.specs.Moves.{Reaches, Closes}
use Rattle.pq_core.specs.Told.{Shuts}
use Rattle.pq_core.specs.Accounts.{AccountView}
use Rattle.pq_core.specs.Stores.{Held, fields_of, run_seen, StandsOf}
use Rattle.pq_core.specs.declared.store.rising.Place.{Place}
use Rattle.pq_core.specs.aux.Rising.{found}
use Rattle.pq_core.specs.aux.Accounts.{AccountStands}

-- `SameButAccounts b a` is that `a` keeps what `b` keeps, but for accounts and the count of open clients
pub record SameButAccounts {K P V M : Type 0} (b a : Held K P V M) : Type 0 where
  pub inputs : a.inputs ≡ b.inputs
  pub clients : a.clients ≡ b.clients
  pub runs : a.runs ≡ b.runs
  pub started : a.started ≡ b.started

module _ {K P V M O : Type 0} (order : K → K → Ordering) (m : Machine K P V) (point : M → Point) (puts : O → List (ReplyView K V M)) where
  pub same_runs : (b a : Held K P V M) → SameButAccounts b a → SameRuns (fields_of b) (fields_of a)
  same_runs b a e = record {
    runs = λ r. ap (λ (x : List (Place _)). option_map run_seen (found x r)) e.runs;
    started = e.started;
  }

  pub same_maps : (b a : Held K P V M) → SameButAccounts b a → a.opened ≡ b.opened → ((k : ℕ) → found a.accounts k ≡ found b.accounts k) → SameMaps b a
  same_maps b a e count accounts = record {
    inputs = e.inputs;
    accounts = accounts;
    opened = count;
    clients = e.clients;
    runs = λ k. ap (λ (x : List (Place _)). found x k) e.runs;
    started = e.started;
  }

  pub account_set : (b a : Held K P V M) (c : ℕ) (account : Option (AccountView K V M)) → ((k : ℕ) → found a.accounts k ≡ (if k == c then account else found b.accounts k))
      → SeatSet (fields_of b) (fields_of a) c account
  account_set b a c account accounts = record {
    here = accounts c ∙ if_at c account (found b.accounts c);
    others = λ k ne. accounts k ∙ if_other k c account (found b.accounts k) ne;
  }

  -- a client that has an account is counted
  pub some_opened : (b : Held K P V M) (l : Ledger K V M O) (c : ℕ) (account : AccountView K V M) → StandsOf order m point puts b l → found b.accounts c ≡ Some account → 1 ≤ b.opened
  some_opened b l c account s h =
      let w = open_of (AccountStands puts) (answer_by order m point) puts (fields_of b) l c account s h in
      let less = count_closed l.clients c w.0 (closed w.0) w.1.here w.1.open_yet refl in
      let all = s.opened in
      omega arith

  -- a client is closed
  pub close_moved : (b a : Held K P V M) (c : ℕ) (account : AccountView K V M) (l : Ledger K V M O) → found b.accounts c ≡ Some account
      → ((k : ℕ) → found a.accounts k ≡ (if k == c then None else found b.accounts k))
      → SameButAccounts b a → a.opened + 1 ≡ b.opened → StandsOf order m point puts b l → Reaches (Shuts c true) l (StandsOf order m point puts a)
  close_moved b a c account l here accounts e count s =
      let w = open_of (AccountStands puts) (answer_by order m point) puts (fields_of b) l c account s here in
      let after : Ledger K V M O = with_client l c (closed w.0) in
      let move : Shuts c true l after = (w.0, w.1, refl) in
      let closes : Closes c (Some w.0.outbox) l after = (w.0, w.1, refl, refl) in (
        after,
        move,
        close_stands (AccountStands puts) (answer_by order m point) puts (fields_of b) (fields_of a) l after c w.0 s w.1 (account_set b a c None accounts)
            e.inputs count e.clients (same_runs b a e) refl
            (kept_closes (answer_by order m point) puts c (Some w.0.outbox) l after s.kept closes),
      )

  -- the client has no account
  pub close_none : (b a : Held K P V M) (c : ℕ) (l : Ledger K V M O) → found b.accounts c ≡ None
      → ((k : ℕ) → found a.accounts k ≡ (if k == c then None else found b.accounts k))
      → SameButAccounts b a → a.opened ≡ b.opened → StandsOf order m point puts b l → Reaches (Shuts c false) l (StandsOf order m point puts a)
  close_none b a c l none accounts e count s = (
    l,
    (λ client o. none_open (AccountStands puts) (answer_by order m point) puts (fields_of b) l c s none client o, refl),
    unmoved order m point puts b a l (same_maps b a e count (λ k. accounts k ∙ as_was k)) s,
  )
    where
      as_was : (k : ℕ) → (if k == c then None else found b.accounts k) ≡ found b.accounts k
      as_was k = elim (same_or_other k c) [
        | inl v ↦
            ap (λ (j : ℕ). if j == c then None else found b.accounts j) v ∙ (if_at c None (found b.accounts c) ∙ (sym none ∙ ap (λ (j : ℕ). found b.accounts j) (sym v)))
        | inr v ↦ if_other k c None (found b.accounts k) v
      ]
