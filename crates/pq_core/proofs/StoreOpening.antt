-- Opening clients, at what a store keeps.
use Rattle.std.proofs.Common.{◌≡◌, ℕ, ◌+◌, ◌<◌, ◌≤◌, ◌^◌, ◌⊎◌, ◌==◌, if◌then◌else◌, List, [], ◌∷◌, ◌++◌, length, slice_get, Some, None, refl, sym, ◌∙◌, ap, subst, inl, inr}
use Rattle.std.specs.Prelude.{Ok, Err}
use Rattle.std.specs.Option.{option_map}
use Rattle.std.specs.declared.cmp.Ordering.{Ordering}
use Rattle.pq_rules.specs.Turns.{Machine}
use Rattle.pq_core.proofs.Lists.{none_some}
use Rattle.pq_core.proofs.Changing.{if_at, if_other}
use Rattle.pq_core.proofs.Calling.{SameFields, stands_same}
use Rattle.pq_core.proofs.Moving.{open_stands}
use Rattle.pq_core.proofs.Keeping.{kept_opens}
use Rattle.pq_core.proofs.AccountStanding.{opened_stands}
use Rattle.pq_core.specs.Points.{Point}
use Rattle.pq_core.specs.Replies.{ReplyView}
use Rattle.pq_core.specs.Ledger.{Ledger, opened, unused}
use Rattle.pq_core.specs.RightReply.{answer_by}
use Rattle.pq_core.specs.Moves.{Reaches, Opens, OpenRefusal, open_count, max_clients}
use Rattle.pq_core.specs.Stores.{Held, fields_of, run_seen, StandsOf}
use Rattle.pq_core.specs.declared.store.rising.Place.{Place}
use Rattle.pq_core.specs.aux.Rising.{found}
use Rattle.pq_core.specs.Accounts.{no_requests}
use Rattle.pq_core.specs.Told.{Told, told_puts, OpensNext}
use Rattle.pq_core.specs.aux.Accounts.{AccountStands}
use Rattle.pq_core.specs.declared.values.fault.OpenFault.TheVariants.{TooManyClients, Memory as OpenMemory}

-- `SameMaps b a` is that `a` keeps of clients and runs what `b` keeps
pub record SameMaps {K P V M : Type 0} (b a : Held K P V M) : Type 0 where
  pub inputs : a.inputs ≡ b.inputs
  pub accounts : (k : ℕ) → found a.accounts k ≡ found b.accounts k
  pub opened : a.opened ≡ b.opened
  pub clients : a.clients ≡ b.clients
  pub runs : (k : ℕ) → found a.runs k ≡ found b.runs k
  pub started : a.started ≡ b.started

module _ {K P V M O : Type 0} (order : K → K → Ordering) (m : Machine K P V) (point : M → Point) (puts : O → List (ReplyView K V M)) where
  pub same_fields : (b a : Held K P V M) → SameMaps b a → SameFields (fields_of b) (fields_of a)
  same_fields b a e = record {
    counts = record { inputs = e.inputs; opened = e.opened; clients = e.clients };
    seats = e.accounts;
    runs = λ r. ap (option_map run_seen) (e.runs r);
    started = e.started;
  }

  -- what stays the same stands for the same
  pub unmoved : (b a : Held K P V M) (l : Ledger K V M O) → SameMaps b a → StandsOf order m point puts b l → StandsOf order m point puts a l
  unmoved b a l e s = stands_same (AccountStands puts) (answer_by order m point) puts (fields_of b) (fields_of a) l (same_fields b a e) s

-- opening, where the ledger is that of a store
module _ {K P V M : Type 0} (order : K → K → Ordering) (m : Machine K P V) (point : M → Point) where
  -- no room for a client
  pub open_refused : (b a : Held K P V M) (l : Ledger K V M (Told K V M)) → SameMaps b a → b.opened < 64 → StandsOf order m point told_puts b l
      → Reaches (OpensNext (Err OpenMemory)) l (StandsOf order m point told_puts a)
  open_refused b a l e few s = (l, (subst (λ (n : ℕ). n < max_clients) (sym s.opened) few, refl), unmoved order m point told_puts b a l e s)

  -- too many clients are open, or their numbers are used up
  pub open_full : (b : Held K P V M) (l : Ledger K V M (Told K V M)) → (64 ≤ b.opened) ⊎ (2 ^ 64 ≤ b.clients + 1) → StandsOf order m point told_puts b l
      → OpenRefusal l TooManyClients
  open_full b l why s = elim why [
    | inl many ↦ inl (subst (λ (n : ℕ). max_clients ≤ n) (sym s.opened) many)
    | inr used ↦ inr (subst (λ (n : ℕ). 2 ^ 64 ≤ n + 1) (sym s.clients) used)
  ]

  pub open_many : (b : Held K P V M) (l : Ledger K V M (Told K V M)) → (64 ≤ b.opened) ⊎ (2 ^ 64 ≤ b.clients + 1) → StandsOf order m point told_puts b l
      → Reaches (OpensNext (Err TooManyClients)) l (StandsOf order m point told_puts b)
  open_many b l why s = (l, (open_full b l why s, refl), s)

  -- a client is opened
  pub open_moved : (b a : Held K P V M) (l : Ledger K V M (Told K V M))
      → ((k : ℕ) → found a.accounts k ≡ (if k == b.clients then Some no_requests else found b.accounts k))
      → a.inputs ≡ b.inputs → a.opened ≡ b.opened + 1 → a.clients ≡ b.clients + 1 → a.runs ≡ b.runs → a.started ≡ b.started
      → b.opened < 64 → StandsOf order m point told_puts b l
      → Reaches (OpensNext (Ok b.clients)) l (StandsOf order m point told_puts a)
  open_moved b a l accounts inputs count clients runs started few s =
      let after : Ledger K V M (Told K V M) = record { inputs = l.inputs; clients = l.clients ++ opened [] ∷ []; runs = l.runs } in
      let move : OpensNext (Ok b.clients) l after = (sym s.clients, subst (λ (n : ℕ). n < max_clients) (sym s.opened) few, refl) in
      let opens : Opens [] (Ok b.clients) l after = move in (
        after,
        move,
        open_stands (AccountStands told_puts) (answer_by order m point) told_puts (fields_of b) (fields_of a) l after no_requests [] s
            (record {
              here = accounts b.clients ∙ if_at b.clients (Some no_requests) (found b.accounts b.clients);
              others = λ k ne. accounts k ∙ if_other k b.clients (Some no_requests) (found b.accounts k) ne;
            })
            (record { runs = λ r. ap (λ (x : List (Place _)). option_map run_seen (found x r)) runs; started = started })
            inputs count clients (opened_stands told_puts [] refl) refl
            (kept_opens (answer_by order m point) told_puts [] (Ok b.clients) l after refl s.kept opens),
      )

-- a store that was just made stands for the ledger without clients
pub new_stands : {K P V M O : Type 0} (order : K → K → Ordering) (m : Machine K P V) (point : M → Point) (puts : O → List (ReplyView K V M)) (b : Held K P V M)
    → length b.inputs.history ≡ b.inputs.revision + 1 → slice_get b.inputs.history b.inputs.revision ≡ Some b.inputs.files
    → ((k : ℕ) → found b.accounts k ≡ None) → ((k : ℕ) → found b.runs k ≡ None) → b.opened ≡ 0 → b.clients ≡ 0 → b.started ≡ 0
    → StandsOf order m point puts b (unused b.inputs)
unfolding open_count
new_stands order m point puts b counted latest accounts runs count clients started = record {
  inputs = refl;
  clients = sym clients;
  opened = sym count;
  started = sym started;
  within = λ c account h. absurd (none_some account (sym (accounts c) ∙ h));
  each = λ c client h. absurd (none_some client h);
  runs = λ r run h. absurd (none_some run (ap (option_map run_seen) (sym (runs r)) ∙ h));
  kept = record { inputs = record { counted = counted; latest = latest }; clients = λ c client h. absurd (none_some client h) };
}
