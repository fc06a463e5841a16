-- Calls of a store: none, one by another relation, and two of which the first leaves the ledger as it
-- was. Calls that lose no memo.
use Rattle.std.proofs.Common.{◌≡◌, ℕ, List, Option, refl, sym, subst, inl, inr}
use Rattle.std.specs.declared.cmp.Ordering.{Ordering}
use Rattle.pq_rules.specs.Turns.{Machine}
use Rattle.pq_memo.specs.Sound.{Memo}
use Rattle.pq_memo.specs.Table.{memo_at}
use Rattle.pq_memo.specs.Demand.{NoneLost}
use Rattle.pq_core.proofs.Calling.{open_of}
use Rattle.pq_core.proofs.AccountStanding.{stage_at}
use Rattle.pq_core.specs.Points.{Point}
use Rattle.pq_core.specs.Ledger.{Entry, Ledger}
use Rattle.pq_core.specs.RightReply.{answer_by}
use Rattle.pq_core.specs.Lanes.{ReadyView}
use Rattle.pq_core.specs.Told.{Told, told_puts, IsReadyAt}
use Rattle.pq_core.specs.Stores.{StoreView, held, fields_of, StandsFor, IsMadeIn, Makes, Goes, KeepsMemos}
use Rattle.pq_core.specs.declared.store.account.Stage.TheVariants.{Made}
use Rattle.pq_core.specs.aux.Accounts.{AccountStands}

module _ {R K P V M : Type 0} (order : K → K → Ordering) (m : Machine K P V) (point : M → Point) where
  -- a reply that is made and not collected is ready
  pub made_ready : (store : StoreView R K P V M) (l : Ledger K V M (Told K V M)) (c n : ℕ) (ready : ReadyView K V M) → StandsFor order m point store l → IsMadeIn store c n ready
      → (entry : Entry K V M) × IsReadyAt l c n entry ready.reply
  made_ready store l c n ready s made =
      let w = open_of (AccountStands told_puts) (answer_by order m point) told_puts (fields_of (held store)) l c made.account s made.here in
      let x = stage_at told_puts made.account w.0 n (Made ready) w.2 made.made in
      (x.entry, record { client = w.0; is_entry = record { client_here = w.1.here; here = x.here }; ready = x.stands.0 })

  makes_none : (store : StoreView R K P V M) (l : Ledger K V M (Told K V M)) → Makes store store l l
  makes_none store l = record {
    fresh = λ c n entry reply now none. absurd (none entry reply now);
    kept = λ c n entry reply ready now made. made;
    only = λ c n ready made. inl made;
  }

  makes_twice : (before via after : StoreView R K P V M) (l n : Ledger K V M (Told K V M)) → StandsFor order m point before l → Makes before via l l → Makes via after l n → Makes before after l n
  makes_twice before via after l n s first second = record {
    fresh = second.fresh;
    kept = λ c i entry reply ready now made.
        let was = made_ready before l c i ready s made in
        second.kept c i entry reply ready now (first.kept c i was.0 ready.reply ready was.1 made);
    only = λ c i ready now. elim (second.only c i ready now) [
      | inl made ↦ first.only c i ready made
      | inr none ↦ inr none
    ];
  }

  -- no call
  pub goes_nowhere : (store : StoreView R K P V M) (Move : Ledger K V M (Told K V M) → Ledger K V M (Told K V M) → Type 0)
      → ((l : Ledger K V M (Told K V M)) → Move l l) → Goes order m point store store Move
  goes_nowhere store Move same l s = (l, same l, s, makes_none store l)

  -- a call by another relation
  pub goes_as : (before after : StoreView R K P V M) (Move Other : Ledger K V M (Told K V M) → Ledger K V M (Told K V M) → Type 0)
      → ((l n : Ledger K V M (Told K V M)) → StandsFor order m point before l → Move l n → Other l n)
      → Goes order m point before after Move → Goes order m point before after Other
  goes_as before after Move Other f moved l s = let x = moved l s in (x.0, f l x.0 s x.1, x.2, x.3)

  -- two calls
  pub goes_twice : (before via after : StoreView R K P V M) (First Second Both : Ledger K V M (Told K V M) → Ledger K V M (Told K V M) → Type 0)
      → ((l n : Ledger K V M (Told K V M)) → First l n → n ≡ l)
      → ((l n : Ledger K V M (Told K V M)) → First l l → Second l n → Both l n)
      → Goes order m point before via First → Goes order m point via after Second → Goes order m point before after Both
  goes_twice before via after First Second Both stays both first second l s =
      let a = first l s in
      let e : a.0 ≡ l = stays l a.0 a.1 in
      let moved : First l l = subst (λ (x : Ledger K V M (Told K V M)). First l x) e a.1 in
      let stands : StandsFor order m point via l = subst (λ (x : Ledger K V M (Told K V M)). StandsFor order m point via x) e a.2 in
      let makes : Makes before via l l = subst (λ (x : Ledger K V M (Told K V M)). Makes before via l x) e a.3 in
      let b = second l stands in
      (b.0, both l b.0 moved b.1, b.2, makes_twice before via after l b.0 s makes b.3)

-- a call by the rules that a store has, which are `rules`
pub goes_ruled : {R K P V M : Type 0} (order : K → K → Ordering) (machine : R → Machine K P V) (point : M → Point) (own rules : R) (before after : StoreView R K P V M) (Move : Ledger K V M (Told K V M) → Ledger K V M (Told K V M) → Type 0)
    → own ≡ rules → Goes order (machine own) point before after Move → Goes order (machine rules) point before after Move
goes_ruled {R} order machine point own rules before after Move same moved =
    subst (λ (r : R). Goes order (machine r) point before after Move) same moved

-- no memo is lost by a call that changes no place
pub memos_stay : {R K P V M : Type 0} (order : K → K → Ordering) (before after : StoreView R K P V M) → after.places ≡ before.places → KeepsMemos order before after
memos_stay {R} {K} {P} {V} {M} order before after same =
    subst (λ (places : List (K × Option (Memo K V))). NoneLost (memo_at order before.places) (memo_at order places)) (sym same) (λ key old here. (old, here, λ equal. refl))

-- no memo is lost by a call, and then by one that changes no place
pub memos_through : {R K P V M : Type 0} (order : K → K → Ordering) (before via after : StoreView R K P V M) → after.places ≡ via.places → KeepsMemos order before via → KeepsMemos order before after
memos_through {R} {K} {P} {V} {M} order before via after same kept =
    subst (λ (places : List (K × Option (Memo K V))). NoneLost (memo_at order before.places) (memo_at order places)) (sym same) kept
