-- The requests of a client are withdrawn, one after the other.
use Rattle.std.proofs.Common.{◌≡◌, ◌≢◌, ℕ, zero, suc, ◌+◌, ◌<◌, ◌≤◌, ◌⊎◌, Bool, true, false, List, [], ◌∷◌, length, slice_get, slice_set, Some, refl, sym, ◌∙◌, ap, subst, inl, inr, arith}
use Rattle.std.specs.Prelude.{Ok, Err}
use Rattle.std.specs.declared.cmp.Ordering.{Ordering}
use Rattle.pq_rules.specs.Turns.{Machine}
use Rattle.pq_core.specs.Points.{Point}
use Rattle.pq_core.specs.Replies.{ReplyView}
use Rattle.pq_core.specs.Ledger.{Entry, Client, Ledger, IsOpen, with_client, with_entry, with_entries}
use Rattle.pq_core.specs.RightReply.{answer_by}
use Rattle.pq_core.specs.Moves.{Reaches, MayWithdraw, TellsSome, Withdraws, withdrawn}
use Rattle.pq_core.specs.Accounts.{AccountView, next_of}
use Rattle.pq_core.specs.Stores.{Goes, Held, StandsFor, StandsOf, StoreView, fields_of, held}
use Rattle.pq_core.specs.Told.{Told, told_puts}
use Rattle.pq_core.specs.aux.Accounts.{AccountStands}
use Rattle.pq_core.specs.aux.Advancing.{AllGoOn}
use Rattle.pq_core.specs.aux.Rising.{found}
use Rattle.pq_core.specs.aux.Runs.{RunView}
use Rattle.pq_core.specs.aux.Withdrawing.{MayNotWithdraw, TellsBelow, WithdrawsBelow, WithdrawsOne, WithdrawsRuns}
use Rattle.pq_core.specs.declared.values.fault.WithdrawFault.{WithdrawFault}
use Rattle.pq_core.specs.declared.values.fault.WithdrawFault.TheVariants.{NoClient, Closed}
use Rattle.pq_core.specs.declared.values.label.Label.{Label}
use Rattle.pq_core.specs.declared.store.rising.Place.{Place as Slot}
use Rattle.pq_core.proofs.AccountMoves.{before_or_not}
use Rattle.pq_core.proofs.Calling.{closed_of, open_of}
use Rattle.pq_core.proofs.Lists.{get_set, get_there, get_within, set_long, set_same, set_twice, some_one}
use Rattle.pq_core.proofs.Making.{all_same, go_on_all, go_on_same, go_on_twice, goes_by}
use Rattle.pq_core.proofs.WithdrawOne.{owed_placed}

-- what stands at a place already
set_there : {A : Type 0} (xs : List A) (i : ℕ) (x : A) → slice_get xs i ≡ Some x → slice_set xs i x ≡ xs
set_there [] i x h = refl
set_there (y ∷ xs) zero x h = ap (λ (z : _). z ∷ xs) (sym (some_one y x h))
set_there (y ∷ xs) (suc i) x h = ap (λ (ys : List _). y ∷ ys) (set_there xs i x h)

-- a number below the next is below this one, or it
below_next : (n k : ℕ) → n < k + 1 → (n ≡ k) ⊎ (n < k)
below_next n k h = elim (before_or_not n k) [ inl less ↦ inr less | inr past ↦ inl (omega arith) ]

past_or_here : (n k : ℕ) → k ≤ n → (n ≡ k) ⊎ (k + 1 ≤ n)
past_or_here n k h = elim (before_or_not k n) [ inl less ↦ inr (omega arith) | inr past ↦ inl (omega arith) ]

module _ {K V M O : Type 0} (c : ℕ) (label : Label) where
  -- ---- the first

  -- the requests below the first that is not put
  pub withdraws_none : (l : Ledger K V M O) (client : Client K V M O) (k : ℕ) → IsOpen l c client → ((n : ℕ) (entry : Entry K V M) → n < k → slice_get client.entries n ≡ Some entry → MayWithdraw label entry → ⊥)
      → WithdrawsBelow c label k false l l
  withdraws_none l client k is_open none = record {
    client = client;
    open_yet = is_open;
    tells = none;
    after = client.entries;
    long = refl;
    each = λ n x y h g. (
        let same : y ≡ x = some_one y x (sym g ∙ h) in
        elim (before_or_not n k) [
          | inl less ↦ inl (less, inr (none n x less h, same))
          | inr past ↦ inr (past, same)
        ]);
    is = ap (λ (xs : List (Client K V M O)). record { inputs = l.inputs; clients = xs; runs = l.runs }) (sym (set_there l.clients c client is_open.here));
  }

  -- ---- one more

  module _ (l m next : Ledger K V M O) (k : ℕ) (some : Bool) (w : WithdrawsBelow c label k some l m) where
    -- the client between
    between : (client : Client K V M O) → IsOpen m c client → client ≡ with_entries w.client w.after
    between client is_open =
        some_one client (with_entries w.client w.after)
        (sym is_open.here
        ∙ (ap (λ (y : Ledger K V M O). slice_get y.clients c) w.is
        ∙ set_same l.clients c (with_entries w.client w.after) (get_within l.clients c w.client w.open_yet.here)))

    -- the request `k` is as it was
    unchanged : (x y : Entry K V M) → slice_get w.client.entries k ≡ Some x → slice_get w.after k ≡ Some y → y ≡ x
    unchanged x y h g = elim (w.each k x y h g) [ inl z ↦ (let less : k < k = z.0 in absurd (omega arith)) | inr z ↦ z.1 ]

    -- it may not be withdrawn
    pub withdraws_other : WithdrawsOne c k label false m next → WithdrawsBelow c label (k + 1) some l next
    withdraws_other o = record {
      client = w.client;
      open_yet = w.open_yet;
      tells = tells_on some w.tells;
      after = w.after;
      long = w.long;
      each = λ n x y h g. elim (w.each n x y h g) [
        | inl z ↦ (let less : n < k = z.0 in inl (omega arith, z.1))
        | inr z ↦ elim (past_or_here n k z.0) [
          | inl e ↦
              inl (omega arith, inr (λ may. not_here y (ap (λ (i : ℕ). slice_get w.after i) (sym e) ∙ g) (subst (λ (e2 : Entry K V M). MayWithdraw label e2) (sym z.1) may), z.1))
          | inr past ↦ inr (past, z.1)
        ]
      ];
      is = o.3 ∙ w.is;
    }
      where
        not_here : (y : Entry K V M) → slice_get w.after k ≡ Some y → MayWithdraw label y → ⊥
        not_here y g may = o.2 y (ap (λ (z : Client K V M O). slice_get z.entries k) (between o.0 o.1) ∙ g) may

        none_here : (n : ℕ) (entry : Entry K V M) → n ≡ k → slice_get w.client.entries n ≡ Some entry → MayWithdraw label entry → ⊥
        none_here n entry e h may =
            let here = ap (λ (i : ℕ). slice_get w.client.entries i) (sym e) ∙ h in
            let within = get_within w.client.entries k entry here in
            let long = w.long in
            let y = get_there w.after k (omega arith) in
            not_here y.0 y.1 (subst (λ (e2 : Entry K V M). MayWithdraw label e2) (sym (unchanged entry y.0 here y.1)) may)

        tells_on : (answer : Bool) → TellsBelow answer label k w.client.entries → TellsBelow answer label (k + 1) w.client.entries
        tells_on true t = (t.0, t.1, (let less : t.0 < k = t.2 in omega arith), t.3, t.4)
        tells_on false t = λ n entry less h may. elim (below_next n k less) [ inl e ↦ none_here n entry e h may | inr low ↦ t n entry low h may ]

    -- it is withdrawn
    pub withdraws_next : WithdrawsOne c k label true m next → WithdrawsBelow c label (k + 1) true l next
    withdraws_next o = record {
      client = w.client;
      open_yet = w.open_yet;
      tells = (k, was.0, (omega arith), was.1, may);
      after = slice_set w.after k new;
      long = set_long w.after k new ∙ w.long;
      each = λ n x y h g. elim (get_set w.after k new n y g) [
        | inl z ↦
            let e : n ≡ k = z.0 in
            let x_is : x ≡ was.0 = some_one x was.0 (sym h ∙ (ap (λ (i : ℕ). slice_get w.client.entries i) e ∙ was.1)) in
            inl (
              omega arith,
              inl (
                subst (λ (e2 : Entry K V M). MayWithdraw label e2) (sym x_is) may,
                z.1 ∙ (ap (λ (e2 : Entry K V M). withdrawn l c k e2) (entry_is ∙ sym x_is) ∙ ap (λ (i : ℕ). withdrawn l c i x) (sym e)),
              ),
            )
        | inr z ↦ elim (w.each n x y h z.1) [
          | inl v ↦ (let less : n < k = v.0 in inl (omega arith, v.1))
          | inr v ↦ (let past : k ≤ n = v.0 in let ne : n ≢ k = z.0 in inr (omega arith, v.1))
        ]
      ];
      is = o.2.3 ∙ next_is o.0 o.2.0 (between o.0 o.1);
    }
      where
        new : Entry K V M
        new = withdrawn l c k o.2.0

        here : slice_get w.after k ≡ Some o.2.0
        here = ap (λ (z : Client K V M O). slice_get z.entries k) (sym (between o.0 o.1)) ∙ o.2.1

        was : (x : Entry K V M) × (slice_get w.client.entries k ≡ Some x)
        was = get_there w.client.entries k (subst (λ (i : ℕ). k < i) w.long (get_within w.after k o.2.0 here))

        entry_is : o.2.0 ≡ was.0
        entry_is = unchanged was.0 o.2.0 was.1 here

        may : MayWithdraw label was.0
        may = subst (λ (e2 : Entry K V M). MayWithdraw label e2) entry_is o.2.2

        next_is : (client : Client K V M O) (entry : Entry K V M) → client ≡ with_entries w.client w.after
            → with_client m c (with_entry client k (withdrawn m c k entry)) ≡ with_client l c (with_entries w.client (slice_set w.after k (withdrawn l c k entry)))
        next_is client entry e =
            ap (λ (z : Client K V M O). with_client m c (with_entry z k (withdrawn m c k entry))) e
            ∙ (ap (λ (y : Ledger K V M O). with_client y c (with_entry (with_entries w.client w.after) k (withdrawn y c k entry))) w.is
            ∙ ap (λ (xs : List (Client K V M O)). record { inputs = l.inputs; clients = xs; runs = l.runs })
            (set_twice l.clients c (with_entries w.client w.after) (with_entries w.client (slice_set w.after k (withdrawn l c k entry)))))

  -- ---- all

  pub withdraws_all : (l m : Ledger K V M O) (k : ℕ) (some : Bool) (client : Client K V M O) → IsOpen l c client → length client.entries ≤ k → WithdrawsBelow c label k some l m → Withdraws c label (Ok some) l m
  withdraws_all l m k some client is_open e w = (
    w.client,
    w.open_yet,
    tells_all some w.tells,
    (
      w.after,
      record {
        long = w.long;
        each = λ n x y h g. elim (w.each n x y h g) [
          | inl z ↦ z.1
          | inr z ↦ (let within = all_below n x h in let past : k ≤ n = z.0 in absurd (omega arith))
        ];
      },
      w.is,
    ),
  )
    where
      client_is : w.client ≡ client
      client_is = some_one w.client client (sym w.open_yet.here ∙ is_open.here)

      all_below : (n : ℕ) (entry : Entry K V M) → slice_get w.client.entries n ≡ Some entry → n < k
      all_below n entry h =
          let within = get_within w.client.entries n entry h in
          let long : length w.client.entries ≤ k = subst (λ (z : Client K V M O). length z.entries ≤ k) (sym client_is) e in
          omega arith

      tells_all : (answer : Bool) → TellsBelow answer label k w.client.entries → TellsSome answer label w.client.entries
      tells_all true t = (t.0, t.1, t.3, t.4)
      tells_all false t = λ h. t h.0 h.1 (all_below h.0 h.1 h.2) h.2 h.3

-- ---- at what a store keeps

module _ {K P V M O : Type 0} (order : K → K → Ordering) (m : Machine K P V) (point : M → Point) (puts : O → List (ReplyView K V M)) where
  -- at first
  pub withdraw_first : (b : Held K P V M) (l : Ledger K V M O) (c : ℕ) (account : AccountView K V M) (label : Label) (k : ℕ) → StandsOf order m point puts b l → found b.accounts c ≡ Some account → k ≡ account.seen
      → WithdrawsBelow c label k false l l
  withdraw_first b l c account label k s here e =
      withdraws_none c label l w.0 k w.1
      (λ n entry less h may. (
      let past : length (puts w.0.outbox) ≤ n = (owed_placed (answer_by order m point) l.inputs (puts w.0.outbox) c n entry entry.place ((s.kept.clients c w.0 w.1.here).each n entry h).placed may.owed).0 in
      let seen : account.seen ≡ length (puts w.0.outbox) = w.2.seen in
      absurd (omega arith)))
    where
      w : (client : Client K V M O) × IsOpen l c client × AccountStands puts account client
      w = open_of (AccountStands puts) (answer_by order m point) puts (fields_of b) l c account s here

  -- at last
  pub withdraw_last : (b : Held K P V M) (l next : Ledger K V M O) (c : ℕ) (account : AccountView K V M) (label : Label) (k : ℕ) (some : Bool) → StandsOf order m point puts b l → found b.accounts c ≡ Some account
      → next_of account ≤ k → WithdrawsBelow c label k some l next → Withdraws c label (Ok some) l next
  withdraw_last b l next c account label k some s here e x =
      let w = open_of (AccountStands puts) (answer_by order m point) puts (fields_of b) l c account s here in
      withdraws_all c label l next k some w.0 w.1 (subst (λ (n : ℕ). n ≤ k) (sym w.2.counted) e) x

  -- the client may not withdraw a request
  pub withdraw_refused : (b : Held K P V M) (l : Ledger K V M O) (c : ℕ) (label : Label) (fault : WithdrawFault) → StandsOf order m point puts b l → MayNotWithdraw b c fault → Withdraws c label (Err fault) l l
  withdraw_refused b l c label NoClient s may_not = (subst (λ (n : ℕ). n ≤ c) (sym s.clients) may_not, refl)
  withdraw_refused b l c label Closed s may_not = (closed_of (AccountStands puts) (answer_by order m point) puts (fields_of b) l c s may_not.1 may_not.0, refl)

module _ {K P : Type 0} where
  -- the runs that were over, and one more
  pub over_twice : (before via after : List (Slot (RunView K P))) (c : ℕ) (label : Label) → WithdrawsRuns c label before via → WithdrawsRuns c label via after → WithdrawsRuns c label before after
  over_twice before via after c label f g r = elim (g r) [
    | inl same ↦ elim (f r) [
      | inl old ↦ inl (same ∙ old)
      | inr over ↦ inr (same ∙ over.0, over.1)
    ]
    | inr over ↦ elim (f r) [
      | inl old ↦ inr (over.0, λ run h. over.1 run (old ∙ h))
      | inr earlier ↦ inr (over.0, earlier.1)
    ]
  ]

-- the account of a client that is named in two ways
pub open_at : {K V M : Type 0} (accounts : List (Slot (AccountView K V M))) (a b : ℕ) → a ≡ b → (account : AccountView K V M) × (found accounts a ≡ Some account)
    → (account : AccountView K V M) × (found accounts b ≡ Some account)
open_at accounts a b e h = (h.0, ap (λ (i : ℕ). found accounts i) (sym e) ∙ h.1)

-- ---- the calls of a store, one after the other

-- `WithdrewBelow order machine point c label k some old now` is that `now` is what `old` is after
-- the client `c` withdrew its requests below `k` with the label `label`, and that `some` is whether
-- there was one
pub record WithdrewBelow {R K P V M : Type 0} (order : K → K → Ordering) (machine : R → Machine K P V) (point : M → Point) (c : ℕ) (label : Label) (k : ℕ) (some : Bool)
    (old now : StoreView R K P V M) : Type 0 where
  pub rules : now.rules ≡ old.rules
  pub inputs : now.inputs ≡ old.inputs
  pub places : now.places ≡ old.places
  pub goes_on : AllGoOn old.accounts.items now.accounts.items
  pub over : WithdrawsRuns c label old.runs.items now.runs.items
  pub stands : (l : Ledger K V M (Told K V M)) → StandsFor order (machine old.rules) point old l → Reaches (WithdrawsBelow c label k some) l (StandsFor order (machine old.rules) point now)

-- `WithdrewOne order machine point c label k answer now next` is that `next` is what `now` is after
-- the client `c` withdrew its request `k`, if it has the label `label` and may be withdrawn, which
-- `answer` says
pub record WithdrewOne {R K P V M : Type 0} (order : K → K → Ordering) (machine : R → Machine K P V) (point : M → Point) (c : ℕ) (label : Label) (k : ℕ) (answer : Bool)
    (now next : StoreView R K P V M) : Type 0 where
  pub rules : next.rules ≡ now.rules
  pub inputs : next.inputs ≡ now.inputs
  pub places : next.places ≡ now.places
  pub goes_on : AllGoOn now.accounts.items next.accounts.items
  pub over : WithdrawsRuns c label now.runs.items next.runs.items
  pub one : (l : Ledger K V M (Told K V M)) → StandsFor order (machine now.rules) point now l → Reaches (WithdrawsOne c k label answer) l (StandsFor order (machine now.rules) point next)

-- `next_some answer some` is whether there was one request to withdraw, or there is now
abbrev pub next_some : Bool → Bool → Bool
next_some true some = true
next_some false some = some

module _ {R K P V M : Type 0} (order : K → K → Ordering) (machine : R → Machine K P V) (point : M → Point) (c : ℕ) (label : Label) where
  -- the client has an account
  pub withdrew_first : (old : StoreView R K P V M) (account : AccountView K V M) (k : ℕ) → found old.accounts.items c ≡ Some account → k ≡ account.seen
      → WithdrewBelow order machine point c label k false old old
  withdrew_first old account k here e = record {
    rules = refl;
    inputs = refl;
    places = refl;
    goes_on = go_on_same _ _ (λ n. refl);
    over = λ r. inl refl;
    stands = λ l s. (l, withdraw_first order (machine old.rules) point told_puts (held old) l c account label k s here e, s);
  }

  -- it still has
  pub withdrew_open : (old now : StoreView R K P V M) (account : AccountView K V M) (k : ℕ) (some : Bool) → found old.accounts.items c ≡ Some account → WithdrewBelow order machine point c label k some old now
      → (after : AccountView K V M) × (found now.accounts.items c ≡ Some after)
  withdrew_open old now account k some here w = let x = w.goes_on.each c account here in (x.0, x.1)

  module _ (old now next : StoreView R K P V M) (k : ℕ) (some : Bool) (w : WithdrewBelow order machine point c label k some old now) where
    below_more : (answer : Bool) (l m n : Ledger K V M (Told K V M)) → WithdrawsBelow c label k some l m → WithdrawsOne c k label answer m n → WithdrawsBelow c label (k + 1) (next_some answer some) l n
    below_more true l m n x y = withdraws_next c label l m n k some x y
    below_more false l m n x y = withdraws_other c label l m n k some x y

    -- one more request
    pub withdrew_more : (answer : Bool) → WithdrewOne order machine point c label k answer now next → WithdrewBelow order machine point c label (k + 1) (next_some answer some) old next
    withdrew_more answer o = record {
      rules = o.rules ∙ w.rules;
      inputs = o.inputs ∙ w.inputs;
      places = o.places ∙ w.places;
      goes_on = go_on_twice _ _ _ w.goes_on o.goes_on;
      over = over_twice _ _ _ c label w.over o.over;
      stands = λ l s.
          let x = w.stands l s in
          let y = o.one x.0 (subst (λ (r : R). StandsFor order (machine r) point now x.0) (sym w.rules) x.2) in
          (y.0, below_more answer l x.0 y.0 x.1 y.1, subst (λ (r : R). StandsFor order (machine r) point next y.0) w.rules y.2);
    }

  -- all requests
  pub withdrew_all : (old now : StoreView R K P V M) (account : AccountView K V M) (k : ℕ) (some : Bool) → found old.accounts.items c ≡ Some account → next_of account ≤ k
      → WithdrewBelow order machine point c label k some old now → Goes order (machine old.rules) point old now (Withdraws c label (Ok some))
  withdrew_all old now account k some here e w =
      goes_by order (machine old.rules) point old now (Withdraws c label (Ok some)) (go_on_all _ _ w.goes_on)
      (λ l s. let x = w.stands l s in (x.0, withdraw_last order (machine old.rules) point told_puts (held old) l x.0 c account label k some s here e x.1, x.2))

  -- the withdrawal is refused
  pub withdrew_none : (old : StoreView R K P V M) (fault : WithdrawFault) → MayNotWithdraw (held old) c fault → Goes order (machine old.rules) point old old (Withdraws c label (Err fault))
  withdrew_none old fault may_not =
      goes_by order (machine old.rules) point old old (Withdraws c label (Err fault)) (all_same _ _ (λ n. refl))
      (λ l s. (l, withdraw_refused order (machine old.rules) point told_puts (held old) l c label fault s may_not, s))
