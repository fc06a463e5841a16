-- What a call makes: each reply that became ready is made, and nothing else is.
--
-- It follows from what the store stands for before and after, and from how the stages of requests
-- go on (`Advances`).
use Rattle.std.proofs.Common.{◌≡◌, ℕ, ◌==◌, if◌then◌else◌, ◌⊎◌, Bool, true, false, List, Option, Some, None, refl, sym, ◌∙◌, ap, subst, inl, inr, arith}
use Rattle.std.specs.declared.cmp.Ordering.{Ordering}
use Rattle.pq_rules.specs.Turns.{Machine}
use Rattle.pq_core.proofs.Lists.{some_one, none_some, same_or_other}
use Rattle.pq_core.proofs.Changing.{if_at, if_other}
use Rattle.pq_core.proofs.Calling.{open_of}
use Rattle.pq_core.proofs.AccountMoves.{one_stage, stage_within, was_at, was_before, other_at, longer_at}
use Rattle.pq_core.proofs.AccountStanding.{stage_at, ready_there}
use Rattle.pq_core.specs.Points.{Point}
use Rattle.pq_core.specs.Replies.{ReplyView}
use Rattle.pq_core.specs.Ledger.{Entry, Ledger}
use Rattle.pq_core.specs.Ledger.{Ready as PlaceReady, Place}
use Rattle.pq_core.specs.RightReply.{answer_by}
use Rattle.pq_core.specs.Lanes.{ReadyView}
use Rattle.pq_core.specs.Accounts.{AccountView, no_requests, IsStage, with_stage, with_request, first_stage}
use Rattle.pq_core.specs.Told.{Told, told_puts, IsReadyAt, NoneReadyAt}
use Rattle.pq_core.specs.Moves.{Reaches}
use Rattle.pq_core.specs.Stores.{StoreView, Held, held, fields_of, StandsOf, StandsFor, IsMadeIn, Makes, Goes}
use Rattle.pq_core.specs.declared.values.request.Request.{Request}
use Rattle.pq_core.specs.declared.values.request.Want.{Want}
use Rattle.pq_core.specs.declared.values.request.Want.TheVariants.{Demand, Fixed}
use Rattle.pq_core.specs.declared.store.account.Stage.{Stage}
use Rattle.pq_core.specs.declared.store.account.Stage.TheVariants.{Waiting, Running, Made, Collected}
use Rattle.pq_core.specs.declared.store.rising.Place.{Place as Slot}
use Rattle.pq_core.specs.aux.Rising.{found}
use Rattle.pq_core.specs.aux.Accounts.{StageStands, AccountStands}
use Rattle.pq_core.specs.aux.Stands.{IsOwedNothing}
use Rattle.pq_core.specs.aux.Advancing.{NotReady, NotCollected, Advances, AllAdvance, AllGoOn}

-- ---- how stages go on

pub first_not_collected : {K : Type 0} (V M : Type 0) (c n : ℕ) (request : Request K) (revision : ℕ) (want : Want K) → NotCollected (first_stage {V = V} {M = M} c n request revision want)
first_not_collected V M c n request revision (Demand key) = tt
first_not_collected V M c n request revision (Fixed text) = tt

module _ {K V M : Type 0} where
  pub advances_same : (a : AccountView K V M) → Advances a a
  advances_same a = record { made = λ n ready h. h; collected = λ n h. h; stays = λ n h. h; fresh = λ n ready h. inl h }

  -- a request is added
  pub advances_longer : (a : AccountView K V M) (t : Stage K (ReadyView K V M)) → NotCollected t → Advances a (with_request a t)
  advances_longer a t not = record {
    made = λ n ready h. longer_at a n (Made ready) t h;
    collected = λ n h. elim (was_before a n Collected t h) [
      | inl w ↦ absurd (subst (λ (s : Stage K (ReadyView K V M)). NotCollected s) (sym w.1) not)
      | inr w ↦ w
    ];
    stays = λ n h. longer_at a n Collected t h;
    fresh = λ n ready h. elim (was_before a n (Made ready) t h) [
      | inl w ↦ inr (λ stage g. let lt = stage_within a n stage g in let e = w.0 in absurd (omega arith))
      | inr w ↦ inl w
    ];
  }

  -- a request whose reply was not made goes on
  pub advances_staged : (a : AccountView K V M) (n : ℕ) (s t : Stage K (ReadyView K V M)) → IsStage a n s → NotReady s → NotCollected t → Advances a (with_stage a n t)
  advances_staged a n s t at not_ready not = record {
    made = λ k ready h. other_at a n k (Made ready) t at.past (λ e. absurd (unready k ready e h)) h;
    collected = λ k h. elim (was_at a n k Collected t at.past h) [
      | inl w ↦ absurd (subst (λ (x : Stage K (ReadyView K V M)). NotCollected x) (sym w.1) not)
      | inr w ↦ w.1
    ];
    stays = λ k h. other_at a n k Collected t at.past (λ e. absurd (uncollected k e h)) h;
    fresh = λ k ready h. elim (was_at a n k (Made ready) t at.past h) [
      | inl w ↦ inr (λ stage g. subst (λ (x : Stage K (ReadyView K V M)). NotReady x) (sym (one_stage a n stage s (subst (λ (i : ℕ). IsStage a i stage) w.0 g) at)) not_ready)
      | inr w ↦ inl w.1
    ];
  }
    where
      unready : (k : ℕ) (ready : ReadyView K V M) → k ≡ n → IsStage a k (Made ready) → ⊥
      unready k ready e h =
          subst (λ (x : Stage K (ReadyView K V M)). NotReady x) (one_stage a n s (Made ready) at (subst (λ (i : ℕ). IsStage a i (Made ready)) e h)) not_ready

      uncollected : (k : ℕ) → k ≡ n → IsStage a k Collected → ⊥
      uncollected k e h =
          subst (λ (x : Stage K (ReadyView K V M)). NotReady x) (one_stage a n s Collected at (subst (λ (i : ℕ). IsStage a i Collected) e h)) not_ready

  advances_as : (a x b y : AccountView K V M) → a ≡ x → b ≡ y → Advances a b → Advances x y
  advances_as a x b y e f h = subst (λ (z : AccountView K V M). Advances x z) f (subst (λ (z : AccountView K V M). Advances z b) e h)

  -- one call after the other
  pub advances_twice : (a b c : AccountView K V M) → Advances a b → Advances b c → Advances a c
  advances_twice a b c f g = record {
    made = λ n ready h. g.made n ready (f.made n ready h);
    collected = λ n h. f.collected n (g.collected n h);
    stays = λ n h. g.stays n (f.stays n h);
    fresh = λ n ready h. elim (g.fresh n ready h) [
      | inl w ↦ f.fresh n ready w
      | inr none ↦ inr (λ stage at. before n none stage at)
    ];
  }
    where
      before : (n : ℕ) → ((stage : Stage K (ReadyView K V M)) → IsStage b n stage → NotReady stage) → (stage : Stage K (ReadyView K V M)) → IsStage a n stage → NotReady stage
      before n none (Waiting request accepted) at = tt
      before n none (Running begun) at = tt
      before n none (Made ready) at = none (Made ready) (f.made n ready at)
      before n none Collected at = none Collected (f.stays n at)

  pub go_on_same : (b a : List (Slot (AccountView K V M))) → ((k : ℕ) → found a k ≡ found b k) → AllGoOn b a
  go_on_same b a same = record { each = λ c x h. (x, same c ∙ h, advances_same x); none = λ c h. same c ∙ h }

  pub go_on_twice : (a b c : List (Slot (AccountView K V M))) → AllGoOn a b → AllGoOn b c → AllGoOn a c
  go_on_twice a b c f g = record {
    each = λ k x h. (let y = f.each k x h in let z = g.each k y.0 y.1 in (z.0, z.1, advances_twice x y.0 z.0 y.2 z.2));
    none = λ k h. g.none k (f.none k h);
  }

  pub go_on_all : (b a : List (Slot (AccountView K V M))) → AllGoOn b a → AllAdvance b a
  go_on_all b a f = record {
    each = λ c x y h g. (let z = f.each c x h in advances_as x x z.0 y refl (some_one z.0 y (sym z.1 ∙ g)) z.2);
    opened = λ c y none h n stage at. absurd (none_some y (sym (f.none c none) ∙ h));
  }

  -- the account of one client goes on
  pub go_on_set : (b a : List (Slot (AccountView K V M))) (c : ℕ) (account after : AccountView K V M) → found b c ≡ Some account
      → ((k : ℕ) → found a k ≡ (if k == c then Some after else found b k)) → Advances account after → AllGoOn b a
  go_on_set b a c account after here set goes = record {
    each = λ k x h. elim (same_or_other k c) [
      | inl is ↦ (
        after,
        ap (found a) is ∙ (set c ∙ if_at c (Some after) (found b c)),
        advances_as account x after after (some_one account x (sym here ∙ (ap (found b) (sym is) ∙ h))) refl goes,
      )
      | inr ne ↦ (x, set k ∙ (if_other k c (Some after) (found b k) ne ∙ h), advances_same x)
    ];
    none = λ k h. elim (same_or_other k c) [
      | inl is ↦ absurd (none_some account (sym h ∙ (ap (found b) is ∙ here)))
      | inr ne ↦ set k ∙ (if_other k c (Some after) (found b k) ne ∙ h)
    ];
  }

  -- the accounts stay as they are
  pub all_same : (b a : List (Slot (AccountView K V M))) → ((k : ℕ) → found a k ≡ found b k) → AllAdvance b a
  all_same b a same = record {
    each = λ c x y h g. advances_as x x x y refl (some_one x y (sym h ∙ (sym (same c) ∙ g))) (advances_same x);
    opened = λ c y none h n stage at. absurd (none_some y (sym none ∙ (sym (same c) ∙ h)));
  }

  -- the account of one client goes on
  pub all_set : (b a : List (Slot (AccountView K V M))) (c : ℕ) (account after : AccountView K V M) → found b c ≡ Some account
      → ((k : ℕ) → found a k ≡ (if k == c then Some after else found b k)) → Advances account after → AllAdvance b a
  all_set b a c account after here set goes = record {
    each = λ k x y h g. elim (same_or_other k c) [
      | inl is ↦
          advances_as account x after y
          (some_one account x (sym here ∙ (ap (found b) (sym is) ∙ h)))
          (some_one after y (sym (ap (found a) is ∙ (set c ∙ if_at c (Some after) (found b c))) ∙ g))
          goes
      | inr ne ↦ advances_as x x x y refl (some_one x y (sym h ∙ (sym (set k ∙ if_other k c (Some after) (found b k) ne) ∙ g))) (advances_same x)
    ];
    opened = λ k y none h n stage at. elim (same_or_other k c) [
      | inl is ↦ absurd (none_some account (sym none ∙ (ap (found b) is ∙ here)))
      | inr ne ↦ absurd (none_some y (sym none ∙ (sym (set k ∙ if_other k c (Some after) (found b k) ne) ∙ h)))
    ];
  }

  -- a client is closed
  pub all_closed : (b a : List (Slot (AccountView K V M))) (c : ℕ) → ((k : ℕ) → found a k ≡ (if k == c then None else found b k)) → AllAdvance b a
  all_closed b a c set = record {
    each = λ k x y h g. elim (same_or_other k c) [
      | inl is ↦ absurd (none_some y (sym (ap (found a) is ∙ (set c ∙ if_at c None (found b c))) ∙ g))
      | inr ne ↦ advances_as x x x y refl (some_one x y (sym h ∙ (sym (set k ∙ if_other k c None (found b k) ne) ∙ g))) (advances_same x)
    ];
    opened = λ k y none h n stage at. elim (same_or_other k c) [
      | inl is ↦ absurd (none_some y (sym (ap (found a) is ∙ (set c ∙ if_at c None (found b c))) ∙ h))
      | inr ne ↦ absurd (none_some y (sym none ∙ (sym (set k ∙ if_other k c None (found b k) ne) ∙ h)))
    ];
  }

  -- a client is opened
  pub all_opened : (b a : List (Slot (AccountView K V M))) (c : ℕ) → found b c ≡ None → ((k : ℕ) → found a k ≡ (if k == c then Some no_requests else found b k)) → AllAdvance b a
  all_opened b a c none set = record {
    each = λ k x y h g. elim (same_or_other k c) [
      | inl is ↦ absurd (none_some x (sym none ∙ (ap (found b) (sym is) ∙ h)))
      | inr ne ↦ advances_as x x x y refl (some_one x y (sym h ∙ (sym (set k ∙ if_other k c (Some no_requests) (found b k) ne) ∙ g))) (advances_same x)
    ];
    opened = λ k y away h n stage at. elim (same_or_other k c) [
      | inl is ↦
          let e : no_requests ≡ y = some_one no_requests y (sym (ap (found a) is ∙ (set c ∙ if_at c (Some no_requests) (found b c))) ∙ h) in
          none_some stage (subst (λ (z : AccountView K V M). IsStage z n stage) (sym e) at).here
      | inr ne ↦ absurd (none_some y (sym away ∙ (sym (set k ∙ if_other k c (Some no_requests) (found b k) ne) ∙ h)))
    ];
  }

-- ---- what was made

module _ {K V M : Type 0} where
  -- a stage of a request whose reply is ready
  pub made_or_collected : (stage : Stage K (ReadyView K V M)) (entry : Entry K V M) (reply : ReplyView K V M) → entry.place ≡ PlaceReady reply → StageStands stage entry
      → (stage ≡ Made (record { reply = reply; accepted = entry.accepted })) ⊎ (stage ≡ Collected)
  made_or_collected (Waiting request accepted) entry reply is s = let e = s.0 in absurd (cc)
  made_or_collected (Running begun) entry reply is s = let e = s.2 in absurd (cc)
  made_or_collected (Made ready) entry reply is s =
      let e : ready.reply ≡ reply = (let f = s.0 in cc) in
      inl (ap (λ (r : ReplyView K V M). Made (record { reply = r; accepted = ready.accepted })) e ∙ ap (λ (n : ℕ). Made (record { reply = reply; accepted = n })) (sym s.1))
  made_or_collected Collected entry reply is s = inr refl

  ready_not_unready : (stage : Stage K (ReadyView K V M)) (entry : Entry K V M) (reply : ReplyView K V M) → entry.place ≡ PlaceReady reply → StageStands stage entry → NotReady stage → ⊥
  ready_not_unready (Waiting request accepted) entry reply is s not = let e = s.0 in cc
  ready_not_unready (Running begun) entry reply is s not = let e = s.2 in cc
  ready_not_unready (Made ready) entry reply is s not = not
  ready_not_unready Collected entry reply is s not = not

module _ {K P V M : Type 0} (order : K → K → Ordering) (m : Machine K P V) (point : M → Point) where
  -- `ReadyHere h l c n entry` is that the request `n` of the client `c` has a stage that represents `entry`
  pub record ReadyHere (h : Held K P V M) (c n : ℕ) (entry : Entry K V M) : Type 0 where
    pub account : AccountView K V M
    pub here : found h.accounts c ≡ Some account
    pub stage : Stage K (ReadyView K V M)
    pub is_at : IsStage account n stage
    pub stands : StageStands stage entry

  -- a reply that is ready is of an open client
  pub ready_here : (h : Held K P V M) (l : Ledger K V M (Told K V M)) (c n : ℕ) (entry : Entry K V M) (reply : ReplyView K V M) → StandsOf order m point told_puts h l → IsReadyAt l c n entry reply
      → ReadyHere h c n entry
  ready_here h l c n entry reply s r = by_flag r.client.is_open refl
    where
      by_flag : (flag : Bool) → r.client.is_open ≡ flag → ReadyHere h c n entry
      by_flag true e =
          let x = (s.each c r.client r.is_entry.client_here).seat e in
          let y = ready_there told_puts (answer_by order m point) l.inputs c x.0 r.client n entry reply (s.kept.clients c r.client r.is_entry.client_here) x.2 r.is_entry.here r.ready in
          record { account = x.0; here = x.1; stage = y.stage; is_at = y.is_at; stands = y.stands }
      by_flag false e =
          absurd (subst (λ (p : Place K V M). IsOwedNothing p) r.ready ((s.each c r.client r.is_entry.client_here).dropped e n entry r.is_entry.here))

  -- a reply that was collected is ready
  pub collected_ready : (h : Held K P V M) (l : Ledger K V M (Told K V M)) (c n : ℕ) (account : AccountView K V M) → StandsOf order m point told_puts h l → found h.accounts c ≡ Some account
      → IsStage account n Collected → (entry : Entry K V M) × (reply : ReplyView K V M) × IsReadyAt l c n entry reply
  collected_ready h l c n account s here at =
      let w = open_of (AccountStands told_puts) (answer_by order m point) told_puts (fields_of h) l c account s here in
      let x = stage_at told_puts account w.0 n Collected w.2 at in
      (x.entry, x.stands.0, record { client = w.0; is_entry = record { client_here = w.1.here; here = x.here }; ready = x.stands.1 })

  -- the reply to a request whose stage is not ready is not
  pub unready : (h : Held K P V M) (l : Ledger K V M (Told K V M)) (c n : ℕ) → StandsOf order m point told_puts h l
      → ((account : AccountView K V M) → found h.accounts c ≡ Some account → (stage : Stage K (ReadyView K V M)) → IsStage account n stage → NotReady stage)
      → NoneReadyAt l c n
  unready h l c n s none entry reply r =
      let x = ready_here h l c n entry reply s r in
      ready_not_unready x.stage entry reply r.ready x.stands (none x.account x.here x.stage x.is_at)

module _ {R K P V M : Type 0} (order : K → K → Ordering) (m : Machine K P V) (point : M → Point) (before after : StoreView R K P V M) where
  pub makes_of : (l n : Ledger K V M (Told K V M)) → AllAdvance before.accounts.items after.accounts.items → StandsFor order m point before l → StandsFor order m point after n
      → Makes before after l n
  makes_of l n all s t = record {
    fresh = λ c i entry reply r none.
        let x = ready_here order m point (held after) n c i entry reply t r in
        elim (made_or_collected x.stage entry reply r.ready x.stands) [
          | inl e ↦ record { account = x.account; here = x.here; made = subst (λ (y : Stage K (ReadyView K V M)). IsStage x.account i y) e x.is_at }
          | inr e ↦ absurd (not_collected c i x.account x.here (subst (λ (y : Stage K (ReadyView K V M)). IsStage x.account i y) e x.is_at) none (found before.accounts.items c) refl)
        ];
    kept = λ c i entry reply ready r was.
        let x = ready_here order m point (held after) n c i entry reply t r in
        record { account = x.account; here = x.here; made = (all.each c was.account x.account was.here x.here).made i ready was.made };
    only = λ c i ready now. was_or_not c i ready now (found before.accounts.items c) refl;
  }
    where
      not_collected : (c i : ℕ) (b : AccountView K V M) → found after.accounts.items c ≡ Some b → IsStage b i Collected → NoneReadyAt l c i
          → (a : Option (AccountView K V M)) → found before.accounts.items c ≡ a → ⊥
      not_collected c i b here at none (Some a) e =
          let x = collected_ready order m point (held before) l c i a s e ((all.each c a b e here).collected i at) in
          none x.0 x.1 x.2
      not_collected c i b here at none None e = all.opened c b e here i Collected at

      was_or_not : (c i : ℕ) (ready : ReadyView K V M) → IsMadeIn after c i ready → (a : Option (AccountView K V M)) → found before.accounts.items c ≡ a → IsMadeIn before c i ready ⊎ NoneReadyAt l c i
      was_or_not c i ready now (Some a) e = elim ((all.each c a now.account e now.here).fresh i ready now.made) [
        | inl w ↦ inl (record { account = a; here = e; made = w })
        | inr w ↦
            inr (unready order m point (held before) l c i s
            (λ x here stage at. w stage (subst (λ (y : AccountView K V M). IsStage y i stage) (some_one x a (sym here ∙ e)) at)))
      ]
      was_or_not c i ready now None e = inr (unready order m point (held before) l c i s (λ x here stage at. absurd (none_some x (sym e ∙ here))))

  pub goes_by : (Move : Ledger K V M (Told K V M) → Ledger K V M (Told K V M) → Type 0) → AllAdvance before.accounts.items after.accounts.items
      → ((l : Ledger K V M (Told K V M)) → StandsFor order m point before l → Reaches Move l (StandsFor order m point after))
      → Goes order m point before after Move
  goes_by Move all f l s = let x = f l s in (x.0, x.1, x.2, makes_of l x.0 all s x.2)
