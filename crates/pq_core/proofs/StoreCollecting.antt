-- Replies that are collected, and what was put, at what a store keeps.
use Rattle.std.proofs.Common.{◌≡◌, ◌≢◌, ℕ, false, zero, suc, ◌+◌, ◌-◌, ◌<◌, ◌≤◌, ◌==◌, if◌then◌else◌, ◌⊎◌, List, [], ◌∷◌, ◌++◌, drop, length, slice_get, Option, Some, None, refl, sym, ◌∙◌, ap, subst, inl, inr, arith, length-drop}
use Rattle.std.specs.declared.cmp.Ordering.{Ordering}
use Rattle.pq_rules.specs.declared.turn.Answer.{Answer}
use Rattle.pq_rules.specs.Turns.{Machine}
use Rattle.pq_core.proofs.Lists.{some_one, none_some, same_or_other, get_within, set_other, set_long, append_long}
use Rattle.pq_core.proofs.Changing.{if_at, if_other}
use Rattle.pq_core.proofs.Calling.{SeatSet, SameCounts, open_of, none_open}
use Rattle.pq_core.proofs.Moving.{SameRuns}
use Rattle.pq_core.proofs.Ending.{put_stands, reseated}
use Rattle.pq_core.proofs.Keeping.{kept_releases}
use Rattle.pq_core.proofs.AccountMoves.{get_drop, before_or_not, one_stage, was_at, other_at, gone_of, was_seen, seen_here, may_or_not}
use Rattle.pq_core.proofs.AccountStanding.{stage_at, collected_stands}
use Rattle.pq_core.proofs.Making.{ready_here, collected_ready, made_or_collected}
use Rattle.pq_core.proofs.Queued.{queue_same, queue_account, queue_collected}
use Rattle.pq_core.proofs.StoreOpening.{unmoved}
use Rattle.pq_core.proofs.StoreClosing.{SameButAccounts, same_runs, same_maps, account_set}
use Rattle.pq_core.specs.Points.{Point}
use Rattle.pq_core.specs.Replies.{ReplyView}
use Rattle.pq_core.specs.Ledger.{Put, Place, Entry, Client, Ledger, IsOpen, with_client, with_entry, moved_to, with_outbox}
use Rattle.pq_core.specs.Ledger.{Ready as PlaceReady}
use Rattle.pq_core.specs.RightReply.{answer_by, IsRightFor}
use Rattle.pq_core.specs.Kept.{PlaceKept}
use Rattle.pq_core.specs.Moves.{Reaches, Releases, NextReady, IsReady}
use Rattle.pq_core.specs.Lanes.{ReadyView}
use Rattle.pq_core.specs.Accounts.{AccountView, IsStage, with_stage, MaySee, Collects, Sees}
use Rattle.pq_core.specs.Told.{Told, told_puts, TellsOne, Tells}
use Rattle.pq_core.specs.Stores.{StoreView, Held, held, fields_of, StandsOf, StandsFor, IsMadeIn, MayTell, Hears}
use Rattle.pq_core.specs.Stores.{Collects as StoreCollects}
use Rattle.pq_core.specs.declared.values.moves.Released.TheVariants.{Put as ReleasedPut}
use Rattle.pq_core.specs.declared.store.account.Stage.{Stage}
use Rattle.pq_core.specs.declared.store.account.Stage.TheVariants.{Waiting, Made, Collected}
use Rattle.pq_core.specs.declared.values.request.Request.{Request}
use Rattle.pq_core.specs.declared.store.rising.Place.{Place as Slot}
use Rattle.pq_core.specs.aux.Rising.{Slots, found, IsAbove}
use Rattle.pq_core.specs.aux.Changes.{IsSetAt, IsSameMap}
use Rattle.pq_core.specs.aux.Accounts.{StageAt, AccountStands}
use Rattle.pq_core.specs.aux.Stands.{Fields, Stands}
use Rattle.pq_core.specs.aux.Queue.{IsQueue}

-- the stages of a reply that was collected, and of one that is made
abbrev collected_as : {K T : Type 0} → Stage K T
collected_as = Collected

abbrev made_as : {K T : Type 0} → T → Stage K T
made_as ready = Made ready

both_not : {K T : Type 0} (ready : T) → collected_as {K = K} ≡ made_as ready → ⊥
both_not ready f = cc

abbrev waits_as : {K T : Type 0} → Request K → ℕ → Stage K T
waits_as request accepted = Waiting request accepted

waits_not : {K T : Type 0} (request : Request K) (accepted : ℕ) → collected_as {K = K} {T = T} ≡ waits_as request accepted → ⊥
waits_not request accepted f = cc

-- `account_after account k` is `account` after `k` more replies were acknowledged
abbrev pub account_after : {K V M : Type 0} → AccountView K V M → ℕ → AccountView K V M
account_after account k = record { seen = account.seen + k; stages = drop k account.stages }

drop_first : {A : Type 0} (xs : List A) (k : ℕ) → drop (suc k) xs ≡ drop k (drop 1 xs)
drop_first [] zero = refl
drop_first [] (suc k) = refl
drop_first (x ∷ xs) k = refl

module _ {K V M : Type 0} where
  after_none : (account : AccountView K V M) → account_after account 0 ≡ account
  after_none account = ap (λ (n : ℕ). record { seen = n; stages = account.stages }) (let e : account.seen + 0 ≡ account.seen = omega arith in e)

  after_after : (account : AccountView K V M) (k : ℕ) → account_after account (suc k) ≡ account_after (account_after account 1) k
  after_after account k =
      let e : account.seen + suc k ≡ (account.seen + 1) + k = omega arith in
      ap (λ (n : ℕ). record { seen = n; stages = drop (suc k) account.stages }) e
      ∙ ap (λ (xs : List (Stage K (ReadyView K V M))). record { seen = (account.seen + 1) + k; stages = xs }) (drop_first account.stages k)

module _ {K V M : Type 0} (means : M → Point → K → Answer K V → Type 0) where
  -- the next reply was put
  put_account : (account : AccountView K V M) (client : Client K V M (Told K V M)) (entry : Entry K V M) (reply : ReplyView K V M) → AccountStands told_puts account client
      → 0 < length account.stages
      → AccountStands told_puts (account_after account 1) (with_outbox (with_entry client (length client.outbox) (moved_to entry Put)) (client.outbox ++ reply ∷ []) false)
  put_account account client entry reply h some =
      let seen = h.seen in
      let long = h.counted in
      let more = append_long client.outbox reply in
      let same = set_long client.entries (length client.outbox) (moved_to entry Put) in
      let less = length-drop 1 account.stages in
      record {
        open_yet = h.open_yet;
        seen = omega arith;
        counted = omega arith;
        each = λ i stage get.
            let x = h.each (suc i) stage (sym (get_drop account.stages 1 i (suc i) (omega arith)) ∙ get) in
            let e : (account.seen + 1) + i ≡ account.seen + suc i = omega arith in
            let ne : (account.seen + 1) + i ≢ length client.outbox = omega arith in
            record {
              entry = x.entry;
              here = set_other client.entries (length client.outbox) (moved_to entry Put) ((account.seen + 1) + i) ne ∙ (ap (slice_get client.entries) e ∙ x.here);
              stands = x.stands;
            };
      }

  tells_one : (f g : Fields K (AccountView K V M)) (l : Ledger K V M (Told K V M)) (c : ℕ) (account : AccountView K V M) → Stands (AccountStands told_puts) means told_puts f l
      → f.seats c ≡ Some account → slice_get account.stages 0 ≡ Some Collected → SeatSet f g c (Some (account_after account 1)) → SameCounts f g → SameRuns f g
      → (m : Ledger K V M (Told K V M)) × TellsOne c l m × Stands (AccountStands told_puts) means told_puts g m
  tells_one f g l c account s here first set counts q =
      let w = open_of (AccountStands told_puts) means told_puts f l c account s here in
      let client : Client K V M (Told K V M) = w.0 in
      let at : StageAt client (account.seen + 0) Collected = w.2.each 0 Collected first in
      let reply : ReplyView K V M = at.stands.0 in
      let seen = w.2.seen in
      let e : length client.outbox ≡ account.seen + 0 = omega arith in
      let there : slice_get client.entries (length client.outbox) ≡ Some at.entry = ap (slice_get client.entries) e ∙ at.here in
      let after : Client K V M (Told K V M) = with_outbox (with_entry client (length client.outbox) (moved_to at.entry Put)) (client.outbox ++ reply ∷ []) false in
      let next : NextReady K V M (Told K V M) = record { client = client; entry = at.entry; reply = reply } in
      let ready : IsReady told_puts l c next = record { here = w.1.here; ready = record { open_yet = w.1.open_yet; here = there; ready = at.stands.1 } } in
      let none : Told K V M → List (ReplyView K V M) = λ o. [] in
      let any : Told K V M → Type 0 = λ o. Unit {0} in
      let release : Releases told_puts none any any c (ReleasedPut (length client.outbox)) l (with_client l c after) = (next, ready, refl, (client.outbox ++ reply ∷ [], refl, refl, refl)) in (
        with_client l c after,
        (next, ready, refl),
        put_stands (AccountStands told_puts) means told_puts f g l (with_client l c after) c (length client.outbox) client at.entry reply (account_after account 1) (client.outbox ++ reply ∷ []) s
            w.1 there at.stands.1 set counts q
            (put_account account client at.entry reply w.2 (get_within account.stages 0 Collected first)) refl
            (kept_releases means told_puts none any any c (ReleasedPut (length client.outbox)) l (with_client l c after) s.kept release),
      )

  -- the next replies were put
  pub tells : (k : ℕ) (f g : Fields K (AccountView K V M)) (l : Ledger K V M (Told K V M)) (c : ℕ) (account : AccountView K V M) → Stands (AccountStands told_puts) means told_puts f l
      → f.seats c ≡ Some account → ((i : ℕ) → i < k → slice_get account.stages i ≡ Some Collected) → SeatSet f g c (Some (account_after account k)) → SameCounts f g → SameRuns f g
      → (m : Ledger K V M (Told K V M)) × Tells c k l m × Stands (AccountStands told_puts) means told_puts g m
  unfolding Tells
  tells zero f g l c account s here all set counts q =
      let w = open_of (AccountStands told_puts) means told_puts f l c account s here in
      (l, refl, reseated (AccountStands told_puts) means told_puts f g l c w.0 account s w.1 (record { here = set.here ∙ ap (λ (a : AccountView K V M). Some a) (after_none account); others = set.others }) counts q w.2)
  tells (suc k) f g l c account s here all set counts q =
      let mid : Fields K (AccountView K V M) = record {
        inputs = f.inputs;
        seats = λ j. if j == c then Some (account_after account 1) else f.seats j;
        opened = f.opened;
        clients = f.clients;
        runs = f.runs;
        started = f.started;
      } in
      let one = tells_one f mid l c account s here (all 0 (omega arith))
      (record { here = if_at c (Some (account_after account 1)) (f.seats c); others = λ j ne. if_other j c (Some (account_after account 1)) (f.seats j) ne })
      (record { inputs = refl; opened = refl; clients = refl }) (record { runs = λ r. refl; started = refl }) in
      let rest = tells k mid g one.0 c (account_after account 1) one.2 (if_at c (Some (account_after account 1)) (f.seats c))
      (λ i less. get_drop account.stages 1 i (suc i) (omega arith) ∙ all (suc i) (omega arith))
      (record {
        here = set.here ∙ ap (λ (a : AccountView K V M). Some a) (after_after account k);
        others = λ j ne. set.others j ne ∙ sym (if_other j c (Some (account_after account 1)) (f.seats j) ne);
      })
      (record { inputs = counts.inputs; opened = counts.opened; clients = counts.clients }) (record { runs = q.runs; started = q.started }) in
      (rest.0, (one.0, one.1, rest.1), rest.2)

module _ {R K P V M : Type 0} (order : K → K → Ordering) (m : Machine K P V) (point : M → Point) where
  -- what was put is acknowledged
  pub see_moved : (b : StoreView R K P V M) (a : Held K P V M) (l : Ledger K V M (Told K V M)) (c n : ℕ)
      → ((account : AccountView K V M) → found b.accounts.items c ≡ Some account
      → (after : AccountView K V M) × Sees n account after × ((k : ℕ) → found a.accounts k ≡ (if k == c then Some after else found b.accounts.items k)))
      → (found b.accounts.items c ≡ None → (k : ℕ) → found a.accounts k ≡ found b.accounts.items k)
      → SameButAccounts (held b) a → a.opened ≡ b.opened → StandsFor order m point b l
      → Reaches (Hears b c n) l (StandsOf order m point told_puts a)
  see_moved b a l c n opens closes e count s = by_account (found b.accounts.items c) refl
    where
      counts : SameCounts (fields_of (held b)) (fields_of a)
      counts = record { inputs = e.inputs; opened = count; clients = e.clients }

      by_account : (account : Option (AccountView K V M)) → found b.accounts.items c ≡ account → Reaches (Hears b c n) l (StandsOf order m point told_puts a)
      by_account None none = (
        l,
        record {
          told = λ may. absurd (none_open (AccountStands told_puts) (answer_by order m point) told_puts (fields_of (held b)) l c s none may.client may.open_yet);
          ignored = λ f. refl;
        },
        unmoved order m point told_puts (held b) a l (same_maps order m point told_puts (held b) a e count (closes none)) s,
      )
      by_account (Some account) here = by_may (may_or_not account n)
        where
          x : (after : AccountView K V M) × Sees n account after × ((k : ℕ) → found a.accounts k ≡ (if k == c then Some after else found b.accounts.items k))
          x = opens account here

          w : (client : Client K V M (Told K V M)) × IsOpen l c client × AccountStands told_puts account client
          w = open_of (AccountStands told_puts) (answer_by order m point) told_puts (fields_of (held b)) l c account s here

          may_tell : MaySee account n → MayTell b l c n
          may_tell may =
              let seen = w.2.seen in
              let late = may.later in
              record {
                client = w.0;
                open_yet = w.1;
                later = omega arith;
                collected = λ i past less.
                    let is : IsStage account i Collected = may.collected i (omega arith) less in (
                      collected_ready order m point (held b) l c i account s here is,
                      λ ready made. both_not ready (one_stage account i Collected (Made ready) is (subst (λ (y : AccountView K V M). IsStage y i (Made ready)) (some_one made.account account (sym made.here ∙ here)) made.made)),
                    );
              }

          may_see : MayTell b l c n → MaySee account n
          may_see may =
              let same : may.client ≡ w.0 = some_one may.client w.0 (sym may.open_yet.here ∙ w.1.here) in
              let outbox : length may.client.outbox ≡ length w.0.outbox = ap (λ (y : Client K V M (Told K V M)). length y.outbox) same in
              let seen = w.2.seen in
              let late = may.later in
              record {
                later = omega arith;
                collected = λ i past less.
                    let told = may.collected i (omega arith) less in
                    let h = ready_here order m point (held b) l c i told.0.0 told.0.1 s told.0.2 in
                    let is : h.account ≡ account = some_one h.account account (sym h.here ∙ here) in
                    elim (made_or_collected h.stage told.0.0 told.0.1 told.0.2.ready h.stands) [
                      | inl y ↦ absurd (told.1 _ (record { account = h.account; here = h.here; made = subst (λ (z : Stage K (ReadyView K V M)). IsStage h.account i z) y h.is_at }))
                      | inr y ↦
                          subst (λ (z : AccountView K V M). IsStage z i Collected) is
                          (subst (λ (z : Stage K (ReadyView K V M)). IsStage h.account i z) y h.is_at)
                    ];
              }

          by_may : MaySee account n ⊎ (MaySee account n → ⊥) → Reaches (Hears b c n) l (StandsOf order m point told_puts a)
          by_may (inl may) =
              let late = may.later in
              let is : x.0 ≡ account_after account (n - account.seen) =
              x.1.told may ∙ ap (λ (i : ℕ). record { seen = i; stages = drop (n - account.seen) account.stages }) (let f : n ≡ account.seen + (n - account.seen) = omega arith in f) in
              let t = tells (answer_by order m point) (n - account.seen) (fields_of (held b)) (fields_of a) l c account s here (gone_of account n may)
              (account_set order m point told_puts (held b) a c (Some (account_after account (n - account.seen)))
              (subst (λ (y : AccountView K V M). (k : ℕ) → found a.accounts k ≡ (if k == c then Some y else found b.accounts.items k)) is x.2))
              counts (same_runs order m point told_puts (held b) a e) in (
                t.0,
                record {
                  told = λ tell.
                      let same : tell.client ≡ w.0 = some_one tell.client w.0 (sym tell.open_yet.here ∙ w.1.here) in
                      let outbox : length tell.client.outbox ≡ length w.0.outbox = ap (λ (y : Client K V M (Told K V M)). length y.outbox) same in
                      let seen : account.seen ≡ length w.0.outbox = w.2.seen in
                      subst (λ (j : ℕ). Tells c j l t.0) (let f : n - account.seen ≡ n - length tell.client.outbox = omega arith in f) t.1;
                  ignored = λ f. absurd (f (may_tell may));
                },
                t.2,
              )
          by_may (inr not) = (
            l,
            record { told = λ tell. absurd (not (may_see tell)); ignored = λ f. refl },
            reseated (AccountStands told_puts) (answer_by order m point) told_puts (fields_of (held b)) (fields_of a) l c w.0 x.0 s w.1
                (account_set order m point told_puts (held b) a c (Some x.0) x.2) counts (same_runs order m point told_puts (held b) a e)
                (subst (λ (y : AccountView K V M). AccountStands told_puts y w.0) (sym (x.1.ignored not)) w.2),
          )

-- the reply that an account hands out
module _ {K V M : Type 0} where
  -- what waits, and what is made, after an acknowledgement
  pub see_made : (n : ℕ) (a after : AccountView K V M) (k : ℕ) (ready : ReadyView K V M) → Sees n a after → IsStage a k (Made ready) → IsStage after k (Made ready)
  see_made n a after k ready sees h = elim (may_or_not a n) [
    | inl may ↦
        let late = may.later in
        let past : n ≤ k = elim (before_or_not k n) [
          | inl less ↦ absurd (both_not ready (one_stage a k Collected (Made ready) (may.collected k h.past less) h))
          | inr more ↦ more
        ] in
        subst (λ (y : AccountView K V M). IsStage y k (Made ready)) (sym (sees.told may)) (record { past = past; here = seen_here a n k late past ∙ h.here })
    | inr not ↦ subst (λ (y : AccountView K V M). IsStage y k (Made ready)) (sym (sees.ignored not)) h
  ]

  pub see_waits : (n : ℕ) (a after : AccountView K V M) (k : ℕ) (request : Request K) (accepted : ℕ) → Sees n a after → IsStage a k (Waiting request accepted) → IsStage after k (Waiting request accepted)
  see_waits n a after k request accepted sees h = elim (may_or_not a n) [
    | inl may ↦
        let late = may.later in
        let past : n ≤ k = elim (before_or_not k n) [
          | inl less ↦ absurd (waits_not request accepted (one_stage a k Collected (Waiting request accepted) (may.collected k h.past less) h))
          | inr more ↦ more
        ] in
        subst (λ (y : AccountView K V M). IsStage y k (Waiting request accepted)) (sym (sees.told may)) (record { past = past; here = seen_here a n k late past ∙ h.here })
    | inr not ↦ subst (λ (y : AccountView K V M). IsStage y k (Waiting request accepted)) (sym (sees.ignored not)) h
  ]

  pub see_back : (n : ℕ) (a after : AccountView K V M) (k : ℕ) (stage : Stage K (ReadyView K V M)) → Sees n a after → IsStage after k stage → IsStage a k stage
  see_back n a after k stage sees h = elim (may_or_not a n) [
    | inl may ↦ was_seen a n k stage may.later (subst (λ (y : AccountView K V M). IsStage y k stage) (sees.told may) h)
    | inr not ↦ subst (λ (y : AccountView K V M). IsStage y k stage) (sees.ignored not) h
  ]

module _ {R K P V M : Type 0} (b a : StoreView R K P V M) (c : ℕ) where
  made_elsewhere : ((k : ℕ) → k ≢ c → found a.accounts.items k ≡ found b.accounts.items k) → (k n : ℕ) (ready : ReadyView K V M) → k ≢ c → IsMadeIn b k n ready → IsMadeIn a k n ready
  made_elsewhere others k n ready ne h = record { account = h.account; here = others k ne ∙ h.here; made = h.made }

  made_elsewhere_back : ((k : ℕ) → k ≢ c → found a.accounts.items k ≡ found b.accounts.items k) → (k n : ℕ) (ready : ReadyView K V M) → k ≢ c → IsMadeIn a k n ready → IsMadeIn b k n ready
  made_elsewhere_back others k n ready ne h = record { account = h.account; here = sym (others k ne) ∙ h.here; made = h.made }

  made_at : (account : AccountView K V M) → found b.accounts.items c ≡ Some account → (k n : ℕ) (ready : ReadyView K V M) → k ≡ c → IsMadeIn b k n ready → IsStage account n (Made ready)
  made_at account here k n ready is h =
      subst (λ (y : AccountView K V M). IsStage y n (Made ready)) (some_one h.account account (sym h.here ∙ (ap (found b.accounts.items) is ∙ here))) h.made

  others_of : (value : Option (AccountView K V M)) → ((k : ℕ) → found a.accounts.items k ≡ (if k == c then value else found b.accounts.items k)) → (k : ℕ) → k ≢ c → found a.accounts.items k ≡ found b.accounts.items k
  others_of value set k ne = set k ∙ if_other k c value (found b.accounts.items k) ne

  -- what is made, after an acknowledgement
  pub seen_made : (n : ℕ)
      → ((account : AccountView K V M) → found b.accounts.items c ≡ Some account
      → (after : AccountView K V M) × Sees n account after × ((k : ℕ) → found a.accounts.items k ≡ (if k == c then Some after else found b.accounts.items k)))
      → (found b.accounts.items c ≡ None → (k : ℕ) → found a.accounts.items k ≡ found b.accounts.items k)
      → (k i : ℕ) (ready : ReadyView K V M) → (IsMadeIn b k i ready → IsMadeIn a k i ready) × (IsMadeIn a k i ready → IsMadeIn b k i ready)
  seen_made n opens closes k i ready = by_account (found b.accounts.items c) refl
    where
      by_account : (account : Option (AccountView K V M)) → found b.accounts.items c ≡ account → (IsMadeIn b k i ready → IsMadeIn a k i ready) × (IsMadeIn a k i ready → IsMadeIn b k i ready)
      by_account None none = (
        λ h. record { account = h.account; here = closes none k ∙ h.here; made = h.made },
        λ h. record { account = h.account; here = sym (closes none k) ∙ h.here; made = h.made },
      )
      by_account (Some account) here =
          let x = opens account here in
          let there : found a.accounts.items c ≡ Some x.0 = x.2 c ∙ if_at c (Some x.0) (found b.accounts.items c) in (
            λ h. elim (same_or_other k c) [
              | inl is ↦ record { account = x.0; here = ap (found a.accounts.items) is ∙ there; made = see_made n account x.0 i ready x.1 (made_at account here k i ready is h) }
              | inr ne ↦ made_elsewhere (others_of (Some x.0) x.2) k i ready ne h
            ],
            λ h. elim (same_or_other k c) [
              | inl is ↦
                  let e : h.account ≡ x.0 = some_one h.account x.0 (sym h.here ∙ (ap (found a.accounts.items) is ∙ there)) in
                  record { account = account; here = ap (found b.accounts.items) is ∙ here; made = see_back n account x.0 i (Made ready) x.1 (subst (λ (y : AccountView K V M). IsStage y i (Made ready)) e h.made) }
              | inr ne ↦ made_elsewhere_back (others_of (Some x.0) x.2) k i ready ne h
            ],
          )

-- ---- collecting

module _ {K P V M : Type 0} (order : K → K → Ordering) (m : Machine K P V) (point : M → Point) where
  collects_stands : (answer : Option (ReadyView K V M)) (account after : AccountView K V M) (client : Client K V M (Told K V M)) → Collects answer account after → AccountStands told_puts account client
      → AccountStands told_puts after client
  collects_stands (Some ready) account after client h s =
      subst (λ (y : AccountView K V M). AccountStands told_puts y client) (sym h.1) (collected_stands told_puts account client ready.reply.number ready s h.0)
  collects_stands None account after client h s = subst (λ (y : AccountView K V M). AccountStands told_puts y client) (sym h.1) s

  collects_queue : (answer : Option (ReadyView K V M)) (b a : List (Slot (AccountView K V M))) (queue : List (ℕ × ℕ)) (c : ℕ) (account after : AccountView K V M) → Collects answer account after → found b c ≡ Some account
      → ((k : ℕ) → found a k ≡ (if k == c then Some after else found b k)) → IsQueue b queue → IsQueue a queue
  collects_queue (Some ready) b a queue c account after h here set q =
      queue_collected b a queue c ready.reply.number account ready here h.0
      (subst (λ (y : AccountView K V M). (k : ℕ) → found a k ≡ (if k == c then Some y else found b k)) h.1 set) q
  collects_queue None b a queue c account after h here set q =
      queue_same b a queue
      (λ k. elim (same_or_other k c) [
        | inl is ↦ ap (found a) is ∙ (set c ∙ (if_at c (Some after) (found b c) ∙ (ap (λ (y : AccountView K V M). Some y) h.1 ∙ (sym here ∙ ap (found b) (sym is)))))
        | inr ne ↦ set k ∙ if_other k c (Some after) (found b k) ne
      ])
      q

  -- a reply is collected, or none is made
  pub collect_moved : (b a : Held K P V M) (l : Ledger K V M (Told K V M)) (c : ℕ) (answer : Option (ReadyView K V M))
      → ((account : AccountView K V M) → found b.accounts c ≡ Some account
      → (after : AccountView K V M) × Collects answer account after × ((k : ℕ) → found a.accounts k ≡ (if k == c then Some after else found b.accounts k)))
      → (found b.accounts c ≡ None → (k : ℕ) → found a.accounts k ≡ found b.accounts k)
      → SameButAccounts b a → a.opened ≡ b.opened → StandsOf order m point told_puts b l → StandsOf order m point told_puts a l
  collect_moved b a l c answer opens closes e count s = by_account (found b.accounts c) refl
    where
      by_account : (account : Option (AccountView K V M)) → found b.accounts c ≡ account → StandsOf order m point told_puts a l
      by_account None none = unmoved order m point told_puts b a l (same_maps order m point told_puts b a e count (closes none)) s
      by_account (Some account) here =
          let x = opens account here in
          let w = open_of (AccountStands told_puts) (answer_by order m point) told_puts (fields_of b) l c account s here in
          reseated (AccountStands told_puts) (answer_by order m point) told_puts (fields_of b) (fields_of a) l c w.0 x.0 s w.1
          (account_set order m point told_puts b a c (Some x.0) x.2) (record { inputs = e.inputs; opened = count; clients = e.clients }) (same_runs order m point told_puts b a e)
          (collects_stands answer account x.0 w.0 x.1 w.2)

  -- the queue after it
  pub collect_queue : (b a : List (Slot (AccountView K V M))) (queue : List (ℕ × ℕ)) (c : ℕ) (answer : Option (ReadyView K V M))
      → ((account : AccountView K V M) → found b c ≡ Some account
      → (after : AccountView K V M) × Collects answer account after × ((k : ℕ) → found a k ≡ (if k == c then Some after else found b k)))
      → (found b c ≡ None → (k : ℕ) → found a k ≡ found b k) → IsQueue b queue → IsQueue a queue
  collect_queue b a queue c answer opens closes q = by_account (found b c) refl
    where
      by_account : (account : Option (AccountView K V M)) → found b c ≡ account → IsQueue a queue
      by_account None none = queue_same b a queue (closes none) q
      by_account (Some account) here = let x = opens account here in collects_queue answer b a queue c account x.0 x.1 here x.2 q

  right_of : (means : M → Point → K → Answer K V → Type 0) (l : Ledger K V M (Told K V M)) (ps : List (ReplyView K V M)) (c n : ℕ) (entry : Entry K V M) (place : Place K V M) (reply : ReplyView K V M)
      → place ≡ PlaceReady reply → PlaceKept means l.inputs ps c n entry place → IsRightFor means l.inputs c n entry reply
  right_of means l ps c n entry place reply e k = (subst (λ (x : Place K V M). PlaceKept means l.inputs ps c n entry x) e k).1

  -- a reply that is made is of the client of its account
  made_client : (h : Held K P V M) (l : Ledger K V M (Told K V M)) (c n : ℕ) (account : AccountView K V M) (ready : ReadyView K V M) → StandsOf order m point told_puts h l → found h.accounts c ≡ Some account
      → IsStage account n (Made ready) → ready.reply.client ≡ c
  made_client h l c n account ready s here made =
      let w = open_of (AccountStands told_puts) (answer_by order m point) told_puts (fields_of h) l c account s here in
      let x = stage_at told_puts account w.0 n (Made ready) w.2 made in
      (right_of (answer_by order m point) l w.0.outbox c n x.entry x.entry.place ready.reply x.stands.0 ((s.kept.clients c w.0 w.1.here).each n x.entry x.here).placed).client

module _ {R K P V M : Type 0} (order : K → K → Ordering) (m : Machine K P V) (point : M → Point) (b a : StoreView R K P V M) (c : ℕ) where
  one_collected : (answer : Option (ReadyView K V M)) (l : Ledger K V M (Told K V M)) (account after : AccountView K V M) → StandsFor order m point b l → found b.accounts.items c ≡ Some account → Collects answer account after
      → ((k : ℕ) → found a.accounts.items k ≡ (if k == c then Some after else found b.accounts.items k)) → StoreCollects c answer b a
  one_collected (Some ready) l account after s here h set = (
    made_client order m point (held b) l c ready.reply.number account ready s here h.0,
    record { account = account; here = here; made = h.0 },
    λ k i other w. elim (same_or_other k c) [
      | inl is ↦
          let e : w.account ≡ with_stage account ready.reply.number Collected = some_one w.account _ (sym w.here ∙ (ap (found a.accounts.items) is ∙ there)) in
          elim (was_at account ready.reply.number i (Made other) Collected h.0.past (subst (λ (y : AccountView K V M). IsStage y i (Made other)) e w.made)) [
            | inl v ↦ absurd (both_not other (sym v.1))
            | inr v ↦ (record { account = account; here = ap (found b.accounts.items) is ∙ here; made = v.1 }, λ f g. v.0 g)
          ]
      | inr ne ↦ (made_elsewhere_back b a c (others_of b a c (Some after) set) k i other ne w, λ f g. ne f)
    ],
    λ k i other w. elim (same_or_other k c) [
      | inl is ↦ elim (same_or_other i ready.reply.number) [
        | inl e ↦ inl (is, e)
        | inr ne ↦
            inr (record {
              account = with_stage account ready.reply.number Collected;
              here = ap (found a.accounts.items) is ∙ there;
              made = other_at account ready.reply.number i (Made other) Collected h.0.past ne (made_at b a c account here k i other is w);
            })
      ]
      | inr ne ↦ inr (made_elsewhere b a c (others_of b a c (Some after) set) k i other ne w)
    ],
  )
    where
      there : found a.accounts.items c ≡ Some (with_stage account ready.reply.number Collected)
      there = set c ∙ (if_at c (Some after) (found b.accounts.items c) ∙ ap (λ (y : AccountView K V M). Some y) h.1)
  one_collected None l account after s here h set = (
    λ i ready w. h.0 i ready (made_at b a c account here c i ready refl w),
    λ k i other w. elim (same_or_other k c) [
      | inl is ↦
          let e : w.account ≡ account = some_one w.account account (sym w.here ∙ (ap (found a.accounts.items) is ∙ there)) in
          record { account = account; here = ap (found b.accounts.items) is ∙ here; made = subst (λ (y : AccountView K V M). IsStage y i (Made other)) e w.made }
      | inr ne ↦ made_elsewhere_back b a c (others_of b a c (Some after) set) k i other ne w
    ],
    λ k i other w. elim (same_or_other k c) [
      | inl is ↦ record { account = account; here = ap (found a.accounts.items) is ∙ there; made = made_at b a c account here k i other is w }
      | inr ne ↦ made_elsewhere b a c (others_of b a c (Some after) set) k i other ne w
    ],
  )
    where
      there : found a.accounts.items c ≡ Some account
      there = set c ∙ (if_at c (Some after) (found b.accounts.items c) ∙ ap (λ (y : AccountView K V M). Some y) h.1)

  -- what was collected
  pub collect_said : (answer : Option (ReadyView K V M)) (l : Ledger K V M (Told K V M))
      → ((account : AccountView K V M) → found b.accounts.items c ≡ Some account
      → (after : AccountView K V M) × Collects answer account after × ((k : ℕ) → found a.accounts.items k ≡ (if k == c then Some after else found b.accounts.items k)))
      → (found b.accounts.items c ≡ None → (answer ≡ None) × ((k : ℕ) → found a.accounts.items k ≡ found b.accounts.items k))
      → StandsFor order m point b l → StoreCollects c answer b a
  collect_said answer l opens closes s = by_account (found b.accounts.items c) refl
    where
      by_account : (account : Option (AccountView K V M)) → found b.accounts.items c ≡ account → StoreCollects c answer b a
      by_account None none =
          let x = closes none in
          subst (λ (y : Option (ReadyView K V M)). StoreCollects c y b a) (sym x.0) (
            λ i ready w. none_some w.account (sym none ∙ w.here),
            λ k i other w. record { account = w.account; here = sym (x.1 k) ∙ w.here; made = w.made },
            λ k i other w. record { account = w.account; here = x.1 k ∙ w.here; made = w.made },
          )
      by_account (Some account) here = let x = opens account here in one_collected answer l account x.0 s here x.1 x.2

-- the queue after an acknowledgement
module _ {K V M : Type 0} where
  pub see_queue : (b a : List (Slot (AccountView K V M))) (queue : List (ℕ × ℕ)) (c n : ℕ)
      → ((account : AccountView K V M) → found b c ≡ Some account
      → (after : AccountView K V M) × Sees n account after × ((k : ℕ) → found a k ≡ (if k == c then Some after else found b k)))
      → (found b c ≡ None → (k : ℕ) → found a k ≡ found b k) → IsQueue b queue → IsQueue a queue
  see_queue b a queue c n opens closes q = by_account (found b c) refl
    where
      by_account : (account : Option (AccountView K V M)) → found b c ≡ account → IsQueue a queue
      by_account None none = queue_same b a queue (closes none) q
      by_account (Some account) here =
          let x = opens account here in
          queue_account b a queue c account x.0 here x.2
          (λ i request w. record { accepted = w.accepted; waits = see_waits n account x.0 i request w.accepted x.1 w.waits })
          (λ i request w. record { accepted = w.accepted; waits = see_back n account x.0 i (Waiting request w.accepted) x.1 w.waits })
          q

-- a number that is above those of the accounts is so after a call for one account
pub still_above : {T : Type 0} (x y : Slots T) (c n : ℕ)
    → ((account : T) → found x.items c ≡ Some account → (after : T) × IsSetAt x y c (Some after))
    → (found x.items c ≡ None → IsSameMap x y) → IsAbove n x.items → IsAbove n y.items
still_above {T} x y c n opens closes h = by_account (found x.items c) refl
  where
    by_account : (account : Option T) → found x.items c ≡ account → IsAbove n y.items
    by_account (Some account) e = (opens account e).1.above n h
    by_account None e = (closes e).above n h
