-- What a lane keeps, after each call.
use Rattle.std.proofs.Common.{◌≡◌, ℕ, zero, suc, ◌+◌, ◌-◌, ◌<◌, Bool, true, false, List, [], ◌∷◌, ◌++◌, length, drop, replicate, slice_get, Option, Some, None, refl, sym, ◌∙◌, ap, subst, inl, inr, arith}
use Rattle.std.specs.Prelude.{Ok}
use Rattle.pq_core.specs.Replies.{ReplyView}
use Rattle.pq_core.specs.Moves.{window}
use Rattle.pq_core.specs.Outboxes.{TakesNext}
use Rattle.pq_core.specs.Lanes.{ReadyView, Tray, empty_tray, HasPlace, placed_in, IsNextIn, LetsOutOf, TakesOutOf, after_next, tray_with, tray_after, TrayKept}
use Rattle.pq_core.specs.declared.values.moves.Released.TheVariants.{Put as ReleasedPut, Full as ReleasedFull, Gone as ReleasedGone, Nothing as ReleasedNothing}
use Rattle.pq_core.proofs.Lists.{some_one, get_set, get_append, set_long, append_long}
use Rattle.pq_core.proofs.Writes.{nothing_there, drop_get, drop_long}

-- a vacant place has no reply
none_vacant : {A P : Type 0} (x : A) → Some None ≡ Some (Some x) → P
none_vacant x e = cc

vacant_only : {A P : Type 0} (n i : ℕ) (x : A) → slice_get (replicate n None) i ≡ Some (Some x) → P
vacant_only zero i x h = nothing_there (Some x) h
vacant_only (suc n) zero x h = none_vacant x h
vacant_only (suc n) (suc i) x h = vacant_only n i x h

-- the places after the next reply was put
pub shifted : {A : Type 0} (xs : List (Option A)) (i : ℕ) (x : A) → slice_get (after_next xs) i ≡ Some (Some x) → slice_get xs (suc i) ≡ Some (Some x)
shifted xs i x h = elim (get_append (drop 1 xs) None i (Some x) h) [
  | inl w ↦ absurd (none_vacant x (ap Some (sym w.1)))
  | inr w ↦ sym (drop_get xs i) ∙ w
]

shifted_long : {A : Type 0} (xs : List (Option A)) → 0 < length xs → length (after_next xs) ≡ length xs
shifted_long xs h =
    let e = drop_long xs h in
    let f = append_long (drop 1 xs) None in
    omega arith

module _ {K V M O : Type 0} (Right : ReplyView K V M → Type 0) (puts : O → List (ReplyView K V M)) where
  -- `Numbered c n reply` is that `reply` is the reply `n` to the client `c`, and right
  abbrev Numbered : ℕ → ℕ → ReplyView K V M → Type 0
  Numbered c n reply = (reply.number ≡ n) × (reply.client ≡ c) × Right reply

  pub empty_kept : (c : ℕ) (outbox : O) → puts outbox ≡ [] → TrayKept Right puts (empty_tray c outbox)
  empty_kept c outbox e = record {
    count = λ o is. sym (ap length (ap puts (sym (some_one outbox o is)) ∙ e));
    room = λ o is. refl;
    put_so = λ o n reply is get. nothing_there reply (subst (λ (xs : List (ReplyView K V M)). slice_get xs n ≡ Some reply) (ap puts (sym (some_one outbox o is)) ∙ e) get);
    placed = λ i ready get. vacant_only window i ready get;
  }

  pub fill_kept : (l : Tray K V M O) (ready : ReadyView K V M) → TrayKept Right puts l → HasPlace l ready → Right ready.reply → TrayKept Right puts (placed_in l ready)
  fill_kept l ready k h right = record {
    count = k.count;
    room = λ o is. set_long l.places (ready.reply.number - l.put) (Some ready) ∙ k.room o is;
    put_so = k.put_so;
    placed = λ i other get. elim (get_set l.places (ready.reply.number - l.put) (Some ready) i (Some other) get) [
      | inl w ↦
          let past = h.past in
          let same : other ≡ ready = some_one other ready w.1 in
          subst (λ (x : ReadyView K V M). Numbered l.client (l.put + i) x.reply) (sym same) (let e : i ≡ ready.reply.number - l.put = w.0 in omega arith, h.client, right)
      | inr w ↦ k.placed i other w.1
    ];
  }

  pub held_kept : (l : Tray K V M O) (outbox o : O) (refused : Bool) → TrayKept Right puts l → l.outbox ≡ Some outbox → puts o ≡ puts outbox → TrayKept Right puts (tray_with l o refused)
  held_kept l outbox o refused k opened_as e = record {
    count = λ p is. k.count outbox opened_as ∙ ap length (sym e ∙ ap puts (some_one o p is));
    room = λ p is. k.room outbox opened_as;
    put_so = λ p n reply is get. k.put_so outbox n reply opened_as (subst (λ (xs : List (ReplyView K V M)). slice_get xs n ≡ Some reply) (ap puts (sym (some_one o p is)) ∙ e) get);
    placed = k.placed;
  }

  pub put_kept : (l : Tray K V M O) (outbox o : O) (ready : ReadyView K V M) → TrayKept Right puts l → IsNextIn l outbox ready → puts o ≡ puts outbox ++ ready.reply ∷ [] → TrayKept Right puts (tray_after l o)
  put_kept l outbox o ready k next e = record {
    count = λ p is.
        let long : l.put ≡ length (puts outbox) = k.count outbox next.open_yet in
        let more = append_long (puts outbox) ready.reply in
        let all : length (puts p) ≡ length (puts outbox ++ ready.reply ∷ []) = ap length (ap puts (sym (some_one o p is)) ∙ e) in
        omega arith;
    room = λ p is.
        let long : length l.places ≡ window = k.room outbox next.open_yet in
        shifted_long l.places (omega arith) ∙ long;
    put_so = λ p n reply is get. elim (get_append (puts outbox) ready.reply n reply (subst (λ (xs : List (ReplyView K V M)). slice_get xs n ≡ Some reply) (ap puts (sym (some_one o p is)) ∙ e) get)) [
      | inl w ↦
          let first = k.placed 0 ready next.next in
          let number : ready.reply.number ≡ l.put + 0 = first.0 in
          let long : l.put ≡ length (puts outbox) = k.count outbox next.open_yet in
          let place : n ≡ length (puts outbox) = w.0 in
          subst (λ (x : ReplyView K V M). Numbered l.client n x) (sym w.1) (omega arith, first.1, first.2)
      | inr w ↦ k.put_so outbox n reply next.open_yet w
    ];
    placed = λ i other get.
        let p = k.placed (suc i) other (shifted l.places i other get) in
        let number : other.reply.number ≡ l.put + suc i = p.0 in
        (omega arith, p.1, p.2);
  }

module _ {K V M O : Type 0} (puts takes : O → List (ReplyView K V M)) where
  -- `lane_of l o put places refused` is `l` with these parts
  abbrev pub lane_of : Tray K V M O → O → ℕ → List (Option (ReadyView K V M)) → Bool → Tray K V M O
  lane_of l o put places refused = record { client = l.client; outbox = Some o; put = put; places = places; refused = refused }

  pub takes_one : (A : Type 0) (l : Tray K V M O) (outbox o : O) → l.outbox ≡ Some outbox → puts o ≡ puts outbox → TakesNext (puts outbox) (takes outbox) (takes o)
      → TakesOutOf {A = A} puts takes (Ok true) l (lane_of l o l.put l.places l.refused)
  takes_one A l outbox o opened_as same next = (outbox, opened_as, (o, same, next, refl))

  pub takes_none : (A : Type 0) (l : Tray K V M O) (outbox o : O) → l.outbox ≡ Some outbox → length (puts outbox) ≡ length (takes outbox) → o ≡ outbox
      → TakesOutOf {A = A} puts takes (Ok false) l (lane_of l o l.put l.places l.refused)
  takes_none A l outbox o opened_as all same = (
    λ p is. subst (λ (x : O). length (puts x) ≡ length (takes x)) (some_one outbox p (sym opened_as ∙ is)) all,
    ap (λ (x : Option O). record { client = l.client; outbox = x; put = l.put; places = l.places; refused = l.refused }) (ap Some same ∙ sym opened_as),
  )

  module _ (was_full was_gone : O → Type 0) (l : Tray K V M O) (outbox o : O) (places : List (Option (ReadyView K V M))) where
    pub lets_put : (n : ℕ) (ready : ReadyView K V M) → IsNextIn l outbox ready → n ≡ l.put → puts o ≡ puts outbox ++ ready.reply ∷ [] → takes o ≡ takes outbox → places ≡ after_next l.places
        → LetsOutOf puts takes was_full was_gone (ReleasedPut n) l (lane_of l o (l.put + 1) places false)
    lets_put n ready next number put taken e = (outbox, ready, next, number, (o, put, taken, ap (λ (ps : List (Option (ReadyView K V M))). lane_of l o (l.put + 1) ps false) e))

    pub lets_full : (ready : ReadyView K V M) → IsNextIn l outbox ready → puts o ≡ puts outbox → takes o ≡ takes outbox → was_full o → places ≡ l.places
        → LetsOutOf puts takes was_full was_gone ReleasedFull l (lane_of l o l.put places true)
    lets_full ready next put taken full e = (outbox, ready, next, (o, put, taken, full, ap (λ (ps : List (Option (ReadyView K V M))). lane_of l o l.put ps true) e))

    pub lets_gone : (ready : ReadyView K V M) → IsNextIn l outbox ready → puts o ≡ puts outbox → takes o ≡ takes outbox → was_gone o → places ≡ l.places
        → LetsOutOf puts takes was_full was_gone ReleasedGone l (lane_of l o l.put places true)
    lets_gone ready next put taken gone e = (outbox, ready, next, (o, put, taken, gone, ap (λ (ps : List (Option (ReadyView K V M))). lane_of l o l.put ps true) e))

    pub lets_nothing : l.outbox ≡ Some outbox → ((ready : ReadyView K V M) → slice_get l.places 0 ≡ Some (Some ready) → ⊥) → places ≡ l.places → o ≡ outbox
        → LetsOutOf puts takes was_full was_gone ReleasedNothing l (lane_of l o l.put places l.refused)
    lets_nothing opened_as none e same = (
      λ h. none h.1 h.2.next,
      ap (λ (ps : List (Option (ReadyView K V M))). lane_of l o l.put ps l.refused) e
          ∙ ap (λ (x : Option O). record { client = l.client; outbox = x; put = l.put; places = l.places; refused = l.refused }) (ap Some same ∙ sym opened_as),
    )
