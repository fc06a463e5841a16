-- How many replies are made: fewer after one was collected.
use Rattle.std.proofs.Common.{◌≡◌, ◌≢◌, ℕ, zero, suc, ◌-◌, ◌<◌, ◌==◌, if◌then◌else◌, Bool, true, false, List, length, Option, Some, None, IfSome, IsTrue, ◌↔◌, eqb, not, refl, sym, ◌∙◌, ap, subst, inl, inr, arith}
use Rattle.std.proofs.lemmas.Bool.{eq-eqb, eqb-true}
use Rattle.pq_core.proofs.Lists.{some_one, none_some, get_within, get_there, same_or_other}
use Rattle.pq_core.proofs.Changing.{if_at, if_other}
use Rattle.pq_core.proofs.Slots.{found_above, above_more}
use Rattle.pq_core.proofs.AccountMoves.{before_or_not, set_count}
use Rattle.pq_core.specs.Lanes.{ReadyView}
use Rattle.pq_core.specs.Accounts.{AccountView, Collects}
use Rattle.pq_core.specs.declared.store.account.Stage.TheVariants.{Made, Collected}
use Rattle.pq_core.specs.declared.store.rising.Place.{Place}
use Rattle.pq_core.specs.aux.Rising.{found, IsAbove}
use Rattle.pq_core.specs.aux.Accounts.{made_count, HasMade, AccountKept}
use Rattle.pq_core.specs.aux.Passing.{made_of, made_below}

-- whether a list has items, by the test of its length
pub length_tells : (n k : ℕ) (empty : Bool) → empty ≡ eqb n 0 → n ≡ k → IsTrue (not empty) ↔ (0 < k)
length_tells n k true e long = let none : n ≡ 0 = eqb-true n 0 (sym e) in (λ t. absurd (cc), λ h. absurd (omega arith))
length_tells n k false e long = (λ t. some, λ h. refl)
  where
    some : 0 < k
    some = elim (before_or_not 0 n) [ inl lt ↦ omega arith | inr le ↦ (let f = eq-eqb n 0 (omega arith) in absurd (cc)) ]

module _ {K V M : Type 0} where
  -- whether an account has a reply that is made, by the length of its index
  pub index_tells : (account : AccountView K V M) (made : List ℕ) (room n : ℕ) (empty : Bool) → AccountKept account made room → empty ≡ eqb n 0 → n ≡ length made → IsTrue (not empty) ↔ HasMade account
  index_tells account made room n true k e long =
      let none : n ≡ 0 = eqb-true n 0 (sym e) in
      (λ t. absurd (cc), λ h. (let w = k.all h.0 h.1 h.2 in let lt = get_within made w.0 h.0 w.1 in absurd (omega arith)))
  index_tells account made room n false k e long = (λ t. let there = get_there made 0 some in let w = k.each 0 there.0 there.1 in (there.0, w.0, w.1), λ h. refl)
    where
      some : 0 < length made
      some = elim (before_or_not 0 n) [ inl lt ↦ omega arith | inr le ↦ (let f = eq-eqb n 0 (omega arith) in absurd (cc)) ]

  -- ---- the replies to the clients below a number

  below_same : (b a : List (Place (AccountView K V M))) (n : ℕ) → ((k : ℕ) → k < n → found a k ≡ found b k) → made_below a n ≡ made_below b n
  unfolding made_below
  below_same b a zero same = refl
  below_same b a (suc n) same =
      let e : made_of (found a n) ≡ made_of (found b n) = ap (λ (x : Option (AccountView K V M)). made_of x) (same n (omega arith)) in
      let r : made_below a n ≡ made_below b n = below_same b a n (λ k lt. same k (omega arith)) in
      omega arith

  below_less : (b a : List (Place (AccountView K V M))) (c n : ℕ) (account after : AccountView K V M) → found b c ≡ Some account → found a c ≡ Some after → ((k : ℕ) → k ≢ c → found a k ≡ found b k)
      → made_count after.stages < made_count account.stages → c < n → made_below a n < made_below b n
  unfolding made_below
  below_less b a c zero account after here there others less lt = absurd (omega arith)
  below_less b a c (suc n) account after here there others less lt = elim (same_or_other c n) [
    | inl w ↦
        let x : made_of (found a n) ≡ made_count after.stages = ap (λ (i : ℕ). made_of (found a i)) (sym w) ∙ ap (λ (o : Option (AccountView K V M)). made_of o) there in
        let y : made_of (found b n) ≡ made_count account.stages = ap (λ (i : ℕ). made_of (found b i)) (sym w) ∙ ap (λ (o : Option (AccountView K V M)). made_of o) here in
        let r : made_below a n ≡ made_below b n = below_same b a n (λ k below. others k (let e : c ≡ n = w in omega arith)) in
        omega arith
    | inr w ↦
        let e : made_of (found a n) ≡ made_of (found b n) = ap (λ (o : Option (AccountView K V M)). made_of o) (others n (λ z. w (sym z))) in
        let r : made_below a n < made_below b n = below_less b a c n account after here there others less (let ne : c ≢ n = w in omega arith) in
        omega arith
  ]

  -- a collection
  pub made_fewer : (b a : List (Place (AccountView K V M))) (clients c : ℕ) (answer : Option (ReadyView K V M))
      → ((account : AccountView K V M) → found b c ≡ Some account
      → (after : AccountView K V M) × Collects answer account after × ((k : ℕ) → found a k ≡ (if k == c then Some after else found b k)))
      → (found b c ≡ None → answer ≡ None) → IsAbove clients b → IfSome answer (λ _. made_below a clients < made_below b clients)
  made_fewer b a clients c None opens closes above = tt
  made_fewer b a clients c (Some ready) opens closes above = by_account (found b c) refl
    where
      by_account : (account : Option (AccountView K V M)) → found b c ≡ account → made_below a clients < made_below b clients
      by_account None none = absurd (none_some ready (sym (closes none)))
      by_account (Some account) here =
          let x = opens account here in
          let stages = x.1.1 in
          let count = set_count account.stages (ready.reply.number - account.seen) (Made ready) Collected x.1.0.here in
          let less : made_count x.0.stages < made_count account.stages = subst (λ (y : AccountView K V M). made_count y.stages < made_count account.stages) (sym stages) (omega arith) in
          below_less b a c clients account x.0 here (x.2 c ∙ if_at c (Some x.0) (found b c)) (λ k ne. x.2 k ∙ if_other k c (Some x.0) (found b k) ne) less
          (elim (before_or_not c clients) [
            | inl lt ↦ lt
            | inr le ↦ absurd (none_some account (sym (found_above c b (above_more clients c b le above)) ∙ here))
          ])

  -- whether the account of a client is such that `Has`, by a test of it
  pub account_tells : (Has : AccountView K V M → Type 0) (items : List (Place (AccountView K V M))) (c : ℕ) (account : AccountView K V M) (some : Bool) → found items c ≡ Some account → IsTrue some ↔ Has account
      → IsTrue some ↔ ((x : AccountView K V M) × (found items c ≡ Some x) × Has x)
  account_tells Has items c account some here tells = (
    λ t. (account, here, tells.0 t),
    λ h. tells.1 (subst Has (some_one h.0 account (sym h.1 ∙ here)) h.2),
  )
