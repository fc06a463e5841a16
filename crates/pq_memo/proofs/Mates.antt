-- Two keys, each of which is on the ring of both: their memos have one answer.
use Rattle.std.proofs.Common.{◌≡◌, ℕ, ◌≤◌, List, Option, Bool, IsTrue, ◌↔◌, sym, ◌∙◌, ap, subst, inl, inr, arith}
use Rattle.std.specs.declared.cmp.Ordering.{Ordering}
use Rattle.std.proofs.lemmas.Option.{same_Some}
use Rattle.pq_inputs.specs.Sources.{Sources}
use Rattle.pq_rules.specs.declared.turn.Answer.{Answer}
use Rattle.pq_rules.specs.declared.turn.Answer.TheVariants.{Cycle}
use Rattle.pq_rules.specs.Turns.{Machine}
use Rattle.pq_rules.specs.Relations.{In}
use Rattle.pq_rules.specs.Value.{Means}
use Rattle.pq_rules.proofs.Rings.{Strict}
use Rattle.pq_rules.proofs.Uniqueness.{means_one}
use Rattle.pq_memo.specs.Sound.{Memo, at}
use Rattle.pq_memo.specs.Kept.{Kept}
use Rattle.pq_memo.specs.Look.{IsOnItsRing}
use Rattle.pq_memo.specs.Table.{HasIn}
use Rattle.pq_memo.specs.aux.Written.{IsCompared}
use Rattle.pq_memo.proofs.Runs.{reads_mean}
use Rattle.pq_memo.proofs.Marks.{on_ring}

module _ {K P V : Type 0} (order : K → K → Ordering) (strict : Strict order) (m : Machine K P V) (history : List Sources) (now : ℕ)
    (table : K → Option (Memo K V)) (kept : Kept order m history now (HasIn table)) where
  in_one : (k : K) (memo : Memo K V) (ring : List K) → memo.answer ≡ Cycle ring → IsOnItsRing k memo → In k ring
  in_one k memo ring e on =
      let one : Cycle on.0 ≡ Cycle ring = sym on.1 ∙ e in
      let same : on.0 ≡ ring = cc in
      subst (λ (ks : List K). In k ks) same on.2

  -- they were verified at one revision
  at_once : (a b : K) (x y : Memo K V) → HasIn table a x → HasIn table b y → x.verified ≡ y.verified
      → (ring : List K) → x.answer ≡ Cycle ring → In a ring → In b ring → y.answer ≡ x.answer
  at_once a b x y here there v ring e i j =
      let o = kept.memos a x here in
      let r = kept.memos b y there in
      let mine : Means (at order m history x.verified) a x.answer = reads_mean (at order m history x.verified) strict a x.answer x.reads o.ruled o.reads in
      let cycle : Means (at order m history x.verified) a (Cycle ring) = subst (λ (c : Answer K V). Means (at order m history x.verified) a c) e mine in
      let on = on_ring (at order m history x.verified) strict a ring o.ruled cycle i in
      let other : Means (at order m history x.verified) b y.answer =
      subst (λ (n : ℕ). Means (at order m history n) b y.answer) (sym v) (reads_mean (at order m history y.verified) strict b y.answer y.reads r.ruled r.reads) in
      means_one (at order m history x.verified) strict b y.answer (Cycle ring) other (on.means b j) ∙ sym e

  pub mates_one : (a b : K) (x y : Memo K V) → HasIn table a x → HasIn table b y
      → IsOnItsRing a x × IsOnItsRing b y → IsOnItsRing b x × IsOnItsRing a y → y.answer ≡ x.answer
  mates_one a b x y here there own other =
      let t = (kept.memos a x here).together own.0.0 own.0.1 own.0.2 b (in_one b x own.0.0 own.0.1 other.0) in
      let u = (kept.memos b y there).together own.1.0 own.1.1 own.1.2 a (in_one a y own.1.0 own.1.1 other.1) in
      let ty : t.0 ≡ y = same_Some t.0 y (sym t.1 ∙ there) in
      let ux : u.0 ≡ x = same_Some u.0 x (sym u.1 ∙ here) in
      elim t.2 [
        | inr p ↦ ap (λ (memo : Memo K V). memo.answer) (sym ty) ∙ p.0
        | inl le ↦ elim u.2 [
          | inr q ↦ sym (ap (λ (memo : Memo K V). memo.answer) (sym ux) ∙ q.0)
          | inl ge ↦
              (let before : x.verified ≤ y.verified = subst (λ (memo : Memo K V). x.verified ≤ memo.verified) ty le in
              let after : y.verified ≤ x.verified = subst (λ (memo : Memo K V). y.verified ≤ memo.verified) ux ge in
              let once : x.verified ≡ y.verified = omega arith in
              at_once a b x y here there once own.0.0 own.0.1 own.0.2 (in_one b x own.0.0 own.0.1 other.0))
        ]
      ]

  -- so a comparison of the one's answer is one of the other's
  pub mates_compared : (a b : K) (x y : Memo K V) → HasIn table a x → HasIn table b y
      → IsOnItsRing a x × IsOnItsRing b y → IsOnItsRing b x × IsOnItsRing a y
      → (answer : Answer K V) (test : Bool) → IsCompared (HasIn table) a answer test → IsTrue test ↔ (y.answer ≡ answer)
  mates_compared a b x y here there own other answer test compared =
      let one = mates_one a b x y here there own other in
      let c = compared x here in
      (λ t. one ∙ c.0 t, λ e. c.1 (sym one ∙ e))

-- a comparison is one in a table that is the same
pub compared_as : {K V : Type 0} (before after : K → Option (Memo K V)) → ((q : K) → after q ≡ before q) → (k : K) (a b : Answer K V) → a ≡ b
    → (test : Bool) → IsCompared (HasIn before) k a test → IsCompared (HasIn after) k b test
compared_as {K} {V} before after same k a b is test compared =
    subst (λ (c : Answer K V). IsCompared (HasIn after) k c test) is (λ old h. compared old (sym (same k) ∙ h))
