-- Where no input below a key changed, everything below it is as it was: answers, questions, reads
-- and the least durability.
use Rattle.std.proofs.Common.{◌≡◌, ℕ, ◌<◌, ◌≤◌, ◌⊎◌, List, [], ◌∷◌, ◌++◌, refl, sym, ◌∙◌, ap, subst, inl, inr, Option, Some, None}
use Rattle.std.specs.declared.cmp.Ordering.{Ordering}
use Rattle.pq_inputs.specs.declared.durability.Durability.{Durability}
use Rattle.pq_inputs.specs.Sources.{File, Sources}
use Rattle.pq_inputs.specs.Changes.{level}
use Rattle.pq_rules.specs.declared.turn.Answer.{Answer}
use Rattle.pq_rules.specs.Turns.{Instance, Machine, over, text_at}
use Rattle.pq_rules.specs.Relations.{Chain, Leads}
use Rattle.pq_rules.specs.Value.{Means}
use Rattle.pq_rules.proofs.Rings.{Strict}
use Rattle.pq_memo.specs.Sound.{file_at, AsksAt, HasReads, IsBelow}
use Rattle.pq_memo.specs.Kept.{IsLeast}
use Rattle.pq_memo.proofs.Runs.{Both, reads_asked, read_answer, has_reads, asks_read, reads_still}
use Rattle.pq_memo.proofs.Carry.{carry}

chain_more : {K : Type 0} (N : K → K → Type 0) (k : K) (xs : List K) (x y : K) → Chain N k xs x → N x y → Chain N k (xs ++ x ∷ []) y
unfolding Chain
chain_more N k [] x y c n = (c, n)
chain_more N k (z ∷ zs) x y c n = (c.0, chain_more N z zs x y c.1 n)

pub leads_more : {K : Type 0} (N : K → K → Type 0) (k x y : K) → Leads N k x → N x y → Leads N k y
unfolding Leads Chain
leads_more {K} N k x y (inl e) n = inr ([], subst (λ (z : K). N z y) (sym e) n)
leads_more N k x y (inr c) n = inr (c.0 ++ x ∷ [], chain_more N k c.0 x y c.1 n)

pub leads_none : {K : Type 0} (N : K → K → Type 0) (k : K) → Leads N k k
unfolding Leads
leads_none N k = inl refl

pub leads_before : {K : Type 0} (N : K → K → Type 0) (k x y : K) → N k x → Leads N x y → Leads N k y
unfolding Leads Chain
leads_before {K} N k x y n (inl e) = inr ([], subst (λ (z : K). N k z) e n)
leads_before N k x y n (inr c) = inr (x ∷ c.0, (n, c.1))

pub leads_first : {K : Type 0} (N : K → K → Type 0) (k x : K) → Leads N k x → (k ≡ x) ⊎ ((q : K) × N k q × Leads N q x)
unfolding Leads Chain
leads_first N k x (inl e) = inl e
leads_first N k x (inr ([], c)) = inr (x, c, inl refl)
leads_first N k x (inr (y ∷ ys, c)) = inr (y, c.0, inr (ys, c.1))

-- a fact of the first key that lasts along each step holds of each key that it leads to
along_chain : {K : Type 0} (N : K → K → Type 0) (C : K → Type 0) → ((x y : K) → C x → N x y → C y)
    → (k : K) (xs : List K) (z : K) → C k → Chain N k xs z → C z
unfolding Chain
along_chain N C f k [] z c n = f k z c n
along_chain N C f k (x ∷ xs) z c n = along_chain N C f x xs z (f k x c n.0) n.1

pub along_leads : {K : Type 0} (N : K → K → Type 0) (C : K → Type 0) → ((x y : K) → C x → N x y → C y)
    → (k z : K) → C k → Leads N k z → C z
unfolding Leads
along_leads {K} N C f k z c (inl e) = subst C e c
along_leads N C f k z c (inr n) = along_chain N C f k n.0 z c n.1

pub leads_join : {K : Type 0} (N : K → K → Type 0) (k x y : K) → Leads N k x → Leads N x y → Leads N k y
leads_join N k x y a b = along_leads N (λ z. Leads N k z) (λ u w c n. leads_more N k u w c n) x y a b

-- an input whose file is the same has the same value
pub input_same : {K P V : Type 0} (order : K → K → Ordering) (m : Machine K P V) (before after : Sources) (x : K)
    → file_at before (m.file x) ≡ file_at after (m.file x) → (over order m before).input x ≡ (over order m after).input x
input_same {K} {P} {V} order m before after x e = ap m.text (by (m.file x) e)
  where
    by : (f : Option (List ℕ)) → file_at before f ≡ file_at after f → text_at before f ≡ text_at after f
    by None e = refl
    by (Some name) e = ap (λ (g : File). g.text) e

module _ {K P V : Type 0} (order : K → K → Ordering) (strict : Strict order) (m : Machine K P V) (before after : Sources)
    (k : K) (a : Answer K V) (means : Means (over order m before) k a)
    (same : (x : K) → IsBelow (over order m before) k x → file_at before (m.file x) ≡ file_at after (m.file x)) where
  abbrev was : Instance K P V
  was = over order m before

  abbrev is : Instance K P V
  is = over order m after

  -- the keys that it leads to
  abbrev pub Under : K → Type 0
  Under x = Leads (AsksAt was) k x

  pub carried : (x : K) (b : Answer K V) → Under x → Means was x b → Means is x b
  carried x b u h =
      carry order m before after strict Under (λ y q l c. leads_more (AsksAt was) k y q l c)
      (λ y l e. input_same order m before after y (same y (record { input = e; leads = l }))) x b u h

  -- each has an answer
  pub answered : (x : K) → Under x → (b : Answer K V) × Means was x b
  answered x u = along_leads (AsksAt was) (λ y. (b : Answer K V) × Means was y b)
      (λ y q c asks. let r = has_reads was y c.0 asks.ruled c.1 in
      read_answer was y c.0 r.0 q r.1 (asks_read was strict y c.0 r.0 q r.1 asks)) k x (a, means) u

  pub both : (x : K) → Under x → Both was is x
  both x u = let b = answered x u in (b.0, b.1, carried x b.0 u b.1)

  -- its reads are the same
  pub reads_same : (x : K) (b : Answer K V) (reads : List K) → 0 < m.level x → Under x → HasReads was x b reads → HasReads is x b reads
  reads_same x b reads up u r =
      reads_still order m before after strict x b reads r
      (λ q i. both q (leads_more (AsksAt was) k x q u (reads_asked was x b reads q up r i)))

  pub asks_on : (x q : K) → Under x → AsksAt was x q → AsksAt is x q
  asks_on x q u asks =
      let b = answered x u in
      let r = has_reads was x b.0 asks.ruled b.1 in
      reads_asked is x b.0 r.0 q asks.ruled (reads_same x b.0 r.0 asks.ruled u r.1) (asks_read was strict x b.0 r.0 q r.1 asks)

  pub asks_back : (x q : K) → Under x → AsksAt is x q → AsksAt was x q
  asks_back x q u asks =
      let b = answered x u in
      let r = has_reads was x b.0 asks.ruled b.1 in
      reads_asked was x b.0 r.0 q asks.ruled r.1 (asks_read is strict x b.0 r.0 q (reads_same x b.0 r.0 asks.ruled u r.1) asks)

  pub leads_on : (x y : K) → Under x → Leads (AsksAt was) x y → Leads (AsksAt is) x y
  leads_on x y u l =
      (along_leads (AsksAt was) (λ z. Under z × Leads (AsksAt is) x z)
      (λ z w c n. (leads_more (AsksAt was) k z w c.0 n, leads_more (AsksAt is) x z w c.1 (asks_on z w c.0 n)))
      x y (u, leads_none (AsksAt is) x) l).1

  pub leads_back : (x y : K) → Under x → Leads (AsksAt is) x y → Leads (AsksAt was) x y
  leads_back x y u l =
      (along_leads (AsksAt is) (λ z. Under z × Leads (AsksAt was) x z)
      (λ z w c n. let back = asks_back z w c.0 n in (leads_more (AsksAt was) k z w c.0 back, leads_more (AsksAt was) x z w c.1 back))
      x y (u, leads_none (AsksAt was) x) l).1

  pub below_on : (x y : K) → Under x → IsBelow was x y → IsBelow is x y
  below_on x y u b = record { input = b.input; leads = leads_on x y u b.leads }

  pub below_back : (x y : K) → Under x → IsBelow is x y → IsBelow was x y
  below_back x y u b = record { input = b.input; leads = leads_back x y u b.leads }

  pub same_under : (x y : K) → Under x → IsBelow was x y → file_at before (m.file y) ≡ file_at after (m.file y)
  same_under x y u b = same y (record { input = b.input; leads = leads_join (AsksAt was) k x y u b.leads })

  -- the least durability is the same
  pub least_still : (x : K) (d : Durability) → Under x → IsLeast was m before x d → IsLeast is m after x d
  least_still x d u l = record {
    lasting = λ y b.
        let back = below_back x y u b in
        subst (λ (f : File). level d ≤ level f.durability) (same_under x y u back) (l.lasting y back);
    attained = elim l.attained [
      | inl high ↦ inl high
      | inr y ↦ inr (y.0, below_on x y.0 u y.1, ap (λ (f : File). f.durability) (sym (same_under x y.0 u y.1)) ∙ y.2)
    ];
  }
