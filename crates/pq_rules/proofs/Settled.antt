-- Within a level: the reads of a rule are determined, so a key settles in at most one value
-- (`settled_one`) and has at most one next key (`next_single`). Keys that ask each other round do
-- not settle (`round_unsettled`): each would settle with a height less than the one before.
use Rattle.std.proofs.Common.{◌≡◌, ℕ, zero, suc, ◌+◌, ◌⊎◌, ◌<◌, ◌≤◌, List, [], ◌∷◌, refl, sym, ◌∙◌, ap, subst, inl, inr, arith}
use Rattle.pq_rules.specs.declared.turn.Turn.{Turn}
use Rattle.pq_rules.specs.declared.turn.Turn.TheVariants.{Ask, Done}
use Rattle.pq_rules.specs.declared.turn.Answer.{Answer}
use Rattle.pq_rules.specs.declared.turn.Answer.TheVariants.{Value}
use Rattle.pq_rules.specs.Turns.{Instance}
use Rattle.pq_rules.specs.Relations.{Each}
use Rattle.pq_rules.specs.Value.{Trace, Follows, Right, Settles, IsSettled, Asks, Unsettled, Next}

pub each_map : {A : Type 0} (P Q : A → Type 0) (xs : List A) → ((x : A) → P x → Q x) → Each P xs → Each Q xs
each_map P Q [] f h = tt
each_map P Q (x ∷ xs) f h = (f x h.0, each_map P Q xs f h.1)

pub pair_path : {A B : Type 0} (e f : A × B) → e.0 ≡ f.0 → e.1 ≡ f.1 → e ≡ f
pair_path (a, b) (c, d) p q = let p' : a ≡ c = p in let q' : b ≡ d = q in cc

-- the turn asks what the relation answers
abbrev pub Answered : {K P V : Type 0} → (K × Answer K V → Type 0) → Turn K P V → Type 0
Answered {K} {P} {V} R x = (e : K × Answer K V) × (p : P) × (x ≡ Ask e.0 p) × R e

-- two runs from one turn, by answers that agree, are one, or the shorter asks what the longer read
pub meet : {K P V : Type 0} (m : Instance K P V) (R S : K × Answer K V → Type 0)
    → ((e f : K × Answer K V) → R e → S f → e.0 ≡ f.0 → e ≡ f)
    → (es fs : Trace K V) (t u x y : Turn K P V) → t ≡ u
    → Follows m t es x → Follows m u fs y → Each R es → Each S fs
    → ((x ≡ y) × (es ≡ fs)) ⊎ (Answered S x ⊎ Answered R y)
unfolding Follows
meet m R S agree [] [] t u x y tu fx gy re sf = inl (sym fx ∙ tu ∙ gy, refl)
meet m R S agree [] (f ∷ fs) t u x y tu fx gy re sf =
    inr (inl (f, gy.0, sym fx ∙ tu ∙ gy.1, sf.0))
meet m R S agree (e ∷ es) [] t u x y tu fx gy re sf =
    inr (inr (e, fx.0, sym gy ∙ sym tu ∙ fx.1, re.0))
meet {K} {P} {V} m R S agree (e ∷ es) (f ∷ fs) t u x y tu fx gy re sf =
    let left : Turn K P V = Ask e.0 fx.0 in
    let right : Turn K P V = Ask f.0 gy.0 in
    let asked : left ≡ right = sym fx.1 ∙ tu ∙ gy.1 in
    let same_key : e.0 ≡ f.0 = cc in
    let same_part : fx.0 ≡ gy.0 = cc in
    let same : e ≡ f = agree e f re.0 sf.0 same_key in
    let same_answer : e.1 ≡ f.1 = ap (λ (d : K × Answer K V). d.1) same in
    let next : m.advance fx.0 e.1 ≡ m.advance gy.0 f.1 = cc in
    elim (meet m R S agree es fs (m.advance fx.0 e.1) (m.advance gy.0 f.1) x y next fx.2 gy.2 re.1 sf.1) [
      | inl both ↦ inl (both.0, let tails : es ≡ fs = both.1 in cc)
      | inr other ↦ inr other
    ]

-- what is below a level: its answers are determined
pub record Lower {K P V : Type 0} (m : Instance K P V) (lower : K → Answer K V → Type 0) (l : ℕ) : Type 0 where
  pub below : (q : K) (a : Answer K V) → lower q a → m.level q < l
  pub one : (q : K) (a b : Answer K V) → lower q a → lower q b → a ≡ b

pub right_agrees : {K P V : Type 0} (m : Instance K P V) (lower : K → Answer K V → Type 0) (l : ℕ)
    → Lower m lower l → (S T : K → V → Type 0)
    → ((k : K) (v w : V) → S k v → T k w → v ≡ w)
    → (e f : K × Answer K V) → Right m lower S l e → Right m lower T l f → e.0 ≡ f.0 → e ≡ f
unfolding Right
right_agrees {K} {P} {V} m lower l low S T unique e f (inl r) (inl s) k =
    let s2 : lower e.0 f.1 = subst (λ (x : K). lower x f.1) (sym k) s in
    pair_path e f k (low.one e.0 e.1 f.1 r s2)
right_agrees m lower l low S T unique e f (inl r) (inr s) k =
    let under : m.level e.0 < l = low.below e.0 e.1 r in
    let same : m.level e.0 ≡ m.level f.0 = ap m.level k in
    let at : m.level f.0 ≡ l = s.1 in
    absurd (omega arith)
right_agrees m lower l low S T unique e f (inr r) (inl s) k =
    let under : m.level f.0 < l = low.below f.0 f.1 s in
    let same : m.level e.0 ≡ m.level f.0 = ap m.level k in
    let at : m.level e.0 ≡ l = r.1 in
    absurd (omega arith)
right_agrees {K} {P} {V} m lower l low S T unique e f (inr r) (inr s) k =
    let t : T e.0 s.0 = subst (λ (x : K). T x s.0) (sym k) s.3 in
    let same : r.0 ≡ s.0 = unique e.0 r.0 s.0 r.3 t in
    pair_path e f k (r.2 ∙ ap (λ (v : V). Value v) same ∙ sym s.2)

pub settles_unique : {K P V : Type 0} (m : Instance K P V) (lower : K → Answer K V → Type 0) (l : ℕ)
    → Lower m lower l → (h j : ℕ) (k : K) (v w : V)
    → Settles m lower l h k v → Settles m lower l j k w → v ≡ w
unfolding Settles
settles_unique m lower l low zero j k v w s t = absurd s
settles_unique m lower l low (suc h) zero k v w s t = absurd t
settles_unique {K} {P} {V} m lower l low (suc h) (suc j) k v w s t =
    elim (meet m (Right m lower (Settles m lower l h) l) (Right m lower (Settles m lower l j) l)
    (right_agrees m lower l low (Settles m lower l h) (Settles m lower l j)
    (λ q a b. settles_unique m lower l low h j q a b))
    s.0 t.0 (m.start k) (m.start k) (Done v) (Done w) refl s.1 t.1 s.2 t.2) [
      | inl both ↦ let e = both.0 in cc
      | inr (inl other) ↦ let e = other.2 in cc
      | inr (inr other) ↦ let e = other.2 in cc
    ]

-- a higher tree will do too
pub settles_up : {K P V : Type 0} (m : Instance K P V) (lower : K → Answer K V → Type 0) (l : ℕ)
    (h j : ℕ) (k : K) (v : V) → h ≤ j → Settles m lower l h k v → Settles m lower l j k v
unfolding Settles Right
settles_up m lower l zero j k v le s = absurd s
settles_up m lower l (suc h) zero k v le s = absurd (omega arith)
settles_up {K} {P} {V} m lower l (suc h) (suc j) k v le s = (
  s.0,
  s.1,
  each_map (Right m lower (Settles m lower l h) l) (Right m lower (Settles m lower l j) l) s.0
      (λ e r. elim r [
        | inl a ↦ inl a
        | inr b ↦ inr (b.0, b.1, b.2, settles_up m lower l h j e.0 b.0 (omega arith) b.3)
      ]) s.2,
)

-- the right answers to settled keys have one height for all
pub one_height : {K P V : Type 0} (m : Instance K P V) (lower : K → Answer K V → Type 0) (l : ℕ)
    (es : Trace K V) → Each (Right m lower (IsSettled m lower l) l) es
    → (h : ℕ) × Each (Right m lower (Settles m lower l h) l) es
unfolding Right IsSettled
one_height m lower l [] r = (0, tt)
one_height {K} {P} {V} m lower l (e ∷ es) r =
    let rest = one_height m lower l es r.1 in
    let up : (j : ℕ) → rest.0 ≤ j → Each (Right m lower (Settles m lower l j) l) es =
    λ j le. each_map (Right m lower (Settles m lower l rest.0) l) (Right m lower (Settles m lower l j) l) es
    (λ f d. elim d [
      | inl a ↦ inl a
      | inr b ↦ inr (b.0, b.1, b.2, settles_up m lower l rest.0 j f.0 b.0 le b.3)
    ]) rest.1 in
    elim r.0 [
      | inl a ↦ (rest.0, (inl a, rest.1))
      | inr b ↦ let j : ℕ = b.3.0 + rest.0 in
          (j, (inr (b.0, b.1, b.2, settles_up m lower l b.3.0 j e.0 b.0 (omega arith) b.3.1), up j (omega arith)))
    ]

pub settled_by : {K P V : Type 0} (m : Instance K P V) (lower : K → Answer K V → Type 0) (l : ℕ)
    (k : K) (v : V) (es : Trace K V) → Follows m (m.start k) es (Done v)
    → Each (Right m lower (IsSettled m lower l) l) es → IsSettled m lower l k v
unfolding IsSettled Settles
settled_by m lower l k v es f r =
    let h = one_height m lower l es r in (suc h.0, (es, f, h.1))

pub settled_trace : {K P V : Type 0} (m : Instance K P V) (lower : K → Answer K V → Type 0) (l : ℕ)
    (h : ℕ) (es : Trace K V) → Each (Right m lower (Settles m lower l h) l) es
    → Each (Right m lower (IsSettled m lower l) l) es
unfolding Right IsSettled
settled_trace m lower l h es r =
    each_map (Right m lower (Settles m lower l h) l) (Right m lower (IsSettled m lower l) l) es
    (λ e d. elim d [ inl a ↦ inl a | inr b ↦ inr (b.0, b.1, b.2, (h, b.3)) ]) r

-- a right read of a reader of level l is not of an unsettled key of that level
not_told_settled : {K P V : Type 0} (m : Instance K P V) (lower : K → Answer K V → Type 0) (l : ℕ) → Lower m lower l
    → (e : K × Answer K V) → Right m lower (IsSettled m lower l) l e
    → (q : K) → q ≡ e.0 → m.level q ≡ l → Unsettled m lower l q → ⊥
unfolding Right Unsettled IsSettled
not_told_settled {K} {P} {V} m lower l low e (inl a) q same at un =
    let under : m.level e.0 < l = low.below e.0 e.1 a in
    let level : m.level q ≡ m.level e.0 = ap m.level same in
    omega arith
not_told_settled {K} {P} {V} m lower l low e (inr b) q same at un =
    un b.0 (b.3.0, subst (λ (x : K). Settles m lower l b.3.0 x b.0) (sym same) b.3.1)

-- a settled key that asks a key of its level at last has a higher tree than that one
asked_below : {K P V : Type 0} (m : Instance K P V) (lower : K → Answer K V → Type 0) (l : ℕ) → Lower m lower l
    → (h : ℕ) (k q : K) (v : V) → Settles m lower l (suc h) k v → Asks m lower l k q → m.level q ≡ l
    → (u : V) × Settles m lower l h q u
unfolding Settles Asks Right IsSettled
asked_below {K} {P} {V} m lower l low h k q v s a at =
    elim (meet m (Right m lower (Settles m lower l h) l) (Right m lower (IsSettled m lower l) l)
    (right_agrees m lower l low (Settles m lower l h) (IsSettled m lower l)
    (λ x b c p r. settles_unique m lower l low h r.0 x b c p r.1))
    s.0 a.0 (m.start k) (m.start k) (Done v) (Ask q a.1) refl s.1 a.2 s.2 a.3) [
      | inl both ↦ let e = both.0 in cc
      | inr (inl other) ↦ let e = other.2 in cc
      | inr (inr other) ↦
          let e : Ask q a.1 ≡ Ask other.0.0 other.1 = other.2 in
          let same : q ≡ other.0.0 = cc in
          elim other.3 [
            | inl b ↦
                let under : m.level other.0.0 < l = low.below other.0.0 other.0.1 b in
                let level : m.level q ≡ m.level other.0.0 = ap m.level same in
                absurd (omega arith)
            | inr b ↦ (b.0, subst (λ (x : K). Settles m lower l h x b.0) (sym same) b.3)
          ]
    ]

-- keys of a level each of which asks another of them are not settled
pub round_unsettled : {K P V : Type 0} (m : Instance K P V) (lower : K → Answer K V → Type 0) (l : ℕ) → Lower m lower l
    → (C : K → Type 0) → ((k : K) → C k → (q : K) × Asks m lower l k q × (m.level q ≡ l) × C q)
    → (h : ℕ) (k : K) (v : V) → C k → Settles m lower l h k v → ⊥
unfolding Settles
round_unsettled m lower l low C on zero k v c s = s
round_unsettled m lower l low C on (suc h) k v c s =
    let step = on k c in
    let down = asked_below m lower l low h k step.0 v s step.1 step.2 in
    round_unsettled m lower l low C on h step.0 down.0 step.3 down.1

next_unsettled_at : {K P V : Type 0} (m : Instance K P V) (lower : K → Answer K V → Type 0) (l : ℕ) → Lower m lower l
    → (k q : K) → Next m lower l k q → (h : ℕ) (v : V) → Settles m lower l h k v → ⊥
unfolding Next Unsettled IsSettled Settles
next_unsettled_at m lower l low k q n zero v s = s
next_unsettled_at m lower l low k q n (suc h) v s =
    let down = asked_below m lower l low h k q v s n.0 n.1 in n.2 down.0 (h, down.1)

pub next_unsettled : {K P V : Type 0} (m : Instance K P V) (lower : K → Answer K V → Type 0) (l : ℕ) → Lower m lower l
    → (k q : K) → Next m lower l k q → Unsettled m lower l k
unfolding Unsettled IsSettled
next_unsettled m lower l low k q n v s = next_unsettled_at m lower l low k q n s.0 v s.1

pub settled_one : {K P V : Type 0} (m : Instance K P V) (lower : K → Answer K V → Type 0) (l : ℕ) → Lower m lower l
    → (x : K) (v w : V) → IsSettled m lower l x v → IsSettled m lower l x w → v ≡ w
unfolding IsSettled
settled_one m lower l low x v w p t = settles_unique m lower l low p.0 t.0 x v w p.1 t.1

pub next_single : {K P V : Type 0} (m : Instance K P V) (lower : K → Answer K V → Type 0) (l : ℕ) → Lower m lower l
    → (k q r : K) → Next m lower l k q → Next m lower l k r → q ≡ r
unfolding Next Asks
next_single {K} {P} {V} m lower l low k q r a b =
    elim (meet m (Right m lower (IsSettled m lower l) l) (Right m lower (IsSettled m lower l) l)
    (right_agrees m lower l low (IsSettled m lower l) (IsSettled m lower l)
    (settled_one m lower l low))
    a.0.0 b.0.0 (m.start k) (m.start k) (Ask q a.0.1) (Ask r b.0.1) refl a.0.2 b.0.2 a.0.3 b.0.3) [
      | inl both ↦ let e : Ask q a.0.1 ≡ Ask r b.0.1 = both.0 in cc
      | inr (inl other) ↦
          let e : Ask q a.0.1 ≡ Ask other.0.0 other.1 = other.2 in
          absurd (not_told_settled m lower l low other.0 other.3 q (cc) a.1 a.2)
      | inr (inr other) ↦
          let e : Ask r b.0.1 ≡ Ask other.0.0 other.1 = other.2 in
          absurd (not_told_settled m lower l low other.0 other.3 r (cc) b.1 b.2)
    ]
