-- The answer of a key: what a query evaluates to, cycles included (the Salsa book, "Cycle
-- handling"). The definition names no order of evaluation.
--
-- 1. Answers come by levels. A rule reads keys of its own level and of lower ones. So the answers
--    of level l are defined from those of the lower levels (`Below`); `Means` takes a key at its
--    level.
-- 2. A key of level 0 is an input: its answer is its value at the sources.
-- 3. A key above is settled (`IsSettled`) if its rule ends in a value by finitely many right reads.
--    A read is right with any answer of a lower level, or with the value of a settled key of the
--    level.
-- 4. A key that is not settled has at most one next key (`Next`): by right reads its rule comes to
--    ask a key of the level that is not settled either.
-- 5. Next keys lead into one ring: the participants of a cycle. The ring, from its least key on, is
--    the answer of each key that leads into it.
--
-- `Answers` puts 2 to 5 together. A caller never has to show that a key is not settled: the laws of
-- src/laws.rt characterise cycles by `Waits`, which speaks of right answers alone.
use Rattle.std.specs.Prelude.{ℕ, zero, suc, ◌≡◌, ◌⊎◌, ◌<◌, ◌≤◌, List, [], ◌∷◌}
use Rattle.pq_rules.specs.declared.turn.Turn.{Turn}
use Rattle.pq_rules.specs.declared.turn.Turn.TheVariants.{Ask, Done}
use Rattle.pq_rules.specs.declared.turn.Answer.{Answer}
use Rattle.pq_rules.specs.declared.turn.Answer.TheVariants.{Value, Cycle}
use Rattle.pq_rules.specs.Turns.{Instance}
use Rattle.pq_rules.specs.Relations.{Each, IsRing, LeadsInto}

-- `Trace K V` is the list of reads of a run of a rule: each key that was asked, with its answer
abbrev pub Trace : Type 0 → Type 0 → Type 0
Trace K V = List (K × Answer K V)

-- `Follows m t es u` is that the turn `t`, continued by the reads `es`, comes to the turn `u`
unfoldable pub Follows : {K P V : Type 0} → Instance K P V → Turn K P V → Trace K V → Turn K P V → Type 0
Follows m t [] u = t ≡ u
Follows {K} {P} {V} m t (e ∷ es) u = (p : P) × (t ≡ Ask e.0 p) × Follows m (m.advance p e.1) es u

-- `Right m lower same l e` is that `e` is a right read for a reader of level `l`: its answer is one
-- of `lower`, the answers of lower levels, or its key is of level `l` and its answer a value by
-- `same`
unfoldable pub Right : {K P V : Type 0} → Instance K P V → (K → Answer K V → Type 0) → (K → V → Type 0) → ℕ → K × Answer K V → Type 0
Right {K} {P} {V} m lower same l e =
    (lower e.0 e.1) ⊎ ((v : V) × (m.level e.0 ≡ l) × (e.1 ≡ Value v) × same e.0 v)

-- `Settles m lower l h k v` is that the rule of `k` ends in `v` by right reads, where the keys read
-- at level `l` settle so with a height less than `h`
unfoldable pub Settles : {K P V : Type 0} → Instance K P V → (K → Answer K V → Type 0) → ℕ → ℕ → K → V → Type 0
Settles m lower l zero k v = ⊥
Settles {K} {P} {V} m lower l (suc h) k v =
    (es : Trace K V) × Follows m (m.start k) es (Done v) × Each (Right m lower (Settles m lower l h) l) es

-- `IsSettled m lower l k v` is that `k` settles in `v`, with some height
unfoldable pub IsSettled : {K P V : Type 0} → Instance K P V → (K → Answer K V → Type 0) → ℕ → K → V → Type 0
IsSettled m lower l k v = (h : ℕ) × Settles m lower l h k v

-- `Asks m lower l k q` is that the rule of `k` comes, by right reads, to ask `q`
unfoldable pub Asks : {K P V : Type 0} → Instance K P V → (K → Answer K V → Type 0) → ℕ → K → K → Type 0
Asks {K} {P} {V} m lower l k q =
    (es : Trace K V) × (p : P) × Follows m (m.start k) es (Ask q p)
    × Each (Right m lower (IsSettled m lower l) l) es

-- `Unsettled m lower l k` is that `k` settles in no value
unfoldable pub Unsettled : {K P V : Type 0} → Instance K P V → (K → Answer K V → Type 0) → ℕ → K → Type 0
Unsettled {K} {P} {V} m lower l k = (v : V) → IsSettled m lower l k v → ⊥

-- `Next m lower l k q` is that `k` asks `q`, a key of level `l` that is not settled. A right read
-- of level `l` is of a settled key, so `q` is the first key that `k` asks which is not.
unfoldable pub Next : {K P V : Type 0} → Instance K P V → (K → Answer K V → Type 0) → ℕ → K → K → Type 0
Next m lower l k q = Asks m lower l k q × (m.level q ≡ l) × Unsettled m lower l q

-- `Answers m lower l k a` is that `a` is the answer of `k`, a key of level `l`, where `lower` are
-- the answers of the lower levels
unfoldable pub Answers : {K P V : Type 0} → Instance K P V → (K → Answer K V → Type 0) → ℕ → K → Answer K V → Type 0
Answers m lower zero k a = a ≡ Value (m.input k)
Answers m lower (suc l) k (Value v) = IsSettled m lower (suc l) k v
Answers m lower (suc l) k (Cycle ring) =
    IsRing m.order (Next m lower (suc l)) ring × LeadsInto (Next m lower (suc l)) k ring

-- `Below m l k a` is that `k` is of a level below `l` and that `a` is its answer
unfoldable pub Below : {K P V : Type 0} → Instance K P V → ℕ → K → Answer K V → Type 0
Below m zero k a = ⊥
Below m (suc l) k a =
    ((m.level k < l) × Below m l k a) ⊎ ((m.level k ≡ l) × Answers m (Below m l) l k a)

-- `Means m k a` is that `a` is the answer of `k` at the sources of `m`
unfoldable pub Means : {K P V : Type 0} → Instance K P V → K → Answer K V → Type 0
Means m k a = Answers m (Below m (m.level k)) (m.level k) k a

-- `RightRead m l e` is that `e` is a right read for a reader of level `l`, in terms of answers
-- alone: its key is of no higher level, its answer is the key's, and a value where the key is of
-- level `l`
pub record RightRead {K P V : Type 0} (m : Instance K P V) (l : ℕ) (e : K × Answer K V) : Type 0 where
  pub no_higher : m.level e.0 ≤ l
  pub means : Means m e.0 e.1
  pub value : m.level e.0 ≡ l → (v : V) × (e.1 ≡ Value v)

-- `ComesBy m k es u` is that the rule of `k` comes to the turn `u` by the reads `es`, all right
pub record ComesBy {K P V : Type 0} (m : Instance K P V) (k : K) (es : Trace K V) (u : Turn K P V) : Type 0 where
  pub follows : Follows m (m.start k) es u
  pub told : Each (RightRead m (m.level k)) es

-- `ComesTo m k u` is that the rule of `k` comes to the turn `u` by some right reads
abbrev pub ComesTo : {K P V : Type 0} → Instance K P V → K → Turn K P V → Type 0
ComesTo {K} {P} {V} m k u = (es : Trace K V) × ComesBy m k es u

-- `Waits m k q` is that the rule of `k` comes to ask `q`, a key of its own level
unfoldable pub Waits : {K P V : Type 0} → Instance K P V → K → K → Type 0
Waits {K} {P} {V} m k q = (m.level q ≡ m.level k) × ((p : P) × ComesTo m k (Ask q p))
