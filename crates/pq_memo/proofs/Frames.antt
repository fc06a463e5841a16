-- The steps of a key that is being brought up to date, one lemma for each: it walks, it asks, it
-- goes on, it ends, it passes a cycle on, and the keys from one on are a ring. They are the same
-- for an engine with one stack and for a core with many.
use Rattle.std.proofs.Common.{◌≡◌, ℕ, ◌+◌, ◌-◌, ◌<◌, ◌≤◌, List, [], ◌∷◌, ◌++◌, length, get_or, slice_get, Option, Some, false, refl, sym, ◌∙◌, ap, subst, inl, inr, arith}
use Rattle.std.specs.declared.cmp.Ordering.{Ordering}
use Rattle.std.proofs.lemmas.Option.{same_Some, slice_get_within, slice_get-get_or}
use Rattle.pq_inputs.specs.Sources.{Sources, Table}
use Rattle.pq_inputs.specs.Changes.{level}
use Rattle.pq_inputs.proofs.Histories.{last_change_of_within}
use Rattle.pq_rules.specs.declared.turn.Turn.{Turn}
use Rattle.pq_rules.specs.declared.turn.Turn.TheVariants.{Ask, Done}
use Rattle.pq_rules.specs.declared.turn.Answer.{Answer}
use Rattle.pq_rules.specs.declared.turn.Answer.TheVariants.{Value, Cycle}
use Rattle.pq_rules.specs.Turns.{Instance, Machine, over}
use Rattle.pq_rules.specs.Relations.{Each, In}
use Rattle.pq_rules.specs.Value.{Trace, Follows, Means, RightRead, ComesBy, ComesTo}
use Rattle.pq_rules.proofs.Rings.{Strict, each_in}
use Rattle.pq_rules.proofs.Characterisation.{each_append}
use Rattle.pq_rules.proofs.ListLemmas.{each_from, split}
use Rattle.pq_memo.specs.Sound.{Memo, sources_at, at, asked_keys, HasReads}
use Rattle.pq_memo.specs.Kept.{Kept}
use Rattle.pq_memo.specs.Look.{IsUpToDate, HasLapsed, IsStill, IsByReads}
use Rattle.pq_memo.specs.aux.Tests.{IsReachedAt}
use Rattle.pq_memo.specs.Table.{memo_at, HasIn, KeptOver}
use Rattle.pq_memo.specs.declared.table.look.Why.{Why}
use Rattle.pq_memo.specs.declared.table.look.Why.TheVariants.{Fresh, Changed, Ring}
use Rattle.pq_memo.specs.Frames.{Came, Sits, WalksAt}
use Rattle.pq_memo.specs.Steps.{IsWhy}
use Rattle.pq_memo.specs.aux.Frames.{IsCycleRead, IsReadAnswer, Passes}
use Rattle.pq_memo.proofs.Reading.{now_files}
use Rattle.pq_memo.proofs.Runs.{reads_mean}
use Rattle.pq_memo.proofs.Marks.{on_ring}
use Rattle.pq_memo.proofs.Leasts as leasts
use Rattle.pq_memo.proofs.Looks as looks
use Rattle.pq_memo.proofs.Makes as makes

pub keys_push : {K V : Type 0} (es : Trace K V) (q : K) (a : Answer K V) → asked_keys (es ++ (q, a) ∷ []) ≡ asked_keys es ++ q ∷ []
keys_push [] q a = refl
keys_push (e ∷ es) q a = ap (λ ks. e.0 ∷ ks) (keys_push es q a)

follows_more : {K P V : Type 0} (s : Instance K P V) (t : Turn K P V) (es : Trace K V) (q : K) (p : P) (a : Answer K V)
    → Follows s t es (Ask q p) → Follows s t (es ++ (q, a) ∷ []) (s.advance p a)
unfolding Follows
follows_more s t [] q p a f = (p, f, refl)
follows_more s t (e ∷ es) q p a f = (f.0, f.1, follows_more s (s.advance f.0 e.1) es q p a f.2)

module _ {K P V : Type 0} (order : K → K → Ordering) (strict : Strict order) (m : Machine K P V) (history : List Sources) (now : ℕ)
    (counted : length history ≡ now + 1) (table : K → Option (Memo K V)) (kept : Kept order m history now (HasIn table)) where
  abbrev s : Instance K P V
  s = at order m history now

  abbrev Sitting : K → K → P → List K → Type 0
  Sitting k q p front = Sits order m history now (HasIn table) k q p front

  -- a walk has come to the read at its place
  pub walks_at : (k : K) (place : ℕ) (q : K) (memo : Memo K V) → IsByReads history now (HasIn table) k memo
      → IsReachedAt m history now (HasIn table) memo.verified memo.reads place q → WalksAt order m history now (HasIn table) k place q
  walks_at k place q memo by at =
      let within : place < length memo.reads = slice_get_within memo.reads place q at.there in
      let s = split memo.reads place within in
      let item : s.item ≡ q = sym (s.at q) ∙ sym (same_Some q (get_or memo.reads place q) (sym at.there ∙ slice_get-get_or memo.reads place q within)) in
      let whole : memo.reads ≡ s.front ++ q ∷ s.back = s.whole ∙ ap (λ y. s.front ++ y ∷ s.back) item in
      let still : Each (IsStill m history now (HasIn table) memo.verified) s.front =
      subst (λ (ks : List K). Each (IsStill m history now (HasIn table) memo.verified) ks) s.taken at.still in
      let w = looks.walk_asked order strict m history now counted table kept k memo by.old.has s.front q s.back whole still in
      let sits : Sitting k q w.1 s.front = record {
        ruled = (kept.memos k memo by.old.has).ruled;
        lapsed = λ other h. subst (λ (x : Memo K V). HasLapsed history x) (same_Some memo other (sym by.old.has ∙ h)) by.lapsed;
        run = w.0;
        comes = w.2;
        reads = w.3;
        fresh = each_from (IsUpToDate m now (HasIn table)) s.front
            (λ x i. (each_in (IsStill m history now (HasIn table) memo.verified) x s.front still i).up_to_date);
      } in
      record {
        memo = memo;
        has = by.old.has;
        there = at.there;
        still = at.still;
        part = w.1;
        sits = subst (λ (ks : List K). Sitting k q w.1 ks) (sym s.taken) sits;
      }

  -- the rule gets the answer of what it asked
  pub told_on : (k q : K) (p : P) (front : List K) (a : Answer K V) → Sitting k q p front → RightRead s (m.level k) (q, a)
      → (run : Trace K V) × ComesBy s k run (m.advance p a) × (asked_keys run ≡ front ++ q ∷ [])
  told_on k q p front a sits told = (
    sits.run ++ (q, a) ∷ [],
    record {
      follows = follows_more s (m.start k) sits.run q p a sits.comes.follows;
      told = each_append (RightRead s (m.level k)) sits.run ((q, a) ∷ []) sits.comes.told (told, tt);
    },
    keys_push sits.run q a ∙ ap (λ ks. ks ++ q ∷ []) sits.reads,
  )

  fresh_on : (q : K) (front : List K) → Each (IsUpToDate m now (HasIn table)) front → IsUpToDate m now (HasIn table) q
      → Each (IsUpToDate m now (HasIn table)) (front ++ q ∷ [])
  fresh_on q front each up = each_append (IsUpToDate m now (HasIn table)) front (q ∷ []) each (up, tt)

  -- it comes to the next turn
  pub came_on : (k q : K) (p : P) (front : List K) (a : Answer K V) → Sitting k q p front → RightRead s (m.level k) (q, a)
      → IsUpToDate m now (HasIn table) q → Came order m history now (HasIn table) k (m.advance p a) (front ++ q ∷ [])
  came_on k q p front a sits told up =
      let on = told_on k q p front a sits told in
      record { ruled = sits.ruled; lapsed = sits.lapsed; run = on.0; comes = on.1; reads = on.2; fresh = fresh_on q front sits.fresh up }

  -- the key of a cycle of its level passes it on; it does not stand on that ring
  pub passed_on : (k q : K) (p : P) (front : List K) (ring : List K) (read : Memo K V) → Sitting k q p front
      → m.level q ≡ m.level k → HasIn table q read → read.verified ≡ now → read.answer ≡ Cycle ring
      → HasReads s k (Cycle ring) (front ++ q ∷ []) × Each (IsUpToDate m now (HasIn table)) (front ++ q ∷ []) × (In k ring → ⊥)
  passed_on k q p front ring read sits same has fresh cycle =
      let means : Means s q (Cycle ring) = subst (λ (a : Answer K V). Means s q a) cycle (makes.now_right order strict m history now table kept q read has fresh) in
      let reads : HasReads s k (Cycle ring) (front ++ q ∷ []) = (sits.run, q, p, sits.comes, ap (λ ks. ks ++ q ∷ []) (sym sits.reads), same, means) in
      (reads, fresh_on q front sits.fresh (inr (read, has, fresh)), off reads means)
    where
      off : HasReads s k (Cycle ring) (front ++ q ∷ []) → Means s q (Cycle ring) → In k ring → ⊥
      off reads means i =
          let mine : Means s k (Cycle ring) = reads_mean s strict k (Cycle ring) (front ++ q ∷ []) sits.ruled reads in
          let on = on_ring s strict k ring sits.ruled mine i in
          let n = leasts.ring_reads s strict m (sources_at history now) ring on k (front ++ q ∷ []) i reads in
          let last : (front ≡ asked_keys n.run) × (q ≡ n.next) = leasts.last_one s strict m (sources_at history now) ring on front (asked_keys n.run) q n.next n.whole in
          let there : In q ring = subst (λ (x : K). In x ring) (sym last.1) n.round in
          let t = (kept.memos q read has).together ring cycle there k i in
          let lapsed = sits.lapsed t.0 t.1 in
          elim t.2 [
            | inl le ↦
                (let first : read.verified ≤ t.0.verified = le in
                let v : read.verified ≡ now = fresh in
                let late : t.0.verified < lapsed.0 = lapsed.2 in
                let within : lapsed.0 ≤ now = last_change_of_within history now t.0.durability lapsed.0 counted lapsed.1 in
                omega arith)
            | inr x ↦
                (let late : t.0.verified < lapsed.0 = lapsed.2 in
                let c = lapsed.1.happened (lapsed.0 - 1) (omega arith) in
                let within : lapsed.0 ≤ now = last_change_of_within history now t.0.durability lapsed.0 counted lapsed.1 in
                let v : read.verified ≡ now = fresh in
                let le : level read.durability ≤ level t.0.durability = x.1 in
                x.2 (lapsed.0 - 1) (omega arith) (omega arith) (record {
                  name = c.name;
                  change = c.change;
                  lasting = let l = c.lasting in omega arith;
                }))
          ]

-- a rule that has ended has these reads, over the sources now
pub came_reads : {K P V : Type 0} (order : K → K → Ordering) (m : Machine K P V) (history : List Sources) (now : ℕ) (files : Sources)
    → slice_get history now ≡ Some files → (Has : K → Memo K V → Type 0) (k : K) (turn : Turn K P V) (v : V) (front : List K)
    → Came order m history now Has k turn front → turn ≡ Done v → HasReads (over order m files) k (Value v) front
came_reads {K} {P} {V} order m history now files latest Has k turn v front came ends =
    subst (λ (s : Sources). HasReads (over order m s) k (Value v) front) (now_files history now files latest)
    (came.run, subst (λ (t : Turn K P V). ComesBy (at order m history now) k came.run t) ends came.comes, sym came.reads)

-- a key that passes a cycle on, over the sources now
pub record PassesOn {K P V : Type 0} (order : K → K → Ordering) (m : Machine K P V) (files : Sources) (now : ℕ) (Has : K → Memo K V → Type 0)
    (k : K) (answer : Answer K V) (reads : List K) : Type 0 where
  pub reads_now : HasReads (over order m files) k answer reads
  pub fresh : Each (IsUpToDate m now Has) reads
  pub off : (ring : List K) → answer ≡ Cycle ring → In k ring → ⊥

pub passes_on : {K P V : Type 0} (order : K → K → Ordering) → Strict order → (m : Machine K P V) (inputs : Table)
    → length inputs.history ≡ inputs.revision + 1 → slice_get inputs.history inputs.revision ≡ Some inputs.files
    → (places : List (K × Option (Memo K V))) → KeptOver order m inputs places
    → (k q : K) (p : P) (front : List K) (answer : Answer K V)
    → Sits order m inputs.history inputs.revision (HasIn (memo_at order places)) k q p front
    → IsCycleRead m inputs.revision (HasIn (memo_at order places)) k q answer
    → PassesOn order m inputs.files inputs.revision (HasIn (memo_at order places)) k answer (front ++ q ∷ [])
passes_on {K} {P} {V} order strict m inputs counted latest places kept k q p front answer sits read =
    let w = passed_on order strict m inputs.history inputs.revision counted (memo_at order places) kept k q p front read.ring read.read sits read.level read.has read.verified read.read_is in
    record {
      reads_now = subst (λ (s : Sources). HasReads (over order m s) k answer (front ++ q ∷ [])) (now_files inputs.history inputs.revision inputs.files latest)
          (subst (λ (a : Answer K V). HasReads (at order m inputs.history inputs.revision) k a (front ++ q ∷ [])) (sym read.answer_is) w.0);
      fresh = w.1;
      off = λ ring e i.
          let one : Cycle read.ring ≡ Cycle ring = sym read.answer_is ∙ e in
          let same : ring ≡ read.ring = cc in
          w.2 (subst (λ (ks : List K). In k ks) same i);
    }

-- the next turn, as a call has it
pub came_next : {K P V : Type 0} (order : K → K → Ordering) → Strict order → (m : Machine K P V) (inputs : Table)
    → length inputs.history ≡ inputs.revision + 1
    → (places : List (K × Option (Memo K V))) → KeptOver order m inputs places
    → (k q : K) (p : P) (front reads : List K) (a : Answer K V) (turn : Turn K P V)
    → Sits order m inputs.history inputs.revision (HasIn (memo_at order places)) k q p front
    → RightRead (at order m inputs.history inputs.revision) (m.level k) (q, a)
    → IsUpToDate m inputs.revision (HasIn (memo_at order places)) q
    → turn ≡ m.advance p a → reads ≡ front ++ q ∷ []
    → Came order m inputs.history inputs.revision (HasIn (memo_at order places)) k turn reads
came_next {K} {P} {V} order strict m inputs counted places kept k q p front reads a turn sits told up is all =
    subst (λ (t : Turn K P V). Came order m inputs.history inputs.revision (HasIn (memo_at order places)) k t reads) (sym is)
    (subst (λ (l : List K). Came order m inputs.history inputs.revision (HasIn (memo_at order places)) k (m.advance p a) l) (sym all)
    (came_on order strict m inputs.history inputs.revision counted (memo_at order places) kept k q p front a sits told up))

-- a read that is up to date, over the sources now
module _ {K P V : Type 0} (order : K → K → Ordering) (strict : Strict order) (m : Machine K P V) (inputs : Table)
    (counted : length inputs.history ≡ inputs.revision + 1) (latest : slice_get inputs.history inputs.revision ≡ Some inputs.files)
    (places : List (K × Option (Memo K V))) (kept : KeptOver order m inputs places)
    (k q : K) (p : P) (front : List K) (a : Answer K V)
    (sits : Sits order m inputs.history inputs.revision (HasIn (memo_at order places)) k q p front)
    (read : IsReadAnswer order m inputs.files inputs.revision (HasIn (memo_at order places)) q a) where
  -- the rule goes on with its answer
  pub goes_on : ((x y : K) (r : P) → ComesTo (at order m inputs.history inputs.revision) x (Ask y r) → m.level y ≤ m.level x)
      → Passes false m k q a → (reads : List K) → reads ≡ front ++ q ∷ []
      → Came order m inputs.history inputs.revision (HasIn (memo_at order places)) k (m.advance p a) reads
  goes_on no_higher value reads all =
      came_next order strict m inputs counted places kept k q p front reads a (m.advance p a) sits
      (record {
        no_higher = no_higher k q p (sits.run, sits.comes);
        means = elim read [
          | inl low ↦ subst (λ (s : Sources). Means (over order m s) q a) (sym (now_files inputs.history inputs.revision inputs.files latest)) low.1
          | inr r ↦ subst (λ (x : Answer K V). Means (at order m inputs.history inputs.revision) q x) r.3
              (makes.now_right order strict m inputs.history inputs.revision (memo_at order places) kept q r.0 r.1 r.2)
        ];
        value = value;
      })
      (elim read [ inl low ↦ inl low.0 | inr r ↦ inr (r.0, r.1, r.2) ]) refl all

-- a rule that has to be started comes to its first turn
pub starts : {K P V : Type 0} (order : K → K → Ordering) (m : Machine K P V) (history : List Sources) (now : ℕ) (table : K → Option (Memo K V))
    → Kept order m history now (HasIn table) → (k : K) (why : Why K) → IsWhy m history now (HasIn table) k why
    → Came order m history now (HasIn table) k (m.start k) []
unfolding Follows
starts {K} {P} {V} order m history now table kept k why because = record {
  ruled = ruled why because;
  lapsed = lapsed why because;
  run = [];
  comes = record { follows = refl; told = tt };
  reads = refl;
  fresh = tt;
}
  where
    ruled : (why : Why K) → IsWhy m history now (HasIn table) k why → 0 < m.level k
    ruled Fresh b = b.0
    ruled (Changed q) b = (kept.memos k b.0 b.1.old.has).ruled
    ruled Ring b = (kept.memos k b.0 b.1.has).ruled

    lapsed : (why : Why K) → IsWhy m history now (HasIn table) k why → (memo : Memo K V) → HasIn table k memo → HasLapsed history memo
    lapsed Fresh b memo h = absurd (b.1 memo h)
    lapsed (Changed q) b memo h = subst (λ (x : Memo K V). HasLapsed history x) (same_Some b.0 memo (sym b.1.old.has ∙ h)) b.1.lapsed
    lapsed Ring b memo h = subst (λ (x : Memo K V). HasLapsed history x) (same_Some b.0 memo (sym b.1.has ∙ h)) b.2
