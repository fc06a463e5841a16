-- A ring's memos, put into the table one after the other, and the reads of its entries.
use Rattle.std.proofs.Common.{◌≡◌, ℕ, zero, suc, ◌+◌, ◌-◌, ◌⊎◌, ◌<◌, ◌≤◌, List, [], ◌∷◌, ◌++◌, length, take, get_or, Option, Some, Bool, true, false, cond, refl, sym, ap, ap₂, ◌∙◌, subst, inl, inr, arith, append_assoc, append-nil, add-one}
use Rattle.std.specs.declared.cmp.Ordering.{Ordering}
use Rattle.std.specs.Ordering.{is_eq}
use Rattle.std.specs.Cmp.{Equal-is, tied_itself}
use Rattle.std.proofs.lemmas.Option.{same_Some}
use Rattle.std.proofs.lemmas.Bool.{cases_Bool}
use Rattle.pq_inputs.specs.declared.durability.Durability.{Durability}
use Rattle.pq_inputs.specs.Sources.{Sources}
use Rattle.pq_inputs.specs.Changes.{level}
use Rattle.pq_rules.specs.declared.turn.Answer.{Answer}
use Rattle.pq_rules.specs.declared.turn.Answer.TheVariants.{Cycle}
use Rattle.pq_rules.specs.Turns.{Machine}
use Rattle.pq_rules.specs.Relations.{Each, In}
use Rattle.pq_memo.proofs.Reading.{in_take, in_take_more, in_take_last}
use Rattle.pq_rules.proofs.Rings.{each_in}
use Rattle.pq_rules.specs.aux.Evaluator.{Distinct}
use Rattle.pq_rules.proofs.Weight.{Exact}
use Rattle.pq_rules.proofs.Order.{strict}
use Rattle.pq_memo.specs.Sound.{Memo, sources_at, at, HasReads}
use Rattle.pq_memo.specs.Kept.{Kept}
use Rattle.pq_memo.specs.Look.{IsUpToDate}
use Rattle.pq_memo.specs.Table.{HasIn}
use Rattle.pq_memo.specs.Writes.{IsDated, ring_keys, fronts, RingWritten}
use Rattle.pq_memo.specs.aux.Durabilities.{HasDurability, IsLeastRead, IsFront, IsFrontRead}
use Rattle.pq_memo.specs.aux.Written.{IsPrepared, ArePrepared, HasRoom, AllHaveRoom, memo_of, memos_of, put, put_back, memo_keys}
use Rattle.pq_memo.proofs.Written.{kept_written}
use Rattle.pq_memo.proofs.RingMade as made
use Rattle.pq_memo.proofs.RingMade.{entry_of, key_in}

module _ {K : Type 0} (order : K → K → Ordering) (exact : Exact order) where
  same_key : (a b : K) → is_eq (order a b) ≡ true → a ≡ b
  same_key a b is = exact.exact a b ((Equal-is (order a b)).0 is)

  tied : (a : K) → is_eq (order a a) ≡ true
  tied a = (Equal-is (order a a)).1 (tied_itself exact.total a)

  -- whether a list has the key
  pub decide_in : (ks : List K) (q : K) → In q ks ⊎ (In q ks → ⊥)
  decide_in [] q = inr (λ i. i)
  decide_in (k ∷ ks) q = elim (cases_Bool (is_eq (order q k))) [
    | inl is ↦ inl (inl (same_key q k is))
    | inr not ↦ elim (decide_in ks q) [
      | inl i ↦ inl (inr i)
      | inr out ↦ inr (λ j. elim j [
        | inl s ↦ (let t : is_eq (order q k) ≡ true = subst (λ (y : K). is_eq (order q y) ≡ true) s (tied q) in let f : is_eq (order q k) ≡ false = not in cc)
        | inr i ↦ out i
      ])
    ]
  ]

module _ {K V : Type 0} (order : K → K → Ordering) (exact : Exact order) where
  pub put_here : (k : K) (memo : Memo K V) (table : K → Option (Memo K V)) → put order (k, memo) table k ≡ Some memo
  put_here k memo table = ap (λ (b : Bool). cond b (Some memo) (table k)) (tied order exact k)

  pub put_elsewhere : (k : K) (memo : Memo K V) (table : K → Option (Memo K V)) (q : K) → (q ≡ k → ⊥) → put order (k, memo) table q ≡ table q
  put_elsewhere k memo table q other = elim (cases_Bool (is_eq (order k q))) [
    | inl is ↦ absurd (other (sym (same_key order exact k q is)))
    | inr not ↦ ap (λ (b : Bool). cond b (Some memo) (table q)) not
  ]

  pub put_out : (es : List (K × Memo K V)) (table : K → Option (Memo K V)) (q : K) → (In q (memo_keys es) → ⊥) → put_back order es table q ≡ table q
  unfolding put_back
  put_out [] table q out = refl
  put_out (e ∷ es) table q out =
      put_elsewhere e.0 e.1 (put_back order es table) q (λ s. out (inl s)) ∙ put_out es table q (λ i. out (inr i))

  pub put_in : (es : List (K × Memo K V)) (table : K → Option (Memo K V)) (x : K) (memo : Memo K V) → Distinct (memo_keys es)
      → In (x, memo) es → put_back order es table x ≡ Some memo
  unfolding put_back Distinct
  put_in [] table x memo d i = absurd i
  put_in (e ∷ es) table x memo d (inl s) =
      let key : x ≡ e.0 = ap (λ (p : K × Memo K V). p.0) s in
      let value : memo ≡ e.1 = ap (λ (p : K × Memo K V). p.1) s in
      ap (λ (y : K). put order e (put_back order es table) y) key ∙ put_here e.0 e.1 (put_back order es table) ∙ ap (λ (y : Memo K V). Some y) (sym value)
  put_in (e ∷ es) table x memo d (inr i) =
      put_elsewhere e.0 e.1 (put_back order es table) x (λ s. d.0 (subst (λ (y : K). In y (memo_keys es)) s (key_of es x memo i)))
      ∙ put_in es table x memo d.1 i
    where
      key_of : (es : List (K × Memo K V)) (x : K) (memo : Memo K V) → In (x, memo) es → In x (memo_keys es)
      key_of [] x memo i = absurd i
      key_of (e ∷ es) x memo (inl s) = inl (ap (λ (p : K × Memo K V). p.0) s)
      key_of (e ∷ es) x memo (inr i) = inr (key_of es x memo i)

-- all but the last
pub fronts_push : {K : Type 0} (xs : List K) (x : K) → fronts (xs ++ x ∷ []) ≡ xs
fronts_push [] x = refl
fronts_push (y ∷ []) x = refl
fronts_push (y ∷ (z ∷ zs)) x = ap (λ t. y ∷ t) (fronts_push (z ∷ zs) x)

pub last_of : {K : Type 0} (x : K) (xs : List K) → (front : List K) × (last : K) × (x ∷ xs ≡ front ++ last ∷ [])
last_of x [] = ([], x, refl)
last_of x (y ∷ ys) = let r = last_of y ys in (x ∷ r.0, r.1, ap (λ t. x ∷ t) r.2)

pub fronts_take : {K : Type 0} (x : K) (xs : List K) → take (length xs) (x ∷ xs) ≡ fronts (x ∷ xs)
fronts_take x [] = refl
fronts_take x (y ∷ ys) = ap (λ t. x ∷ t) (fronts_take y ys)

pub front_in : {K : Type 0} (reads : List K) (q : K) → IsFront reads q → In q (fronts reads)
front_in {K} reads q f =
    let same : fronts reads ≡ f.0 = ap (λ (ks : List K). fronts ks) f.2 ∙ fronts_push f.0 f.1 in
    subst (λ (ks : List K). In q ks) (sym same) f.3

pub in_front : {K : Type 0} (reads : List K) (q : K) → In q (fronts reads) → IsFront reads q
in_front [] q i = absurd i
in_front {K} (x ∷ xs) q i =
    let l = last_of x xs in
    let same : fronts (x ∷ xs) ≡ l.0 = ap (λ (ks : List K). fronts ks) l.2 ∙ fronts_push l.0 l.1 in
    (l.0, l.1, l.2, subst (λ (ks : List K). In q ks) same i)

module _ {K P V : Type 0} (order : K → K → Ordering) (exact : Exact order) (m : Machine K P V) (history : List Sources) (now : ℕ)
    (table after : K → Option (Memo K V)) (kept : Kept order m history now (HasIn table)) where
  -- what a ring's call keeps
  pub ring_kept : (entries : List (K × List K)) (d : Durability) → RingWritten now (HasIn table) (HasIn after) entries d
      → 0 < length entries
      → Each (λ e. 0 < m.level e.0) entries
      → Each (λ e. HasReads (at order m history now) e.0 (Cycle (ring_keys entries)) e.1) entries
      → Each (λ e. Each (IsUpToDate m now (HasIn table)) (fronts e.1)) entries
      → IsLeastRead m (sources_at history now) (HasIn table) (IsFrontRead entries) d
      → Kept order m history now (HasIn after)
  ring_kept [] d written some ruled reads up least = absurd (omega arith)
  ring_kept (e ∷ es) d written some ruled reads up least =
      let all : List (K × List K) = e ∷ es in
      let high : (x : K) → In x (ring_keys all) → 0 < m.level x = λ x i. (let t = entry_of all x i in each_in (λ (y : K × List K). 0 < m.level y.0) (x, t.0) all ruled t.1) in
      let right : (x : K) (rs : List K) → In (x, rs) all → HasReads (at order m history now) x (Cycle (ring_keys all)) rs =
      λ x rs i. each_in (λ (y : K × List K). HasReads (at order m history now) y.0 (Cycle (ring_keys all)) y.1) (x, rs) all reads i in
      let fresh : (q : K) → IsFrontRead all q → IsUpToDate m now (HasIn table) q =
      λ q f. each_in (IsUpToDate m now (HasIn table)) q (fronts f.1)
      (each_in (λ (y : K × List K). Each (IsUpToDate m now (HasIn table)) (fronts y.1)) (f.0, f.1) all up f.2) (front_in f.1 q f.3) in
      kept_written order (strict order exact.total) m history now (HasIn table) (HasIn after)
      (made.Fresh order (strict order exact.total) m history now table kept (HasIn after) all d written e.0 (inl refl) high (decide_in order exact (ring_keys all)) right fresh least)
      kept
      (made.ring_written order (strict order exact.total) m history now table kept (HasIn after) all d written e.0 (inl refl) high (decide_in order exact (ring_keys all)) right fresh least)
      (made.ring_made order (strict order exact.total) m history now table kept (HasIn after) all d written e.0 (inl refl) high (decide_in order exact (ring_keys all)) right fresh least)

module _ {K V : Type 0} (order : K → K → Ordering) (exact : Exact order) (now : ℕ) (table : K → Option (Memo K V)) (answer : Answer K V) (d : Durability) where
  -- the memos that were prepared have the ring's keys
  keys_prepared : (es : List (K × List K)) (ps : List (Answer K V × ℕ)) → ArePrepared now (HasIn table) answer es ps → memo_keys (memos_of now d es ps) ≡ ring_keys es
  keys_prepared [] [] a = refl
  keys_prepared [] (p ∷ ps) a = refl
  keys_prepared (e ∷ es) [] a = absurd a
  keys_prepared (e ∷ es) (p ∷ ps) a = ap (λ ks. e.0 ∷ ks) (keys_prepared es ps a.1)

  -- the memo that was prepared for a key
  record Made (es : List (K × List K)) (ps : List (Answer K V × ℕ)) (x : K) (reads : List K) : Type 0 where
    memo : Memo K V
    among : In (x, memo) (memos_of now d es ps)
    answer_is : memo.answer ≡ answer
    reads_is : memo.reads ≡ reads
    verified : memo.verified ≡ now
    durability_is : memo.durability ≡ d
    dated : IsDated now (HasIn table) x memo.answer memo.changed

  prepared_of : (es : List (K × List K)) (ps : List (Answer K V × ℕ)) → ArePrepared now (HasIn table) answer es ps → (x : K) (reads : List K) → In (x, reads) es
      → Made es ps x reads
  prepared_of [] ps a x reads i = absurd i
  prepared_of (e ∷ es) [] a x reads i = absurd a
  prepared_of (e ∷ es) (p ∷ ps) a x reads (inl s) =
      let key : x ≡ e.0 = ap (λ (y : K × List K). y.0) s in
      let dated : IsDated now (HasIn table) x answer p.1 = subst (λ (y : K). IsDated now (HasIn table) y answer p.1) (sym key) a.0.dated in
      record {
        memo = (memo_of now d e p).1;
        among = inl (ap (λ (y : K). (y, (memo_of now d e p).1)) key);
        answer_is = a.0.answer_is;
        reads_is = sym (ap (λ (y : K × List K). y.1) s);
        verified = refl;
        durability_is = refl;
        dated = subst (λ (y : Answer K V). IsDated now (HasIn table) x y p.1) (sym a.0.answer_is) dated;
      }
  prepared_of (e ∷ es) (p ∷ ps) a x reads (inr i) =
      let t = prepared_of es ps a.1 x reads i in
      record {
        memo = t.memo;
        among = inr t.among;
        answer_is = t.answer_is;
        reads_is = t.reads_is;
        verified = t.verified;
        durability_is = t.durability_is;
        dated = t.dated;
      }

  -- the ring is written
  pub ring_is_written : (es : List (K × List K)) (ps : List (Answer K V × ℕ)) (after : K → Option (Memo K V))
      → answer ≡ Cycle (ring_keys es) → Distinct (ring_keys es) → ArePrepared now (HasIn table) answer es ps
      → ((q : K) → after q ≡ put_back order (memos_of now d es ps) table q) → RingWritten now (HasIn table) (HasIn after) es d
  ring_is_written es ps after cycle dis prepared written =
      let all : List (K × Memo K V) = memos_of now d es ps in
      let same : memo_keys all ≡ ring_keys es = keys_prepared es ps prepared in
      let apart : Distinct (memo_keys all) = subst (λ (ks : List K). Distinct ks) (sym same) dis in
      let missing : (q : K) → (In q (ring_keys es) → ⊥) → In q (memo_keys all) → ⊥ = λ q out i. out (subst (λ (ks : List K). In q ks) same i) in
      record {
        news = λ x reads i.
            let t = prepared_of es ps prepared x reads i in (
              t.memo,
              written x ∙ put_in order exact all table x t.memo apart t.among,
              t.answer_is ∙ cycle,
              t.reads_is,
              t.verified,
              t.durability_is,
              t.dated,
            );
        to = λ q memo out h. written q ∙ put_out order exact all table q (missing q out) ∙ h;
        from = λ q memo out h. sym (put_out order exact all table q (missing q out)) ∙ sym (written q) ∙ h;
        one = λ q a b x y. same_Some a b (sym x ∙ y);
      }

-- one key of a ring more is prepared
pub prepared_more : {K V : Type 0} (now : ℕ) (Has : K → Memo K V → Type 0) (answer : Answer K V)
    (xs : List (K × List K)) (i : ℕ) (x : K × List K) (key : K) (ps qs : List (Answer K V × ℕ)) (p : Answer K V × ℕ)
    → i < length xs → x ≡ get_or xs i x → key ≡ x.0 → qs ≡ ps ++ p ∷ [] → IsPrepared now Has answer key p
    → ArePrepared now Has answer (take i xs) ps → ArePrepared now Has answer (take (suc i) xs) qs
prepared_more now Has answer [] i x key ps qs p h e k pushed one many = absurd (omega arith)
prepared_more {K} {V} now Has answer (y ∷ xs) zero x key [] qs p h e k pushed one many =
    subst (λ (l : List (Answer K V × ℕ)). ArePrepared now Has answer (y ∷ []) l) (sym pushed)
    ((subst (λ (z : K). IsPrepared now Has answer z p) (k ∙ ap (λ (z : K × List K). z.0) e) one, tt))
prepared_more now Has answer (y ∷ xs) zero x key (r ∷ ps) qs p h e k pushed one many = absurd many
prepared_more now Has answer (y ∷ xs) (suc i) x key [] qs p h e k pushed one many = absurd many
prepared_more {K} {V} now Has answer (y ∷ xs) (suc i) x key (r ∷ ps) qs p h e k pushed one many =
    subst (λ (l : List (Answer K V × ℕ)). ArePrepared now Has answer (take (suc (suc i)) (y ∷ xs)) l) (sym pushed)
    ((many.0, prepared_more now Has answer xs i x key ps (ps ++ p ∷ []) p (omega arith) e k refl one many.1))

-- as many are prepared as there are members
pub prepared_even : {K V : Type 0} (now : ℕ) (Has : K → Memo K V → Type 0) (answer : Answer K V) (es : List (K × List K)) (ps : List (Answer K V × ℕ))
    → ArePrepared now Has answer es ps → length es ≡ length ps
prepared_even now Has answer [] [] a = refl
prepared_even now Has answer [] (p ∷ ps) a = absurd a
prepared_even now Has answer (e ∷ es) [] a = absurd a
prepared_even now Has answer (e ∷ es) (p ∷ ps) a = ap (λ n. suc n) (prepared_even now Has answer es ps a.1)

-- the memos of one member more
pub memos_push : {K V : Type 0} (now : ℕ) (d : Durability) (es : List (K × List K)) (e : K × List K) (ps : List (Answer K V × ℕ)) (p : Answer K V × ℕ)
    → length es ≡ length ps → memos_of now d (es ++ e ∷ []) (ps ++ p ∷ []) ≡ memos_of now d es ps ++ memo_of now d e p ∷ []
memos_push now d [] e [] p h = refl
memos_push now d [] e (x ∷ ps) p h = absurd (omega arith)
memos_push now d (x ∷ es) e [] p h = absurd (omega arith)
memos_push now d (x ∷ es) e (y ∷ ps) p h = ap (λ l. memo_of now d x y ∷ l) (memos_push now d es e ps p (omega arith))

pub length_pop : {A B : Type 0} (xs ys : List A) (x : A) (us vs : List B) (u : B) → xs ≡ ys ++ x ∷ [] → us ≡ vs ++ u ∷ [] → length xs ≡ length us → length ys ≡ length vs
length_pop {A} {B} xs ys x us vs u a b h =
    let l : length xs ≡ length ys + 1 = ap (λ (z : List A). length z) a ∙ one_more ys x in
    let r : length us ≡ length vs + 1 = ap (λ (z : List B). length z) b ∙ one_more vs u in
    omega arith
  where
    one_more : {C : Type 0} (zs : List C) (z : C) → length (zs ++ z ∷ []) ≡ length zs + 1
    one_more [] z = refl
    one_more (y ∷ zs) z = let r = one_more zs z in omega arith

-- one memo more is put
pub put_more : {K V : Type 0} (order : K → K → Ordering) (base table next : K → Option (Memo K V)) (all before after done : List (K × Memo K V)) (e : K × Memo K V)
    → before ++ done ≡ all → before ≡ after ++ e ∷ [] → ((q : K) → table q ≡ put_back order done base q) → ((q : K) → next q ≡ put order e table q)
    → (more : List (K × Memo K V)) × (after ++ more ≡ all) × ((q : K) → next q ≡ put_back order more base q)
unfolding put_back
put_more {K} {V} order base table next all before after done e whole popped was put_now = (
  e ∷ done,
  sym (append_assoc after (e ∷ []) done) ∙ ap (λ l. l ++ done) (sym popped) ∙ whole,
  (λ q. put_now q ∙ ap (λ (o : Option (Memo K V)). cond (is_eq (order e.0 q)) (Some e.1) o) (was q)),
)

-- the memo of one member more is put
pub put_member : {K V : Type 0} (order : K → K → Ordering) (now : ℕ) (d : Durability) (base table next : K → Option (Memo K V))
    (whole : List (K × Memo K V)) (es us : List (K × List K)) (ps vs : List (Answer K V × ℕ)) (e : K × List K) (p : Answer K V × ℕ) (key : K) (memo : Memo K V)
    (done : List (K × Memo K V)) → memos_of now d es ps ++ done ≡ whole → es ≡ us ++ e ∷ [] → ps ≡ vs ++ p ∷ [] → length es ≡ length ps
    → (key, memo) ≡ memo_of now d e p
    → ((q : K) → table q ≡ put_back order done base q) → ((q : K) → next q ≡ put order (key, memo) table q)
    → (more : List (K × Memo K V)) × (memos_of now d us vs ++ more ≡ whole) × ((q : K) → next q ≡ put_back order more base q)
put_member {K} {V} order now d base table next whole es us ps vs e p key memo done all a b even is was puts =
    let less : length us ≡ length vs = length_pop es us e ps vs p a b even in
    let split : memos_of now d es ps ≡ memos_of now d us vs ++ memo_of now d e p ∷ [] =
    ap₂ (λ (x : List (K × List K)) (y : List (Answer K V × ℕ)). memos_of now d x y) a b ∙ memos_push now d us e vs p less in
    put_more order base table next whole (memos_of now d es ps) (memos_of now d us vs) done (memo_of now d e p) all split was
    (subst (λ (x : K × Memo K V). (q : K) → next q ≡ put order x table q) is puts)

pub none_put : {K V : Type 0} (order : K → K → Ordering) (base : K → Option (Memo K V)) (all : List (K × Memo K V))
    → (done : List (K × Memo K V)) × (all ++ done ≡ all) × ((q : K) → base q ≡ put_back order done base q)
unfolding put_back
none_put order base all = ([], append-nil all, (λ q. refl))

-- places stay where they were
pub rooms_stay : {K V : Type 0} (order : K → K → Ordering) (places later : List (K × Option (Memo K V))) (es : List (K × List K))
    → ((q : K) → HasRoom order places q → HasRoom order later q) → AllHaveRoom order places es → AllHaveRoom order later es
rooms_stay order places later [] f r = tt
rooms_stay order places later (e ∷ es) f r = (f e.0 r.0, rooms_stay order places later es f r.1)

pub rooms_front : {K V : Type 0} (order : K → K → Ordering) (places : List (K × Option (Memo K V))) (es : List (K × List K)) (e : K × List K)
    → AllHaveRoom order places (es ++ e ∷ []) → AllHaveRoom order places es × HasRoom order places e.0
rooms_front order places [] e r = (tt, r.0)
rooms_front order places (x ∷ es) e r = let t = rooms_front order places es e r.1 in ((r.0, t.0), t.1)

pub rooms_more : {K V : Type 0} (order : K → K → Ordering) (places : List (K × Option (Memo K V))) (xs : List (K × List K)) (i : ℕ) (x : K × List K) (key : K)
    → i < length xs → x ≡ get_or xs i x → key ≡ x.0 → HasRoom order places key → AllHaveRoom order places (take i xs) → AllHaveRoom order places (take (suc i) xs)
rooms_more order places [] i x key h e k one many = absurd (omega arith)
rooms_more {K} {V} order places (y ∷ xs) zero x key h e k one many =
    (subst (λ (z : K). HasRoom order places z) (k ∙ ap (λ (z : K × List K). z.0) e) one, tt)
rooms_more order places (y ∷ xs) (suc i) x key h e k one many = (many.0, rooms_more order places xs i x key (omega arith) e k one many.1)

pub fronts_is : {K : Type 0} (reads : List K) → take (length reads - 1) reads ≡ fronts reads
fronts_is [] = refl
fronts_is {K} (x ∷ xs) = ap (λ (n : ℕ). take n (x ∷ xs)) (one_less (length xs)) ∙ fronts_take x xs
  where
    one_less : (n : ℕ) → suc n - 1 ≡ n
    one_less n = omega arith

-- the keys of one member more
pub keys_more : {K : Type 0} (xs : List (K × List K)) (i : ℕ) (x : K × List K) → i < length xs → x ≡ get_or xs i x
    → ring_keys (take (suc i) xs) ≡ ring_keys (take i xs) ++ x.0 ∷ []
keys_more [] i x h e = absurd (omega arith)
keys_more {K} (y ∷ xs) zero x h e = ap (λ (z : K × List K). z.0 ∷ []) (sym e)
keys_more (y ∷ xs) (suc i) x h e = ap (λ ks. y.0 ∷ ks) (keys_more xs i x (omega arith) e)

-- the least durability of one member more
module _ {K P V : Type 0} (m : Machine K P V) (files : Sources) (Has : K → Memo K V → Type 0) where
  pub fronts_more : (xs : List (K × List K)) (i : ℕ) (x : K × List K) (least d next : Durability) → i < length xs → x ≡ get_or xs i x
      → IsLeastRead m files Has (IsFrontRead (take i xs)) least → IsLeastRead m files Has (λ q. In q (fronts x.1)) d
      → (next ≡ least) ⊎ (next ≡ d) → level next ≤ level least → level next ≤ level d
      → IsLeastRead m files Has (IsFrontRead (take (suc i) xs)) next
  fronts_more xs i x least d next h e before of_x which le re = record {
    lower = λ q j. elim (in_take xs i x (j.0, j.1) h e j.2) [
      | inl k ↦ (let f = before.lower q (j.0, j.1, k, j.3) in let l : level least ≤ level f.0 = f.2 in (f.0, f.1, omega arith))
      | inr k ↦
          (let reads : j.1 ≡ x.1 = ap (λ (y : K × List K). y.1) k in
          let f = of_x.lower q (subst (λ (ks : List K). In q (fronts ks)) reads (front_in j.1 q j.3)) in
          let l : level d ≤ level f.0 = f.2 in (f.0, f.1, omega arith))
    ];
    attained = elim which [
      | inl is ↦ elim before.attained [
        | inl high ↦ inl (is ∙ high)
        | inr q ↦ inr (q.0, (q.1.0, q.1.1, in_take_more xs i (q.1.0, q.1.1) q.1.2, q.1.3), subst (λ (z : Durability). HasDurability m files Has q.0 z) (sym is) q.2)
      ]
      | inr is ↦ elim of_x.attained [
        | inl high ↦ inl (is ∙ high)
        | inr q ↦ inr (q.0, (x.0, x.1, in_take_last xs i x h e, in_front x.1 q.0 q.1), subst (λ (z : Durability). HasDurability m files Has q.0 z) (sym is) q.2)
      ]
    ];
  }

-- the same of a table that is the same
pub prepared_as : {K V : Type 0} (now : ℕ) (before middle : K → Option (Memo K V)) → ((q : K) → middle q ≡ before q)
    → (answer : Answer K V) (k : K) (p : Answer K V × ℕ) → IsPrepared now (HasIn middle) answer k p → IsPrepared now (HasIn before) answer k p
prepared_as {K} {V} now before middle same answer k p w = record {
  answer_is = w.answer_is;
  dated = elim w.dated [
    | inl o ↦ inl (o.0, sym (same k) ∙ o.1, o.2, o.3)
    | inr n ↦ inr (n.0, (λ old h. n.1 old (same k ∙ h)))
  ];
}

pub put_back_as : {K V : Type 0} (order : K → K → Ordering) (before middle : K → Option (Memo K V)) → ((q : K) → middle q ≡ before q)
    → (es : List (K × Memo K V)) (q : K) → put_back order es middle q ≡ put_back order es before q
unfolding put_back
put_back_as order before middle same [] q = same q
put_back_as {K} {V} order before middle same (e ∷ es) q =
    ap (λ (o : Option (Memo K V)). cond (is_eq (order e.0 q)) (Some e.1) o) (put_back_as order before middle same es q)

-- the same at the next place
pub rooms_next : {K V : Type 0} (order : K → K → Ordering) (places later : List (K × Option (Memo K V))) (xs : List (K × List K)) (i : ℕ) (x : K × List K) (key : K)
    → i < length xs → x ≡ get_or xs i x → key ≡ x.0 → HasRoom order later key → ((q : K) → HasRoom order places q → HasRoom order later q)
    → AllHaveRoom order places (take i xs) → AllHaveRoom order later (take (i + 1) xs)
rooms_next order places later xs i x key h e k one stay many =
    rw add-one (rooms_more order later xs i x key h e k one (rooms_stay order places later (take i xs) stay many))

pub prepared_next : {K V : Type 0} (now : ℕ) (before middle : K → Option (Memo K V)) → ((q : K) → middle q ≡ before q) → (answer : Answer K V)
    (xs : List (K × List K)) (i : ℕ) (x : K × List K) (key : K) (ps qs : List (Answer K V × ℕ)) (p : Answer K V × ℕ)
    → i < length xs → x ≡ get_or xs i x → key ≡ x.0 → qs ≡ ps ++ p ∷ [] → IsPrepared now (HasIn middle) answer key p
    → ArePrepared now (HasIn before) answer (take i xs) ps → ArePrepared now (HasIn before) answer (take (i + 1) xs) qs
prepared_next now before middle same answer xs i x key ps qs p h e k pushed one many =
    rw add-one (prepared_more now (HasIn before) answer xs i x key ps qs p h e k pushed (prepared_as now before middle same answer key p one) many)
