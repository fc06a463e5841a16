-- The queue of the requests that wait, after each change of accounts. Only proofs need these lemmas.
use Rattle.std.proofs.Common.{◌≡◌, ◌≢◌, ℕ, ◌≤◌, ◌+◌, ◌==◌, ◌||◌, if◌then◌else◌, ◌⊎◌, Bool, true, false, cond, not, List, [], ◌∷◌, ◌++◌, length, Option, Some, None, refl, sym, ◌∙◌, ap, subst, inl, inr, arith}
use Rattle.std.specs.Prelude.{filter}
use Rattle.std.specs.List.{items_where_true}
use Rattle.std.specs.List.Retain.{IsFiltered, ReturnsInTurn}
use Rattle.std.proofs.lemmas.Bool.{ne_eqb, eq-eqb}
use Rattle.std.proofs.lemmas.List.{append-nil, length-append}
use Rattle.pq_rules.specs.Relations.{In}
use Rattle.pq_core.proofs.Lists.{some_one, none_some, same_or_other}
use Rattle.pq_core.proofs.AccountMoves.{one_stage, stage_within, was_at, added_at, was_before, other_at, longer_at}
use Rattle.pq_core.proofs.Changing.{if_at, if_other}
use Rattle.pq_core.specs.Lanes.{ReadyView}
use Rattle.pq_core.specs.Accounts.{AccountView, no_requests, next_of, IsStage, with_stage, with_request, first_stage}
use Rattle.pq_core.specs.declared.store.rising.Place.{Place}
use Rattle.pq_core.specs.declared.values.request.Request.{Request}
use Rattle.pq_core.specs.declared.values.request.Want.{Want}
use Rattle.pq_core.specs.declared.values.request.Want.TheVariants.{Demand, Fixed}
use Rattle.pq_core.specs.declared.store.account.Begun.{Begun}
use Rattle.pq_core.specs.declared.store.account.Stage.{Stage}
use Rattle.pq_core.specs.declared.store.account.Stage.TheVariants.{Waiting, Running, Made, Collected}
use Rattle.pq_core.specs.Kept.{IsDemand}
use Rattle.pq_core.specs.aux.Rising.{found}
use Rattle.pq_core.specs.aux.Queue.{is_of_other, is_other_seat, WaitsIn, IsOnce, IsQueue}

-- what `retain` leaves, where the closure's answer is a function's and the closure stays as it is
-- ---- filtered lists

module _ {X P : Type 0} (R : P → X → Bool → P → Type 0) (f : P) (test : X → Bool) (says : (x : X) (b : Bool) (q : P) → R f x b q → (b ≡ test x) × (q ≡ f)) where
  first_by : (x : X) (xs ys : List X) (bs : List Bool) (b t : Bool) → b ≡ t → items_where_true bs xs ≡ ys → items_where_true (b ∷ bs) (x ∷ xs) ≡ cond t (x ∷ ys) ys
  first_by x xs ys bs true t e rest = ap (λ l. x ∷ l) rest ∙ ap (λ a. cond a (x ∷ ys) ys) e
  first_by x xs ys bs false t e rest = rest ∙ ap (λ a. cond a (x ∷ ys) ys) e

  told_by : (q : P) (bs : List Bool) (xs : List X) → length bs ≡ length xs → ReturnsInTurn R f bs xs q → items_where_true bs xs ≡ filter test xs
  told_by q [] [] e h = refl
  told_by q [] (x ∷ xs) e h = absurd (omega arith)
  told_by q (b ∷ bs) [] e h = absurd h
  told_by q (b ∷ bs) (x ∷ xs) e h =
      let one = says x b h.0 h.1 in
      first_by x xs (filter test xs) bs b (test x) one.0 (told_by q bs xs (omega arith) (subst (λ (y : P). ReturnsInTurn R y bs xs q) one.1 h.2))

  pub filter_retained : (xs ys : List X) → IsFiltered R f xs ys → ys ≡ filter test xs
  filter_retained xs ys h = h.4 ∙ told_by h.1 h.0 xs h.2 h.3

keep_in : {A : Type 0} (x y : A) (rest : List A) (b : Bool) → (x ≡ y → b ≡ true) → (x ≡ y) ⊎ In x rest → In x (cond b (y ∷ rest) rest)
keep_in x y rest true t w = w
keep_in x y rest false t (inl e) = absurd (not_so (t e))
  where
    not_so : false ≡ true → ⊥
    not_so f = cc
keep_in x y rest false t (inr w) = w

-- what passes the test stays
in_filter : {A : Type 0} (test : A → Bool) (x : A) (xs : List A) → test x ≡ true → In x xs → In x (filter test xs)
in_filter test x [] t w = w
in_filter test x (y ∷ ys) t (inl e) = keep_in x y (filter test ys) (test y) (λ f. ap test (sym f) ∙ t) (inl e)
in_filter test x (y ∷ ys) t (inr w) = keep_in x y (filter test ys) (test y) (λ f. ap test (sym f) ∙ t) (inr (in_filter test x ys t w))

keep_few : {A : Type 0} (y : A) (rest ys : List A) (b : Bool) → length rest ≤ length ys → length (cond b (y ∷ rest) rest) ≤ length (y ∷ ys)
keep_few y rest ys true h = omega arith
keep_few y rest ys false h = omega arith

-- a filtered list is no longer than before
pub few_filter : {A : Type 0} (test : A → Bool) (xs : List A) → length (filter test xs) ≤ length xs
few_filter test [] = omega arith
few_filter test (y ∷ ys) = keep_few y (filter test ys) ys (test y) (few_filter test ys)

left_by : {A : Type 0} (test : A → Bool) (x y : A) (rest ys : List A) (b : Bool) → test y ≡ b → (In x rest → (test x ≡ true) × In x ys) → In x (cond b (y ∷ rest) rest)
    → (test x ≡ true) × ((x ≡ y) ⊎ In x ys)
left_by test x y rest ys true e more (inl is) = (ap test is ∙ e, inl is)
left_by test x y rest ys true e more (inr w) = let r = more w in (r.0, inr r.1)
left_by test x y rest ys false e more w = let r = more w in (r.0, inr r.1)

-- what stays passes the test
out_filter : {A : Type 0} (test : A → Bool) (x : A) (xs : List A) → In x (filter test xs) → (test x ≡ true) × In x xs
out_filter test x [] w = absurd w
out_filter test x (y ∷ ys) w = left_by test x y (filter test ys) ys (test y) refl (out_filter test x ys) w

once_by : {A : Type 0} (y : A) (rest : List A) (b : Bool) → (In y rest → ⊥) → IsOnce rest → IsOnce (cond b (y ∷ rest) rest)
unfolding IsOnce
once_by y rest true new h = (new, h)
once_by y rest false new h = h

pub once_filter : {A : Type 0} (test : A → Bool) (xs : List A) → IsOnce xs → IsOnce (filter test xs)
unfolding IsOnce
once_filter test [] h = h
once_filter test (y ∷ ys) h = once_by y (filter test ys) (test y) (λ w. h.0 (out_filter test y ys w).1) (once_filter test ys h.1)

-- ---- a list with one element more

pub in_there : {A : Type 0} (xs ys : List A) (x : A) → In x (xs ++ x ∷ ys)
in_there [] ys x = inl refl
in_there (z ∷ zs) ys x = inr (in_there zs ys x)

pub in_longer : {A : Type 0} (xs ys : List A) (x y : A) → In y (xs ++ ys) → In y (xs ++ x ∷ ys)
in_longer [] ys x y h = inr h
in_longer (z ∷ zs) ys x y h = elim h [ inl e ↦ inl e | inr w ↦ inr (in_longer zs ys x y w) ]

in_before : {A : Type 0} (xs ys : List A) (x y : A) → In y (xs ++ x ∷ ys) → (y ≡ x) ⊎ In y (xs ++ ys)
in_before [] ys x y h = h
in_before (z ∷ zs) ys x y h = elim h [
  | inl e ↦ inr (inl e)
  | inr w ↦ elim (in_before zs ys x y w) [ inl e ↦ inl e | inr v ↦ inr (inr v) ]
]

once_longer : {A : Type 0} (xs ys : List A) (x : A) → IsOnce (xs ++ ys) → (In x (xs ++ ys) → ⊥) → IsOnce (xs ++ x ∷ ys)
unfolding IsOnce
once_longer [] ys x h new = (new, h)
once_longer (z ∷ zs) ys x h new = (
  λ w. elim (in_before zs ys x z w) [ inl e ↦ new (inl (sym e)) | inr v ↦ h.0 v ],
  once_longer zs ys x h.1 (λ v. new (inr v)),
)

pub long_longer : {A : Type 0} (xs ys : List A) (x : A) → length (xs ++ x ∷ ys) ≡ length (xs ++ ys) + 1
long_longer [] ys x = omega arith
long_longer (z ∷ zs) ys x = let a = long_longer zs ys x in omega (arith, a)

-- ---- two parts of a list in the other order

in_passed : {A : Type 0} (xs ys : List A) (y : A) → In y (xs ++ ys) → In y (ys ++ xs)
in_passed [] ys y h = subst (λ (l : List _). In y l) (sym (append-nil ys)) h
in_passed (x ∷ xs) ys y h = elim h [
  | inl e ↦ subst (λ (z : _). In z (ys ++ x ∷ xs)) (sym e) (in_there ys xs x)
  | inr w ↦ in_longer ys xs x y (in_passed xs ys y w)
]

pub once_passed : {A : Type 0} (xs ys : List A) → IsOnce (xs ++ ys) → IsOnce (ys ++ xs)
unfolding IsOnce
once_passed [] ys h = subst (λ (l : List _). IsOnce l) (sym (append-nil ys)) h
once_passed (x ∷ xs) ys h = once_longer ys xs x (once_passed xs ys h.1) (λ w. h.0 (in_passed ys xs x w))

pub long_passed : {A : Type 0} (xs ys : List A) → length (ys ++ xs) ≡ length (xs ++ ys)
long_passed xs ys = let a = length-append xs ys in let b = length-append ys xs in omega (arith, a, b)

pub once_none : (A : Type 0) → IsOnce {A = A} []
unfolding IsOnce
once_none A = tt

-- ---- what waits

-- `waits_stage request accepted` is the stage of a request that waits
abbrev waits_stage : {K T : Type 0} → Request K → ℕ → Stage K T
waits_stage request accepted = Waiting request accepted

-- `WaitsNot stage` is that `stage` is not that of a request that waits
abbrev pub WaitsNot : {K T : Type 0} → Stage K T → Type 0
WaitsNot {K} {T} stage = (request : Request K) (accepted : ℕ) → waits_stage {K = K} {T = T} request accepted ≡ stage → ⊥

made_waits_not : {K T : Type 0} (ready : T) → WaitsNot {K = K} (Made ready)
made_waits_not ready request accepted e = cc

running_waits_not : {K T : Type 0} (begun : Begun) → WaitsNot {K = K} {T = T} (Running begun)
running_waits_not begun request accepted e = cc

collected_waits_not : {K T : Type 0} → WaitsNot {K = K} {T = T} Collected
collected_waits_not request accepted e = cc

seat_one : (c n k i : ℕ) → (k ≡ c) × (i ≡ n) → ◌≡◌ {A = ℕ × ℕ} (k, i) (c, n)
seat_one c n k i w = ap (λ (j : ℕ). (j, i)) w.0 ∙ ap (λ (j : ℕ). (c, j)) w.1

module _ {K V M : Type 0} where
  -- `IsWaiting account n request` is that `request`, the request `n` of `account`, waits
  pub record IsWaiting (account : AccountView K V M) (n : ℕ) (request : Request K) : Type 0 where
    pub accepted : ℕ
    pub waits : IsStage account n (Waiting request accepted)

  -- the accounts stay as they are
  pub queue_same : (b a : List (Place (AccountView K V M))) (queue : List (ℕ × ℕ)) → ((k : ℕ) → found a k ≡ found b k) → IsQueue b queue → IsQueue a queue
  queue_same b a queue same q = record {
    waits = λ c n w. let x = q.waits c n w in (x.0, record { account = x.1.account; here = same c ∙ x.1.here; accepted = x.1.accepted; waits = x.1.waits });
    queued = λ c n request w. q.queued c n request (record { account = w.account; here = sym (same c) ∙ w.here; accepted = w.accepted; waits = w.waits });
    once = q.once;
  }

  -- another account than the one that is set
  waits_other : (b a : List (Place (AccountView K V M))) (c : ℕ) (value : Option (AccountView K V M)) → ((k : ℕ) → found a k ≡ (if k == c then value else found b k))
      → (k i : ℕ) (request : Request K) → k ≢ c → WaitsIn b k i request → WaitsIn a k i request
  waits_other b a c value set k i request ne w = record { account = w.account; here = set k ∙ (if_other k c value (found b k) ne ∙ w.here); accepted = w.accepted; waits = w.waits }

  waits_before : (b a : List (Place (AccountView K V M))) (c : ℕ) (value : Option (AccountView K V M)) → ((k : ℕ) → found a k ≡ (if k == c then value else found b k))
      → (k i : ℕ) (request : Request K) → k ≢ c → WaitsIn a k i request → WaitsIn b k i request
  waits_before b a c value set k i request ne w = record { account = w.account; here = sym (set k ∙ if_other k c value (found b k) ne) ∙ w.here; accepted = w.accepted; waits = w.waits }

  -- the account that is set
  waits_set : (b a : List (Place (AccountView K V M))) (c : ℕ) (after : AccountView K V M) → ((k : ℕ) → found a k ≡ (if k == c then Some after else found b k))
      → (k i : ℕ) (request : Request K) → k ≡ c → IsWaiting after i request → WaitsIn a k i request
  waits_set b a c after set k i request is w = record { account = after; here = ap (found a) is ∙ (set c ∙ if_at c (Some after) (found b c)); accepted = w.accepted; waits = w.waits }

  waits_account : (b : List (Place (AccountView K V M))) (c : ℕ) (account : AccountView K V M) → found b c ≡ Some account
      → (k i : ℕ) (request : Request K) → k ≡ c → WaitsIn b k i request → IsWaiting account i request
  waits_account b c account here k i request is w = record {
    accepted = w.accepted;
    waits = subst (λ (x : AccountView K V M). IsStage x i (Waiting request w.accepted)) (some_one w.account account (sym w.here ∙ (ap (found b) is ∙ here))) w.waits;
  }

  waits_there : (b a : List (Place (AccountView K V M))) (c : ℕ) (after : AccountView K V M) → ((k : ℕ) → found a k ≡ (if k == c then Some after else found b k))
      → (k i : ℕ) (request : Request K) → k ≡ c → WaitsIn a k i request → IsWaiting after i request
  waits_there b a c after set k i request is w = waits_account a c after (set c ∙ if_at c (Some after) (found b c)) k i request is w

  -- the account of one client changes, and what waits in it stays
  pub queue_account : (b a : List (Place (AccountView K V M))) (queue : List (ℕ × ℕ)) (c : ℕ) (account after : AccountView K V M) → found b c ≡ Some account
      → ((k : ℕ) → found a k ≡ (if k == c then Some after else found b k))
      → ((n : ℕ) (request : Request K) → IsWaiting account n request → IsWaiting after n request)
      → ((n : ℕ) (request : Request K) → IsWaiting after n request → IsWaiting account n request)
      → IsQueue b queue → IsQueue a queue
  queue_account b a queue c account after here set stays back q = record {
    waits = λ k i w. (
        let x = q.waits k i w in
        elim (same_or_other k c) [
          | inl is ↦ (x.0, waits_set b a c after set k i x.0 is (stays i x.0 (waits_account b c account here k i x.0 is x.1)))
          | inr ne ↦ (x.0, waits_other b a c (Some after) set k i x.0 ne x.1)
        ]);
    queued = λ k i request w. elim (same_or_other k c) [
      | inl is ↦
          let y = back i request (waits_there b a c after set k i request is w) in
          q.queued k i request (record { account = account; here = ap (found b) is ∙ here; accepted = y.accepted; waits = y.waits })
      | inr ne ↦ q.queued k i request (waits_before b a c (Some after) set k i request ne w)
    ];
    once = q.once;
  }

  -- ---- one request of an account is written

  -- the others stay
  stays_other : (account : AccountView K V M) (n k : ℕ) (stage : Stage K (ReadyView K V M)) (request : Request K) → account.seen ≤ n → k ≢ n → IsWaiting account k request
      → IsWaiting (with_stage account n stage) k request
  stays_other account n k stage request past ne w = record { accepted = w.accepted; waits = other_at account n k (Waiting request w.accepted) stage past ne w.waits }

  waited_before : (account : AccountView K V M) (n k : ℕ) (stage : Stage K (ReadyView K V M)) (request : Request K) → account.seen ≤ n → WaitsNot stage → IsWaiting (with_stage account n stage) k request
      → (k ≢ n) × IsWaiting account k request
  waited_before account n k stage request past waits_not w =
      elim (was_at account n k (Waiting request w.accepted) stage past w.waits) [
        | inl x ↦ absurd (waits_not request w.accepted x.1)
        | inr x ↦ (x.0, record { accepted = w.accepted; waits = x.1 })
      ]

  not_there : (account : AccountView K V M) (n k : ℕ) (stage : Stage K (ReadyView K V M)) (request : Request K) → IsStage account n stage → WaitsNot stage
      → IsWaiting account k request → k ≢ n
  not_there account n k stage request at waits_not w is =
      waits_not request w.accepted
      (one_stage account n (Waiting request w.accepted) stage (subst (λ (i : ℕ). IsStage account i (Waiting request w.accepted)) is w.waits) at)

  -- a request that does not wait gets another stage, in which it does not wait
  pub queue_staged : (b a : List (Place (AccountView K V M))) (queue : List (ℕ × ℕ)) (c n : ℕ) (account : AccountView K V M) (old stage : Stage K (ReadyView K V M)) → found b c ≡ Some account
      → IsStage account n old → WaitsNot old → WaitsNot stage → ((k : ℕ) → found a k ≡ (if k == c then Some (with_stage account n stage) else found b k)) → IsQueue b queue → IsQueue a queue
  queue_staged b a queue c n account old stage here at was_not is_not set q =
      queue_account b a queue c account (with_stage account n stage) here set
      (λ k request w. stays_other account n k stage request at.past (not_there account n k old request at was_not w) w)
      (λ k request w. (waited_before account n k stage request at.past is_not w).1)
      q

  -- the reply to a request in a run is made
  pub queue_finished : (b a : List (Place (AccountView K V M))) (queue : List (ℕ × ℕ)) (c n : ℕ) (begun : Begun) (account : AccountView K V M) (ready : ReadyView K V M) → found b c ≡ Some account
      → IsStage account n (Running begun) → ((k : ℕ) → found a k ≡ (if k == c then Some (with_stage account n (Made ready)) else found b k)) → IsQueue b queue → IsQueue a queue
  queue_finished b a queue c n begun account ready here runs set q =
      queue_staged b a queue c n account (Running begun) (Made ready) here runs (running_waits_not begun) (made_waits_not ready) set q

  -- a reply is collected
  pub queue_collected : (b a : List (Place (AccountView K V M))) (queue : List (ℕ × ℕ)) (c n : ℕ) (account : AccountView K V M) (ready : ReadyView K V M) → found b c ≡ Some account
      → IsStage account n (Made ready) → ((k : ℕ) → found a k ≡ (if k == c then Some (with_stage account n Collected) else found b k)) → IsQueue b queue → IsQueue a queue
  queue_collected b a queue c n account ready here made set q =
      queue_staged b a queue c n account (Made ready) Collected here made (made_waits_not ready) collected_waits_not set q

  -- the parts of the queue behind its first are in the other order
  pub queue_passed : (b : List (Place (AccountView K V M))) (first : ℕ × ℕ) (own others : List (ℕ × ℕ)) → IsQueue b (first ∷ (own ++ others)) → IsQueue b (first ∷ (others ++ own))
  unfolding IsOnce
  queue_passed b first own others q = record {
    waits = λ c n w. q.waits c n (elim w [ inl e ↦ inl e | inr v ↦ inr (in_passed others own (c, n) v) ]);
    queued = λ c n request w. elim (q.queued c n request w) [ inl e ↦ inl e | inr v ↦ inr (in_passed own others (c, n) v) ];
    once = (λ w. q.once.0 (in_passed others own first w), once_passed own others q.once.1);
  }

  -- the first of the queue is in a run
  pub queue_started : (b a : List (Place (AccountView K V M))) (rest : List (ℕ × ℕ)) (c n accepted : ℕ) (begun : Begun) (account : AccountView K V M) (request : Request K) → found b c ≡ Some account
      → IsStage account n (Waiting request accepted) → ((k : ℕ) → found a k ≡ (if k == c then Some (with_stage account n (Running begun)) else found b k)) → IsQueue b ((c, n) ∷ rest) → IsQueue a rest
  unfolding IsOnce
  queue_started b a rest c n accepted begun account request here at set q = record {
    waits = λ k i w. (
        let x = q.waits k i (inr w) in
        elim (same_or_other k c) [
          | inl is ↦ (
            x.0,
            waits_set b a c (with_stage account n (Running begun)) set k i x.0 is
                (stays_other account n i (Running begun) x.0 at.past (λ v. q.once.0 (subst (λ (z : ℕ × ℕ). In z rest) (seat_one c n k i (is, v)) w))
                (waits_account b c account here k i x.0 is x.1)),
          )
          | inr ne ↦ (x.0, waits_other b a c (Some (with_stage account n (Running begun))) set k i x.0 ne x.1)
        ]);
    queued = λ k i other w. elim (same_or_other k c) [
      | inl is ↦ (
          let v = waited_before account n i (Running begun) other at.past (running_waits_not begun) (waits_there b a c (with_stage account n (Running begun)) set k i other is w) in
          after_first k i (λ e. v.0 (ap (λ (z : ℕ × ℕ). z.1) e))
          (q.queued k i other (record { account = account; here = ap (found b) is ∙ here; accepted = v.1.accepted; waits = v.1.waits })))
      | inr ne ↦
          after_first k i (λ e. ne (ap (λ (z : ℕ × ℕ). z.0) e))
          (q.queued k i other (waits_before b a c (Some (with_stage account n (Running begun))) set k i other ne w))
    ];
    once = q.once.1;
  }
    where
      after_first : (k i : ℕ) → (◌≡◌ {A = ℕ × ℕ} (k, i) (c, n) → ⊥) → In (k, i) ((c, n) ∷ rest) → In (k, i) rest
      after_first k i ne w = elim w [ inl e ↦ absurd (ne e) | inr v ↦ v ]

  -- ---- a request is accepted

  before_first : (account : AccountView K V M) (k : ℕ) (stage : Stage K (ReadyView K V M)) (request : Request K) → (w : IsWaiting (with_request account stage) k request)
      → ((k ≡ next_of account) × (waits_stage request w.accepted ≡ stage)) ⊎ IsWaiting account k request
  before_first account k stage request w = elim (was_before account k (Waiting request w.accepted) stage w.waits) [
    | inl x ↦ inl x
    | inr x ↦ inr (record { accepted = w.accepted; waits = x })
  ]

  stays_longer : (account : AccountView K V M) (k : ℕ) (stage : Stage K (ReadyView K V M)) (request : Request K) → IsWaiting account k request → IsWaiting (with_request account stage) k request
  stays_longer account k stage request w = record { accepted = w.accepted; waits = longer_at account k (Waiting request w.accepted) stage w.waits }

  -- its reply is ready
  pub queue_fixed : (b a : List (Place (AccountView K V M))) (queue : List (ℕ × ℕ)) (c n revision : ℕ) (account : AccountView K V M) (request : Request K) (want : Want K) → (IsDemand want → ⊥)
      → found b c ≡ Some account → ((k : ℕ) → found a k ≡ (if k == c then Some (with_request account (first_stage c n request revision want)) else found b k)) → IsQueue b queue → IsQueue a queue
  queue_fixed b a queue c n revision account request (Demand key) not_so here set q = absurd (not_so tt)
  queue_fixed b a queue c n revision account request (Fixed text) not_so here set q =
      queue_account b a queue c account (with_request account (first_stage c n request revision (Fixed text))) here set
      (λ k other w. stays_longer account k (first_stage c n request revision (Fixed text)) other w)
      (λ k other w. elim (before_first account k (first_stage c n request revision (Fixed text)) other w) [ inl x ↦ absurd (made_waits_not _ other w.accepted x.1) | inr v ↦ v ])
      q

  -- it waits
  pub queue_pushed : (b a : List (Place (AccountView K V M))) (queue after front back : List (ℕ × ℕ)) (c n revision : ℕ) (account : AccountView K V M) (request : Request K) (want : Want K) → IsDemand want
      → n ≡ next_of account → found b c ≡ Some account → ((k : ℕ) → found a k ≡ (if k == c then Some (with_request account (first_stage c n request revision want)) else found b k))
      → queue ≡ front ++ back → after ≡ front ++ (c, n) ∷ back → IsQueue b queue → IsQueue a after
  queue_pushed b a queue after front back c n revision account request (Fixed text) so number here set was e given = absurd so
  queue_pushed b a queue after front back c n revision account request (Demand key) so number here set was e given =
      rw e
      (record {
        waits = λ k i w. elim (in_before front back (c, n) (k, i) w) [
          | inl v ↦ (
            request,
            waits_set b a c longer set k i request (ap (λ (y : ℕ × ℕ). y.0) v)
                (subst (λ (j : ℕ). IsWaiting longer j request) (sym (ap (λ (y : ℕ × ℕ). y.1) v)) last),
          )
          | inr v ↦ (
              let x = q.waits k i v in
              elim (same_or_other k c) [
                | inl is ↦ (x.0, waits_set b a c longer set k i x.0 is (stays_longer account i (Waiting request revision) x.0 (waits_account b c account here k i x.0 is x.1)))
                | inr ne ↦ (x.0, waits_other b a c (Some longer) set k i x.0 ne x.1)
              ])
        ];
        queued = λ k i other w. elim (same_or_other k c) [
          | inl is ↦ elim (before_first account i (Waiting request revision) other (waits_there b a c longer set k i other is w)) [
            | inl x ↦ subst (λ (z : ℕ × ℕ). In z (front ++ (c, n) ∷ back)) (sym (seat_one c n k i (is, x.0 ∙ sym number))) (in_there front back (c, n))
            | inr v ↦ in_longer front back (c, n) (k, i) (q.queued k i other (record { account = account; here = ap (found b) is ∙ here; accepted = v.accepted; waits = v.waits }))
          ]
          | inr ne ↦ in_longer front back (c, n) (k, i) (q.queued k i other (waits_before b a c (Some longer) set k i other ne w))
        ];
        once = once_longer front back (c, n) q.once (λ w. new (q.waits c n w));
      })
    where
      q : IsQueue b (front ++ back)
      q = subst (IsQueue b) was given

      longer : AccountView K V M
      longer = with_request account (Waiting request revision)

      last : IsWaiting longer n request
      last = record { accepted = revision; waits = subst (λ (i : ℕ). IsStage longer i (Waiting request revision)) (sym number) (added_at account (Waiting request revision)) }

      new : (other : Request K) × WaitsIn b c n other → ⊥
      new x =
          let w = waits_account b c account here c n x.0 refl x.1 in
          let lt = stage_within account n (Waiting x.0 w.accepted) w.waits in
          absurd (omega (arith, number, lt))

  -- ---- clients

  -- a client is opened
  pub queue_opened : (b a : List (Place (AccountView K V M))) (queue : List (ℕ × ℕ)) (c : ℕ) → found b c ≡ None
      → ((k : ℕ) → found a k ≡ (if k == c then Some no_requests else found b k)) → IsQueue b queue → IsQueue a queue
  queue_opened b a queue c none set q = record {
    waits = λ k i w. (let x = q.waits k i w in (x.0, waits_other b a c (Some no_requests) set k i x.0 (λ is. none_some x.1.account (sym none ∙ (ap (found b) (sym is) ∙ x.1.here))) x.1));
    queued = λ k i request w. elim (same_or_other k c) [
      | inl is ↦ (
          let y = waits_there b a c no_requests set k i request is w in
          absurd (none_some (waits_stage request y.accepted) y.waits.here))
      | inr ne ↦ q.queued k i request (waits_before b a c (Some no_requests) set k i request ne w)
    ];
    once = q.once;
  }

  -- a client is closed
  pub queue_closed : (b a : List (Place (AccountView K V M))) (queue after : List (ℕ × ℕ)) (c : ℕ) → ((k : ℕ) → found a k ≡ (if k == c then None else found b k))
      → after ≡ filter (λ seat. is_of_other c seat) queue → IsQueue b queue → IsQueue a after
  queue_closed b a queue after c set e q =
      rw e
      (record {
        waits = λ k i w. (
            let f = out_filter (λ seat. is_of_other c seat) (k, i) queue w in
            let x = q.waits k i f.1 in (x.0, waits_other b a c None set k i x.0 (other_so k f.0) x.1));
        queued = λ k i request w. (
            let ne = is_left k i request w in
            in_filter (λ seat. is_of_other c seat) (k, i) queue (ap not (ne_eqb k c ne)) (q.queued k i request (waits_before b a c None set k i request ne w)));
        once = once_filter (λ seat. is_of_other c seat) queue q.once;
      })
    where
      other_so : (k : ℕ) → not (k == c) ≡ true → k ≢ c
      other_so k t is = not_so (sym t ∙ ap not (eq-eqb k c is))
        where
          not_so : true ≡ false → ⊥
          not_so f = cc

      is_left : (k i : ℕ) (request : Request K) → WaitsIn a k i request → k ≢ c
      is_left k i request w is = none_some w.account (sym (set c ∙ if_at c None (found b c)) ∙ (ap (found a) (sym is) ∙ w.here))

-- it is no longer than before
pub no_longer : (c : ℕ) (queue rest : List (ℕ × ℕ)) → rest ≡ filter (λ seat. is_of_other c seat) queue → length rest ≤ length queue
no_longer c queue rest e = rw e (few_filter (λ seat. is_of_other c seat) queue)

-- ---- a request is withdrawn

both_not : (p q : Bool) → p ≡ true → q ≡ true → not p || not q ≡ false
both_not p q e f = ap (λ (x : Bool). not x || not q) e ∙ ap (λ (x : Bool). not x) f

first_not : (p q : Bool) → p ≡ false → not p || not q ≡ true
first_not p q e = ap (λ (x : Bool). not x || not q) e

second_not : (p q : Bool) → q ≡ false → not p || not q ≡ true
second_not true q e = ap not e
second_not false q e = refl

-- a seat is another than the request `n` of the client `c`
same_seat : (c n k i : ℕ) → k ≡ c → i ≡ n → is_other_seat c n (k, i) ≡ true → ⊥
same_seat c n k i e f t = not_so (sym t ∙ both_not (k == c) (i == n) (eq-eqb k c e) (eq-eqb i n f))
  where
    not_so : true ≡ false → ⊥
    not_so g = cc

other_client : (c n k i : ℕ) → k ≢ c → is_other_seat c n (k, i) ≡ true
other_client c n k i ne = first_not (k == c) (i == n) (ne_eqb k c ne)

other_number : (c n k i : ℕ) → i ≢ n → is_other_seat c n (k, i) ≡ true
other_number c n k i ne = second_not (k == c) (i == n) (ne_eqb i n ne)

module _ {K V M : Type 0} where
  -- the reply to a request that waits is made
  pub queue_withdrawn : (b a : List (Place (AccountView K V M))) (queue after : List (ℕ × ℕ)) (c n accepted : ℕ) (account : AccountView K V M) (request : Request K) (ready : ReadyView K V M)
      → found b c ≡ Some account → IsStage account n (Waiting request accepted)
      → ((k : ℕ) → found a k ≡ (if k == c then Some (with_stage account n (Made ready)) else found b k))
      → after ≡ filter (λ seat. is_other_seat c n seat) queue → IsQueue b queue → IsQueue a after
  queue_withdrawn b a queue after c n accepted account request ready here at set e q =
      rw e
      (record {
        waits = λ k i w. (
            let f = out_filter (λ seat. is_other_seat c n seat) (k, i) queue w in
            let x = q.waits k i f.1 in
            elim (same_or_other k c) [
              | inl is ↦ (
                x.0,
                waits_set b a c (with_stage account n (Made ready)) set k i x.0 is
                    (stays_other account n i (Made ready) x.0 at.past (λ v. same_seat c n k i is v f.0) (waits_account b c account here k i x.0 is x.1)),
              )
              | inr ne ↦ (x.0, waits_other b a c (Some (with_stage account n (Made ready))) set k i x.0 ne x.1)
            ]);
        queued = λ k i other w. elim (same_or_other k c) [
          | inl is ↦ (
              let v = waited_before account n i (Made ready) other at.past (made_waits_not ready) (waits_there b a c (with_stage account n (Made ready)) set k i other is w) in
              in_filter (λ seat. is_other_seat c n seat) (k, i) queue (other_number c n k i v.0)
              (q.queued k i other (record { account = account; here = ap (found b) is ∙ here; accepted = v.1.accepted; waits = v.1.waits })))
          | inr ne ↦
              in_filter (λ seat. is_other_seat c n seat) (k, i) queue (other_client c n k i ne)
              (q.queued k i other (waits_before b a c (Some (with_stage account n (Made ready))) set k i other ne w))
        ];
        once = once_filter (λ seat. is_other_seat c n seat) queue q.once;
      })
