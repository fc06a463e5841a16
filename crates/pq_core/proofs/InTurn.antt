-- Clients in turn: no client has two turns, and where requests go. Only proofs need these lemmas.
use Rattle.std.proofs.Common.{◌≡◌, ℕ, zero, suc, ◌+◌, ◌-◌, ◌≤◌, ◌<◌, ◌^◌, ◌==◌, ◌⊎◌, not, List, [], ◌∷◌, ◌++◌, length, slice_get, slice_set, get_or, Option, Some, IfSome, refl, sym, ◌∙◌, ap, subst, inl, inr, arith, take, drop}
use Rattle.std.specs.List.{remove}
use Rattle.std.specs.Prelude.{filter}
use Rattle.std.proofs.lemmas.Grind.{flat_map-append}
use Rattle.std.proofs.lemmas.List.{append-nil, append_assoc, length-append, map-append}
use Rattle.pq_rules.specs.Relations.{In}
use Rattle.pq_core.proofs.AccountMoves.{read_at}
use Rattle.pq_core.proofs.Lists.{some_one, none_some}
use Rattle.pq_core.proofs.Queued.{in_there, in_longer, once_filter, once_passed}
use Rattle.pq_core.proofs.Turned.{no_items, last_there, filter_after, seats, seats_last, seats_pushed}
use Rattle.pq_core.specs.aux.Queue.{IsOnce}
use Rattle.pq_core.specs.aux.Turns.{Pops, Pushes, NoneOf, seats_in, seats_of, clients, AreApart, IsTurnOf, IsSettledAt, HasRoomAt, IsKept}
use Rattle.pq_core.specs.declared.store.queue.ClientTurn.{ClientTurn}

-- ---- lists

-- `IsSplit xs i x` is `xs` as what is before and behind `x`, which is at `i`
pub record IsSplit {A : Type 0} (xs : List A) (i : ℕ) (x : A) : Type 0 where
  pub before : List A
  pub behind : List A
  pub is : xs ≡ before ++ x ∷ behind
  pub long : length before ≡ i
  pub written : (y : A) → slice_set xs i y ≡ before ++ y ∷ behind
  pub removed : remove xs i ≡ before ++ behind

split_at : {A : Type 0} (xs : List A) (i : ℕ) (x : A) → slice_get xs i ≡ Some x → IsSplit xs i x
split_at [] i x h = absurd (none_some x h)
split_at (z ∷ xs) zero x h = record {
  before = [];
  behind = xs;
  is = ap (λ (y : _). y ∷ xs) (some_one z x h);
  long = refl;
  written = λ y. refl;
  removed = refl;
}
split_at (z ∷ xs) (suc i) x h =
    let w = split_at xs i x h in
    record {
      before = z ∷ w.before;
      behind = w.behind;
      is = ap (λ (l : List _). z ∷ l) w.is;
      long = ap suc w.long;
      written = λ y. ap (λ (l : List _). z ∷ l) (w.written y);
      removed = ap (λ (l : List _). z ∷ l) w.removed;
    }

in_left : {A : Type 0} (xs ys : List A) (y : A) → In y xs → In y (xs ++ ys)
in_left [] ys y h = absurd h
in_left (x ∷ xs) ys y h = elim h [ inl e ↦ inl e | inr w ↦ inr (in_left xs ys y w) ]

in_right : {A : Type 0} (xs ys : List A) (y : A) → In y ys → In y (xs ++ ys)
in_right [] ys y h = h
in_right (x ∷ xs) ys y h = inr (in_right xs ys y h)

in_either : {A : Type 0} (xs ys : List A) (y : A) → In y (xs ++ ys) → In y xs ⊎ In y ys
in_either [] ys y h = inr h
in_either (x ∷ xs) ys y h = elim h [
  | inl e ↦ inl (inl e)
  | inr w ↦ elim (in_either xs ys y w) [ inl v ↦ inl (inr v) | inr v ↦ inr v ]
]

-- an element is left out
once_out : {A : Type 0} (xs ys : List A) (x : A) → IsOnce (xs ++ x ∷ ys) → IsOnce (xs ++ ys) × (In x (xs ++ ys) → ⊥)
unfolding IsOnce
once_out [] ys x h = (h.1, h.0)
once_out (z ∷ xs) ys x h =
    let w = once_out xs ys x h.1 in (
      (λ v. h.0 (in_longer xs ys x z v), w.0),
      λ v. elim v [
        | inl e ↦ h.0 (subst (λ (y : _). In y (xs ++ x ∷ ys)) e (in_there xs ys x))
        | inr u ↦ w.1 u
      ],
    )

-- an element goes to the end
once_last : {A : Type 0} (xs : List A) (x : A) → IsOnce xs → (In x xs → ⊥) → IsOnce (xs ++ x ∷ [])
unfolding IsOnce
once_last xs x h new = once_passed (x ∷ []) xs (new, h)

once_first : {A : Type 0} (x : A) (xs : List A) → IsOnce (x ∷ xs) → (In x xs → ⊥) × IsOnce xs
unfolding IsOnce
once_first x xs h = h

-- ---- requests and their clients

-- the client of a request of a turn
seat_of : (c : ℕ) (ns : List ℕ) (k n : ℕ) → In (k, n) (seats c ns) → k ≡ c
seat_of c [] k n h = absurd h
seat_of c (m ∷ ns) k n h = elim h [ inl e ↦ ap (λ (z : ℕ × ℕ). z.0) e | inr w ↦ seat_of c ns k n w ]

-- the client of a request has a turn
in_clients : (turns : List ClientTurn) (k n : ℕ) → In (k, n) (seats_of turns) → In k (clients turns)
in_clients [] k n h = absurd h
in_clients (t ∷ turns) k n h = elim (in_either (seats_in t) (seats_of turns) (k, n) h) [
  | inl w ↦ inl (seat_of t.client t.numbers.items k n w)
  | inr w ↦ inr (in_clients turns k n w)
]

client_at : (turns : List ClientTurn) (k : ℕ) → In k (clients turns) → (place : ℕ) × IsTurnOf turns place k
client_at [] k h = absurd h
client_at (t ∷ turns) k h = elim h [
  | inl e ↦ (0, record { turn = t; here = refl; is_of = sym e })
  | inr w ↦ (let x = client_at turns k w in (suc x.0, record { turn = x.1.turn; here = x.1.here; is_of = x.1.is_of }))
]

clients_more : (turns : List ClientTurn) (t : ClientTurn) (rest : List ClientTurn) → clients (turns ++ t ∷ rest) ≡ clients turns ++ t.client ∷ clients rest
clients_more turns t rest = map-append (λ (u : ClientTurn). u.client) turns (t ∷ rest)

pub clients_set : (turns : List ClientTurn) (place : ℕ) (t u : ClientTurn) → slice_get turns place ≡ Some t → u.client ≡ t.client → clients (slice_set turns place u) ≡ clients turns
clients_set [] place t u h e = absurd (none_some t h)
clients_set (v ∷ turns) zero t u h e = ap (λ (c : ℕ). c ∷ clients turns) (e ∙ ap (λ (w : ClientTurn). w.client) (sym (some_one v t h)))
clients_set (v ∷ turns) (suc place) t u h e = ap (λ l. v.client ∷ l) (clients_set turns place t u h e)

pub apart_set : (turns : List ClientTurn) (place : ℕ) (t u : ClientTurn) → slice_get turns place ≡ Some t → u.client ≡ t.client → AreApart turns → AreApart (slice_set turns place u)
apart_set turns place t u h e apart = subst (λ (l : List ℕ). IsOnce l) (sym (clients_set turns place t u h e)) apart

pub apart_same : (turns after : List ClientTurn) → clients after ≡ clients turns → AreApart turns → AreApart after
apart_same turns after e apart = subst (λ (l : List ℕ). IsOnce l) (sym e) apart

pub apart_none : AreApart []
unfolding IsOnce
apart_none = tt

-- the first turn is dropped
pub apart_drop : (turns : List ClientTurn) → AreApart turns → AreApart (drop 1 turns)
apart_drop [] apart = apart
apart_drop (t ∷ turns) apart = (once_first t.client (clients turns) apart).1

-- a turn is added
pub apart_added : (turns : List ClientTurn) (t : ClientTurn) (client : ℕ) → t.client ≡ client → ((place : ℕ) → IsTurnOf turns place client → ⊥) → AreApart turns → AreApart (turns ++ t ∷ [])
apart_added turns t client is none apart =
    subst (λ (l : List ℕ). IsOnce l) (sym (clients_more turns t []))
    (once_last (clients turns) t.client apart (λ w. let x = client_at turns t.client w in none x.0 (record { turn = x.1.turn; here = x.1.here; is_of = x.1.is_of ∙ is })))

-- the turns of a client are dropped
pub apart_filtered : (c : ℕ) (turns : List ClientTurn) → AreApart turns → AreApart (filter (λ (t : ClientTurn). not (t.client == c)) turns)
apart_filtered c turns apart =
    subst (λ (l : List ℕ). IsOnce l) (sym (filter_after (λ (t : ClientTurn). t.client) (λ (k : ℕ). not (k == c)) (λ (t : ClientTurn). not (t.client == c)) turns (λ t. refl)))
    (once_filter (λ (k : ℕ). not (k == c)) (clients turns) apart)

-- ---- a turn without requests goes behind the others

module _ (turns : List ClientTurn) (place : ℕ) (t : ClientTurn) (here : slice_get turns place ≡ Some t) where
  s : IsSplit turns place t
  s = split_at turns place t here

  all_clients : clients turns ≡ clients s.before ++ t.client ∷ clients s.behind
  all_clients = ap clients s.is ∙ clients_more s.before t s.behind

  out : AreApart turns → IsOnce (clients s.before ++ clients s.behind) × (In t.client (clients s.before ++ clients s.behind) → ⊥)
  out apart = once_out (clients s.before) (clients s.behind) t.client (subst (λ (l : List ℕ). IsOnce l) all_clients apart)

  apart_moved : AreApart turns → AreApart (remove turns place ++ t ∷ [])
  apart_moved apart =
      let w = out apart in
      subst (λ (l : List ℕ). IsOnce l)
      (sym (clients_more (remove turns place) t [] ∙ ap (λ (l : List ℕ). l ++ t.client ∷ []) (ap clients s.removed ∙ map-append (λ (u : ClientTurn). u.client) s.before s.behind)))
      (once_last (clients s.before ++ clients s.behind) t.client w.0 w.1)

  all_seats : seats_of turns ≡ seats_of s.before ++ (seats_in t ++ seats_of s.behind)
  all_seats = ap seats_of s.is ∙ flat_map-append seats_in s.before (t ∷ s.behind)

  seats_without : seats_in t ≡ [] → seats_of (remove turns place) ≡ seats_of turns
  seats_without none =
      ap seats_of s.removed
      ∙ flat_map-append seats_in s.before s.behind
      ∙ ap (λ l. seats_of s.before ++ (l ++ seats_of s.behind)) (sym none)
      ∙ sym all_seats

-- `Settles turns after n client` is that `turns` became `after`, of `n` turns, of which the last is of
-- `client`
pub record Settles (turns after : List ClientTurn) (n client : ℕ) : Type 0 where
  pub some : 1 ≤ n
  pub seats : seats_of after ≡ seats_of turns
  pub apart : AreApart turns → AreApart after
  pub here : IsSettledAt after (n - 1) client

pub moved_last : (turns after : List ClientTurn) (place client n : ℕ) (w : IsTurnOf turns place client) → w.turn.numbers.items ≡ [] → after ≡ remove turns place ++ w.turn ∷ [] → n ≡ length after
    → Settles turns after n client
moved_last turns after place client n w none is long = record {
  some = omega (arith, long, all);
  seats =
      ap seats_of is
      ∙ flat_map-append seats_in (remove turns place) (w.turn ∷ [])
      ∙ ap (λ l. seats_of (remove turns place) ++ (l ++ [])) empty
      ∙ append-nil (seats_of (remove turns place))
      ∙ seats_without turns place w.turn w.here empty;
  apart = λ apart. subst (λ (ts : List ClientTurn). AreApart ts) (sym is) (apart_moved turns place w.turn w.here apart);
  here = record {
    turn = w.turn;
    here = subst (λ (ts : List ClientTurn). slice_get ts (n - 1) ≡ Some w.turn) (sym is)
        (subst (λ (m : ℕ). slice_get (remove turns place ++ w.turn ∷ []) m ≡ Some w.turn) last (last_there (remove turns place) w.turn));
    is_of = w.is_of;
    settled = inr (omega (arith, long, all));
  };
}
  where
    empty : seats_in w.turn ≡ []
    empty = ap (seats w.turn.client) none

    all : length after ≡ length (remove turns place) + 1
    all = ap (λ l. length l) is ∙ length-append (remove turns place) (w.turn ∷ [])

    last : length (remove turns place) ≡ n - 1
    last = omega (arith, long, all)

-- ---- a request is added

some_in : (c : ℕ) (ns : List ℕ) → 0 < length ns → (m : ℕ) × In (c, m) (seats c ns)
some_in c [] h = absurd (omega arith)
some_in c (n ∷ ns) h = (n, inl refl)

last_of : (n : ℕ) (ns : List ℕ) → (first : List ℕ) × (k : ℕ) × (n ∷ ns ≡ first ++ k ∷ [])
last_of n [] = ([], n, refl)
last_of n (m ∷ ns) = let w = last_of m ns in (n ∷ w.0, w.1, ap (λ (l : List ℕ). n ∷ l) w.2)

last_seat : (front : List (ℕ × ℕ)) (c : ℕ) (ns : List ℕ) (k m : ℕ) → In (k, m) (seats c ns) → (rest : List (ℕ × ℕ)) × (j : ℕ) × (front ++ seats c ns ≡ rest ++ (c, j) ∷ [])
last_seat front c [] k m h = absurd h
last_seat front c (n ∷ ns) k m h =
    let w = last_of n ns in (
      front ++ seats c w.0,
      w.1,
      ap (λ (l : List ℕ). front ++ seats c l) w.2 ∙ ap (λ l. front ++ l) (seats_last c w.1 w.0) ∙ sym (append_assoc front (seats c w.0) ((c, w.1) ∷ [])),
    )

pushes_at : (turns : List ClientTurn) (place n : ℕ) (t u : ClientTurn) (here : slice_get turns place ≡ Some t) → AreApart turns → (0 < length t.numbers.items) ⊎ (length turns ≡ place + 1)
    → seats_in u ≡ seats_in t ++ (t.client, n) ∷ [] → Pushes t.client n (seats_of turns) (seats_of (slice_set turns place u))
pushes_at turns place n t u here apart settled one = record {
  front = seats_of split.before ++ seats_in t;
  back = seats_of split.behind;
  was = all_seats turns place t here ∙ sym (append_assoc (seats_of split.before) (seats_in t) (seats_of split.behind));
  is =
      ap seats_of (split.written u)
      ∙ flat_map-append seats_in split.before (u ∷ split.behind)
      ∙ ap (λ l. seats_of split.before ++ (l ++ seats_of split.behind)) one
      ∙ ap (λ l. seats_of split.before ++ l) (append_assoc (seats_in t) ((t.client, n) ∷ []) (seats_of split.behind))
      ∙ sym (append_assoc (seats_of split.before) (seats_in t) ((t.client, n) ∷ seats_of split.behind));
  none_behind = behind;
  last = λ m w. elim (in_either (seats_of split.before) (seats_in t ++ seats_of split.behind) (t.client, m) (subst (λ l. In (t.client, m) l) (all_seats turns place t here) w)) [
    | inl v ↦ absurd (new (in_left (clients split.before) (clients split.behind) t.client (in_clients split.before t.client m v)))
    | inr v ↦ elim (in_either (seats_in t) (seats_of split.behind) (t.client, m) v) [
      | inl own ↦ last_seat (seats_of split.before) t.client t.numbers.items t.client m own
      | inr later ↦ absurd (behind m later)
    ]
  ];
  first = λ none. elim settled [
    | inl some ↦ (
        let w = some_in t.client t.numbers.items some in
        absurd (none w.0 (subst (λ l. In (t.client, w.0) l) (sym (all_seats turns place t here))
        (in_right (seats_of split.before) (seats_in t ++ seats_of split.behind) (t.client, w.0) (in_left (seats_in t) (seats_of split.behind) (t.client, w.0) w.1)))))
    | inr end ↦ (
        let all = ap (λ l. length l) split.is ∙ length-append split.before (t ∷ split.behind) in
        let long = split.long in
        ap seats_of (no_items split.behind (omega (arith, all, long, end))))
  ];
}
  where
    split : IsSplit turns place t
    split = s turns place t here

    new : In t.client (clients split.before ++ clients split.behind) → ⊥
    new = (out turns place t here apart).1

    behind : NoneOf t.client (seats_of split.behind)
    behind m w = new (in_right (clients split.before) (clients split.behind) t.client (in_clients split.behind t.client m w))

-- the turn of a client for which the queue is ready gets one more request
pub record Ready (turns : List ClientTurn) (count place client : ℕ) (x : ClientTurn) : Type 0 where
  pub room : HasRoomAt turns place client
  pub read : x ≡ room.turn

pub ready_at : (turns : List ClientTurn) (count place client : ℕ) (ready : Option ℕ) (x : ClientTurn) → IsKept turns count ready place → ready ≡ Some client → x ≡ get_or turns place x → Ready turns count place client x
ready_at turns count place client ready x kept is read =
    let w : HasRoomAt turns place client = (subst (λ (r : Option ℕ). IfSome r (λ k. (count + 1 < 2 ^ 64) × HasRoomAt turns place k)) is kept.room).1 in
    record { room = w; read = read_at turns place x w.turn w.here read }

pub turn_pushed : (turns : List ClientTurn) (count place client number : ℕ) (x u : ClientTurn) → AreApart turns → Ready turns count place client x
    → u.client ≡ x.client → u.numbers.items ≡ x.numbers.items ++ number ∷ [] → Pushes client number (seats_of turns) (seats_of (slice_set turns place u)) × AreApart (slice_set turns place u)
turn_pushed turns count place client number x u apart w same longer =
    let t = w.room.turn in
    let own = same ∙ ap (λ (v : ClientTurn). v.client) w.read in (
      subst (λ (k : ℕ). Pushes k number (seats_of turns) (seats_of (slice_set turns place u))) w.room.is_of
          (pushes_at turns place number t u w.room.here apart w.room.settled
          (seats_pushed t.client u.client number t.numbers.items u.numbers.items own (longer ∙ ap (λ (v : ClientTurn). v.numbers.items ++ number ∷ []) w.read))),
      apart_set turns place t u w.room.here own apart,
    )

-- there is one request more
pub grown : (c n : ℕ) (before after : List (ℕ × ℕ)) → Pushes c n before after → length after ≡ length before + 1
grown c n before after p =
    let was = ap (λ l. length l) p.was ∙ length-append p.front p.back in
    let is = ap (λ l. length l) p.is ∙ length-append p.front ((c, n) ∷ p.back) in
    omega (arith, was, is)

-- ---- the first request is taken

pub first_popped : (turns : List ClientTurn) (x u : ClientTurn) (seat : ℕ × ℕ) → 0 < length turns → AreApart turns → x ≡ get_or turns 0 x → u.client ≡ x.client → seats_in x ≡ seat ∷ seats_in u
    → Pops seat (seats_of turns) (seats_of (drop 1 (slice_set turns 0 u) ++ take 1 (slice_set turns 0 u))) × AreApart (drop 1 (slice_set turns 0 u) ++ take 1 (slice_set turns 0 u))
first_popped [] x u seat some apart read same taken = absurd (omega arith)
first_popped (t ∷ turns) x u seat some apart read same taken = (
  record {
    own = seats_in u;
    others = seats_of turns;
    was = ap (λ (v : ClientTurn). seats_in v ++ seats_of turns) (sym read) ∙ ap (λ l. l ++ seats_of turns) taken;
    is = flat_map-append seats_in turns (u ∷ []) ∙ ap (λ l. seats_of turns ++ l) (append-nil (seats_in u));
    are_own = λ k n w. seat_of u.client u.numbers.items k n w ∙ same ∙ sym client;
    none_own = λ n w. apart_first.0 (subst (λ (k : ℕ). In k (clients turns)) (client ∙ ap (λ (v : ClientTurn). v.client) read) (in_clients turns seat.0 n w));
  },
  subst (λ (l : List ℕ). IsOnce l) (sym (clients_more turns u []))
      (once_last (clients turns) u.client apart_first.1 (λ w. apart_first.0 (subst (λ (k : ℕ). In k (clients turns)) (same ∙ ap (λ (v : ClientTurn). v.client) read) w))),
)
  where
    apart_first : (In t.client (clients turns) → ⊥) × IsOnce (clients turns)
    apart_first = once_first t.client (clients turns) apart

    client : seat.0 ≡ x.client
    client = seat_of x.client x.numbers.items seat.0 seat.1 (subst (λ l. In seat l) (sym taken) (inl refl))

-- there is one request less
pub shrunk : (seat : ℕ × ℕ) (before after : List (ℕ × ℕ)) → Pops seat before after → length before ≡ length after + 1
shrunk seat before after p =
    let was = ap (λ l. length l) p.was in
    let parts = length-append p.own p.others in
    let is = ap (λ l. length l) p.is ∙ length-append p.others p.own in
    omega (arith, was, parts, is)
