-- The turns of the queue, after each change. Only proofs need these lemmas.
use Rattle.std.proofs.Common.{◌≡◌, ◌≢◌, ℕ, zero, suc, ◌+◌, ◌≤◌, ◌<◌, ◌==◌, ◌||◌, Bool, true, false, cond, not, List, [], ◌∷◌, ◌++◌, map, length, slice_get, slice_set, get_or, Some, refl, sym, ◌∙◌, ap, subst, arith, take, drop}
use Rattle.std.specs.Prelude.{filter}
use Rattle.std.proofs.lemmas.Bool.{ne_eqb, eq-eqb}
use Rattle.std.proofs.lemmas.Grind.{flat_map-append}
use Rattle.std.proofs.lemmas.List.{append-nil, length-append, length-map, take_more, take_more_set, drop-set-lt, get_or-drop}
use Rattle.std.proofs.lemmas.List.Folds.{length-flat_map-take}
use Rattle.std.proofs.lemmas.List.Elements.{filter-append}
use Rattle.pq_core.proofs.AccountMoves.{drop_more}
use Rattle.pq_core.proofs.Lists.{some_one, none_some}
use Rattle.pq_core.specs.aux.Queue.{is_of_other, is_other_seat}
use Rattle.pq_core.specs.aux.Turns.{seats_in, seats_of, FirstWaits}
use Rattle.pq_core.specs.declared.store.queue.ClientTurn.{ClientTurn}

-- ---- lists

module _ {A B : Type 0} (f : A → B) (q : B → Bool) where
  kept_by : (x : A) (xs : List A) (ys : List B) (a b : Bool) → b ≡ a → map f xs ≡ ys → map f (cond a (x ∷ xs) xs) ≡ cond b (f x ∷ ys) ys
  kept_by x xs ys true b e h = ap (λ l. f x ∷ l) h ∙ ap (λ (t : Bool). cond t (f x ∷ ys) ys) (sym e)
  kept_by x xs ys false b e h = h ∙ ap (λ (t : Bool). cond t (f x ∷ ys) ys) (sym e)

  -- a filter after a map, by the test before it
  pub filter_after : (p : A → Bool) (xs : List A) → ((x : A) → q (f x) ≡ p x) → map f (filter p xs) ≡ filter q (map f xs)
  filter_after p [] h = refl
  filter_after p (x ∷ xs) h = kept_by x (filter p xs) (filter q (map f xs)) (p x) (q (f x)) (h x) (filter_after p xs h)

  all_pass : (xs : List A) → ((x : A) → q (f x) ≡ true) → filter q (map f xs) ≡ map f xs
  all_pass [] h = refl
  all_pass (x ∷ xs) h = ap (λ (t : Bool). cond t (f x ∷ filter q (map f xs)) (filter q (map f xs))) (h x) ∙ ap (λ l. f x ∷ l) (all_pass xs h)

  none_pass : (xs : List A) → ((x : A) → q (f x) ≡ false) → filter q (map f xs) ≡ []
  none_pass [] h = refl
  none_pass (x ∷ xs) h = ap (λ (t : Bool). cond t (f x ∷ filter q (map f xs)) (filter q (map f xs))) (h x) ∙ none_pass xs h

-- the first of a list, by a read
pub first_read : {A : Type 0} (xs : List A) (x : A) → 0 < length xs → x ≡ get_or xs 0 x → xs ≡ x ∷ drop 1 xs
first_read [] x h e = absurd (omega arith)
first_read (y ∷ xs) x h e = ap (λ (z : _). z ∷ xs) (sym e)

-- a list without a length is empty
pub no_items : {A : Type 0} (xs : List A) → length xs ≡ 0 → xs ≡ []
no_items [] h = refl
no_items (x ∷ xs) h = absurd (omega arith)

pub some_left : (n m : ℕ) (b : Bool) → b ≡ (n == 0) → n ≡ m → (b ≡ true → ⊥) → 0 < m
some_left zero m b e same not_so = absurd (not_so e)
some_left (suc n) m b e same not_so = omega arith

pub none_left : (n : ℕ) → (0 < n → false ≡ true) → n ≡ 0
none_left zero h = refl
none_left (suc n) h = absurd (not_so (h (omega arith)))
  where
    not_so : false ≡ true → ⊥
    not_so e = cc

pub not_both : (b : Bool) → b ≡ false → b ≡ true → ⊥
not_both b e f = cc

-- the place behind a list
pub last_there : {A : Type 0} (xs : List A) (x : A) → slice_get (xs ++ x ∷ []) (length xs) ≡ Some x
last_there [] x = refl
last_there (y ∷ xs) x = last_there xs x

-- ---- one turn

-- `seats c ns` is the requests `ns` of the client `c`
abbrev pub seats : ℕ → List ℕ → List (ℕ × ℕ)
seats c ns = map (λ (n : ℕ). (c, n)) ns

pub seats_one : (c d : ℕ) (ns ms : List ℕ) → d ≡ c → ms ≡ ns → seats d ms ≡ seats c ns
seats_one c d ns ms e f = ap (λ (k : ℕ). seats k ms) e ∙ ap (λ (l : List ℕ). seats c l) f

-- a request is dropped, of another client
pub left_other : (c d n : ℕ) (ns : List ℕ) → c ≢ d → seats c ns ≡ filter (λ seat. is_other_seat d n seat) (seats c ns)
left_other c d n ns ne = sym (all_pass (λ (m : ℕ). (c, m)) (λ seat. is_other_seat d n seat) ns (λ m. ap (λ (t : Bool). not t || not (m == n)) (ne_eqb c d ne)))

-- a request is dropped, of this client
pub left_own : (c d n : ℕ) (ns ms : List ℕ) → c ≡ d → ms ≡ filter (λ (m : ℕ). not (m == n)) ns → seats c ms ≡ filter (λ seat. is_other_seat d n seat) (seats c ns)
left_own c d n ns ms is e =
    ap (seats c) e
    ∙ filter_after (λ (m : ℕ). (c, m)) (λ seat. is_other_seat d n seat) (λ (m : ℕ). not (m == n)) ns (λ m. ap (λ (t : Bool). not t || not (m == n)) (eq-eqb c d is))

-- ---- all turns

-- a client is dropped
kept_turn : (c : ℕ) (t : ClientTurn) (rest : List ClientTurn) (others : List (ℕ × ℕ)) (b : Bool) → not (t.client == c) ≡ b → seats_of rest ≡ filter (λ seat. is_of_other c seat) others
    → seats_of (cond b (t ∷ rest) rest) ≡ filter (λ seat. is_of_other c seat) (seats_in t ++ others)
kept_turn c t rest others true e h =
    ap (λ l. seats_in t ++ l) h
    ∙ ap (λ l. l ++ filter (λ seat. is_of_other c seat) others) (sym (all_pass (λ (n : ℕ). (t.client, n)) (λ seat. is_of_other c seat) t.numbers.items (λ n. e)))
    ∙ sym (filter-append (λ seat. is_of_other c seat) (seats_in t) others)
kept_turn c t rest others false e h =
    h
    ∙ ap (λ l. l ++ filter (λ seat. is_of_other c seat) others) (sym (none_pass (λ (n : ℕ). (t.client, n)) (λ seat. is_of_other c seat) t.numbers.items (λ n. e)))
    ∙ sym (filter-append (λ seat. is_of_other c seat) (seats_in t) others)

pub dropped_turns : (c : ℕ) (turns : List ClientTurn) → seats_of (filter (λ (t : ClientTurn). not (t.client == c)) turns) ≡ filter (λ seat. is_of_other c seat) (seats_of turns)
dropped_turns c [] = refl
dropped_turns c (t ∷ turns) = kept_turn c t (filter (λ (u : ClientTurn). not (u.client == c)) turns) (seats_of turns) (not (t.client == c)) refl (dropped_turns c turns)

-- a turn is replaced by one of the same requests
pub same_turn : (turns : List ClientTurn) (place : ℕ) (t u : ClientTurn) → slice_get turns place ≡ Some t → seats_in u ≡ seats_in t → seats_of (slice_set turns place u) ≡ seats_of turns
same_turn [] place t u h e = absurd (none_some t h)
same_turn (v ∷ turns) zero t u h e = ap (λ l. l ++ seats_of turns) (e ∙ ap seats_in (sym (some_one v t h)))
same_turn (v ∷ turns) (suc place) t u h e = ap (λ l. seats_in v ++ l) (same_turn turns place t u h e)

-- the last request of a turn
pub seats_last : (c n : ℕ) (ns : List ℕ) → seats c (ns ++ n ∷ []) ≡ seats c ns ++ (c, n) ∷ []
seats_last c n [] = refl
seats_last c n (x ∷ ns) = ap (λ l. (c, x) ∷ l) (seats_last c n ns)

pub seats_pushed : (c d n : ℕ) (ns ms : List ℕ) → d ≡ c → ms ≡ ns ++ n ∷ [] → seats d ms ≡ seats c ns ++ (c, n) ∷ []
seats_pushed c d n ns ms e f = seats_one c d (ns ++ n ∷ []) ms e f ∙ seats_last c n ns

-- ---- the first turn

-- it has no request, and is dropped
pub empty_first : (turns rest : List ClientTurn) (t : ClientTurn) → turns ≡ t ∷ rest → t.numbers.items ≡ [] → seats_of (drop 1 turns) ≡ seats_of turns
empty_first turns rest t e none =
    ap (λ (ts : List ClientTurn). seats_of (drop 1 ts)) e
    ∙ sym (ap seats_of e ∙ ap (λ (ns : List ℕ). seats t.client ns ++ seats_of rest) none)

pub none_waits : (turns : List ClientTurn) → length turns ≡ 0 → FirstWaits turns
unfolding FirstWaits
none_waits [] h = tt
none_waits (t ∷ turns) h = absurd (omega arith)

pub first_waits : (turns rest : List ClientTurn) (t : ClientTurn) → turns ≡ t ∷ rest → 0 < length t.numbers.items → FirstWaits turns
unfolding FirstWaits
first_waits turns rest t e h = subst FirstWaits (sym e) h

pub waits_at : (turns : List ClientTurn) (x : ClientTurn) → 0 < length turns → FirstWaits turns → x ≡ get_or turns 0 x → 0 < length x.numbers.items
unfolding FirstWaits
waits_at [] x h w e = absurd (omega arith)
waits_at (t ∷ turns) x h w e = subst (λ (y : ClientTurn). 0 < length y.numbers.items) (sym e) w

pub some_waits : (turns : List ClientTurn) → 0 < length turns → FirstWaits turns → 0 < length (seats_of turns)
unfolding FirstWaits
some_waits [] h w = absurd (omega arith)
some_waits (t ∷ turns) h w =
    let first : 0 < length t.numbers.items = w in
    let all = length-append (seats_in t) (seats_of turns) in
    let own = length-map {B = ℕ × ℕ} t.numbers.items (λ (n : ℕ). (t.client, n)) in
    omega (arith, all, own)

-- a request is dropped from the turns one by one
pub dropped_at : (test : ℕ × ℕ → Bool) (now old : List ClientTurn) (i : ℕ) (x u : ClientTurn) → i < length now → length now ≡ length old → x ≡ get_or now i x → drop i now ≡ drop i old
    → seats_of (take i now) ≡ filter test (seats_of (take i old)) → seats_in u ≡ filter test (seats_in x)
    → (drop (i + 1) (slice_set now i u) ≡ drop (i + 1) old) × (seats_of (take (i + 1) (slice_set now i u)) ≡ filter test (seats_of (take (i + 1) old)))
dropped_at test now old i x u less long read rest below one = (
  drop-set-lt (i + 1) now i u (omega arith) ∙ sym (next now) ∙ ap (drop 1) rest ∙ next old,
  ap seats_of (take_more_set now i u less)
      ∙ flat_map-append seats_in (take i now) (u ∷ [])
      ∙ ap (λ l. l ++ (seats_in u ++ [])) below
      ∙ ap (λ l. filter test (seats_of (take i old)) ++ l) (append-nil (seats_in u) ∙ one)
      ∙ sym (filter-append test (seats_of (take i old)) (seats_in x))
      ∙ ap (filter test) (sym (ap seats_of (take_more old i x (subst (λ (n : ℕ). i < n) long less)) ∙ flat_map-append seats_in (take i old) (get_or old i x ∷ [])
      ∙ ap (λ l. seats_of (take i old) ++ l) (append-nil (seats_in (get_or old i x)) ∙ ap seats_in same))),
)
  where
    next : (xs : List ClientTurn) → drop 1 (drop i xs) ≡ drop (i + 1) xs
    next xs = drop_more xs (drop i xs) i (i + 1) refl refl

    same : get_or old i x ≡ x
    same =
        let here : i + 0 ≡ i = omega arith in
        ap (λ (n : ℕ). get_or old n x) (sym here) ∙ sym (get_or-drop i old 0 x) ∙ ap (λ (l : List ClientTurn). get_or l 0 x) (sym rest)
        ∙ get_or-drop i now 0 x ∙ ap (λ (n : ℕ). get_or now n x) here ∙ sym read

-- a turn is within all
pub turn_within : (turns : List ClientTurn) (i : ℕ) (x : ClientTurn) → i < length turns → x ≡ get_or turns i x → length (seats_of (take i turns)) + length x.numbers.items ≤ length (seats_of turns)
turn_within turns i x less read =
    let a = length-flat_map-take seats_in turns i x less in
    let b : length (seats_in (get_or turns i x)) ≡ length x.numbers.items = ap (λ (t : ClientTurn). length (seats_in t)) (sym read) ∙ length-map x.numbers.items (λ (n : ℕ). (x.client, n)) in
    omega (arith, a, b)
