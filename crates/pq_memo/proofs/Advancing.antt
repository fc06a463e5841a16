-- A step of a demand keeps its state, and lowers its weight (`goes`).
use Rattle.std.proofs.Common.{◌≡◌, ℕ, ◌+◌, ◌*◌, ◌^◌, ◌<◌, ◌≤◌, ◌⊎◌, List, [], ◌∷◌, ◌++◌, length, Option, refl, sym, ◌∙◌, ap, subst, inl, inr, arith}
use mathlib.Core.Path.{fun_ext}
use Rattle.std.specs.declared.cmp.Ordering.{Ordering}
use Rattle.pq_inputs.specs.Sources.{Sources, Table}
use Rattle.pq_rules.specs.declared.turn.Turn.{Turn}
use Rattle.pq_rules.specs.declared.turn.Turn.TheVariants.{Ask}
use Rattle.pq_rules.specs.declared.turn.Answer.{Answer}
use Rattle.pq_rules.specs.Turns.{Machine, IsLower}
use Rattle.pq_rules.specs.Laws.{Laws}
use Rattle.pq_rules.specs.Relations.{In}
use Rattle.pq_rules.specs.aux.Evaluator.{left_number, Distinct}
use Rattle.pq_rules.specs.aux.Lists.{in_append_left}
use Rattle.pq_rules.proofs.Order.{strict}
use Rattle.pq_rules.proofs.Weight.{Exact}
use Rattle.pq_memo.specs.declared.stepping.frame.Frame.{Frame}
use Rattle.pq_memo.specs.declared.stepping.frame.Stage.{Stage}
use Rattle.pq_memo.specs.declared.stepping.frame.Stage.TheVariants.{Walking, Waiting}
use Rattle.pq_memo.specs.declared.demand.demanded.Carried.{Carried}
use Rattle.pq_memo.specs.declared.table.look.Why.{Why}
use Rattle.pq_memo.specs.declared.table.look.Why.TheVariants.{Fresh, Changed, Ring}
use Rattle.pq_memo.specs.Sound.{Memo, at}
use Rattle.pq_memo.specs.Kept.{Kept}
use Rattle.pq_memo.specs.Cause.{IsCause}
use Rattle.pq_memo.specs.Table.{HasIn, IsSameTable}
use Rattle.pq_memo.specs.Frames.{IsFrame, Awaits, Came, frame_keys}
use Rattle.pq_memo.specs.Steps.{IsWhy, HasPart, IsWalking, StaysAt}
use Rattle.pq_memo.specs.Demand.{IsVerified, carried_keys}
use Rattle.pq_memo.specs.aux.Frames.{WaitsAt}
use Rattle.pq_memo.specs.aux.Demand.{Fits, Linked, Stands, Tells, IsHandedOn, IsLater, Asked, Enters, Starts, GoesOn, Advances, Wrote, Popped, waiting_key, waiting_keys, rank, weight}
use Rattle.pq_memo.proofs.Looks as looks
use Rattle.pq_memo.proofs.Wrote.{wrote_none}
use Rattle.pq_memo.proofs.Stacked as stacked
use Rattle.pq_memo.proofs.Stacked.{keys_append, in_keys_right, waiting_in, waiting_either, waiting_right, walking_none, waits_frame, waits_fits, waits_waiting}
use Rattle.pq_memo.proofs.Going as going

-- what is left at a question, and at one after it
pub lower_still : (a b c : ℕ × ℕ) → IsLower a b → IsLower b c → IsLower a c
lower_still a b c (inl l) (inl m) = inl (let x : a.0 < b.0 = l in let y : b.0 < c.0 = m in omega arith)
lower_still a b c (inl l) (inr m) = inl (let x : a.0 < b.0 = l in let y : b.0 ≡ c.0 = m.0 in omega arith)
lower_still a b c (inr l) (inl m) = inl (let x : a.0 ≡ b.0 = l.0 in let y : b.0 < c.0 = m in omega arith)
lower_still a b c (inr l) (inr m) = inr (l.0 ∙ m.0, let x : a.1 < b.1 = l.1 in let y : b.1 < c.1 = m.1 in omega arith)

-- a turn after a question is later
pub later_on : {K P V : Type 0} (m : Machine K P V) (falls : (p : P) (a : Answer K V) (q : K) (r : P) → m.advance p a ≡ Ask q r → IsLower (m.left r) (m.left p))
    → (first turn next : Turn K P V) (q : K) (p : P) (a : Answer K V) → turn ≡ Ask q p → next ≡ m.advance p a → IsLater m first turn → IsLater m first next
later_on m falls first turn next q p a asks goes (inl same) = inr (q, p, sym same ∙ asks, λ r o e. falls p a r o (sym goes ∙ e))
later_on m falls first turn next q p a asks goes (inr (asked, part, is, lower)) =
    inr (asked, part, is, λ r o e. lower_still (m.left o) (m.left p) (m.left part) (falls p a r o (sym goes ∙ e)) (lower q p asks))

lower_number : (a b : ℕ × ℕ) → IsLower a b → a.1 < 2 ^ 64 → a.0 * (2 ^ 64) + a.1 < b.0 * (2 ^ 64) + b.1
lower_number a b (inl l) h = let low : a.0 < b.0 = l in omega arith
lower_number a b (inr l) h = let same : a.0 ≡ b.0 = l.0 in let low : a.1 < b.1 = l.1 in omega arith

small_number : (a : ℕ × ℕ) → a.0 < 2 ^ 32 → a.1 < 2 ^ 64 → a.0 * (2 ^ 64) + a.1 < 2 ^ 97
small_number a h j = omega arith

-- the stages of one frame
pub stays_fits : {K P V : Type 0} (m : Machine K P V) (a b : Stage K P) → StaysAt a b → Fits m a → Fits m b
stays_fits m (Walking i) (Walking j) s f = tt
stays_fits m (Walking i) (Waiting part asked reads) s f = absurd s
stays_fits m (Waiting part asked reads) (Walking i) s f = absurd s
stays_fits {K} {P} m (Waiting part asked reads) (Waiting other question front) s f = subst (λ (p : P). ((m.left p).0 < 2 ^ 32) × ((m.left p).1 < 2 ^ 64)) s.0 f

stays_rank : {K P V : Type 0} (m : Machine K P V) (a b : Stage K P) → StaysAt a b → rank m b ≡ rank m a
stays_rank m (Walking i) (Walking j) s = refl
stays_rank m (Walking i) (Waiting part asked reads) s = absurd s
stays_rank m (Waiting part asked reads) (Walking i) s = absurd s
stays_rank {K} {P} m (Waiting part asked reads) (Waiting other question front) s = ap (λ (p : P). left_number (m.left p)) (sym s.0)

stays_waiting : {K P : Type 0} (k : K) (f g : Frame K P) → g.key ≡ f.key → StaysAt f.stage g.stage → In k (waiting_keys (f ∷ [])) → In k (waiting_keys (g ∷ []))
stays_waiting {K} {P} k f g e s w =
    subst (λ (j : K). In k (waiting_key {P = P} j g.stage ++ [])) (sym e) (one k f.key f.stage g.stage s w)
  where
    one : (k j : K) (a b : Stage K P) → StaysAt a b → In k (waiting_key j a ++ []) → In k (waiting_key j b ++ [])
    one k j (Walking i) (Walking h) s w = w
    one k j (Walking i) (Waiting part asked reads) s w = absurd s
    one k j (Waiting part asked reads) (Walking i) s w = absurd s
    one k j (Waiting part asked reads) (Waiting other question front) s w = w

waits_rank : {K P V : Type 0} (m : Machine K P V) (stage : Stage K P) (part : P) (asked : K) (front : List K) → WaitsAt stage part asked front
    → rank m stage ≡ left_number (m.left part)
waits_rank m (Walking place) part asked front w = absurd w
waits_rank {K} {P} m (Waiting other question reads) part asked front w = ap (λ (p : P). left_number (m.left p)) w.0

part_rank : {K P V : Type 0} (m : Machine K P V) (stage : Stage K P) (part : P) → HasPart stage part → rank m stage ≡ left_number (m.left part)
part_rank m (Walking place) part h = absurd h
part_rank {K} {P} m (Waiting other question reads) part h = ap (λ (p : P). left_number (m.left p)) h

part_key : {K P : Type 0} (k j : K) (a b : Stage K P) (part other : P) (asked : K) (front : List K) → HasPart a part → WaitsAt b other asked front
    → In k (waiting_key j a ++ []) → In k (waiting_key j b ++ [])
part_key k j (Walking n) b part other asked front h w i = absurd h
part_key k j (Waiting p q r) (Walking n) part other asked front h w i = absurd w
part_key k j (Waiting p q r) (Waiting x y z) part other asked front h w i = i

walking_rank : {K P V : Type 0} (m : Machine K P V) (stage : Stage K P) → IsWalking stage → rank m stage ≡ 2 ^ 97
walking_rank m (Walking place) w = refl
walking_rank m (Waiting part asked reads) w = absurd w

-- a cause in one table, for a key that has the same memo in another
cause_in : {K P V : Type 0} (order : K → K → Ordering) (m : Machine K P V) (history : List Sources) (now : ℕ) (old table : K → Option (Memo K V)) (k : K) (why : Why K)
    → table k ≡ old k → IsCause order m history now (HasIn table) k why → IsCause order m history now (HasIn old) k why
cause_in order m history now old table k Fresh same c = λ memo h. c memo (same ∙ h)
cause_in order m history now old table k (Changed q) same c = (c.0, sym same ∙ c.1, c.2)
cause_in order m history now old table k Ring same c = (c.0, sym same ∙ c.1, c.2, c.3)

module _ {K P V : Type 0} (order : K → K → Ordering) (exact : Exact order) (m : Machine K P V) (inputs : Table) (reach : K → List K) (root : K)
    (counted : length inputs.history ≡ inputs.revision + 1) (laws : Laws (at order m inputs.history inputs.revision) reach) (old : K → Option (Memo K V)) where
  abbrev Standing : (K → Option (Memo K V)) → List (Frame K P) → Type 0
  Standing table stack = Stands order m inputs (reach root) root table stack

  abbrev Telling : (K → Option (Memo K V)) → List (Frame K P) → List (Carried K) → Type 0
  Telling table stack carried = Tells order m inputs old table stack carried

  abbrev heavy : (K → Option (Memo K V)) → List (Frame K P) → ℕ
  heavy table stack = weight order m inputs.revision (reach root) table stack

  -- the state after a step
  pub record Goes (before after : K → Option (Memo K V)) (all rest : List (Frame K P)) (entries : List (Carried K)) : Type 0 where
    pub stands : Standing after rest
    pub tells : Telling after rest entries
    pub less : heavy after rest < heavy before all

  why_cause : (table : K → Option (Memo K V)) → Kept order m inputs.history inputs.revision (HasIn table) → (k : K) (why : Why K)
      → IsWhy m inputs.history inputs.revision (HasIn table) k why → IsCause order m inputs.history inputs.revision (HasIn table) k why
  why_cause table kept k Fresh because = looks.fresh_cause order (strict order exact.total) m inputs.history inputs.revision counted table kept k because
  why_cause table kept k (Changed q) because =
      looks.changed_cause order (strict order exact.total) m inputs.history inputs.revision counted table kept k q because
      (λ r h. looks.changed_within order (strict order exact.total) m inputs.history inputs.revision counted table kept q r h)
  why_cause table kept k Ring because = looks.ring_cause order (strict order exact.total) m inputs.history inputs.revision counted table kept k because

  module _ (before after : K → Option (Memo K V)) (f : Frame K P) (stack rest : List (Frame K P)) (carried : List (Carried K))
      (kept : Kept order m inputs.history inputs.revision (HasIn before)) (stands : Standing before (stack ++ f ∷ [])) (tells : Telling before (stack ++ f ∷ []) carried) where
    here : In f.key (frame_keys (stack ++ f ∷ []))
    here = in_keys_right f.key stack (f ∷ []) (inl refl)

    -- a popped frame or more
    goes_popped : Popped inputs.revision before after (stack ++ f ∷ []) rest → Goes before after (stack ++ f ∷ []) rest carried
    goes_popped popped = record {
      stands = going.pop_stands order exact m inputs (reach root) root before after (stack ++ f ∷ []) rest stands popped;
      tells = going.pop_tells order exact m inputs (reach root) root before after (stack ++ f ∷ []) rest stands popped old carried tells;
      less = going.pop_less order exact m inputs (reach root) root before after (stack ++ f ∷ []) rest stands popped;
    }

    goes_one : Wrote inputs.revision before after (f.key ∷ []) → rest ≡ stack → Goes before after (stack ++ f ∷ []) rest carried
    goes_one written left = goes_popped (going.one_popped order exact m inputs (reach root) root before after stack rest f written left)

    -- a rule asks
    goes_asked : (turn : Turn K P V) (front : List K) → Came order m inputs.history inputs.revision (HasIn before) f.key turn front
        → (asked : Asked m before after f.key turn front stack rest)
        → left_number (m.left asked.part) < rank m f.stage
        → ((k : K) → In k (waiting_keys (f ∷ [])) → In k (waiting_keys (asked.frame ∷ [])))
        → Goes before after (stack ++ f ∷ []) rest carried
    goes_asked turn front came asked low waits =
        let g : Frame K P = asked.frame in
        let now_came : Came order m inputs.history inputs.revision (HasIn after) f.key turn front =
        stacked.came_still order m inputs before after [] (wrote_none inputs.revision before after asked.same) (λ k i. absurd i) f.key turn front (asked.same f.key) came in
        let sits : Came order m inputs.history inputs.revision (HasIn after) asked.frame.key (Ask asked.asked asked.part) front =
        subst (λ (k : K). Came order m inputs.history inputs.revision (HasIn after) k (Ask asked.asked asked.part) front) (sym asked.key_is)
        (subst (λ (t : Turn K P V). Came order m inputs.history inputs.revision (HasIn after) f.key t front) asked.asks now_came) in
        let is : IsFrame order m inputs.history inputs.revision (HasIn after) asked.frame.key asked.frame.stage =
        waits_frame order m inputs after asked.frame.key asked.frame.stage asked.part asked.asked front asked.waits sits in
        let fits : Fits m asked.frame.stage = waits_fits m asked.frame.stage asked.part asked.asked front asked.waits asked.fits in
        let less : rank m asked.frame.stage < rank m f.stage =
        subst (λ (n : ℕ). n < rank m f.stage) (sym (waits_rank m asked.frame.stage asked.part asked.asked front asked.waits)) low in
        subst (λ (l : List (Frame K P)). Goes before after (stack ++ f ∷ []) l carried) (sym asked.pushed)
        (record {
          stands = going.swap_stands order exact m inputs (reach root) root before after asked.same stack f asked.frame asked.key_is is fits stands;
          tells = going.swap_tells order exact m inputs (reach root) root before after asked.same stack f asked.frame asked.key_is waits old carried tells;
          less = going.swap_less order exact m inputs (reach root) root before after asked.same stack f asked.frame asked.key_is less;
        })

    -- a rule goes on
    goes_further : GoesOn order m inputs before after f stack rest → Goes before after (stack ++ f ∷ []) rest carried
    goes_further on = elim on.gone.taken [
      | inl asked ↦ goes_asked on.gone.last on.gone.front on.gone.came asked (lower asked) (waits asked)
      | inr ended ↦ goes_one ended.0 ended.1
    ]
      where
        falls : (q : K) (p : P) → IsLater m (m.advance on.part on.answer) on.gone.last → on.gone.last ≡ Ask q p → IsLower (m.left p) (m.left on.part)
        falls q p (inl same) asks = laws.falls on.part on.answer q p (sym same ∙ asks)
        falls q p (inr (asked, part, first, lower)) asks =
            lower_still (m.left p) (m.left part) (m.left on.part) (lower q p asks) (laws.falls on.part on.answer asked part first)

        lower : (asked : Asked m before after f.key on.gone.last on.gone.front stack rest) → left_number (m.left asked.part) < rank m f.stage
        lower asked =
            subst (λ (n : ℕ). left_number (m.left asked.part) < n) (sym (part_rank m f.stage on.part on.waited))
            (lower_number (m.left asked.part) (m.left on.part) (falls asked.asked asked.part on.gone.later asked.asks) asked.fits.1)

        waits : (asked : Asked m before after f.key on.gone.last on.gone.front stack rest) → (k : K) → In k (waiting_keys (f ∷ []))
            → In k (waiting_keys (asked.frame ∷ []))
        waits asked k i =
            subst (λ (j : K). In k (waiting_key {P = P} j asked.frame.stage ++ [])) (sym asked.key_is)
            (part_key k f.key f.stage asked.frame.stage on.part asked.part asked.asked on.gone.front on.waited asked.waits i)

    -- a frame comes to wait for a key
    goes_entered : Enters order m inputs before after f stack rest → Goes before after (stack ++ f ∷ []) rest carried
    goes_entered enters = elim enters.entered [
      | inl pushed ↦ record {
        stands = going.push_stands order exact m inputs (reach root) root before after pushed.same stack g enters.next rest pushed.pushed pushed.new enters.stale awaits inside swapped;
        tells = going.push_tells order exact m inputs (reach root) root before after pushed.same stack g enters.next rest pushed.pushed pushed.new enters.stale awaits inside swapped old carried telling;
        less = under (going.push_less order exact m inputs (reach root) root before after pushed.same stack g enters.next rest pushed.pushed pushed.new enters.stale awaits inside swapped);
      }
      | inr popped ↦ record {
        stands = going.pop_stands order exact m inputs (reach root) root before after (stack ++ g ∷ []) rest swapped popped;
        tells = going.pop_tells order exact m inputs (reach root) root before after (stack ++ g ∷ []) rest swapped popped old carried telling;
        less = under (going.pop_less order exact m inputs (reach root) root before after (stack ++ g ∷ []) rest swapped popped);
      }
    ]
      where
        g : Frame K P
        g = enters.frame

        awaits : Awaits order m inputs.history inputs.revision (HasIn before) enters.frame.key enters.frame.stage enters.next
        awaits = subst (λ (k : K). Awaits order m inputs.history inputs.revision (HasIn before) k enters.frame.stage enters.next) (sym enters.key_is) enters.awaits

        swapped : Standing before (stack ++ enters.frame ∷ [])
        swapped = going.swap_stands order exact m inputs (reach root) root before before (λ k. refl) stack f enters.frame enters.key_is
            (stacked.awaits_frame order m inputs before enters.frame.key enters.frame.stage enters.next awaits)
            (stays_fits m f.stage enters.frame.stage enters.stays (stacked.linked_last order m inputs before stack f stands.linked).1) stands

        telling : Telling before (stack ++ enters.frame ∷ []) carried
        telling = going.swap_tells order exact m inputs (reach root) root before before (λ k. refl) stack f enters.frame enters.key_is
            (λ k i. stays_waiting k f enters.frame enters.key_is enters.stays i) old carried tells

        inside : In enters.next (reach root)
        inside =
            let asks = stacked.awaits_asks order m inputs before enters.frame.key enters.frame.stage enters.next awaits in
            laws.stays root enters.frame.key enters.next asks.0 (swapped.within enters.frame.key (in_keys_right enters.frame.key stack (enters.frame ∷ []) (inl refl))) asks.1

        under : heavy after rest < heavy before (stack ++ enters.frame ∷ []) → heavy after rest < heavy before (stack ++ f ∷ [])
        under h =
            let le : heavy before (stack ++ enters.frame ∷ []) ≤ heavy before (stack ++ f ∷ []) =
            going.swap_same order exact m inputs (reach root) root before before (λ k. refl) stack f enters.frame enters.key_is
            (stays_rank m f.stage enters.frame.stage enters.stays) in
            omega arith

    -- a rule starts
    goes_started : (entry : Carried K) → Starts order m inputs before after f stack rest entry → Goes before after (stack ++ f ∷ []) rest (carried ++ entry ∷ [])
    goes_started entry starts =
        subst (λ (e : Carried K). Goes before after (stack ++ f ∷ []) rest (carried ++ e ∷ [])) (sym starts.entry_is)
        (elim starts.gone.taken [
          | inl asked ↦ recorded (goes_asked starts.gone.last starts.gone.front starts.gone.came asked (lower asked) (λ k i. absurd (walking_none k f starts.walked i))) (inr (there asked))
          | inr ended ↦ recorded (goes_one ended.0 ended.1) (inl (let n = ended.0.news f.key (inl refl) in (n.0, n.1, n.2)))
        ])
      where
        lower : (asked : Asked m before after f.key starts.gone.last starts.gone.front stack rest) → left_number (m.left asked.part) < rank m f.stage
        lower asked =
            subst (λ (n : ℕ). left_number (m.left asked.part) < n) (sym (walking_rank m f.stage starts.walked))
            (small_number (m.left asked.part) asked.fits.0 asked.fits.1)

        there : (asked : Asked m before after f.key starts.gone.last starts.gone.front stack rest) → In f.key (waiting_keys rest)
        there asked =
            subst (λ (l : List (Frame K P)). In f.key (waiting_keys l)) (sym asked.pushed)
            (waiting_right f.key stack (asked.frame ∷ [])
            (subst (λ (k : K). In k (waiting_key asked.frame.key asked.frame.stage ++ [])) asked.key_is
            (in_append_left asked.frame.key (waiting_key asked.frame.key asked.frame.stage) []
            (waits_waiting asked.frame.key asked.frame.stage asked.part asked.asked starts.gone.front asked.waits))))

        new : In f.key (carried_keys carried) → ⊥
        new i = elim (tells.begun f.key i) [
          | inl v ↦ stands.stale f.key here (inr v)
          | inr w ↦ elim (waiting_either f.key stack (f ∷ []) w) [
            | inl j ↦ going.apart stack (f ∷ []) f.key stands.distinct (waiting_in f.key stack j) (inl refl)
            | inr j ↦ walking_none f.key f starts.walked j
          ]
        ]

        unmoved : IsHandedOn inputs.revision old before f.key → before f.key ≡ old f.key
        unmoved (inl e) = e
        unmoved (inr h) = absurd (stands.stale f.key here (inr (h.0, h.1, h.2)))

        recorded : Goes before after (stack ++ f ∷ []) rest carried → (IsVerified inputs.revision after f.key ⊎ In f.key (waiting_keys rest))
            → Goes before after (stack ++ f ∷ []) rest (carried ++ record { key = f.key; revision = inputs.revision; why = starts.why } ∷ [])
        recorded s begun = record {
          stands = s.stands;
          tells = going.record_start order exact m inputs (reach root) root old after rest carried (record { key = f.key; revision = inputs.revision; why = starts.why })
              (record {
                revision = refl;
                cause = cause_in order m inputs.history inputs.revision old before f.key starts.why (unmoved (tells.handed_on f.key))
                    (why_cause before kept f.key starts.why starts.because);
              })
              new begun s.tells;
          less = s.less;
        }

    pub goes : (entries : List (Carried K)) → Advances order m inputs before after f stack carried rest entries → Goes before after (stack ++ f ∷ []) rest entries
    goes entries (inl a) = subst (λ (l : List (Carried K)). Goes before after (stack ++ f ∷ []) rest l) (sym a.2) (goes_started a.0 a.1)
    goes entries (inr (e, inl a)) = subst (λ (l : List (Carried K)). Goes before after (stack ++ f ∷ []) rest l) (sym e) (goes_one a.0 a.1)
    goes entries (inr (e, inr (inl a))) = subst (λ (l : List (Carried K)). Goes before after (stack ++ f ∷ []) rest l) (sym e) (goes_entered a)
    goes entries (inr (e, inr (inr a))) = subst (λ (l : List (Carried K)). Goes before after (stack ++ f ∷ []) rest l) (sym e) (goes_further a)

-- what a step that needs a key leaves
module _ {K P V : Type 0} (order : K → K → Ordering) (m : Machine K P V) (inputs : Table) (table : K → Option (Memo K V)) (stack : List (Frame K P)) (f g : Frame K P) (q : K)
    (key_is : g.key ≡ f.key) (stays : StaysAt f.stage g.stage) (awaits : Awaits order m inputs.history inputs.revision (HasIn table) f.key g.stage q) where
  pub needs_awaits : Awaits order m inputs.history inputs.revision (HasIn table) g.key g.stage q
  needs_awaits = subst (λ (k : K). Awaits order m inputs.history inputs.revision (HasIn table) k g.stage q) (sym key_is) awaits

  pub needs_linked : Linked order m inputs table (stack ++ f ∷ []) → Linked order m inputs table (stack ++ g ∷ [])
  needs_linked l =
      stacked.linked_swap order m inputs table stack f g (sym key_is)
      (stacked.awaits_frame order m inputs table g.key g.stage q
      (subst (λ (k : K). Awaits order m inputs.history inputs.revision (HasIn table) k g.stage q) (sym key_is) awaits))
      (stays_fits m f.stage g.stage stays (stacked.linked_last order m inputs table stack f l).1) l

pub needs_distinct : {K P : Type 0} (stack : List (Frame K P)) (f g : Frame K P) → g.key ≡ f.key → Distinct (frame_keys (stack ++ f ∷ [])) → Distinct (frame_keys (stack ++ g ∷ []))
needs_distinct {K} stack f g e d =
    subst (λ (ks : List K). Distinct ks) (keys_append stack (f ∷ []) ∙ ap (λ (k : K). frame_keys stack ++ k ∷ []) (sym e) ∙ sym (keys_append stack (g ∷ []))) d

-- tables that are the same are equal
pub one_table : {K V : Type 0} (before after : K → Option (Memo K V)) → IsSameTable before after → after ≡ before
one_table before after same = fun_ext same

-- a fact of one rule set and table, said of equal ones
pub moved_to : {A B : Type 0} (Q : A → B → Type 0) (a b : A) (s t : B) → b ≡ a → t ≡ s → Q a s → Q b t
moved_to {A} {B} Q a b s t e f q = subst (λ (x : A). Q x t) (sym e) (subst (λ (y : B). Q a y) (sym f) q)
