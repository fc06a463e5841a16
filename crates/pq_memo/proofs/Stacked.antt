-- The stack of a demand: what stays of its frames where memos of other keys are written, and its
-- frames when some are added, popped and replaced.
use Rattle.std.proofs.Common.{◌≡◌, ℕ, ◌^◌, ◌<◌, ◌≤◌, ◌⊎◌, List, [], ◌∷◌, ◌++◌, length, take, Option, refl, sym, ◌∙◌, ap, subst, inl, inr, arith}
use Rattle.std.specs.declared.cmp.Ordering.{Ordering}
use Rattle.std.proofs.lemmas.Option.{same_Some, slice_get_within}
use Rattle.pq_inputs.specs.Sources.{Table}
use Rattle.pq_rules.specs.declared.turn.Turn.{Turn}
use Rattle.pq_rules.specs.declared.turn.Turn.TheVariants.{Ask}
use Rattle.pq_rules.specs.Turns.{Machine}
use Rattle.pq_rules.specs.Relations.{Each, In}
use Rattle.pq_rules.specs.Value.{ComesBy, ComesTo}
use Rattle.pq_rules.specs.aux.Lists.{in_append, in_append_left, in_append_right}
use Rattle.pq_memo.specs.declared.stepping.frame.Frame.{Frame}
use Rattle.pq_memo.specs.declared.stepping.frame.Stage.{Stage}
use Rattle.pq_memo.specs.declared.stepping.frame.Stage.TheVariants.{Walking, Waiting}
use Rattle.pq_memo.specs.Sound.{Memo, at}
use Rattle.pq_memo.specs.Look.{IsUpToDate, HasChanged, IsStill}
use Rattle.pq_memo.specs.Table.{HasIn}
use Rattle.pq_memo.specs.Steps.{IsWalking}
use Rattle.pq_memo.specs.Frames.{Came, Sits, IsFrame, Awaits, RoundOf, frame_keys}
use Rattle.pq_memo.specs.aux.Frames.{WaitsAt}
use Rattle.pq_memo.specs.aux.Demand.{Fits, LinksTo, Linked, LastAwaits, waiting_key, waiting_keys, Wrote}
use Rattle.pq_memo.proofs.Wrote as wrote

pub keys_append : {K P : Type 0} (xs ys : List (Frame K P)) → frame_keys (xs ++ ys) ≡ frame_keys xs ++ frame_keys ys
keys_append [] ys = refl
keys_append (x ∷ xs) ys = ap (λ ks. x.key ∷ ks) (keys_append xs ys)

pub in_keys_left : {K P : Type 0} (k : K) (xs ys : List (Frame K P)) → In k (frame_keys xs) → In k (frame_keys (xs ++ ys))
in_keys_left {K} k xs ys i = subst (λ (ks : List K). In k ks) (sym (keys_append xs ys)) (in_append_left k (frame_keys xs) (frame_keys ys) i)

pub in_keys_right : {K P : Type 0} (k : K) (xs ys : List (Frame K P)) → In k (frame_keys ys) → In k (frame_keys (xs ++ ys))
in_keys_right {K} k xs ys i = subst (λ (ks : List K). In k ks) (sym (keys_append xs ys)) (in_append_right k (frame_keys xs) (frame_keys ys) i)

pub in_keys_either : {K P : Type 0} (k : K) (xs ys : List (Frame K P)) → In k (frame_keys (xs ++ ys)) → In k (frame_keys xs) ⊎ In k (frame_keys ys)
in_keys_either {K} k xs ys i = in_append k (frame_keys xs) (frame_keys ys) (subst (λ (ks : List K). In k ks) (keys_append xs ys) i)

-- the keys whose rules wait
waiting_one : {K P : Type 0} (k j : K) (stage : Stage K P) → In k (waiting_key j stage) → k ≡ j
waiting_one k j (Walking place) i = absurd i
waiting_one k j (Waiting part asked reads) (inl e) = e
waiting_one k j (Waiting part asked reads) (inr i) = absurd i

pub waiting_in : {K P : Type 0} (k : K) (fs : List (Frame K P)) → In k (waiting_keys fs) → In k (frame_keys fs)
waiting_in k [] i = i
waiting_in k (f ∷ fs) i = elim (in_append k (waiting_key f.key f.stage) (waiting_keys fs) i) [
  | inl j ↦ inl (waiting_one k f.key f.stage j)
  | inr j ↦ inr (waiting_in k fs j)
]

pub waiting_left : {K P : Type 0} (k : K) (xs ys : List (Frame K P)) → In k (waiting_keys xs) → In k (waiting_keys (xs ++ ys))
waiting_left k [] ys i = absurd i
waiting_left k (x ∷ xs) ys i = elim (in_append k (waiting_key x.key x.stage) (waiting_keys xs) i) [
  | inl j ↦ in_append_left k (waiting_key x.key x.stage) (waiting_keys (xs ++ ys)) j
  | inr j ↦ in_append_right k (waiting_key x.key x.stage) (waiting_keys (xs ++ ys)) (waiting_left k xs ys j)
]

pub waiting_right : {K P : Type 0} (k : K) (xs ys : List (Frame K P)) → In k (waiting_keys ys) → In k (waiting_keys (xs ++ ys))
waiting_right k [] ys i = i
waiting_right k (x ∷ xs) ys i = in_append_right k (waiting_key x.key x.stage) (waiting_keys (xs ++ ys)) (waiting_right k xs ys i)

pub waiting_either : {K P : Type 0} (k : K) (xs ys : List (Frame K P)) → In k (waiting_keys (xs ++ ys)) → In k (waiting_keys xs) ⊎ In k (waiting_keys ys)
waiting_either k [] ys i = inr i
waiting_either k (x ∷ xs) ys i = elim (in_append k (waiting_key x.key x.stage) (waiting_keys (xs ++ ys)) i) [
  | inl j ↦ inl (in_append_left k (waiting_key x.key x.stage) (waiting_keys xs) j)
  | inr j ↦ elim (waiting_either k xs ys j) [
    | inl h ↦ inl (in_append_right k (waiting_key x.key x.stage) (waiting_keys xs) h)
    | inr h ↦ inr h
  ]
]

-- a frame that walks has no waiting key
walking_key : {K P : Type 0} (k j : K) (stage : Stage K P) → IsWalking stage → In k (waiting_key j stage ++ []) → ⊥
walking_key k j (Walking place) w i = i
walking_key k j (Waiting part asked reads) w i = w

pub walking_none : {K P : Type 0} (k : K) (f : Frame K P) → IsWalking f.stage → In k (waiting_keys (f ∷ [])) → ⊥
walking_none k f w i = walking_key k f.key f.stage w i

module _ {K P V : Type 0} (order : K → K → Ordering) (m : Machine K P V) (inputs : Table) (table : K → Option (Memo K V)) where
  -- a frame that waits for a key can be brought up to date
  pub awaits_frame : (k : K) (stage : Stage K P) (q : K) → Awaits order m inputs.history inputs.revision (HasIn table) k stage q
      → IsFrame order m inputs.history inputs.revision (HasIn table) k stage
  awaits_frame k (Walking place) q w = (
    w.sits.ruled,
    λ memo h. (let same : w.memo ≡ memo = same_Some w.memo memo (sym w.has ∙ h) in
        subst (λ (x : Memo K V). (place ≤ length x.reads) × Each (IsStill m inputs.history inputs.revision (HasIn table) x.verified) (take place x.reads)) same
        ((let l : place < length w.memo.reads = slice_get_within w.memo.reads place q w.there in omega arith), w.still)),
  )
  awaits_frame k (Waiting part asked reads) q w = w.1

  -- and its rule comes now to ask that key
  pub awaits_asks : (k : K) (stage : Stage K P) (q : K) → Awaits order m inputs.history inputs.revision (HasIn table) k stage q
      → (p : P) × ComesTo (at order m inputs.history inputs.revision) k (Ask q p)
  awaits_asks k (Walking place) q w = (w.part, (w.sits.run, w.sits.comes))
  awaits_asks k (Waiting part asked reads) q w =
      (part, (w.1.run, subst (λ (x : K). ComesBy (at order m inputs.history inputs.revision) k w.1.run (Ask x part)) w.0 w.1.comes))

  abbrev Chained : List (Frame K P) → Type 0
  Chained fs = Linked order m inputs table fs

  pub linked_front : (fs gs : List (Frame K P)) → Chained (fs ++ gs) → Chained fs
  unfolding Linked
  linked_front [] gs l = tt
  linked_front (f ∷ []) gs l = (l.0, l.1, tt, tt)
  linked_front (f ∷ (x ∷ xs)) gs l = (l.0, l.1, l.2, linked_front (x ∷ xs) gs l.3)

  pub linked_back : (fs gs : List (Frame K P)) → Chained (fs ++ gs) → Chained gs
  unfolding Linked
  linked_back [] gs l = l
  linked_back (f ∷ fs) gs l = linked_back fs gs l.3

  pub linked_last : (fs : List (Frame K P)) (f : Frame K P) → Chained (fs ++ f ∷ [])
      → IsFrame order m inputs.history inputs.revision (HasIn table) f.key f.stage × Fits m f.stage
  unfolding Linked
  linked_last fs f l = let b = linked_back fs (f ∷ []) l in (b.0, b.1)

  pub linked_swap : (fs : List (Frame K P)) (f g : Frame K P) → f.key ≡ g.key
      → IsFrame order m inputs.history inputs.revision (HasIn table) g.key g.stage → Fits m g.stage
      → Chained (fs ++ f ∷ []) → Chained (fs ++ g ∷ [])
  unfolding Linked
  linked_swap [] f g e is fits l = (is, fits, tt, tt)
  linked_swap (x ∷ []) f g e is fits l =
      (l.0, l.1, subst (λ (k : K). Awaits order m inputs.history inputs.revision (HasIn table) x.key x.stage k) e l.2, (is, fits, tt, tt))
  linked_swap (x ∷ (y ∷ ys)) f g e is fits l = (l.0, l.1, l.2, linked_swap (y ∷ ys) f g e is fits l.3)

  pub linked_push : (fs : List (Frame K P)) (f g : Frame K P) → Awaits order m inputs.history inputs.revision (HasIn table) f.key f.stage g.key
      → IsFrame order m inputs.history inputs.revision (HasIn table) g.key g.stage → Fits m g.stage
      → Chained (fs ++ f ∷ []) → Chained ((fs ++ f ∷ []) ++ g ∷ [])
  unfolding Linked
  linked_push [] f g a is fits l = (l.0, l.1, a, (is, fits, tt, tt))
  linked_push (x ∷ []) f g a is fits l = (l.0, l.1, l.2, linked_push [] f g a is fits l.3)
  linked_push (x ∷ (y ∷ ys)) f g a is fits l = (l.0, l.1, l.2, linked_push (y ∷ ys) f g a is fits l.3)

  -- frames that wait for each other, and the last for a key
  pub round_of : (z : K) (f : Frame K P) (fs : List (Frame K P)) → Chained (f ∷ fs) → LastAwaits order m inputs table z (f ∷ fs)
      → RoundOf order m inputs.history inputs.revision table z (f ∷ fs)
  unfolding Linked LastAwaits RoundOf
  round_of z f [] l a = a
  round_of z f (g ∷ gs) l a = (l.2, round_of z g gs l.3 a)

  pub last_awaits : (z : K) (fs : List (Frame K P)) (f : Frame K P) → Awaits order m inputs.history inputs.revision (HasIn table) f.key f.stage z
      → LastAwaits order m inputs table z (fs ++ f ∷ [])
  unfolding LastAwaits
  last_awaits z [] f a = a
  last_awaits z (x ∷ []) f a = a
  last_awaits z (x ∷ (y ∷ ys)) f a = last_awaits z (y ∷ ys) f a

  pub last_awaits_back : (z : K) (fs : List (Frame K P)) (g : Frame K P) (gs : List (Frame K P)) → LastAwaits order m inputs table z (fs ++ g ∷ gs)
      → LastAwaits order m inputs table z (g ∷ gs)
  unfolding LastAwaits
  last_awaits_back z [] g gs a = a
  last_awaits_back z (x ∷ []) g gs a = a
  last_awaits_back z (x ∷ (y ∷ ys)) g gs a = last_awaits_back z (y ∷ ys) g gs a

-- what stays where memos of keys are written that were not up to date
module _ {K P V : Type 0} (order : K → K → Ordering) (m : Machine K P V) (inputs : Table) (before after : K → Option (Memo K V))
    (keys : List K) (written : Wrote inputs.revision before after keys) (stale : (k : K) → In k keys → IsUpToDate m inputs.revision (HasIn before) k → ⊥)
  where
    fresh_still : (front : List K) → Each (IsUpToDate m inputs.revision (HasIn before)) front → Each (IsUpToDate m inputs.revision (HasIn after)) front
    fresh_still [] e = tt
    fresh_still (x ∷ xs) e = (wrote.up_still m inputs.revision before after keys written stale x e.0, fresh_still xs e.1)

    pub came_still : (k : K) (turn : Turn K P V) (front : List K) → after k ≡ before k
        → Came order m inputs.history inputs.revision (HasIn before) k turn front → Came order m inputs.history inputs.revision (HasIn after) k turn front
    came_still k turn front same came = record {
      ruled = came.ruled;
      lapsed = λ memo h. came.lapsed memo (sym same ∙ h);
      run = came.run;
      comes = came.comes;
      reads = came.reads;
      fresh = fresh_still front came.fresh;
    }

    is_still : (since : ℕ) (q : K) → IsStill m inputs.history inputs.revision (HasIn before) since q → IsStill m inputs.history inputs.revision (HasIn after) since q
    is_still since q s = record {
      up_to_date = wrote.up_still m inputs.revision before after keys written stale q s.up_to_date;
      revision = s.revision;
      changed = changed s.changed;
      not_after = s.not_after;
    }
      where
        changed : HasChanged m inputs.history (HasIn before) q s.revision → HasChanged m inputs.history (HasIn after) q s.revision
        changed (inl low) = inl low
        changed (inr c) = inr (c.0, wrote.kept_fresh m inputs.revision before after keys written stale q s.up_to_date ∙ c.1, c.2)

    pub all_still : (since : ℕ) (qs : List K) → Each (IsStill m inputs.history inputs.revision (HasIn before) since) qs → Each (IsStill m inputs.history inputs.revision (HasIn after) since) qs
    all_still since [] e = tt
    all_still since (q ∷ qs) e = (is_still since q e.0, all_still since qs e.1)

    pub frame_still : (k : K) (stage : Stage K P) → after k ≡ before k → IsFrame order m inputs.history inputs.revision (HasIn before) k stage
        → IsFrame order m inputs.history inputs.revision (HasIn after) k stage
    frame_still k (Walking place) same f = (f.0, λ memo h. let w = f.1 memo (sym same ∙ h) in (w.0, all_still memo.verified (take place memo.reads) w.1))
    frame_still k (Waiting part asked reads) same f = came_still k (Ask asked part) reads.items same f

    pub awaits_still : (k : K) (stage : Stage K P) (q : K) → after k ≡ before k → Awaits order m inputs.history inputs.revision (HasIn before) k stage q
        → Awaits order m inputs.history inputs.revision (HasIn after) k stage q
    awaits_still k (Walking place) q same w = record {
      memo = w.memo;
      has = same ∙ w.has;
      there = w.there;
      still = all_still w.memo.verified (take place w.memo.reads) w.still;
      part = w.part;
      sits = came_still k (Ask q w.part) (take place w.memo.reads) same w.sits;
    }
    awaits_still k (Waiting part asked reads) q same w = (w.0, came_still k (Ask asked part) reads.items same w.1)

    links_still : (f : Frame K P) (fs : List (Frame K P)) → after f.key ≡ before f.key → LinksTo order m inputs before f fs → LinksTo order m inputs after f fs
    links_still f [] same l = tt
    links_still f (g ∷ gs) same l = awaits_still f.key f.stage g.key same l

    pub linked_still : (fs : List (Frame K P)) → ((k : K) → In k (frame_keys fs) → In k keys → ⊥) → Linked order m inputs before fs → Linked order m inputs after fs
    unfolding Linked
    linked_still [] out l = tt
    linked_still (f ∷ fs) out l =
        let same : after f.key ≡ before f.key = written.others f.key (out f.key (inl refl)) in
        (frame_still f.key f.stage same l.0, l.1, links_still f fs same l.2, linked_still fs (λ k i. out k (inr i)) l.3)

-- a frame that a rule's question makes
pub waits_frame : {K P V : Type 0} (order : K → K → Ordering) (m : Machine K P V) (inputs : Table) (table : K → Option (Memo K V))
    (k : K) (stage : Stage K P) (part : P) (asked : K) (front : List K) → WaitsAt stage part asked front
    → Sits order m inputs.history inputs.revision (HasIn table) k asked part front → IsFrame order m inputs.history inputs.revision (HasIn table) k stage
waits_frame order m inputs table k (Walking place) part asked front w sits = absurd w
waits_frame {K} {P} order m inputs table k (Waiting other question reads) part asked front w sits =
    subst (λ (p : P). Sits order m inputs.history inputs.revision (HasIn table) k question p reads.items) (sym w.0)
    (subst (λ (q : K). Sits order m inputs.history inputs.revision (HasIn table) k q part reads.items) (sym w.1)
    (subst (λ (l : List K). Sits order m inputs.history inputs.revision (HasIn table) k asked part l) (sym w.2) sits))

pub waits_fits : {K P V : Type 0} (m : Machine K P V) (stage : Stage K P) (part : P) (asked : K) (front : List K) → WaitsAt stage part asked front
    → ((m.left part).0 < 2 ^ 32) × ((m.left part).1 < 2 ^ 64) → Fits m stage
waits_fits m (Walking place) part asked front w fits = absurd w
waits_fits {K} {P} m (Waiting other question reads) part asked front w fits =
    subst (λ (p : P). ((m.left p).0 < 2 ^ 32) × ((m.left p).1 < 2 ^ 64)) (sym w.0) fits

pub waits_waiting : {K P : Type 0} (k : K) (stage : Stage K P) (part : P) (asked : K) (front : List K) → WaitsAt stage part asked front → In k (waiting_key k stage)
waits_waiting k (Walking place) part asked front w = absurd w
waits_waiting k (Waiting other question reads) part asked front w = inl refl

pub fits_left : (l : ℕ × ℕ) (a b : ℕ) → (a, b) ≡ l → a < 2 ^ 32 → b < 2 ^ 64 → (l.0 < 2 ^ 32) × (l.1 < 2 ^ 64)
fits_left l a b e h j = subst (λ (x : ℕ × ℕ). (x.0 < 2 ^ 32) × (x.1 < 2 ^ 64)) e (h, j)

-- a rule that came to a turn, said of equal ones
pub came_as : {K P V : Type 0} (order : K → K → Ordering) (m : Machine K P V) (inputs : Table) (table : K → Option (Memo K V)) (k : K)
    (turn other : Turn K P V) (front reads : List K) → other ≡ turn → reads ≡ front
    → Came order m inputs.history inputs.revision (HasIn table) k turn front → Came order m inputs.history inputs.revision (HasIn table) k other reads
came_as {K} {P} {V} order m inputs table k turn other front reads e f came =
    subst (λ (t : Turn K P V). Came order m inputs.history inputs.revision (HasIn table) k t reads) (sym e)
    (subst (λ (l : List K). Came order m inputs.history inputs.revision (HasIn table) k turn l) (sym f) came)
