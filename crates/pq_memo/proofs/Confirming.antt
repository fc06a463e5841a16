-- Memos that are marked below a frame: no key of the stack is among them, and the state of a demand
-- stays.
use Rattle.std.proofs.Common.{◌≡◌, ℕ, ◌+◌, ◌*◌, ◌^◌, ◌<◌, ◌≤◌, List, [], ◌∷◌, ◌++◌, length, slice_get, zero, suc, Option, Some, None, refl, sym, ◌∙◌, ap, subst, inl, inr, arith}
use Rattle.std.specs.declared.cmp.Ordering.{Ordering}
use Rattle.std.proofs.lemmas.Option.{same_Some}
use Rattle.pq_inputs.specs.Sources.{Sources, Table}
use Rattle.pq_inputs.proofs.Last.{last_is_one}
use Rattle.pq_rules.specs.Turns.{Machine}
use Rattle.pq_rules.specs.Relations.{Each, In}
use Rattle.pq_rules.specs.aux.Lists.{in_append_left, in_append_right}
use Rattle.pq_rules.proofs.Rings.{each_in}
use Rattle.pq_rules.proofs.Weight.{Exact}
use Rattle.pq_memo.specs.declared.stepping.frame.Frame.{Frame}
use Rattle.pq_memo.specs.declared.stepping.frame.Stage.{Stage}
use Rattle.pq_memo.specs.declared.stepping.frame.Stage.TheVariants.{Walking, Waiting}
use Rattle.pq_memo.specs.declared.demand.demanded.Carried.{Carried}
use Rattle.pq_memo.specs.declared.table.look.Why.{Why}
use Rattle.pq_memo.specs.declared.table.look.Why.TheVariants.{Fresh, Changed, Ring}
use Rattle.pq_memo.specs.Sound.{Memo}
use Rattle.pq_memo.specs.Kept.{Kept}
use Rattle.pq_memo.specs.Look.{FileChanged, IsUpToDate, HasChanged, IsStill, IsGreen, IsByReads, Lasts, HasLapsed}
use Rattle.pq_memo.specs.Table.{key_at, memo_at, HasIn, KeptOver}
use Rattle.pq_memo.specs.Writes.{Dated, IsConfirmed}
use Rattle.pq_memo.specs.Frames.{Awaits, frame_keys}
use Rattle.pq_memo.specs.Steps.{IsWhy}
use Rattle.pq_memo.specs.aux.Demand.{Linked, Going, Wrote, Caused, HasConfirmed, waiting_key, waiting_keys, is_seen, unseen, top_rank, weight}
use Rattle.pq_memo.proofs.Wrote as wrote
use Rattle.pq_memo.proofs.Stacked as stacked
use Rattle.pq_memo.proofs.Stacked.{in_keys_either}
use Rattle.pq_memo.proofs.Weights.{Seen, unseen_le}

slice_in : {A : Type 0} (xs : List A) (i : ℕ) (x : A) → slice_get xs i ≡ Some x → In x xs
slice_in [] i x e = cc
slice_in (y ∷ xs) zero x e = let same : x ≡ y = cc in inl same
slice_in (y ∷ xs) (suc i) x e = inr (slice_in xs i x e)

-- the last change of a file is one
file_changed_one : (history : List Sources) (file : Option (List ℕ)) (a b : ℕ) → FileChanged history file a → FileChanged history file b → a ≡ b
file_changed_one history None a b of_a of_b = of_a ∙ sym of_b
file_changed_one history (Some name) a b of_a of_b = last_is_one a b of_a of_b

not_lasting : {K V : Type 0} (history : List Sources) (memo : Memo K V) → Lasts history memo → HasLapsed history memo → ⊥
not_lasting history memo l h =
    let same : l.0 ≡ h.0 = last_is_one l.0 h.0 l.1 h.1 in
    let le : l.0 ≤ memo.verified = l.2 in
    let lt : memo.verified < h.0 = h.2 in
    omega arith

module _ {K P V : Type 0} (order : K → K → Ordering) (m : Machine K P V) (inputs : Table) (table : K → Option (Memo K V))
    (kept : Kept order m inputs.history inputs.revision (HasIn table)) where
  abbrev Up : K → Type 0
  Up k = IsUpToDate m inputs.revision (HasIn table) k

  abbrev Green : K → Type 0
  Green k = IsGreen m inputs.history inputs.revision (HasIn table) k

  ruled_memo : (k : K) (memo : Memo K V) → HasIn table k memo → m.level k ≡ 0 → ⊥
  ruled_memo k memo has low = let up : 0 < m.level k = (kept.memos k memo has).ruled in omega arith

  changed_one : (q : K) (a b : ℕ) → HasChanged m inputs.history (HasIn table) q a → HasChanged m inputs.history (HasIn table) q b → a ≡ b
  changed_one q a b (inl c) (inl d) = file_changed_one inputs.history (m.file q) a b c.1 d.1
  changed_one q a b (inl c) (inr d) = absurd (ruled_memo q d.0 d.1 c.0)
  changed_one q a b (inr c) (inl d) = absurd (ruled_memo q c.0 c.1 d.0)
  changed_one q a b (inr c) (inr d) = sym c.2 ∙ ap (λ (x : Memo K V). x.changed) (same_Some c.0 d.0 (sym c.1 ∙ d.1)) ∙ d.2

  -- a valid memo was not verified now
  pub green_stale : (k : K) → Green k → Up k → ⊥
  green_stale k (memo, inl g) (inl low) = ruled_memo k memo g.0.has low
  green_stale k (memo, inr g) (inl low) = ruled_memo k memo g.0.old.has low
  green_stale k (memo, inl g) (inr r) = g.0.earlier (ap (λ (x : Memo K V). x.verified) (same_Some memo r.0 (sym g.0.has ∙ r.1)) ∙ r.2)
  green_stale k (memo, inr g) (inr r) = g.0.old.earlier (ap (λ (x : Memo K V). x.verified) (same_Some memo r.0 (sym g.0.old.has ∙ r.1)) ∙ r.2)

  -- a memo that its reads confirm gives no cause
  no_cause : (k : K) (why : Why K) → IsWhy m inputs.history inputs.revision (HasIn table) k why → (memo : Memo K V)
      → IsByReads inputs.history inputs.revision (HasIn table) k memo → Each (IsStill m inputs.history inputs.revision (HasIn table) memo.verified) memo.reads → ⊥
  no_cause k Fresh because memo g each = because.1 memo g.old.has
  no_cause k (Changed q) because memo g each =
      let reached = because.2 in
      let late = because.4 in
      let same : memo ≡ because.0 = same_Some memo because.0 (sym g.old.has ∙ because.1.old.has) in
      let still : Each (IsStill m inputs.history inputs.revision (HasIn table) because.0.verified) because.0.reads =
      subst (λ (x : Memo K V). Each (IsStill m inputs.history inputs.revision (HasIn table) x.verified) x.reads) same each in
      let s = each_in (IsStill m inputs.history inputs.revision (HasIn table) because.0.verified) q because.0.reads still
      (subst (λ (ks : List K). In q ks) (sym reached.whole) (in_append_right q reached.front (q ∷ reached.back) (inl refl))) in
      let one : s.revision ≡ late.0 = changed_one q s.revision late.0 s.changed late.1 in
      let le : s.revision ≤ because.0.verified = s.not_after in
      let lt : because.0.verified < late.0 = late.2 in
      omega arith
  no_cause k Ring because memo g each =
      g.no_ring (because.3.0, ap (λ (x : Memo K V). x.answer) (same_Some memo because.0 (sym g.old.has ∙ because.1.has)) ∙ because.3.1, because.3.2)

  -- a rule that has a cause has no valid memo
  why_not_green : (k : K) (why : Why K) → IsWhy m inputs.history inputs.revision (HasIn table) k why
      → ((memo : Memo K V) → HasIn table k memo → HasLapsed inputs.history memo) → Green k → ⊥
  why_not_green k why because lapsed (memo, inl g) = not_lasting inputs.history memo g.1 (lapsed memo g.0.has)
  why_not_green k why because lapsed (memo, inr g) = no_cause k why because memo g.0 g.1

  -- nor has a key whose frame waits for one that is not up to date
  waits_not_green : (k : K) (stage : Stage K P) (q : K) → Awaits order m inputs.history inputs.revision (HasIn table) k stage q → (Up q → ⊥)
      → ((x : K) → In x (waiting_key k stage) → (why : Why K) × IsWhy m inputs.history inputs.revision (HasIn table) x why)
      → Green k → ⊥
  waits_not_green k (Walking place) q w stale cause (memo, inl g) = not_lasting inputs.history memo g.1 (w.sits.lapsed memo g.0.has)
  waits_not_green k (Walking place) q w stale cause (memo, inr g) =
      let same : w.memo ≡ memo = same_Some w.memo memo (sym w.has ∙ g.0.old.has) in
      stale (each_in (IsStill m inputs.history inputs.revision (HasIn table) memo.verified) q memo.reads g.1
      (subst (λ (x : Memo K V). In q x.reads) same (slice_in w.memo.reads place q w.there))).up_to_date
  waits_not_green k (Waiting part asked reads) q w stale cause green =
      let c = cause k (inl refl) in why_not_green k c.0 c.1 w.1.lapsed green

  stack_not_green : (fs : List (Frame K P)) (f : Frame K P) → Linked order m inputs table (fs ++ f ∷ [])
      → ((k : K) → In k (frame_keys (fs ++ f ∷ [])) → Up k → ⊥) → Caused m inputs table (fs ++ f ∷ [])
      → (k : K) → In k (frame_keys fs) → Green k → ⊥
  unfolding Linked
  stack_not_green [] f l stale caused k i green = i
  stack_not_green (g ∷ []) f l stale caused k (inl e) green =
      waits_not_green g.key g.stage f.key l.2 (stale f.key (inr (inl refl)))
      (λ x i. caused x (in_append_left x (waiting_key g.key g.stage) (waiting_keys (f ∷ [])) i)) (subst (λ (x : K). Green x) e green)
  stack_not_green (g ∷ (h ∷ hs)) f l stale caused k (inl e) green =
      waits_not_green g.key g.stage h.key l.2 (stale h.key (inr (inl refl)))
      (λ x i. caused x (in_append_left x (waiting_key g.key g.stage) (waiting_keys ((h ∷ hs) ++ f ∷ [])) i)) (subst (λ (x : K). Green x) e green)
  stack_not_green (g ∷ gs) f l stale caused k (inr i) green =
      stack_not_green gs f l.3 (λ x j. stale x (inr j))
      (λ x j. caused x (in_append_right x (waiting_key g.key g.stage) (waiting_keys (gs ++ f ∷ [])) j)) k i green

  -- so a valid memo of another key than the last one's is off the stack
  pub green_off : (fs : List (Frame K P)) (f : Frame K P) → Linked order m inputs table (fs ++ f ∷ [])
      → ((k : K) → In k (frame_keys (fs ++ f ∷ [])) → Up k → ⊥) → Caused m inputs table (fs ++ f ∷ [])
      → (k : K) → (k ≡ f.key → ⊥) → Green k → In k (frame_keys (fs ++ f ∷ [])) → ⊥
  green_off fs f l stale caused k other green i = elim (in_keys_either k fs (f ∷ []) i) [
    | inl j ↦ stack_not_green fs f l stale caused k j green
    | inr j ↦ last j
  ]
    where
      last : In k (f.key ∷ []) → ⊥
      last (inl e) = other e
      last (inr j) = j

-- what stays where memos are written
module _ {K P V : Type 0} (order : K → K → Ordering) (m : Machine K P V) (inputs : Table) (before after : K → Option (Memo K V))
    (keys : List K) (written : Wrote inputs.revision before after keys) (stale : (k : K) → In k keys → IsUpToDate m inputs.revision (HasIn before) k → ⊥)
  where
    -- a cause
    why_still : (k : K) (why : Why K) → after k ≡ before k → IsWhy m inputs.history inputs.revision (HasIn before) k why
        → IsWhy m inputs.history inputs.revision (HasIn after) k why
    why_still k Fresh same because = (because.0, λ memo h. because.1 memo (sym same ∙ h))
    why_still k (Changed q) same (memo, by, reached, up, late) = (
      memo,
      record { old = record { has = same ∙ by.old.has; earlier = by.old.earlier }; lapsed = by.lapsed; no_ring = by.no_ring },
      record {
        front = reached.front;
        back = reached.back;
        whole = reached.whole;
        still = stacked.all_still order m inputs before after keys written stale memo.verified reached.front reached.still;
      },
      wrote.up_still m inputs.revision before after keys written stale q up,
      (late.0, changed late.1, late.2),
    )
      where
        changed : HasChanged m inputs.history (HasIn before) q late.0 → HasChanged m inputs.history (HasIn after) q late.0
        changed (inl low) = inl low
        changed (inr c) = inr (c.0, wrote.kept_fresh m inputs.revision before after keys written stale q up ∙ c.1, c.2)
    why_still k Ring same (memo, old, lapsed, on) = (memo, record { has = same ∙ old.has; earlier = old.earlier }, lapsed, on)

    pub caused_still : (fs : List (Frame K P)) → ((k : K) → In k (waiting_keys fs) → In k keys → ⊥) → Caused m inputs before fs → Caused m inputs after fs
    caused_still fs off caused k i = let c = caused k i in (c.0, why_still k c.0 (written.others k (off k i)) c.1)

pub confirmed_none : {K P V : Type 0} (m : Machine K P V) (now : ℕ) (table : K → Option (Memo K V)) (ks : List K) → HasConfirmed m now table table ks
confirmed_none m now table ks = record {
  keys = [];
  written = wrote.wrote_none now table table (λ k. refl);
  stale = λ k i. absurd i;
  off = λ k i. absurd i;
}

module _ {K P V : Type 0} (order : K → K → Ordering) (exact : Exact order) (m : Machine K P V) (inputs : Table) (before after : K → Option (Memo K V))
    (all : List (Frame K P)) (c : HasConfirmed m inputs.revision before after (frame_keys all)) where
  same_on : (k : K) → In k (frame_keys all) → after k ≡ before k
  same_on k i = c.written.others k (λ j. c.off k j i)

  older : (k : K) → In k (frame_keys all) → IsUpToDate m inputs.revision (HasIn after) k → IsUpToDate m inputs.revision (HasIn before) k
  older k i (inl low) = inl low
  older k i (inr r) = inr (r.0, sym (same_on k i) ∙ r.1, r.2)

  pub linked_then : Linked order m inputs before all → Linked order m inputs after all
  linked_then l = stacked.linked_still order m inputs before after c.keys c.written c.stale all (λ k i j. c.off k j i) l

  pub stale_then : ((k : K) → In k (frame_keys all) → IsUpToDate m inputs.revision (HasIn before) k → ⊥)
      → (k : K) → In k (frame_keys all) → IsUpToDate m inputs.revision (HasIn after) k → ⊥
  stale_then stale k i up = stale k i (older k i up)

  pub caused_then : Caused m inputs before all → Caused m inputs after all
  caused_then caused = caused_still order m inputs before after c.keys c.written c.stale all (λ k i j. c.off k j (stacked.waiting_in k all i)) caused

  -- the state of a demand
  pub going_then : (reach : List K) (root : K) (old : K → Option (Memo K V)) (carried : List (Carried K)) → Kept order m inputs.history inputs.revision (HasIn after)
      → Going order m inputs reach root old before all carried → Going order m inputs reach root old after all carried
  going_then reach root old carried kept going = record {
    kept = kept;
    stands = record {
      linked = linked_then going.stands.linked;
      distinct = going.stands.distinct;
      stale = stale_then going.stands.stale;
      within = going.stands.within;
      rooted = elim going.stands.rooted [ inl i ↦ inl i | inr up ↦ inr (wrote.up_still m inputs.revision before after c.keys c.written c.stale root up) ];
    };
    tells = record {
      handed_on = wrote.handed_still m inputs.revision before after c.keys c.written c.stale order exact old going.tells.handed_on;
      causes = going.tells.causes;
      once = going.tells.once;
      begun = λ k i. elim (going.tells.begun k i) [
        | inl v ↦ inl (wrote.verified_still m inputs.revision before after c.keys c.written c.stale k v)
        | inr j ↦ inr j
      ];
    };
  }

  more_seen : (k : K) → Seen inputs.revision before all k → Seen inputs.revision after all k
  more_seen k (inl v) = inl (wrote.verified_still m inputs.revision before after c.keys c.written c.stale k v)
  more_seen k (inr i) = inr i

  -- and its weight
  pub weight_then : (reach : List K) → weight order m inputs.revision reach after all ≤ weight order m inputs.revision reach before all
  unfolding weight
  weight_then reach =
      less (unseen (is_seen order inputs.revision before all) reach) (unseen (is_seen order inputs.revision after all) reach) (length all) (top_rank m all)
      (unseen_le order exact inputs.revision before after all all more_seen reach)
    where
      less : (u v l t : ℕ) → v ≤ u → (2 * v + l) * (2 ^ 97 + 1) + t ≤ (2 * u + l) * (2 ^ 97 + 1) + t
      less u v l t h = omega arith

  -- one memo more
  pub confirmed_more : (last : K → Option (Memo K V)) (k : K) → (IsUpToDate m inputs.revision (HasIn after) k → ⊥) → (In k (frame_keys all) → ⊥)
      → Wrote inputs.revision after last (k ∷ []) → HasConfirmed m inputs.revision before last (frame_keys all)
  confirmed_more last k stale out wrote_k = record {
    keys = k ∷ c.keys;
    written = record { others = others; news = news };
    stale = λ x i. elim i [
      | inl e ↦ (λ up. stale (subst (λ (y : K). IsUpToDate m inputs.revision (HasIn after) y) e (wrote.up_still m inputs.revision before after c.keys c.written c.stale x up)))
      | inr j ↦ c.stale x j
    ];
    off = λ x i. elim i [
      | inl e ↦ (λ j. out (subst (λ (y : K). In y (frame_keys all)) e j))
      | inr j ↦ c.off x j
    ];
  }
    where
      New : (K → Option (Memo K V)) → (K → Option (Memo K V)) → K → Type 0
      New was is x = (memo : Memo K V) × HasIn is x memo × (memo.verified ≡ inputs.revision) × Dated inputs.revision (HasIn was) x memo

      fresh : In k c.keys → ⊥
      fresh i = let n = c.written.news k i in stale (inr (n.0, n.1, n.2))

      others : (x : K) → (In x (k ∷ c.keys) → ⊥) → last x ≡ before x
      others x not = wrote_k.others x (λ i. elim i [ inl e ↦ not (inl e) | inr j ↦ absurd j ]) ∙ c.written.others x (λ i. not (inr i))

      dated : (memo : Memo K V) → Dated inputs.revision (HasIn after) k memo → Dated inputs.revision (HasIn before) k memo
      dated memo (inl d) = inl (d.0, sym (c.written.others k fresh) ∙ d.1, d.2, d.3)
      dated memo (inr d) = inr (d.0, λ o h. d.1 o (c.written.others k fresh ∙ h))

      here : New before last k
      here = let n = wrote_k.news k (inl refl) in (n.0, n.1, n.2, dated n.0 n.3)

      news : (x : K) → In x (k ∷ c.keys) → New before last x
      news x (inl e) = subst (λ (y : K). New before last y) (sym e) here
      news x (inr i) =
          let n = c.written.news x i in
          (n.0, wrote_k.others x (λ j. elim j [ inl e ↦ fresh (subst (λ (y : K). In y c.keys) e i) | inr j ↦ absurd j ]) ∙ n.1, n.2, n.3)

-- a step of the walk
pub confirmed_step : {K P V : Type 0} (order : K → K → Ordering) (exact : Exact order) (m : Machine K P V) (inputs : Table) (before : K → Option (Memo K V))
    (middle : List (K × Option (Memo K V))) (number : ℕ) (after : List (K × Option (Memo K V))) (fs : List (Frame K P)) (f : Frame K P)
    → Linked order m inputs before (fs ++ f ∷ [])
    → ((k : K) → In k (frame_keys (fs ++ f ∷ [])) → IsUpToDate m inputs.revision (HasIn before) k → ⊥) → Caused m inputs before (fs ++ f ∷ [])
    → KeptOver order m inputs middle → HasConfirmed m inputs.revision before (memo_at order middle) (frame_keys (fs ++ f ∷ []))
    → ((k : K) → key_at middle number ≡ Some k → k ≡ f.key → ⊥)
    → IsConfirmed order m inputs middle number after → HasConfirmed m inputs.revision before (memo_at order after) (frame_keys (fs ++ f ∷ []))
confirmed_step order exact m inputs before middle number after fs f linked stale caused kept c other (k, there, green, marked) =
    confirmed_more order exact m inputs before (memo_at order middle) (fs ++ f ∷ []) c (memo_at order after) k (green_stale order m inputs (memo_at order middle) kept k green)
    (green_off order m inputs (memo_at order middle) kept fs f
    (linked_then order exact m inputs before (memo_at order middle) (fs ++ f ∷ []) c linked)
    (stale_then order exact m inputs before (memo_at order middle) (fs ++ f ∷ []) c stale)
    (caused_then order exact m inputs before (memo_at order middle) (fs ++ f ∷ []) c caused)
    k (other k there) green) (wrote.wrote_marked order exact m inputs middle k after marked)
