-- The state of a demand, over each kind of change: frames are popped with memos of their keys
-- written, the last frame is replaced, a frame is pushed, and a rule's start is recorded.
use Rattle.std.proofs.Common.{◌≡◌, ℕ, ◌+◌, ◌<◌, ◌≤◌, ◌⊎◌, List, [], ◌∷◌, ◌++◌, length, Option, refl, sym, ◌∙◌, ap, subst, inl, inr, arith, length-append}
use Rattle.std.specs.declared.cmp.Ordering.{Ordering}
use Rattle.pq_inputs.specs.Sources.{Table}
use Rattle.pq_rules.specs.Turns.{Machine}
use Rattle.pq_rules.specs.Relations.{In}
use Rattle.pq_rules.specs.aux.Evaluator.{Distinct}
use Rattle.pq_rules.specs.aux.Lists.{in_append, in_append_right}
use Rattle.pq_rules.proofs.Characterisation.{each_append}
use Rattle.pq_rules.proofs.Stack.{distinct_front, distinct_push}
use Rattle.pq_rules.proofs.Weight.{Exact}
use Rattle.pq_memo.specs.declared.stepping.frame.Frame.{Frame}
use Rattle.pq_memo.specs.declared.demand.demanded.Carried.{Carried}
use Rattle.pq_memo.specs.Sound.{Memo}
use Rattle.pq_memo.specs.Look.{IsUpToDate}
use Rattle.pq_memo.specs.Table.{HasIn, IsSameTable}
use Rattle.pq_memo.specs.Frames.{IsFrame, Awaits, frame_keys}
use Rattle.pq_memo.specs.Demand.{IsCarried, IsVerified, carried_keys}
use Rattle.pq_memo.specs.aux.Demand.{Fits, Linked, Stands, Tells, Wrote, Popped, walks, waiting_keys, is_seen, unseen, rank, weight}
use Rattle.pq_memo.proofs.TableCalls.{zero_or}
use Rattle.pq_memo.proofs.Wrote as wrote
use Rattle.pq_memo.proofs.Wrote.{wrote_none}
use Rattle.pq_memo.proofs.Stacked as stacked
use Rattle.pq_memo.proofs.Stacked.{keys_append, in_keys_left, in_keys_right, in_keys_either, waiting_in, waiting_left, waiting_right, waiting_either}
use Rattle.pq_memo.proofs.Weights.{Seen, unseen_le, unseen_lt, weight_lt, weight_top, weight_same}

distinct_apart : {K : Type 0} (xs ys : List K) (k : K) → Distinct (xs ++ ys) → In k xs → In k ys → ⊥
unfolding Distinct
distinct_apart [] ys k d i j = i
distinct_apart {K} (x ∷ xs) ys k d (inl e) j = d.0 (subst (λ (z : K). In z (xs ++ ys)) e (in_append_right k xs ys j))
distinct_apart (x ∷ xs) ys k d (inr i) j = distinct_apart xs ys k d.1 i j

pub apart : {K P : Type 0} (xs ys : List (Frame K P)) (k : K) → Distinct (frame_keys (xs ++ ys)) → In k (frame_keys xs) → In k (frame_keys ys) → ⊥
apart {K} xs ys k d i j = distinct_apart (frame_keys xs) (frame_keys ys) k (subst (λ (ks : List K). Distinct ks) (keys_append xs ys) d) i j

pub carried_append : {K : Type 0} (xs ys : List (Carried K)) → carried_keys (xs ++ ys) ≡ carried_keys xs ++ carried_keys ys
carried_append [] ys = refl
carried_append (x ∷ xs) ys = ap (λ ks. x.key ∷ ks) (carried_append xs ys)

module _ {K P V : Type 0} (order : K → K → Ordering) (exact : Exact order) (m : Machine K P V) (inputs : Table) (reach : List K) (root : K) where
  abbrev Standing : (K → Option (Memo K V)) → List (Frame K P) → Type 0
  Standing table stack = Stands order m inputs reach root table stack

  abbrev now : ℕ
  now = inputs.revision

  abbrev heavy : (K → Option (Memo K V)) → List (Frame K P) → ℕ
  heavy table stack = weight order m inputs.revision reach table stack

  module _ (before after : K → Option (Memo K V)) (all rest : List (Frame K P)) (stands : Standing before all) (popped : Popped inputs.revision before after all rest) where
    gone : List (Frame K P)
    gone = popped.first ∷ popped.others

    whole_keys : (k : K) → In k (frame_keys all) → In k (frame_keys rest) ⊎ In k popped.keys
    whole_keys k i = elim (in_keys_either k rest (popped.first ∷ popped.others) (subst (λ (l : List (Frame K P)). In k (frame_keys l)) popped.whole i)) [
      | inl j ↦ inl j
      | inr j ↦ inr (popped.from k j)
    ]

    pub stale_keys : (k : K) → In k popped.keys → IsUpToDate m inputs.revision (HasIn before) k → ⊥
    stale_keys k i = stands.stale k
        (subst (λ (l : List (Frame K P)). In k (frame_keys l)) (sym popped.whole) (in_keys_right k rest (popped.first ∷ popped.others) (popped.into k i)))

    pub left_in : (k : K) → In k (frame_keys rest) → In k (frame_keys all)
    left_in k i = subst (λ (l : List (Frame K P)). In k (frame_keys l)) (sym popped.whole) (in_keys_left k rest (popped.first ∷ popped.others) i)

    pub out : (k : K) → In k (frame_keys rest) → In k popped.keys → ⊥
    out k i j = apart rest (popped.first ∷ popped.others) k (subst (λ (l : List (Frame K P)). Distinct (frame_keys l)) popped.whole stands.distinct) i (popped.into k j)

    new_verified : (k : K) → In k popped.keys → IsVerified inputs.revision after k
    new_verified k i = let n = popped.written.news k i in (n.0, n.1, n.2)

    pop_linked : Linked order m inputs after rest
    pop_linked =
        stacked.linked_still order m inputs before after popped.keys popped.written stale_keys rest out
        (stacked.linked_front order m inputs before rest (popped.first ∷ popped.others) (subst (λ (l : List (Frame K P)). Linked order m inputs before l) popped.whole stands.linked))

    pub pop_stands : Standing after rest
    pop_stands = record {
      linked = pop_linked;
      distinct = distinct_front (frame_keys rest) (frame_keys (popped.first ∷ popped.others))
          (subst (λ (ks : List K). Distinct ks) (ap (λ (l : List (Frame K P)). frame_keys l) popped.whole ∙ keys_append rest (popped.first ∷ popped.others)) stands.distinct);
      stale = λ k i up. stands.stale k (left_in k i) (older k i up);
      within = λ k i. stands.within k (left_in k i);
      rooted = elim stands.rooted [
        | inl i ↦ elim (whole_keys root i) [ inl j ↦ inl j | inr j ↦ inr (inr (new_verified root j)) ]
        | inr up ↦ inr (wrote.up_still m inputs.revision before after popped.keys popped.written stale_keys root up)
      ];
    }
      where
        older : (k : K) → In k (frame_keys rest) → IsUpToDate m inputs.revision (HasIn after) k → IsUpToDate m inputs.revision (HasIn before) k
        older k i (inl low) = inl low
        older k i (inr r) = inr (r.0, sym (popped.written.others k (out k i)) ∙ r.1, r.2)

    more_seen : (k : K) → Seen inputs.revision before all k → Seen inputs.revision after rest k
    more_seen k (inl v) = inl (wrote.verified_still m inputs.revision before after popped.keys popped.written stale_keys k v)
    more_seen k (inr i) = elim (whole_keys k i) [ inl j ↦ inr j | inr j ↦ inl (new_verified k j) ]

    pub pop_less : heavy after rest < heavy before all
    pop_less =
        let fewer = unseen_le order exact inputs.revision before after all rest more_seen reach in
        let long : length all ≡ length rest + length (popped.first ∷ popped.others) =
        ap (λ (l : List (Frame K P)). length l) popped.whole ∙ length-append rest (popped.first ∷ popped.others) in
        weight_lt order m inputs reach before after all rest (omega arith) pop_linked

    pub pop_tells : (old : K → Option (Memo K V)) (carried : List (Carried K)) → Tells order m inputs old before all carried → Tells order m inputs old after rest carried
    pop_tells old carried tells = record {
      handed_on = wrote.handed_still m inputs.revision before after popped.keys popped.written stale_keys order exact old tells.handed_on;
      causes = tells.causes;
      once = tells.once;
      begun = λ k i. elim (tells.begun k i) [
        | inl v ↦ inl (wrote.verified_still m inputs.revision before after popped.keys popped.written stale_keys k v)
        | inr j ↦ elim (waiting_either k rest (popped.first ∷ popped.others) (subst (λ (l : List (Frame K P)). In k (waiting_keys l)) popped.whole j)) [
          | inl h ↦ inr h
          | inr h ↦ inl (new_verified k (popped.from k (waiting_in k (popped.first ∷ popped.others) h)))
        ]
      ];
    }

  -- one frame is popped
  pub one_popped : (before after : K → Option (Memo K V)) (stack rest : List (Frame K P)) (f : Frame K P) → Wrote inputs.revision before after (f.key ∷ [])
      → rest ≡ stack → Popped inputs.revision before after (stack ++ f ∷ []) rest
  one_popped before after stack rest f written left = record {
    first = f;
    others = [];
    whole = ap (λ (l : List (Frame K P)). l ++ f ∷ []) (sym left);
    keys = f.key ∷ [];
    into = λ k i. i;
    from = λ k i. i;
    written = written;
  }

  -- the table stays as it is
  module _ (before after : K → Option (Memo K V)) (same : IsSameTable before after) where
    none : Wrote inputs.revision before after []
    none = wrote_none inputs.revision before after same

    back : (k : K) → IsUpToDate m inputs.revision (HasIn after) k → IsUpToDate m inputs.revision (HasIn before) k
    back k (inl low) = inl low
    back k (inr r) = inr (r.0, sym (same k) ∙ r.1, r.2)

    pub same_stands : (stack : List (Frame K P)) → Standing before stack → Standing after stack
    same_stands stack stands = record {
      linked = stacked.linked_still order m inputs before after [] none (λ k i. absurd i) stack (λ k i j. j) stands.linked;
      distinct = stands.distinct;
      stale = λ k i up. stands.stale k i (back k up);
      within = stands.within;
      rooted = elim stands.rooted [ inl i ↦ inl i | inr up ↦ inr (wrote.up_still m inputs.revision before after [] none (λ k i. absurd i) root up) ];
    }

    pub same_tells : (old : K → Option (Memo K V)) (stack : List (Frame K P)) (carried : List (Carried K)) → Tells order m inputs old before stack carried
        → Tells order m inputs old after stack carried
    same_tells old stack carried tells = record {
      handed_on = wrote.handed_still m inputs.revision before after [] none (λ k i. absurd i) order exact old tells.handed_on;
      causes = tells.causes;
      once = tells.once;
      begun = λ k i. elim (tells.begun k i) [
        | inl v ↦ inl (wrote.verified_still m inputs.revision before after [] none (λ x j. absurd j) k v)
        | inr j ↦ inr j
      ];
    }

    same_seen : (stack : List (Frame K P)) (k : K) → Seen inputs.revision before stack k → Seen inputs.revision after stack k
    same_seen stack k (inl v) = inl (wrote.verified_still m inputs.revision before after [] none (λ x j. absurd j) k v)
    same_seen stack k (inr i) = inr i

    -- and the last frame is another of its key
    module _ (stack : List (Frame K P)) (f g : Frame K P) (key_is : g.key ≡ f.key) where
      swap_keys : frame_keys (stack ++ f ∷ []) ≡ frame_keys (stack ++ g ∷ [])
      swap_keys = keys_append stack (f ∷ []) ∙ ap (λ (k : K). frame_keys stack ++ k ∷ []) (sym key_is) ∙ sym (keys_append stack (g ∷ []))

      swap_in : (k : K) → In k (frame_keys (stack ++ g ∷ [])) → In k (frame_keys (stack ++ f ∷ []))
      swap_in k i = subst (λ (ks : List K). In k ks) (sym swap_keys) i

      swap_seen : (k : K) → Seen inputs.revision before (stack ++ f ∷ []) k → Seen inputs.revision after (stack ++ g ∷ []) k
      swap_seen k (inl v) = same_seen (stack ++ g ∷ []) k (inl v)
      swap_seen k (inr i) = inr (subst (λ (ks : List K). In k ks) swap_keys i)

      pub swap_stands : IsFrame order m inputs.history inputs.revision (HasIn after) g.key g.stage → Fits m g.stage
          → Standing before (stack ++ f ∷ []) → Standing after (stack ++ g ∷ [])
      swap_stands is fits stands =
          let moved = same_stands (stack ++ f ∷ []) stands in
          record {
            linked = stacked.linked_swap order m inputs after stack f g (sym key_is) is fits moved.linked;
            distinct = subst (λ (ks : List K). Distinct ks) swap_keys moved.distinct;
            stale = λ k i. moved.stale k (swap_in k i);
            within = λ k i. moved.within k (swap_in k i);
            rooted = elim moved.rooted [ inl i ↦ inl (subst (λ (ks : List K). In root ks) swap_keys i) | inr up ↦ inr up ];
          }

      fewer : unseen (is_seen order inputs.revision after (stack ++ g ∷ [])) reach ≤ unseen (is_seen order inputs.revision before (stack ++ f ∷ [])) reach
      fewer = unseen_le order exact inputs.revision before after (stack ++ f ∷ []) (stack ++ g ∷ []) swap_seen reach

      pub swap_less : rank m g.stage < rank m f.stage → heavy after (stack ++ g ∷ []) < heavy before (stack ++ f ∷ [])
      swap_less h = weight_top order m inputs.revision reach before after stack f g fewer h

      pub swap_same : rank m g.stage ≡ rank m f.stage → heavy after (stack ++ g ∷ []) ≤ heavy before (stack ++ f ∷ [])
      swap_same h = weight_same order m inputs.revision reach before after stack f g fewer h

      pub swap_tells : ((k : K) → In k (waiting_keys (f ∷ [])) → In k (waiting_keys (g ∷ []))) → (old : K → Option (Memo K V)) (carried : List (Carried K))
          → Tells order m inputs old before (stack ++ f ∷ []) carried → Tells order m inputs old after (stack ++ g ∷ []) carried
      swap_tells waits old carried tells =
          let moved = same_tells old (stack ++ f ∷ []) carried tells in
          record {
            handed_on = moved.handed_on;
            causes = moved.causes;
            once = moved.once;
            begun = λ k i. elim (moved.begun k i) [
              | inl v ↦ inl v
              | inr j ↦ elim (waiting_either k stack (f ∷ []) j) [
                | inl h ↦ inr (waiting_left k stack (g ∷ []) h)
                | inr h ↦ inr (waiting_right k stack (g ∷ []) (waits k h))
              ]
            ];
          }

    -- and a frame is pushed, for which the last one waits
    module _ (stack : List (Frame K P)) (f : Frame K P) (next : K) (rest : List (Frame K P)) (pushed : rest ≡ (stack ++ f ∷ []) ++ walks next ∷ [])
        (new : In next (frame_keys (stack ++ f ∷ [])) → ⊥) (stale : IsUpToDate m inputs.revision (HasIn before) next → ⊥)
        (awaits : Awaits order m inputs.history inputs.revision (HasIn before) f.key f.stage next) (inside : In next reach)
        (stands : Standing before (stack ++ f ∷ [])) where
      ruled : 0 < m.level next
      ruled = elim (zero_or (m.level next)) [ inl low ↦ absurd (stale (inl low)) | inr up ↦ up ]

      push_keys : frame_keys ((stack ++ f ∷ []) ++ walks next ∷ []) ≡ frame_keys (stack ++ f ∷ []) ++ next ∷ []
      push_keys = keys_append (stack ++ f ∷ []) (walks next ∷ [])

      push_in : (k : K) → In k (frame_keys ((stack ++ f ∷ []) ++ walks next ∷ [])) → In k (frame_keys (stack ++ f ∷ [])) ⊎ (k ≡ next)
      push_in k i = elim (in_keys_either k (stack ++ f ∷ []) (walks next ∷ []) i) [ inl j ↦ inl j | inr j ↦ inr (only j) ]
        where
          only : In k (next ∷ []) → k ≡ next
          only (inl e) = e
          only (inr j) = absurd j

      at_after : Awaits order m inputs.history inputs.revision (HasIn after) f.key f.stage next
      at_after = stacked.awaits_still order m inputs before after [] none (λ k i. absurd i) f.key f.stage next (same f.key) awaits

      push_linked : Linked order m inputs after ((stack ++ f ∷ []) ++ walks next ∷ [])
      push_linked = stacked.linked_push order m inputs after stack f (walks next) at_after (ruled, λ memo h. ((let l : 0 ≤ length memo.reads = omega arith in l), tt)) tt
          (same_stands (stack ++ f ∷ []) stands).linked

      push_seen : (k : K) → Seen inputs.revision before (stack ++ f ∷ []) k → Seen inputs.revision after ((stack ++ f ∷ []) ++ walks next ∷ []) k
      push_seen k (inl v) = same_seen ((stack ++ f ∷ []) ++ walks next ∷ []) k (inl v)
      push_seen k (inr i) = inr (in_keys_left k (stack ++ f ∷ []) (walks next ∷ []) i)

      not_seen : Seen inputs.revision before (stack ++ f ∷ []) next → ⊥
      not_seen (inl v) = stale (inr v)
      not_seen (inr i) = new i

      stands_pushed : Standing after ((stack ++ f ∷ []) ++ walks next ∷ [])
      stands_pushed =
          let moved = same_stands (stack ++ f ∷ []) stands in
          record {
            linked = push_linked;
            distinct = subst (λ (ks : List K). Distinct ks) (sym push_keys) (distinct_push (frame_keys (stack ++ f ∷ [])) next moved.distinct new);
            stale = λ k i up. elim (push_in k i) [
              | inl j ↦ moved.stale k j up
              | inr e ↦ stale (back next (subst (λ (x : K). IsUpToDate m inputs.revision (HasIn after) x) e up))
            ];
            within = λ k i. elim (push_in k i) [ inl j ↦ moved.within k j | inr e ↦ subst (λ (x : K). In x reach) (sym e) inside ];
            rooted = elim moved.rooted [ inl i ↦ inl (in_keys_left root (stack ++ f ∷ []) (walks next ∷ []) i) | inr up ↦ inr up ];
          }

      pub push_stands : Standing after rest
      push_stands = subst (λ (l : List (Frame K P)). Standing after l) (sym pushed) stands_pushed

      less_pushed : heavy after ((stack ++ f ∷ []) ++ walks next ∷ []) < heavy before (stack ++ f ∷ [])
      less_pushed =
          let one = unseen_lt order exact inputs.revision before after (stack ++ f ∷ []) ((stack ++ f ∷ []) ++ walks next ∷ []) push_seen reach next inside not_seen
          (inr (in_keys_right next (stack ++ f ∷ []) (walks next ∷ []) (inl refl))) in
          let long : length ((stack ++ f ∷ []) ++ walks next ∷ []) ≡ length (stack ++ f ∷ []) + 1 = length-append (stack ++ f ∷ []) (walks next ∷ []) in
          weight_lt order m inputs reach before after (stack ++ f ∷ []) ((stack ++ f ∷ []) ++ walks next ∷ []) (omega arith) push_linked

      pub push_less : heavy after rest < heavy before (stack ++ f ∷ [])
      push_less = subst (λ (l : List (Frame K P)). heavy after l < heavy before (stack ++ f ∷ [])) (sym pushed) less_pushed

      pub push_tells : (old : K → Option (Memo K V)) (carried : List (Carried K)) → Tells order m inputs old before (stack ++ f ∷ []) carried
          → Tells order m inputs old after rest carried
      push_tells old carried tells =
          let moved = same_tells old (stack ++ f ∷ []) carried tells in
          subst (λ (l : List (Frame K P)). Tells order m inputs old after l carried) (sym pushed)
          (record {
            handed_on = moved.handed_on;
            causes = moved.causes;
            once = moved.once;
            begun = λ k i. elim (moved.begun k i) [ inl v ↦ inl v | inr j ↦ inr (waiting_left k (stack ++ f ∷ []) (walks next ∷ []) j) ];
          })

  -- a rule's start is recorded
  pub record_start : (old table : K → Option (Memo K V)) (stack : List (Frame K P)) (carried : List (Carried K)) (entry : Carried K)
      → IsCarried order m inputs.history inputs.revision (HasIn old) entry → (In entry.key (carried_keys carried) → ⊥)
      → (IsVerified inputs.revision table entry.key ⊎ In entry.key (waiting_keys stack))
      → Tells order m inputs old table stack carried → Tells order m inputs old table stack (carried ++ entry ∷ [])
  record_start old table stack carried entry is new begun tells =
      let keys : carried_keys (carried ++ entry ∷ []) ≡ carried_keys carried ++ entry.key ∷ [] = carried_append carried (entry ∷ []) in
      record {
        handed_on = tells.handed_on;
        causes = each_append (IsCarried order m inputs.history inputs.revision (HasIn old)) carried (entry ∷ []) tells.causes (is, tt);
        once = subst (λ (ks : List K). Distinct ks) (sym keys) (distinct_push (carried_keys carried) entry.key tells.once new);
        begun = λ k i. elim (in_append k (carried_keys carried) (entry.key ∷ []) (subst (λ (ks : List K). In k ks) keys i)) [
          | inl j ↦ tells.begun k j
          | inr j ↦ subst (λ (x : K). IsVerified inputs.revision table x ⊎ In x (waiting_keys stack)) (sym (only k j)) begun
        ];
      }
    where
      only : (k : K) → In k (entry.key ∷ []) → k ≡ entry.key
      only k (inl e) = e
      only k (inr j) = absurd j
