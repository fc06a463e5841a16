-- The state of a demand from its beginning to its end.
use Rattle.std.proofs.Common.{◌≡◌, ℕ, ◌+◌, ◌<◌, ◌≤◌, List, [], ◌∷◌, ◌++◌, length, slice_get, Option, Some, refl, sym, ◌∙◌, ap, subst, inl, inr, arith}
use Rattle.std.specs.Prelude.{Result, Ok, Err, IfOk, IfSome, None}
use Rattle.std.specs.declared.cmp.Ordering.{Ordering}
use Rattle.std.proofs.lemmas.Option.{same_Some}
use Rattle.pq_inputs.specs.Sources.{Sources, Table}
use Rattle.pq_rules.specs.declared.turn.Answer.{Answer}
use Rattle.pq_rules.specs.Turns.{Machine, over}
use Rattle.pq_rules.specs.Value.{Means}
use Rattle.pq_rules.specs.Laws.{Laws}
use Rattle.pq_rules.specs.Relations.{Each, In}
use Rattle.pq_rules.specs.aux.Evaluator.{Distinct}
use Rattle.pq_rules.proofs.ListLemmas.{each_from}
use Rattle.pq_rules.proofs.Order.{strict}
use Rattle.pq_rules.proofs.Weight.{Exact}
use Rattle.pq_memo.specs.declared.stepping.frame.Frame.{Frame}
use Rattle.pq_memo.specs.declared.demand.demanded.Carried.{Carried}
use Rattle.pq_memo.specs.Sound.{Memo, at}
use Rattle.pq_memo.specs.Kept.{Kept}
use Rattle.pq_memo.specs.Look.{IsUpToDate}
use Rattle.pq_memo.specs.Table.{HasIn, IsSameTable}
use Rattle.pq_memo.specs.Frames.{frame_keys}
use Rattle.pq_memo.specs.Demand.{Differ, IsVerified, NoneLost, IsSameOrVerified, carried_keys}
use Rattle.pq_memo.specs.aux.Demand.{Linked, Stands, Going, IsHandedOn, Advances, Caused, HasConfirmed, walks, weight}
use Rattle.pq_memo.specs.aux.Frames.{IsReadAnswer}
use Rattle.pq_memo.proofs.Makes.{now_right}
use Rattle.pq_memo.proofs.Reading.{now_files}
use Rattle.pq_memo.proofs.TableCalls.{zero_or}
use Rattle.pq_memo.proofs.Stacked.{in_keys_right}
use Rattle.pq_memo.proofs.Advancing as advancing
use Rattle.pq_memo.proofs.Causes as causes
use Rattle.pq_memo.proofs.Confirming as confirming

-- keys that are distinct
pub differ : {K : Type 0} (ks : List K) → Distinct ks → Differ ks
unfolding Distinct
differ [] d = tt
differ (k ∷ ks) d = (d.0, differ ks d.1)

-- the first frame
pub begins : {K P V : Type 0} (order : K → K → Ordering) (m : Machine K P V) (inputs : Table) (reach : K → List K) (root : K) (table : K → Option (Memo K V))
    → Laws (at order m inputs.history inputs.revision) reach → Kept order m inputs.history inputs.revision (HasIn table)
    → (IsUpToDate m inputs.revision (HasIn table) root → ⊥) → (stack : List (Frame K P)) (carried : List (Carried K)) (copy : K)
    → copy ≡ root → stack ≡ walks copy ∷ [] → carried ≡ []
    → Going order m inputs (reach root) root table table stack carried
unfolding Linked Distinct
begins {K} {P} {V} order m inputs reach root table laws kept stale stack carried copy same is none =
    subst (λ (l : List (Frame K P)). Going order m inputs (reach root) root table table l carried) (sym (is ∙ ap (λ (k : K). walks k ∷ []) same))
    (subst (λ (l : List (Carried K)). Going order m inputs (reach root) root table table (walks root ∷ []) l) (sym none)
    (record {
      kept = kept;
      stands = record {
        linked = ((ruled, λ memo h. ((let l : 0 ≤ length memo.reads = omega arith in l), tt)), tt, tt, tt);
        distinct = (λ i. i, tt);
        stale = λ k i up. stale (subst (λ (x : K). IsUpToDate m inputs.revision (HasIn table) x) (only k i) up);
        within = λ k i. subst (λ (x : K). In x (reach root)) (sym (only k i)) (laws.reaches root);
        rooted = inl (inl refl);
      };
      tells = record { handed_on = λ k. inl refl; causes = tt; once = tt; begun = λ k i. absurd i };
    }))
  where
    ruled : 0 < m.level root
    ruled = elim (zero_or (m.level root)) [ inl low ↦ absurd (stale (inl low)) | inr up ↦ up ]

    only : (k : K) → In k (root ∷ []) → k ≡ root
    only k (inl e) = e
    only k (inr i) = absurd i

-- what a step requires
pub record Ready {K P V : Type 0} (order : K → K → Ordering) (m : Machine K P V) (inputs : Table) (table : K → Option (Memo K V)) (stack : List (Frame K P)) (f : Frame K P) : Type 0 where
  pub linked : Linked order m inputs table (stack ++ f ∷ [])
  pub distinct : Distinct (frame_keys (stack ++ f ∷ []))
  pub stale : IsUpToDate m inputs.revision (HasIn table) f.key → ⊥

module _ {K P V : Type 0} (order : K → K → Ordering) (exact : Exact order) (m : Machine K P V) (inputs : Table) (reach : K → List K) (root : K)
    (counted : length inputs.history ≡ inputs.revision + 1) (laws : Laws (at order m inputs.history inputs.revision) reach) (old : K → Option (Memo K V)) where
  abbrev State : (K → Option (Memo K V)) → List (Frame K P) → List (Carried K) → Type 0
  State table stack carried = Going order m inputs (reach root) root old table stack carried

  pub ready : (table : K → Option (Memo K V)) (all stack : List (Frame K P)) (f : Frame K P) (carried : List (Carried K)) → all ≡ stack ++ f ∷ []
      → State table all carried → Ready order m inputs table stack f
  ready table all stack f carried is going =
      let stands = subst (λ (l : List (Frame K P)). Stands order m inputs (reach root) root table l) is going.stands in
      record { linked = stands.linked; distinct = stands.distinct; stale = stands.stale f.key (in_keys_right f.key stack (f ∷ []) (inl refl)) }

  pub record Stepped (before after : K → Option (Memo K V)) (all rest : List (Frame K P)) (entries : List (Carried K)) : Type 0 where
    pub state : State after rest entries
    pub less : weight order m inputs.revision (reach root) after rest < weight order m inputs.revision (reach root) before all

  pub stepped : (before after : K → Option (Memo K V)) (all stack rest : List (Frame K P)) (f : Frame K P) (carried entries : List (Carried K)) → all ≡ stack ++ f ∷ []
      → State before all carried → Kept order m inputs.history inputs.revision (HasIn after)
      → Advances order m inputs before after f stack carried rest entries → Stepped before after all rest entries
  stepped before after all stack rest f carried entries is going kept advances =
      let here = subst (λ (l : List (Frame K P)). State before l carried) is going in
      let s = advancing.goes order exact m inputs reach root counted laws old before after f stack rest carried going.kept here.stands here.tells entries advances in
      subst (λ (l : List (Frame K P)). Stepped before after l rest entries) (sym is)
      (record { state = record { kept = kept; stands = s.stands; tells = s.tells }; less = s.less })

  -- what the marking of memos below a frame requires
  pub record Held (table : K → Option (Memo K V)) (stack : List (Frame K P)) (f : Frame K P) : Type 0 where
    pub linked : Linked order m inputs table (stack ++ f ∷ [])
    pub stale : (k : K) → In k (frame_keys (stack ++ f ∷ [])) → IsUpToDate m inputs.revision (HasIn table) k → ⊥
    pub caused : Caused m inputs table (stack ++ f ∷ [])

  pub held : (table : K → Option (Memo K V)) (all stack : List (Frame K P)) (f : Frame K P) (carried : List (Carried K)) → all ≡ stack ++ f ∷ []
      → State table all carried → Caused m inputs table all → Held table stack f
  held table all stack f carried is going caused =
      let stands = subst (λ (l : List (Frame K P)). Stands order m inputs (reach root) root table l) is going.stands in
      record { linked = stands.linked; stale = stands.stale; caused = subst (λ (l : List (Frame K P)). Caused m inputs table l) is caused }

  -- memos below a frame are marked, and then the frame takes a step
  module _ (before middle : K → Option (Memo K V)) (all stack : List (Frame K P)) (f : Frame K P) (carried : List (Carried K)) (is : all ≡ stack ++ f ∷ [])
      (going : State before all carried) (caused : Caused m inputs before all) (kept : Kept order m inputs.history inputs.revision (HasIn middle))
      (confirmed : HasConfirmed m inputs.revision before middle (frame_keys (stack ++ f ∷ []))) where
    here : State before (stack ++ f ∷ []) carried
    here = subst (λ (l : List (Frame K P)). State before l carried) is going

    pub marked_state : State middle (stack ++ f ∷ []) carried
    marked_state = confirming.going_then order exact m inputs before middle (stack ++ f ∷ []) confirmed (reach root) root old carried kept here

    pub marked_ready : Ready order m inputs middle stack f
    marked_ready = ready middle (stack ++ f ∷ []) stack f carried refl marked_state

    pub record Went (after : K → Option (Memo K V)) (rest : List (Frame K P)) (entries : List (Carried K)) : Type 0 where
      pub state : State after rest entries
      pub because : Caused m inputs after rest
      pub less : weight order m inputs.revision (reach root) after rest < weight order m inputs.revision (reach root) before all

    pub went : (after : K → Option (Memo K V)) (rest : List (Frame K P)) (entries : List (Carried K)) → Kept order m inputs.history inputs.revision (HasIn after)
        → Advances order m inputs middle after f stack carried rest entries → Went after rest entries
    went after rest entries kept_after advances =
        let s = stepped middle after (stack ++ f ∷ []) stack rest f carried entries refl marked_state kept_after advances in
        let le : weight order m inputs.revision (reach root) middle (stack ++ f ∷ []) ≤ weight order m inputs.revision (reach root) before (stack ++ f ∷ []) =
        confirming.weight_then order exact m inputs before middle (stack ++ f ∷ []) confirmed (reach root) in
        let same : weight order m inputs.revision (reach root) before all ≡ weight order m inputs.revision (reach root) before (stack ++ f ∷ []) =
        ap (λ (l : List (Frame K P)). weight order m inputs.revision (reach root) before l) is in
        let lt : weight order m inputs.revision (reach root) after rest < weight order m inputs.revision (reach root) middle (stack ++ f ∷ []) = s.less in
        record {
          state = s.state;
          because = causes.caused_on order exact m inputs (reach root) root middle after f stack rest marked_state.stands
              (confirming.caused_then order exact m inputs before middle (stack ++ f ∷ []) confirmed (subst (λ (l : List (Frame K P)). Caused m inputs before l) is caused))
              carried entries advances;
          less = omega arith;
        }

  -- the end
  pub record Ended (table : K → Option (Memo K V)) (carried : List (Carried K)) : Type 0 where
    pub up_to_date : IsUpToDate m inputs.revision (HasIn table) root
    pub covered : Each (IsVerified inputs.revision table) (carried_keys carried)

  pub ended : (table : K → Option (Memo K V)) (stack : List (Frame K P)) (carried : List (Carried K)) → stack ≡ [] → State table stack carried → Ended table carried
  ended table stack carried is going =
      let here = subst (λ (l : List (Frame K P)). State table l carried) is going in
      record {
        up_to_date = elim here.stands.rooted [ inl i ↦ absurd i | inr up ↦ up ];
        covered = each_from (IsVerified inputs.revision table) (carried_keys carried)
            (λ k i. elim (here.tells.begun k i) [ inl v ↦ v | inr j ↦ absurd j ]);
      }

-- a table that is the same was handed on too
pub handed_same : {K V : Type 0} (now : ℕ) (old before after : K → Option (Memo K V)) → IsSameTable before after
    → ((k : K) → IsHandedOn now old before k) → (k : K) → IsHandedOn now old after k
handed_same {K} {V} now old before after same handed k = one (handed k)
  where
    one : IsHandedOn now old before k → IsHandedOn now old after k
    one (inl e) = inl (same k ∙ e)
    one (inr h) = inr (h.0, same k ∙ h.1, h.2, h.3)

-- no memo is lost, and a new one was verified now
pub none_lost : {K V : Type 0} (now : ℕ) (old table : K → Option (Memo K V)) → ((k : K) → IsHandedOn now old table k) → NoneLost old table
none_lost {K} {V} now old table handed k memo has = one (handed k)
  where
    one : IsHandedOn now old table k → (later : Memo K V) × HasIn table k later × (later.answer ≡ memo.answer → later.changed ≡ memo.changed)
    one (inl e) = (memo, e ∙ has, λ same. refl)
    one (inr (later, there, verified, inl d)) =
        (later, there, λ same. d.3 ∙ ap (λ (x : Memo K V). x.changed) (same_Some d.0 memo (sym d.1 ∙ has)))
    one (inr (later, there, verified, inr d)) = (later, there, λ same. absurd (d.1 memo has (sym same)))

pub same_or_verified : {K V : Type 0} (now : ℕ) (old table : K → Option (Memo K V)) → ((k : K) → IsHandedOn now old table k)
    → (k : K) → IsSameOrVerified now old table k
same_or_verified {K} {V} now old table handed k = one (handed k)
  where
    one : IsHandedOn now old table k → IsSameOrVerified now old table k
    one (inl e) = inl e
    one (inr h) = inr (h.0, h.1, h.2)

-- the answer of a key that is up to date is right
pub answer_means : {K P V : Type 0} (order : K → K → Ordering) (exact : Exact order) (m : Machine K P V) (inputs : Table)
    → slice_get inputs.history inputs.revision ≡ Some inputs.files → (table : K → Option (Memo K V)) → Kept order m inputs.history inputs.revision (HasIn table)
    → (k : K) (a : Answer K V) → IsReadAnswer order m inputs.files inputs.revision (HasIn table) k a → Means (over order m inputs.files) k a
answer_means order exact m inputs latest table kept k a (inl low) = low.1
answer_means {K} {P} {V} order exact m inputs latest table kept k a (inr r) =
    subst (λ (s : Sources). Means (over order m s) k a) (now_files inputs.history inputs.revision inputs.files latest)
    (subst (λ (x : Answer K V). Means (at order m inputs.history inputs.revision) k x) r.3
    (now_right order (strict order exact.total) m inputs.history inputs.revision table kept k r.0 r.1 r.2))

-- and so is the answer that may have been read
pub answer_read : {K P V E : Type 0} (order : K → K → Ordering) (exact : Exact order) (m : Machine K P V) (inputs : Table)
    → slice_get inputs.history inputs.revision ≡ Some inputs.files → (table : K → Option (Memo K V)) → Kept order m inputs.history inputs.revision (HasIn table)
    → (k : K) (r : Result (Option (Answer K V)) E) → IfOk r (λ o. IfSome o (λ a. IsReadAnswer order m inputs.files inputs.revision (HasIn table) k a))
    → IfOk r (λ o. IfSome o (λ a. Means (over order m inputs.files) k a))
answer_read order exact m inputs latest table kept k (Ok (Some a)) h = answer_means order exact m inputs latest table kept k a h
answer_read order exact m inputs latest table kept k (Ok None) h = tt
answer_read order exact m inputs latest table kept k (Err e) h = tt
