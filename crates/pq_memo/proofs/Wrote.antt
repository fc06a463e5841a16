-- What the calls that write do to the table, as one relation (`Wrote`).
use Rattle.std.proofs.Common.{◌≡◌, ℕ, List, [], ◌∷◌, Option, Some, None, refl, sym, ◌∙◌, ap, subst, inl, inr}
use Rattle.std.specs.declared.cmp.Ordering.{Ordering}
use Rattle.pq_inputs.specs.declared.durability.Durability.{Durability}
use Rattle.pq_inputs.specs.Sources.{Table}
use Rattle.pq_rules.specs.declared.turn.Answer.{Answer}
use Rattle.pq_rules.specs.Turns.{Machine}
use Rattle.pq_rules.specs.Relations.{In}
use Rattle.pq_rules.proofs.Weight.{Exact}
use Rattle.pq_memo.specs.Sound.{Memo}
use Rattle.pq_memo.specs.Look.{IsUpToDate}
use Rattle.pq_memo.specs.Table.{memo_at, HasIn, IsPut, IsSameTable}
use Rattle.pq_memo.specs.Writes.{Dated, IsMarked, IsPublished, RingWritten, ring_keys, remarked}
use Rattle.pq_memo.specs.Steps.{IsFinished}
use Rattle.pq_memo.specs.Demand.{IsVerified}
use Rattle.pq_memo.specs.aux.Demand.{Wrote, IsHandedOn}
use Rattle.pq_memo.proofs.PutAll.{decide_in, put_here, put_elsewhere}

-- nothing was written
pub wrote_none : {K V : Type 0} (now : ℕ) (before after : K → Option (Memo K V)) → IsSameTable before after → Wrote now before after []
wrote_none now before after same = record { others = λ k out. same k; news = λ k i. absurd i }

-- one memo was written
pub wrote_put : {K V : Type 0} (order : K → K → Ordering) → Exact order → (now : ℕ) (before after : K → Option (Memo K V)) (k : K) (memo : Memo K V)
    → IsPut order before k memo after → memo.verified ≡ now → Dated now (HasIn before) k memo → Wrote now before after (k ∷ [])
wrote_put {K} {V} order exact now before after k memo put verified dated = record {
  others = λ q out. put q ∙ put_elsewhere order exact k memo before q (λ e. out (inl e));
  news = λ q i. here q (only q i);
}
  where
    only : (q : K) → In q (k ∷ []) → k ≡ q
    only q (inl e) = sym e
    only q (inr i) = absurd i

    here : (q : K) → k ≡ q → (new : Memo K V) × HasIn after q new × (new.verified ≡ now) × Dated now (HasIn before) q new
    here q e = subst (λ (x : K). (new : Memo K V) × HasIn after x new × (new.verified ≡ now) × Dated now (HasIn before) x new) e
        (memo, put k ∙ put_here order exact k memo before, verified, dated)

-- a ring was written
pub wrote_ring : {K V : Type 0} (now : ℕ) (before after : K → Option (Memo K V)) (members : List (K × List K)) (durability : Durability)
    → RingWritten now (HasIn before) (HasIn after) members durability → Wrote now before after (ring_keys members)
wrote_ring {K} {V} now before after members durability written = record {
  others = λ k out. same k out (before k) (after k) refl refl;
  news = λ k i. let e = entry members k i in let n = written.news k e.0 e.1 in (n.0, n.1, n.4, n.6);
}
  where
    entry : (es : List (K × List K)) (k : K) → In k (ring_keys es) → (reads : List K) × In (k, reads) es
    entry [] k i = absurd i
    entry (e ∷ es) k (inl p) = (e.1, inl (ap (λ (x : K). (x, e.1)) p))
    entry (e ∷ es) k (inr i) = let r = entry es k i in (r.0, inr r.1)

    same : (k : K) → (In k (ring_keys members) → ⊥) → (b a : Option (Memo K V)) → before k ≡ b → after k ≡ a → after k ≡ before k
    same k out (Some memo) a b_is a_is = written.to k memo out b_is ∙ sym b_is
    same k out None (Some memo) b_is a_is = let h : before k ≡ Some memo = written.from k memo out a_is in cc
    same k out None None b_is a_is = a_is ∙ sym b_is

module _ {K P V : Type 0} (order : K → K → Ordering) (exact : Exact order) (m : Machine K P V) (inputs : Table)
    (before : List (K × Option (Memo K V))) (k : K) (after : List (K × Option (Memo K V))) where
  pub wrote_published : (answer : Answer K V) (reads : List K) → IsPublished order m inputs before k answer reads after
      → Wrote inputs.revision (memo_at order before) (memo_at order after) (k ∷ [])
  wrote_published answer reads p =
      wrote_put order exact inputs.revision (memo_at order before) (memo_at order after) k
      (record { answer = answer; verified = inputs.revision; changed = p.changed; reads = reads; durability = p.durability })
      p.put refl p.dated

  pub wrote_marked : IsMarked order m inputs before k after → Wrote inputs.revision (memo_at order before) (memo_at order after) (k ∷ [])
  wrote_marked p =
      wrote_put order exact inputs.revision (memo_at order before) (memo_at order after) k (remarked p.memo inputs.revision p.durability) p.put refl
      (inl (p.memo, p.has, refl, refl))

  -- the key of a frame that was not up to date, and is finished
  pub wrote_finished : (IsUpToDate m inputs.revision (HasIn (memo_at order before)) k → ⊥) → IsFinished order m inputs before after k
      → Wrote inputs.revision (memo_at order before) (memo_at order after) (k ∷ [])
  wrote_finished stale (inl f) = absurd (stale f.1)
  wrote_finished stale (inr (inl marked)) = wrote_marked marked
  wrote_finished stale (inr (inr p)) = wrote_published p.0 p.1 p.2

module _ {K P V : Type 0} (m : Machine K P V) (now : ℕ) (before after : K → Option (Memo K V))
    (keys : List K) (wrote : Wrote now before after keys) (stale : (k : K) → In k keys → IsUpToDate m now (HasIn before) k → ⊥) where
  -- a key that is up to date keeps its memo
  pub kept_fresh : (k : K) → IsUpToDate m now (HasIn before) k → after k ≡ before k
  kept_fresh k up = wrote.others k (λ i. stale k i up)

  -- and stays up to date
  pub up_still : (k : K) → IsUpToDate m now (HasIn before) k → IsUpToDate m now (HasIn after) k
  up_still k (inl low) = inl low
  up_still k (inr r) = inr (r.0, kept_fresh k (inr r) ∙ r.1, r.2)

  pub verified_still : (k : K) → IsVerified now before k → IsVerified now after k
  verified_still k r = (r.0, kept_fresh k (inr r) ∙ r.1, r.2)

  -- a table goes on from the one before the demand
  pub handed_still : (order : K → K → Ordering) → Exact order → (old : K → Option (Memo K V)) → ((k : K) → IsHandedOn now old before k) → (k : K) → IsHandedOn now old after k
  handed_still order exact old handed k = elim (decide_in order exact keys k) [ inl i ↦ inr (new (handed k) i (wrote.news k i)) | inr out ↦ same (handed k) (wrote.others k out) ]
    where
      dated : (memo : Memo K V) → before k ≡ old k → Dated now (HasIn before) k memo → Dated now (HasIn old) k memo
      dated memo e (inl d) = inl (d.0, sym e ∙ d.1, d.2, d.3)
      dated memo e (inr d) = inr (d.0, λ o h. d.1 o (e ∙ h))

      new : IsHandedOn now old before k → In k keys → (memo : Memo K V) × HasIn after k memo × (memo.verified ≡ now) × Dated now (HasIn before) k memo
          → (memo : Memo K V) × HasIn after k memo × (memo.verified ≡ now) × Dated now (HasIn old) k memo
      new (inl e) i n = (n.0, n.1, n.2, dated n.0 e n.3)
      new (inr h) i n = absurd (stale k i (inr (h.0, h.1, h.2)))

      same : IsHandedOn now old before k → after k ≡ before k → IsHandedOn now old after k
      same (inl e) a = inl (a ∙ e)
      same (inr h) a = inr (h.0, a ∙ h.1, h.2, h.3)
