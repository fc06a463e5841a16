-- What each call that writes keeps, over the table as a function of keys.
use Rattle.std.proofs.Common.{◌≡◌, ℕ, ◌+◌, ◌⊎◌, ◌<◌, ◌≤◌, List, length, Option, refl, sym, ◌∙◌, subst, inl, inr, arith}
use Rattle.std.specs.declared.cmp.Ordering.{Ordering}
use Rattle.pq_inputs.specs.declared.durability.Durability.{Durability}
use Rattle.pq_inputs.specs.Sources.{Sources}
use Rattle.pq_inputs.proofs.Last.{last_is_one}
use Rattle.pq_rules.specs.Turns.{Machine}
use Rattle.pq_rules.specs.Relations.{Each, In}
use Rattle.pq_rules.proofs.Rings.{Strict, each_in}
use Rattle.pq_rules.proofs.Weight.{Exact}
use Rattle.pq_rules.proofs.Order.{strict}
use Rattle.std.proofs.lemmas.Option.{same_Some}
use Rattle.pq_memo.specs.Sound.{Memo, sources_at, at, HasReads}
use Rattle.pq_memo.specs.Kept.{IsLeastAt, Kept}
use Rattle.pq_memo.specs.Look.{IsUpToDate, IsStill, IsOnItsRing, IsGreen, Lasts, HasLapsed}
use Rattle.pq_memo.specs.Table.{HasIn, IsPut}
use Rattle.pq_memo.specs.Writes.{Dated, remarked}
use Rattle.pq_memo.specs.aux.Durabilities.{IsLeastRead}
use Rattle.pq_memo.specs.aux.Written.{NewMemo}
use Rattle.pq_memo.proofs.Written.{kept_written}
use Rattle.pq_memo.proofs.Marks as marks
use Rattle.pq_memo.proofs.Marks.{lasts_quiet, marked}
use Rattle.pq_memo.proofs.Makes as makes
use Rattle.pq_memo.proofs.Makes.{Only, written_put}

-- a table that is kept, with one memo that is least durable
pub record KeptWith {K P V : Type 0} (order : K → K → Ordering) (m : Machine K P V) (history : List Sources) (now : ℕ)
    (After : K → Memo K V → Type 0) (k : K) (d : Durability) : Type 0 where
  pub kept : Kept order m history now After
  pub least : IsLeastAt order m history now k d

module _ {K P V : Type 0} (order : K → K → Ordering) (exact : Exact order) (m : Machine K P V) (history : List Sources) (now : ℕ)
    (counted : length history ≡ now + 1) (table after : K → Option (Memo K V)) (kept : Kept order m history now (HasIn table)) where
  abbrev ordered : Strict order
  ordered = strict order exact.total

  -- the memo of a key is one
  only_memo : (k : K) (memo other : Memo K V) → HasIn table k memo → HasIn table k other → memo ≡ other
  only_memo k memo other a b = same_Some memo other (sym a ∙ b)

  by_durability : (k : K) (memo : Memo K V) → HasIn table k memo → Lasts history memo
      → IsPut order table k (marked memo now) after → KeptWith order m history now (HasIn after) k memo.durability
  by_durability k memo has lasts put =
      let written = written_put order exact table after k (marked memo now) put in
      let quiet = lasts_quiet history now memo lasts in
      let here : HasIn after k (marked memo now) = written.news k (marked memo now) (refl, refl) in
      let new : NewMemo order m history now (HasIn table) (HasIn after) k (marked memo now) =
      marks.marked_by_durability order ordered m history now counted (HasIn table) kept k memo has quiet (HasIn after)
      (λ q n a. elim (written.after q n a) [ inl o ↦ inl o | inr o ↦ inr o.1 ])
      here
      (λ q n h. elim (written.decide q) [
        | inl o ↦ (o.0, written.news q o.0 o.1, inr o.1.1)
        | inr none ↦ (n, written.others q n h none, inl refl)
      ]) in
      record {
        kept = kept_written order ordered m history now (HasIn table) (HasIn after) (Only k (marked memo now)) kept written
            (λ q n o. subst (λ (x : K). NewMemo order m history now (HasIn table) (HasIn after) x n) (sym o.0)
            (subst (λ (x : Memo K V). NewMemo order m history now (HasIn table) (HasIn after) k x) (sym o.1) new));
        least = new.least;
      }

  by_reads : (k : K) (memo : Memo K V) (d : Durability) → HasIn table k memo → (IsOnItsRing k memo → ⊥)
      → Each (IsStill m history now (HasIn table) memo.verified) memo.reads
      → IsLeastRead m (sources_at history now) (HasIn table) (λ q. In q memo.reads) d
      → IsPut order table k (remarked memo now d) after → KeptWith order m history now (HasIn after) k d
  by_reads k memo d has off still least put =
      let written = written_put order exact table after k (remarked memo now d) put in
      let new = makes.made_by_reads order ordered m history now table kept counted (HasIn after) k memo d has off still least written in
      record {
        kept = kept_written order ordered m history now (HasIn table) (HasIn after) (Only k (remarked memo now d)) kept written new;
        least = (new k (remarked memo now d) (refl, refl)).least;
      }

  -- a green memo that is marked: with its durability where durability confirms it, else with the
  -- least of its reads'
  pub mark_kept : (k : K) (memo : Memo K V) (d : Durability) → HasIn table k memo → IsGreen m history now (HasIn table) k
      → ((Lasts history memo) × (d ≡ memo.durability))
      ⊎ ((HasLapsed history memo) × IsLeastRead m (sources_at history now) (HasIn table) (λ q. In q memo.reads) d)
      → IsPut order table k (remarked memo now d) after → KeptWith order m history now (HasIn after) k d
  mark_kept k memo d has green (inl l) put =
      subst (λ (x : Durability). KeptWith order m history now (HasIn after) k x) (sym l.1)
      (by_durability k memo has l.0 (subst (λ (x : Durability). IsPut order table k (remarked memo now x) after) l.1 put))
  mark_kept k memo d has (other, inl g) (inr l) put =
      let one = only_memo k other memo g.0.has has in
      let lasts = subst (λ (x : Memo K V). Lasts history x) one g.1 in
      let same : lasts.0 ≡ l.0.0 = last_is_one lasts.0 l.0.0 lasts.1 l.0.1 in
      let le : lasts.0 ≤ memo.verified = lasts.2 in
      let lt : memo.verified < l.0.0 = l.0.2 in
      absurd (omega arith)
  mark_kept k memo d has (other, inr g) (inr l) put =
      let one = only_memo k other memo g.0.old.has has in
      by_reads k memo d has (subst (λ (x : Memo K V). IsOnItsRing k x → ⊥) one g.0.no_ring)
      (subst (λ (x : Memo K V). Each (IsStill m history now (HasIn table) x.verified) x.reads) one g.1) l.1 put

  -- an answer that is published
  pub publish_kept : (k : K) (memo : Memo K V) → 0 < m.level k → memo.verified ≡ now → Dated now (HasIn table) k memo
      → HasReads (at order m history now) k memo.answer memo.reads
      → Each (IsUpToDate m now (HasIn table)) memo.reads
      → (IsOnItsRing k memo → ⊥)
      → IsLeastRead m (sources_at history now) (HasIn table) (λ q. In q memo.reads) memo.durability
      → IsPut order table k memo after → KeptWith order m history now (HasIn after) k memo.durability
  publish_kept k memo ruled verified dated reads up off least put =
      let written = written_put order exact table after k memo put in
      let new = makes.made_published order ordered m history now table kept (HasIn after) k memo ruled verified dated reads
      (λ q i. each_in (IsUpToDate m now (HasIn table)) q memo.reads up i) off least written in
      record {
        kept = kept_written order ordered m history now (HasIn table) (HasIn after) (Only k memo) kept written new;
        least = (new k memo (refl, refl)).least;
      }
