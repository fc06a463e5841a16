-- Frames that wait for each other in a round: their keys are a ring, with these reads.
use Rattle.std.proofs.Common.{◌≡◌, ℕ, zero, suc, ◌+◌, ◌<◌, ◌≤◌, List, [], ◌∷◌, ◌++◌, length, take, get_or, slice_get, Option, Some, refl, sym, ◌∙◌, ap, ap₂, subst, arith, add-one}
use Rattle.std.specs.declared.cmp.Ordering.{Ordering}
use Rattle.std.specs.declared.cmp.Ordering.TheVariants.{Less}
use Rattle.std.proofs.lemmas.Option.{slice_get_within}
use Rattle.pq_inputs.specs.Sources.{Sources}
use Rattle.pq_rules.specs.declared.turn.Turn.TheVariants.{Ask}
use Rattle.pq_rules.specs.declared.turn.Answer.TheVariants.{Cycle}
use Rattle.pq_rules.specs.Turns.{Machine}
use Rattle.pq_rules.specs.Relations.{Each}
use Rattle.pq_rules.specs.Value.{ComesTo}
use Rattle.pq_rules.proofs.Rings.{Strict}
use Rattle.pq_memo.specs.declared.stepping.frame.Frame.{Frame}
use Rattle.pq_memo.specs.declared.stepping.frame.Stage.{Stage}
use Rattle.pq_memo.specs.declared.stepping.frame.Stage.TheVariants.{Walking, Waiting}
use Rattle.pq_memo.specs.Sound.{Memo, at, HasReads}
use Rattle.pq_memo.specs.Look.{IsUpToDate}
use Rattle.pq_memo.specs.Table.{HasIn}
use Rattle.pq_memo.specs.Writes.{ring_keys, fronts}
use Rattle.pq_memo.specs.Frames.{Sits, Awaits, RoundOf, IsRound, front_of, reads_of, frame_keys, IsMember, AreMembers}
use Rattle.pq_memo.specs.aux.Frames.{RingSits, members, pairs}
use Rattle.pq_memo.proofs.RingClosed.{ring_closed, ring_fresh}

module _ {K P V : Type 0} (order : K → K → Ordering) (m : Machine K P V) (history : List Sources) (now : ℕ) (table : K → Option (Memo K V)) where
  abbrev Waits : K → Stage K P → K → Type 0
  Waits k stage q = Awaits order m history now (HasIn table) k stage q

  pub sits_of : (k : K) (stage : Stage K P) (q : K) → Waits k stage q → (p : P) × Sits order m history now (HasIn table) k q p (front_of table k stage)
  sits_of k (Walking place) q w =
      let same : reads_of (table k) ≡ w.memo.reads = ap (λ (o : Option (Memo K V)). reads_of o) w.has in
      (w.part, subst (λ (l : List K). Sits order m history now (HasIn table) k q w.part (take place l)) (sym same) w.sits)
  sits_of k (Waiting part asked reads) q w =
      (part, subst (λ (x : K). Sits order m history now (HasIn table) k x part reads.items) w.0 w.1)

  -- the reads of a frame that walks
  pub walked_front : (k : K) (stage : Stage K P) (place : ℕ) (items : List K) → stage ≡ Walking place
      → ((memo : Memo K V) (q : K) → table k ≡ Some memo → slice_get memo.reads place ≡ Some q → items ≡ take place memo.reads ++ q ∷ [])
      → (q : K) → Waits k stage q → items ≡ front_of table k stage ++ q ∷ []
  walked_front k stage place items is h =
      subst (λ (s : Stage K P). (q : K) → Waits k s q → items ≡ front_of table k s ++ q ∷ []) (sym is)
      (λ q w. h w.memo q w.has w.there ∙ ap (λ (l : List K). take place l ++ q ∷ []) (sym (ap (λ (o : Option (Memo K V)). reads_of o) w.has)))

  pub walk_within : (k : K) (stage : Stage K P) (place : ℕ) → stage ≡ Walking place → (q : K) × Waits k stage q
      → (memo : Memo K V) × (table k ≡ Some memo) × (place < length memo.reads)
  walk_within k stage place is w =
      subst (λ (s : Stage K P). (q : K) × Waits k s q → (memo : Memo K V) × (table k ≡ Some memo) × (place < length memo.reads)) (sym is)
      (λ x. (x.1.memo, x.1.has, slice_get_within x.1.memo.reads place x.0 x.1.there)) w

  -- one member more
  pub members_next : (fs : List (Frame K P)) (i : ℕ) (f : Frame K P) (es qs : List (K × List K)) (e : K × List K) (key : K) (reads : List K)
      → i < length fs → f ≡ get_or fs i f → qs ≡ es ++ e ∷ [] → e ≡ (key, reads) → key ≡ f.key
      → ((q : K) → Waits f.key f.stage q → reads ≡ front_of table f.key f.stage ++ q ∷ [])
      → AreMembers order m history now table (take i fs) es → AreMembers order m history now table (take (i + 1) fs) qs
  members_next fs i f es qs e key reads h at pushed is named all many = rw add-one (next fs i es qs h at pushed many)
    where
      one : IsMember order m history now table f e
      one q w = is ∙ ap₂ (λ (k : K) (l : List K). (k, l)) named (all q w)

      next : (fs : List (Frame K P)) (i : ℕ) (es qs : List (K × List K)) → i < length fs → f ≡ get_or fs i f → qs ≡ es ++ e ∷ []
          → AreMembers order m history now table (take i fs) es → AreMembers order m history now table (take (suc i) fs) qs
      next [] i es qs h at pushed many = absurd (omega arith)
      next (g ∷ fs) zero [] qs h at pushed many =
          subst (λ (l : List (K × List K)). AreMembers order m history now table (g ∷ []) l) (sym pushed)
          ((subst (λ (x : Frame K P). IsMember order m history now table x e) at one, tt))
      next (g ∷ fs) zero (d ∷ es) qs h at pushed many = absurd many
      next (g ∷ fs) (suc i) [] qs h at pushed many = absurd many
      next (g ∷ fs) (suc i) (d ∷ es) qs h at pushed many =
          subst (λ (l : List (K × List K)). AreMembers order m history now table (take (suc (suc i)) (g ∷ fs)) l) (sym pushed)
          ((many.0, next fs i es (es ++ e ∷ []) (omega arith) at refl many.1))

  pub round_each : (first : K) (fs : List (Frame K P)) → RoundOf order m history now table first fs → Each (λ f. (q : K) × Waits f.key f.stage q) fs
  unfolding RoundOf
  round_each first [] r = absurd r
  round_each first (f ∷ []) r = ((first, r), tt)
  round_each first (f ∷ (g ∷ fs)) r = ((g.key, r.0), round_each first (g ∷ fs) r.1)

  pub round_all : (fs : List (Frame K P)) → IsRound order m history now table fs → Each (λ f. (q : K) × Waits f.key f.stage q) fs
  round_all [] r = absurd r
  round_all (f ∷ fs) r = round_each f.key (f ∷ fs) r.0

  pub round_sits : (first : K) (fs : List (Frame K P)) → RoundOf order m history now table first fs → RingSits order m history now (HasIn table) first (pairs table fs)
  unfolding RoundOf RingSits
  round_sits first [] r = absurd r
  round_sits first (f ∷ []) r = sits_of f.key f.stage first r
  round_sits first (f ∷ (g ∷ fs)) r = (sits_of f.key f.stage g.key r.0, round_sits first (g ∷ fs) r.1)

  pub members_are : (first : K) (fs : List (Frame K P)) (es : List (K × List K)) → RoundOf order m history now table first fs
      → AreMembers order m history now table fs es → es ≡ members first (pairs table fs)
  unfolding RoundOf
  members_are first [] es r a = absurd r
  members_are first (f ∷ []) [] r a = absurd a
  members_are first (f ∷ []) (e ∷ []) r a = ap (λ x. x ∷ []) (a.0 first r)
  members_are first (f ∷ []) (e ∷ (d ∷ es)) r a = absurd a.1
  members_are first (f ∷ (g ∷ fs)) [] r a = absurd a
  members_are first (f ∷ (g ∷ fs)) (e ∷ es) r a =
      ap₂ (λ (x : K × List K) (xs : List (K × List K)). x ∷ xs) (a.0 g.key r.0) (members_are first (g ∷ fs) es r.1 a.1)

  pub keys_of_pairs : (fs : List (Frame K P)) → ring_keys (pairs table fs) ≡ frame_keys fs
  keys_of_pairs [] = refl
  keys_of_pairs (f ∷ fs) = ap (λ ks. f.key ∷ ks) (keys_of_pairs fs)

  pub keys_of_members : (first : K) (es : List (K × List K)) → ring_keys (members first es) ≡ ring_keys es
  keys_of_members first [] = refl
  keys_of_members first (e ∷ []) = refl
  keys_of_members first (e ∷ (d ∷ es)) = ap (λ ks. e.0 ∷ ks) (keys_of_members first (d ∷ es))

  ruled_all : (first : K) (es : List (K × List K)) → RingSits order m history now (HasIn table) first es → Each (λ e. 0 < m.level e.0) (members first es)
  unfolding RingSits
  ruled_all first [] r = absurd r
  ruled_all first (e ∷ []) r = (r.1.ruled, tt)
  ruled_all first (e ∷ (d ∷ es)) r = (r.0.1.ruled, ruled_all first (d ∷ es) r.1)

  some_of : (first : K) (es : List (K × List K)) → RingSits order m history now (HasIn table) first es → 0 < length (members first es)
  unfolding RingSits
  some_of first [] r = absurd r
  some_of first (e ∷ []) r = omega arith
  some_of first (e ∷ (d ∷ es)) r = omega arith

  -- what `publish_ring` requires of the members
  pub record Closed (es : List (K × List K)) (fs : List (Frame K P)) : Type 0 where
    pub some : 0 < length es
    pub ruled : Each (λ e. 0 < m.level e.0) es
    pub reads : Each (λ e. HasReads (at order m history now) e.0 (Cycle (ring_keys es)) e.1) es
    pub fresh : Each (λ e. Each (IsUpToDate m now (HasIn table)) (fronts e.1)) es
    pub keys : ring_keys es ≡ frame_keys fs

  module _ (strict : Strict order) (no_higher : (k q : K) (p : P) → ComesTo (at order m history now) k (Ask q p) → m.level q ≤ m.level k) where
    pub round_closed : (fs : List (Frame K P)) (es : List (K × List K)) → IsRound order m history now table fs → AreMembers order m history now table fs es → Closed es fs
    round_closed [] es r a = absurd r
    round_closed (f ∷ fs) es r a =
        let sits = round_sits f.key (f ∷ fs) r.0 in
        let less : Each (λ x. order f.key x ≡ Less) (ring_keys (pairs table fs)) = subst (λ (ks : List K). Each (λ x. order f.key x ≡ Less) ks) (sym (keys_of_pairs fs)) r.1 in
        let front : List K = front_of table f.key f.stage in
        let closed : Closed (members f.key (pairs table (f ∷ fs))) (f ∷ fs) = record {
          some = some_of f.key (pairs table (f ∷ fs)) sits;
          ruled = ruled_all f.key (pairs table (f ∷ fs)) sits;
          reads = ring_closed order strict m history now (HasIn table) no_higher f.key front (pairs table fs) sits less;
          fresh = ring_fresh order strict m history now (HasIn table) no_higher f.key f.key front (pairs table fs) sits;
          keys = keys_of_members f.key (pairs table (f ∷ fs)) ∙ keys_of_pairs (f ∷ fs);
        } in
        subst (λ (l : List (K × List K)). Closed l (f ∷ fs)) (sym (members_are f.key (f ∷ fs) es r.0 a)) closed
