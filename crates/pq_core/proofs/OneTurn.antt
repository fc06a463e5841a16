-- A rule comes to one turn by equally many right reads.
use Rattle.std.proofs.Common.{◌≡◌, ℕ, suc, List, [], ◌∷◌, length, slice_get, Option, Some, refl, sym, ◌∙◌, ap, subst, inl, inr, arith}
use Rattle.std.specs.declared.cmp.Ordering.{Ordering}
use Rattle.pq_inputs.specs.Sources.{Sources, Table}
use Rattle.pq_rules.specs.declared.turn.Turn.{Turn}
use Rattle.pq_rules.specs.declared.turn.Turn.TheVariants.{Ask}
use Rattle.pq_rules.specs.Turns.{Instance, Machine, over}
use Rattle.pq_rules.specs.Relations.{Each}
use Rattle.pq_rules.specs.Value.{Trace, Follows, Means, RightRead, ComesBy}
use Rattle.pq_rules.proofs.Rings.{Strict}
use Rattle.pq_rules.proofs.Uniqueness.{means_one}
use Rattle.pq_memo.specs.Sound.{Memo, at, asked_keys}
use Rattle.pq_memo.specs.Table.{HasIn}
use Rattle.pq_memo.specs.Frames.{Came}
use Rattle.pq_memo.proofs.Reading.{now_files}
use Rattle.pq_memo.specs.Look.{IsUpToDate}
use Rattle.pq_core.specs.declared.runs.frames.Pending.{Pending}
use Rattle.pq_core.specs.Works.{DoneView, IsDue}
use Rattle.pq_core.specs.aux.Runs.{CanTake}

asked_long : {K V : Type 0} (es : Trace K V) → length (asked_keys es) ≡ length es
asked_long [] = refl
asked_long (e ∷ es) = ap (λ n. suc n) (asked_long es)

module _ {K P V : Type 0} (s : Instance K P V) (strict : Strict s.order) where
  follows_one : (l : ℕ) (es fs : Trace K V) (t u v w : Turn K P V) → t ≡ u → Follows s t es v → Follows s u fs w
      → Each (RightRead s l) es → Each (RightRead s l) fs → length es ≡ length fs → v ≡ w
  unfolding Follows
  follows_one l [] [] t u v w e f g a b n = sym f ∙ e ∙ g
  follows_one l [] (y ∷ ys) t u v w e f g a b n = absurd (omega arith)
  follows_one l (x ∷ xs) [] t u v w e f g a b n = absurd (omega arith)
  follows_one l (x ∷ xs) (y ∷ ys) t u v w e f g a b n =
      let left : Turn K P V = Ask x.0 f.0 in
      let right : Turn K P V = Ask y.0 g.0 in
      let same : left ≡ right = sym f.1 ∙ e ∙ g.1 in
      let key : x.0 ≡ y.0 = cc in
      let part : f.0 ≡ g.0 = cc in
      let there : Means s x.0 y.1 = subst (λ (k : K). Means s k y.1) (sym key) b.0.means in
      let answer : x.1 ≡ y.1 = means_one s strict x.0 x.1 y.1 a.0.means there in
      let on : s.advance f.0 x.1 ≡ s.advance g.0 y.1 = cc in
      follows_one l xs ys (s.advance f.0 x.1) (s.advance g.0 y.1) v w on f.2 g.2 a.1 b.1 (omega arith)

  pub one_comes : (k : K) (es fs : Trace K V) (v w : Turn K P V) → ComesBy s k es v → ComesBy s k fs w → length es ≡ length fs → v ≡ w
  one_comes k es fs v w a b n = follows_one (s.level k) es fs (s.start k) (s.start k) v w refl a.follows b.follows a.told b.told n

module _ {K P V : Type 0} (order : K → K → Ordering) (strict : Strict order) (m : Machine K P V) (inputs : Table)
    (latest : slice_get inputs.history inputs.revision ≡ Some inputs.files) (table : K → Option (Memo K V)) where
  -- the turn of the work's result is the one to which the rule of the run's key came
  came_to : (k q : K) (turn other : Turn K P V) (reads front : List K) (files : Sources) → k ≡ q → files ≡ inputs.files → length reads ≡ length front
      → Came order m inputs.history inputs.revision (HasIn table) k turn reads → IsDue order m files q front other
      → Came order m inputs.history inputs.revision (HasIn table) k other reads
  came_to k q turn other reads front files key same long came due =
      subst (λ (t : Turn K P V). Came order m inputs.history inputs.revision (HasIn table) k t reads) turns came
    where
      here : ComesBy (at order m inputs.history inputs.revision) k due.run other
      here = subst (λ (f : Sources). ComesBy (over order m f) k due.run other) (same ∙ sym (now_files inputs.history inputs.revision inputs.files latest))
          (subst (λ (x : K). ComesBy (over order m files) x due.run other) (sym key) due.comes)

      counts : length came.run ≡ length due.run
      counts = sym (asked_long came.run) ∙ ap (λ (ks : List K). length ks) came.reads ∙ long ∙ ap (λ (ks : List K). length ks) (sym due.reads) ∙ asked_long due.run

      turns : turn ≡ other
      turns = one_comes (at order m inputs.history inputs.revision) strict k came.run due.run turn other came.comes here counts

-- so it is where the key of the run's work is not up to date, by the view of the result
pub took : {R K P V : Type 0} (order : K → K → Ordering) → Strict order → (machine : R → Machine K P V) (inputs : Table) → slice_get inputs.history inputs.revision ≡ Some inputs.files
    → (table : K → Option (Memo K V)) (rules : R) (p : Pending K) (inside done : DoneView R K P V) (turn : Turn K P V) → inside ≡ done → inside.turn ≡ turn
    → IsDue order (machine inside.rules) inside.files inside.key inside.front inside.turn → done.rules ≡ rules → done.files ≡ inputs.files → p.key ≡ done.key
    → length p.reads.items ≡ length done.front → (IsUpToDate (machine rules) inputs.revision (HasIn table) p.key → ⊥) → CanTake order (machine rules) inputs table p
    → Came order (machine rules) inputs.history inputs.revision (HasIn table) p.key turn p.reads.items
took {R} {K} {P} {V} order strict machine inputs latest table rules p inside done turn viewed comes due same files key long stale can =
    subst (λ (t : Turn K P V). Came order (machine rules) inputs.history inputs.revision (HasIn table) p.key t p.reads.items) (sym (ap (λ (v : DoneView R K P V). v.turn) viewed) ∙ comes)
    (elim can [
      | inl up ↦ absurd (stale up)
      | inr came ↦ came_to order strict (machine rules) inputs latest table p.key done.key came.0 done.turn p.reads.items done.front done.files key files long came.1 mine
    ])
  where
    mine : IsDue order (machine rules) done.files done.key done.front done.turn
    mine = subst (λ (r : R). IsDue order (machine r) done.files done.key done.front done.turn) same
        (subst (λ (v : DoneView R K P V). IsDue order (machine v.rules) v.files v.key v.front v.turn) viewed due)
