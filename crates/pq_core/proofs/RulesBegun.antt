-- The rules that a run has begun, after a step of the run.
--
-- A frame stays below the top as it is, and comes up as it is. A step of the top frame keeps its stage
-- walking or waiting, starts its rule where it walked, or brings its key up to date.
use Rattle.std.proofs.Common.{◌≡◌, ℕ, ◌⊎◌, List, [], ◌∷◌, ◌++◌, Option, Some, None, Result, Ok, Err, refl, sym, ◌∙◌, ap, subst, inl, inr}
use Rattle.std.specs.Prelude.{IfOk}
use Rattle.std.specs.declared.cmp.Ordering.{Ordering}
use Rattle.pq_rules.specs.Turns.{Machine}
use Rattle.pq_rules.specs.Relations.{In}
use Rattle.pq_rules.specs.aux.Lists.{in_append, in_append_left, in_append_right}
use Rattle.pq_memo.specs.declared.stepping.frame.Frame.{Frame}
use Rattle.pq_memo.specs.declared.stepping.frame.Stage.{Stage}
use Rattle.pq_memo.specs.declared.stepping.frame.Stage.TheVariants.{Walking, Waiting}
use Rattle.pq_memo.specs.declared.table.look.Why.{Why}
use Rattle.pq_memo.specs.Sound.{Memo}
use Rattle.pq_memo.specs.Look.{IsUpToDate}
use Rattle.pq_memo.specs.Table.{HasIn}
use Rattle.pq_memo.specs.Steps.{IsWalking, StaysAt}
use Rattle.pq_memo.specs.Frames.{IsSameStage, frame_keys}
use Rattle.pq_memo.specs.aux.Demand.{Wrote}
use Rattle.pq_claims.specs.Claims.{Hold}
use Rattle.pq_core.specs.Ledger.{Out}
use Rattle.pq_core.specs.Works.{WorkView}
use Rattle.pq_core.specs.declared.runs.frames.Pending.{Pending}
use Rattle.pq_core.specs.declared.runs.frames.Top.{Top}
use Rattle.pq_core.specs.declared.runs.frames.Top.TheVariants.{Empty, At, Away}
use Rattle.pq_core.specs.declared.runs.frames.Looked.{Looked}
use Rattle.pq_core.specs.declared.runs.frames.Looked.TheVariants.{Carry, Stepped, Blocked, Ring}
use Rattle.pq_core.specs.aux.Runs.{Enters, IsLowered, out_at, top_keys}
use Rattle.pq_core.specs.aux.Rings.{IsFrameOf}
use Rattle.pq_core.specs.aux.Begun.{IsBegun, IsFirst, KeepsBegun, LooksFirst}
use Rattle.pq_core.proofs.Lists.{some_one}
use Rattle.pq_core.proofs.RingRuns.{in_key}

-- ---- one frame is the top, or work is away

module _ {K P : Type 0} where
  at_one : (f g : Frame K P) → At f ≡ At g → g ≡ f
  at_one f g e = cc

  at_away : (f : Frame K P) (p : Pending K) → At f ≡ Away p → ⊥
  at_away f p e = cc

  away_at : (t : Top K P) (p : Pending K) (f : Frame K P) → t ≡ Away p → t ≡ At f → ⊥
  away_at t p f a b = cc

  away_one : (t : Top K P) (p q : Pending K) → t ≡ Away p → t ≡ Away q → q ≡ p
  away_one t p q a b = cc

  empty_at : (t : Top K P) (f : Frame K P) → t ≡ Empty → t ≡ At f → ⊥
  empty_at t f a b = cc

  empty_away : (t : Top K P) (p : Pending K) → t ≡ Empty → t ≡ Away p → ⊥
  empty_away t p a b = cc

  -- a rule that was begun by a run whose top is a frame: by a frame below, or by the top
  of_at : (stack : List (Frame K P)) (top : Frame K P) (k : K) → IsBegun stack (At top) k
      → ((f : Frame K P) × In f stack × (IsWalking f.stage → ⊥) × (f.key ≡ k)) ⊎ ((IsWalking top.stage → ⊥) × (top.key ≡ k))
  of_at stack top k (inl b) = elim b.1 [
    | inl i ↦ inl (b.0, i, b.2, b.3)
    | inr e ↦ (let is : b.0 ≡ top = at_one top b.0 e in
        inr (subst (λ (f : Frame K P). IsWalking f.stage → ⊥) is b.2, sym (ap (λ (f : Frame K P). f.key) is) ∙ b.3))
  ]
  of_at stack top k (inr b) = absurd (at_away top b.0 b.1)

  -- by a run whose work is away: by a frame below, or by that
  of_away : (stack : List (Frame K P)) (p : Pending K) (k : K) → IsBegun stack (Away p) k
      → ((f : Frame K P) × In f stack × (IsWalking f.stage → ⊥) × (f.key ≡ k)) ⊎ (p.key ≡ k)
  of_away stack p k (inl b) = elim b.1 [
    | inl i ↦ inl (b.0, i, b.2, b.3)
    | inr e ↦ absurd (away_at (Away p) p b.0 refl e)
  ]
  of_away stack p k (inr b) = inr (sym (ap (λ (q : Pending K). q.key) (away_one (Away p) p b.0 refl b.1)) ∙ b.2)

  -- by a run whose top has a key: by a frame below, or by the top
  of_top : (stack : List (Frame K P)) (top : Top K P) (key k : K) → top_keys top ≡ key ∷ [] → IsBegun stack top k
      → ((f : Frame K P) × In f stack × (IsWalking f.stage → ⊥) × (f.key ≡ k)) ⊎ (key ≡ k)
  of_top stack Empty key k e b = absurd (cc)
  of_top stack (At f) key k e b = elim (of_at stack f k b) [ inl c ↦ inl c | inr c ↦ inr (let same : f.key ≡ key = cc in sym same ∙ c.1) ]
  of_top stack (Away p) key k e b = elim (of_away stack p k b) [ inl c ↦ inl c | inr c ↦ inr (let same : p.key ≡ key = cc in sym same ∙ c) ]

  -- a run without frames has begun no rule
  pub none_begun : (stack : List (Frame K P)) (top : Top K P) → stack ≡ [] → top ≡ Empty → (k : K) → IsBegun stack top k → ⊥
  none_begun stack top bare empty k (inl b) = elim b.1 [
    | inl i ↦ subst (λ (l : List (Frame K P)). In b.0 l) bare i
    | inr e ↦ empty_at top b.0 empty e
  ]
  none_begun stack top bare empty k (inr b) = empty_away top b.0 empty b.1

  -- ---- frames come up

  -- the last frame is the top: each is a frame of the run still
  pub lowered_frame : (before after : List (Frame K P)) (top : Top K P) → IsLowered before after top → (f : Frame K P) → In f before → IsFrameOf after top f
  lowered_frame before after Empty low f i = absurd (subst (λ (l : List (Frame K P)). In f l) low.0 i)
  lowered_frame before after (At g) low f i = elim (in_append f after (g ∷ []) (subst (λ (l : List (Frame K P)). In f l) low i)) [
    | inl j ↦ inl j
    | inr (inl e) ↦ inr (ap (λ (x : Frame K P). At x) (sym e))
    | inr (inr n) ↦ absurd n
  ]
  lowered_frame before after (Away p) low f i = absurd low

  pub lowered_begun : (before after : List (Frame K P)) (top : Top K P) → IsLowered before after top → (k : K)
      → (f : Frame K P) × In f before × (IsWalking f.stage → ⊥) × (f.key ≡ k) → IsBegun after top k
  lowered_begun before after top low k b = inl (b.0, lowered_frame before after top low b.0 b.1, b.2, b.3)

  -- ---- the top frame is another, of the same key

  stays : (a b : Stage K P) → StaysAt a b → IsWalking b → IsWalking a
  stays (Walking i) (Walking j) s w = tt
  stays (Walking i) (Waiting part asked reads) s w = absurd s
  stays (Waiting part asked reads) (Walking j) s w = absurd s
  stays (Waiting part asked reads) (Waiting other question front) s w = w

  same : (a b : Stage K P) → IsSameStage b a → IsWalking b → IsWalking a
  same (Walking i) (Walking j) s w = tt
  same (Walking i) (Waiting part asked reads) s w = absurd s
  same (Waiting part asked reads) (Walking j) s w = absurd s
  same (Waiting part asked reads) (Waiting other question front) s w = w

  top_begun : (stack : List (Frame K P)) (f g : Frame K P) → g.key ≡ f.key → (IsWalking g.stage → IsWalking f.stage) → (k : K) → IsBegun stack (At f) k → IsBegun stack (At g) k
  top_begun stack f g key walks k b = elim (of_at stack f k b) [
    | inl c ↦ inl (c.0, inl c.1, c.2, c.3)
    | inr c ↦ inl (g, inr refl, λ w. c.0 (walks w), key ∙ c.1)
  ]

  -- the frame that needs a key, after a step
  pub needs_begun : (stack : List (Frame K P)) (f g : Frame K P) → g.key ≡ f.key → StaysAt f.stage g.stage → (k : K) → IsBegun stack (At f) k → IsBegun stack (At g) k
  needs_begun stack f g key at k b = top_begun stack f g key (stays f.stage g.stage at) k b

  -- the frame that came back
  pub back_begun : (stack : List (Frame K P)) (f g : Frame K P) → g.key ≡ f.key → IsSameStage g.stage f.stage → (k : K) → IsBegun stack (At f) k → IsBegun stack (At g) k
  back_begun stack f g key at k b = top_begun stack f g key (same f.stage g.stage at) k b

  -- the work of its rule was handed out
  pub away_begun : (stack left : List (Frame K P)) (f : Frame K P) (top : Top K P) (key : K) → left ≡ stack → (p : Pending K) × (top ≡ Away p) × (p.key ≡ key) → key ≡ f.key
      → (k : K) → IsBegun stack (At f) k → IsBegun left top k
  away_begun stack left f top key is away e k b = elim (of_at stack f k b) [
    | inl c ↦ inl (c.0, inl (subst (λ (l : List (Frame K P)). In c.0 l) (sym is) c.1), c.2, c.3)
    | inr c ↦ inr (away.0, away.1, away.2 ∙ (e ∙ c.1))
  ]

  -- its rule was started: it walked, and no frame below it is of its key
  pub walked_first : (stack : List (Frame K P)) (f : Frame K P) (k : K) (why : Option (Why K)) → IsWalking f.stage → (In f.key (frame_keys stack) → ⊥) → k ≡ f.key → IsFirst stack (At f) k why
  walked_first stack f k None walks apart e = tt
  walked_first stack f k (Some why) walks apart e = λ b. elim (of_at stack f k b) [
    | inl c ↦ apart (subst (λ (q : K). In q (frame_keys stack)) (c.3 ∙ e) (in_key stack c.0 c.1))
    | inr c ↦ c.0 walks
  ]

  -- its rule goes on
  pub going_first : (stack : List (Frame K P)) (top : Top K P) (k : K) (why : Option (Why K)) → why ≡ None → IsFirst stack top k why
  going_first stack top k why none = subst (λ (w : Option (Why K)). IsFirst stack top k w) (sym none) tt

  -- a run without frames
  pub empty_first : (stack : List (Frame K P)) (top : Top K P) → stack ≡ [] → top ≡ Empty → (k : K) (why : Option (Why K)) → IsFirst stack top k why
  empty_first stack top bare empty k None = tt
  empty_first stack top bare empty k (Some why) = λ b. none_begun stack top bare empty k b

  pub none_looks : {R V E : Type 0} (stack : List (Frame K P)) (top : Top K P) → stack ≡ [] → top ≡ Empty → (answer : Result (Looked (WorkView R K P V) K) E)
      → IfOk answer (λ l. LooksFirst stack top l)
  none_looks stack top bare empty (Ok (Carry work)) = empty_first stack top bare empty work.done.key work.why
  none_looks stack top bare empty (Ok Stepped) = tt
  none_looks stack top bare empty (Ok (Blocked other)) = tt
  none_looks stack top bare empty (Ok (Ring ring)) = tt
  none_looks stack top bare empty (Err failure) = tt

  -- the key of the work that is out
  pub out_key : (top : Top K P) (key : K) (out : Out K) → (p : Pending K) × (top ≡ Away p) × (p.key ≡ key) → out_at top ≡ Some out → out.key ≡ key
  out_key top key out away is =
      sym (ap (λ (o : Out K). o.key) (some_one _ out (sym (ap (λ (t : Top K P). out_at t) away.1) ∙ is))) ∙ away.2

  -- ---- a key is entered

  pushed : (stack : List (Frame K P)) (f : Frame K P) (k : K) → IsBegun stack (At f) k → (g : Frame K P) × In g (stack ++ f ∷ []) × (IsWalking g.stage → ⊥) × (g.key ≡ k)
  pushed stack f k b = elim (of_at stack f k b) [
    | inl c ↦ (c.0, in_append_left c.0 stack (f ∷ []) c.1, c.2, c.3)
    | inr c ↦ (f, in_append_right f stack (f ∷ []) (inl refl), c.0, c.1)
  ]

  pub entered_begun : {W E : Type 0} (order : K → K → Ordering) (claims : List (ℕ × Hold K)) (run : ℕ) (next : K) (answer : Result (Looked W K) E) (stack : List (Frame K P)) (f : Frame K P)
      (after : List (Frame K P)) (top : Top K P) → Enters order claims run next answer (stack ++ f ∷ []) after top → (k : K) → IsBegun stack (At f) k → IsBegun after top k
  entered_begun order claims run next (Ok (Carry work)) stack f after top e k b = absurd e
  entered_begun order claims run next (Ok Stepped) stack f after top e k b =
      let p = pushed stack f k b in inl (p.0, inl (subst (λ (l : List (Frame K P)). In p.0 l) (sym e.0) p.1), p.2, p.3)
  entered_begun order claims run next (Ok (Blocked other)) stack f after top e k b = lowered_begun (stack ++ f ∷ []) after top e.0 k (pushed stack f k b)
  entered_begun order claims run next (Ok (Ring ring)) stack f after top e k b = lowered_begun (stack ++ f ∷ []) after top e.0 k (pushed stack f k b)
  entered_begun order claims run next (Err failure) stack f after top e k b = lowered_begun (stack ++ f ∷ []) after top e.0 k (pushed stack f k b)

-- ---- the top leaves

module _ {K P V : Type 0} (m : Machine K P V) (now : ℕ) (before after : K → Option (Memo K V)) where
  -- the key of the top was written
  pub written_up : (k : K) → Wrote now before after (k ∷ []) → IsUpToDate m now (HasIn after) k
  written_up k wrote = let n = wrote.news k (inl refl) in inr (n.0, n.1, n.2)

  -- the top left
  pub left_begun : (stack rest : List (Frame K P)) (old top : Top K P) (key : K) → top_keys old ≡ key ∷ [] → IsLowered stack rest top → Wrote now before after (key ∷ [])
      → KeepsBegun m now after stack old rest top
  left_begun stack rest old top key mine low wrote k b = elim (of_top stack old key k mine b) [
    | inl c ↦ inl (lowered_begun stack rest top low k c)
    | inr e ↦ inr (subst (λ (q : K). IsUpToDate m now (HasIn after) q) e (written_up key wrote))
  ]

-- work that was away came back with a question, or its result could not be taken
pub asked_begun : {K P : Type 0} (stack : List (Frame K P)) (p : Pending K) (f : Frame K P) → (IsWalking f.stage → ⊥) → f.key ≡ p.key → (k : K) → IsBegun stack (Away p) k → IsBegun stack (At f) k
asked_begun stack p f waits key k b = elim (of_away stack p k b) [
  | inl c ↦ inl (c.0, inl c.1, c.2, c.3)
  | inr c ↦ inl (f, inr refl, waits, key ∙ c)
]

pub refused_begun : {K P : Type 0} (stack : List (Frame K P)) (p q : Pending K) → q.key ≡ p.key → (k : K) → IsBegun stack (Away p) k → IsBegun stack (Away q) k
refused_begun stack p q key k b = elim (of_away stack p k b) [
  | inl c ↦ inl (c.0, inl c.1, c.2, c.3)
  | inr c ↦ inr (q, refl, key ∙ c)
]
