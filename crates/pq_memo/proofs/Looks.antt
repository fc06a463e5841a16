-- What a look tells is true: green is right now, a rule that has to run has a cause, and a walk
-- goes to a key that is asked now.
use Rattle.std.proofs.Common.{◌≡◌, ℕ, ◌+◌, ◌-◌, ◌⊎◌, ◌<◌, ◌≤◌, List, [], ◌∷◌, ◌++◌, length, slice_get, Option, Some, None, refl, sym, ◌∙◌, ap, ap₂, subst, inl, inr, arith, true≢false}
use Rattle.std.specs.Str.{bytes_eq}
use Rattle.std.proofs.lemmas.Option.{none-some, same_Some, slice_get-get_or}
use Rattle.std.proofs.lemmas.Slice.Eq.{bytes_eq-Decides}
use Rattle.std.specs.declared.cmp.Ordering.{Ordering}
use Rattle.pq_inputs.specs.declared.durability.Durability.{Durability}
use Rattle.pq_inputs.specs.declared.durability.Durability.TheVariants.{Low, Medium, High}
use Rattle.pq_inputs.specs.Sources.{File, Sources, file_in}
use Rattle.pq_inputs.proofs.FileTests.{cases_bool}
use Rattle.pq_inputs.proofs.Histories.{last_change_within}
use Rattle.pq_rules.specs.declared.turn.Turn.{Turn}
use Rattle.pq_rules.specs.declared.turn.Turn.TheVariants.{Ask, Done}
use Rattle.pq_rules.specs.declared.turn.Answer.{Answer}
use Rattle.pq_rules.specs.declared.turn.Answer.TheVariants.{Value, Cycle}
use Rattle.pq_rules.specs.Turns.{Instance, Machine}
use Rattle.pq_rules.specs.Relations.{Each, In}
use Rattle.pq_rules.specs.Value.{Means, Trace, Follows, RightRead, ComesBy}
use Rattle.pq_rules.proofs.Rings.{Strict, each_in}
use Rattle.pq_rules.specs.aux.Lists.{in_append_left, in_append_right}
use Rattle.pq_rules.proofs.ListLemmas.{each_from}
use Rattle.pq_memo.specs.declared.table.look.Why.TheVariants.{Fresh, Changed, Ring}
use Rattle.pq_memo.specs.Sound.{Memo, sources_at, at, file_at, asked_keys, HasReads}
use Rattle.pq_memo.specs.Kept.{Differs, Kept}
use Rattle.pq_memo.specs.Look.{FileChanged, HasChanged, IsStill, IsGreen, HasChangedRead, IsFresh, IsLapsedRing}
use Rattle.pq_memo.specs.Cause.{IsSame, FirstChanged, IsCause}
use Rattle.pq_memo.specs.Table.{HasIn}
use Rattle.pq_memo.proofs.Runs.{Both, still_right, same_run, reads_mean, reads_still}
use Rattle.pq_memo.proofs.Marks as marks
use Rattle.pq_memo.proofs.Marks.{lasts_quiet}
use Rattle.pq_memo.proofs.Makes as makes

-- a run up to one of its questions
pub record Front {K P V : Type 0} (s : Instance K P V) (l : ℕ) (t : Turn K P V) (front : List K) (q : K) : Type 0 where
  pub run : Trace K V
  pub part : P
  pub follows : Follows s t run (Ask q part)
  pub told : Each (RightRead s l) run
  pub keys : asked_keys run ≡ front

front_of : {K P V : Type 0} (s : Instance K P V) (l : ℕ) (t : Turn K P V) (es : Trace K V) (u : Turn K P V) (front : List K) (q : K) (back : List K)
    → Follows s t es u → Each (RightRead s l) es → asked_keys es ≡ front ++ q ∷ back → Front s l t front q
unfolding Follows
front_of s l t [] u [] q back f told e = cc
front_of s l t [] u (x ∷ xs) q back f told e = cc
front_of {K} {P} {V} s l t (d ∷ es) u [] q back f told e =
    let same : d.0 ≡ q = cc in
    record { run = []; part = f.0; follows = f.1 ∙ ap (λ (k : K). Ask k f.0) same; told = tt; keys = refl }
front_of s l t (d ∷ es) u (x ∷ xs) q back f told e =
    let head : d.0 ≡ x = cc in
    let tail : asked_keys es ≡ xs ++ q ∷ back = cc in
    let r = front_of s l (s.advance f.0 d.1) es u xs q back f.2 told.1 tail in
    let keys : asked_keys r.run ≡ xs = r.keys in
    record { run = d ∷ r.run; part = r.part; follows = (f.0, f.1, r.follows); told = (told.0, r.told); keys = cc }

-- of a list with one more at its end, a member is that last one, or is before it
at_end : {K : Type 0} (es front : List K) (r q : K) (back : List K) → es ++ r ∷ [] ≡ front ++ q ∷ back
    → ((front ≡ es) × (q ≡ r)) ⊎ ((rest : List K) × (es ≡ front ++ q ∷ rest))
at_end [] [] r q back e = inl (refl, (cc))
at_end [] (x ∷ []) r q back e = cc
at_end [] (x ∷ (y ∷ ys)) r q back e = cc
at_end (d ∷ es) [] r q back e = let head : d ≡ q = cc in inr (es, (cc))
at_end (d ∷ es) (x ∷ xs) r q back e =
    let head : d ≡ x = cc in
    let tail : es ++ r ∷ [] ≡ xs ++ q ∷ back = cc in
    elim (at_end es xs r q back tail) [
      | inl a ↦ (let same : xs ≡ es = a.0 in inl ((cc), a.1))
      | inr b ↦ (let same : es ≡ xs ++ q ∷ b.0 = b.1 in inr (b.0, (cc)))
    ]

-- the reads of a key, up to one of them
read_front : {K P V : Type 0} (s : Instance K P V) (k : K) (a : Answer K V) (reads front : List K) (q : K) (back : List K)
    → HasReads s k a reads → reads ≡ front ++ q ∷ back → Front s (s.level k) (s.start k) front q
read_front s k (Value v) reads front q back r e = front_of s (s.level k) (s.start k) r.0 (Done v) front q back r.1.follows r.1.told (sym r.2 ∙ e)
read_front {K} s k (Cycle c) reads front q back r e =
    elim (at_end (asked_keys r.0) front r.1 q back (sym r.4 ∙ e)) [
      | inl a ↦ record {
        run = r.0;
        part = r.2;
        follows = subst (λ (x : K). Follows s (s.start k) r.0 (Ask x r.2)) (sym a.1) r.3.follows;
        told = r.3.told;
        keys = sym a.0;
      }
      | inr b ↦ front_of s (s.level k) (s.start k) r.0 (Ask r.1 r.2) front q b.0 r.3.follows r.3.told b.1
    ]

-- two files are one, or they differ
cases_text : (a b : Option (List ℕ)) → (a ≡ b) ⊎ (a ≡ b → ⊥)
cases_text None None = inl refl
cases_text None (Some y) = inr (λ same. none-some y same)
cases_text (Some x) None = inr (λ same. none-some x (sym same))
cases_text (Some x) (Some y) = elim (cases_bool (bytes_eq x y)) [
  | inl same ↦ inl (ap (λ (z : List ℕ). Some z) ((bytes_eq-Decides x y).0 same))
  | inr other ↦ inr (λ same. true≢false (sym ((bytes_eq-Decides x y).1 (same_Some x y same)) ∙ other))
]

cases_durability : (a b : Durability) → (a ≡ b) ⊎ (a ≡ b → ⊥)
cases_durability Low Low = inl refl
cases_durability Medium Medium = inl refl
cases_durability High High = inl refl
cases_durability Low Medium = inr (λ same. (cc))
cases_durability Low High = inr (λ same. (cc))
cases_durability Medium Low = inr (λ same. (cc))
cases_durability Medium High = inr (λ same. (cc))
cases_durability High Low = inr (λ same. (cc))
cases_durability High Medium = inr (λ same. (cc))

cases_file : (a b : File) → (a ≡ b) ⊎ (a ≡ b → ⊥)
cases_file a b = elim (cases_text a.text b.text) [
  | inl text ↦ elim (cases_durability a.durability b.durability) [
    | inl durability ↦ inl (ap₂ make text durability)
    | inr differ ↦ inr (λ same. differ (ap (λ (f : File). f.durability) same))
  ]
  | inr differ ↦ inr (λ same. differ (ap (λ (f : File). f.text) same))
]
  where
    make : Option (List ℕ) → Durability → File
    make t d = record { text = t; durability = d }

module _ {K P V : Type 0} (order : K → K → Ordering) (strict : Strict order) (m : Machine K P V) (history : List Sources) (now : ℕ)
    (counted : length history ≡ now + 1) (table : K → Option (Memo K V)) (kept : Kept order m history now (HasIn table)) where
  abbrev then_ : ℕ → Instance K P V
  then_ = at order m history

  -- a memo that is green is right now
  pub green_right : (k : K) → (green : IsGreen m history now (HasIn table) k) → Means (then_ now) k green.0.answer
  green_right k (memo, inl g) =
      marks.right_at order strict m history now counted (HasIn table) kept k memo g.0.has (lasts_quiet history now memo g.1)
      now (kept.memos k memo g.0.has).in_order.1 (let r : now ≤ now = omega arith in r)
  green_right k (memo, inr g) =
      let o = kept.memos k memo g.0.old.has in
      reads_mean (then_ now) strict k memo.answer memo.reads o.ruled
      (reads_still order m (sources_at history memo.verified) (sources_at history now) strict k memo.answer memo.reads o.reads
      (λ x i. makes.still_both order strict m history now table kept (sources_at history now) counted memo.verified o.in_order.1 k memo g.0.old.has refl x i
      (each_in (IsStill m history now (HasIn table) memo.verified) x memo.reads g.1 i)))

  -- the front of its reads that is up to date and unchanged
  front_both : (k : K) (memo : Memo K V) → HasIn table k memo → (front : List K) (q : K) (back : List K) → memo.reads ≡ front ++ q ∷ back
      → Each (IsStill m history now (HasIn table) memo.verified) front → (x : K) → In x front → Both (then_ memo.verified) (then_ now) x
  front_both k memo has front q back whole still x i =
      makes.still_both order strict m history now table kept (sources_at history now) counted memo.verified (kept.memos k memo has).in_order.1 k memo has refl x
      (subst (λ (ks : List K). In x ks) (sym whole) (in_append_left x front (q ∷ back) i))
      (each_in (IsStill m history now (HasIn table) memo.verified) x front still i)

  -- the key that a walk goes to is asked now, after the reads before it
  pub walk_asked : (k : K) (memo : Memo K V) → HasIn table k memo → (front : List K) (q : K) (back : List K) → memo.reads ≡ front ++ q ∷ back
      → Each (IsStill m history now (HasIn table) memo.verified) front
      → (es : Trace K V) × (p : P) × ComesBy (then_ now) k es (Ask q p) × (asked_keys es ≡ front)
  walk_asked k memo has front q back whole still =
      let o = kept.memos k memo has in
      let f = read_front (then_ memo.verified) k memo.answer memo.reads front q back o.reads whole in
      let both = front_both k memo has front q back whole still in
      let right = still_right (then_ memo.verified) (then_ now) strict (m.level k) f.run f.told
      (λ x i. both x (subst (λ (ks : List K). In x ks) f.keys i)) in (
        f.run,
        f.part,
        same_run order m (sources_at history memo.verified) (sources_at history now) k f.run (Ask q f.part)
            (record { follows = f.follows; told = f.told }) right,
        f.keys,
      )

  -- an input that changed after a revision differs from it in some later one
  input_differs : (q : K) → m.level q ≡ 0 → (file : Option (List ℕ)) → m.file q ≡ file → (since revision : ℕ) → FileChanged history file revision
      → since < revision → revision ≤ now → Differs order m history since now q
  input_differs q low None f since revision changed late within =
      let none : revision ≡ 0 = changed in absurd (omega arith)
  input_differs q low (Some name) f since revision last late within =
      let before : ℕ = revision - 1 in
      let change = last.happened before (let b : before ≡ revision - 1 = refl in omega arith) in
      let here : slice_get history before ≡ Some (sources_at history before) = slice_get-get_or history before [] (let b : before ≡ revision - 1 = refl in omega arith) in
      let there : slice_get history (before + 1) ≡ Some (sources_at history (before + 1)) =
      slice_get-get_or history (before + 1) [] (let b : before ≡ revision - 1 = refl in omega arith) in
      let was : change.before ≡ sources_at history before = same_Some change.before (sources_at history before) (sym change.was ∙ here) in
      let is : change.after ≡ sources_at history (before + 1) = same_Some change.after (sources_at history (before + 1)) (sym change.is ∙ there) in
      let differs : file_in (sources_at history before) name ≡ file_in (sources_at history (before + 1)) name → ⊥ =
      λ same. change.differs (ap (λ (s : Sources). file_in s name) was ∙ same ∙ ap (λ (s : Sources). file_in s name) (sym is)) in
      let b : before ≡ revision - 1 = refl in
      elim (cases_file (file_in (sources_at history since) name) (file_in (sources_at history (before + 1)) name)) [
        | inr other ↦ record {
          revision = before + 1;
          after = omega arith;
          within = omega arith;
          differs = inr (low, subst (λ (g : Option (List ℕ)). file_at (sources_at history since) g ≡ file_at (sources_at history (before + 1)) g → ⊥) (sym f) other);
        }
        | inl same ↦ elim (makes.either_lt since before) [
          | inl lt ↦ record {
            revision = before;
            after = lt;
            within = omega arith;
            differs = inr (
              low,
              subst (λ (g : Option (List ℕ)). file_at (sources_at history since) g ≡ file_at (sources_at history before) g → ⊥) (sym f)
                  (λ equal. differs (sym equal ∙ same)),
            );
          }
          | inr le ↦ (let one : since ≡ before = omega arith in
              absurd (differs (ap (λ (r : ℕ). file_in (sources_at history r) name) (sym one) ∙ same)))
        ]
      ]

  read_differs : (k : K) (memo : Memo K V) → HasIn table k memo → (q : K) → In q memo.reads → (revision : ℕ)
      → HasChanged m history (HasIn table) q revision → revision ≤ now → memo.verified < revision → Differs order m history memo.verified now q
  read_differs k memo has q i revision (inl c) within late = input_differs q c.0 (m.file q) refl memo.verified revision c.1 late within
  read_differs k memo has q i revision (inr c) within late =
      let e : c.0.changed ≡ revision = c.2 in
      (kept.memos k memo has).witnessed q c.0 i c.1 (omega arith)

  pub first_changed : (k : K) → (changed : K) → (c : HasChangedRead m history now (HasIn table) k changed)
      → ((revision : ℕ) → HasChanged m history (HasIn table) changed revision → revision ≤ now)
      → FirstChanged order m history now c.0 changed
  first_changed k q (memo, by, reached, up, late) within =
      record {
        front = reached.front;
        back = reached.back;
        whole = reached.whole;
        same = each_from (IsSame order m history memo.verified now) reached.front
            (λ x i. let b = front_both k memo by.old.has reached.front q reached.back reached.whole reached.still x i in
            record { answer = b.0; then_ = b.1; now_ = b.2 });
        differs = read_differs k memo by.old.has q
            (subst (λ (ks : List K). In q ks) (sym reached.whole) (in_append_right q reached.front (q ∷ reached.back) (inl refl)))
            late.0 late.1 (within late.0 late.1) late.2;
      }

  -- a rule that has to run has a cause
  pub fresh_cause : (k : K) → IsFresh m (HasIn table) k → IsCause order m history now (HasIn table) k Fresh
  fresh_cause k f = f.1

  pub changed_cause : (k q : K) → HasChangedRead m history now (HasIn table) k q
      → ((revision : ℕ) → HasChanged m history (HasIn table) q revision → revision ≤ now)
      → IsCause order m history now (HasIn table) k (Changed q)
  changed_cause k q c within = (c.0, c.1.old.has, first_changed k q c within)

  pub ring_cause : (k : K) → IsLapsedRing history now (HasIn table) k → IsCause order m history now (HasIn table) k Ring
  ring_cause k r = (r.0, r.1.has, r.3, r.2)

  changed_file : (file : Option (List ℕ)) (revision : ℕ) → FileChanged history file revision → revision ≤ now
  changed_file None revision none = let e : revision ≡ 0 = none in omega arith
  changed_file (Some name) revision last = last_change_within history now name revision counted last

  -- nothing changed after now
  pub changed_within : (q : K) (revision : ℕ) → HasChanged m history (HasIn table) q revision → revision ≤ now
  changed_within q revision (inl c) = changed_file (m.file q) revision c.1
  changed_within q revision (inr c) =
      let o = (kept.memos q c.0 c.1).in_order in
      let a : c.0.changed ≤ c.0.verified = o.0 in
      let b : c.0.verified ≤ now = o.1 in
      let e : c.0.changed ≡ revision = c.2 in
      omega arith
