-- Auxiliary: the example keeps the laws of a rule set, by the laws of its queries (used by proofs
-- and invariants only).
use Rattle.std.proofs.Common.{ℕ, ◌≡◌, ◌+◌, ◌≤◌, List, [], ◌∷◌, ◌++◌, min, map, unwrap_or, refl, sym, ap, subst, ◌∙◌, inl, inr, arith}
use Rattle.std.proofs.lemmas.Bool.{cases_Bool}
use Rattle.std.specs.Str.{bytes_eq}
use Rattle.std.specs.declared.cmp.Ordering.{Ordering}
use Rattle.std.specs.declared.cmp.Ordering.TheVariants.{Equal}
use Rattle.pq_inputs.specs.Sources.{Sources, file_in}
use Rattle.pq_rules.specs.Laws.{Laws}
use Rattle.pq_rules.specs.declared.turn.Turn.{Turn}
use Rattle.pq_rules.specs.declared.turn.Turn.TheVariants.{Ask, Done}
use Rattle.pq_rules.specs.declared.turn.Answer.{Answer}
use Rattle.pq_rules.specs.declared.turn.Answer.TheVariants.{Value}
use Rattle.pq_rules.specs.declared.sums.queries.SumPart.{SumPart}
use Rattle.pq_rules.specs.declared.sums.queries.SumPart.TheVariants.{Read, Add}
use Rattle.pq_rules.specs.declared.sums.SumsKey.{SumsKey}
use Rattle.pq_rules.specs.declared.sums.SumsKey.TheVariants.{Input, Sum, Total}
use Rattle.pq_rules.specs.declared.sums.SumsValue.{SumsValue}
use Rattle.pq_rules.specs.declared.sums.SumsPart.{SumsPart}
use Rattle.pq_rules.specs.declared.sums.SumsPart.TheVariants.{Adding, Taking}
use Rattle.pq_rules.specs.Turns.{Instance, over, IsLower}
use Rattle.pq_rules.specs.Relations.{In}
use Rattle.pq_rules.specs.Value.{Means, RightRead, ComesTo}
use Rattle.pq_rules.specs.sums.Names.{names_of}
use Rattle.pq_rules.specs.sums.Queries.{sum_level, sum_advances, sum_left, add_next, total_advances, largest_sum}
use Rattle.pq_rules.specs.aux.sums.Falls.{next_is, sum_falls}
use Rattle.pq_rules.specs.sums.RuleSet.{text_read, number_read, sum_turn, total_turn, sums, sums_level, sums_advance, sums_left, sums_reach, all_names, own_name}
use Rattle.pq_rules.specs.aux.Runs.{along, input_means}
use Rattle.pq_rules.specs.aux.Lists.{in_append, in_append_left, in_append_right}

-- a turn of the sum of queries that asks is a query's turn that asks
asks_sum : (t : Turn SumsKey SumPart ℕ) (q : SumsKey) (p : SumsPart) → sum_turn t ≡ Ask q p
    → (r : SumPart) × (t ≡ Ask q r) × (p ≡ Adding r)
asks_sum (Ask k r) q p e = let key : k ≡ q = cc in let part : p ≡ Adding r = cc in (r, ap (λ (x : SumsKey). Ask x r) key, part)
asks_sum (Done n) q p e = cc

asks_total : (t : Turn SumsKey (Unit {0}) ℕ) (q : SumsKey) (p : SumsPart) → total_turn t ≡ Ask q p
    → (t ≡ Ask q tt) × (p ≡ Taking)
asks_total (Ask k r) q p e = let key : k ≡ q = cc in let part : p ≡ Taking = cc in (ap (λ (x : SumsKey). Ask x tt) key, part)
asks_total (Done n) q p e = cc

sums_falls : (p : SumsPart) (a : Answer SumsKey SumsValue) (q : SumsKey) (r : SumsPart)
    → sums_advance p a ≡ Ask q r → IsLower (sums_left r) (sums_left p)
sums_falls (Adding p) a q r e =
    let s = asks_sum (sum_advances (λ n. Sum n) (text_read a) (number_read a) p) q r e in
    subst (λ (x : SumsPart). IsLower (sums_left x) (sum_left p)) (sym s.2)
    (sum_falls (λ n. Sum n) (text_read a) (number_read a) p q s.0 s.1)
sums_falls Taking a q r e =
    let s = asks_total (total_advances (number_read a)) q r e in let none = s.0 in cc

-- `Stands f ns q p`: the sum of `f`, at the part `p`, asked `q`; its names are among `ns`
Stands : List ℕ → List (List ℕ) → SumsKey → SumsPart → Type 0
Stands f ns q (Adding Read) = q ≡ Input f
Stands f ns q (Adding (Add gs n)) = ((g : List ℕ) × (q ≡ Sum g) × In g ns) × ((w : List ℕ) → In w gs → In w ns)
Stands f ns q Taking = ⊥

file_names : (files : Sources) (name w : List ℕ) → In w (names_of (file_in files name).text) → In w (all_names files)
unfolding file_in
file_names [] name w i = i
file_names (x ∷ xs) name w i = elim (cases_Bool (bytes_eq x.0 name)) [
  | inl h ↦ in_append_left w (names_of x.1.text) (all_names xs) (rw h at i)
  | inr h ↦ in_append_right w (names_of x.1.text) (all_names xs) (file_names xs name w (rw h at i))
]

from_next : (f : List ℕ) (ns gs : List (List ℕ)) (n : ℕ) (r : SumsKey) (s : SumsPart)
    → ((w : List ℕ) → In w gs → In w ns) → sum_turn (add_next (λ n. Sum n) gs n) ≡ Ask r s → Stands f ns r s
unfolding Stands
from_next f ns gs n r s sub e =
    let x = asks_sum (add_next (λ n. Sum n) gs n) r s e in
    let y = next_is (λ n. Sum n) gs n r x.0 x.1 in
    let part : s ≡ Adding (Add y.1 n) = x.2 ∙ ap (λ (z : SumPart). Adding z) y.4 in
    subst (λ (p : SumsPart). Stands f ns r p) (sym part) (
      (y.0, y.3, sub y.0 (subst (λ (z : List (List ℕ)). In y.0 z) (sym y.2) (inl refl))),
      (λ w i. sub w (subst (λ (z : List (List ℕ)). In w z) (sym y.2) (inr i))),
    )

module _ (order : SumsKey → SumsKey → Ordering) (files : Sources) where
  m : Instance SumsKey SumsPart SumsValue
  m = over order sums files

  sum_on : (f : List ℕ) (ns : List (List ℕ)) → ((w : List ℕ) → In w (all_names files) → In w ns)
      → (q : SumsKey) (p : SumsPart) (a : Answer SumsKey SumsValue) (r : SumsKey) (s : SumsPart)
      → Stands f ns q p → RightRead m sum_level (q, a) → sums_advance p a ≡ Ask r s → Stands f ns r s
  unfolding m Stands
  sum_on f ns sub q (Adding Read) a r s i t e =
      let means : Means m (Input f) a = subst (λ (x : SumsKey). Means m x a) i t.means in
      let is : a ≡ Value (m.input (Input f)) = input_means m (Input f) a refl means in
      let to : sums_advance (Adding Read) (Value (m.input (Input f))) ≡ Ask r s = subst (λ (x : Answer SumsKey SumsValue). sums_advance (Adding Read) x ≡ Ask r s) is e in
      from_next f ns (names_of (file_in files f).text) 1 r s (λ w j. sub w (file_names files f w j)) to
  sum_on f ns sub q (Adding (Add gs n)) a r s i t e = from_next f ns gs (min (n + unwrap_or (number_read a) 0) largest_sum) r s i.1 e
  sum_on f ns sub q Taking a r s i t e = absurd i

  sum_stands : (f : List ℕ) (ns : List (List ℕ)) → ((w : List ℕ) → In w (all_names files) → In w ns)
      → (q : SumsKey) (p : SumsPart) → ComesTo m (Sum f) (Ask q p) → Stands f ns q p
  unfolding m Stands
  sum_stands f ns sub = along m (Sum f) (Stands f ns)
      (λ q p e. let h : p ≡ Adding Read = cc in let j : q ≡ Input f = cc in subst (λ (x : SumsPart). Stands f ns q x) (sym h) j)
      (sum_on f ns sub)

  input_asks_none : (f : List ℕ) (q : SumsKey) (p : SumsPart) → ComesTo m (Input f) (Ask q p) → ⊥
  unfolding m
  input_asks_none f = along m (Input f) (λ q p. ⊥) (λ q p e. cc) (λ q p a r s i t e. i)

  total_stands : (f : List ℕ) (q : SumsKey) (p : SumsPart) → ComesTo m (Total f) (Ask q p) → (q ≡ Sum f) × (p ≡ Taking)
  unfolding m
  total_stands f = along m (Total f) (λ q p. (q ≡ Sum f) × (p ≡ Taking)) (λ q p e. (cc, cc))
      (λ q p a r s i t e. absurd (take_ends p a r s i.1 e))
    where
      take_ends : (p : SumsPart) (a : Answer SumsKey SumsValue) (r : SumsKey) (s : SumsPart) → p ≡ Taking → sums_advance p a ≡ Ask r s → ⊥
      take_ends p a r s h e =
          let at : sums_advance Taking a ≡ Ask r s = subst (λ (x : SumsPart). sums_advance x a ≡ Ask r s) h e in
          let none = (asks_total (total_advances (number_read a)) r s at).0 in cc

  stands_low : (f : List ℕ) (ns : List (List ℕ)) (q : SumsKey) (p : SumsPart) → Stands f ns q p → sums_level q ≤ sum_level
  unfolding Stands
  stands_low f ns q (Adding Read) i = let e : sums_level q ≡ 0 = ap sums_level i in omega arith
  stands_low f ns q (Adding (Add gs n)) i = let e : sums_level q ≡ sum_level = ap sums_level i.0.1 in omega arith
  stands_low f ns q Taking i = absurd i

  sums_no_higher : (k q : SumsKey) (p : SumsPart) → ComesTo m k (Ask q p) → m.level q ≤ m.level k
  unfolding m
  sums_no_higher (Input f) q p c = absurd (input_asks_none f q p c)
  sums_no_higher (Sum f) q p c = stands_low f (all_names files) q p (sum_stands f (all_names files) (λ w i. i) q p c)
  sums_no_higher (Total f) q p c =
      let e : sums_level q ≡ sum_level = ap sums_level (total_stands f q p c).0 in omega arith

  in_map : (g : List ℕ → SumsKey) (n : List ℕ) (ns : List (List ℕ)) → In n ns → In (g n) (map g ns)
  in_map g n [] i = i
  in_map g n (x ∷ xs) (inl e) = inl (ap g e)
  in_map g n (x ∷ xs) (inr i) = inr (in_map g n xs i)

  from_map : (g : List ℕ → SumsKey) (k : SumsKey) (ns : List (List ℕ)) → In k (map g ns) → (n : List ℕ) × (k ≡ g n) × In n ns
  from_map g k [] i = absurd i
  from_map g k (x ∷ xs) (inl e) = (x, e, inl refl)
  from_map g k (x ∷ xs) (inr i) = let r = from_map g k xs i in (r.0, r.1, inr r.2)

  stands_in : (f : List ℕ) (ns : List (List ℕ)) (q : SumsKey) (p : SumsPart) → In f ns → Stands f ns q p
      → In q (map (λ n. Input n) ns ++ map (λ n. Sum n) ns)
  unfolding Stands
  stands_in f ns q (Adding Read) h i =
      in_append_left q (map (λ n. Input n) ns) (map (λ n. Sum n) ns)
      (subst (λ (x : SumsKey). In x (map (λ n. Input n) ns)) (sym i) (in_map (λ n. Input n) f ns h))
  stands_in f ns q (Adding (Add gs n)) h i =
      in_append_right q (map (λ n. Input n) ns) (map (λ n. Sum n) ns)
      (subst (λ (x : SumsKey). In x (map (λ n. Sum n) ns)) (sym i.0.1) (in_map (λ n. Sum n) i.0.0 ns i.0.2))
  stands_in f ns q Taking h i = absurd i

  asks_in : (ns : List (List ℕ)) → ((w : List ℕ) → In w (all_names files) → In w ns)
      → (x q : SumsKey) (p : SumsPart) → In (own_name x) ns → ComesTo m x (Ask q p)
      → In q (map (λ n. Input n) ns ++ map (λ n. Sum n) ns)
  asks_in ns sub (Input f) q p h c = absurd (input_asks_none f q p c)
  asks_in ns sub (Sum f) q p h c = stands_in f ns q p h (sum_stands f ns sub q p c)
  asks_in ns sub (Total f) q p h c =
      in_append_right q (map (λ n. Input n) ns) (map (λ n. Sum n) ns)
      (subst (λ (x : SumsKey). In x (map (λ n. Sum n) ns)) (sym (total_stands f q p c).0) (in_map (λ n. Sum n) f ns h))

  sums_stays : (k x q : SumsKey) (p : SumsPart) → In x (sums_reach files k) → ComesTo m x (Ask q p) → In q (sums_reach files k)
  sums_stays k x q p i c =
      let ns : List (List ℕ) = own_name k ∷ all_names files in
      let inputs : List SumsKey = map (λ n. Input n) ns in
      let totals : List SumsKey = map (λ n. Sum n) ns in
      let own : In (own_name x) ns = elim i [
        | inl e ↦ inl (ap own_name e)
        | inr j ↦ elim (in_append x inputs totals j) [
          | inl a ↦ (let r = from_map (λ n. Input n) x ns a in
              subst (λ (w : List ℕ). In w ns) (sym (ap own_name r.1)) r.2)
          | inr b ↦ (let r = from_map (λ n. Sum n) x ns b in
              subst (λ (w : List ℕ). In w ns) (sym (ap own_name r.1)) r.2)
        ]
      ] in
      inr (asks_in ns (λ w j. inr j) x q p own c)

  pub sums_lawful : ((a b : SumsKey) → order a b ≡ Equal → a ≡ b) → Laws (over order sums files) (sums_reach files)
  unfolding m
  sums_lawful exact = record {
    no_higher = sums_no_higher;
    falls = λ p a q r e. sums_falls p a q r e;
    reaches = λ k. inl refl;
    stays = sums_stays;
    exact = exact;
  }
