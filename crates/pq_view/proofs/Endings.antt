-- The paths that end with a slash and a name, and the nearest of them.
use Rattle.std.proofs.Common.{◌≡◌, ◌≢◌, ◌⊎◌, inl, inr, ℕ, ◌+◌, ◌<◌, ◌≤◌, List, [], ◌∷◌, ◌++◌, length, get_or, take, Bool, true, false, cond, refl, sym, ◌∙◌, ap, subst, append_assoc, arith}
use Rattle.std.specs.Prelude.{◌↔◌, Option, Some, None, not, ◌&&◌, ◌||◌, bytes_eq, map, reverse, Contains}
use Rattle.std.specs.BTreeMap.{BTreeMap, insert_entry}
use Rattle.std.specs.BTreeMap.Range.{range_contains}
use Rattle.std.specs.Cmp.{IsTotalOrder, ranks}
use Rattle.std.specs.List.{filter, list_any}
use Rattle.std.specs.Ordering.{MatchOrdering, match_ordering, is_gt, is_le, is_lt, is_eq, nat_cmp, ordering_reverse, ordering_then}
use Rattle.std.specs.declared.cmp.Ordering.{Ordering}
use Rattle.std.specs.declared.cmp.Ordering.TheVariants.{Less, Equal, Greater}
use Rattle.std.specs.declared.ops.Bound.TheVariants.{Included, Excluded}
use Rattle.std.proofs.lemmas.Cmp.{nat_cmp_total, nat_list_cmp_total, on_total, then_total, tied_itself}
use Rattle.std.proofs.lemmas.List.{append_cancel_right, reverse-append, reverse-reverse, take_more}
use Rattle.std.proofs.lemmas.List.Folds.{list_any-append}
use Rattle.std.proofs.lemmas.Map.Made.{is_member-Decides}
use Rattle.std.proofs.lemmas.Slice.Eq.{bytes_eq-Decides}
use Rattle.std.proofs.lemmas.List.Elements.{All-contains, All-from_recursion, Contains-append_cases, Contains-append_left, Contains-append_right, Contains-push, Contains-push_cases}
use Rattle.std.proofs.lemmas.Map.Text.{is_eq-slice_cmp}
use Rattle.pq_view.specs.Nearest.{IsNearest, common_folder}
use Rattle.pq_view.specs.Views.{below, slash}
use Rattle.pq_view.specs.aux.Tails.{AreReversed, bound, by_bytes, by_nearness, chosen, ending, nearer, texts_of}
use Rattle.pq_view.proofs.ListTests.{bytes_is}

-- ---- the keys that begin with a text and a slash

-- a text compares to itself with more after it
tied_nat : (y : ℕ) → nat_cmp y y ≡ Equal
tied_nat y = tied_itself nat_cmp_total y

-- a key that begins so lies in the range
pub ending_in : (r t : List ℕ) → range_contains by_bytes (Included (r ++ slash ∷ [])) (Excluded (r ++ 48 ∷ [])) (r ++ slash ∷ t) ≡ true
ending_in [] [] = refl
ending_in [] (x ∷ t) = refl
ending_in (y ∷ r) t =
    ap (λ (o : Ordering). is_le (ordering_then o (by_bytes (r ++ slash ∷ []) (r ++ slash ∷ t))) && not (is_le (ordering_then o (by_bytes (r ++ 48 ∷ []) (r ++ slash ∷ t))))) (tied_nat y)
    ∙ ending_in r t

-- `BeginsSo r k` is that the key `k` begins with `r` and a slash
abbrev BeginsSo : List ℕ → List ℕ → Type 0
BeginsSo r k = (t : List ℕ) × (k ≡ r ++ slash ∷ t)

-- a byte between a slash and the next byte
only_slash : (x : ℕ) (t : List ℕ) (o p : Ordering) → MatchOrdering o (slash < x) (slash ≡ x) (x < slash) → MatchOrdering p (48 < x) (48 ≡ x) (x < 48)
    → (is_le (ordering_then o (by_bytes [] t)) && not (is_le (ordering_then p (by_bytes [] t)))) ≡ true → slash ≡ x
only_slash x t Less Less a b h = absurd (cc)
only_slash x [] Less Equal a b h = absurd (cc)
only_slash x (y ∷ t) Less Equal a b h = absurd (cc)
only_slash x t Less Greater a b h = absurd (omega (arith, a, b))
only_slash x t Equal p a b h = a
only_slash x t Greater p a b h = absurd (cc)

-- a key in the range begins so
pub ending_out : (r k : List ℕ) → range_contains by_bytes (Included (r ++ slash ∷ [])) (Excluded (r ++ 48 ∷ [])) k ≡ true → BeginsSo r k
ending_out [] [] h = absurd (cc)
ending_out [] (x ∷ t) h = (t, ap (λ (y : ℕ). y ∷ t) (sym (only_slash x t (nat_cmp slash x) (nat_cmp 48 x) (ranks slash x) (ranks 48 x) h)))
ending_out (y ∷ r) [] h = absurd (cc)
ending_out (y ∷ r) (x ∷ t) h = by_byte (λ k. ending_out r t k) (nat_cmp y x) (ranks y x) h
  where
    by_byte : (range_contains by_bytes (Included (r ++ slash ∷ [])) (Excluded (r ++ 48 ∷ [])) t ≡ true → BeginsSo r t)
        → (o : Ordering) → MatchOrdering o (y < x) (y ≡ x) (x < y)
        → (is_le (ordering_then o (by_bytes (r ++ slash ∷ []) t)) && not (is_le (ordering_then o (by_bytes (r ++ 48 ∷ []) t)))) ≡ true
        → BeginsSo (y ∷ r) (x ∷ t)
    by_byte rest Less m g = absurd (cc)
    by_byte rest Equal m g = let b = rest g in (b.0, ap (λ (z : ℕ). z ∷ t) (sym m) ∙ ap (λ (zs : List ℕ). y ∷ zs) b.1)
    by_byte rest Greater m g = absurd (cc)

-- ---- the least of a list, by any order

module _ {X : Type 0} {R : X → X → Ordering} (order : IsTotalOrder R) where
  -- what is not greater than what is not greater
  chain : (a b c : X) → R a b ≢ Greater → R b c ≢ Greater → R a c ≢ Greater
  chain a b c h k g = by_first (R a b) refl
    where
      by_second : R a b ≡ Less → (p : Ordering) → R b c ≡ p → ⊥
      by_second e Less f = let l : R a c ≡ Less = order.trans a b c e f in absurd (cc)
      by_second e Equal f =
          let back : R c b ≡ Equal = order.antisymm c b ∙ ap ordering_reverse f in
          let same : R c a ≡ R b a = order.congr c b a back in
          let l : R a c ≡ Less = order.antisymm a c ∙ ap ordering_reverse same ∙ sym (order.antisymm a b) ∙ e in
          absurd (cc)
      by_second e Greater f = k f

      by_first : (o : Ordering) → R a b ≡ o → ⊥
      by_first Less e = by_second e (R b c) refl
      by_first Equal e = k (sym (order.congr a b c e) ∙ g)
      by_first Greater e = h e

  -- what is less is not greater
  less_not : (a b : X) → is_lt (R a b) ≡ true → R a b ≢ Greater
  less_not a b h g = by_order (R a b) refl h
    where
      by_order : (o : Ordering) → R a b ≡ o → is_lt o ≡ true → ⊥
      by_order Less e t = absurd (cc)
      by_order Equal e t = absurd (cc)
      by_order Greater e t = absurd (cc)

  -- what is not less the other way round is not greater
  turned : (a b : X) → is_lt (R a b) ≡ false → R b a ≢ Greater
  turned a b h g =
      let l : R a b ≡ Less = order.antisymm a b ∙ ap ordering_reverse g in
      let t : is_lt (R a b) ≡ true = ap is_lt l in
      absurd (cc)

  -- an item is not greater than itself
  itself : (a : X) → R a a ≢ Greater
  itself a g = let e : R a a ≡ Equal = tied_itself order a in absurd (cc)

-- an item of a longer list
pub cases_cons : {X : Type 0} (x : X) (xs : List X) (y : X) → Contains (x ∷ xs) y → (x ≡ y) ⊎ Contains xs y
cases_cons x xs y h = by_place (Contains-append_cases (x ∷ []) xs y h)
  where
    by_place : Contains (x ∷ []) y ⊎ Contains xs y → (x ≡ y) ⊎ Contains xs y
    by_place (inr k) = inr k
    by_place (inl k) = by_item (Contains-push_cases [] x y k)
      where
        by_item : Contains [] y ⊎ (x ≡ y) → (x ≡ y) ⊎ Contains xs y
        by_item (inl n) = absurd (omega (arith, n.1))
        by_item (inr e) = inl e

pub head_cons : {X : Type 0} (x : X) (xs : List X) → Contains (x ∷ xs) x
head_cons x xs = Contains-append_left (x ∷ []) xs x (Contains-push [] x)

pub tail_cons : {X : Type 0} (x : X) (xs : List X) (y : X) → Contains xs y → Contains (x ∷ xs) y
tail_cons x xs y h = Contains-append_right (x ∷ []) xs y h

-- an item that passes a test
pub in_filter : {X : Type 0} (p : X → Bool) (xs : List X) (y : X) → p y ≡ true → Contains xs y → Contains (filter p xs) y
in_filter p [] y t h = absurd (omega (arith, h.1))
in_filter p (x ∷ xs) y t h = by_place (λ k. in_filter p xs y t k) (cases_cons x xs y h)
  where
    kept : (b : Bool) → x ≡ y → b ≡ true → Contains (cond b (x ∷ filter p xs) (filter p xs)) y
    kept true e f = subst (λ z. Contains (z ∷ filter p xs) y) (sym e) (head_cons y (filter p xs))
    kept false e f = absurd (cc)

    more : (b : Bool) → Contains (filter p xs) y → Contains (cond b (x ∷ filter p xs) (filter p xs)) y
    more true h = tail_cons x (filter p xs) y h
    more false h = h

    by_place : (Contains xs y → Contains (filter p xs) y) → (x ≡ y) ⊎ Contains xs y → Contains (cond (p x) (x ∷ filter p xs) (filter p xs)) y
    by_place rest (inl e) = kept (p x) e (ap p e ∙ t)
    by_place rest (inr k) = more (p x) (rest k)

-- an image of an item
pub in_map : {X Y : Type 0} (f : X → Y) (xs : List X) (x : X) → Contains xs x → Contains (map f xs) (f x)
in_map f [] x h = absurd (omega (arith, h.1))
in_map f (y ∷ xs) x h = by_place (λ k. in_map f xs x k) (cases_cons y xs x h)
  where
    by_place : (Contains xs x → Contains (map f xs) (f x)) → (y ≡ x) ⊎ Contains xs x → Contains (f y ∷ map f xs) (f x)
    by_place rest (inl e) = subst (λ z. Contains (f z ∷ map f xs) (f x)) (sym e) (head_cons (f x) (map f xs))
    by_place rest (inr k) = tail_cons (f y) (map f xs) (f x) (rest k)

-- an item of the images
pub from_map : {X Y : Type 0} (f : X → Y) (xs : List X) (y : Y) → Contains (map f xs) y → (x : X) × Contains xs x × (f x ≡ y)
from_map f [] y h = absurd (omega (arith, h.1))
from_map {X} {Y} f (x ∷ xs) y h = by_place (λ k. from_map f xs y k) (cases_cons (f x) (map f xs) y h)
  where
    by_place : (Contains (map f xs) y → (z : X) × Contains xs z × (f z ≡ y)) → (f x ≡ y) ⊎ Contains (map f xs) y → (z : X) × Contains (x ∷ xs) z × (f z ≡ y)
    by_place rest (inl e) = (x, head_cons x xs, e)
    by_place rest (inr k) = let z = rest k in (z.0, tail_cons x xs z.0 z.1, z.2)

-- ---- the nearest

-- nearness is an order
pub nearness_total : (importer : List ℕ) → IsTotalOrder (by_nearness importer)
nearness_total importer = then_total (on_total (common_folder importer) (flipped)) nat_list_cmp_total
  where
    flipped : IsTotalOrder (λ m n. nat_cmp n m)
    flipped = record {
      antisymm = λ x y. nat_cmp_total.antisymm y x;
      trans = λ x y z a b. nat_cmp_total.trans z y x b a;
      congr = λ x y z e.
          let back : nat_cmp x y ≡ Equal = nat_cmp_total.antisymm x y ∙ ap ordering_reverse e in
          nat_cmp_total.antisymm z x ∙ ap ordering_reverse (nat_cmp_total.congr x y z back) ∙ sym (nat_cmp_total.antisymm z y);
    }

module _ (importer : List ℕ) where
  -- `IsLeast best paths r` is that `r` is the nearest of `best` and `paths`
  record IsLeast (best : List ℕ) (paths : List (List ℕ)) (r : List ℕ) : Type 0 where
    is : chosen importer (Some best) paths ≡ Some r
    from : (r ≡ best) ⊎ Contains paths r
    first : by_nearness importer r best ≢ Greater
    others : (q : List ℕ) → Contains paths q → by_nearness importer r q ≢ Greater

  -- the nearest of a path and others
  least_of : (best : List ℕ) (paths : List (List ℕ)) → (r : List ℕ) × IsLeast best paths r
  unfolding chosen
  least_of best [] = (best, record { is = refl; from = inl refl; first = itself (nearness_total importer) best; others = λ q h. absurd (omega (arith, h.1)) })
  least_of best (p ∷ ps) = by_test (least_of p ps) (least_of best ps) (is_lt (by_nearness importer p best)) refl
    where
      further : (r q : List ℕ) → by_nearness importer r p ≢ Greater → ((q : List ℕ) → Contains ps q → by_nearness importer r q ≢ Greater)
          → (p ≡ q) ⊎ Contains ps q → by_nearness importer r q ≢ Greater
      further r q h k (inl e) = let P : List ℕ → Type 0 = λ z. by_nearness importer r z ≢ Greater in subst P e h
      further r q h k (inr c) = k q c

      held : (r : List ℕ) → (r ≡ p) ⊎ Contains ps r → Contains (p ∷ ps) r
      held r (inl e) = let P : List ℕ → Type 0 = λ z. Contains (p ∷ ps) z in subst P (sym e) (head_cons p ps)
      held r (inr c) = tail_cons p ps r c

      kept : (r : List ℕ) → (r ≡ best) ⊎ Contains ps r → (r ≡ best) ⊎ Contains (p ∷ ps) r
      kept r (inl e) = inl e
      kept r (inr c) = inr (tail_cons p ps r c)

      by_test : (r : List ℕ) × IsLeast p ps r → (r : List ℕ) × IsLeast best ps r → (t : Bool) → is_lt (by_nearness importer p best) ≡ t → (r : List ℕ) × IsLeast best (p ∷ ps) r
      by_test (r, l) m true e = (
        r,
        record {
          is = ap (λ b. chosen importer (cond b (Some p) (Some best)) ps) e ∙ l.is;
          from = inr (held r l.from);
          first = chain (nearness_total importer) r p best l.first (less_not (nearness_total importer) p best e);
          others = λ q h. further r q l.first l.others (cases_cons p ps q h);
        },
      )
      by_test m (r, l) false e = (
        r,
        record {
          is = ap (λ b. chosen importer (cond b (Some p) (Some best)) ps) e ∙ l.is;
          from = kept r l.from;
          first = l.first;
          others = λ q h. further r q (chain (nearness_total importer) r best p l.first (turned (nearness_total importer) p best e)) l.others (cases_cons p ps q h);
        },
      )

  -- `IsLeastOf paths o` is that `o` is the nearest of `paths`, and `None` if there are none
  abbrev pub IsLeastOf : List (List ℕ) → Option (List ℕ) → Type 0
  IsLeastOf paths None = (q : List ℕ) → Contains paths q → ⊥
  IsLeastOf paths (Some r) = Contains paths r × ((q : List ℕ) → Contains paths q → by_nearness importer r q ≢ Greater)

  pub chosen_least : (paths : List (List ℕ)) → IsLeastOf paths (chosen importer None paths)
  unfolding chosen
  chosen_least [] = λ q h. absurd (omega (arith, h.1))
  chosen_least (p ∷ ps) = by_least (least_of p ps)
    where
      held : (r : List ℕ) → (r ≡ p) ⊎ Contains ps r → Contains (p ∷ ps) r
      held r (inl e) = let P : List ℕ → Type 0 = λ z. Contains (p ∷ ps) z in subst P (sym e) (head_cons p ps)
      held r (inr c) = tail_cons p ps r c

      further : (r q : List ℕ) → by_nearness importer r p ≢ Greater → ((q : List ℕ) → Contains ps q → by_nearness importer r q ≢ Greater)
          → (p ≡ q) ⊎ Contains ps q → by_nearness importer r q ≢ Greater
      further r q h k (inl e) = let P : List ℕ → Type 0 = λ z. by_nearness importer r z ≢ Greater in subst P e h
      further r q h k (inr c) = k q c

      by_least : (r : List ℕ) × IsLeast p ps r → IsLeastOf (p ∷ ps) (chosen importer (Some p) ps)
      by_least (r, l) = subst (IsLeastOf (p ∷ ps)) (sym l.is) (held r l.from, λ q h. further r q l.first l.others (cases_cons p ps q h))

-- what nearness says of two paths
pub near_parts : (importer p q : List ℕ) → by_nearness importer p q ≢ Greater
    → (common_folder importer q ≤ common_folder importer p) × (common_folder importer q ≡ common_folder importer p → by_bytes q p ≢ Less)
near_parts importer p q h = by_order (nat_cmp (common_folder importer q) (common_folder importer p)) refl (ranks (common_folder importer q) (common_folder importer p))
  where
    m : ℕ
    m = common_folder importer q

    n : ℕ
    n = common_folder importer p

    Parts : Type 0
    Parts = (m ≤ n) × (m ≡ n → by_bytes q p ≢ Less)

    by_order : (o : Ordering) → nat_cmp m n ≡ o → MatchOrdering o (m < n) (m ≡ n) (n < m) → Parts
    by_order Less e r = (omega (arith, r), λ s. absurd (omega (arith, r, s)))
    by_order Equal e r = (
      omega (arith, r),
      λ s l.
          let g : by_bytes p q ≡ Greater = nat_list_cmp_total.antisymm p q ∙ ap ordering_reverse l in
          h (ap (λ (o : Ordering). ordering_then o (by_bytes p q)) e ∙ g),
    )
    by_order Greater e r = absurd (h (ap (λ (o : Ordering). ordering_then o (by_bytes p q)) e))

-- ---- the paths of a map

-- a path below a root, from its last byte to its first
pub below_reversed : (root name : List ℕ) → reverse (below root name) ≡ reverse name ++ slash ∷ reverse root
below_reversed root name =
    reverse-append root (slash ∷ name)
    ∙ ap (λ (xs : List ℕ). xs ++ reverse root) (reverse-append (slash ∷ []) name)
    ∙ append_assoc (reverse name) (slash ∷ []) (reverse root)

-- a path whose bytes from the last to the first begin with those of a name and a slash
pub unreversed : (path name t : List ℕ) → reverse path ≡ reverse name ++ slash ∷ t → path ≡ below (reverse t) name
unreversed path name t e =
    sym (reverse-reverse path)
    ∙ ap reverse (e ∙ ap (λ (xs : List ℕ). reverse name ++ slash ∷ xs) (sym (reverse-reverse t)) ∙ sym (below_reversed (reverse t) name))
    ∙ reverse-reverse (below (reverse t) name)

-- ---- the entries of a map

-- `begins_at name e` is whether the key of the entry `e` begins with the reversed `name` and a slash
abbrev pub begins_at : List ℕ → List ℕ × List ℕ → Bool
begins_at name e = range_contains by_bytes (Included (bound name slash)) (Excluded (bound name 48)) e.0

-- an item that a filter keeps
pub from_filter : {X : Type 0} (p : X → Bool) (xs : List X) (y : X) → Contains (filter p xs) y → Contains xs y × (p y ≡ true)
from_filter p [] y h = absurd (omega (arith, h.1))
from_filter p (x ∷ xs) y h = by_test (λ k. from_filter p xs y k) (p x) refl h
  where
    by_place : (Contains (filter p xs) y → Contains xs y × (p y ≡ true)) → p x ≡ true → (x ≡ y) ⊎ Contains (filter p xs) y → Contains (x ∷ xs) y × (p y ≡ true)
    by_place rest t (inl e) = (subst (λ z. Contains (x ∷ xs) z) e (head_cons x xs), ap p (sym e) ∙ t)
    by_place rest t (inr k) = let r = rest k in (tail_cons x xs y r.0, r.1)

    by_test : (Contains (filter p xs) y → Contains xs y × (p y ≡ true)) → (b : Bool) → p x ≡ b → Contains (cond b (x ∷ filter p xs) (filter p xs)) y → Contains (x ∷ xs) y × (p y ≡ true)
    by_test rest true e k = by_place rest e (cases_cons x (filter p xs) y k)
    by_test rest false e k = let r = rest k in (tail_cons x xs y r.0, r.1)

-- the key of an entry
key_of : (es : List (List ℕ × List ℕ)) → AreReversed es → (e : List ℕ × List ℕ) → Contains es e → e.0 ≡ reverse e.1
key_of es h e k = All-contains (λ (e : List ℕ × List ℕ). e.0 ≡ reverse e.1) es e (All-from_recursion (λ (e : List ℕ × List ℕ). e.0 ≡ reverse e.1) es h) k

module _ (m : BTreeMap (List ℕ) (List ℕ)) (reversed : AreReversed m.entries) (importer name : List ℕ) where
  -- `IsNearestPath o` is that `o` is the nearest path that ends with a slash and `name`
  abbrev pub IsNearestPath : Option (List ℕ) → Type 0
  IsNearestPath None = (root : List ℕ) → Contains (texts_of m.entries) (below root name) → ⊥
  IsNearestPath (Some path) = (root : List ℕ) × (path ≡ below root name) × IsNearest (texts_of m.entries) importer name root

  -- a path that ends so is in the range
  in_range : (root : List ℕ) → Contains (texts_of m.entries) (below root name) → Contains (texts_of (ending m name)) (below root name)
  in_range root h =
      let path = below root name in
      let e = from_map (λ (e : List ℕ × List ℕ). e.1) m.entries path h in
      let key : e.0.0 ≡ reverse name ++ slash ∷ reverse root = key_of m.entries reversed e.0 e.1 ∙ ap reverse e.2 ∙ below_reversed root name in
      let begins : begins_at name e.0 ≡ true =
      subst (λ (k : List ℕ). range_contains by_bytes (Included (bound name slash)) (Excluded (bound name 48)) k ≡ true) (sym key) (ending_in (reverse name) (reverse root)) in
      subst (λ (p : List ℕ). Contains (texts_of (ending m name)) p) e.2
      (in_map (λ (e : List ℕ × List ℕ). e.1) (ending m name) e.0 (in_filter (begins_at name) m.entries e.0 begins e.1))

  pub nearest_path : (o : Option (List ℕ)) → o ≡ chosen importer None (texts_of (ending m name)) → IsNearestPath o
  nearest_path o same = by_path o (subst (IsLeastOf importer (texts_of (ending m name))) (sym same) (chosen_least importer (texts_of (ending m name))))
    where
      by_path : (o : Option (List ℕ)) → IsLeastOf importer (texts_of (ending m name)) o → IsNearestPath o
      by_path None none = λ root h. none (below root name) (in_range root h)
      by_path (Some path) least =
          let entry = from_map (λ (e : List ℕ × List ℕ). e.1) (ending m name) path least.0 in
          let e = entry.0 in
          let kept = from_filter (begins_at name) m.entries e entry.1 in
          let begins = ending_out (reverse name) e.0 kept.1 in
          let key : e.0 ≡ reverse path = key_of m.entries reversed e kept.0 ∙ ap reverse entry.2 in
          let root = reverse begins.0 in
          let placed : path ≡ below root name = unreversed path name begins.0 (sym key ∙ begins.1) in
          let held : Contains (texts_of m.entries) path =
          subst (λ (p : List ℕ). Contains (texts_of m.entries) p) entry.2 (in_map (λ (e : List ℕ × List ℕ). e.1) m.entries e kept.0) in
          let parts = λ (other : List ℕ) (h : Contains (texts_of m.entries) (below other name)). near_parts importer (below root name) (below other name)
          (subst (λ (p : List ℕ). by_nearness importer p (below other name) ≢ Greater) placed (least.1 (below other name) (in_range other h))) in (
            root,
            placed,
            record {
              found = subst (λ (p : List ℕ). Contains (texts_of m.entries) p) placed held;
              nearest = λ other h. (parts other h).0;
              least = λ other h s. (parts other h).1 s;
            },
          )

-- ---- an entry more

-- a choice of two, in another order
swapped : (a b c : Bool) → (a || (b || c)) ≡ (b || (a || c))
swapped true true c = refl
swapped true false c = refl
swapped false true c = refl
swapped false false c = refl

twice : (a c : Bool) → (a || c) ≡ (a || (a || c))
twice true c = refl
twice false c = refl

-- equal texts
same_bytes : (x y : List ℕ) → by_bytes x y ≡ Equal → x ≡ y
same_bytes x y h = bytes_is x y (sym (is_eq-slice_cmp x y) ∙ ap is_eq h)

-- the keys after an entry is inserted
pub reversed_more : (es : List (List ℕ × List ℕ)) (k v : List ℕ) → AreReversed es → k ≡ reverse v → AreReversed (insert_entry by_bytes es k v)
reversed_more [] k v h s = (s, tt)
reversed_more (e ∷ es) k v h s = by_order (reversed_more es k v h.1 s) (by_bytes k e.0) refl
  where
    by_order : AreReversed (insert_entry by_bytes es k v) → (o : Ordering) → by_bytes k e.0 ≡ o
        → AreReversed (match_ordering o ((k, v) ∷ e ∷ es) ((e.0, v) ∷ es) (e ∷ insert_entry by_bytes es k v))
    by_order rest Less f = (s, h)
    by_order rest Equal f = (sym (same_bytes k e.0 f) ∙ s, h.1)
    by_order rest Greater f = (h.0, rest)

-- the texts after an entry is inserted
pub texts_more : (q : List ℕ) (es : List (List ℕ × List ℕ)) (k v : List ℕ) → AreReversed es → k ≡ reverse v
    → list_any (bytes_eq q) (texts_of (insert_entry by_bytes es k v)) ≡ (bytes_eq q v || list_any (bytes_eq q) (texts_of es))
texts_more q [] k v h s = refl
texts_more q (e ∷ es) k v h s = by_order (texts_more q es k v h.1 s) (by_bytes k e.0) refl
  where
    by_order : list_any (bytes_eq q) (texts_of (insert_entry by_bytes es k v)) ≡ (bytes_eq q v || list_any (bytes_eq q) (texts_of es))
        → (o : Ordering) → by_bytes k e.0 ≡ o
        → list_any (bytes_eq q) (texts_of (match_ordering o ((k, v) ∷ e ∷ es) ((e.0, v) ∷ es) (e ∷ insert_entry by_bytes es k v)))
        ≡ (bytes_eq q v || (bytes_eq q e.1 || list_any (bytes_eq q) (texts_of es)))
    by_order rest Less f = refl
    by_order rest Equal f =
        let same : v ≡ e.1 = sym (reverse-reverse v) ∙ ap reverse (sym s ∙ same_bytes k e.0 f ∙ h.0) ∙ reverse-reverse e.1 in
        twice (bytes_eq q v) (list_any (bytes_eq q) (texts_of es)) ∙ ap (λ (t : List ℕ). bytes_eq q v || (bytes_eq q t || list_any (bytes_eq q) (texts_of es))) same
    by_order rest Greater f = ap (λ b. bytes_eq q e.1 || b) rest ∙ swapped (bytes_eq q e.1) (bytes_eq q v) (list_any (bytes_eq q) (texts_of es))

-- ---- what the calls answer

-- the lower bound is not after the upper one
pub forward : (name from to : List ℕ) → from ≡ bound name slash → to ≡ bound name 48 → is_gt (by_bytes from to) ≡ false
forward name from to e f = ap (λ (x : List ℕ). is_gt (by_bytes x to)) e ∙ ap (λ (x : List ℕ). is_gt (by_bytes (bound name slash) x)) f ∙ within (reverse name)
  where
    within : (r : List ℕ) → is_gt (by_bytes (r ++ slash ∷ []) (r ++ 48 ∷ [])) ≡ false
    within [] = refl
    within (y ∷ r) = ap (λ (o : Ordering). is_gt (ordering_then o (by_bytes (r ++ slash ∷ []) (r ++ 48 ∷ [])))) (tied_nat y) ∙ within r

-- one path more
pub chosen_next : (importer : List ℕ) (best more : Option (List ℕ)) (path : List ℕ) (left rest : List (List ℕ × List ℕ)) (e : List ℕ × List ℕ) → left ≡ e ∷ rest → e.1 ≡ path
    → more ≡ nearer importer best path → chosen importer more (texts_of rest) ≡ chosen importer best (texts_of left)
unfolding chosen
chosen_next importer best more path left rest e d f g =
    ap (λ (o : Option (List ℕ)). chosen importer o (texts_of rest)) (g ∙ ap (nearer importer best) (sym f))
    ∙ ap (λ (es : List (List ℕ × List ℕ)). chosen importer best (texts_of es)) (sym d)

-- no path more
pub chosen_ended : (importer : List ℕ) (best : Option (List ℕ)) (left : List (List ℕ × List ℕ)) → left ≡ [] → best ≡ chosen importer best (texts_of left)
unfolding chosen
chosen_ended importer best left d = ap (λ (es : List (List ℕ × List ℕ)). chosen importer best (texts_of es)) (sym d)

module _ (m : BTreeMap (List ℕ) (List ℕ)) (reversed : AreReversed m.entries) (importer name : List ℕ) (paths : List (List ℕ)) (are : texts_of m.entries ≡ paths) where
  -- no path ends so
  pub root_none : None ≡ chosen importer None (texts_of (ending m name)) → (root : List ℕ) → Contains paths (below root name) → ⊥
  root_none e root h = nearest_path m reversed importer name None e root (subst (λ (ps : List (List ℕ)). Contains ps (below root name)) (sym are) h)

  module _ (path seen : List ℕ) (e : Some path ≡ chosen importer None (texts_of (ending m name))) (s : seen ≡ path) where
    -- the folder of the nearest path
    pub root_found : (root text : List ℕ) → seen ≡ below root name → text ≡ root → IsNearest paths importer name text
    root_found root text b t =
        let near = nearest_path m reversed importer name (Some path) e in
        let same : near.0 ≡ text = append_cancel_right near.0 root (slash ∷ name) (sym near.1 ∙ sym s ∙ b) ∙ sym t in
        subst (λ (ps : List (List ℕ)). IsNearest ps importer name text) are (subst (IsNearest (texts_of m.entries) importer name) same near.2)

    -- the nearest path has a folder
    pub root_lost : ((root : List ℕ) → seen ≢ below root name) → ⊥
    root_lost none = let near = nearest_path m reversed importer name (Some path) e in none near.0 (s ∙ near.1)

-- ---- the paths of a list

-- one path more
pub paths_more : (q : List ℕ) (old new paths : List (List ℕ)) (i : ℕ) (path copy : List ℕ) → i < length paths → path ≡ get_or paths i path → copy ≡ path
    → list_any (bytes_eq q) new ≡ (bytes_eq q copy || list_any (bytes_eq q) old)
    → list_any (bytes_eq q) old ≡ list_any (bytes_eq q) (take i paths)
    → list_any (bytes_eq q) new ≡ list_any (bytes_eq q) (take (i + 1) paths)
paths_more q old new paths i path copy h d c e f =
    e
    ∙ ap (λ (p : List ℕ). bytes_eq q p || list_any (bytes_eq q) old) (c ∙ d)
    ∙ ap (λ b. bytes_eq q (get_or paths i path) || b) f
    ∙ last (list_any (bytes_eq q) (take i paths)) (bytes_eq q (get_or paths i path))
    ∙ sym (list_any-append (bytes_eq q) (take i paths) (get_or paths i path ∷ []))
    ∙ ap (list_any (bytes_eq q)) (sym (take_more paths i path h))
  where
    last : (a b : Bool) → (b || a) ≡ (a || (b || false))
    last true true = refl
    last true false = refl
    last false true = refl
    last false false = refl

-- two lists with the same paths
pub same_paths : (xs ys : List (List ℕ)) (q : List ℕ) → list_any (bytes_eq q) xs ≡ list_any (bytes_eq q) ys → Contains xs q ↔ Contains ys q
same_paths xs ys q e =
    let a = is_member-Decides bytes_eq-Decides xs q in
    let b = is_member-Decides bytes_eq-Decides ys q in
    (λ h. b.0 (sym e ∙ a.1 h), λ h. a.0 (e ∙ b.1 h))
