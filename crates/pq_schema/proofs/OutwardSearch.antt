-- A search from a package outwards, by the scopes that have definitions and by the packages.
use Rattle.std.proofs.Common.{◌≡◌, ◌≢◌, ◌⊎◌, ℕ, zero, suc, ◌<◌, ◌≤◌, Bool, true, false, cond, true≢false, ◌||◌, List, [], ◌∷◌, ◌++◌, length, map, Option, Some, None, inl, inr, refl, sym, ap, subst, ◌∙◌, arith, append-nil, append_assoc, nat_eq, take, drop, get_or, ◌+◌, ◌-◌}
use Rattle.std.specs.Prelude.{IfSome, bytes_eq, codes, filter, find, is_some, option_map, nat_lt}
use Rattle.std.specs.Borrow.{Bor}
use Rattle.std.specs.Option.{MatchOption}
use Rattle.std.specs.Str.{IsCharBoundary, IsUtf8}
use Rattle.std.specs.Str.Pattern.{FindsTextPrefix, StripsPrefix}
use Rattle.std.specs.List.{list_any}
use Rattle.std.proofs.lemmas.List.{at_drop_all, at_drop_more, length-append, length-take-le, take-append-drop, take-append-le, take_at}
use Rattle.pq_schema.proofs.Walks.{grouped, nothing_further}
use Rattle.std.proofs.lemmas.Bool.{ltb-false, ltb-true, lt-ltb}
use Rattle.std.proofs.lemmas.Slice.Eq.{bytes_eq-Decides}
use Rattle.pq_rules.specs.Relations.{Each}
use Rattle.pq_rules.proofs.Characterisation.{each_append}
use Rattle.pq_schema.specs.declared.define.definitions.Definition.{Definition}
use Rattle.pq_schema.specs.declared.define.definitions.DefinitionKind.{DefinitionKind}
use Rattle.pq_schema.specs.declared.define.definitions.DefinitionKind.TheVariants as kinds
use Rattle.pq_schema.specs.declared.scope.scope.FileDefs.{FileDefs}
use Rattle.pq_schema.specs.Definitions.{qualified}
use Rattle.pq_schema.specs.Resolution.{Found, Meaning, decides, dotted, found, found_as, found_by, is_package, meaning, prefixes, scopes, single, unless_type}
use Rattle.pq_schema.specs.Resolution.Found.{FoundType, FoundOther, FoundNothing}
use Rattle.pq_schema.specs.Resolution.Meaning.{Defined, Undefined}
use Rattle.pq_schema.specs.aux.Along.{Contents}
use Rattle.pq_schema.specs.aux.Fronts.{BothBegin}
use Rattle.pq_schema.specs.aux.NameParts.{leading}
use Rattle.pq_schema.specs.aux.PackageRange.{IsRange}
use Rattle.pq_schema.specs.declared.scope.package_range.PackageRange.{PackageRange}
use Rattle.pq_schema.specs.aux.Outward.{IsOutward, beyond, defined, found_from, in_spots, of_package, opens}
use Rattle.pq_schema.specs.aux.Scopes.{is_among}
use Rattle.pq_schema.specs.aux.Spots.{AreSpots, IsPlain}
use Rattle.pq_schema.proofs.Cases.{either}
use Rattle.pq_schema.proofs.ScopesWithin.{or_left, or_right, scope_boundary, scope_within}
use Rattle.pq_schema.proofs.Marks.{scope_taken}

-- ---- a name without a dot

-- `or_package f is_there` is `f`, or what a package is found as where that is nothing
abbrev or_package : Found → Bool → Found
or_package (FoundType file d) is_there = FoundType file d
or_package FoundOther is_there = FoundOther
or_package FoundNothing is_there = of_package is_there

of_kind : (file : List ℕ) (d : Definition) (k : DefinitionKind) (b : Bool) → found_as file d k ≡ or_package (found_as file d k) b
of_kind file d kinds.Message b = refl
of_kind file d kinds.Enum b = refl
of_kind file d kinds.Service b = refl
of_kind file d kinds.Field b = refl
of_kind file d kinds.Oneof b = refl
of_kind file d kinds.Method b = refl
of_kind file d kinds.Value b = refl
of_kind file d kinds.Entry b = refl

found_or : (b : Bool) (m : Meaning) → found_by b m ≡ or_package (found_by false m) b
found_or b (Defined file d) = of_kind file d d.kind b
found_or b Undefined = refl

-- one scope more, whose definition is found as `f`
one_more : (f a : Found) (p q : Bool) → unless_type (or_package f p) (unless_type a (of_package q)) ≡ unless_type (unless_type f a) (of_package (p || q))
one_more (FoundType file d) a p q = refl
one_more FoundOther (FoundType file d) p q = refl
one_more FoundOther FoundOther true true = refl
one_more FoundOther FoundOther true false = refl
one_more FoundOther FoundOther false true = refl
one_more FoundOther FoundOther false false = refl
one_more FoundOther FoundNothing true true = refl
one_more FoundOther FoundNothing true false = refl
one_more FoundOther FoundNothing false true = refl
one_more FoundOther FoundNothing false false = refl
one_more FoundNothing (FoundType file d) true q = refl
one_more FoundNothing (FoundType file d) false q = refl
one_more FoundNothing FoundOther true true = refl
one_more FoundNothing FoundOther true false = refl
one_more FoundNothing FoundOther false true = refl
one_more FoundNothing FoundOther false false = refl
one_more FoundNothing FoundNothing true true = refl
one_more FoundNothing FoundNothing true false = refl
one_more FoundNothing FoundNothing false true = refl
one_more FoundNothing FoundNothing false false = refl

spelled : (s n : List ℕ) → leading s ++ n ≡ qualified s n
spelled [] n = refl
spelled (c ∷ cs) n = refl

-- `Leaves files keep ss n` is that the name `n` is not defined in those of `ss` that `keep` leaves out
abbrev Leaves : List FileDefs → (List ℕ → Bool) → List (List ℕ) → List ℕ → Type 0
Leaves files keep ss n = Each (λ (s : List ℕ). keep s ≡ false → meaning files (qualified s n) ≡ Undefined) ss

single_by : (files : List FileDefs) (keep : List ℕ → Bool) (ss : List (List ℕ)) (n : List ℕ) → Leaves files keep ss n
    → single files ss n ≡ unless_type (in_spots files (map leading (filter keep ss)) n) (of_package (list_any (λ s. is_package files (qualified s n)) ss))
unfolding single in_spots
single_by files keep [] n leaves = refl
single_by files keep (s ∷ ss) n leaves =
    let full = qualified s n in
    let p = is_package files full in
    let q = list_any (λ x. is_package files (qualified x n)) ss in
    let rest = in_spots files (map leading (filter keep ss)) n in
    let so_far : unless_type (found files full) (single files ss n) ≡ unless_type (unless_type (defined files full) rest) (of_package (p || q)) =
    ap (λ (x : Found). unless_type x (single files ss n)) (found_or p (meaning files full))
    ∙ ap (λ (x : Found). unless_type (or_package (defined files full) p) x) (single_by files keep ss n leaves.1)
    ∙ one_more (defined files full) rest p q in
    either (keep s) (λ b. unless_type (found files full) (single files ss n) ≡ unless_type (in_spots files (map leading (cond b (s ∷ filter keep ss) (filter keep ss))) n) (of_package (p || q)))
    (λ t. so_far ∙ ap (λ (x : List ℕ). unless_type (unless_type (defined files x) rest) (of_package (p || q))) (sym (spelled s n)))
    (λ f. so_far ∙ ap (λ (m : Meaning). unless_type (unless_type (found_by false m) rest) (of_package (p || q))) (leaves.0 f))

-- the spots from one on
pub spots_step : (files : List FileDefs) (name : List ℕ) (spots : List (List ℕ)) (i : ℕ) (spot : List ℕ) (best hit next : Found) (whole : Found)
    → i < length spots → get_or spots i spot ≡ spot
    → hit ≡ defined files (spot ++ name) → next ≡ unless_type best hit
    → whole ≡ unless_type best (in_spots files (drop i spots) name)
    → whole ≡ unless_type next (in_spots files (drop (i + 1) spots) name)
unfolding in_spots
spots_step files name spots i spot best hit next whole within at is is_next so_far =
    let rest = in_spots files (drop (i + 1) spots) name in
    so_far
    ∙ ap (λ (f : Found). unless_type best f) (at_drop_more (λ ss. in_spots files ss name) spots i spot within)
    ∙ ap (λ (s : List ℕ). unless_type best (unless_type (defined files (s ++ name)) rest)) at
    ∙ sym (grouped best (defined files (spot ++ name)) rest)
    ∙ ap (λ (f : Found). unless_type f rest) (sym (is_next ∙ ap (λ (f : Found). unless_type best f) is))

pub spots_end : (files : List FileDefs) (name : List ℕ) (spots : List (List ℕ)) (i : ℕ) (best whole : Found)
    → length spots ≤ i → whole ≡ unless_type best (in_spots files (drop i spots) name) → whole ≡ best
unfolding in_spots
spots_end files name spots i best whole past so_far =
    so_far ∙ ap (λ (f : Found). unless_type best f) (at_drop_all (λ ss. in_spots files ss name) spots i past) ∙ nothing_further best

any_found : {A : Type 0} (p : A → Bool) (xs : List A) → list_any p xs ≡ is_some (find p xs)
any_found p [] = refl
any_found p (x ∷ xs) = either (p x) (λ b. (b || list_any p xs) ≡ is_some (cond b (Some x) (find p xs))) (λ t. refl) (λ f. any_found p xs)

each_among : (P : List ℕ → Type 0) (ss : List (List ℕ)) → ((s : List ℕ) → is_among s ss ≡ true → P s) → Each P ss
each_among P [] h = tt
each_among P (s ∷ ss) h = (
  h s (or_left (bytes_eq s s) (is_among s ss) ((bytes_eq-Decides s s).1 refl)),
  each_among P ss (λ x a. h x (or_right (bytes_eq s x) (is_among x ss) a)),
)

map_some : {A B : Type 0} (f : A → B) (o : Option A) → is_some (option_map f o) ≡ is_some o
map_some f None = refl
map_some f (Some x) = refl

-- what a name without a dot is found as, by the spots and by the packages
pub single_spots : (files : List FileDefs) (root : List ℕ) (spots : List (List ℕ)) (n : List ℕ) (place : Option ℕ)
    → AreSpots files root spots → IsPlain n
    → place ≡ option_map length (find (λ s. is_package files (qualified s n)) (scopes root))
    → single files (scopes root) n ≡ unless_type (in_spots files spots n) (of_package (is_some place))
single_spots files root spots n place are plain is =
    let test = λ (s : List ℕ). is_package files (qualified s n) in
    let there : list_any test (scopes root) ≡ is_some place =
    any_found test (scopes root) ∙ sym (map_some length (find test (scopes root))) ∙ ap (λ (o : Option ℕ). is_some o) (sym is) in
    single_by files are.keep (scopes root) n (each_among (λ s. are.keep s ≡ false → meaning files (qualified s n) ≡ Undefined) (scopes root) (λ s among free. are.others s n among plain free))
    ∙ ap (λ (ls : List (List ℕ)). unless_type (in_spots files ls n) (of_package (list_any test (scopes root)))) (sym are.kept)
    ∙ ap (λ (b : Bool). unless_type (in_spots files spots n) (of_package b)) there

-- ---- a name with a dot: the first scope that decides is that of a definition or that of a package

-- `longer d k` is the longer of two scopes, if there are two; of two of one length the first
abbrev pub longer : Option (List ℕ) → Option (List ℕ) → Option (List ℕ)
longer None k = k
longer (Some a) None = Some a
longer (Some a) (Some b) = cond (nat_lt (length a) (length b)) (Some b) (Some a)

-- `Fall ss` is that of two of `ss` the second is shorter, or the same
abbrev pub Fall : List (List ℕ) → Type 0
Fall [] = Unit {0}
Fall (s ∷ ss) = Each (λ (x : List ℕ). (length x < length s) ⊎ (x ≡ s)) ss × Fall ss

each_find : (P : List ℕ → Type 0) (test : List ℕ → Bool) (ss : List (List ℕ)) (a : List ℕ) → Each P ss → find test ss ≡ Some a → P a
each_find P test [] a all is = cc
each_find P test (s ∷ ss) a all is =
    either (test s) (λ b. cond b (Some s) (find test ss) ≡ Some a → P a)
    (λ t e. let same : s ≡ a = cc in subst P same all.0)
    (λ f e. each_find P test ss a all.1 e) is

find_holds : (test : List ℕ → Bool) (ss : List (List ℕ)) (a : List ℕ) → find test ss ≡ Some a → test a ≡ true
find_holds test [] a is = cc
find_holds test (s ∷ ss) a is =
    either (test s) (λ b. cond b (Some s) (find test ss) ≡ Some a → test a ≡ true)
    (λ t e. let same : s ≡ a = cc in ap test (sym same) ∙ t)
    (λ f e. find_holds test ss a e) is

cond_same : {A : Type 0} (b : Bool) (x : A) → cond b x x ≡ x
cond_same true x = refl
cond_same false x = refl

-- the first passes the one test
first_opens : (s : List ℕ) (k : Option (List ℕ)) → ((b : List ℕ) → k ≡ Some b → (length b < length s) ⊎ (b ≡ s)) → Some s ≡ longer (Some s) k
first_opens s None h = refl
first_opens s (Some b) h =
    elim (h b refl) [
      | inl less ↦ either (nat_lt (length s) (length b)) (λ x. Some s ≡ cond x (Some b) (Some s))
          (λ t. absurd (omega (arith, ltb-true (length s) (length b) t)))
          (λ f. refl)
      | inr same ↦ sym (ap (λ (x : List ℕ). cond (nat_lt (length s) (length b)) (Some x) (Some s)) same ∙ cond_same (nat_lt (length s) (length b)) (Some s))
    ]

-- the first passes the other alone
first_package : (s : List ℕ) (d : Option (List ℕ)) → ((a : List ℕ) → d ≡ Some a → length a < length s) → Some s ≡ longer d (Some s)
first_package s None h = refl
first_package s (Some a) h =
    either (nat_lt (length a) (length s)) (λ x. Some s ≡ cond x (Some s) (Some a))
    (λ t. refl)
    (λ f. absurd (true≢false (sym (lt-ltb (length a) (length s) (h a refl)) ∙ f)))

pub longer_first : (D K : List ℕ → Bool) (ss : List (List ℕ)) → Fall ss → find (λ s. D s || K s) ss ≡ longer (find D ss) (find K ss)
longer_first D K [] fall = refl
longer_first D K (s ∷ ss) fall =
    let both = find (λ x. D x || K x) ss in
    either (D s) (λ d. cond (d || K s) (Some s) both ≡ longer (cond d (Some s) (find D ss)) (cond (K s) (Some s) (find K ss)))
    (λ t. either (K s) (λ k. Some s ≡ longer (Some s) (cond k (Some s) (find K ss)))
    (λ u. first_opens s (Some s) (λ b e. let same : b ≡ s = cc in inr same))
    (λ u. first_opens s (find K ss) (λ b e. each_find (λ x. (length x < length s) ⊎ (x ≡ s)) K ss b fall.0 e)))
    (λ t. either (K s) (λ k. cond k (Some s) both ≡ longer (find D ss) (cond k (Some s) (find K ss)))
    (λ u. first_package s (find D ss) (λ a e. elim (each_find (λ x. (length x < length s) ⊎ (x ≡ s)) D ss a fall.0 e) [
      | inl less ↦ less
      | inr same ↦ absurd (true≢false (sym (find_holds D ss a e) ∙ ap D same ∙ t))
    ]))
    (λ u. longer_first D K ss fall.1))

-- ---- scopes get shorter

fall_end : (xs : List (List ℕ)) → Fall xs → Fall (xs ++ [] ∷ [])
fall_end [] fall = (tt, tt)
fall_end (s ∷ ss) fall = (each_append (λ (x : List ℕ). (length x < length s) ⊎ (x ≡ s)) ss ([] ∷ []) fall.0 (last s, tt), fall_end ss fall.1)
  where
    last : (s : List ℕ) → (length {A = ℕ} [] < length s) ⊎ ([] ≡ s)
    last [] = inr refl
    last (c ∷ cs) = inl (omega arith)

shorter_map : (c : ℕ) (s : List ℕ) (xs : List (List ℕ)) → Each (λ (x : List ℕ). (length x < length s) ⊎ (x ≡ s)) xs
    → Each (λ (x : List ℕ). (length x < length (c ∷ s)) ⊎ (x ≡ c ∷ s)) (map (λ x. c ∷ x) xs)
shorter_map c s [] h = tt
shorter_map c s (x ∷ xs) h =
    (elim h.0 [ inl less ↦ inl (omega arith) | inr same ↦ inr (ap (λ (y : List ℕ). c ∷ y) same) ], shorter_map c s xs h.1)

fall_map : (c : ℕ) (xs : List (List ℕ)) → Fall xs → Fall (map (λ x. c ∷ x) xs)
fall_map c [] fall = tt
fall_map c (s ∷ ss) fall = (shorter_map c s ss fall.0, fall_map c ss fall.1)

fall_if : (b : Bool) (xs : List (List ℕ)) → Fall xs → Fall (xs ++ cond b ([] ∷ []) [])
fall_if true xs fall = fall_end xs fall
fall_if false xs fall = subst Fall (sym (append-nil xs)) fall

fall_prefixes : (r : List ℕ) → Fall (prefixes r)
unfolding prefixes
fall_prefixes [] = tt
fall_prefixes (c ∷ cs) = fall_if (nat_eq c 46) (map (λ x. c ∷ x) (prefixes cs)) (fall_map c (prefixes cs) (fall_prefixes cs))

within_map : (c : ℕ) (r : List ℕ) (xs : List (List ℕ)) → Each (λ (x : List ℕ). length x < length r) xs → Each (λ (x : List ℕ). length x < length (c ∷ r)) (map (λ x. c ∷ x) xs)
within_map c r [] h = tt
within_map c r (x ∷ xs) h = (omega (arith, h.0), within_map c r xs h.1)

within_prefixes : (r : List ℕ) → Each (λ (x : List ℕ). length x < length r) (prefixes r)
unfolding prefixes
within_prefixes [] = tt
within_prefixes (c ∷ cs) =
    each_append (λ (x : List ℕ). length x < length (c ∷ cs)) (map (λ x. c ∷ x) (prefixes cs)) (cond (nat_eq c 46) ([] ∷ []) [])
    (within_map c cs (prefixes cs) (within_prefixes cs)) (end (nat_eq c 46))
  where
    end : (b : Bool) → Each (λ (x : List ℕ). length x < length (c ∷ cs)) (cond b ([] ∷ []) [])
    end true = (omega arith, tt)
    end false = tt

or_same : (s : List ℕ) (xs : List (List ℕ)) → Each (λ (x : List ℕ). length x < length s) xs → Each (λ (x : List ℕ). (length x < length s) ⊎ (x ≡ s)) xs
or_same s [] h = tt
or_same s (x ∷ xs) h = (inl h.0, or_same s xs h.1)

pub fall_scopes : (root : List ℕ) → Fall (scopes root)
fall_scopes [] = (tt, tt)
fall_scopes (c ∷ cs) = (
  each_append (λ (x : List ℕ). (length x < length (c ∷ cs)) ⊎ (x ≡ c ∷ cs)) (prefixes (c ∷ cs)) ([] ∷ []) (or_same (c ∷ cs) (prefixes (c ∷ cs)) (within_prefixes (c ∷ cs))) (inl (omega arith), tt),
  fall_end (prefixes (c ∷ cs)) (fall_prefixes (c ∷ cs)),
)

-- ---- the scope that decides

decides_by : (files : List FileDefs) (x : List ℕ) (m : Meaning) → meaning files x ≡ m → decides files x ≡ (opens m || is_package files x)
decides_by files x (Defined file d) is = rw is refl
decides_by files x Undefined is = rw is refl

dotted_find : (files : List FileDefs) (ss : List (List ℕ)) (first name : List ℕ)
    → dotted files ss first name ≡ found_from files name (find (λ s. opens (meaning files (qualified s first)) || is_package files (qualified s first)) ss)
unfolding dotted
dotted_find files [] first name = refl
dotted_find files (s ∷ ss) first name =
    let full = qualified s first in
    let b = opens (meaning files full) || is_package files full in
    let next = find (λ x. opens (meaning files (qualified x first)) || is_package files (qualified x first)) ss in
    ap (λ (t : Bool). cond t (found files (qualified s name)) (dotted files ss first name)) (decides_by files full (meaning files full) refl)
    ∙ ap (λ (f : Found). cond b (found files (qualified s name)) f) (dotted_find files ss first name)
    ∙ either b (λ t. cond t (found files (qualified s name)) (found_from files name next) ≡ found_from files name (cond t (Some s) next)) (λ t. refl) (λ f. refl)

find_kept : (D keep : List ℕ → Bool) (ss : List (List ℕ)) → Each (λ (s : List ℕ). keep s ≡ false → D s ≡ false) ss → find D ss ≡ find D (filter keep ss)
find_kept D keep [] h = refl
find_kept D keep (s ∷ ss) h =
    either (keep s) (λ k. cond (D s) (Some s) (find D ss) ≡ find D (cond k (s ∷ filter keep ss) (filter keep ss)))
    (λ t. ap (λ (o : Option (List ℕ)). cond (D s) (Some s) o) (find_kept D keep ss h.1))
    (λ f. ap (λ (b : Bool). cond b (Some s) (find D ss)) (h.0 f) ∙ find_kept D keep ss h.1)

find_leading : (files : List FileDefs) (first : List ℕ) (ss : List (List ℕ))
    → find (λ l. opens (meaning files (l ++ first))) (map leading ss) ≡ option_map leading (find (λ s. opens (meaning files (qualified s first))) ss)
find_leading files first [] = refl
find_leading files first (s ∷ ss) =
    let b = opens (meaning files (qualified s first)) in
    let next = find (λ x. opens (meaning files (qualified x first))) ss in
    ap (λ (x : List ℕ). cond (opens (meaning files x)) (Some (leading s)) (find (λ l. opens (meaning files (l ++ first))) (map leading ss))) (spelled s first)
    ∙ ap (λ (o : Option (List ℕ)). cond b (Some (leading s)) o) (find_leading files first ss)
    ∙ either b (λ t. cond t (Some (leading s)) (option_map leading next) ≡ option_map leading (cond t (Some s) next)) (λ t. refl) (λ f. refl)

-- `Chooses files root name o n whole` is what `whole` is where `o` is the first spot that opens and
-- `n` the length of the first scope with a package
abbrev pub Chooses : List FileDefs → List ℕ → List ℕ → Option (List ℕ) → Option ℕ → Found → Type 0
Chooses files root name None None whole = whole ≡ FoundNothing
Chooses files root name None (Some n) whole = (n ≤ length root) × (whole ≡ found files (qualified (take n root) name))
Chooses files root name (Some l) None whole = whole ≡ found files (l ++ name)
Chooses files root name (Some l) (Some n) whole =
    (n ≤ length root) × (length l ≤ n → whole ≡ found files (qualified (take n root) name)) × (n < length l → whole ≡ found files (l ++ name))

-- of a scope `a` that opens and a scope `b` that is a package
chosen : (files : List FileDefs) (root name : List ℕ) (d k : Option (List ℕ))
    → ((b : List ℕ) → k ≡ Some b → is_among b (scopes root) ≡ true)
    → Chooses files root name (option_map leading d) (option_map length k) (found_from files name (longer d k))
chosen files root name None None h = refl
chosen files root name None (Some b) h =
    (scope_within b root (h b refl), ap (λ (s : List ℕ). found files (qualified s name)) (sym (scope_taken b root (h b refl))))
chosen files root name (Some a) None h = ap (λ (x : List ℕ). found files x) (sym (spelled a name))
chosen files root name (Some []) (Some []) h = (
  scope_within [] root (h [] refl),
  (λ up. ap (λ (s : List ℕ). found files (qualified s name)) (sym (scope_taken [] root (h [] refl)))),
  (λ less. absurd (omega arith)),
)
chosen files root name (Some []) (Some (b ∷ bs)) h = (
  scope_within (b ∷ bs) root (h (b ∷ bs) refl),
  (λ up. either (nat_lt 0 (length (b ∷ bs))) (λ t. found_from files name (cond t (Some (b ∷ bs)) (Some [])) ≡ found files (qualified (take (length (b ∷ bs)) root) name))
      (λ t. ap (λ (s : List ℕ). found files (qualified s name)) (sym (scope_taken (b ∷ bs) root (h (b ∷ bs) refl))))
      (λ f. absurd (true≢false (sym (lt-ltb 0 (length (b ∷ bs)) (omega arith)) ∙ f)))),
  (λ less. absurd (omega arith)),
)
chosen files root name (Some (a ∷ az)) (Some b) h = (
  scope_within b root (h b refl),
  (λ up. either (nat_lt (length (a ∷ az)) (length b)) (λ t. found_from files name (cond t (Some b) (Some (a ∷ az))) ≡ found files (qualified (take (length b) root) name))
      (λ t. ap (λ (s : List ℕ). found files (qualified s name)) (sym (scope_taken b root (h b refl))))
      (λ f. absurd (true≢false (sym (lt-ltb (length (a ∷ az)) (length b) (omega (arith, length-append (a ∷ az) (codes ".")))) ∙ f)))),
  (λ less. either (nat_lt (length (a ∷ az)) (length b)) (λ t. found_from files name (cond t (Some b) (Some (a ∷ az))) ≡ found files (((a ∷ az) ++ codes ".") ++ name))
      (λ t. absurd (omega (arith, ltb-true (length (a ∷ az)) (length b) t, length-append (a ∷ az) (codes "."))))
      (λ f. refl)),
)

found_among : (test : List ℕ → Bool) (ss : List (List ℕ)) (b : List ℕ) → find test ss ≡ Some b → is_among b ss ≡ true
found_among test ss b is = each_find (λ s. is_among s ss ≡ true) test ss b (each_among (λ s. is_among s ss ≡ true) ss (λ s h. h)) is

-- what a name with a dot is found as, by the spots and by the packages
pub dotted_spots : (files : List FileDefs) (root : List ℕ) (spots : List (List ℕ)) (first name : List ℕ) (spot : Option (List ℕ)) (place : Option ℕ)
    → AreSpots files root spots → IsPlain first
    → spot ≡ find (λ l. opens (meaning files (l ++ first))) spots
    → place ≡ option_map length (find (λ s. is_package files (qualified s first)) (scopes root))
    → Chooses files root name spot place (dotted files (scopes root) first name)
dotted_spots files root spots first name spot place are plain is_spot is_package_at =
    let ss = scopes root in
    let D = λ (s : List ℕ). opens (meaning files (qualified s first)) in
    let K = λ (s : List ℕ). is_package files (qualified s first) in
    let open_at : spot ≡ option_map leading (find D ss) =
    is_spot
    ∙ ap (λ (ls : List (List ℕ)). find (λ l. opens (meaning files (l ++ first))) ls) are.kept
    ∙ find_leading files first (filter are.keep ss)
    ∙ ap (λ (o : Option (List ℕ)). option_map leading o)
    (sym (find_kept D are.keep ss (each_among (λ s. are.keep s ≡ false → D s ≡ false) ss (λ s among free. ap opens (are.others s first among plain free))))) in
    let whole : dotted files ss first name ≡ found_from files name (longer (find D ss) (find K ss)) =
    dotted_find files ss first name ∙ ap (λ (o : Option (List ℕ)). found_from files name o) (longer_first D K ss (fall_scopes root)) in
    subst (λ (f : Found). Chooses files root name spot place f) (sym whole)
    (subst (λ (o : Option (List ℕ)). Chooses files root name o place (found_from files name (longer (find D ss) (find K ss)))) (sym open_at)
    (subst (λ (n : Option ℕ). Chooses files root name (option_map leading (find D ss)) n (found_from files name (longer (find D ss) (find K ss)))) (sym is_package_at)
    (chosen files root name (find D ss) (find K ss) (λ b e. found_among K ss b e))))

-- the spot that decides, or the package
pub beyond_spot : (files : List FileDefs) (root name : List ℕ) (spot : Option (List ℕ)) (place : Option ℕ) (whole : Found)
    → Chooses files root name spot place whole → (l : List ℕ) → beyond spot place ≡ Some l → whole ≡ found files (l ++ name)
beyond_spot files root name None place whole h l is = cc
beyond_spot files root name (Some a) None whole h l is =
    let same : a ≡ l = cc in h ∙ ap (λ (x : List ℕ). found files (x ++ name)) same
beyond_spot files root name (Some a) (Some n) whole h l is =
    either (nat_lt n (length a)) (λ b. cond b (Some a) None ≡ Some l → whole ≡ found files (l ++ name))
    (λ t e. let same : a ≡ l = cc in h.2 (ltb-true n (length a) t) ∙ ap (λ (x : List ℕ). found files (x ++ name)) same)
    (λ f e. cc) is

pub beyond_none : (files : List FileDefs) (root name : List ℕ) (spot : Option (List ℕ)) (place : Option ℕ) (whole : Found)
    → Chooses files root name spot place whole → beyond spot place ≡ None → whole ≡ found_from files name (option_map (λ n. take n root) place)
beyond_none files root name None None whole h is = h
beyond_none files root name None (Some n) whole h is = h.1
beyond_none files root name (Some a) None whole h is = cc
beyond_none files root name (Some a) (Some n) whole h is =
    either (nat_lt n (length a)) (λ b. nat_lt n (length a) ≡ b → cond b (Some a) None ≡ None → whole ≡ found files (qualified (take n root) name))
    (λ t e i. cc)
    (λ f e i. h.1 (ltb-false n (length a) f)) refl is

-- the scope of a package ends where a character ends
pub place_boundary : (root : List ℕ) → IsUtf8 root → (test : List ℕ → Bool) (place : Option ℕ)
    → place ≡ option_map length (find test (scopes root)) → IfSome place (λ n. IsCharBoundary root n)
place_boundary root text test place is =
    subst (λ (o : Option ℕ). IfSome o (λ n. IsCharBoundary root n)) (sym is) (by (find test (scopes root)) (λ s e. found_among test (scopes root) s e))
  where
    by : (o : Option (List ℕ)) → ((s : List ℕ) → o ≡ Some s → is_among s (scopes root) ≡ true) → IfSome (option_map length o) (λ n. IsCharBoundary root n)
    by None h = tt
    by (Some s) h = scope_boundary s root text (h s refl)

-- a definition that is no type stays
other_stays : (a : Found) (b : Bool) → a ≡ FoundOther → unless_type a (of_package b) ≡ FoundOther
other_stays a true is = ap (λ (x : Found). unless_type x FoundOther) is
other_stays a false is = ap (λ (x : Found). unless_type x FoundNothing) is

-- where the packages are that a table knows
pub place_in : (along : Contents) (files : List FileDefs) (root name : List ℕ) (place : Option ℕ) → along.files ≡ files → along.root ≡ root
    → place ≡ option_map length (find (λ s. is_package along.files (qualified s name)) (scopes along.root))
    → place ≡ option_map length (find (λ s. is_package files (qualified s name)) (scopes root))
place_in along files root name place of_files of_root is =
    is
    ∙ ap (λ (fs : List FileDefs). option_map length (find (λ s. is_package fs (qualified s name)) (scopes along.root))) of_files
    ∙ ap (λ (r : List ℕ). option_map length (find (λ s. is_package files (qualified s name)) (scopes r))) of_root

-- a type of the spots
pub single_type : (files : List FileDefs) (root : List ℕ) (spots : List (List ℕ)) (n : List ℕ) (hit : Found) (file : List ℕ) (d : Definition)
    → AreSpots files root spots → IsPlain n → hit ≡ in_spots files spots n → hit ≡ FoundType file d → FoundType file d ≡ single files (scopes root) n
single_type files root spots n hit file d are plain is there =
    let place = option_map length (find (λ s. is_package files (qualified s n)) (scopes root)) in
    sym (single_spots files root spots n place are plain refl
    ∙ ap (λ (f : Found). unless_type f (of_package (is_some place))) (sym is ∙ there))

-- another definition of the spots
pub single_other : (files : List FileDefs) (root : List ℕ) (spots : List (List ℕ)) (n : List ℕ) (hit : Found)
    → AreSpots files root spots → IsPlain n → hit ≡ in_spots files spots n → hit ≡ FoundOther → FoundOther ≡ single files (scopes root) n
single_other files root spots n hit are plain is there =
    let place = option_map length (find (λ s. is_package files (qualified s n)) (scopes root)) in
    sym (single_spots files root spots n place are plain refl
    ∙ other_stays (in_spots files spots n) (is_some place) (sym is ∙ there))

-- nothing in the spots
pub single_nothing : (files : List FileDefs) (along : Contents) (root : List ℕ) (spots : List (List ℕ)) (n : List ℕ) (hit : Found) (place : Option ℕ) (b : Bool)
    → IsOutward files along root spots → IsPlain n → hit ≡ in_spots files spots n → hit ≡ FoundNothing
    → place ≡ option_map length (find (λ s. is_package along.files (qualified s n)) (scopes along.root)) → b ≡ is_some place
    → of_package b ≡ single files (scopes root) n
single_nothing files along root spots n hit place b is_outward plain is there at is_b =
    sym (single_spots files root spots n place is_outward.are_spots plain (place_in along files root n place is_outward.of_files is_outward.of_root at)
    ∙ ap (λ (f : Found). unless_type f (of_package (is_some place))) (sym is ∙ there)
    ∙ ap of_package (sym is_b))

-- ---- a name that goes on along the package

-- what comes after a scope and its dot
pub after_dot : (n : ℕ) (lead back rest : List ℕ) → 0 < n → back ≡ drop n lead → back ≡ 46 ∷ rest → lead ≡ leading (take n lead) ++ rest
after_dot zero lead back rest some is dot = absurd (omega arith)
after_dot (suc n) [] back rest some is dot = cc
after_dot (suc n) (c ∷ cs) back rest some is dot =
    sym (ap (λ (xs : List ℕ). c ∷ xs) (append_assoc (take n cs) (codes ".") rest ∙ ap (λ (ys : List ℕ). take n cs ++ ys) (sym dot ∙ is) ∙ take-append-drop n cs))

pub after_some : (n : ℕ) (lead back : List ℕ) (r : Option (Bor (List ℕ))) → 0 < n → back ≡ drop n lead
    → MatchOption r ((rest : List ℕ) → back ≢ 46 ∷ rest) (λ x. back ≡ 46 ∷ x.now) → IfSome r (λ t. lead ≡ leading (take n lead) ++ t.now)
after_some n lead back None some is m = tt
after_some n lead back (Some x) some is m = after_dot n lead back x.now some is m

-- what comes after both in a name
pub after_both : (front lead others name : List ℕ) (r : Option (Bor (List ℕ))) → lead ≡ front ++ others
    → MatchOption r (FindsTextPrefix others name None) (λ x. StripsPrefix (FindsTextPrefix others) name x.now) → IfSome r (λ t. front ++ name ≡ lead ++ t.now)
after_both front lead others name None is h = tt
after_both front lead others name (Some t) is h =
    ap (λ (n : List ℕ). front ++ n) (h.1.1 ∙ ap (λ (rest : List ℕ). others ++ rest) (sym h.2))
    ∙ sym (append_assoc front others t.now) ∙ ap (λ (l : List ℕ). l ++ t.now) (sym is)

take_lead : (n : ℕ) (root : List ℕ) → n ≤ length root → take n (leading root) ≡ take n root
take_lead n [] within = refl
take_lead n (c ∷ cs) within = take-append-le n (c ∷ cs) (codes ".") within

-- a full name that goes on along the package is a name in it
pub along_lead : (files : List FileDefs) (root lead name rest : List ℕ) (n : ℕ) → n ≤ length root → lead ≡ leading root
    → leading (take n lead) ++ name ≡ lead ++ rest → found files (leading root ++ rest) ≡ found files (qualified (take n root) name)
along_lead files root lead name rest n within is after =
    ap (λ (x : List ℕ). found files x)
    (ap (λ (l : List ℕ). l ++ rest) (sym is)
    ∙ sym after
    ∙ ap (λ (s : List ℕ). leading s ++ name) (ap (take n) is ∙ take_lead n root within)
    ∙ spelled (take n root) name)

-- ---- a name without a definition

-- what is before a name in a scope of the package, by its length
scope_head : (lead head others : List ℕ) (n start : ℕ) → lead ≡ leading (take n lead) ++ others → start ≡ length lead - length others
    → head ≡ take start lead → head ≡ leading (take n lead)
scope_head lead head others n start is count at =
    let front = leading (take n lead) in
    at ∙ ap (take start) is ∙ take_at front others start (omega (arith, ap length is, length-append front others, count))

not_defined : (files : List FileDefs) (x : List ℕ) (there : Bool) → meaning files x ≡ Undefined → there ≡ is_package files x → of_package there ≡ found files x
not_defined files x there none is = ap of_package is ∙ sym (ap (λ (m : Meaning). found_by (is_package files x) m) none)

pub head_found : (files : List FileDefs) (root lead head others name : List ℕ) (n start : ℕ) → lead ≡ leading root → lead ≡ leading (take n lead) ++ others
    → start ≡ length lead - length others → head ≡ take start lead → found files (head ++ name) ≡ found files (leading (take n (leading root)) ++ name)
head_found files root lead head others name n start is parted count at =
    ap (λ (h : List ℕ). found files (h ++ name)) (scope_head lead head others n start parted count at ∙ ap (λ (l : List ℕ). leading (take n l)) is)

pub head_both : (root lead head others name full : List ℕ) (start : ℕ) → lead ≡ leading root → start ≡ length lead - length others → head ≡ take start lead
    → full ≡ head ++ name → BothBegin start (leading root) full
head_both root lead head others name full start is count at spelled = (
  head,
  ap length at ∙ length-take-le start lead (omega (arith, count)),
  (drop start lead, sym is ∙ sym (take-append-drop start lead) ∙ ap (λ (h : List ℕ). h ++ drop start lead) (sym at)),
  (name, spelled),
)

pub undefined_in : (files own : List FileDefs) (root lead head name full : List ℕ) (start : ℕ) (r : PackageRange) (there : Bool)
    → own ≡ files → lead ≡ leading root → head ≡ take start lead → IsRange own (take start (leading root)) r
    → ((l : List ℕ) → IsRange files l r → 0 < length (l ++ name) → there ≡ is_package files (l ++ name))
    → 0 < length name → full ≡ head ++ name → Undefined ≡ meaning files full
    → of_package there ≡ found files (head ++ name)
undefined_in files own root lead head name full start r there same is at range has some spelled none =
    let here : IsRange files head r =
    subst (λ (l : List ℕ). IsRange files l r) (sym (at ∙ ap (take start) is))
    (subst (λ (fs : List FileDefs). IsRange fs (take start (leading root)) r) same range) in
    not_defined files (head ++ name) there (ap (meaning files) (sym spelled) ∙ sym none) (has head here (omega (arith, some, length-append head name)))

pub defined_in : (files : List FileDefs) (file : List ℕ) (d : Definition) (head name full : List ℕ) → full ≡ head ++ name → Defined file d ≡ meaning files full
    → found_as file d d.kind ≡ found files (head ++ name)
defined_in files file d head name full spelled is =
    ap (λ (m : Meaning). found_by (is_package files (head ++ name)) m) (is ∙ ap (meaning files) spelled)
