-- Keys that tie are equal: numbers, owners and names; and what ranges of keys have.
use Rattle.std.proofs.Common.{◌≡◌, ℕ, ℤ, pos, negsuc, Bool, true, false, cond, List, [], ◌∷◌, refl, sym, ap, ◌∙◌, arith, nat_lt, nat_le}
use Rattle.std.specs.Prelude.{◌&&◌, ◌||◌, Option, Some, None, is_some, int_le, nat_eq, bytes_eq, flat_map}
use Rattle.std.specs.List.{list_any}
use Rattle.std.specs.Option.{option_eq, option_cmp}
use Rattle.std.specs.Ordering.{is_eq, is_le, ordering_then, ordering_reverse, nat_cmp, int_cmp, int_eq}
use Rattle.std.specs.Cmp.{unsigned_tied, nat_cmp_total, int_cmp_total}
use Rattle.std.specs.Cmp.Lexicographic.{options_total, slice_cmp}
use Rattle.std.specs.declared.cmp.Ordering.{Ordering}
use Rattle.std.specs.declared.cmp.Ordering.TheVariants.{Less, Equal, Greater}
use Rattle.std.proofs.lemmas.Bool.Decides.{nat_tests, same_from_decides, Decides-like}
use Rattle.std.proofs.lemmas.Cmp.{eq_by_cmp_equiv}
use Rattle.std.proofs.lemmas.Slice.Eq.{bytes_eq-Decides}
use Rattle.std.proofs.lemmas.List.Folds.{list_any-append}
use Rattle.std.proofs.lemmas.Map.Text.{is_eq-slice_cmp}
use Rattle.pq_checks.specs.Faults.{same_item, has_number, is_reserved, covers}
use Rattle.pq_checks.specs.Members.{Member, ReservedName}
use Rattle.pq_checks.specs.Numbers.{Limits, number_in, bounds_of, is_between}
use Rattle.pq_checks.specs.Owners.{limits_by}
use Rattle.pq_checks.specs.aux.Cover.{is_within, is_covered}
use Rattle.pq_checks.specs.aux.Lines.{Key, key_cmp, stair, stair_of, NameKey, name_cmp}
use Rattle.pq_checks.specs.aux.Sets.{is_number, is_name}
use Rattle.pq_checks.specs.declared.tree.members.Reserved.{Reserved}
use Rattle.pq_checks.specs.declared.tree.numbers.Bounds.{Bounds}

-- ---- numbers and owners

eq_then : (p q : Ordering) → is_eq (ordering_then p q) ≡ (is_eq p && is_eq q)
eq_then Less q = refl
eq_then Equal q = refl
eq_then Greater q = refl

int_tied : (x y : ℤ) → is_eq (int_cmp x y) ≡ int_eq x y
int_tied x y = refl

tested : (a b : ℕ) (p q : Bool) → nat_lt a b ≡ p → nat_lt b a ≡ q → is_le (cond p Less (cond q Greater Equal)) ≡ nat_le a b
tested a b true q e f = grind (arith, nat_tests)
tested a b false true e f = grind (arith, nat_tests)
tested a b false false e f = grind (arith, nat_tests)

int_le_is : (x y : ℤ) → is_le (int_cmp x y) ≡ int_le x y
int_le_is (pos a) (pos b) = tested a b (nat_lt a b) (nat_lt b a) refl refl
int_le_is (pos a) (negsuc b) = refl
int_le_is (negsuc a) (pos b) = refl
int_le_is (negsuc a) (negsuc b) = tested b a (nat_lt b a) (nat_lt a b) refl refl

option_tied : {A : Type 0} (R : A → A → Ordering) (E : A → A → Bool) → ((x y : A) → is_eq (R x y) ≡ E x y) → (a b : Option A) → is_eq (option_cmp R a b) ≡ option_eq E a b
option_tied R E same None None = refl
option_tied R E same None (Some y) = refl
option_tied R E same (Some x) None = refl
option_tied R E same (Some x) (Some y) = same x y

item_tied : (a b : Option ℕ) → is_eq (option_cmp nat_cmp a b) ≡ same_item a b
item_tied a b = option_tied nat_cmp nat_eq unsigned_tied a b

-- a tie, the other way round
pub item_back : (k q : Option ℕ) → is_eq (option_cmp nat_cmp k q) ≡ same_item q k
item_back k q = (eq_by_cmp_equiv (options_total nat_cmp_total)).symm k q ∙ item_tied q k

number_back : (k q : Option ℤ) → is_eq (option_cmp int_cmp k q) ≡ option_eq int_eq q k
number_back k q = (eq_by_cmp_equiv (options_total int_cmp_total)).symm k q ∙ option_tied int_cmp int_eq int_tied q k

-- which keys tie with the key of a member
pub number_tied : (limits : Limits) (m : Member) (z : Option ℤ) (q : Key) → z ≡ number_in limits m.number
    → is_eq (key_cmp (m.owner, z) q) ≡ is_number limits q m
number_tied limits m z q is =
    eq_then (option_cmp nat_cmp m.owner q.0) (option_cmp int_cmp z q.1)
    ∙ ap (λ c. c && is_eq (option_cmp int_cmp z q.1)) (item_back m.owner q.0)
    ∙ ap (λ c. same_item q.0 m.owner && c) (number_back z q.1 ∙ ap (λ (y : Option ℤ). option_eq int_eq q.1 y) is)

none_false : (b : Bool) → (b && false) ≡ false
none_false true = refl
none_false false = refl

and_true_right : (b : Bool) → (b && true) ≡ b
and_true_right true = refl
and_true_right false = refl

-- whether an earlier member of the owner has the number
pub twice_is : (limits : Limits) (earlier : List Member) (owner : Option ℕ) (z : Option ℤ)
    → (list_any (is_number limits (owner, z)) earlier && is_some z) ≡ has_number limits owner z earlier
twice_is limits earlier owner None = none_false (list_any (is_number limits (owner, None)) earlier)
twice_is limits earlier owner (Some z) = and_true_right (list_any (is_number limits (owner, Some z)) earlier)

-- ---- reserved ranges

within_logic : (c back : Ordering) (m : Bool) (p q : Ordering) (f l : Bool) → back ≡ ordering_reverse c → m ≡ is_eq c → is_le p ≡ f → is_le q ≡ l
    → (is_le (ordering_then back p) && is_le (ordering_then c q)) ≡ (m && (f && l))
within_logic Less back m p q f l e d g h = rw (e, d) refl
within_logic Equal back m p q f l e d g h = rw (e, d) (ap (λ b. b && is_le q) g ∙ ap (λ b. f && b) h)
within_logic Greater back m p q f l e d g h = rw (e, d) (less_first p)
  where
    less_first : (p : Ordering) → (is_le (ordering_then Less p) && false) ≡ false
    less_first p = refl

within_stair : (w o : Option ℕ) (b : Bounds) (z : ℤ)
    → is_within key_cmp (w, Some z) ((o, Some b.first), (o, Some b.last)) ≡ (same_item w o && is_between b.first b.last z)
within_stair w o b z =
    within_logic (option_cmp nat_cmp w o) (option_cmp nat_cmp o w) (same_item w o) (int_cmp b.first z) (int_cmp z b.last) (int_le b.first z) (int_le z b.last)
    ((options_total nat_cmp_total).antisymm o w) (sym (item_tied w o)) (int_le_is b.first z) (int_le_is z b.last)

or_false_right : (b : Bool) → (b || false) ≡ b
or_false_right true = refl
or_false_right false = refl

-- whether a reserved range of the owner has the number
pub covered_is : (rs : List Reserved) (w : Option ℕ) (z : Option ℤ) → (is_covered key_cmp (flat_map stair_of rs) (w, z) && is_some z) ≡ is_reserved w z rs
covered_is rs w None = none_false (is_covered key_cmp (flat_map stair_of rs) (w, None))
covered_is rs w (Some z) = and_true_right (is_covered key_cmp (flat_map stair_of rs) (w, Some z)) ∙ each rs
  where
    one : (o : Option ℕ) (b : Option Bounds) → list_any (is_within key_cmp (w, Some z)) (stair o b) ≡ (same_item w o && covers b z)
    one o None = sym (none_false (same_item w o))
    one o (Some b) = or_false_right (is_within key_cmp (w, Some z) ((o, Some b.first), (o, Some b.last))) ∙ within_stair w o b z

    each : (rs : List Reserved) → is_covered key_cmp (flat_map stair_of rs) (w, Some z) ≡ list_any (λ (r : Reserved). same_item w r.owner && covers (bounds_of (limits_by r.in_enum) r.range) z) rs
    each [] = refl
    each (r ∷ rs) =
        list_any-append (is_within key_cmp (w, Some z)) (stair_of r) (flat_map stair_of rs)
        ∙ ap (λ b. b || is_covered key_cmp (flat_map stair_of rs) (w, Some z)) (one r.owner (bounds_of (limits_by r.in_enum) r.range))
        ∙ ap (λ b. (same_item w r.owner && covers (bounds_of (limits_by r.in_enum) r.range) z) || b) (each rs)

-- ---- names

turned : (xs ys : List ℕ) → bytes_eq xs ys ≡ bytes_eq ys xs
turned xs ys =
    same_from_decides (bytes_eq xs ys) (bytes_eq ys xs) (bytes_eq-Decides xs ys)
    (Decides-like (bytes_eq ys xs) (λ e. sym e) (λ e. sym e) (bytes_eq-Decides ys xs))

-- which texts tie with the text `text`
pub text_back : (k q text : List ℕ) → k ≡ text → is_eq (slice_cmp nat_cmp k q) ≡ bytes_eq q text
text_back k q text is = is_eq-slice_cmp k q ∙ turned k q ∙ ap (λ n. bytes_eq q n) is

-- which keys tie with the key of a reserved name
pub name_back : (k q : NameKey) (n : ReservedName) → k.0 ≡ n.owner → k.1.now ≡ n.value → is_eq (name_cmp k q) ≡ is_name q n
name_back k q n owner value =
    eq_then (option_cmp nat_cmp k.0 q.0) (slice_cmp nat_cmp k.1.now q.1.now)
    ∙ ap (λ c. c && is_eq (slice_cmp nat_cmp k.1.now q.1.now)) (item_back k.0 q.0 ∙ ap (λ (o : Option ℕ). same_item q.0 o) owner)
    ∙ ap (λ c. same_item q.0 n.owner && c) (text_back k.1.now q.1.now n.value value)
