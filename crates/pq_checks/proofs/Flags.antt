-- What the code looks up of each member of a list, and the lines that it says by that.
use Rattle.std.proofs.Common.{◌≡◌, ℕ, ℤ, ◌<◌, ◌≤◌, Bool, not, List, map, length, get_or, sym, ◌∙◌, ap, arith}
use Rattle.std.specs.Prelude.{◌&&◌, is_some, flat_map, Option}
use Rattle.std.specs.List.{list_any}
use Rattle.pq_checks.specs.Faults.{field_faults, field_number_faults, value_faults, value_number_faults, has_number, is_reserved, allows_alias, is_first}
use Rattle.pq_checks.specs.Members.{Member, Opted}
use Rattle.pq_checks.specs.Numbers.{field_limits, enum_limits, number_in}
use Rattle.pq_checks.specs.aux.Cover.{is_covered}
use Rattle.pq_checks.specs.aux.Lines.{key_cmp, stair_of}
use Rattle.pq_checks.specs.aux.Sets.{is_number}
use Rattle.pq_checks.specs.declared.tree.members.Reserved.{Reserved}
use Rattle.pq_checks.proofs.Ties.{twice_is, covered_is}
use Rattle.std.proofs.lemmas.List.{length-map}
use Rattle.pq_checks.proofs.Taken.{map_at}

-- what contracts see of the thing at `i`
pub seen_at : {X A : Type 0} (h : X → A) (xs : List X) (i : ℕ) (x : X) → i < length xs → x ≡ get_or xs i x → h x ≡ get_or (map h xs) i (h x)
seen_at h xs i x lt at = sym (map_at h xs i (h x) x lt ∙ ap h (sym at))

pub seen_within : {X A : Type 0} (h : X → A) (xs : List X) (i : ℕ) → i < length xs → i < length (map h xs)
seen_within h xs i lt = omega (arith, length-map xs h)

pub seen_past : {X A : Type 0} (h : X → A) (xs : List X) (i : ℕ) → length xs ≤ i → length (map h xs) ≤ i
seen_past h xs i past = omega (arith, length-map xs h)

-- ---- lines

-- the lines of a field, by what is looked up
pub field_lines_are : (rs : List Reserved) (earlier : List Member) (f : Member) (z : Option ℤ) (repeated covered : Bool)
    → z ≡ number_in field_limits f.number
    → repeated ≡ list_any (is_number field_limits (f.owner, z)) earlier
    → covered ≡ is_covered key_cmp (flat_map stair_of rs) (f.owner, z)
    → field_faults z (repeated && is_some z) (covered && is_some z) f ≡ field_number_faults rs earlier f
field_lines_are rs earlier f z repeated covered number again taken =
    ap (λ (b : Bool). field_faults z b (covered && is_some z) f) (ap (λ (b : Bool). b && is_some z) again ∙ twice_is field_limits earlier f.owner z)
    ∙ ap (λ (b : Bool). field_faults z (has_number field_limits f.owner z earlier) b f) (ap (λ (b : Bool). b && is_some z) taken ∙ covered_is rs f.owner z)
    ∙ ap (λ (y : Option ℤ). field_faults y (has_number field_limits f.owner y earlier) (is_reserved f.owner y rs) f) number

-- the lines of an enum value, by what is looked up
pub value_lines_are : (rs : List Reserved) (options : List Opted) (earlier : List Member) (v : Member) (z : Option ℤ) (first repeated allowed covered : Bool)
    → z ≡ number_in enum_limits v.number
    → first ≡ is_first v earlier
    → repeated ≡ list_any (is_number enum_limits (v.owner, z)) earlier
    → allowed ≡ allows_alias options v.owner
    → covered ≡ is_covered key_cmp (flat_map stair_of rs) (v.owner, z)
    → value_faults z first ((repeated && is_some z) && not allowed) (covered && is_some z) v ≡ value_number_faults rs options earlier v
value_lines_are rs options earlier v z first repeated allowed covered number begins again alias taken =
    ap (λ (b : Bool). value_faults z b ((repeated && is_some z) && not allowed) (covered && is_some z) v) begins
    ∙ ap (λ (b : Bool). value_faults z (is_first v earlier) (b && not allowed) (covered && is_some z) v) (ap (λ (b : Bool). b && is_some z) again ∙ twice_is enum_limits earlier v.owner z)
    ∙ ap (λ (b : Bool). value_faults z (is_first v earlier) (has_number enum_limits v.owner z earlier && not b) (covered && is_some z) v) alias
    ∙ ap (λ (b : Bool). value_faults z (is_first v earlier) (has_number enum_limits v.owner z earlier && not (allows_alias options v.owner)) b v) (ap (λ (b : Bool). b && is_some z) taken ∙ covered_is rs v.owner z)
    ∙ ap (λ (y : Option ℤ). value_faults y (is_first v earlier) (has_number enum_limits v.owner y earlier && not (allows_alias options v.owner)) (is_reserved v.owner y rs) v) number
