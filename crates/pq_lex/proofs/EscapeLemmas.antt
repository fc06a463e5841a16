-- How far escapes go, and what digits write.
use Rattle.std.proofs.Common.{◌≡◌, ◌⊎◌, inl, inr, ℕ, ◌+◌, ◌*◌, ◌^◌, ◌<◌, ◌≤◌, ◌&&◌, ◌||◌, ◌==◌, Bool, true, false, cond, List, length, take, get_or, Option, Some, None, refl, sym, ◌∙◌, ap, arith, nat_lt, nat_le}
use Rattle.std.proofs.lemmas.Bool.Decides.{nat_tests}
use Rattle.std.proofs.lemmas.List.{take_all}
use Rattle.std.proofs.lemmas.Str.Parse.{digits_value-take-le}
use Rattle.std.proofs.lemmas.Int.Digits.{digits_value_more}
use Rattle.std.specs.Str.Parse.{digits_value}
use Rattle.std.specs.Char.{digit_value}
use Rattle.pq_lex.specs.declared.bytes.Set.TheVariants.{Octals, Hexes}
use Rattle.pq_lex.specs.declared.escapes.Meaning.{Meaning}
use Rattle.pq_lex.specs.declared.escapes.Meaning.TheVariants.{Byte, Scalar}
use Rattle.pq_lex.specs.declared.escapes.Escape.{Escape}
use Rattle.pq_lex.specs.Classes.{byte, in_set}
use Rattle.pq_lex.specs.Escapes.{byte_escape, escape_to, in_64_bits, is_high, is_low, paired, pair_escape, scalar_escape, short_escape, long_escape, named, named_escape, unit_at, hex_digits, digits_end, number, escape_at}

-- a test that lets something through holds
let_through : {A : Type 0} (b : Bool) (x : Option A) (e : A) → cond b x None ≡ Some e → (b ≡ true) × (x ≡ Some e)
let_through true x e h = (refl, h)
let_through false x e h = cc

one_of : {A : Type 0} (b : Bool) (x y : Option A) (e : A) → cond b x y ≡ Some e → (x ≡ Some e) ⊎ (y ≡ Some e)
one_of true x y e h = inl h
one_of false x y e h = inr h

end_is : (n : ℕ) (m : Meaning) (e : Escape) → Some (escape_to n m) ≡ Some e → n ≡ e.end
end_is n m e h = cc

byte_further : (radix : ℕ) (text : List ℕ) (i n : ℕ) (e : Escape) → byte_escape radix text i n ≡ Some e → i < e.end
byte_further radix text i n e h =
    let t = let_through (nat_lt i n && nat_le (number radix text i n) 255) _ e h in
    let s = end_is n _ e t.1 in
    grind (arith, nat_tests, t.0, s)

scalar_further : (n c : ℕ) (e : Escape) → scalar_escape n c ≡ Some e → n ≤ e.end
scalar_further n c e h = omega (arith, end_is n (Scalar c) e (let_through _ (Some (escape_to n (Scalar c))) e h).1)

pair_further : (n high : ℕ) (low : Option ℕ) (e : Escape) → pair_escape n high low ≡ Some e → n ≤ e.end
pair_further n high (Some low) e h = omega (arith, end_is (n + 6) (Scalar (paired high low)) e (let_through (is_low low) (Some (escape_to (n + 6) (Scalar (paired high low)))) e h).1)
pair_further n high None e h = cc

short_further : (text : List ℕ) (n : ℕ) (unit : Option ℕ) (e : Escape) → short_escape text n unit ≡ Some e → n ≤ e.end
short_further text n (Some c) e h = elim (one_of (is_high c) (pair_escape n c (unit_at text n)) (scalar_escape n c) e h) [
  | inl p ↦ pair_further n c (unit_at text n) e p
  | inr s ↦ scalar_further n c e s
]
short_further text n None e h = cc

long_further : (n : ℕ) (unit : Option ℕ) (e : Escape) → long_escape n unit ≡ Some e → n ≤ e.end
long_further n (Some c) e h = scalar_further n c e h
long_further n None e h = cc

named_further : (n : ℕ) (b : Option ℕ) (e : Escape) → named_escape n b ≡ Some e → n ≤ e.end
named_further n (Some b) e h = omega (arith, end_is n (Byte b) e h)
named_further n None e h = cc

-- an escape goes past its backslash
pub escape_further : (text : List ℕ) (i : ℕ) (e : Escape) → escape_at text i ≡ Some e → i < e.end
unfolding escape_at
escape_further text i e h =
    let octal = byte_escape 8 text (i + 1) (digits_end Octals 3 text (i + 1)) in
    let hexadecimal = byte_escape 16 text (i + 2) (digits_end Hexes 2 text (i + 2)) in
    let short = short_escape text (i + 6) (unit_at text i) in
    let long = long_escape (i + 10) (hex_digits 8 text (i + 2)) in
    let other = named_escape (i + 2) (named (byte text (i + 1))) in
    let b = byte text (i + 1) in
    let last = cond (b == 85) long other in
    let later = cond (b == 117) short last in
    elim (one_of (in_set Octals b) octal (cond (b == 120 || b == 88) hexadecimal later) e h) [
      | inl o ↦ let g : i + 1 < e.end = byte_further 8 text (i + 1) (digits_end Octals 3 text (i + 1)) e o in omega arith
      | inr h1 ↦ elim (one_of (b == 120 || b == 88) hexadecimal later e h1) [
        | inl o ↦ let g : i + 2 < e.end = byte_further 16 text (i + 2) (digits_end Hexes 2 text (i + 2)) e o in omega arith
        | inr h2 ↦ elim (one_of (b == 117) short last e h2) [
          | inl o ↦ let g : i + 6 ≤ e.end = short_further text (i + 6) (unit_at text i) e o in omega arith
          | inr h3 ↦ elim (one_of (b == 85) long other e h3) [
            | inl o ↦ let g : i + 10 ≤ e.end = long_further (i + 10) (hex_digits 8 text (i + 2)) e o in omega arith
            | inr o ↦ let g : i + 2 ≤ e.end = named_further (i + 2) (named b) e o in omega arith
          ]
        ]
      ]
    ]

past : (n : ℕ) → 2 ^ 64 ≤ n → in_64_bits n ≡ None
past n h = grind (arith, nat_tests, h)

fits : (n m : ℕ) → in_64_bits n ≡ Some m → n ≡ m
fits n m h = let t = let_through (nat_lt n (2 ^ 64)) (Some n) m h in cc

too_large : (n : ℕ) → in_64_bits n ≡ None → 2 ^ 64 ≤ n
too_large n h = grind (arith, nat_tests, h)

-- digits past which 64 bits do not go
pub none_more : (radix : ℕ) (ds : List ℕ) (i v : ℕ) → 1 ≤ radix → i < length ds → v ≡ digits_value radix (take i ds) → in_64_bits (v * radix + digit_value (get_or ds i 0)) ≡ None → in_64_bits (digits_value radix ds) ≡ None
none_more radix ds i v one within is none =
    let step = digits_value_more radix ds i within in
    let less = digits_value-take-le radix ds (i + 1) one in
    let large : 2 ^ 64 ≤ digits_value radix (take (i + 1) ds) = rw (step, ← is) (too_large _ none) in
    past _ (omega (arith, large, less))

pub some_more : (radix : ℕ) (ds : List ℕ) (i v w : ℕ) → i < length ds → v ≡ digits_value radix (take i ds) → in_64_bits (v * radix + digit_value (get_or ds i 0)) ≡ Some w → w ≡ digits_value radix (take (i + 1) ds)
some_more radix ds i v w within is some = rw (digits_value_more radix ds i within, ← is) (sym (fits _ _ some))

pub all_read : (radix : ℕ) (ds : List ℕ) (i v : ℕ) → length ds ≤ i → v < 2 ^ 64 → v ≡ digits_value radix (take i ds) → Some v ≡ in_64_bits (digits_value radix ds)
all_read radix ds i v all fit is =
    let e : v ≡ digits_value radix ds = is ∙ ap (digits_value radix) (take_all i ds all) in
    rw (← e) (grind (arith, nat_tests, fit))

pub in_range : (n m : ℕ) → in_64_bits n ≡ Some m → m < 2 ^ 64
in_range n m h =
    let t = let_through (nat_lt n (2 ^ 64)) (Some n) m h in
    let e : n ≡ m = cc in
    grind (arith, nat_tests, t.0, e)
