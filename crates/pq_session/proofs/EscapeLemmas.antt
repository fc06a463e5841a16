-- The escapes of a printed path, and that they come back.
use Rattle.std.proofs.Common.{◌≡◌, refl, sym, ◌∙◌, ap, subst, ℕ, ◌<◌, ◌≤◌, List, [], ◌∷◌, ◌++◌, append_assoc, Bool, true, false, not, ltb, All, arith}
use Rattle.std.specs.Prelude.{codes, IsUtf8, if◌then◌else◌, ◌&&◌}
use Rattle.std.specs.Char.{IsScalar, encode_utf8}
use Rattle.std.specs.Str.{all_scalars, encode_utf8_all}
use Rattle.std.proofs.lemmas.Bool.{agree_below, agree_below_at, cond_both, cond-true, cond-false}
use Rattle.std.proofs.lemmas.Bool.Decides.{nat_tests}
use Rattle.std.proofs.lemmas.Grind.{flat_map-append}
use Rattle.std.proofs.lemmas.List.Elements.{All-nil, All-cons, All-append}
use Rattle.percent_encoding.specs.AsciiSet.{contains, should_percent_encode}
use Rattle.percent_encoding.specs.Percent.{encode_byte, percent_encode, percent_encode_byte, percent_decode}
use Rattle.percent_encoding.proofs.PercentLemmas.{IsByte, round_trip}
use Rattle.pq_session.specs.declared.protocol.uris.TheConstants.{ESCAPED}
use Rattle.pq_session.specs.Uri.{is_kept, is_absolute, encoded, uri_of}

-- ---- the set of bytes

agrees : agree_below (should_percent_encode ESCAPED) (λ b. not (is_kept b)) 128 ≡ true
unfolding should_percent_encode
agrees = refl

high_escaped : (b : ℕ) → 128 ≤ b → should_percent_encode ESCAPED b ≡ true
unfolding should_percent_encode
high_escaped b high = grind (arith, nat_tests)

high_not_kept : (b : ℕ) → 128 ≤ b → is_kept b ≡ false
high_not_kept b high = grind (arith, nat_tests)

escape_by : (b : ℕ) (t : Bool) → ltb b 128 ≡ t → should_percent_encode ESCAPED b ≡ not (is_kept b)
escape_by b true e = agree_below_at (should_percent_encode ESCAPED) (λ (x : ℕ). not (is_kept x)) 128 b agrees (grind (arith, nat_tests))
escape_by b false e = let high : 128 ≤ b = grind (arith, nat_tests) in high_escaped b high ∙ sym (ap not (high_not_kept b high))

turned : (kept : Bool) (xs ys : List ℕ) → (if not kept then xs else ys) ≡ (if kept then ys else xs)
turned true xs ys = refl
turned false xs ys = refl

byte_encoded : (b : ℕ) → encode_byte ESCAPED b ≡ (if is_kept b then b ∷ [] else percent_encode_byte b)
byte_encoded b = ap (λ (t : Bool). if t then percent_encode_byte b else b ∷ []) (escape_by b (ltb b 128) refl) ∙ turned (is_kept b) (percent_encode_byte b) (b ∷ [])

-- the definition is the crate's encoding with this set
pub encoded_is : (bs : List ℕ) → percent_encode ESCAPED bs ≡ encoded bs
unfolding percent_encode encoded
encoded_is [] = refl
encoded_is (b ∷ bs) = ap (λ (x : List ℕ). x ++ percent_encode ESCAPED bs) (byte_encoded b) ∙ ap (λ (x : List ℕ). (if is_kept b then b ∷ [] else percent_encode_byte b) ++ x) (encoded_is bs)

-- ---- printing by parts

pub encoded_append : (xs ys : List ℕ) → encoded (xs ++ ys) ≡ encoded xs ++ encoded ys
unfolding encoded
encoded_append xs ys = flat_map-append (λ b. if is_kept b then b ∷ [] else percent_encode_byte b) xs ys

pub encoded_slash : (t : List ℕ) → encoded (47 ∷ t) ≡ 47 ∷ encoded t
unfolding encoded
encoded_slash t = refl

pub uri_absolute : (root name : List ℕ) → is_absolute name ≡ true → codes "file://" ++ encoded name ≡ uri_of root name
unfolding uri_of
uri_absolute root name e = ap (λ (x : List ℕ). codes "file://" ++ encoded x) (sym (cond-true _ _ _ e))

pub uri_relative : (root name : List ℕ) → is_absolute name ≡ false → ((codes "file://" ++ encoded root) ++ codes "/") ++ encoded name ≡ uri_of root name
unfolding uri_of
uri_relative root name e =
    let whole : encoded root ++ 47 ∷ encoded name ≡ encoded (root ++ 47 ∷ name) = ap (λ (x : List ℕ). encoded root ++ x) (sym (encoded_slash name)) ∙ sym (encoded_append root (47 ∷ name)) in
    append_assoc (codes "file://" ++ encoded root) (codes "/") (encoded name)
    ∙ append_assoc (codes "file://") (encoded root) (47 ∷ encoded name)
    ∙ ap (λ (x : List ℕ). codes "file://" ++ x) whole
    ∙ ap (λ (x : List ℕ). codes "file://" ++ encoded x) (sym (cond-false _ _ _ e))

-- ---- the bytes of UTF-8

one : (a : ℕ) → a < 256 → All IsByte (a ∷ [])
one a p = All-cons IsByte a [] p (All-nil IsByte)

two : (a b : ℕ) → a < 256 → b < 256 → All IsByte (a ∷ b ∷ [])
two a b p q = All-cons IsByte a (b ∷ []) p (one b q)

three : (a b c : ℕ) → a < 256 → b < 256 → c < 256 → All IsByte (a ∷ b ∷ c ∷ [])
three a b c p q r = All-cons IsByte a (b ∷ c ∷ []) p (two b c q r)

four : (a b c d : ℕ) → a < 256 → b < 256 → c < 256 → d < 256 → All IsByte (a ∷ b ∷ c ∷ d ∷ [])
four a b c d p q r s = All-cons IsByte a (b ∷ c ∷ d ∷ []) p (three b c d q r s)

scalar_small : (c : ℕ) → IsScalar c → c < 1114112
scalar_small c ok = grind (arith, nat_tests)

char_bytes : (c : ℕ) → c < 1114112 → All IsByte (encode_utf8 c)
unfolding encode_utf8
char_bytes c small =
    cond_both (ltb c 128) _ _ (All IsByte) (λ e. one c (grind (arith, nat_tests)))
    (λ _. cond_both (ltb c 2048) _ _ (All IsByte) (λ e. let low : c < 2048 = grind (arith, nat_tests) in two _ _ (omega arith) (omega arith))
    (λ _. cond_both (ltb c 65536) _ _ (All IsByte) (λ e. let low : c < 65536 = grind (arith, nat_tests) in three _ _ _ (omega arith) (omega arith) (omega arith))
    (λ _. four _ _ _ _ (omega arith) (omega arith) (omega arith) (omega arith))))

both_tests : (a b : Bool) → (a && b) ≡ true → (a ≡ true) × (b ≡ true)
both_tests true b e = (refl, e)
both_tests false b e = absurd (cc e)

chars_bytes : (cs : List ℕ) → all_scalars cs ≡ true → All IsByte (encode_utf8_all cs)
chars_bytes [] e = All-nil IsByte
chars_bytes (c ∷ cs) e = let p = both_tests _ (all_scalars cs) e in All-append IsByte (encode_utf8 c) (encode_utf8_all cs) (char_bytes c (scalar_small c p.0)) (chars_bytes cs p.1)

pub utf8_bytes : (bs : List ℕ) → IsUtf8 bs → All IsByte bs
utf8_bytes bs u = subst (All IsByte) u.1.1 (chars_bytes u.0 u.1.0)

-- ---- reading what was printed

has_percent : contains ESCAPED 37 ≡ true
has_percent = refl

pub decoded_encoded : (bs : List ℕ) → IsUtf8 bs → percent_decode (encoded bs) ≡ bs
decoded_encoded bs u = ap percent_decode (sym (encoded_is bs)) ∙ round_trip ESCAPED bs has_percent (utf8_bytes bs u)
