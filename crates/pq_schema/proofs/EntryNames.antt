-- The name of an entry is a text where the name of its field is: `camel` keeps each byte of a
-- character that is not ASCII.
use Rattle.std.proofs.Common.{◌≡◌, ℕ, ◌-◌, ◌<◌, ◌≤◌, Bool, true, false, cond, ◌&&◌, ◌||◌, nat_eq, nat_lt, nat_le, length, drop, List, [], ◌∷◌, ◌++◌, refl, sym, ap, ◌∙◌, arith, append-nil}
use Rattle.std.specs.Prelude.{codes}
use Rattle.std.specs.Str.{IsUtf8}
use lib.Utf8.{scalar, scalars, encode, encodes, low_scalar}
use Rattle.std.proofs.lemmas.Bool.Decides.{nat_tests}
use Rattle.std.proofs.lemmas.List.{at_drop_all}
use Rattle.std.proofs.lemmas.Str.{encode_ascii, IsUtf8-append}
use Rattle.pq_schema.proofs.Cases.{either}
use Rattle.pq_schema.specs.Definitions.{camel, is_small, is_letter, capital, entry_name}

and_false : (a b : Bool) → b ≡ false → (a && b) ≡ false
and_false true b e = e
and_false false b e = refl

-- ---- a byte of a character that is not ASCII

not_letter : (b : ℕ) → 128 ≤ b → is_letter b ≡ false
not_letter b h =
    let small : nat_le b 122 ≡ false = grind (arith, nat_tests) in
    let big : nat_le b 90 ≡ false = grind (arith, nat_tests) in
    let s : is_small b ≡ false = and_false (nat_le 97 b) (nat_le b 122) small in
    ap (λ x. x || (nat_le 65 b && nat_le b 90)) s ∙ and_false (nat_le 65 b) (nat_le b 90) big

other_byte : (first after : Bool) (b : ℕ) (bs : List ℕ) → nat_eq b 95 ≡ false → is_letter b ≡ false
    → camel first after (b ∷ bs) ≡ b ∷ camel first false bs
unfolding camel
other_byte first after b bs n l =
    ap (λ x. cond x (camel first true bs) (cond (is_letter b) (cond (first || after) (capital b) b ∷ camel false false bs) (b ∷ camel first false bs))) n
    ∙ ap (λ x. cond x (cond (first || after) (capital b) b ∷ camel false false bs) (b ∷ camel first false bs)) l

high_byte : (first after : Bool) (b : ℕ) (bs : List ℕ) → 128 ≤ b → camel first after (b ∷ bs) ≡ b ∷ camel first false bs
high_byte first after b bs h =
    let n : nat_eq b 95 ≡ false = grind (arith, nat_tests) in
    other_byte first after b bs n (not_letter b h)

abbrev Keeps : Bool → Bool → List ℕ → List ℕ → Type 0
Keeps first after bs e = camel first after (e ++ bs) ≡ e ++ camel first false bs

high_two : (first after : Bool) (bs : List ℕ) (x y : ℕ) → 128 ≤ x → 128 ≤ y → Keeps first after bs (x ∷ y ∷ [])
high_two first after bs x y hx hy = high_byte first after x (y ∷ bs) hx ∙ ap (λ r. x ∷ r) (high_byte first false y bs hy)

high_three : (first after : Bool) (bs : List ℕ) (x y z : ℕ) → 128 ≤ x → 128 ≤ y → 128 ≤ z → Keeps first after bs (x ∷ y ∷ z ∷ [])
high_three first after bs x y z hx hy hz = high_byte first after x (y ∷ z ∷ bs) hx ∙ ap (λ r. x ∷ r) (high_two first false bs y z hy hz)

high_four : (first after : Bool) (bs : List ℕ) (x y z w : ℕ) → 128 ≤ x → 128 ≤ y → 128 ≤ z → 128 ≤ w → Keeps first after bs (x ∷ y ∷ z ∷ w ∷ [])
high_four first after bs x y z w hx hy hz hw = high_byte first after x (y ∷ z ∷ w ∷ bs) hx ∙ ap (λ r. x ∷ r) (high_three first false bs y z w hy hz hw)

by_tests : (P : List ℕ → Type 0) (a b c : Bool) (one two three four : List ℕ) → a ≡ false → P two → P three → P four
    → P (cond a one (cond b two (cond c three four)))
by_tests P true b c one two three four e p q r = cc
by_tests P false true c one two three four e p q r = p
by_tests P false false true one two three four e p q r = q
by_tests P false false false one two three four e p q r = r

high_char : (first after : Bool) (c : ℕ) (bs : List ℕ) → 128 ≤ c → Keeps first after bs (encode c)
unfolding encode
high_char first after c bs h =
    let a : nat_lt c 128 ≡ false = grind (arith, nat_tests) in
    by_tests (Keeps first after bs) (nat_lt c 128) (nat_lt c 2048) (nat_lt c 65536) _ _ _ _ a
    (high_two first after bs _ _ (omega arith) (omega arith))
    (high_three first after bs _ _ _ (omega arith) (omega arith) (omega arith))
    (high_four first after bs _ _ _ _ (omega arith) (omega arith) (omega arith) (omega arith))

-- ---- the characters

capital_below : (c : ℕ) → c < 128 → capital c < 128
capital_below c h = either (is_small c) (λ b. cond b (c - 32) c < 128) (λ _. omega arith) (λ _. h)

letter_below : (b : Bool) (c : ℕ) → c < 128 → cond b (capital c) c < 128
letter_below true c h = capital_below c h
letter_below false c h = h

ascii_more : (x : ℕ) (cs : List ℕ) → x < 128 → x ∷ encodes cs ≡ encodes (x ∷ cs)
ascii_more x cs h = ap (λ e. e ++ encodes cs) (sym (encode_ascii x h))

encodes_camel : (first after : Bool) (cs : List ℕ) → camel first after (encodes cs) ≡ encodes (camel first after cs)
unfolding camel
encodes_camel first after [] = refl
encodes_camel first after (c ∷ cs) = either (nat_lt c 128) (λ _. camel first after (encode c ++ encodes cs) ≡ encodes (camel first after (c ∷ cs)))
    (λ low. let h : c < 128 = grind (arith, nat_tests) in
    ap (λ e. camel first after (e ++ encodes cs)) (encode_ascii c h)
    ∙ either (nat_eq c 95) (λ u. cond u (camel first true (encodes cs)) (cond (is_letter c) (cond (first || after) (capital c) c ∷ camel false false (encodes cs)) (c ∷ camel first false (encodes cs)))
    ≡ encodes (cond u (camel first true cs) (cond (is_letter c) (cond (first || after) (capital c) c ∷ camel false false cs) (c ∷ camel first false cs))))
    (λ _. encodes_camel first true cs)
    (λ _. either (is_letter c) (λ l. cond l (cond (first || after) (capital c) c ∷ camel false false (encodes cs)) (c ∷ camel first false (encodes cs))
    ≡ encodes (cond l (cond (first || after) (capital c) c ∷ camel false false cs) (c ∷ camel first false cs)))
    (λ _. ap (λ r. cond (first || after) (capital c) c ∷ r) (encodes_camel false false cs) ∙ ascii_more (cond (first || after) (capital c) c) (camel false false cs) (letter_below (first || after) c h))
    (λ _. ap (λ r. c ∷ r) (encodes_camel first false cs) ∙ ascii_more c (camel first false cs) h)))
    (λ high. let h : 128 ≤ c = grind (arith, nat_tests) in
    high_char first after c (encodes cs) h
    ∙ ap (λ r. encode c ++ r) (encodes_camel first false cs)
    ∙ ap encodes (sym (high_byte first after c cs h)))

and_true : (a b : Bool) → (a && b) ≡ true → (a ≡ true) × (b ≡ true)
and_true true true e = (refl, refl)
and_true true false e = cc
and_true false b e = cc

both : (a b : Bool) → a ≡ true → b ≡ true → (a && b) ≡ true
both true b e f = f
both false b e f = cc

letter_scalar : (b : Bool) (c : ℕ) → is_letter c ≡ true → scalar (cond b (capital c) c) ≡ true
letter_scalar b c l =
    let small : c < 128 = either (nat_lt c 128) (λ _. c < 128) (λ t. grind (arith, nat_tests))
    (λ f. let h : 128 ≤ c = grind (arith, nat_tests) in let n = not_letter c h in cc) in
    let below : cond b (capital c) c < 128 = letter_below b c small in
    low_scalar (cond b (capital c) c) (omega arith)

scalars_camel : (first after : Bool) (cs : List ℕ) → scalars cs ≡ true → scalars (camel first after cs) ≡ true
unfolding camel
scalars_camel first after [] s = refl
scalars_camel first after (c ∷ cs) s =
    let parts = and_true (scalar c) (scalars cs) s in
    either (nat_eq c 95) (λ u. scalars (cond u (camel first true cs) (cond (is_letter c) (cond (first || after) (capital c) c ∷ camel false false cs) (c ∷ camel first false cs))) ≡ true)
    (λ _. scalars_camel first true cs parts.1)
    (λ _. either (is_letter c) (λ l. scalars (cond l (cond (first || after) (capital c) c ∷ camel false false cs) (c ∷ camel first false cs)) ≡ true)
    (λ l. both (scalar (cond (first || after) (capital c) c)) (scalars (camel false false cs)) (letter_scalar (first || after) c l) (scalars_camel false false cs parts.1))
    (λ _. both (scalar c) (scalars (camel first false cs)) parts.0 (scalars_camel first false cs parts.1)))

word_is_text : IsUtf8 (codes "Entry")
unfolding encode
word_is_text = (codes "Entry", (refl, refl))

-- the name of an entry is a text
pub entry_is_text : (field : List ℕ) → IsUtf8 field → IsUtf8 (entry_name field)
entry_is_text field u =
    let name : IsUtf8 (camel true false field) =
    (camel true false u.0, (scalars_camel true false u.0 u.1.0, sym (encodes_camel true false u.0) ∙ ap (camel true false) u.1.1)) in
    IsUtf8-append (camel true false field) (codes "Entry") name word_is_text

-- at the end of the name
pub camel_end : (first after : Bool) (done field : List ℕ) (n : ℕ) → length field ≤ n
    → done ++ camel first after (drop n field) ≡ camel true false field → done ≡ camel true false field
unfolding camel
camel_end first after done field n past so_far =
    sym (append-nil done) ∙ ap (λ (bs : List ℕ). done ++ bs) (sym (at_drop_all (camel first after) field n past)) ∙ so_far
