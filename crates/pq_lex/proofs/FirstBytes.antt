-- Which sorts of pieces a byte may begin, and how long the pieces of each sort are.
use Rattle.std.proofs.Common.{◌≡◌, ◌⊎◌, inl, inr, ℕ, ◌+◌, ◌<◌, ◌==◌, Bool, true, false, List, refl, sym, ap, subst, arith}
use Rattle.std.proofs.lemmas.Bool.{cases_order, eqb-true, and_parts, or_cases, cond_both}
use Rattle.std.proofs.lemmas.Bool.Decides.{nat_tests}
use Rattle.pq_lex.specs.declared.bytes.Class.{Class}
use Rattle.pq_lex.specs.declared.bytes.Class.TheVariants.{Letter, Digit, Space, Quote, Point, Slash, Mark, Other}
use Rattle.pq_lex.specs.declared.bytes.Set.TheVariants.{Digits}
use Rattle.pq_lex.specs.declared.token.Kind.TheVariants.{Identifier, Integer, Float, Text, Symbol}
use Rattle.pq_lex.specs.Classes.{byte, at, class_of, is_letter, is_digit, is_space, is_quote, is_mark}
use Rattle.pq_lex.specs.Runs.{Run}
use Rattle.pq_lex.specs.Tokens.{Piece, Separator, Lexeme, IsSeparator, order_mark, blanks, line_comment, comment, IsInteger, decimal, octal, hexadecimal, IsFloat, pointed, raised, Spells}

-- classes of single bytes
class_solidus : (b : ℕ) → b ≡ 47 → class_of b ≡ Slash
class_solidus b e = ap class_of e

class_full_stop : (b : ℕ) → b ≡ 46 → class_of b ≡ Point
class_full_stop b e = ap class_of e

class_zero : (b : ℕ) → b ≡ 48 → class_of b ≡ Digit
class_zero b e = ap class_of e

class_order_mark : (b : ℕ) → b ≡ 239 → class_of b ≡ Other
class_order_mark b e = ap class_of e

class_quote : (b : ℕ) → is_quote b ≡ true → class_of b ≡ Quote
class_quote b h = elim (or_cases (b == 34) (b == 39) h) [
  | inl e ↦ ap class_of (eqb-true b 34 e)
  | inr e ↦ ap class_of (eqb-true b 39 e)
]

-- what the class of a byte is, test by test
class_cases : (b : ℕ) (P : Class → Type 0) → (is_letter b ≡ true → P Letter) → (is_digit b ≡ true → P Digit) → (is_space b ≡ true → P Space) → (is_quote b ≡ true → P Quote) → ((b == 46) ≡ true → P Point)
    → ((b == 47) ≡ true → P Slash) → (is_quote b ≡ false → (b == 47) ≡ false → P Mark) → (is_quote b ≡ false → (b == 47) ≡ false → P Other) → P (class_of b)
class_cases b P letter digit space quote point slash mark other =
    cond_both (is_letter b) Letter _ P letter (λ e1.
    cond_both (is_digit b) Digit _ P digit (λ e2.
    cond_both (is_space b) Space _ P space (λ e3.
    cond_both (is_quote b) Quote _ P quote (λ e4.
    cond_both (b == 46) Point _ P point (λ e5.
    cond_both (b == 47) Slash _ P slash (λ e6.
    cond_both (is_mark b) Mark Other P (λ e7. mark e4 e6) (λ e7. other e4 e6)))))))

pub class_space : (b : ℕ) → is_space b ≡ true → class_of b ≡ Space
class_space b h =
    let l : is_letter b ≡ false = grind (arith, nat_tests, h) in
    let d : is_digit b ≡ false = grind (arith, nat_tests, h) in
    rw (l, d, h) refl

class_digit : (b : ℕ) → is_digit b ≡ true → class_of b ≡ Digit
class_digit b h =
    let l : is_letter b ≡ false = grind (arith, nat_tests, h) in
    rw (l, h) refl

pub digit_class : (b : ℕ) → class_of b ≡ Digit → is_digit b ≡ true
digit_class b = class_cases b (λ c. c ≡ Digit → is_digit b ≡ true) (λ e h. cc) (λ e h. e) (λ e h. cc) (λ e h. cc) (λ e h. cc) (λ e h. cc) (λ e f h. cc) (λ e f h. cc)

pub space_class : (b : ℕ) → class_of b ≡ Space → is_space b ≡ true
space_class b = class_cases b (λ c. c ≡ Space → is_space b ≡ true) (λ e h. cc) (λ e h. cc) (λ e h. e) (λ e h. cc) (λ e h. cc) (λ e h. cc) (λ e f h. cc) (λ e f h. cc)

pub quote_class : (b : ℕ) → class_of b ≡ Quote → is_quote b ≡ true
quote_class b = class_cases b (λ c. c ≡ Quote → is_quote b ≡ true) (λ e h. cc) (λ e h. cc) (λ e h. cc) (λ e h. e) (λ e h. cc) (λ e h. cc) (λ e f h. cc) (λ e f h. cc)

pub point_class : (b : ℕ) → class_of b ≡ Point → b ≡ 46
point_class b = class_cases b (λ c. c ≡ Point → b ≡ 46) (λ e h. cc) (λ e h. cc) (λ e h. cc) (λ e h. cc) (λ e h. eqb-true b 46 e) (λ e h. cc) (λ e f h. cc) (λ e f h. cc)

pub slash_class : (b : ℕ) → class_of b ≡ Slash → b ≡ 47
slash_class b = class_cases b (λ c. c ≡ Slash → b ≡ 47) (λ e h. cc) (λ e h. cc) (λ e h. cc) (λ e h. cc) (λ e h. cc) (λ e h. eqb-true b 47 e) (λ e f h. cc) (λ e f h. cc)

pub other_class : (b : ℕ) → class_of b ≡ Other → (is_quote b ≡ false) × ((b == 47) ≡ false)
other_class b = class_cases b (λ c. c ≡ Other → (is_quote b ≡ false) × ((b == 47) ≡ false)) (λ e h. cc) (λ e h. cc) (λ e h. cc) (λ e h. cc) (λ e h. cc) (λ e h. cc) (λ e f h. (e, f)) (λ e f h. (e, f))

-- the classes of a piece's first byte
abbrev pub starts : Piece → Class → Bool
starts Separator Space = true
starts Separator Slash = true
starts Separator Other = true
starts (Lexeme Identifier) Letter = true
starts (Lexeme Integer) Digit = true
starts (Lexeme Float) Digit = true
starts (Lexeme Float) Point = true
starts (Lexeme Text) Quote = true
starts (Lexeme Symbol) Point = true
starts (Lexeme Symbol) Slash = true
starts (Lexeme Symbol) Mark = true
starts p c = false

digit_first : (text : List ℕ) (i n : ℕ) → i < n → Run Digits text i n → at text i ≡ Digit
digit_first text i n some r = class_digit (byte text i) (r.all i (omega arith) some)

first_float : (text : List ℕ) (i n : ℕ) → IsFloat text i n → starts (Lexeme Float) (at text i) ≡ true
first_float text i n (pointed p q whole point part some end) = elim (cases_order i p) [
  | inl same ↦ ap (starts (Lexeme Float)) (class_full_stop _ (subst (λ k. byte text k ≡ 46) (sym same) point))
  | inr o ↦ elim o [ inl less ↦ ap (starts (Lexeme Float)) (digit_first text i p less whole) | inr more ↦ absurd (omega (arith, more, whole.ordered)) ]
]
first_float text i n (raised p some whole end) = ap (starts (Lexeme Float)) (digit_first text i p some whole)

first_separator : (text : List ℕ) (i n : ℕ) → IsSeparator text i n → starts Separator (at text i) ≡ true
first_separator text i n (order_mark start end a b c) = ap (starts Separator) (class_order_mark _ (subst (λ k. byte text k ≡ 239) (sym start) a))
first_separator text i n (blanks some r) = ap (starts Separator) (class_space (byte text i) (r.all i (omega arith) some))
first_separator text i n (line_comment a b r) = ap (starts Separator) (class_solidus _ a)
first_separator text i n (comment o k c end) = ap (starts Separator) (class_solidus (byte text i) (eqb-true (byte text i) 47 (and_parts (byte text i == 47) (byte text (i + 1) == 42) o).0))

first_integer : (text : List ℕ) (i n : ℕ) → IsInteger text i n → starts (Lexeme Integer) (at text i) ≡ true
first_integer text i n (decimal d z r) = ap (starts (Lexeme Integer)) d
first_integer text i n (octal z r) = ap (starts (Lexeme Integer)) (class_zero _ z)
first_integer text i n (hexadecimal z x some r) = ap (starts (Lexeme Integer)) (class_zero _ z)

pub first_class : (text : List ℕ) (p : Piece) (i n : ℕ) → Spells text p i n → starts p (at text i) ≡ true
first_class text Separator i n s = first_separator text i n s
first_class text (Lexeme Identifier) i n s = ap (starts (Lexeme Identifier)) s.first
first_class text (Lexeme Integer) i n s = first_integer text i n s
first_class text (Lexeme Float) i n s = first_float text i n s
first_class text (Lexeme Text) i n s = ap (starts (Lexeme Text)) (class_quote (byte text i) s.opened)
first_class text (Lexeme Symbol) i n s = elim s.mark [
  | inl m ↦ ap (starts (Lexeme Symbol)) m
  | inr o ↦ elim o [ inl p ↦ ap (starts (Lexeme Symbol)) p | inr q ↦ ap (starts (Lexeme Symbol)) q ]
]

-- a piece that begins with a byte of a class is of a sort that may
pub of_class : (text : List ℕ) (c : Class) (i : ℕ) → at text i ≡ c → (p : Piece) (n : ℕ) → Spells text p i n → starts p c ≡ true
of_class text c i e p n s = subst (λ d. starts p d ≡ true) e (first_class text p i n s)

pub only_letter : (p : Piece) → starts p Letter ≡ true → p ≡ Lexeme Identifier
only_letter (Lexeme Identifier) h = refl
only_letter Separator h = cc
only_letter (Lexeme Integer) h = cc
only_letter (Lexeme Float) h = cc
only_letter (Lexeme Text) h = cc
only_letter (Lexeme Symbol) h = cc

pub only_space : (p : Piece) → starts p Space ≡ true → p ≡ Separator
only_space Separator h = refl
only_space (Lexeme Identifier) h = cc
only_space (Lexeme Integer) h = cc
only_space (Lexeme Float) h = cc
only_space (Lexeme Text) h = cc
only_space (Lexeme Symbol) h = cc

pub only_other : (p : Piece) → starts p Other ≡ true → p ≡ Separator
only_other Separator h = refl
only_other (Lexeme Identifier) h = cc
only_other (Lexeme Integer) h = cc
only_other (Lexeme Float) h = cc
only_other (Lexeme Text) h = cc
only_other (Lexeme Symbol) h = cc

pub only_quote : (p : Piece) → starts p Quote ≡ true → p ≡ Lexeme Text
only_quote (Lexeme Text) h = refl
only_quote Separator h = cc
only_quote (Lexeme Identifier) h = cc
only_quote (Lexeme Integer) h = cc
only_quote (Lexeme Float) h = cc
only_quote (Lexeme Symbol) h = cc

pub only_mark : (p : Piece) → starts p Mark ≡ true → p ≡ Lexeme Symbol
only_mark (Lexeme Symbol) h = refl
only_mark Separator h = cc
only_mark (Lexeme Identifier) h = cc
only_mark (Lexeme Integer) h = cc
only_mark (Lexeme Float) h = cc
only_mark (Lexeme Text) h = cc

pub either_digit : (p : Piece) → starts p Digit ≡ true → (p ≡ Lexeme Integer) ⊎ (p ≡ Lexeme Float)
either_digit (Lexeme Integer) h = inl refl
either_digit (Lexeme Float) h = inr refl
either_digit Separator h = cc
either_digit (Lexeme Identifier) h = cc
either_digit (Lexeme Text) h = cc
either_digit (Lexeme Symbol) h = cc

pub either_point : (p : Piece) → starts p Point ≡ true → (p ≡ Lexeme Symbol) ⊎ (p ≡ Lexeme Float)
either_point (Lexeme Symbol) h = inl refl
either_point (Lexeme Float) h = inr refl
either_point Separator h = cc
either_point (Lexeme Identifier) h = cc
either_point (Lexeme Integer) h = cc
either_point (Lexeme Text) h = cc

pub either_slash : (p : Piece) → starts p Slash ≡ true → (p ≡ Lexeme Symbol) ⊎ (p ≡ Separator)
either_slash (Lexeme Symbol) h = inl refl
either_slash Separator h = inr refl
either_slash (Lexeme Identifier) h = cc
either_slash (Lexeme Integer) h = cc
either_slash (Lexeme Float) h = cc
either_slash (Lexeme Text) h = cc
