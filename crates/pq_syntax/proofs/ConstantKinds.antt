-- A constant by its first token: which alternative it is.
use Rattle.std.proofs.Common.{◌≡◌, ℕ, List, refl, true, false}
use Rattle.pq_lex.specs.declared.token.Token.{Token}
use Rattle.pq_syntax.specs.Rule.{Rule, Parse}
use Rattle.pq_syntax.specs.Rule.Rule.{Single, Seq, Alt}
use Rattle.pq_syntax.specs.Rule.Parse.{Pair, Left, Right}
use Rattle.pq_syntax.specs.aux.Takes.{starts_at}
use Rattle.pq_syntax.specs.Words.{Word, words, accepts}
use Rattle.pq_syntax.specs.Grammar.{constant, full, strs, block, unsigned}
use Rattle.pq_syntax.specs.Parts.{kind_of, unsigned_kind}
use Rattle.pq_syntax.specs.aux.Steps.{TakesToken, Reads, Fails}
use Rattle.pq_syntax.specs.declared.failure.Failure.{Failure}
use Rattle.pq_syntax.specs.declared.parts.ConstantKind.{ConstantKind}
use Rattle.pq_syntax.specs.declared.terminal.Terminal.{Terminal}
use Rattle.pq_syntax.specs.declared.terminal.Terminal.TheVariants.{AnyIdentifier, Minus, Plus, AnyInteger, AnyFloat, AnyText, InfOrNan}
use Rattle.pq_syntax.proofs.Choices.{Chooses, by_first, by_token, by_word, chooses_first, chooses_itself, chooses_past}
use Rattle.pq_syntax.proofs.Rules.{takes_then, starts_neither}
use Rattle.pq_syntax.proofs.Steps.{fails_then, fails_first}

-- what follows a sign
module _ {text : List ℕ} {x : List Token} where
  pub unsigned_whole : starts_at accepts (Single AnyInteger) (words text x) ≡ true → Chooses text unsigned (Single AnyInteger) x (λ p. Left p)
  unsigned_whole h = chooses_first by_token h

  pub unsigned_real : starts_at accepts (Single AnyInteger) (words text x) ≡ false
      → starts_at accepts (Single AnyFloat) (words text x) ≡ true
      → Chooses text unsigned (Single AnyFloat) x (λ p. Right (Left p))
  unsigned_real e h = chooses_past by_token e (chooses_first by_token h)

  pub unsigned_not_finite : starts_at accepts (Single AnyInteger) (words text x) ≡ false
      → starts_at accepts (Single AnyFloat) (words text x) ≡ false
      → Chooses text unsigned (Single InfOrNan) x (λ p. Right (Right p))
  unsigned_not_finite e h = chooses_past by_token e (chooses_past by_token h chooses_itself)

abbrev pub sign : Rule Terminal
sign = Alt (Single Minus) (Single Plus)

abbrev pub signed : Rule Terminal
signed = Seq sign unsigned

-- the alternatives of a constant, in their order
module _ (n : ℕ) (text : List ℕ) (x : List Token) where
  pub chooses_name : starts_at accepts (Single AnyIdentifier) (words text x) ≡ true → Chooses text (constant n) full x (λ p. Left p)
  chooses_name h = chooses_first by_word h

  module _ (name : starts_at accepts (Single AnyIdentifier) (words text x) ≡ false) where
    chooses_signed : {c : Terminal} {within : Parse Word → Parse Word}
        → Chooses text sign (Single c) x within
        → starts_at accepts (Single c) (words text x) ≡ true
        → Chooses text (constant n) signed x (λ p. Right (Left p))
    chooses_signed s h = chooses_past by_word name (chooses_first (by_first refl) (s.in_first h))

    -- a sign and what follows it, where the sign begins the constant
    signed_reads : {c : Terminal} {within : Parse Word → Parse Word} {y z : List Token} {t : Token} {v : ConstantKind}
        → Chooses text sign (Single c) x within
        → starts_at accepts (Single c) (words text x) ≡ true
        → TakesToken text c x y t
        → Reads text unsigned unsigned_kind y z v
        → Reads text (constant n) kind_of x z v
    signed_reads {y = y} {z} s h t r = record {
      parse = Right (Left (Pair _ r.parse));
      takes = (chooses_signed s h).takes (words text z) _ (takes_then (s.takes (words text y) _ t.takes) r.takes);
      is = r.is;
    }

    -- an error after the sign
    signed_fails : {c : Terminal} {within : Parse Word → Parse Word} {y : List Token} {t : Token} {e : Failure}
        → Chooses text sign (Single c) x within
        → starts_at accepts (Single c) (words text x) ≡ true
        → TakesToken text c x y t
        → Fails text unsigned y e
        → Fails text (constant n) x e
    signed_fails {y = y} {e = e} s h t f = (chooses_signed s h).fails e (fails_then (record { parse = _; takes = s.takes (words text y) _ t.takes }) f)

    -- a fault at the sign
    sign_fails : {c : Terminal} {within : Parse Word → Parse Word} {e : Failure}
        → Chooses text sign (Single c) x within
        → starts_at accepts (Single c) (words text x) ≡ true
        → Fails text (Single c) x e
        → Fails text (constant n) x e
    sign_fails {e = e} s h f = (chooses_signed s h).fails e (fails_first (s.fails e f))

    module _ (h : starts_at accepts (Single Minus) (words text x) ≡ true) where
      pub minus_reads : {y z : List Token} {t : Token} {v : ConstantKind}
          → TakesToken text Minus x y t
          → Reads text unsigned unsigned_kind y z v
          → Reads text (constant n) kind_of x z v
      minus_reads t r = signed_reads (chooses_first by_token h) h t r

      pub minus_unread : {y : List Token} {t : Token} {e : Failure} → TakesToken text Minus x y t → Fails text unsigned y e → Fails text (constant n) x e
      minus_unread t f = signed_fails (chooses_first by_token h) h t f

      pub minus_fails : {e : Failure} → Fails text (Single Minus) x e → Fails text (constant n) x e
      minus_fails f = sign_fails (chooses_first by_token h) h f

    module _ (minus : starts_at accepts (Single Minus) (words text x) ≡ false) where
      module _ (h : starts_at accepts (Single Plus) (words text x) ≡ true) where
        pub plus_reads : {y z : List Token} {t : Token} {v : ConstantKind}
            → TakesToken text Plus x y t
            → Reads text unsigned unsigned_kind y z v
            → Reads text (constant n) kind_of x z v
        plus_reads t r = signed_reads (chooses_past by_token minus chooses_itself) h t r

        pub plus_unread : {y : List Token} {t : Token} {e : Failure} → TakesToken text Plus x y t → Fails text unsigned y e → Fails text (constant n) x e
        plus_unread t f = signed_fails (chooses_past by_token minus chooses_itself) h t f

        pub plus_fails : {e : Failure} → Fails text (Single Plus) x e → Fails text (constant n) x e
        plus_fails f = sign_fails (chooses_past by_token minus chooses_itself) h f

      module _ (plus : starts_at accepts (Single Plus) (words text x) ≡ false) where
        -- an alternative after names and signs
        behind_signs : {a : Rule Terminal} {within : Parse Word → Parse Word}
            → Chooses text (Alt (Single AnyInteger) (Alt (Single AnyFloat) (Alt strs (block n)))) a x within
            → Chooses text (constant n) a x (λ p. Right (Right (within p)))
        behind_signs a = chooses_past by_word name (chooses_past (by_first refl) (starts_neither accepts (Single Minus) (Single Plus) (words text x) minus plus) a)

        pub chooses_whole : starts_at accepts (Single AnyInteger) (words text x) ≡ true
            → Chooses text (constant n) (Single AnyInteger) x (λ p. Right (Right (Left p)))
        chooses_whole h = behind_signs (chooses_first by_token h)

        module _ (whole : starts_at accepts (Single AnyInteger) (words text x) ≡ false) where
          pub chooses_real : starts_at accepts (Single AnyFloat) (words text x) ≡ true
              → Chooses text (constant n) (Single AnyFloat) x (λ p. Right (Right (Right (Left p))))
          chooses_real h = behind_signs (chooses_past by_token whole (chooses_first by_token h))

          module _ (real : starts_at accepts (Single AnyFloat) (words text x) ≡ false) where
            pub chooses_strings : starts_at accepts (Single AnyText) (words text x) ≡ true
                → Chooses text (constant n) strs x (λ p. Right (Right (Right (Right (Left p)))))
            chooses_strings h = behind_signs (chooses_past by_token whole (chooses_past by_token real (chooses_first by_word h)))

            pub chooses_block : starts_at accepts (Single AnyText) (words text x) ≡ false
                → Chooses text (constant n) (block n) x (λ p. Right (Right (Right (Right (Right p)))))
            chooses_block h = behind_signs (chooses_past by_token whole (chooses_past by_token real (chooses_past by_word h chooses_itself)))
