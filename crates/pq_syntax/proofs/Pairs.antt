-- Brackets that pair up: one item of balanced tokens, by its first token.
use Rattle.std.proofs.Common.{◌≡◌, ℕ, zero, suc, List, sym, true, false, subst}
use Rattle.pq_lex.specs.declared.token.Token.{Token}
use Rattle.pq_syntax.specs.Rule.Rule.{Single}
use Rattle.pq_syntax.specs.Rule.Parse.{Left, Right}
use Rattle.pq_syntax.specs.aux.Openings.{Closed}
use Rattle.pq_syntax.specs.aux.Takes.{starts_at}
use Rattle.pq_syntax.specs.Words.{words, accepts}
use Rattle.pq_syntax.specs.Grammar.{nested, paired_by}
use Rattle.pq_syntax.specs.aux.Steps.{Passes, PassesFrom}
use Rattle.pq_syntax.specs.declared.terminal.Terminal.TheVariants.{Plain, OpenBrace, CloseBrace, OpenBracket, CloseBracket, OpenParenthesis, CloseParenthesis}
use Rattle.pq_syntax.proofs.Choices.{Enters, by_token, by_word, enters_first, enters_itself, enters_past, entered_passes}
use Rattle.pq_syntax.proofs.Openings.{closed, closed_past}

-- one item of balanced tokens, by its first token
module _ (text : List ℕ) (x : List Token) where
  pub passes_plain : (n : ℕ)
      → starts_at accepts (Single Plain) (words text x) ≡ true
      → (y : List Token)
      → Passes text (Single Plain) x y
      → PassesFrom text (nested n) x y
  unfolding nested
  passes_plain zero h y p = record { in_first = h; passes = p }
  passes_plain (suc n) h y p = entered_passes (enters_first by_token h) p

  module _ (plain : starts_at accepts (Single Plain) (words text x) ≡ false) where
    brace_of_more : (n : ℕ)
        → starts_at accepts (Single OpenBrace) (words text x) ≡ true
        → Enters text (nested (suc n)) (paired_by OpenBrace CloseBrace n) x (λ p. Right (Left p))
    unfolding nested
    brace_of_more n h = enters_past by_token plain (enters_first by_word h)

    bracket_of_more : (n : ℕ)
        → starts_at accepts (Single OpenBrace) (words text x) ≡ false
        → starts_at accepts (Single OpenBracket) (words text x) ≡ true
        → Enters text (nested (suc n)) (paired_by OpenBracket CloseBracket n) x (λ p. Right (Right (Left p)))
    unfolding nested
    bracket_of_more n e h = enters_past by_token plain (enters_past by_word e (enters_first by_word h))

    parenthesis_of_more : (n : ℕ)
        → starts_at accepts (Single OpenBrace) (words text x) ≡ false
        → starts_at accepts (Single OpenBracket) (words text x) ≡ false
        → starts_at accepts (Single OpenParenthesis) (words text x) ≡ true
        → Enters text (nested (suc n)) (paired_by OpenParenthesis CloseParenthesis n) x (λ p. Right (Right (Right p)))
    unfolding nested
    parenthesis_of_more n e g h = enters_past by_token plain (enters_past by_word e (enters_past by_word g (enters_itself by_word h)))

    none_of_more : (n : ℕ)
        → starts_at accepts (Single OpenBrace) (words text x) ≡ false
        → starts_at accepts (Single OpenBracket) (words text x) ≡ false
        → starts_at accepts (Single OpenParenthesis) (words text x) ≡ false
        → starts_at accepts (nested (suc n)) (words text x) ≡ false
    unfolding nested
    none_of_more n e g h =
        let none : Closed text (nested (suc n)) x = closed_past by_token plain (closed_past by_word e (closed_past by_word g (closed by_word h))) in
        none.in_first

    -- at no level a plain token alone is an item
    none_of_zero : starts_at accepts (nested zero) (words text x) ≡ false
    unfolding nested
    none_of_zero = plain

    pub none_deeper : (n : ℕ) → n ≡ zero → starts_at accepts (nested n) (words text x) ≡ false
    none_deeper n z = subst (λ k. starts_at accepts (nested k) (words text x) ≡ false) (sym z) none_of_zero

    -- the same at n levels, which are one more than m
    module _ (n m : ℕ) (one_more : n ≡ suc m) where
      pub enters_brace : starts_at accepts (Single OpenBrace) (words text x) ≡ true
          → Enters text (nested n) (paired_by OpenBrace CloseBrace m) x (λ p. Right (Left p))
      enters_brace h = subst (λ k. Enters text (nested k) (paired_by OpenBrace CloseBrace m) x (λ p. Right (Left p))) (sym one_more) (brace_of_more m h)

      module _ (brace : starts_at accepts (Single OpenBrace) (words text x) ≡ false) where
        pub enters_bracket : starts_at accepts (Single OpenBracket) (words text x) ≡ true
            → Enters text (nested n) (paired_by OpenBracket CloseBracket m) x (λ p. Right (Right (Left p)))
        enters_bracket h = subst (λ k. Enters text (nested k) (paired_by OpenBracket CloseBracket m) x (λ p. Right (Right (Left p)))) (sym one_more) (bracket_of_more m brace h)

        pub enters_parenthesis : starts_at accepts (Single OpenBracket) (words text x) ≡ false
            → starts_at accepts (Single OpenParenthesis) (words text x) ≡ true
            → Enters text (nested n) (paired_by OpenParenthesis CloseParenthesis m) x (λ p. Right (Right (Right p)))
        enters_parenthesis g h =
            subst (λ k. Enters text (nested k) (paired_by OpenParenthesis CloseParenthesis m) x (λ p. Right (Right (Right p)))) (sym one_more)
            (parenthesis_of_more m brace g h)

        pub none_nested : starts_at accepts (Single OpenBracket) (words text x) ≡ false
            → starts_at accepts (Single OpenParenthesis) (words text x) ≡ false
            → starts_at accepts (nested n) (words text x) ≡ false
        none_nested g h = subst (λ k. starts_at accepts (nested k) (words text x) ≡ false) (sym one_more) (none_of_more m brace g h)
