-- One step along a string, for any fuel that reaches the end of the text.
use Rattle.std.proofs.Common.{◌≡◌, ℕ, zero, suc, ◌+◌, ◌<◌, ◌≤◌, ◌==◌, ◌||◌, Bool, true, false, not, List, length, Some, None, refl, sym, ◌∙◌, ap, arith, add-one}
use Rattle.std.proofs.lemmas.Bool.{eq-eqb, ne_eqb, both_ways}
use Rattle.std.proofs.lemmas.List.{get_or_past}
use Rattle.pq_lex.specs.declared.token.Kind.TheVariants.{Text}
use Rattle.pq_lex.specs.declared.token.Code.TheVariants.{UnclosedString, BadEscape}
use Rattle.pq_lex.specs.declared.token.Step.TheVariants.{Take, Stop}
use Rattle.pq_lex.specs.declared.escapes.Escape.{Escape}
use Rattle.pq_lex.specs.Classes.{byte, is_quote}
use Rattle.pq_lex.specs.Escapes.{escape_at}
use Rattle.pq_lex.specs.aux.Scan.{text_step}
use Rattle.pq_lex.specs.Tokens.{span, is_plain}
use Rattle.pq_lex.proofs.EscapeLemmas.{escape_further}

no_part : (a b c d : Bool) → not (a || (b || (c || d))) ≡ true → (a ≡ false) × (b ≡ false) × ((c || d) ≡ false)
no_part false false false false h = (refl, refl, refl)
no_part false false true d h = cc
no_part false false false true h = cc
no_part false true c d h = cc
no_part true b c d h = cc

pub plain_no_quote : (quote b : ℕ) → is_plain quote b ≡ true → (b == quote) ≡ false
plain_no_quote quote b h = (no_part (b == quote) (b == 92) (b == 10) (b == 0) h).0

pub plain_no_backslash : (quote b : ℕ) → is_plain quote b ≡ true → (b == 92) ≡ false
plain_no_backslash quote b h = (no_part (b == quote) (b == 92) (b == 10) (b == 0) h).1

plain_no_end : (quote b : ℕ) → is_plain quote b ≡ true → (b == 10 || b == 0) ≡ false
plain_no_end quote b h = (no_part (b == quote) (b == 92) (b == 10) (b == 0) h).2

end_part : (a b c : Bool) → a ≡ false → b ≡ false → not (a || (b || c)) ≡ false → c ≡ true
end_part false false true e f h = refl
end_part false false false e f h = cc
end_part false true c e f h = cc
end_part true b c e f h = cc

-- the string's rest from i on is that from j on
pub record Goes (fuel quote start : ℕ) (text : List ℕ) (i j : ℕ) : Type 0 where
  pub less : ℕ
  pub enough : length text ≤ j + less
  pub same : text_step fuel quote start text i ≡ text_step less quote start text j

module _ (quote start : ℕ) (text : List ℕ) (i : ℕ) (here : i < length text) where
  pub closes_here : (fuel : ℕ) → length text ≤ i + fuel → byte text i ≡ quote → text_step fuel quote start text i ≡ Take Text (i + 1)
  unfolding text_step
  closes_here zero enough e = absurd (omega (arith, here, enough))
  closes_here (suc fuel) enough e = rw (eq-eqb (byte text i) quote e) refl

  pub bad_here : (fuel : ℕ) → length text ≤ i + fuel → (byte text i == quote) ≡ false → (byte text i == 92) ≡ true → escape_at text i ≡ None → text_step fuel quote start text i ≡ Stop (span i (i + 1)) BadEscape
  unfolding text_step
  bad_here zero enough no_quote e none = absurd (omega (arith, here, enough))
  bad_here (suc fuel) enough no_quote e none = rw (no_quote, e, none) refl

  pub open_here : (fuel : ℕ) → length text ≤ i + fuel → (byte text i == quote) ≡ false → (byte text i == 92) ≡ false → is_plain quote (byte text i) ≡ false → text_step fuel quote start text i ≡ Stop (span start (start + 1)) UnclosedString
  unfolding text_step
  open_here zero enough no_quote e h = absurd (omega (arith, here, enough))
  open_here (suc fuel) enough no_quote e h = let stop = end_part (byte text i == quote) (byte text i == 92) (byte text i == 10 || byte text i == 0) no_quote e h in rw (no_quote, e, stop) refl

  pub escape_next : (fuel : ℕ) → (byte text i == quote) ≡ false → (byte text i == 92) ≡ true → (e : Escape) → escape_at text i ≡ Some e → text_step (suc fuel) quote start text i ≡ text_step fuel quote start text e.end
  unfolding text_step
  escape_next fuel no_quote b e some = rw (no_quote, b, some) refl

  pub plain_next : (fuel : ℕ) → is_plain quote (byte text i) ≡ true → text_step (suc fuel) quote start text i ≡ text_step fuel quote start text (i + 1)
  unfolding text_step
  plain_next fuel h = rw (plain_no_quote quote (byte text i) h, plain_no_backslash quote (byte text i) h, plain_no_end quote (byte text i) h, add-one) refl

  pub escape_goes : (fuel : ℕ) → length text ≤ i + fuel → (byte text i == quote) ≡ false → (byte text i == 92) ≡ true → (e : Escape) → escape_at text i ≡ Some e → Goes fuel quote start text i e.end
  unfolding text_step
  escape_goes zero enough no_quote b e some = absurd (omega (arith, here, enough))
  escape_goes (suc fuel) enough no_quote b e some = record { less = fuel; enough = omega (arith, enough, escape_further text i e some); same = escape_next fuel no_quote b e some }

  pub plain_goes : (fuel : ℕ) → length text ≤ i + fuel → is_plain quote (byte text i) ≡ true → Goes fuel quote start text i (i + 1)
  unfolding text_step
  plain_goes zero enough h = absurd (omega (arith, here, enough))
  plain_goes (suc fuel) enough h = record { less = fuel; enough = omega (arith, enough); same = plain_next fuel h }

-- a quote is no NUL, which `byte` reads at the end of a text
pub no_quote_after : (quote b : ℕ) → is_quote quote ≡ true → b ≡ 0 → (b == quote) ≡ false
no_quote_after quote b q e = ne_eqb b quote (λ s. let z : quote ≡ 0 = sym s ∙ e in absurd (both_ways (is_quote quote) (ap is_quote z) q))

module _ (quote start : ℕ) (text : List ℕ) (i : ℕ) where
  pub open_at_end : (fuel : ℕ) → is_quote quote ≡ true → length text ≤ i → text_step fuel quote start text i ≡ Stop (span start (start + 1)) UnclosedString
  unfolding text_step
  open_at_end zero q h = refl
  open_at_end (suc fuel) q h =
      let e : byte text i ≡ 0 = get_or_past text i 0 h in
      let n = no_quote_after quote (byte text i) q e in
      rw (n, e) refl
