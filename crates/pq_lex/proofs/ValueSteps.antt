-- One step along a string's spelling.
use Rattle.std.proofs.Common.{◌≡◌, ℕ, zero, suc, ◌+◌, ◌<◌, ◌≤◌, true, false, List, [], ◌∷◌, ◌++◌, length, Some, None, refl, sym, ◌∙◌, ap, arith, add-one, append_assoc}
use Rattle.std.proofs.lemmas.Bool.{eq-eqb, ne_eqb}
use Rattle.std.proofs.lemmas.List.{get_or_past, append-nil}
use Rattle.pq_lex.specs.declared.escapes.Escape.{Escape}
use Rattle.pq_lex.specs.Classes.{byte}
use Rattle.pq_lex.specs.Escapes.{escape_at, meaning_bytes}
use Rattle.pq_lex.specs.Tokens.{is_plain}
use Rattle.pq_lex.specs.Values.{value_from, text_value_of}
use Rattle.pq_lex.proofs.EscapeLemmas.{escape_further}
use Rattle.pq_lex.proofs.StringSteps.{plain_no_backslash}
use Rattle.pq_lex.proofs.StringEnds.{plain_0}

-- the value from i on is this, and the value from j on
pub record Adds (fuel : ℕ) (s : List ℕ) (i j : ℕ) (bytes : List ℕ) : Type 0 where
  pub less : ℕ
  pub enough : length s ≤ j + less
  pub same : value_from fuel s i ≡ bytes ++ value_from less s j

module _ (s : List ℕ) (i : ℕ) (here : i < length s) where
  pub escape_adds : (fuel : ℕ) → length s ≤ i + fuel → byte s i ≡ 92 → (e : Escape) → escape_at s i ≡ Some e → Adds fuel s i e.end (meaning_bytes e.meaning)
  unfolding value_from
  escape_adds zero enough b e some = absurd (omega (arith, here, enough))
  escape_adds (suc fuel) enough b e some = let t = eq-eqb (byte s i) 92 b in record { less = fuel; enough = omega (arith, enough, escape_further s i e some); same = rw (t, some) refl }

  pub plain_adds : (fuel : ℕ) → length s ≤ i + fuel → is_plain (byte s 0) (byte s i) ≡ true → Adds fuel s i (i + 1) (byte s i ∷ [])
  unfolding value_from
  plain_adds zero enough p = absurd (omega (arith, here, enough))
  plain_adds (suc fuel) enough p = record { less = fuel; enough = omega (arith, enough); same = let t = plain_no_backslash (byte s 0) (byte s i) p in rw (p, t, add-one) refl }

module _ (s : List ℕ) (i : ℕ) where
  pub no_escape : (fuel : ℕ) → byte s i ≡ 92 → escape_at s i ≡ None → value_from fuel s i ≡ []
  unfolding value_from
  no_escape zero b e = refl
  no_escape (suc fuel) b e = let t = eq-eqb (byte s i) 92 b in rw (t, e) refl

  pub no_more : (fuel : ℕ) → (byte s i ≡ 92 → ⊥) → is_plain (byte s 0) (byte s i) ≡ false → value_from fuel s i ≡ []
  unfolding value_from
  no_more zero b p = refl
  no_more (suc fuel) b p = let t = ne_eqb (byte s i) 92 b in rw (p, t) refl

  pub value_end : (fuel : ℕ) → length s ≤ i → value_from fuel s i ≡ []
  value_end fuel h =
      let e : byte s i ≡ 0 = get_or_past s i 0 h in
      no_more fuel (λ b. let z : 0 ≡ 92 = sym e ∙ b in omega (arith, z)) (plain_0 (byte s 0) (byte s i) e)

pub value_begins : (s : List ℕ) → text_value_of s ≡ value_from (length s) s 1
unfolding text_value_of
value_begins s = refl

pub adds_on : (whole items more rest bytes : List ℕ) → whole ≡ items ++ rest → rest ≡ bytes ++ more → whole ≡ (items ++ bytes) ++ more
adds_on whole items more rest bytes e f = e ∙ ap (λ r. items ++ r) f ∙ sym (append_assoc items bytes more)

pub all_added : (whole items rest : List ℕ) → whole ≡ items ++ rest → rest ≡ [] → items ≡ whole
all_added whole items rest e f = sym (e ∙ ap (λ r. items ++ r) f ∙ append-nil items)
