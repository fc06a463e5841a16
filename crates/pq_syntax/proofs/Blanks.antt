-- The loop that passes over the blanks before an offset.
use Rattle.std.proofs.Common.{◌≡◌, ℕ, zero, suc, ◌-◌, ◌==◌, Bool, true, false, ◌||◌, List, inl, inr, refl, sym, ap, ◌∙◌, arith}
use Rattle.std.proofs.lemmas.Bool.{eqb-true, ne_eqb, or_cases}
use Rattle.pq_lex.specs.Ascii.{line_feed, tab}
use Rattle.pq_lex.specs.Classes.{byte}
use Rattle.pq_syntax.specs.Parts.{space}
use Rattle.pq_syntax.specs.Loose.{is_blank, follows_blank, is_first_on_line, starts_line}

or_none : (b : Bool) → (b || false) ≡ b
or_none true = refl
or_none false = refl

-- an LF is no blank
no_line_feed : (b : ℕ) → is_blank b ≡ true → (b == line_feed) ≡ false
no_line_feed b h = elim (or_cases (b == space) (b == tab) h) [
  | inl e ↦ ap (λ (x : ℕ). x == line_feed) (eqb-true b space e)
  | inr e ↦ ap (λ (x : ℕ). x == line_feed) (eqb-true b tab e)
]

not_zero : (i : ℕ) → (suc i == 0) ≡ false
not_zero i = ne_eqb (suc i) 0 (λ e. absurd (omega (arith, e)))

before_next : (i : ℕ) → (suc i - 1) ≡ i
before_next i = omega arith

blank_next : (text : List ℕ) (i : ℕ) → follows_blank text (suc i) ≡ is_blank (byte text i)
blank_next text i = rw (not_zero i, before_next i) refl

starts_next : (text : List ℕ) (i : ℕ) → starts_line text (suc i) ≡ (byte text i == line_feed)
starts_next text i = rw (not_zero i, before_next i) refl

-- before a blank the same is the first of its line
pub blank_goes : (text : List ℕ) (i : ℕ) → follows_blank text i ≡ true → is_first_on_line text (i - 1) ≡ is_first_on_line text i
unfolding is_first_on_line
blank_goes text zero h = refl
blank_goes text (suc i) h =
    let blank = sym (blank_next text i) ∙ h in
    rw (before_next i) (rw (blank, no_line_feed (byte text i) blank) refl)

-- where no blank is before, the first of the line is its start
pub blank_stops : (text : List ℕ) (i : ℕ) → follows_blank text i ≡ false → starts_line text i ≡ is_first_on_line text i
unfolding is_first_on_line
blank_stops text zero h = refl
blank_stops text (suc i) h =
    let other = sym (blank_next text i) ∙ h in
    starts_next text i ∙ (rw other (sym (or_none (byte text i == line_feed))))
