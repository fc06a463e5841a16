-- The spelling of a span: the bytes of the span, or nothing if it does not lie in the text. If the
-- span is cut between characters, the spelling is UTF-8.
use Rattle.std.proofs.Common.{◌≡◌, ℕ, ◌-◌, Bool, true, false, ◌&&◌, List, [], ◌<◌, ◌≤◌, ◌⊎◌, inl, inr, length, take, drop, refl, sym, ap, subst}
use Rattle.std.specs.Prelude.{nat_le, slice_range}
use Rattle.std.specs.Str.{IsUtf8}
use Rattle.std.specs.Str.Lossy.{utf8_lossy}
use Rattle.std.proofs.lemmas.Bool.{cond-false, le-leb, lt-leb}
use Rattle.std.proofs.lemmas.Str.{utf8_lossy-IsUtf8}
use Rattle.pq_lex.specs.declared.token.Span.{Span}
use Rattle.pq_lex.specs.Values.{spelling}

pub part_is : (text : List ℕ) (span : Span) (part : List ℕ)
    → span.start ≤ span.end
    → span.end ≤ length text
    → part ≡ slice_range text span.start span.end
    → IsUtf8 part
    → part ≡ utf8_lossy (spelling text span)
part_is text span part first last is utf8 =
    sym (rw (le-leb span.start span.end first, le-leb span.end (length text) last, sym is) (utf8_lossy-IsUtf8 part utf8))

pub spelled : (text bytes : List ℕ) (span : Span)
    → bytes ≡ text
    → span.start ≤ span.end
    → span.end ≤ length bytes
    → take (span.end - span.start) (drop span.start bytes) ≡ spelling text span
spelled text bytes span e first last =
    let within : span.end ≤ length text = subst (λ b. span.end ≤ length b) e last in
    rw (le-leb span.start span.end first, le-leb span.end (length text) within) (ap (λ b. take (span.end - span.start) (drop span.start b)) e)

first_fails : (p q : Bool) → p ≡ false → p && q ≡ false
first_fails true q e = cc
first_fails false q e = refl

second_fails : (p q : Bool) → q ≡ false → p && q ≡ false
second_fails true q e = e
second_fails false q e = refl

pub unspelled : (text bytes : List ℕ) (span : Span)
    → bytes ≡ text
    → (span.end < span.start) ⊎ (length bytes < span.end)
    → [] ≡ spelling text span
unspelled text bytes span e (inl h) =
    sym (cond-false (nat_le span.start span.end && nat_le span.end (length text)) (slice_range text span.start span.end) []
    (first_fails (nat_le span.start span.end) (nat_le span.end (length text)) (lt-leb span.start span.end h)))
unspelled text bytes span e (inr h) =
    sym (cond-false (nat_le span.start span.end && nat_le span.end (length text)) (slice_range text span.start span.end) []
    (second_fails (nat_le span.start span.end) (nat_le span.end (length text))
    (lt-leb span.end (length text) (subst (λ b. length b < span.end) e h))))
