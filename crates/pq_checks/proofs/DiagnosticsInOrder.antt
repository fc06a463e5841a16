-- Diagnostics that tie are one: they have the same offsets, code and message. The order that the type
-- derives is that of the definition.
use Rattle.std.specs.Prelude.{◌≡◌, ℕ, List, [], ◌∷◌, refl}
use Rattle.std.proofs.Common.{sym, ◌∙◌, ap, inl, inr}
use mathlib.Core.Path.{fun_ext}
use Rattle.std.specs.Cmp.{IsTotalOrder, nat_cmp_total}
use Rattle.std.specs.Cmp.Derive.{points}
use Rattle.std.proofs.lemmas.Cmp.{then_total, on_total, lists_total}
use Rattle.std.specs.Cmp.Lexicographic.{slice_cmp}
use Rattle.std.specs.Ordering.{nat_cmp, ordering_then}
use Rattle.std.specs.declared.cmp.Ordering.{Ordering}
use Rattle.std.specs.declared.cmp.Ordering.TheVariants.{Less, Equal, Greater}
use Rattle.std.proofs.lemmas.Map.Lookups.{exact_unsigned, exact_bytes}
use denote.Enum.Declared.{Choice, values_one}
use denote.Enum.Bare.{Bare}
use denote.Enum.Compared.{by}
use denote.Struct.Field.{Field}
use Rattle.pq_checks.specs.Codes.{code_text}
use Rattle.pq_checks.specs.contracts.errors.code as code
use Rattle.pq_checks.specs.contracts.errors.code.CodeOrd.TheImpl as code_order
use Rattle.pq_checks.specs.contracts.errors.diagnostic.DiagnosticOrd.TheImpl as derived
use Rattle.pq_checks.specs.DiagnosticOrder.{diagnostic_cmp}
use Rattle.pq_checks.specs.declared.errors.diagnostic.Diagnostic.{Diagnostic}
use Rattle.pq_checks.specs.declared.errors.code.Code.{Code}
use Rattle.pq_checks.proofs.PrintedOrder.{codes_order, text_cmp, texts_total}

exact_choice : (Fss : List (List Field)) → Bare Fss → (c d : Choice Fss) → by Less Greater Fss (points Equal Fss) c d ≡ Equal → c ≡ d
exact_choice [] bare c d e = absurd c
exact_choice ([] ∷ Fss) bare (inl x) (inl y) e = refl
exact_choice ([] ∷ Fss) bare (inl x) (inr y) e = cc
exact_choice ([] ∷ Fss) bare (inr x) (inl y) e = cc
exact_choice ([] ∷ Fss) bare (inr x) (inr y) e = ap (λ z. inr z) (exact_choice Fss bare x y e)
exact_choice ((F ∷ Fs) ∷ Fss) bare c d e = absurd bare

code_exact : (a b : Code) → text_cmp (code_text a) (code_text b) ≡ Equal → a ≡ b
code_exact a b e =
    let one : code_order.ghosts.cmp a b ≡ Equal = codes_order a b ∙ e in
    values_one code.Code.enum a b (exact_choice code.Code.enum.parts tt (code.Code.enum.as_values a) (code.Code.enum.as_values b) one)

then_left : (p q : Ordering) → ordering_then p q ≡ Equal → p ≡ Equal
then_left Less q e = cc
then_left Equal q e = refl
then_left Greater q e = cc

then_right : (p q : Ordering) → ordering_then p q ≡ Equal → q ≡ Equal
then_right Less q e = cc
then_right Equal q e = e
then_right Greater q e = cc

made : ℕ → ℕ → Code → List ℕ → Diagnostic
made s e c t = record { start = s; end = e; code = c; text = t }

pub diagnostics_exact : (a b : Diagnostic) → diagnostic_cmp a b ≡ Equal → a ≡ b
unfolding made
diagnostics_exact a b all =
    let p = nat_cmp a.start b.start in let q = nat_cmp a.end b.end in let r = text_cmp (code_text a.code) (code_text b.code) in let t = slice_cmp nat_cmp a.text b.text in
    let rest : ordering_then q (ordering_then r t) ≡ Equal = then_right p (ordering_then q (ordering_then r t)) all in
    let last : ordering_then r t ≡ Equal = then_right q (ordering_then r t) rest in
    let starts = exact_unsigned a.start b.start (then_left p (ordering_then q (ordering_then r t)) all) in
    let ends = exact_unsigned a.end b.end (then_left q (ordering_then r t) rest) in
    let codes_same = code_exact a.code b.code (then_left r t last) in
    let texts = exact_bytes a.text b.text (then_right r t last) in
    ap (λ s. made s a.end a.code a.text) starts ∙ ap (λ n. made b.start n a.code a.text) ends ∙ ap (λ c. made b.start b.end c a.text) codes_same ∙ ap (λ x. made b.start b.end b.code x) texts

pub diagnostics_total : IsTotalOrder diagnostic_cmp
diagnostics_total =
    then_total (on_total (λ (f : Diagnostic). f.start) nat_cmp_total) (then_total (on_total (λ (f : Diagnostic). f.end) nat_cmp_total)
    (then_total (on_total (λ (f : Diagnostic). code_text f.code) texts_total) (on_total (λ (f : Diagnostic). f.text) (lists_total nat_cmp_total))))

-- the order that the type derives
derived_order : (f g : Diagnostic) → derived.ghosts.cmp f g ≡ diagnostic_cmp f g
derived_order f g =
    ap (λ (o : Ordering). ordering_then (nat_cmp f.start g.start) (ordering_then (nat_cmp f.end g.end) (ordering_then o (slice_cmp nat_cmp f.text g.text)))) (codes_order f.code g.code)

pub derived_is : derived.ghosts.cmp ≡ diagnostic_cmp
derived_is = fun_ext (λ f. fun_ext (derived_order f))

pub derived_exact : (a b : Diagnostic) → derived.ghosts.cmp a b ≡ Equal → a ≡ b
derived_exact a b e = diagnostics_exact a b (sym (derived_order a b) ∙ e)
