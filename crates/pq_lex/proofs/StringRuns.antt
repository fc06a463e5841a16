-- A run of letters and digits in a string: each means itself.
use Rattle.std.proofs.Common.{◌≡◌, ℕ, zero, suc, ◌+◌, ◌-◌, ◌<◌, ◌≤◌, true, List, length, ◌∙◌, ap, subst, sym, arith}
use Rattle.std.proofs.lemmas.Bool.Decides.{nat_tests}
use Rattle.pq_lex.specs.declared.bytes.Set.TheVariants.{Words}
use Rattle.pq_lex.specs.Classes.{byte, in_set, is_quote}
use Rattle.pq_lex.specs.Runs.{Run, run_end}
use Rattle.pq_lex.specs.Tokens.{is_plain}
use Rattle.pq_lex.specs.aux.Scan.{text_step}
use Rattle.pq_lex.proofs.RunLemmas.{run_is}
use Rattle.pq_lex.proofs.StringSteps.{Goes, plain_goes}

word_plain : (quote b : ℕ) → is_quote quote ≡ true → in_set Words b ≡ true → is_plain quote b ≡ true
word_plain quote b q h = grind (arith, nat_tests, q, h)

module _ (quote start : ℕ) (text : List ℕ) (q : is_quote quote ≡ true) where
  words_go : (n i fuel : ℕ) → Run Words text i (i + n) → length text ≤ i + fuel → Goes fuel quote start text i (i + n)
  words_go zero i fuel r enough = record {
    less = fuel;
    enough = omega (arith, enough);
    same = ap (text_step fuel quote start text) (let z : i ≡ i + 0 = omega arith in z);
  }
  words_go (suc n) i fuel r enough =
      let g = plain_goes quote start text i (omega (arith, r.within)) fuel enough (word_plain quote (byte text i) q (r.all i (omega arith) (omega arith))) in
      let end : i + 1 + n ≡ i + suc n = omega arith in
      let others : Run Words text (i + 1) (i + 1 + n) = record {
        ordered = omega arith;
        within = omega (arith, r.within);
        all = λ k low high. r.all k (omega (arith, low)) (omega (arith, high));
      } in
      let rest = words_go n (i + 1) g.less others g.enough in
      subst (Goes fuel quote start text i) end (record { less = rest.less; enough = rest.enough; same = g.same ∙ rest.same })

  -- a plain byte, and the letters and digits after it
  pub plain_run_goes : (i fuel : ℕ) → i < length text → length text ≤ i + fuel → is_plain quote (byte text i) ≡ true → Goes fuel quote start text i (run_end Words text (i + 1))
  plain_run_goes i fuel here enough p =
      let g = plain_goes quote start text i here fuel enough p in
      let r = run_is Words text (i + 1) (omega (arith, here)) in
      let end : i + 1 + (run_end Words text (i + 1) - (i + 1)) ≡ run_end Words text (i + 1) = omega (arith, r.ordered) in
      let rest = words_go (run_end Words text (i + 1) - (i + 1)) (i + 1) g.less (subst (Run Words text (i + 1)) (sym end) r) g.enough in
      subst (Goes fuel quote start text i) end (record { less = rest.less; enough = rest.enough; same = g.same ∙ rest.same })
