-- A rule takes no more words than there are, and one at least where it begins. So each loop of the
-- parser ends.
use Rattle.std.proofs.Common.{◌≡◌, ℕ, suc, ◌<◌, ◌≤◌, refl, Bool, true, false, cond, List, [], ◌∷◌, ◌++◌, length, Result, Ok, Err, Option, Some, None, sym, ap, ◌∙◌, arith, length-append}
use Rattle.std.proofs.lemmas.List.{length-map}
use Rattle.pq_lex.specs.declared.token.Token.{Token}
use Rattle.pq_syntax.specs.Yield.{yield_of}
use Rattle.pq_syntax.specs.aux.Machine.{in_first, nullable, after, pop, push, all_skip, empty_parses, on_ok, run}
use Rattle.pq_syntax.specs.Rule.{Rule, Parse}
use Rattle.pq_syntax.specs.Words.{Word, word, words, accepts}
use Rattle.pq_syntax.specs.aux.Steps.{TakesToken, PassesFrom, Reads, Begins}
use Rattle.pq_syntax.specs.aux.Takes.{Takes, starts_at}
use Rattle.pq_syntax.specs.declared.terminal.Terminal.{Terminal}

module _ {A W : Type 0} (accepts : A → W → Bool) where
  on_err : {X Y : Type 0} (f : X → Y) (r : Result X ℕ) (n : ℕ) → on_ok f r ≡ Err n → r ≡ Err n
  on_err f (Ok x) n h = cc
  on_err f (Err m) n h = cc

  at_end : (z : Bool) (vs : List (Parse W)) (n : ℕ) → cond z (Ok vs) (Err 0) ≡ Err n → n ≤ 0
  at_end true vs n h = cc
  at_end false vs n h = let e : 0 ≡ n = cc in omega (arith, e)

  -- no more words are left at an error than there are
  popped : (k : List (Rule A)) (w : W) (ws : List W) (n : ℕ) (p : Option (List (Rule A)))
      → ((k' : List (Rule A)) → run accepts k' ws ≡ Err n → n ≤ length ws)
      → elim p as (λ _. Result (List (Parse W)) ℕ) [ None ↦ Err (length (w ∷ ws)) | Some k' ↦ on_ok (push accepts k w) (run accepts k' ws) ] ≡ Err n
      → n ≤ length (w ∷ ws)
  popped k w ws n None within e = let same : suc (length ws) ≡ n = cc in omega (arith, same)
  popped k w ws n (Some k') within e = let fewer = within k' (on_err (push accepts k w) (run accepts k' ws) n e) in omega (arith, fewer)

  err_within : (k : List (Rule A)) (ws : List W) (n : ℕ) → run accepts k ws ≡ Err n → n ≤ length ws
  unfolding run
  err_within k [] n h = at_end (all_skip k) (empty_parses k) n h
  err_within k (w ∷ ws) n h = popped k w ws n (pop accepts k w) (λ k' e. err_within k' ws n e) h

  -- a rule that begins with a word has no error before it
  started_goes : (r : Rule A) (w : W) (ws : List W) → in_first accepts r w ≡ true → run accepts (r ∷ []) (w ∷ ws) ≡ Err (suc (length ws)) → ⊥
  unfolding run
  started_goes r w ws h e = first (in_first accepts r w) h e
    where
      first : (t : Bool)
          → t ≡ true
          → elim (cond t (Some (after accepts r [] w)) (cond (nullable r) None None)) as (λ _. Result (List (Parse W)) ℕ) [ None ↦ Err (length (w ∷ ws)) | Some k' ↦ on_ok (push accepts (r ∷ []) w) (run accepts k' ws) ] ≡ Err (suc (length ws))
          → ⊥
      first true h e =
          let within = err_within (after accepts r [] w) ws (suc (length ws)) (on_err (push accepts (r ∷ []) w) (run accepts (after accepts r [] w) ws) (suc (length ws)) e) in
          absurd (omega (arith, within))
      first false h e = cc

  nothing_more : (w : W) (ws : List W) → run accepts [] (w ∷ ws) ≡ Err (suc (length ws))
  unfolding run
  nothing_more w ws = refl

  words_within : {r : Rule A} {x y : List W} {p : Parse W} → Takes accepts r x y p → length y ≤ length x
  words_within {y = y} {p} t = let e = ap length t.read ∙ length-append (yield_of p) y in omega (arith, e)

  words_shorter : (r : Rule A) (x y : List W) (p : Parse W) → starts_at accepts r x ≡ true → Takes accepts r x y p → length y < length x
  words_shorter r [] y p h t = cc
  words_shorter r (w ∷ ws) y p h t = some (yield_of p) t.read
    where
      some : (l : List W) → w ∷ ws ≡ l ++ y → length y < length (w ∷ ws)
      some [] e = absurd (started_goes r w ws h (t.goes [] ∙ ap (λ z. on_ok (λ ps. p ∷ ps) (run accepts [] z)) (sym e) ∙ ap (on_ok (λ ps. p ∷ ps)) (nothing_more w ws)))
      some (v ∷ vs) e = let m = ap length e ∙ length-append (v ∷ vs) y in omega (arith, m)

-- the same of tokens
tokens_within : (text : List ℕ) {r : Rule Terminal} {p : Parse Word} (x y : List Token) → Takes accepts r (words text x) (words text y) p → length y ≤ length x
tokens_within text x y t = let w = words_within accepts t in omega (arith, w, length-map x (word text), length-map y (word text))

tokens_shorter : (text : List ℕ) (r : Rule Terminal) (p : Parse Word) (x y : List Token)
    → starts_at accepts r (words text x) ≡ true
    → Takes accepts r (words text x) (words text y) p
    → length y < length x
tokens_shorter text r p x y h t = let w = words_shorter accepts r (words text x) (words text y) p h t in omega (arith, w, length-map x (word text), length-map y (word text))

module _ {text : List ℕ} {x y : List Token} where
  pub token_shorter : {c : Terminal} {t : Token} → TakesToken text c x y t → length y < length x
  token_shorter {c} {t} s =
      let e = ap length s.takes.read in
      omega (arith, e, length-map x (word text), length-map y (word text))

  pub reads_within : {X : Type 0} {r : Rule Terminal} {view : Parse Word → X} {v : X} → Reads text r view x y v → length y ≤ length x
  reads_within s = tokens_within text x y s.takes

  pub begins_shorter : {X : Type 0} {r : Rule Terminal} {view : Parse Word → List X} {old new : List X} → Begins text r view x y old new → length y < length x
  begins_shorter {r = r} s = tokens_shorter text r s.adds.parse x y s.in_first s.adds.takes

  pub passes_shorter : {r : Rule Terminal} → PassesFrom text r x y → length y < length x
  passes_shorter {r = r} s = tokens_shorter text r s.passes.parse x y s.in_first s.passes.takes
