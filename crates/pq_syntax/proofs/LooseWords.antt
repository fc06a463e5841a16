-- What stands at one number of some words, and the loops that count words from there on.
use Rattle.std.proofs.Common.{◌≡◌, ℕ, zero, suc, ◌+◌, ◌<◌, ◌≤◌, Bool, true, false, ◌&&◌, cond, List, [], ◌∷◌, length, drop, get_or, ltb, refl, sym, ap, ◌∙◌, arith, add-one}
use Rattle.std.proofs.lemmas.Bool.{cond-true, cond-false, le-ltb}
use Rattle.pq_lex.specs.declared.token.Token.{Token}
use Rattle.pq_syntax.specs.Loose.{is_at, is_name, dotted, texts, ends_head, before_body}
use Rattle.pq_syntax.specs.Words.{Word, word, words, accepts}
use Rattle.pq_syntax.specs.declared.terminal.Terminal.TheVariants.{AnyText, Dot}

pub and_false : (b : Bool) → (b && false) ≡ false
and_false true = refl
and_false false = refl

-- the word of a number below the length
pub at_word : (p : Word → Bool) (text : List ℕ) (n : ℕ) (ts : List Token) (d : Token) → n < length ts → is_at p n (words text ts) ≡ p (word text (get_or ts n d))
unfolding is_at
at_word p text n [] d h = absurd (omega arith)
at_word p text zero (t ∷ ts) d h = refl
at_word p text (suc n) (t ∷ ts) d h = at_word p text n ts d (omega arith)

-- no word is past the length
pub at_none : (p : Word → Bool) (text : List ℕ) (n : ℕ) (ts : List Token) → length ts ≤ n → is_at p n (words text ts) ≡ false
unfolding is_at
at_none p text zero [] h = refl
at_none p text (suc n) [] h = refl
at_none p text zero (t ∷ ts) h = absurd (omega arith)
at_none p text (suc n) (t ∷ ts) h = at_none p text n ts (omega arith)

-- the test of a number fails past the length
pub no_less : (p : Word → Bool) (text : List ℕ) (n : ℕ) (ts : List Token) → length ts ≤ n → ltb n (length ts) ≡ is_at p n (words text ts)
no_less p text n ts h = le-ltb n (length ts) h ∙ sym (at_none p text n ts h)

words_next : (text : List ℕ) (ts : List Token) (n : ℕ) (d : Token) → n < length ts → drop n (words text ts) ≡ word text (get_or ts n d) ∷ drop (suc n) (words text ts)
words_next text [] n d h = absurd (omega arith)
words_next text (t ∷ ts) zero d h = refl
words_next text (t ∷ ts) (suc n) d h = words_next text ts n d (omega arith)

pub words_more : (text : List ℕ) (ts : List Token) (n : ℕ) (d : Token) → n < length ts → drop n (words text ts) ≡ word text (get_or ts n d) ∷ drop (n + 1) (words text ts)
words_more text ts n d h = rw add-one (words_next text ts n d h)

pub words_none : (text : List ℕ) (ts : List Token) (n : ℕ) → length ts ≤ n → drop n (words text ts) ≡ []
words_none text [] zero h = refl
words_none text [] (suc n) h = refl
words_none text (t ∷ ts) zero h = absurd (omega arith)
words_none text (t ∷ ts) (suc n) h = words_none text ts n (omega arith)

-- strings, one step on
texts_next : (n : ℕ) (ws : List Word) → texts (drop n ws) ≡ cond (is_at (accepts AnyText) n ws) (suc (texts (drop (suc n) ws))) 0
unfolding is_at texts
texts_next zero [] = refl
texts_next (suc n) [] = refl
texts_next zero (w ∷ ws) = refl
texts_next (suc n) (w ∷ ws) = texts_next n ws

pub texts_goes : (n : ℕ) (ws : List Word) → is_at (accepts AnyText) n ws ≡ true → texts (drop n ws) ≡ suc (texts (drop (n + 1) ws))
texts_goes n ws h = rw add-one (texts_next n ws ∙ cond-true _ _ _ h)

pub texts_stops : (n : ℕ) (ws : List Word) → is_at (accepts AnyText) n ws ≡ false → texts (drop n ws) ≡ 0
texts_stops n ws h = texts_next n ws ∙ cond-false _ _ _ h

-- parts of a dotted name, one step on
dotted_next : (text : List ℕ) (n : ℕ) (ws : List Word) → dotted text (drop n ws) ≡ cond (is_at (accepts Dot) n ws && is_at (is_name text) (suc n) ws) (suc (suc (dotted text (drop (suc (suc n)) ws)))) 0
unfolding is_at dotted
dotted_next text zero [] = refl
dotted_next text (suc n) [] = refl
dotted_next text zero (w ∷ []) = sym (cond-false _ _ _ (and_false (accepts Dot w)))
dotted_next text zero (w ∷ v ∷ ws) = refl
dotted_next text (suc n) (w ∷ ws) = dotted_next text n ws

pub dotted_goes : (text : List ℕ) (n : ℕ) (ws : List Word) → is_at (accepts Dot) n ws ≡ true → is_at (is_name text) (n + 1) ws ≡ true → dotted text (drop n ws) ≡ suc (suc (dotted text (drop (n + 2) ws)))
dotted_goes text n ws h k =
    let two : n + 2 ≡ suc (suc n) = omega arith in
    rw two (dotted_next text n ws ∙ cond-true _ _ _ (ap (λ b. b && is_at (is_name text) (suc n) ws) h ∙ (rw add-one at k)))

pub no_dot : (text : List ℕ) (n : ℕ) (ws : List Word) → is_at (accepts Dot) n ws ≡ false → dotted text (drop n ws) ≡ 0
no_dot text n ws h = dotted_next text n ws ∙ cond-false _ _ _ (ap (λ b. b && is_at (is_name text) (suc n) ws) h)

pub no_name : (text : List ℕ) (n : ℕ) (ws : List Word) → is_at (is_name text) (n + 1) ws ≡ false → dotted text (drop n ws) ≡ 0
no_name text n ws h = dotted_next text n ws ∙ cond-false _ _ _ (ap (λ b. is_at (accepts Dot) n ws && b) (rw add-one at h) ∙ and_false (is_at (accepts Dot) n ws))

-- the words of a group's head, one step on
pub head_goes : (text : List ℕ) (ts : List Token) (n : ℕ) (d : Token) → n < length ts → ends_head text (word text (get_or ts n d)) ≡ false → before_body text (drop n (words text ts)) ≡ suc (before_body text (drop (n + 1) (words text ts)))
unfolding before_body
head_goes text ts n d h e = ap (before_body text) (words_more text ts n d h) ∙ cond-false _ _ _ e

pub head_stops : (text : List ℕ) (ts : List Token) (n : ℕ) (d : Token) → n < length ts → ends_head text (word text (get_or ts n d)) ≡ true → before_body text (drop n (words text ts)) ≡ 0
unfolding before_body
head_stops text ts n d h e = ap (before_body text) (words_more text ts n d h) ∙ cond-true _ _ _ e

pub head_ends : (text : List ℕ) (ts : List Token) (n : ℕ) → length ts ≤ n → before_body text (drop n (words text ts)) ≡ 0
unfolding before_body
head_ends text ts n h = ap (before_body text) (words_none text ts n h)
