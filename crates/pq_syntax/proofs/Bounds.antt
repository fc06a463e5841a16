-- Integers with a sign or without, and the ranges that they bound.
use Rattle.std.proofs.Common.{◌≡◌, ℕ, Bool, true, false, ◌||◌, List, [], ◌∷◌, refl, sym, ap, ◌∙◌}
use Rattle.pq_lex.specs.declared.token.Span.{Span}
use Rattle.pq_lex.specs.declared.token.Token.{Token}
use Rattle.pq_syntax.specs.Rule.{Parse}
use Rattle.pq_syntax.specs.Rule.Rule.{Single, Alt, Star}
use Rattle.pq_syntax.specs.Rule.Parse.{Leaf, Nil, Pair, Left, Right}
use Rattle.pq_syntax.specs.aux.Machine.{nullable}
use Rattle.pq_syntax.specs.Yield.{yield_of}
use Rattle.pq_syntax.specs.aux.Takes.{Takes, starts_at}
use Rattle.pq_syntax.specs.Grammar.{◌▸◌, sign_where, bound, range_end, range, ranges}
use Rattle.pq_syntax.specs.Parts.{number_of, bound_of, end_of_range, range_of, span_across}
use Rattle.pq_syntax.specs.aux.Steps.{TakesToken, Passes, Reads, Fails}
use Rattle.pq_syntax.specs.Words.{Word, word, words, accepts}
use Rattle.pq_syntax.specs.declared.failure.Failure.{Failure}
use Rattle.pq_syntax.specs.declared.parts.Number.{Number}
use Rattle.pq_syntax.specs.declared.parts.RangeEnd.{RangeEnd}
use Rattle.pq_syntax.specs.declared.parts.RangeEnd.TheVariants.{Alone, To, Max}
use Rattle.pq_syntax.specs.declared.terminal.Terminal.TheVariants.{Comma, Minus, AnyInteger, ToWord, MaxWord}
use Rattle.pq_syntax.proofs.Bodies.{Across}
use Rattle.pq_syntax.proofs.Choices.{by_word, chooses_first, chosen_fails, starts_word}
use Rattle.pq_syntax.proofs.Rules.{takes_then, takes_left, takes_right, takes_none, takes_empty, starts_then}
use Rattle.pq_syntax.proofs.Steps.{fails_first, fails_then, fails_token, fails_left, fails_right}

or_none : (b : Bool) → b ≡ (b || false)
or_none true = refl
or_none false = refl

-- where signs are read, a sign begins where a minus does
pub sign_read : (text : List ℕ) (signs : Bool) (tokens : List Token)
    → signs ≡ true
    → starts_at accepts (Single Minus) (words text tokens) ≡ starts_at accepts (sign_where signs) (words text tokens)
sign_read text false tokens h = cc
sign_read text true [] h = refl
sign_read text true (t ∷ ts) h = or_none (accepts Minus (word text t))

-- where none are read, no sign begins
pub sign_unread : (text : List ℕ) (signs : Bool) (tokens : List Token) → signs ≡ false → false ≡ starts_at accepts (sign_where signs) (words text tokens)
sign_unread text true tokens h = cc
sign_unread text false [] h = refl
sign_unread text false (t ∷ ts) h = refl

-- what reads no sign begins nowhere
unsigned_never : (text : List ℕ) (tokens : List Token) → starts_at accepts (sign_where false) (words text tokens) ≡ true → ⊥
unsigned_never text [] h = cc
unsigned_never text (t ∷ ts) h = cc

passes_sign : {text : List ℕ} {tokens rest : List Token} {t : Token} (signs : Bool)
    → starts_at accepts (sign_where signs) (words text tokens) ≡ true
    → TakesToken text Minus tokens rest t
    → Takes accepts (sign_where signs) (words text tokens) (words text rest) (Left (Leaf (word text t)))
passes_sign {text} {tokens} true h s = takes_left (sign_read text true tokens refl ∙ h) s.takes
passes_sign {text} {tokens} false h s = absurd (unsigned_never text tokens h)

fails_sign : {text : List ℕ} {tokens : List Token} {e : Failure} (signs : Bool)
    → starts_at accepts (sign_where signs) (words text tokens) ≡ true
    → Fails text (Single Minus) tokens e
    → Fails text (sign_where signs) tokens e
fails_sign {text} {tokens} true h f = fails_left (sign_read text true tokens refl ∙ h) f
fails_sign {text} {tokens} false h f = absurd (unsigned_never text tokens h)

-- the parse of a sign that is not there, and the number stays as it is
record NoSign (text : List ℕ) (signs : Bool) (tokens : List Token) : Type 0 where
  parse : Parse Word
  takes : Takes accepts (sign_where signs) (words text tokens) (words text tokens) parse
  plain : (w : Word) → bound_of (Pair parse (Leaf w)) ≡ number_of (Leaf w)

no_sign : (text : List ℕ) (signs : Bool) (tokens : List Token) → starts_at accepts (sign_where signs) (words text tokens) ≡ false → NoSign text signs tokens
no_sign text true tokens h = record { parse = Right Nil; takes = takes_none (sign_read text true tokens refl ∙ h) refl; plain = λ w. refl }
no_sign text false tokens h = record { parse = Nil; takes = takes_empty; plain = λ w. refl }

-- an integer after a minus
pub bound_signed : {text : List ℕ} {tokens rest left : List Token} {s t : Token} {n : Number} {span : Span} (signs : Bool)
    → starts_at accepts (sign_where signs) (words text tokens) ≡ true
    → TakesToken text Minus tokens rest s
    → TakesToken text AnyInteger rest left t
    → n ≡ number_of (Leaf (word text t))
    → Across tokens left span
    → Reads text (bound signs) bound_of tokens left (record { negative = true; value = n.value; span = span })
bound_signed {text} {tokens} {rest} {left} {s} {t} {n} {span} signs h sign number e across =
    let all = takes_then (passes_sign signs h sign) number.takes in
    let whole : Parse Word = Pair (Left (Leaf (word text s))) (Leaf (word text t)) in
    record {
      parse = whole;
      takes = all;
      is =
          ap (λ (x : Span). record { negative = true; value = n.value; span = x }) (across text (yield_of whole) all.read)
          ∙ ap (λ (x : Number). record { negative = true; value = x.value; span = span_across (yield_of whole) }) e;
    }

-- an integer without a sign
pub bound_unsigned : {text : List ℕ} {tokens left : List Token} {t : Token} {n : Number} (signs : Bool)
    → starts_at accepts (sign_where signs) (words text tokens) ≡ false
    → TakesToken text AnyInteger tokens left t
    → n ≡ number_of (Leaf (word text t))
    → Reads text (bound signs) bound_of tokens left n
bound_unsigned {text} {tokens} {left} {t} signs h number e =
    let none = no_sign text signs tokens h in
    record { parse = _; takes = takes_then none.takes number.takes; is = e ∙ sym (none.plain (word text t)) }

pub bound_fails_at_sign : {text : List ℕ} {tokens : List Token} {e : Failure} (signs : Bool)
    → starts_at accepts (sign_where signs) (words text tokens) ≡ true
    → Fails text (Single Minus) tokens e
    → Fails text (bound signs) tokens e
bound_fails_at_sign signs h f = fails_first (fails_sign signs h f)

pub bound_fails_behind_sign : {text : List ℕ} {tokens rest : List Token} {t : Token} {e : Failure} (signs : Bool)
    → starts_at accepts (sign_where signs) (words text tokens) ≡ true
    → TakesToken text Minus tokens rest t
    → Fails text (Single AnyInteger) rest e
    → Fails text (bound signs) tokens e
bound_fails_behind_sign {text} {tokens} {rest} signs h s f =
    let sign : Passes text (sign_where signs) tokens rest = record { parse = _; takes = passes_sign signs h s } in
    fails_then sign f

pub bound_fails_unsigned : {text : List ℕ} {tokens : List Token} {e : Failure} (signs : Bool)
    → starts_at accepts (sign_where signs) (words text tokens) ≡ false
    → Fails text (Single AnyInteger) tokens e
    → Fails text (bound signs) tokens e
bound_fails_unsigned {text} {tokens} signs h f =
    let none = no_sign text signs tokens h in
    let sign : Passes text (sign_where signs) tokens tokens = record { parse = _; takes = none.takes } in
    fails_then sign f

bound_skips_not : (signs : Bool) → nullable (bound signs) ≡ false
bound_skips_not true = refl
bound_skips_not false = refl

range_skips_not : (signs : Bool) → nullable (range signs) ≡ false
range_skips_not true = refl
range_skips_not false = refl

pub ranges_skip_not : (signs : Bool) → nullable (ranges signs) ≡ false
ranges_skip_not true = refl
ranges_skip_not false = refl

-- a bound begins by its sign or by its number
bound_starts : (text : List ℕ) (signs : Bool) (tokens : List Token)
    → (starts_at accepts (sign_where signs) (words text tokens) || starts_at accepts (Single AnyInteger) (words text tokens)) ≡ starts_at accepts (bound signs) (words text tokens)
bound_starts text true [] = refl
bound_starts text false [] = refl
bound_starts text true (t ∷ ts) = refl
bound_starts text false (t ∷ ts) = refl

-- ranges begin where their first bound does
ranges_start : (text : List ℕ) (signs : Bool) (tokens : List Token)
    → starts_at accepts (ranges signs) (words text tokens) ≡ starts_at accepts (bound signs) (words text tokens)
ranges_start text signs tokens =
    starts_then accepts (range signs) (Star (Single Comma ▸ range signs)) (words text tokens) _ (range_skips_not signs)
    (starts_then accepts (bound signs) (range_end signs) (words text tokens) _ (bound_skips_not signs) refl)

-- ranges begin by a sign, or by a number where no sign is
pub ranges_by_sign : (text : List ℕ) (signs : Bool) (tokens : List Token)
    → starts_at accepts (sign_where signs) (words text tokens) ≡ true
    → true ≡ starts_at accepts (ranges signs) (words text tokens)
ranges_by_sign text signs tokens h =
    sym (ap (λ b. b || starts_at accepts (Single AnyInteger) (words text tokens)) h) ∙ bound_starts text signs tokens ∙ sym (ranges_start text signs tokens)

pub ranges_by_number : (text : List ℕ) (signs : Bool) (tokens : List Token)
    → starts_at accepts (sign_where signs) (words text tokens) ≡ false
    → starts_at accepts (Single AnyInteger) (words text tokens) ≡ starts_at accepts (ranges signs) (words text tokens)
ranges_by_number text signs tokens h =
    sym (ap (λ b. b || starts_at accepts (Single AnyInteger) (words text tokens)) h) ∙ bound_starts text signs tokens ∙ sym (ranges_start text signs tokens)

module _ {text : List ℕ} {tokens rest : List Token} {s : Token} (signs : Bool) where
  -- a range that ends at a number
  pub ends_at_bound : {left : List Token} {n : Number}
      → starts_at accepts (Single ToWord) (words text tokens) ≡ true
      → TakesToken text ToWord tokens rest s
      → starts_at accepts (ranges signs) (words text rest) ≡ true
      → Reads text (bound signs) bound_of rest left n
      → Reads text (range_end signs) end_of_range tokens left (To n)
  ends_at_bound h to b number = record {
    parse = _;
    takes =
        takes_left (starts_word text ToWord (Alt (bound signs) (Single MaxWord)) tokens true h)
        (takes_then to.takes (takes_left (sym (ranges_start text signs rest) ∙ b) number.takes));
    is = ap (λ x. To x) number.is;
  }

  -- and one that ends at the greatest number
  pub ends_at_max : {left : List Token} {t : Token}
      → starts_at accepts (Single ToWord) (words text tokens) ≡ true
      → TakesToken text ToWord tokens rest s
      → starts_at accepts (ranges signs) (words text rest) ≡ false
      → TakesToken text MaxWord rest left t
      → Reads text (range_end signs) end_of_range tokens left Max
  ends_at_max h to b max = record {
    parse = _;
    takes =
        takes_left (starts_word text ToWord (Alt (bound signs) (Single MaxWord)) tokens true h)
        (takes_then to.takes (takes_right (sym (ranges_start text signs rest) ∙ b) (bound_skips_not signs) max.takes));
    is = refl;
  }

  pub end_fails_at_bound : {e : Failure}
      → starts_at accepts (Single ToWord) (words text tokens) ≡ true
      → TakesToken text ToWord tokens rest s
      → starts_at accepts (ranges signs) (words text rest) ≡ true
      → Fails text (bound signs) rest e
      → Fails text (range_end signs) tokens e
  end_fails_at_bound h to b f = chosen_fails (chooses_first by_word h) (fails_token to (fails_left (sym (ranges_start text signs rest) ∙ b) f))

  pub end_fails_at_max : {e : Failure}
      → starts_at accepts (Single ToWord) (words text tokens) ≡ true
      → TakesToken text ToWord tokens rest s
      → starts_at accepts (ranges signs) (words text rest) ≡ false
      → Fails text (Single MaxWord) rest e
      → Fails text (range_end signs) tokens e
  end_fails_at_max h to b f = chosen_fails (chooses_first by_word h) (fails_token to (fails_right (sym (ranges_start text signs rest) ∙ b) (bound_skips_not signs) f))

-- a range that is a number alone
pub ends_alone : (text : List ℕ) (signs : Bool) (tokens : List Token)
    → starts_at accepts (Single ToWord) (words text tokens) ≡ false
    → Reads text (range_end signs) end_of_range tokens tokens Alone
ends_alone text signs tokens h = record { parse = Right Nil; takes = takes_none (starts_word text ToWord (Alt (bound signs) (Single MaxWord)) tokens false h) refl; is = refl }

pub end_fails_at_to : (text : List ℕ) (signs : Bool) (tokens : List Token) (e : Failure)
    → starts_at accepts (Single ToWord) (words text tokens) ≡ true
    → Fails text (Single ToWord) tokens e
    → Fails text (range_end signs) tokens e
end_fails_at_to text signs tokens e h f = chosen_fails (chooses_first by_word h) (fails_first f)

-- a range from its two parts
pub range_reads : {text : List ℕ} {tokens rest left : List Token} {n : Number} {last : RangeEnd} {span : Span} (signs : Bool)
    → Reads text (bound signs) bound_of tokens rest n
    → Reads text (range_end signs) end_of_range rest left last
    → Across tokens left span
    → Reads text (range signs) range_of tokens left (record { first = n; last = last; span = span })
range_reads {text} {tokens} {rest} {left} {n} {last} {span} signs first end across =
    let all = takes_then first.takes end.takes in
    let whole : Parse Word = Pair first.parse end.parse in
    record {
      parse = whole;
      takes = all;
      is =
          ap (λ (x : Span). record { first = n; last = last; span = x }) (across text (yield_of whole) all.read)
          ∙ ap (λ (x : Number). record { first = x; last = last; span = span_across (yield_of whole) }) first.is
          ∙ ap (λ (x : RangeEnd). record { first = bound_of first.parse; last = x; span = span_across (yield_of whole) }) end.is;
    }
