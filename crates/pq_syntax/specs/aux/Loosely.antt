-- Auxiliary: what braces show of a text, as a function with a list of open braces. The laws
-- `each_shown` and `one_shown` tie it to `Shows`, which is its meaning.
use Rattle.std.specs.Prelude.{ℕ, zero, suc, ◌+◌, ◌≤◌, Bool, true, false, cond, List, [], ◌∷◌, ◌++◌, length, drop, map, Option, Some, None}
use Rattle.pq_lex.specs.aux.Reading.{tokens_of}
use Rattle.pq_lex.specs.declared.token.Code.{Code}
use Rattle.pq_lex.specs.declared.token.Code.TheVariants.{UnclosedComment}
use Rattle.pq_lex.specs.declared.token.Span.{Span}
use Rattle.pq_lex.specs.declared.token.Token.{Token}
use Rattle.pq_syntax.specs.Loose.{moved, line_feed_from, is_anew, is_at, sight, shown, taken, opened, begins_after, within, at_file_level, is_other}
use Rattle.pq_syntax.specs.Words.{Word, words}
use Rattle.pq_syntax.specs.declared.loose.open.Holder.{Holder}
use Rattle.pq_syntax.specs.declared.loose.sights.Sight.{Sight}
use Rattle.pq_syntax.specs.declared.loose.sights.Sight.TheVariants.{Closes, Message, Enum, Service, Group}
use Rattle.pq_syntax.specs.declared.tree.Node.{Node}

-- `goes_on_from text i fault` is the offset at which lexing goes on after `fault`, the first error
-- of the rest of `text` from offset `i` on, or `None` if nothing follows.
abbrev pub goes_on_from : List ℕ → ℕ → Option (Span × Code) → Option ℕ
goes_on_from text i None = None
goes_on_from text i (Some (at, UnclosedComment)) = None
goes_on_from text i (Some (at, code)) = Some (line_feed_from text (i + at.start + 1))

-- `EndsBy n end t` is whether the token `t`, `n` bytes later, ends at offset `end` or before.
abbrev pub EndsBy : ℕ → ℕ → Token → Type 0
EndsBy n end t = (t.span.start ≤ t.span.end) × (n + t.span.end ≤ end)

-- `lexed_on fuel text i` is the tokens of `text` from offset `i` on, lexing at most `fuel` times.
unfoldable pub lexed_on : ℕ → List ℕ → ℕ → List Token
lexed_on zero text i = []
lexed_on (suc fuel) text i =
    map (moved i) (tokens_of (drop i text)).tokens
    ++ elim (goes_on_from text i (tokens_of (drop i text)).fault) [ None ↦ [] | Some n ↦ lexed_on fuel text n ]

-- `tokens_on text` is the tokens of `text`, whatever errors stand among them.
unfoldable pub tokens_on : List ℕ → List Token
tokens_on text = lexed_on (suc (length text)) text 0

-- `innermost braces` is what holds a statement where `braces` are open, the innermost first.
abbrev pub innermost : List Holder → Holder
innermost [] = at_file_level
innermost (h ∷ hs) = h

-- `outer braces` is the open `braces` without the innermost.
abbrev pub outer : List Holder → List Holder
outer [] = []
outer (h ∷ hs) = hs

-- `deepens s` is whether the sight `s` opens a body of a message, an enum, a service or a group.
abbrev pub deepens : Sight → Bool
deepens Message = true
deepens Enum = true
deepens Service = true
deepens (Group n opens) = opens
deepens _ = false

-- `is_closing s` is whether the sight `s` is the `}` of a body.
abbrev pub is_closing : Sight → Bool
is_closing Closes = true
is_closing _ = false

-- `turned braces s` is the open braces after the sight `s`, where `braces` are those before it.
abbrev pub turned : List Holder → Sight → List Holder
turned braces s = elim (opened s) [ Some b ↦ within (innermost braces).depth b ∷ braces | None ↦ cond (is_closing s) (outer braces) braces ]

-- `still_open text ws braces` is the open braces before the first of `ws`, where `braces` are those
-- before that is seen: none if it is anew.
abbrev pub still_open : List ℕ → List Word → List Holder → List Holder
still_open text ws braces = cond (is_at (is_anew text) 0 ws) [] braces

-- `next_sight text braces begins ws` is the sight at the first of `ws`, where `braces` are open
-- before it is seen.
abbrev pub next_sight : List ℕ → List Holder → Bool → List Word → Sight
next_sight text braces begins ws = sight text (innermost (still_open text ws braces)) begins ws

-- `shown_with fuel text braces begins ws` is the statements that braces show among the words `ws`,
-- where `braces` are open, at `fuel` sights at most.
unfoldable pub shown_with : ℕ → List ℕ → List Holder → Bool → List Word → List Node
shown_with zero text braces begins ws = []
shown_with (suc fuel) text braces begins [] = []
shown_with (suc fuel) text braces begins (w ∷ ws) =
    let now = still_open text (w ∷ ws) braces in
    let s = next_sight text braces begins (w ∷ ws) in
    shown (innermost now).depth (w ∷ ws) s ++ shown_with fuel text (turned now s) (begins_after s) (drop (taken s) (w ∷ ws))

-- `shown_from text ws` is the statements that braces show among the words `ws` of `text`.
unfoldable pub shown_from : List ℕ → List Word → List Node
shown_from text ws = shown_with (length ws) text [] true ws

-- `loosely text` is what braces show of `text`.
unfoldable pub loosely : List ℕ → List Node
loosely text = shown_from text (words text (tokens_on text))

-- `has_other_version text` is whether `text` is of another version.
unfoldable pub has_other_version : List ℕ → Bool
has_other_version text = is_other (words text (tokens_of text).tokens)
