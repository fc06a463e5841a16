-- A name and strings, read off all of some words.
use Rattle.std.proofs.Common.{◌≡◌, ℕ, zero, suc, List, [], ◌∷◌, ◌++◌, drop, take, length, refl, sym, ap, ◌∙◌}
use Rattle.std.proofs.lemmas.List.{append-nil}
use Rattle.std.proofs.Math.Seq.{drop-length}
use Rattle.std.specs.Str.Lossy.{utf8_lossy}
use Rattle.pq_lex.specs.declared.token.Span.{Span}
use Rattle.pq_lex.specs.declared.token.Token.{Token}
use Rattle.pq_syntax.specs.Loose.{kind_at, name_of_words, showing, strings_of_words}
use Rattle.pq_syntax.specs.Parts.{joined, name_of, strings_of, span_across, values}
use Rattle.pq_syntax.specs.Rule.{Parse}
use Rattle.pq_syntax.specs.Rule.Parse.{Leaf, Nil, Pair}
use Rattle.pq_syntax.specs.Words.{Word, word, words}
use Rattle.pq_syntax.specs.Yield.{yield_of}
use Rattle.pq_syntax.specs.declared.parts.Name.{Name}
use Rattle.pq_syntax.specs.declared.parts.Strings.{Strings}
use Rattle.pq_syntax.specs.declared.tree.ImportKind.{ImportKind}
use Rattle.pq_syntax.specs.declared.tree.Node.{Node}
use Rattle.pq_syntax.specs.declared.tree.Statement.{Statement}
use Rattle.pq_syntax.specs.declared.tree.Statement.TheVariants.{Import}

-- a parse that yields any words
abbrev pub parse_of : List Word → Parse Word
parse_of [] = Nil
parse_of (w ∷ ws) = Pair (Leaf w) (parse_of ws)

yields : (ws : List Word) → yield_of (parse_of ws) ≡ ws
yields [] = refl
yields (w ∷ ws) = ap (λ (x : List Word). w ∷ x) (yields ws)

-- all words are those before none
pub all_words : (text : List ℕ) (ts rest : List Token) → rest ≡ drop (length ts) ts → words text ts ≡ words text ts ++ words text rest
all_words text ts rest e = sym (ap (λ (x : List Token). words text ts ++ words text x) (e ∙ drop-length ts) ∙ append-nil (words text ts))

all_yielded : (text : List ℕ) (ts rest : List Token) → rest ≡ drop (length ts) ts → words text ts ≡ yield_of (parse_of (words text ts)) ++ words text rest
all_yielded text ts rest e = all_words text ts rest e ∙ ap (λ (x : List Word). x ++ words text rest) (sym (yields (words text ts)))

pub name_of_all : (text : List ℕ) (ts rest : List Token) (n : Name) → rest ≡ drop (length ts) ts
    → ((p : Parse Word) → words text ts ≡ yield_of p ++ words text rest → n ≡ name_of p)
    → n ≡ name_of_words (words text ts)
unfolding name_of_words
name_of_all text ts rest n e h =
    h (parse_of (words text ts)) (all_yielded text ts rest e) ∙ ap (λ (x : List Word). record { text = utf8_lossy (joined x); span = span_across x }) (yields (words text ts))

pub strings_of_all : (text : List ℕ) (ts rest : List Token) (s : Strings) → rest ≡ drop (length ts) ts
    → ((p : Parse Word) → words text ts ≡ yield_of p ++ words text rest → s ≡ strings_of p)
    → s ≡ strings_of_words (words text ts)
unfolding strings_of_words
strings_of_all text ts rest s e h =
    h (parse_of (words text ts)) (all_yielded text ts rest e) ∙ ap (λ (x : List Word). record { value = values x; span = span_across x }) (yields (words text ts))

-- the words of the first tokens, and of those from a number on
pub words_first : (text : List ℕ) (n : ℕ) (ts spanned : List Token) → spanned ≡ take n ts → words text spanned ≡ take n (words text ts)
words_first text n ts spanned e = ap (words text) e ∙ sym (taken n ts)
  where
    taken : (n : ℕ) (ts : List Token) → take n (words text ts) ≡ words text (take n ts)
    taken zero ts = refl
    taken (suc n) [] = refl
    taken (suc n) (t ∷ ts) = ap (λ (x : List Word). word text t ∷ x) (taken n ts)

pub words_after : (text : List ℕ) (n : ℕ) (ts rest : List Token) → rest ≡ drop n ts → words text rest ≡ drop n (words text ts)
words_after text n ts rest e = ap (words text) e ∙ sym (dropped n ts)
  where
    dropped : (n : ℕ) (ts : List Token) → drop n (words text ts) ≡ words text (drop n ts)
    dropped zero ts = refl
    dropped (suc n) [] = refl
    dropped (suc n) (t ∷ ts) = dropped n ts

-- a node whose statement has the name that follows the keyword
pub named_node : (make : Name → Statement) (text : List ℕ) (n depth : ℕ) (ts spanned : List Token) (name : Name) (old new : List Node)
    → spanned ≡ take n ts
    → name ≡ name_of_words (drop 1 (words text spanned))
    → new ≡ old ++ showing depth (words text spanned) (make name) ∷ []
    → new ≡ old ++ showing depth (take n (words text ts)) (make (name_of_words (drop 1 (take n (words text ts))))) ∷ []
named_node make text n depth ts spanned name old new e f g =
    g ∙ ap (λ (x : Name). old ++ showing depth (words text spanned) (make x) ∷ []) f
    ∙ ap (λ (x : List Word). old ++ showing depth x (make (name_of_words (drop 1 x))) ∷ []) (words_first text n ts spanned e)

-- the node of an import
pub import_node : (text : List ℕ) (n k depth : ℕ) (ts spanned behind : List Token) (kind : ImportKind) (file : Strings) (old new : List Node)
    → spanned ≡ take n ts
    → behind ≡ drop k spanned
    → kind ≡ kind_at (words text ts)
    → file ≡ strings_of_words (words text behind)
    → new ≡ old ++ showing depth (words text spanned) (Import kind file) ∷ []
    → new ≡ old ++ showing depth (take n (words text ts)) (Import (kind_at (words text ts)) (strings_of_words (drop k (take n (words text ts))))) ∷ []
import_node text n k depth ts spanned behind kind file old new e b is f g =
    g ∙ ap (λ (x : ImportKind). old ++ showing depth (words text spanned) (Import x file) ∷ []) is
    ∙ ap (λ (x : Strings). old ++ showing depth (words text spanned) (Import (kind_at (words text ts)) x) ∷ []) (f ∙ ap strings_of_words (words_after text k spanned behind b))
    ∙ ap (λ (x : List Word). old ++ showing depth x (Import (kind_at (words text ts)) (strings_of_words (drop k x))) ∷ []) (words_first text n ts spanned e)

pub pushed_node : (old new : List Node) (depth : ℕ) (s t : Span) (statement : Statement)
    → new ≡ old ++ record { depth = depth; span = s; statement = statement } ∷ [] → s ≡ t
    → new ≡ old ++ record { depth = depth; span = t; statement = statement } ∷ []
pushed_node old new depth s t statement e f = e ∙ ap (λ (x : Span). old ++ record { depth = depth; span = x; statement = statement } ∷ []) f
