-- The types of a method, what ends it, and its node.
use Rattle.std.proofs.Common.{◌≡◌, ℕ, suc, List, ◌∷◌, ◌++◌, length, true, false, refl, sym, ap, ◌∙◌}
use Rattle.std.proofs.lemmas.List.{append-nil}
use Rattle.pq_lex.specs.declared.token.Span.{Span}
use Rattle.pq_lex.specs.declared.token.Token.{Token}
use Rattle.pq_syntax.specs.Rule.{Parse}
use Rattle.pq_syntax.specs.Rule.Rule.{Single, Seq, Star}
use Rattle.pq_syntax.specs.Rule.Parse.{Leaf, Pair, Left, Right}
use Rattle.pq_syntax.specs.Grammar.{type', type_from, streamed, in_parentheses, method, method_end, method_item}
use Rattle.pq_syntax.specs.Yield.{yield_of}
use Rattle.pq_syntax.specs.Parts.{list_of}
use Rattle.pq_syntax.specs.Parts.{name_of, method_type_of, enclosed_type_of, span_across}
use Rattle.pq_syntax.specs.aux.Steps.{TakesToken, Reads, Adds}
use Rattle.pq_syntax.specs.aux.Takes.{starts_at}
use Rattle.pq_syntax.specs.Tree.{method_nodes, method_end_nodes, method_item_nodes}
use Rattle.pq_syntax.specs.Words.{Word, word, words, accepts}
use Rattle.pq_syntax.specs.declared.parts.MethodType.{MethodType}
use Rattle.pq_syntax.specs.declared.parts.Name.{Name}
use Rattle.pq_syntax.specs.declared.terminal.Terminal.TheVariants.{StreamWord, MethodTypeName, MethodWord, AnyIdentifier, ReturnsWord, OpenBrace, CloseBrace, Semicolon}
use Rattle.pq_syntax.specs.declared.tree.Node.{Node}
use Rattle.pq_syntax.specs.declared.tree.Statement.TheVariants.{Method}
use Rattle.pq_syntax.proofs.Bodies.{Pushed, Spanned, Across, spanned}
use Rattle.pq_syntax.proofs.Choices.{starts_word}
use Rattle.pq_syntax.proofs.Rules.{takes_then, takes_left, takes_right}

-- a type after the keyword
pub reads_stream : {text : List ℕ} {tokens rest left : List Token} {t : Token} {name : Name}
    → starts_at accepts (Single StreamWord) (words text tokens) ≡ true
    → TakesToken text StreamWord tokens rest t
    → Reads text type' name_of rest left name
    → Reads text streamed method_type_of tokens left (record { is_stream = true; type_name = name })
reads_stream {text} {tokens} h s r = record {
  parse = Left (Pair (Leaf (word text _)) r.parse);
  takes = takes_left (starts_word text StreamWord type' tokens true h) (takes_then s.takes r.takes);
  is = ap (λ (n : Name). record { is_stream = true; type_name = n }) r.is;
}

-- and one without it
pub reads_plain : {text : List ℕ} {tokens left : List Token} {name : Name}
    → starts_at accepts (Single StreamWord) (words text tokens) ≡ false
    → Reads text (type_from MethodTypeName) name_of tokens left name
    → Reads text streamed method_type_of tokens left (record { is_stream = false; type_name = name })
reads_plain {text} {tokens} h r = record {
  parse = Right r.parse;
  takes = takes_right (starts_word text StreamWord type' tokens false h) refl r.takes;
  is = ap (λ (n : Name). record { is_stream = false; type_name = n }) r.is;
}

-- a method ends by its statements in braces
pub ends_braced : {text : List ℕ} {tokens opened rest left : List Token} {old new : List Node} {s t : Token} (brackets depth : ℕ)
    → starts_at accepts (Single OpenBrace) (words text tokens) ≡ true
    → TakesToken text OpenBrace tokens opened s
    → Adds text (Star (method_item brackets)) (list_of (method_item_nodes depth)) opened rest old new
    → TakesToken text CloseBrace rest left t
    → Adds text (method_end brackets) (method_end_nodes depth) tokens left old new
ends_braced {text} {tokens} brackets depth h open' body close' = record {
  parse = Left (Pair (Leaf (word text _)) (Pair body.parse (Leaf (word text _))));
  takes = takes_left (starts_word text OpenBrace (Seq (Star (method_item brackets)) (Single CloseBrace)) tokens true h) (takes_then open'.takes (takes_then body.takes close'.takes));
  is = body.is;
}

-- or by a semicolon
pub ends_plain : {text : List ℕ} {tokens left : List Token} {old : List Node} {t : Token} (brackets depth : ℕ)
    → starts_at accepts (Single OpenBrace) (words text tokens) ≡ false
    → TakesToken text Semicolon tokens left t
    → Adds text (method_end brackets) (method_end_nodes depth) tokens left old old
ends_plain {text} {tokens} {old = old} brackets depth h s = record {
  parse = Right (Leaf (word text _));
  takes = takes_right (starts_word text OpenBrace (Seq (Star (method_item brackets)) (Single CloseBrace)) tokens false h) refl s.takes;
  is = sym (append-nil old);
}

-- a method: what is cited in this order is its name and its two types with the words before
-- them, the index of its node, the node pushed, what ends it, the span and the node given it
pub method_adds :
    {text : List ℕ} {tokens named typed returned answered opened left : List Token} {old pushed mid new : List Node} {name : Name}
    {input output : MethodType} {s t : Token} (brackets depth index : ℕ) (span : Span)
    → TakesToken text MethodWord tokens named s
    → Reads text (Single AnyIdentifier) name_of named typed name
    → Reads text in_parentheses enclosed_type_of typed returned input
    → TakesToken text ReturnsWord returned answered t
    → Reads text in_parentheses enclosed_type_of answered opened output
    → index ≡ length old
    → Pushed text depth tokens opened (Method name input output) old pushed
    → Adds text (method_end brackets) (method_end_nodes (suc depth)) opened left pushed mid
    → Across tokens left span
    → Spanned index span mid new
    → Adds text (method brackets) (method_nodes depth) tokens left old new
method_adds {text} {tokens} {named} {typed} {returned} {answered} {opened} {left} {old} {pushed} {mid} {new} {name} {input} {output} {s} {t} brackets depth index span k n a r b i push end across set =
    let front = takes_then k.takes (takes_then n.takes (takes_then a.takes (takes_then r.takes b.takes))) in
    let all = takes_then k.takes (takes_then n.takes (takes_then a.takes (takes_then r.takes (takes_then b.takes end.takes)))) in
    let first : Parse Word = Pair (Leaf (word text s)) (Pair n.parse (Pair a.parse (Pair (Leaf (word text t)) b.parse))) in
    let whole : Parse Word = Pair (Leaf (word text s)) (Pair n.parse (Pair a.parse (Pair (Leaf (word text t)) (Pair b.parse end.parse)))) in
    let node : Name → MethodType → MethodType → List Node = λ x y z. old ++ record { depth = depth; span = span_across (yield_of whole); statement = Method x y z } ∷ method_end_nodes (suc depth) end.parse in
    record {
      parse = whole;
      takes = all;
      is =
          spanned text tokens opened left depth old pushed mid new (method_end_nodes (suc depth) end.parse) span first whole index
          (Method name input output) front.read push end.is all.read across i set
          ∙ ap (λ x. node x input output) n.is
          ∙ ap (λ y. node (name_of n.parse) y output) a.is
          ∙ ap (λ z. node (name_of n.parse) (enclosed_type_of a.parse) z) b.is;
    }
