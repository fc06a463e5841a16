-- A statement with a body: its node is added before those of its body, and gets its span at last.
use Rattle.std.proofs.Common.{◌≡◌, ℕ, suc, ◌+◌, ◌<◌, List, [], ◌∷◌, ◌++◌, length, sym, ap, ◌∙◌, subst, add-one, arith, length-append, append_assoc}
use Rattle.pq_lex.specs.declared.token.Span.{Span}
use Rattle.pq_lex.specs.declared.token.Token.{Token}
use Rattle.pq_syntax.specs.Rule.{Rule, Parse}
use Rattle.pq_syntax.specs.Rule.Rule.{Star}
use Rattle.pq_syntax.specs.Rule.Parse.{Leaf, Pair}
use Rattle.pq_syntax.specs.Grammar.{head, bodied}
use Rattle.pq_syntax.specs.Yield.{yield_of}
use Rattle.pq_syntax.specs.Parts.{list_of}
use Rattle.pq_syntax.specs.Parts.{head_name, span_across}
use Rattle.pq_syntax.specs.aux.Steps.{TakesToken, Reads, Adds}
use Rattle.pq_syntax.specs.aux.Takes.{Takes}
use Rattle.pq_syntax.specs.Tree.{body_nodes, spanning}
use Rattle.pq_syntax.specs.Words.{Word, word, words, accepts}
use Rattle.pq_syntax.specs.declared.parts.Name.{Name}
use Rattle.pq_syntax.specs.declared.terminal.Terminal.{Terminal}
use Rattle.pq_syntax.specs.declared.terminal.Terminal.TheVariants.{CloseBrace}
use Rattle.pq_syntax.specs.declared.tree.Node.{Node}
use Rattle.pq_syntax.specs.declared.tree.Statement.{Statement}
use Rattle.pq_syntax.proofs.Rules.{takes_then}

-- the node that is pushed, whose span is that of the words before what is left
abbrev pub Pushed : List ℕ → ℕ → List Token → List Token → Statement → List Node → List Node → Type 0
Pushed text depth tokens rest statement old new =
    (t : List ℕ) (ws : List Word) → words t tokens ≡ ws ++ words t rest → new ≡ old ++ record { depth = depth; span = span_across ws; statement = statement } ∷ []

-- the node at this index gets this span
abbrev pub Spanned : ℕ → Span → List Node → List Node → Type 0
Spanned index span old new = (before after : List Node) (n : Node) → old ≡ before ++ n ∷ after → length before ≡ index → new ≡ before ++ spanning n span ∷ after

-- the span is that of the words before what is left
abbrev pub Across : List Token → List Token → Span → Type 0
Across tokens rest span = (t : List ℕ) (ws : List Word) → words t tokens ≡ ws ++ words t rest → span ≡ span_across ws

-- a node before others, with its span at last
pub spanned :
    (text : List ℕ) (tokens opened left : List Token) (depth : ℕ) (old pushed mid new more : List Node) (span : Span) (p q : Parse Word) (index : ℕ)
    (s : Statement)
    → words text tokens ≡ yield_of p ++ words text opened
    → Pushed text depth tokens opened s old pushed
    → mid ≡ pushed ++ more
    → words text tokens ≡ yield_of q ++ words text left
    → Across tokens left span
    → index ≡ length old
    → Spanned index span mid new
    → new ≡ old ++ record { depth = depth; span = span_across (yield_of q); statement = s } ∷ more
spanned text tokens opened left depth old pushed mid new more span p q index s r push m e across i set =
    let first : Node = record { depth = depth; span = span_across (yield_of p); statement = s } in
    let there : mid ≡ old ++ first ∷ more = m ∙ ap (λ x. x ++ more) (push text (yield_of p) r) ∙ append_assoc old (first ∷ []) more in
    set old more first there (sym i) ∙ ap (λ (x : Span). old ++ record { depth = depth; span = x; statement = s } ∷ more) (across text (yield_of q) e)

-- a statement with a body: what is cited in this order is its head, the index of its node, the node
-- pushed, the body, the closing brace, the span and the node given it
pub body_adds :
    {text : List ℕ} {tokens opened rest left : List Token} {old pushed mid new : List Node} {keyword : Terminal} {item : Rule Terminal} {name : Name}
    {t : Token} (depth : ℕ) (view : Parse Word → List Node) (statement : Name → Statement) (index : ℕ) (span : Span)
    → Reads text (head keyword) head_name tokens opened name
    → index ≡ length old
    → Pushed text depth tokens opened (statement name) old pushed
    → Adds text (Star item) (list_of view) opened rest pushed mid
    → TakesToken text CloseBrace rest left t
    → Across tokens left span
    → Spanned index span mid new
    → Adds text (bodied keyword item) (body_nodes depth statement view) tokens left old new
body_adds {text} {tokens} {opened} {rest} {left} {old} {pushed} {mid} {new} {name = name} {t = t} depth view statement index span h i push body close across set =
    let all = takes_then h.takes (takes_then body.takes close.takes) in
    let whole : Parse Word = Pair h.parse (Pair body.parse (Leaf (word text t))) in
    record {
      parse = whole;
      takes = all;
      is =
          spanned text tokens opened left depth old pushed mid new (list_of view body.parse) span h.parse whole index
          (statement name) h.takes.read push body.is all.read across i set
          ∙ ap (λ n. old ++ record { depth = depth; span = span_across (yield_of whole); statement = statement n } ∷ list_of view body.parse) h.is;
    }

-- what is in a body is one deeper, counted as the code counts it
pub one_deeper : {text : List ℕ} {r : Rule Terminal} {tokens left : List Token} {old new : List Node} (view : ℕ → Parse Word → List Node) (depth : ℕ)
    → Adds text r (view (depth + 1)) tokens left old new
    → Adds text r (view (suc depth)) tokens left old new
one_deeper {text} {r} {tokens} {left} {old} {new} view depth a = subst (λ n. Adds text r (view n) tokens left old new) (add-one depth) a

-- the node that is pushed is among those that its body adds to
pub index_within :
    {text : List ℕ} {opened left : List Token} {front body : Rule Terminal} {view : Parse Word → List Node} {p : Parse Word} {pushed new : List Node}
    {index : ℕ} (tokens : List Token) (old : List Node) (depth : ℕ) (s : Statement)
    → Takes accepts front (words text tokens) (words text opened) p
    → index ≡ length old
    → Pushed text depth tokens opened s old pushed
    → Adds text body view opened left pushed new
    → index < length new
index_within {text} {view = view} {p = p} tokens old depth s front i push body =
    let first : Node = record { depth = depth; span = span_across (yield_of p); statement = s } in
    let outer = length-append (old ++ first ∷ []) (view body.parse) in
    let inner = length-append old (first ∷ []) in
    rw (i, body.is, push text (yield_of p) front.read) (omega (arith, outer, inner))
