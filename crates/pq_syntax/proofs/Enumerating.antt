-- Values of enums, from the tokens taken.
use Rattle.std.proofs.Common.{ℕ, true, List, [], ◌∷◌, ◌++◌, ap, ◌∙◌}
use Rattle.pq_lex.specs.declared.token.Token.{Token}
use Rattle.pq_syntax.specs.Rule.{Parse}
use Rattle.pq_syntax.specs.Rule.Rule.{Single}
use Rattle.pq_syntax.specs.Rule.Parse.{Leaf, Pair}
use Rattle.pq_syntax.specs.Grammar.{bound, opt, opts, value}
use Rattle.pq_syntax.specs.Yield.{yield_of}
use Rattle.pq_syntax.specs.Parts.{name_of, bound_of, settings_of}
use Rattle.pq_syntax.specs.aux.Steps.{TakesToken, Reads, Adds}
use Rattle.pq_syntax.specs.Tree.{value_nodes, node_of}
use Rattle.pq_syntax.specs.Words.{Word, word}
use Rattle.pq_syntax.specs.declared.parts.Name.{Name}
use Rattle.pq_syntax.specs.declared.parts.Number.{Number}
use Rattle.pq_syntax.specs.declared.parts.Setting.{Setting}
use Rattle.pq_syntax.specs.declared.terminal.Terminal.TheVariants.{ValueName, Equals, Semicolon}
use Rattle.pq_syntax.specs.declared.tree.Node.{Node}
use Rattle.pq_syntax.specs.declared.tree.Statement.TheVariants.{Value}
use Rattle.pq_syntax.proofs.Bodies.{Pushed}
use Rattle.pq_syntax.proofs.Rules.{takes_then}

pub value_adds :
    {text : List ℕ} {tokens named equalled numbered set left : List Token} {name : Name} {number : Number} {options : List Setting} {e t : Token}
    {old new : List Node} (brackets depth : ℕ)
    → Reads text (Single ValueName) name_of tokens named name
    → TakesToken text Equals named equalled e
    → Reads text (bound true) bound_of equalled numbered number
    → Reads text (opt (opts brackets)) settings_of numbered set options
    → TakesToken text Semicolon set left t
    → Pushed text depth tokens left (Value name number options) old new
    → Adds text (value brackets) (value_nodes depth) tokens left old new
value_adds {text} {name = name} {number} {options} {e} {t} {old} brackets depth n equals b o semicolon push =
    let all = takes_then n.takes (takes_then equals.takes (takes_then b.takes (takes_then o.takes semicolon.takes))) in
    let whole : Parse Word = Pair n.parse (Pair (Leaf (word text e)) (Pair b.parse (Pair o.parse (Leaf (word text t))))) in
    record {
      parse = whole;
      takes = all;
      is =
          push text (yield_of whole) all.read
          ∙ ap (λ (x : Name). old ++ node_of depth whole (Value x number options) ∷ []) n.is
          ∙ ap (λ (x : Number). old ++ node_of depth whole (Value (name_of n.parse) x options) ∷ []) b.is
          ∙ ap (λ (x : List Setting). old ++ node_of depth whole (Value (name_of n.parse) (bound_of b.parse) x) ∷ []) o.is;
    }
