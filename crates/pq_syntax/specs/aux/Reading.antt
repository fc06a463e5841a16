-- Auxiliary: the outcome of parsing tokens, as a function. The law `each_parse` ties it to the
-- sentences of the grammar.
use Rattle.std.specs.Prelude.{ℕ, Bool, true, nat_lt, List, [], ◌∷◌, Result, Ok, Err}
use Rattle.pq_lex.specs.declared.token.Token.{Token}
use Rattle.pq_syntax.specs.Rule.{Parse}
use Rattle.pq_syntax.specs.aux.Machine.{on_ok, run}
use Rattle.pq_syntax.specs.Words.{Word, words, accepts}
use Rattle.pq_syntax.specs.Grammar.{file}
use Rattle.pq_syntax.specs.Tree.{file_nodes}
use Rattle.pq_syntax.specs.declared.tree.Node.{Node}

-- `nodes_of levels ps` is the nodes of a file's only parse.
abbrev pub nodes_of : ℕ → List (Parse Word) → List Node
nodes_of levels [] = []
nodes_of levels (p ∷ ps) = file_nodes levels p

-- `reading n levels text tokens` is the nodes of a sentence of the grammar with these limits, or
-- the number of tokens left at the error.
abbrev pub reading : ℕ → ℕ → List ℕ → List Token → Result (List Node) ℕ
reading n levels text tokens = on_ok (nodes_of levels) (run accepts (file n levels ∷ []) (words text tokens))

-- `passes left r` is whether the reading `r` gets past the token at which `left` tokens remain.
abbrev pub passes : ℕ → Result (List Node) ℕ → Bool
passes left (Ok nodes) = true
passes left (Err n) = nat_lt n left
