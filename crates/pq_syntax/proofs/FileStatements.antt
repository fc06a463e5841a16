-- The statements that only a file has, and the file.
use Rattle.std.proofs.Common.{◌≡◌, ℕ, suc, ◌<◌, List, [], ◌∷◌, ◌++◌, length, Ok, Err, refl, sym, ap, ◌∙◌, arith}
use Rattle.std.proofs.lemmas.List.{length-map}
use Rattle.pq_lex.specs.declared.token.Token.{Token}
use Rattle.pq_syntax.specs.Rule.{Parse}
use Rattle.pq_syntax.specs.Rule.Rule.{Single, Star}
use Rattle.pq_syntax.specs.Rule.Parse.{Leaf, Pair}
use Rattle.pq_syntax.specs.Grammar.{file, file_item, full, import', opt, package', strs, syntax'}
use Rattle.pq_syntax.specs.Yield.{yield_of}
use Rattle.pq_syntax.specs.Parts.{list_of}
use Rattle.pq_syntax.specs.aux.Machine.{on_ok, run}
use Rattle.pq_syntax.specs.Parts.{name_of, strings_of}
use Rattle.pq_syntax.specs.aux.Reading.{nodes_of, reading}
use Rattle.pq_syntax.specs.aux.Steps.{TakesToken, Passes, Reads, Adds, Fails, IfFault}
use Rattle.pq_syntax.specs.aux.Takes.{Takes}
use Rattle.pq_syntax.specs.Tree.{file_item_nodes, import_kind_of, import_nodes, package_nodes}
use Rattle.pq_syntax.specs.Words.{Word, word, words, accepts}
use Rattle.pq_syntax.specs.declared.failure.Failure.{Failure}
use Rattle.pq_syntax.specs.declared.failure.Failure.TheVariants.{Memory, Fault}
use Rattle.pq_syntax.specs.declared.parts.Name.{Name}
use Rattle.pq_syntax.specs.declared.parts.Strings.{Strings}
use Rattle.pq_syntax.specs.declared.terminal.Terminal.TheVariants.{ImportKindWord, ImportWord, PackageWord, Semicolon}
use Rattle.pq_syntax.specs.declared.tree.ImportKind.{ImportKind}
use Rattle.pq_syntax.specs.declared.tree.Node.{Node}
use Rattle.pq_syntax.specs.declared.tree.Statement.TheVariants.{Import, Package}
use Rattle.pq_syntax.proofs.Bodies.{Pushed}
use Rattle.pq_syntax.proofs.Rules.{takes_then}

pub package_adds : {text : List ℕ} {tokens rest closing left : List Token} {t u : Token} {name : Name} {old new : List Node}
    → TakesToken text PackageWord tokens rest t
    → Reads text full name_of rest closing name
    → TakesToken text Semicolon closing left u
    → Pushed text 0 tokens left (Package name) old new
    → Adds text package' package_nodes tokens left old new
package_adds {text} {t = t} {u = u} w s c push =
    let all = takes_then w.takes (takes_then s.takes c.takes) in
    let whole : Parse Word = Pair (Leaf (word text t)) (Pair s.parse (Leaf (word text u))) in
    let n = push text (yield_of whole) all.read in
    record { parse = whole; takes = all; is = rw (n, s.is) refl }

pub import_adds :
    {text : List ℕ} {tokens rest named closing left : List Token} {t u : Token} {kind : ImportKind} {strings : Strings} {old new : List Node}
    → TakesToken text ImportWord tokens rest t
    → Reads text (opt (Single ImportKindWord)) import_kind_of rest named kind
    → Reads text strs strings_of named closing strings
    → TakesToken text Semicolon closing left u
    → Pushed text 0 tokens left (Import kind strings) old new
    → Adds text import' import_nodes tokens left old new
import_adds {text} {t = t} {u = u} w k s c push =
    let all = takes_then w.takes (takes_then k.takes (takes_then s.takes c.takes)) in
    let whole : Parse Word = Pair (Leaf (word text t)) (Pair k.parse (Pair s.parse (Leaf (word text u)))) in
    let n = push text (yield_of whole) all.read in
    record { parse = whole; takes = all; is = rw (n, k.is, s.is) refl }

run_nothing : run accepts [] [] ≡ Ok []
unfolding run
run_nothing = refl

run_more : (w : Word) (ws : List Word) → run accepts [] (w ∷ ws) ≡ Err (length (w ∷ ws))
unfolding run
run_more w ws = refl

-- From the rules of a file to how its tokens are read.
module _ (n levels : ℕ) {text : List ℕ} {tokens rest : List Token} {old new : List Node} where
  whole_takes :
      (s : Passes text syntax' tokens rest) (left : List Token) (m : Adds text (Star (file_item n levels)) (list_of (file_item_nodes levels)) rest left old new)
      → Takes accepts (file n levels) (words text tokens) (words text left) (Pair s.parse m.parse)
  whole_takes s left m = takes_then s.takes m.takes

  pub file_tree : (left : List Token)
      → Passes text syntax' tokens rest
      → Adds text (Star (file_item n levels)) (list_of (file_item_nodes levels)) rest left old new
      → old ≡ []
      → length left ≡ 0
      → reading n levels text tokens ≡ Ok new
  file_tree [] s m e h =
      let t = whole_takes s [] m in
      ap (on_ok (nodes_of levels)) (t.goes [] ∙ ap (on_ok (λ ps. Pair s.parse m.parse ∷ ps)) run_nothing) ∙ ap (λ (ns : List Node). Ok ns) (sym (m.is ∙ ap (λ x. x ++ list_of (file_item_nodes levels) m.parse) e))
  file_tree (t ∷ ts) s m e h = absurd (omega (arith, h))

  pub file_long : (left : List Token)
      → Passes text syntax' tokens rest
      → Adds text (Star (file_item n levels)) (list_of (file_item_nodes levels)) rest left old new
      → 0 < length left
      → reading n levels text tokens ≡ Err (length left)
  file_long [] s m h = absurd (omega arith)
  file_long (x ∷ xs) s m h =
      let t = whole_takes s (x ∷ xs) m in
      ap (on_ok (nodes_of levels)) (t.goes [] ∙ ap (on_ok (λ ps. Pair s.parse m.parse ∷ ps)) (run_more (word text x) (words text xs)) ∙ ap
      (λ k. Err k) (ap suc (length-map xs (word text))))

pub file_fails : (n levels : ℕ) {text : List ℕ} {tokens : List Token} {e : Failure}
    → Fails text (file n levels) tokens e
    → IfFault e (λ k. reading n levels text tokens ≡ Err k)
file_fails n levels {e = Memory} f = tt
file_fails n levels {e = Fault k} f = ap (on_ok (nodes_of levels)) ((f.stops k refl).goes [])
