use Rattle.std.proofs.Common.{◌≡◌, ℕ, List, ◌∷◌, ◌++◌, length, sym, ◌∙◌, get_or}
use Rattle.std.specs.Prelude.{slice_set}
use Rattle.std.proofs.Math.Seq.{get_or-append_seam, set-append_seam}
use Rattle.pq_lex.specs.declared.token.Span.{Span}
use Rattle.pq_syntax.specs.Tree.{spanning}
use Rattle.pq_syntax.specs.declared.tree.Node.{Node}
use Rattle.pq_syntax.proofs.parser.nodes.set_span.Goals as goal

set_there : (items before after : List Node) (n m : Node) (index : ℕ) (span : Span)
    → items ≡ before ++ n ∷ after
    → length before ≡ index
    → m ≡ get_or items index m
    → slice_set items index (spanning m span) ≡ before ++ spanning n span ∷ after
set_there items before after n m index span e h v =
    let there : get_or items index m ≡ n = rw (e, sym h) (get_or-append_seam before n after m) in
    rw (v ∙ there, e, sym h) (set-append_seam before n after (spanning n span))

pub returns : goal.returns
returns c = λ before after n e h. set_there _ before after n _ _ _ e h c.index_mut.ensures.value
