use Rattle.std.proofs.Common.{◌≡◌, Some, sym, ap, ◌∙◌, length, List, [], ◌∷◌, ◌++◌}
use Rattle.std.specs.Prelude.{slice_get}
use Rattle.pq_links.specs.aux.Joined.{join_read, joined_view}
use Rattle.pq_links.proofs.JoinSteps.{join_read_next, first_left}
use Rattle.pq_links.specs.declared.links.Import.{Import}
use Rattle.pq_links.specs.declared.links.Links.{Links}
use Rattle.pq_links.proofs.linked.joined.Joined.read.Goals as goal

pub returns-clause-read : goal.returns-clause-read
returns-clause-read c =
    let imports = c.self.inside.imports in
    let pairs = c.self.inside.pairs.items in
    let first : slice_get imports (length pairs) ≡ Some c.in-Some.import.now = first_left (length pairs) imports ∙ ap (λ (j : List Import × List (Import × Links)). slice_get j.0 0) c.self.view_is ∙ sym c.in-Some.ensures.next in
    let pushed : c.push.new.self.items ≡ pairs ++ (c.in-Some.import.now, c.args.links) ∷ [] = cc (c.in_ok-push.ensures.items, c.in_ok-import-in-Some.ensures.copy) in
    ap (λ ts. joined_view imports ts) pushed ∙ join_read_next imports pairs c.in-Some.import.now c.args.links first ∙ ap (λ j. join_read j c.args.links) c.self.view_is
