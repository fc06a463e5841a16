use Rattle.std.proofs.Common.{◌≡◌, Some, sym, ap, ◌∙◌, length, [], ◌∷◌, ◌++◌}
use Rattle.std.specs.Prelude.{slice_get}
use Rattle.pq_schema.specs.aux.Collecting.{Collecting, collect_read, collected_view, named}
use Rattle.pq_links.proofs.JoinSteps.{first_left}
use Rattle.pq_schema.proofs.Gathering.{read_next}
use Rattle.pq_schema.proofs.scope.collected.Collected.read.Goals as goal

pub returns-clause-read : goal.returns-clause-read
returns-clause-read c =
    let links = c.self.inside.links in
    let files = c.self.inside.files.items in
    let first : slice_get links.reach (length files) ≡ Some c.in-Some.name.now = first_left (length files) links.reach ∙ ap (λ (x : Collecting). slice_get x.1.0 0) c.self.view_is ∙ sym c.in-Some.ensures.next in
    let pushed : c.push.new.self.items ≡ files ++ named c.in-Some.name.now c.args.defs ∷ [] = cc (c.in_ok-push.ensures.items, c.in_ok-file-in-Some.ensures.copy) in
    ap (λ fs. collected_view links fs) pushed ∙ read_next links files c.in-Some.name.now c.args.defs first ∙ ap (λ x. collect_read x c.args.defs) c.self.view_is
