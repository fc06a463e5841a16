use Rattle.std.proofs.Common.{ℕ, List, [], ◌∷◌, ◌++◌, sym, ap, subst, ◌∙◌}
use Rattle.pq_schema.specs.declared.scope.scope.FileDefs.{FileDefs}
use Rattle.pq_schema.specs.aux.FirstOf.{definition_in, first_near, first_of, other_with}
use Rattle.pq_schema.specs.aux.Grouping.{around}
use Rattle.pq_schema.specs.aux.NearFiles.{AreOthers}
use Rattle.pq_schema.proofs.FirstNear.{of_file, first_of_others}
use Rattle.pq_schema.proofs.scope.files.Files.first_other.Goals as goal

pub returns : goal.returns
returns c =
    let files = c.self.inside.files.items in
    let file = c.args.file.now in
    let name = c.args.name.now in
    let others = c.in_ok-others.others.items in
    let are : AreOthers others file files (around name) =
    subst (λ (fs : List FileDefs). AreOthers others file fs (around name)) (sym c.self.view_is)
    (subst (λ (ps : List (List ℕ)). AreOthers others file c.args.self.now (ps ++ [] ∷ [])) (sym c.outer.ensures.prefixes) c.in_ok-others.ensures.others) in
    record {
      first = c.file_of.ensures.file
          ∙ ap of_file (c.first_definition-found.ensures.first
          ∙ ap (λ (n : List ℕ). first_near (definition_in n) c.deref.result.now c.deref-2.result.now) c.new.ensures.pieces
          ∙ ap (λ (fs : List FileDefs). first_near (definition_in name) fs c.deref-2.result.now) c.deref.ensures.value
          ∙ ap (first_near (definition_in name) files) c.deref-2.ensures.value)
          ∙ first_of_others others file name files are c.self.invariant.0.below
          ∙ ap (first_of (other_with file name)) c.self.view_is;
    }
