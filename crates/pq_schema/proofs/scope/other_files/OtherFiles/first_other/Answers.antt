use Rattle.std.proofs.Common.{ℕ, List, sym, ap, subst, ◌∙◌}
use Rattle.std.proofs.lemmas.Result.{IfOk-weaker}
use Rattle.pq_schema.specs.Others.{first_with}
use Rattle.pq_schema.specs.Resolution.{scopes}
use Rattle.pq_schema.specs.declared.scope.scope.FileDefs.{FileDefs}
use Rattle.pq_schema.specs.aux.FirstOf.{definition_in, first_near, first_of, other_with}
use Rattle.pq_schema.specs.aux.Grouping.{around}
use Rattle.pq_schema.specs.aux.NearFiles.{AreOthers}
use Rattle.pq_schema.specs.aux.NearNames.{Rises}
use Rattle.pq_schema.proofs.FirstNear.{first_of_others, of_file, others_first, others_rise}
use Rattle.pq_schema.proofs.RightIn.{right_near}
use Rattle.pq_schema.proofs.scope.other_files.OtherFiles.first_other.Goals as goal

pub returns-then-not-is_in : goal.returns-then-not-is_in
returns-then-not-is_in c =
    let file = c.self.inside.file.now in
    let files = c.self.inside.files.now in
    let name = c.args.full_name.now in
    record {
      first = IfOk-weaker c.first_other.result _ _
          (λ o h. h
          ∙ ap (λ (n : List ℕ). first_of (other_with file n) files) (c.as_str.ensures.same ∙ c.in_ok-text.ensures.text)
          ∙ others_first file name files
          ∙ ap (first_with name) c.self.view_is)
          c.first_other.ensures.first;
    }

pub first_listed-found-requires-clause-rising : goal.first_listed-found-requires-clause-rising
first_listed-found-requires-clause-rising c =
    subst Rises (sym c.deref.ensures.value)
    (others_rise c.self.inside.near.items c.self.inside.file.now c.self.inside.files.now (scopes c.self.inside.defs.now.package_name) c.self.invariant.0)

pub returns : goal.returns
returns c =
    let file = c.self.inside.file.now in
    let files = c.self.inside.files.now in
    let places = c.self.inside.near.items in
    let name = c.args.full_name.now in
    let p = c.self.inside.defs.now.package_name in
    let o = c.self.invariant.0 in
    let r = c.is_in.ensures.inside c.if-not-is_in.false p c.root.ensures.name in
    let are : AreOthers places file files (around name) =
    record { near = o.near; are = right_near o.near files p name r.0 r.1 r.2 o.are; is = o.is } in
    record {
      first = c.file_of.ensures.file
          ∙ ap of_file (c.first_listed-found.ensures.first
          ∙ ap (λ (n : List ℕ). first_near (definition_in n) c.files.result.now c.deref.result.now) c.spelled-name.ensures.pieces
          ∙ ap (λ (fs : List FileDefs). first_near (definition_in name) fs c.deref.result.now) c.files.ensures.value
          ∙ ap (first_near (definition_in name) files) c.deref.ensures.value)
          ∙ first_of_others places file name files are c.files.ensures.below
          ∙ others_first file name files
          ∙ ap (first_with name) c.self.view_is;
    }
