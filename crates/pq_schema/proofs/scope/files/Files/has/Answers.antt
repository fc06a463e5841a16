use Rattle.std.proofs.Common.{◌≡◌, ◌==◌, ℕ, List, [], false, length, sym, ap, subst, ◌∙◌}
use Rattle.pq_schema.specs.declared.scope.scope.FileDefs.{FileDefs}
use Rattle.pq_schema.specs.Resolution.{is_package}
use Rattle.pq_schema.specs.aux.Grouping.{IsIndex}
use Rattle.pq_schema.proofs.Meanings.{package_empty}
use Rattle.pq_schema.proofs.OpenedPackages.{some_name}
use Rattle.pq_schema.proofs.scope.files.Files.has.Goals as goal

pub returns-then-is_empty : goal.returns-then-is_empty
returns-then-is_empty c = record { is = sym (package_empty c.args.self.now c.args.text.now cc) }

pub returns : goal.returns
returns c =
    let name = c.args.text.now in
    let files = c.self.inside.files.items in
    let some : (length name == 0) ≡ false = cc in
    let index = subst (λ (xs : List (List ℕ × ℕ)). IsIndex xs files) (sym c.deref.ensures.value) c.self.invariant.0 in
    record {
      is = c.has.ensures.is files [] (c.all.ensures.range files index) (some_name name some)
          ∙ ap (λ (fs : List FileDefs). is_package fs name) c.self.view_is;
    }
