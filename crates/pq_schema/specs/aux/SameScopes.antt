-- Auxiliary: when two scopes are equal, as a test, and that it decides equality. The lemmas are
-- here, since the laws of `==` cite them.
use Rattle.std.proofs.Common.{◌≡◌, Bool, true, false, ◌&&◌, List, ap, ◌∙◌}
use Rattle.std.specs.Cmp.{IsPartialEquivalence, IsEquivalence, decided, partial_equiv_from_equiv, first_so, second_so}
use Rattle.std.specs.Cmp.Lexicographic.{pointwise, pointwise_decides, bytes_decides}
use Rattle.pq_syntax.proofs.Equality.{Told, fields, one_field, of_struct}
use Rattle.pq_schema.specs.ScopeContents.{Scope}
use Rattle.pq_schema.specs.declared.scope.scope.FileDefs.{FileDefs}
use Rattle.pq_schema.specs.contracts.scope.scope.FileDefs as file_type
use Rattle.pq_schema.specs.contracts.scope.scope.FileDefsPartialEq.TheImpl as of_file
use Rattle.pq_schema.specs.aux.SameContents.{contents}

-- `same_files a b` is whether the lists `a` and `b` have equal files
abbrev pub same_files : List FileDefs → List FileDefs → Bool
same_files = pointwise of_file.ghosts.eq

-- `same_lists a b` is whether the scopes `a` and `b` have equal files in both lists
abbrev pub same_lists : Scope → Scope → Bool
same_lists a b = same_files a.visible b.visible && same_files a.reach b.reach

file : Told of_file.ghosts.eq
file = of_struct file_type.struct file_type.the_propositions (fields bytes_decides (one_field contents))

and_is : (a b : Bool) → a ≡ true → b ≡ true → (a && b) ≡ true
and_is true b e f = f
and_is false b e f = e

abbrev scope_of_lists : List FileDefs → List FileDefs → Scope
scope_of_lists visible reach = record { visible = visible; reach = reach }

pub lists : Told same_lists
lists a b =
    let visible = pointwise_decides file a.visible b.visible in
    let reach = pointwise_decides file a.reach b.reach in
    let test = same_files a.visible b.visible in
    let tests = same_files a.reach b.reach in (
      (λ t. ap (λ (fs : List FileDefs). scope_of_lists fs a.reach) (visible.0 (first_so test tests t))
          ∙ ap (λ (fs : List FileDefs). scope_of_lists b.visible fs) (reach.0 (second_so test tests t))),
      (λ e. and_is test tests (visible.1 (ap (λ (s : Scope). s.visible) e)) (reach.1 (ap (λ (s : Scope). s.reach) e))),
    )

pub lists_equiv : IsEquivalence same_lists
lists_equiv = decided same_lists lists

pub lists_per : IsPartialEquivalence same_lists
lists_per = partial_equiv_from_equiv lists_equiv
