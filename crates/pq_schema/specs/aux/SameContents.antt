-- Auxiliary: when the contents of two files are equal, as a test, and that it decides equality. The
-- lemmas are here, since the laws of `==` cite them.
use Rattle.std.proofs.Common.{◌≡◌, ℕ, Bool, true, false, ◌&&◌, List, ap, ◌∙◌}
use Rattle.std.specs.Cmp.{IsPartialEquivalence, IsEquivalence, decided, partial_equiv_from_equiv, unsigned_Decides, first_so, second_so}
use Rattle.std.specs.Str.{bytes_eq}
use Rattle.std.specs.Cmp.Lexicographic.{pointwise, pointwise_decides, bytes_decides}
use Rattle.pq_syntax.proofs.Equality.{Told, fields, one_field, of_struct, of_bare}
use Rattle.pq_schema.specs.Contents.{Defs}
use Rattle.pq_schema.specs.contracts.define.definitions.DefinitionKind as kind_type
use Rattle.pq_schema.specs.contracts.define.definitions.DefinitionKindPartialEq.TheImpl as of_kind
use Rattle.pq_schema.specs.contracts.define.definitions.Definition as definition_type
use Rattle.pq_schema.specs.contracts.define.definitions.DefinitionPartialEq.TheImpl as of_definition
use Rattle.pq_schema.specs.declared.define.definitions.Definition.{Definition}

-- `same_contents a b` is whether `a` and `b` have the same package and equal definitions
abbrev pub same_contents : Defs → Defs → Bool
same_contents a b =
    bytes_eq a.package_name b.package_name && pointwise of_definition.ghosts.eq a.definitions b.definitions

kind : Told of_kind.ghosts.eq
kind = of_bare kind_type.the_type tt

definition : Told of_definition.ghosts.eq
definition =
    of_struct definition_type.struct definition_type.the_propositions
    (fields bytes_decides (fields kind (one_field unsigned_Decides)))

and_is : (a b : Bool) → a ≡ true → b ≡ true → (a && b) ≡ true
and_is true b e f = f
and_is false b e f = e

abbrev contents_of : List ℕ → List Definition → Defs
contents_of name ds = record { package_name = name; definitions = ds }

pub contents : Told same_contents
contents a b =
    let names = bytes_decides a.package_name b.package_name in
    let lists = pointwise_decides definition a.definitions b.definitions in
    let test = bytes_eq a.package_name b.package_name in
    let tests = pointwise of_definition.ghosts.eq a.definitions b.definitions in (
      (λ t. ap (λ (n : List ℕ). contents_of n a.definitions) (names.0 (first_so test tests t))
          ∙ ap (λ (ds : List Definition). contents_of b.package_name ds) (lists.0 (second_so test tests t))),
      (λ e. and_is test tests (names.1 (ap (λ (d : Defs). d.package_name) e)) (lists.1 (ap (λ (d : Defs). d.definitions) e))),
    )

pub contents_equiv : IsEquivalence same_contents
contents_equiv = decided same_contents contents

pub contents_per : IsPartialEquivalence same_contents
contents_per = partial_equiv_from_equiv contents_equiv
