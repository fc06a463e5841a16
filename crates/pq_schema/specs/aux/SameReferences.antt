-- Auxiliary: `==` of lists of resolved references decides their equality. The lemmas are here, since
-- the laws of `==` cite them.
use Rattle.std.specs.Prelude.{Bool, List}
use Rattle.std.specs.Cmp.{IsEquivalence, IsPartialEquivalence, decided, partial_equiv_from_equiv, unsigned_Decides, booleans_Decides}
use Rattle.std.specs.Cmp.Lexicographic.{pointwise, pointwise_decides, bytes_decides}
use Rattle.pq_syntax.proofs.Equality.{Told, no_field, one_field, fields, of_struct, no_variant, variants, of_enum}
use Rattle.pq_links.proofs.Equality.{type_part}
use Rattle.pq_schema.specs.contracts.search.resolution.Resolution as resolution_type
use Rattle.pq_schema.specs.contracts.search.resolution.ResolutionPartialEq.TheImpl as of_resolution
use Rattle.pq_schema.specs.contracts.search.resolution.Target as target_type
use Rattle.pq_schema.specs.contracts.search.resolution.TargetPartialEq.TheImpl as of_target
use Rattle.pq_schema.specs.contracts.queries.resolved.ResolvedReference as reference_type
use Rattle.pq_schema.specs.contracts.queries.resolved.ResolvedReferencePartialEq.TheImpl as of_reference
use Rattle.pq_schema.specs.declared.queries.resolved.ResolvedReference.{ResolvedReference}

one_target : Told of_target.ghosts.eq
one_target =
    of_struct target_type.struct target_type.the_propositions
    (fields bytes_decides (fields bytes_decides (fields booleans_Decides (one_field unsigned_Decides))))

one_resolution : Told of_resolution.ghosts.eq
one_resolution =
    of_enum resolution_type.enum
    (variants (one_field one_target)
    (variants no_field
    (variants (one_field bytes_decides)
    (variants no_field no_variant))))

resolved_reference : Told of_reference.ghosts.eq
resolved_reference =
    of_struct reference_type.struct reference_type.the_propositions
    (fields unsigned_Decides (fields type_part (one_field one_resolution)))

-- `same_references xs ys` is whether the references `xs` and `ys` are as many, and equal one by one
abbrev pub same_references : List ResolvedReference → List ResolvedReference → Bool
same_references = pointwise of_reference.ghosts.eq

pub references : Told same_references
references = pointwise_decides resolved_reference

pub references_equiv : IsEquivalence same_references
references_equiv = decided same_references references

pub references_per : IsPartialEquivalence same_references
references_per = partial_equiv_from_equiv references_equiv
