-- Auxiliary: values of the rule set that compare as equal are equal, by the shape of their types
-- (used by proofs and invariants only).
use Rattle.std.proofs.Common.{◌≡◌, IsTrue}
use Rattle.std.specs.Cmp.{unsigned_Decides}
use Rattle.std.specs.Cmp.Lexicographic.{pointwise_decides, bytes_decides}
use Rattle.pq_syntax.proofs.Equality.{Told, one_field, fields, of_struct, no_variant, variants, of_enum, option}
use Rattle.pq_links.proofs.Equality.{parsed_file, file_items, file_imports, file_links}
use Rattle.pq_schema.specs.aux.SameContents.{contents}
use Rattle.pq_schema.specs.aux.SameReferences.{references}
use Rattle.pq_schema.specs.aux.SameScopes.{lists}
use Rattle.pq_checks.specs.aux.Exact.{one_fault, diagnosed}
use Rattle.pq_proto.specs.contracts.key.Place as place_type
use Rattle.pq_proto.specs.contracts.key.PlacePartialEq.TheImpl as place_eq
use Rattle.pq_proto.specs.contracts.value.Location as location_type
use Rattle.pq_proto.specs.contracts.value.LocationPartialEq.TheImpl as location_eq
use Rattle.pq_proto.specs.contracts.value.ProtoValue as value_type
use Rattle.pq_proto.specs.contracts.value.ProtoValuePartialEq.TheImpl as value_eq
use Rattle.pq_proto.specs.declared.value.ProtoValue.{ProtoValue}

place : Told place_eq.ghosts.eq
place = of_struct place_type.struct place_type.the_propositions (fields unsigned_Decides (one_field unsigned_Decides))

location : Told location_eq.ghosts.eq
location =
    of_struct location_type.struct location_type.the_propositions
    (fields bytes_decides (fields place (one_field place)))

values : Told value_eq.ghosts.eq
values =
    of_enum value_type.enum
    (variants (one_field (option bytes_decides))
    (variants (one_field parsed_file)
    (variants (one_field file_items)
    (variants (one_field file_imports)
    (variants (one_field file_links)
    (variants (one_field contents)
    (variants (one_field lists)
    (variants (one_field references)
    (variants (one_field (pointwise_decides one_fault))
    (variants (one_field diagnosed)
    (variants (one_field bytes_decides)
    (variants (one_field bytes_decides)
    (variants (one_field (option location)) no_variant)))))))))))))

pub value_exact : (a b : ProtoValue) → IsTrue (value_eq.ghosts.eq a b) → a ≡ b
value_exact a b e = (values a b).0 e
