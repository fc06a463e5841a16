-- Auxiliary: keys and values of the rule set that compare as equal are equal, by the shape of their
-- types (used by proofs and invariants only).
use Rattle.std.proofs.Common.{◌≡◌, ap, IsTrue}
use Rattle.std.specs.Cmp.Lexicographic.{bytes_decides}
use Rattle.std.specs.declared.cmp.Ordering.TheVariants.{Equal}
use Rattle.pq_rules.proofs.ExactOrders.{exact_bytes}
use Rattle.pq_syntax.proofs.Equality.{Told, one_field, no_variant, variants, of_enum, option}
use Rattle.pq_links.proofs.Equality.{parsed_file, file_items, file_imports, file_links}
use Rattle.pq_schema.specs.aux.SameContents.{contents}
use Rattle.pq_schema.specs.aux.SameReferences.{references}
use Rattle.pq_schema.specs.aux.SameScopes.{lists}
use Rattle.pq_schema.specs.contracts.queries.rules as rules
use Rattle.pq_schema.specs.declared.queries.rules.SchemaKey.{SchemaKey}
use Rattle.pq_schema.specs.declared.queries.rules.SchemaKey.TheVariants.{Input, Parse, Items, Imports, Linked, Defs, Scope, Resolved}
use Rattle.pq_schema.specs.declared.queries.rules.SchemaValue.{SchemaValue}

value : Told rules.SchemaValuePartialEq.TheImpl.ghosts.eq
value =
    of_enum rules.SchemaValue.enum
    (variants (one_field (option bytes_decides))
    (variants (one_field parsed_file)
    (variants (one_field file_items)
    (variants (one_field file_imports)
    (variants (one_field file_links)
    (variants (one_field contents)
    (variants (one_field lists)
    (variants (one_field references) no_variant))))))))

pub value_exact : (a b : SchemaValue) → IsTrue (rules.SchemaValuePartialEq.TheImpl.ghosts.eq a b) → a ≡ b
value_exact a b e = (value a b).0 e

pub key_exact : (a b : SchemaKey) → rules.SchemaKeyOrd.TheImpl.ghosts.cmp a b ≡ Equal → a ≡ b
key_exact (Input x) (Input y) e = ap (λ t. Input t) (exact_bytes x y e)
key_exact (Parse x) (Parse y) e = ap (λ t. Parse t) (exact_bytes x y e)
key_exact (Items x) (Items y) e = ap (λ t. Items t) (exact_bytes x y e)
key_exact (Imports x) (Imports y) e = ap (λ t. Imports t) (exact_bytes x y e)
key_exact (Linked x) (Linked y) e = ap (λ t. Linked t) (exact_bytes x y e)
key_exact (Defs x) (Defs y) e = ap (λ t. Defs t) (exact_bytes x y e)
key_exact (Scope x) (Scope y) e = ap (λ t. Scope t) (exact_bytes x y e)
key_exact (Resolved x) (Resolved y) e = ap (λ t. Resolved t) (exact_bytes x y e)
key_exact a b e = cc
