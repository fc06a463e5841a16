-- What the errors of a type reference are where its statement or its name is missing.
use Rattle.std.proofs.Common.{◌≡◌, List, [], refl}
use Rattle.std.specs.Prelude.{None, Some, slice_get}
use Rattle.pq_syntax.specs.declared.parts.Name.{Name}
use Rattle.pq_syntax.specs.declared.tree.Node.{Node}
use Rattle.pq_schema.specs.declared.queries.resolved.ResolvedReference.{ResolvedReference}
use Rattle.pq_checks.specs.Faults.{reference_faults, resolution_faults, named_type}

pub no_statement : (nodes : List Node) (r : ResolvedReference) → slice_get nodes r.item ≡ None → reference_faults nodes r ≡ []
no_statement nodes r none = rw none refl

pub no_name : (nodes : List Node) (r : ResolvedReference) (n : Node) → slice_get nodes r.item ≡ Some n → named_type r.part n.statement ≡ None → reference_faults nodes r ≡ []
no_name nodes r n is none = rw is (rw none refl)

pub with_name : (nodes : List Node) (r : ResolvedReference) (n : Node) (name : Name) → slice_get nodes r.item ≡ Some n → named_type r.part n.statement ≡ Some name
    → reference_faults nodes r ≡ resolution_faults r.item r.part name.text r.resolution
with_name nodes r n name is found = rw is (rw found refl)
