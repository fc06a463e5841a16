-- The package of a file, statement by statement.
use Rattle.std.proofs.Common.{◌≡◌, ℕ, ◌+◌, ◌<◌, ◌≤◌, length, get_or, drop, List, [], ◌∷◌, ◌++◌, refl, sym, ap, ◌∙◌}
use Rattle.std.proofs.lemmas.List.{at_drop_all, at_drop_more}
use Rattle.pq_syntax.specs.declared.tree.Node.{Node}
use Rattle.pq_syntax.specs.declared.tree.Statement.{Statement}
use Rattle.pq_syntax.specs.declared.tree.Statement.TheVariants.{Import, Package, Option as OptionStatement, Message, Field, MapField, Oneof, ReservedNumbers, ReservedNames, Enum, Value, Service, Method, Extend}
use Rattle.pq_syntax.specs.declared.parts.Name.{Name}
use Rattle.pq_schema.specs.Definitions.{first_package, package_of, qualified}

-- a statement that is not a package statement names no package
pub no_package : (s : Statement) (later : List ℕ) → ((name : Name) → s ≡ Package name → ⊥) → first_package s later ≡ later
no_package (Package name) later h = absurd (h name refl)
no_package (Import kind file) later h = refl
no_package (OptionStatement set) later h = refl
no_package (Message name) later h = refl
no_package (Field label kind name number options) later h = refl
no_package (MapField key value name number options) later h = refl
no_package (Oneof name) later h = refl
no_package (ReservedNumbers ranges) later h = refl
no_package (ReservedNames names) later h = refl
no_package (Enum name) later h = refl
no_package (Value name number options) later h = refl
no_package (Service name) later h = refl
no_package (Method name input output) later h = refl
no_package (Extend name) later h = refl

-- the package from a statement on
pub package_at : (nodes : List Node) (n : ℕ) (s : Node) → n < length nodes → s ≡ get_or nodes n s
    → package_of (drop n nodes) ≡ first_package s.statement (package_of (drop (n + 1) nodes))
unfolding package_of
package_at nodes n s within is =
    at_drop_more package_of nodes n s within ∙ ap (λ (x : Node). first_package x.statement (package_of (drop (n + 1) nodes))) (sym is)

pub package_end : (nodes : List Node) (n : ℕ) → length nodes ≤ n → package_of (drop n nodes) ≡ []
unfolding package_of
package_end nodes n past = at_drop_all package_of nodes n past

pub package_all : (nodes : List Node) → package_of (drop 0 nodes) ≡ package_of nodes
package_all nodes = refl

-- a full name in a scope that is not empty
pub qualified_within : (scope name : List ℕ) → (scope ≡ [] → ⊥) → qualified scope name ≡ scope ++ 46 ∷ [] ++ name
qualified_within [] name h = absurd (h refl)
qualified_within (c ∷ cs) name h = refl
