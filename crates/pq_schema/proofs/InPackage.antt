-- The full name of each definition begins with the package of its file.
use Rattle.std.proofs.Common.{◌≡◌, ℕ, ◌⊎◌, List, [], ◌∷◌, ◌++◌, refl, ap, ◌∙◌, inl, inr, append_assoc}
use Rattle.std.specs.Prelude.{codes, flat_map}
use Rattle.pq_rules.proofs.Characterisation.{each_append}
use Rattle.pq_syntax.specs.declared.tree.Statement.{Statement}
use Rattle.pq_syntax.specs.declared.tree.Statement.TheVariants.{Import, Package, Option as OptionStatement, Message, Field, MapField, Oneof, ReservedNumbers, ReservedNames, Enum, Value, Service, Method, Extend}
use Rattle.pq_syntax.specs.Places.{Item, Place, kept}
use Rattle.pq_schema.specs.Definitions.{qualified, scope_of, scope_in, entry_name, defined_by, defined_at}
use Rattle.pq_schema.specs.declared.define.definitions.Definition.{Definition}
use Rattle.pq_schema.specs.aux.InPackage.{Below, AllBelow}

-- a scope is the package itself, or below it
abbrev Under : List ℕ → List ℕ → Type 0
Under root scope = (scope ≡ root) ⊎ Below root scope

below : (root scope name : List ℕ) → Under root scope → Below root (qualified scope name)
below [] scope name u = inl refl
below (c ∷ cs) scope name (inl e) = inr (name, ap (λ (x : List ℕ). qualified x name) e)
below (c ∷ cs) scope name (inr (inl e)) = cc
below (c ∷ cs) [] name (inr (inr r)) = let none = r.1 in cc
below (c ∷ cs) (d ∷ ds) name (inr (inr r)) =
    let front = (c ∷ cs) ++ codes "." in
    inr (
      r.0 ++ codes "." ++ name,
      ap (λ (x : List ℕ). x ++ codes "." ++ name) r.1
          ∙ ap (λ (x : List ℕ). x ++ name) (append_assoc front r.0 (codes "."))
          ∙ append_assoc front (r.0 ++ codes ".") name,
    )

scope_at : (root outer : List ℕ) (s : Statement) → Under root outer → Under root (scope_of s outer)
scope_at root outer (Message name) u = inr (below root outer name.text u)
scope_at root outer (Service name) u = inr (below root outer name.text u)
scope_at root outer (Import kind file) u = u
scope_at root outer (Package name) u = u
scope_at root outer (OptionStatement set) u = u
scope_at root outer (Field label kind name number options) u = u
scope_at root outer (MapField key value name number options) u = u
scope_at root outer (Oneof name) u = u
scope_at root outer (ReservedNumbers ranges) u = u
scope_at root outer (ReservedNames names) u = u
scope_at root outer (Enum name) u = u
scope_at root outer (Value name number options) u = u
scope_at root outer (Method name input output) u = u
scope_at root outer (Extend name) u = u

scope_under : (root : List ℕ) (within : List Item) → Under root (scope_in root within)
unfolding kept
scope_under root [] = inl refl
scope_under root (i ∷ outer) = scope_at root (scope_in root outer) i.node.statement (scope_under root outer)

by_statement : (root scope : List ℕ) (n : ℕ) (s : Statement) → Under root scope → AllBelow root (defined_by scope n s)
by_statement root scope n (Message name) u = (below root scope name.text u, tt)
by_statement root scope n (Enum name) u = (below root scope name.text u, tt)
by_statement root scope n (Service name) u = (below root scope name.text u, tt)
by_statement root scope n (Field label kind name number options) u = (below root scope name.text u, tt)
by_statement root scope n (MapField key value name number options) u = (below root scope name.text u, (below root scope (entry_name name.text) u, tt))
by_statement root scope n (Oneof name) u = (below root scope name.text u, tt)
by_statement root scope n (Value name number options) u = (below root scope name.text u, tt)
by_statement root scope n (Method name input output) u = (below root scope name.text u, tt)
by_statement root scope n (Import kind file) u = tt
by_statement root scope n (Package name) u = tt
by_statement root scope n (OptionStatement set) u = tt
by_statement root scope n (ReservedNumbers ranges) u = tt
by_statement root scope n (ReservedNames names) u = tt
by_statement root scope n (Extend name) u = tt

pub all_below : (root : List ℕ) (ps : List Place) → AllBelow root (flat_map (defined_at root) ps)
all_below root [] = tt
all_below root (p ∷ ps) =
    each_append (λ (d : Definition). Below root d.full_name) (defined_at root p) (flat_map (defined_at root) ps)
    (by_statement root (scope_in root p.within) p.item.number p.item.node.statement (scope_under root p.within)) (all_below root ps)
