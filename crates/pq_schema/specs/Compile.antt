-- What the files of the sources compile to, up to the resolution of their references. The
-- definitions speak of sources, trees and the import graph; no query is named here.
--
-- `loose` is whether braces are read. Then a text with an error has the statements that they show,
-- and else none.
use Rattle.std.specs.Prelude.{ℕ, Bool, ◌≡◌, ◌⊎◌, List, map}
use Rattle.pq_inputs.specs.Sources.{Sources, file_in}
use Rattle.pq_rules.specs.declared.turn.Answer.{Answer}
use Rattle.pq_rules.specs.declared.turn.Answer.TheVariants.{Value}
use Rattle.pq_syntax.specs.declared.tree.Node.{Node}
use Rattle.pq_links.specs.Files.{graph_of, items_in, nodes_in, read_in}
use Rattle.pq_links.specs.ImportGraph.{IsRingOf}
use Rattle.pq_links.specs.LinkedKeys.{LinkedIs}
use Rattle.pq_links.specs.Visibility.{AreLinks}
use Rattle.pq_links.specs.declared.links.Links.{Links}
use Rattle.pq_schema.specs.Contents.{Defs}
use Rattle.pq_schema.specs.ScopeContents.{Scope}
use Rattle.pq_schema.specs.Missing.{no_scope}
use Rattle.pq_schema.specs.Definitions.{defs_of}
use Rattle.pq_schema.specs.References.{references_of}
use Rattle.pq_schema.specs.declared.search.references.Reference.{Reference}
use Rattle.pq_schema.specs.Resolution.{lookup, resolution_of}
use Rattle.pq_schema.specs.declared.queries.resolved.ResolvedReference.{ResolvedReference}
use Rattle.pq_schema.specs.declared.queries.rules.SchemaKey.{SchemaKey}
use Rattle.pq_schema.specs.declared.queries.rules.SchemaKey.TheVariants as keys
use Rattle.pq_schema.specs.declared.queries.rules.SchemaValue.{SchemaValue}
use Rattle.pq_schema.specs.declared.queries.rules.SchemaValue.TheVariants as values
use Rattle.pq_schema.specs.declared.scope.scope.FileDefs.{FileDefs}

-- `nodes_at loose files f` is the statements of the file `f`, without spans
abbrev pub nodes_at : Bool → Sources → List ℕ → List Node
nodes_at loose files f = nodes_in (items_in loose files f)

-- `defs_at loose files f` is the package and the definitions of the file `f`; an absent file has
-- neither
abbrev pub defs_at : Bool → Sources → List ℕ → Defs
defs_at loose files f = defs_of (nodes_at loose files f)

-- `with_defs defined f` is the file `f` with its definitions, where `defined` gives those of a file
abbrev pub with_defs : (List ℕ → Defs) → List ℕ → FileDefs
with_defs defined f = record { file = f; defs = defined f }

-- `scope_of_links defined l` is the scope of a file with the links `l`, where `defined` gives the
-- definitions of a file
abbrev pub scope_of_links : (List ℕ → Defs) → Links → Scope
scope_of_links defined l = record {
  visible = map (with_defs defined) l.visible;
  reach = map (with_defs defined) l.reach;
}

-- `IsScope loose files f s` is that `s` is the scope of the file `f`. A bad file, whose imports lead into
-- a ring, sees and reaches no file.
abbrev pub IsScope : Bool → Sources → List ℕ → Scope → Type 0
IsScope loose files f s =
    ((l : Links) × AreLinks (graph_of loose files) f l × (s ≡ scope_of_links (defs_at loose files) l))
    ⊎ ((ring : List (List ℕ)) × IsRingOf (graph_of loose files) f ring × (s ≡ no_scope))

-- `resolved_in s r` is the reference `r` with what it resolves to in the scope `s`
abbrev pub resolved_in : Scope → Reference → ResolvedReference
resolved_in s r = record {
  item = r.item;
  part = r.part;
  resolution = resolution_of (lookup s r.within r.name);
}

-- `AreResolved loose files f rs` is that `rs` lists the type references of the file `f`, each with what
-- it resolves to in the scope of the file, in text order
abbrev pub AreResolved : Bool → Sources → List ℕ → List ResolvedReference → Type 0
AreResolved loose files f rs =
    (s : Scope) × IsScope loose files f s × (rs ≡ map (resolved_in s) (references_of (nodes_at loose files f)))

-- `Compiles loose files key a` is that the key `key` compiles to the answer `a`. The links of a bad file
-- are the cycle of the ring of imports into which it leads.
abbrev pub Compiles : Bool → Sources → SchemaKey → Answer SchemaKey SchemaValue → Type 0
Compiles loose files (keys.Input f) a = a ≡ Value (values.Source (file_in files f).text)
Compiles loose files (keys.Parse f) a = a ≡ Value (values.Parse (read_in loose files f))
Compiles loose files (keys.Items f) a = a ≡ Value (values.Items (items_in loose files f))
Compiles loose files (keys.Imports f) a = a ≡ Value (values.Imports (graph_of loose files f))
Compiles loose files (keys.Linked f) a = LinkedIs (graph_of loose files) (λ n. keys.Linked n) (λ l. values.Linked l) f a
Compiles loose files (keys.Defs f) a = a ≡ Value (values.Defs (defs_at loose files f))
Compiles loose files (keys.Scope f) a = (s : Scope) × (a ≡ Value (values.Scope s)) × IsScope loose files f s
Compiles loose files (keys.Resolved f) a = (rs : List ResolvedReference) × (a ≡ Value (values.Resolved rs)) × AreResolved loose files f rs
