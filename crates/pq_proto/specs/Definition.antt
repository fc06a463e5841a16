-- The definition of what stands at a place of a file (LSP 3.17, "Goto Definition Request").
use Rattle.std.specs.Prelude.{ℕ, Bool, false, cond, ◌&&◌, nat_le, List, [], ◌∷◌, Option, Some, None}
use Rattle.pq_lex.specs.declared.token.Span.{Span}
use Rattle.pq_syntax.specs.declared.tree.Node.{Node}
use Rattle.pq_links.specs.Place.{place}
use Rattle.pq_links.specs.declared.places.Part.TheVariants as part
use Rattle.pq_schema.specs.declared.search.resolution.Resolution.{Resolution}
use Rattle.pq_schema.specs.declared.search.resolution.Resolution.TheVariants as resolutions
use Rattle.pq_schema.specs.declared.queries.resolved.ResolvedReference.{ResolvedReference}
use Rattle.pq_proto.specs.declared.definition.TypeItem.{TypeItem}

-- `holds span offset` is whether `offset` lies in `span`, both ends included
abbrev pub holds : Option Span → ℕ → Bool
holds None offset = false
holds (Some s) offset = nat_le s.start offset && nat_le offset s.end

-- `type_item r` is the file and the item of the type that a reference resolves to with `r`
abbrev pub type_item : Resolution → Option TypeItem
type_item (resolutions.«Type» target) = Some (record { file = target.file; item = target.item })
type_item _ = None

-- `definition_at nodes offset references` is the type that the first of the resolved references
-- `references` that holds `offset` resolves to, in a file with the statements `nodes`
unfoldable pub definition_at : List Node → ℕ → List ResolvedReference → Option TypeItem
definition_at nodes offset [] = None
definition_at nodes offset (r ∷ rs) =
    cond (holds (place nodes r.item (part.«Type» r.part)) offset) (type_item r.resolution) (definition_at nodes offset rs)
