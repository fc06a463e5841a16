-- The symbols of a file as data (LSP 3.17, "DocumentSymbol", "SymbolKind").
use Rattle.std.specs.Prelude.{ℕ, List, [], ◌∷◌, ◌++◌, codes}
use Rattle.serde_json.specs.Data.{Data, number, string, object, unsigned, member, no_members}
use Rattle.pq_lex.specs.declared.position.Position.{Position}
use Rattle.pq_lex.specs.declared.token.Span.{Span}
use Rattle.pq_syntax.specs.declared.parts.Name.{Name}
use Rattle.pq_syntax.specs.declared.tree.Node.{Node}
use Rattle.pq_syntax.specs.declared.tree.Statement.{Statement}
use Rattle.pq_syntax.specs.declared.tree.Statement.TheVariants.{Message, Field, MapField, Oneof, Enum, Value, Service, Method}
use Rattle.pq_proto.specs.Bodies.{Body, Empty, Holds, body_of}
use Rattle.pq_proto.specs.Lists.{list_data}
use Rattle.pq_proto.specs.Ranges.{range_data}

-- `span_data place s` is the span `s` as a range, where `place` gives the position of an offset
abbrev pub span_data : (ℕ → Position) → Span → Data
span_data place s = range_data (place s.start) (place s.end)

-- `symbol_data place kind name whole children` is the symbol of the kind `kind` and the name `name`
-- that the span `whole` declares, with the symbols `children` in it
abbrev pub symbol_data : (ℕ → Position) → ℕ → Name → Span → List Data → Data
symbol_data place kind name whole children =
    object (member (codes "children") (list_data children)
    (member (codes "kind") (number (unsigned kind))
    (member (codes "name") (string name.text)
    (member (codes "range") (span_data place whole)
    (member (codes "selectionRange") (span_data place name.span) no_members)))))

-- `symbols_by place whole children statement` lists the symbols that `statement` with the span
-- `whole` adds, where `children` lists those in its body. A oneof is no symbol: its members are
-- among the children of its message. Entries of map fields are none either.
abbrev pub symbols_by : (ℕ → Position) → Span → List Data → Statement → List Data
symbols_by place whole children (Message name) = symbol_data place 23 name whole children ∷ []
symbols_by place whole children (Field label kind name num options) = symbol_data place 8 name whole children ∷ []
symbols_by place whole children (MapField key value name num options) = symbol_data place 8 name whole children ∷ []
symbols_by place whole children (Enum name) = symbol_data place 10 name whole children ∷ []
symbols_by place whole children (Value name num options) = symbol_data place 22 name whole children ∷ []
symbols_by place whole children (Service name) = symbol_data place 11 name whole children ∷ []
symbols_by place whole children (Method name input output) = symbol_data place 6 name whole children ∷ []
symbols_by place whole children (Oneof name) = children
symbols_by place whole children _ = []

-- `symbols_in place body` lists the symbols in `body`
unfoldable pub symbols_in : (ℕ → Position) → Body → List Data
symbols_in place Empty = []
symbols_in place (Holds item inside later) =
    symbols_by place item.node.span (symbols_in place inside) item.node.statement ++ symbols_in place later

-- `symbols place nodes` is the list of the symbols of a file with the statements `nodes`, where
-- `place` gives the position of an offset
abbrev pub symbols : (ℕ → Position) → List Node → Data
symbols place nodes = list_data (symbols_in place (body_of nodes))
