use Rattle.std.proofs.Common.{◌≡◌, drop}
use Rattle.std.specs.List.{find}
use Rattle.pq_editor.specs.Links.{holds}
use Rattle.pq_editor.proofs.links.import_at.Given as goal

-- none of the imports so far holds the position
abbrev pub invariant-imports : goal.invariant-imports
invariant-imports l =
    find (holds (record { line = l.fn.line; character = l.fn.character })) (drop l.import-index l.imports)
    ≡ find (holds (record { line = l.fn.line; character = l.fn.character })) l.imports
