-- Auxiliary: the sources that a stamp keeps for contracts alone.
use Rattle.std.specs.Prelude.{Option, Some, None}
use Rattle.pq_inputs.specs.Sources.{Sources, with_file}
use Rattle.pq_core.specs.Changes.{ChangeView}
use Rattle.pq_core.specs.Moves.{file_of}

-- `sources_after before change` is the sources `before` after `change`, if there is one
abbrev pub sources_after : Sources → Option ChangeView → Sources
sources_after before None = before
sources_after before (Some change) = with_file before change.file (file_of before change)
