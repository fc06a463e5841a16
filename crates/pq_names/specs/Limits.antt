-- The limit of a table of names.
use Rattle.std.specs.Prelude.{ℕ}

-- `max_names` is the number of names that a table takes
abbrev pub max_names : ℕ
max_names = 1048576
