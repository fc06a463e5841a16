-- What is owed to each document.
use Rattle.std.specs.Prelude.{ℕ, List}
use Rattle.pq_view.specs.Views.{View, name_of}
use Rattle.pq_view.specs.declared.owed.Owed.{Owed}

-- `owed_at v path` is what is owed to the document at `path`
abbrev pub owed_at : View → List ℕ → Owed
owed_at v path = record { path = path; name = name_of v path }
