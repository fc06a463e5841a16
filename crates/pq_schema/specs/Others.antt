-- Which files of a scope define a full name.
use Rattle.std.specs.Prelude.{ℕ, Bool, bytes_eq, not, find, filter, List, Option, option_map}
use Rattle.std.specs.List.{list_any}
use Rattle.pq_schema.specs.ScopeContents.{Scope}
use Rattle.pq_schema.specs.declared.define.definitions.Definition.{Definition}
use Rattle.pq_schema.specs.declared.scope.scope.FileDefs.{FileDefs}

-- `defines full_name file` is whether `file` has a definition with the full name `full_name`
abbrev pub defines : List ℕ → FileDefs → Bool
defines full_name file = list_any (λ (d : Definition). bytes_eq d.full_name full_name) file.defs.definitions

-- `first_with full_name files` is the name of the first of `files` that defines `full_name`
abbrev pub first_with : List ℕ → List FileDefs → Option (List ℕ)
first_with full_name files = option_map (λ (f : FileDefs). f.file) (find (defines full_name) files)

-- `other_files f s` lists the files of the scope `s` that the file `f` sees, but `f` itself
abbrev pub other_files : List ℕ → Scope → List FileDefs
other_files f s = filter (λ (v : FileDefs). not (bytes_eq v.file f)) s.visible

-- `first_other f full_name s` is the name of the first file that defines `full_name`, of the files
-- that the file `f` of the scope `s` sees, but `f` itself
abbrev pub first_other : List ℕ → List ℕ → Scope → Option (List ℕ)
first_other f full_name s = first_with full_name (other_files f s)
