-- Auxiliary: what was looked up in the open scopes (used by proofs and contracts of private functions
-- only).
use Rattle.std.specs.Prelude.{◌≡◌, ℕ, ◌+◌, get_or, length, List, [], ◌++◌}
use Rattle.pq_rules.specs.Relations.{Each}
use Rattle.pq_schema.specs.declared.search.asked.Answer.{Answer}
use Rattle.pq_schema.specs.declared.search.asked.Asked.{Asked}
use Rattle.pq_schema.specs.declared.scope.scope.FileDefs.{FileDefs}
use Rattle.pq_schema.specs.Resolution.{meaning}
use Rattle.pq_schema.specs.aux.Hits.{meaning_at}
use Rattle.pq_schema.specs.aux.PackageRange.{IsRangeOf}

-- `IsAsked files lead scope` is that the answers of `scope` are right in the files `files` for names
-- with `lead` before them, and that its packages, if it has them, are those of these files
abbrev pub IsAsked : List FileDefs → List ℕ → Asked → Type 0
IsAsked files lead scope =
    Each (λ (a : Answer). meaning_at a.place ≡ meaning files (lead ++ a.name)) scope.answers.items
    × IsRangeOf files scope.packages lead

-- `AreAsked files leads asked` is that `asked` has as many scopes as `leads`, the outermost first, and
-- that their answers are right. `leads` has what is before a name in each, the innermost first.
pub record AreAsked (files : List FileDefs) (leads : List (List ℕ)) (asked : List Asked) : Type 0 where
  pub count : length asked ≡ length leads
  pub right : (level at : ℕ) (d : Asked) → level + (at + 1) ≡ length leads
      → IsAsked files (get_or leads at []) (get_or asked level d)
