-- Auxiliary: those of the files near some names that are not one file (used by invariants and
-- contracts of private functions only).
use Rattle.std.specs.Prelude.{◌≡◌, ℕ, filter, List}
use Rattle.pq_schema.specs.declared.scope.scope.FileDefs.{FileDefs}
use Rattle.pq_schema.specs.aux.FirstOf.{is_other_at}
use Rattle.pq_schema.specs.aux.Grouping.{AreNear}

-- `AreOthers places file files roots` is that `places` has the places of those of `files` that are
-- not the file `file`, of a list that has each whose package is one of `roots`
pub record AreOthers (places : List ℕ) (file : List ℕ) (files : List FileDefs) (roots : List (List ℕ)) : Type 0 where
  pub near : List ℕ
  pub are : AreNear near files roots
  pub is : places ≡ filter (is_other_at file files) near
