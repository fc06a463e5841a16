-- Which definitions of a file have the full name of an earlier one.
use Rattle.std.specs.Prelude.{◌≡◌, ℕ, ◌<◌, Bool, false, bytes_eq, get_or, length, take, List}
use Rattle.std.specs.List.{list_any}
use Rattle.pq_schema.specs.declared.define.definitions.Definition.{Definition}

-- `is_repeated d earlier` is whether one of the definitions `earlier` has the full name of the
-- definition `d`
abbrev pub is_repeated : Definition → List Definition → Bool
is_repeated d earlier = list_any (λ (e : Definition). bytes_eq d.full_name e.full_name) earlier

-- `AreRepeated flags ds` says that `flags` tells of each of the definitions `ds` whether one before
-- it has its full name
pub record AreRepeated (flags : List Bool) (ds : List Definition) : Type 0 where
  pub count : length flags ≡ length ds
  pub each : (n : ℕ) (d : Definition) → n < length ds → get_or flags n false ≡ is_repeated (get_or ds n d) (take n ds)
