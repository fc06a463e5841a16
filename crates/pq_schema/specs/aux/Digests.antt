-- Auxiliary: a number that is made of a list of definitions, by which lists are told apart.
use Rattle.std.specs.Prelude.{ℕ, List, [], ◌∷◌}
use Rattle.pq_schema.specs.aux.NameCodes.{coded, code_of}
use Rattle.pq_schema.specs.declared.define.definitions.Definition.{Definition}

-- `digested n definition` is the number `n` with the name and the item of `definition` after it
abbrev pub digested : ℕ → Definition → ℕ
digested n definition = coded (coded n (code_of definition.full_name)) definition.item

-- `digest_from n definitions` is the number `n` with `definitions` after it
unfoldable pub digest_from : ℕ → List Definition → ℕ
digest_from n [] = n
digest_from n (d ∷ ds) = digest_from (digested n d) ds
