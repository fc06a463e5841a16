-- Auxiliary: the first answer that a file gives (used by proofs and contracts of private functions
-- only).
use Rattle.std.specs.Prelude.{option_map, ℕ, bytes_eq, Bool, false, cond, not, ◌&&◌, filter, slice_get, List, [], ◌∷◌, Option, Some, None}
use Rattle.pq_schema.specs.declared.scope.scope.FileDefs.{FileDefs}
use Rattle.pq_schema.specs.declared.define.definitions.Definition.{Definition}
use Rattle.pq_schema.specs.Others.{defines}
use Rattle.pq_schema.specs.aux.Grouping.{find_in}

-- `either a b` is `a`, or `b` if `a` is `None`
abbrev pub either : {X : Type 0} → Option X → Option X → Option X
either None b = b
either (Some x) b = Some x

-- `first_of answer files` is the first answer that one of `files` gives
abbrev pub first_of : {X : Type 0} → (FileDefs → Option X) → List FileDefs → Option X
first_of answer [] = None
first_of answer (f ∷ fs) = either (answer f) (first_of answer fs)

-- `answer_by answer file` is the answer that the file gives, if there is one
abbrev pub answer_by : {X : Type 0} → (FileDefs → Option X) → Option FileDefs → Option X
answer_by answer None = None
answer_by answer (Some f) = answer f

-- `answer_at answer files k` is the answer that the file at the place `k` gives
abbrev pub answer_at : {X : Type 0} → (FileDefs → Option X) → List FileDefs → ℕ → Option X
answer_at answer files k = answer_by answer (slice_get files k)

-- `other_with file name f` is the name of the file `f` if it is not `file` and defines `name`
abbrev pub other_with : List ℕ → List ℕ → FileDefs → Option (List ℕ)
other_with file name f = cond (not (bytes_eq f.file file) && defines name f) (Some f.file) None

-- `definition_in name f` is the first definition with the full name `name` in the file `f`, beside
-- the name of the file
abbrev pub definition_in : List ℕ → FileDefs → Option (List ℕ × Definition)
definition_in name f = option_map (λ (d : Definition). (f.file, d)) (find_in f name)

-- `first_near answer files places` is the first answer that one of the files at `places` gives
abbrev pub first_near : {X : Type 0} → (FileDefs → Option X) → List FileDefs → List ℕ → Option X
first_near answer files [] = None
first_near answer files (k ∷ ks) = either (answer_at answer files k) (first_near answer files ks)

-- `is_other file f` is that the file `f` is there and is not the file `file`
abbrev pub is_other : List ℕ → Option FileDefs → Bool
is_other file None = false
is_other file (Some f) = not (bytes_eq f.file file)

-- `is_other_at file files k` is that the file at the place `k` is there and is not the file `file`
abbrev pub is_other_at : List ℕ → List FileDefs → ℕ → Bool
is_other_at file files k = is_other file (slice_get files k)

-- `others file files` lists those of `files` that are not the file `file`
abbrev pub others : List ℕ → List FileDefs → List FileDefs
others file files = filter (λ (v : FileDefs). not (bytes_eq v.file file)) files
