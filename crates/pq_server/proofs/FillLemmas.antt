-- Files of a library, set one after the other.
use Rattle.std.proofs.Common.{◌≡◌, ℕ, List, [], ◌∷◌, ◌++◌, length, Option, Some, None, refl, sym, ◌∙◌, ap, inl, inr}
use Rattle.std.specs.Prelude.{◌⊎◌, unwrap_or}
use Rattle.pq_inputs.specs.declared.fault.InputFault.{InputFault}
use Rattle.pq_inputs.specs.declared.fault.InputFault.TheVariants.{Memory}
use Rattle.pq_inputs.specs.Sources.{Sources, Table, with_file}
use Rattle.pq_inputs.specs.Refusal.{max_files, refusal}
use Rattle.pq_server.specs.Library.{Library, lasting, with_library, IsRefused}

pub with_none : (sources : Sources) → with_library sources [] ≡ sources
unfolding with_library
with_none sources = refl

-- one file more is set last
pub with_more : (sources : Sources) (files : Library) (file : List ℕ × List ℕ) → with_library sources (files ++ file ∷ []) ≡ with_file (with_library sources files) file.0 (lasting file.1)
unfolding with_library
with_more sources [] file = refl
with_more sources (first ∷ files) file = with_more (with_file sources first.0 (lasting first.1)) files file

-- the limits look at the files and at the revision alone
by_limits : (table : Table) (files : Sources) (revision : ℕ) (name : List ℕ) (text : Option (List ℕ)) → table.files ≡ files → table.revision ≡ revision → table.limit ≡ max_files → refusal table name text ≡ refusal (record { files = files; revision = revision; history = []; limit = max_files }) name text
by_limits table files revision name text f r n =
    ap (λ (now : Sources). refusal (record { files = now; revision = table.revision; history = []; limit = table.limit }) name text) f
    ∙ ap (λ (now : ℕ). refusal (record { files = files; revision = now; history = []; limit = table.limit }) name text) r
    ∙ ap (λ (now : ℕ). refusal (record { files = files; revision = revision; history = []; limit = now }) name text) n

memory_or : (refused : Option InputFault) (fault : InputFault) → fault ≡ unwrap_or refused Memory → (fault ≡ Memory) ⊎ (refused ≡ Some fault)
memory_or None fault e = inl e
memory_or (Some reason) fault e = inr (ap Some (sym e))

-- a file that was not set, after those before it were
pub not_set : (files before : Library) (file : List ℕ × List ℕ) (after : Library) (table : Table) (fault : InputFault) → files ≡ before ++ file ∷ after → table.files ≡ with_library [] before → table.revision ≡ length before → table.limit ≡ max_files → fault ≡ unwrap_or (refusal table file.0 (Some file.1)) Memory → (fault ≡ Memory) ⊎ IsRefused files fault
not_set files before file after table fault e f r n is =
    elim (memory_or (refusal table file.0 (Some file.1)) fault is) [
      | inl memory ↦ inl memory
      | inr refused ↦ inr (before, file, after, e, sym (by_limits table (with_library [] before) (length before) file.0 (Some file.1) f r n) ∙ refused)
    ]
