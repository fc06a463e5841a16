-- A library: the files of a folder, which are set before the first message.
use Rattle.std.specs.Prelude.{◌≡◌, ℕ, List, [], ◌∷◌, ◌++◌, length, map, Some}
use Rattle.std.specs.List.Sorted.{IsPermutation, IsSorted}
use Rattle.std.specs.Ordering.{nat_cmp}
use Rattle.std.specs.Cmp.Lexicographic.{slice_cmp}
use Rattle.std.specs.declared.io.ErrorKind.{ErrorKind}
use Rattle.std.specs.declared.io.ErrorKind.TheVariants as io
use Rattle.pq_inputs.specs.declared.durability.Durability.TheVariants.{High}
use Rattle.pq_inputs.specs.declared.fault.InputFault.{InputFault}
use Rattle.pq_inputs.specs.declared.fault.InputFault.TheVariants as input
use Rattle.pq_inputs.specs.Sources.{File, Sources, Table, with_file}
use Rattle.pq_inputs.specs.Refusal.{max_files, refusal}
use Rattle.pq_server.specs.declared.library.fault.LibraryFault.{LibraryFault}
use Rattle.pq_server.specs.declared.library.fault.LibraryFault.TheVariants.{Unreadable, Memory}

-- `Library` is the files of a library, a name and a text each, in the order in which they are set.
abbrev pub Library : Type 0
Library = List (List ℕ × List ℕ)

-- `names_of files` is the names of `files`, in their order.
abbrev pub names_of : Library → List (List ℕ)
names_of files = map (λ file. file.0) files

-- `IsInOrder files` is that the names of `files` are in byte order: none is less than the one before
-- it.
abbrev pub IsInOrder : Library → Type 0
IsInOrder files = IsSorted (slice_cmp nat_cmp) (names_of files)

-- `lasting text` is a file of a library: it is there, with High durability.
abbrev pub lasting : List ℕ → File
lasting text = record { text = Some text; durability = High }

-- `with_library sources files` is `sources` with each of `files` set, one after the other.
unfoldable pub with_library : Sources → Library → Sources
with_library sources [] = sources
with_library sources (file ∷ files) = with_library (with_file sources file.0 (lasting file.1)) files

-- `IsFilled files table` is that `table` has `files` and no other file: they were set in this order,
-- each with High durability, no other change was made, and 4,096 files can be set.
abbrev pub IsFilled : Library → Table → Type 0
IsFilled files table = (table.files ≡ with_library [] files) × (table.revision ≡ length files) × (table.limit ≡ max_files)

-- `IsLibraryOf names table` is that `table` has the files of these names and no other file: each name
-- has a file of some text, and they were set in byte order of the names.
abbrev pub IsLibraryOf : List (List ℕ) → Table → Type 0
IsLibraryOf names table = (files : Library) × IsPermutation names (names_of files) × IsInOrder files × IsFilled files table

-- `IsLibrary table` is that `table` has the files of some names and no other file, as `IsLibraryOf`
-- says.
abbrev pub IsLibrary : Table → Type 0
IsLibrary table = (names : List (List ℕ)) × IsLibraryOf names table

-- `IsRefused files fault` is that one of `files` is refused by `fault`, if they are set one after the
-- other as the only files: the files `before` it were set, and the limits of the inputs refuse it.
abbrev pub IsRefused : Library → InputFault → Type 0
IsRefused files fault =
    (before : Library) × (file : List ℕ × List ℕ) × (after : Library)
    × (files ≡ before ++ file ∷ after)
    × (refusal (record { files = with_library [] before; revision = length before; history = []; limit = max_files }) file.0 (Some file.1) ≡ Some fault)

-- `fault_of fault` is the fault of a library of which a file was not set, by `fault`.
abbrev pub fault_of : InputFault → LibraryFault
fault_of input.Memory = Memory
fault_of _ = Unreadable

-- `fault_of_kind kind` is the fault of a library of which a folder or a file was not read, by an
-- error of this kind.
abbrev pub fault_of_kind : ErrorKind → LibraryFault
fault_of_kind io.OutOfMemory = Memory
fault_of_kind _ = Unreadable
