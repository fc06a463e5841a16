-- When a change of a file is refused whatever memory there is, and the limits of the inputs.
use Rattle.std.specs.Prelude.{ℕ, Bool, false, ◌&&◌, ◌||◌, not, ◌==◌, nat_lt, if◌then◌else◌, List, [], ◌∷◌, length, Option, Some, None}
use Rattle.std.specs.Str.{bytes_eq}
use Rattle.pq_inputs.specs.declared.fault.InputFault.{InputFault}
use Rattle.pq_inputs.specs.declared.fault.InputFault.TheVariants.{TextTooLong, TooManyFiles, RevisionsUsedUp}
use Rattle.pq_inputs.specs.Sources.{Sources, Table}

-- `max_text` is the greatest length of the text of a file, in bytes
abbrev pub max_text : ℕ
max_text = 1048576

-- `max_files` is the number of files that can be set, each counted once, where no other limit was
-- given
abbrev pub max_files : ℕ
max_files = 4096

-- `most_files` is the greatest limit that can be given to the number of files
abbrev pub most_files : ℕ
most_files = 65536

-- `last_revision` is the revision at which no change is accepted
abbrev pub last_revision : ℕ
last_revision = 18446744073709551615

-- `was_set files name` is whether the file of this name was ever set
unfoldable pub was_set : Sources → List ℕ → Bool
was_set [] name = false
was_set (e ∷ es) name = bytes_eq e.0 name || was_set es name

-- `is_too_long text` is whether the text, where there is one, has more bytes than a file may have
abbrev pub is_too_long : Option (List ℕ) → Bool
is_too_long None = false
is_too_long (Some text) = nat_lt max_text (length text)

-- `is_full_for table name` is whether the file of this name is new and no new file can be set
abbrev pub is_full_for : Table → List ℕ → Bool
is_full_for table name = not (was_set table.files name) && (length table.files == table.limit)

-- `refusal table name text` is the first reason, in this order, to refuse `text` as the text of the
-- file `name`, or None
abbrev pub refusal : Table → List ℕ → Option (List ℕ) → Option InputFault
refusal table name text =
    if is_too_long text then Some TextTooLong
    else (if is_full_for table name then Some TooManyFiles
    else (if table.revision == last_revision then Some RevisionsUsedUp else None))
