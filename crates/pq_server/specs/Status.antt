-- The exit status of `pq_server script`, and its line of standard error: the table of the program.
use Rattle.std.specs.Prelude.{ℕ, ◌==◌, List, [], ◌∷◌, ◌++◌, codes, if◌then◌else◌, Option, Some, None, Result, Ok, Err}
use Rattle.std.specs.declared.io.ErrorKind.{ErrorKind}
use Rattle.std.specs.declared.io.ErrorKind.TheVariants as io
use Rattle.clap.specs.declared.error.kind.ErrorKind.{ErrorKind as WordsKind}
use Rattle.clap.specs.declared.error.kind.ErrorKind.TheVariants as words
use Rattle.pq_frame.specs.declared.fault.FrameFault.{FrameFault}
use Rattle.pq_frame.specs.declared.fault.FrameFault.TheVariants as frame
use Rattle.pq_inputs.specs.declared.fault.InputFault.{InputFault}
use Rattle.pq_inputs.specs.declared.fault.InputFault.TheVariants as input
use Rattle.pq_server.specs.declared.library.fault.LibraryFault.{LibraryFault}
use Rattle.pq_server.specs.declared.library.fault.LibraryFault.TheVariants as library
use Rattle.pq_session.specs.declared.fault.ScriptFault.{ScriptFault}
use Rattle.pq_session.specs.declared.fault.ScriptFault.TheVariants.{Write, Memory, Frame, Cut, Edit, BadRange, Read, TooManyReads}

-- `frame_status fault` is the status for a frame error: 2, and 5 for an allocation failure.
abbrev pub frame_status : FrameFault → ℕ
frame_status frame.Memory = 5
frame_status _ = 2

-- `edit_status fault` is the status for a refused edit: 3, and 5 for an allocation failure.
abbrev pub edit_status : InputFault → ℕ
edit_status input.Memory = 5
edit_status _ = 3

-- `status_of outcome` is the exit status after a script with this outcome.
abbrev pub status_of : Result ℕ ScriptFault → ℕ
status_of (Ok status) = status
status_of (Err (Frame fault)) = frame_status fault
status_of (Err Cut) = 2
status_of (Err (Edit fault)) = edit_status fault
status_of (Err BadRange) = 3
status_of (Err Read) = 4
status_of (Err TooManyReads) = 4
status_of (Err Write) = 4
status_of (Err Memory) = 5

-- `line_feed` is the byte that ends a line.
abbrev pub line_feed : ℕ
line_feed = 0x0A

-- `line text` is `text` and a line feed.
abbrev pub line : List ℕ → List ℕ
line text = text ++ (line_feed ∷ [])

-- `frame_line fault` is the line for a frame error.
abbrev pub frame_line : FrameFault → List ℕ
frame_line frame.HeaderTooLong = line (codes "pq_server: frame fault 1")
frame_line frame.NoLength = line (codes "pq_server: frame fault 2")
frame_line frame.BadLength = line (codes "pq_server: frame fault 3")
frame_line frame.TooLong = line (codes "pq_server: frame fault 4")
frame_line frame.Memory = line (codes "pq_server: out of memory")

-- `edit_line fault` is the line for a refused edit.
abbrev pub edit_line : InputFault → List ℕ
edit_line input.TextTooLong = line (codes "pq_server: edit refused 1")
edit_line input.TooManyFiles = line (codes "pq_server: edit refused 2")
edit_line input.RevisionsUsedUp = line (codes "pq_server: edit refused 3")
edit_line input.Memory = line (codes "pq_server: out of memory")

-- `session_line status` is the line for a session that ended with `status`: 3 says that the
-- parameters of an edit were unreadable.
abbrev pub session_line : ℕ → List ℕ
session_line status = if status == 3 then line (codes "pq_server: edit refused 0") else []

-- `line_of outcome` is the line of standard error after a script with this outcome, or no bytes.
abbrev pub line_of : Result ℕ ScriptFault → List ℕ
line_of (Ok status) = session_line status
line_of (Err (Frame fault)) = frame_line fault
line_of (Err Cut) = line (codes "pq_server: input ends inside a frame")
line_of (Err (Edit fault)) = edit_line fault
line_of (Err BadRange) = line (codes "pq_server: bad range")
line_of (Err Read) = line (codes "pq_server: read failed")
line_of (Err TooManyReads) = line (codes "pq_server: read failed")
line_of (Err Write) = line (codes "pq_server: write failed")
line_of (Err Memory) = line (codes "pq_server: out of memory")

-- `unread_status kind` is the exit status if the words of the command line could not be read.
abbrev pub unread_status : ErrorKind → ℕ
unread_status io.OutOfMemory = 5
unread_status _ = 64

-- `unread_line kind` is the line of standard error if the words could not be read.
abbrev pub unread_line : ErrorKind → List ℕ
unread_line io.OutOfMemory = line (codes "pq_server: out of memory")
unread_line _ = line (codes "pq_server: the command line is not UTF-8")

-- `refused_status kind` is the exit status if the words are no command line, by an error of this kind.
abbrev pub refused_status : WordsKind → ℕ
refused_status words.OutOfMemory = 5
refused_status _ = 64

-- `refused_line kind` is the line of standard error if the words are no command line. It is None for
-- the text of the library that reads command lines.
abbrev pub refused_line : WordsKind → Option (List ℕ)
refused_line words.OutOfMemory = Some (line (codes "pq_server: out of memory"))
refused_line _ = None

-- `start_status fault` is the exit status if the library was not taken.
abbrev pub start_status : LibraryFault → ℕ
start_status library.Unreadable = 4
start_status library.Memory = 5

-- `start_line fault` is the line of standard error if the library was not taken.
abbrev pub start_line : LibraryFault → List ℕ
start_line library.Unreadable = line (codes "pq_server: start failed")
start_line library.Memory = line (codes "pq_server: out of memory")

-- `server_line status` is the line of standard error after a server of many clients with this status:
-- 4 says that the port or the library failed, 5 that an allocation failed.
abbrev pub server_line : ℕ → List ℕ
server_line status =
    if status == 4 then line (codes "pq_server: start failed")
    else (if status == 5 then line (codes "pq_server: out of memory") else [])
