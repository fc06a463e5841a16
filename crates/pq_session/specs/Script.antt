-- What a script does with its input: the relation between the bytes that were read, the bytes that
-- were written and the result.
use Rattle.std.specs.Prelude.{◌≡◌, ◌≢◌, ℕ, ◌≤◌, ◌+◌, ◌⊎◌, List, [], ◌++◌, length, Some, None, Result, Ok, Err}
use Rattle.std.specs.Io.{StartsWith}
use Rattle.pq_frame.specs.Frames.{Frames, State, Reading, Failed}
use Rattle.pq_frame.specs.declared.fault.FrameFault.TheVariants as frame
use Rattle.pq_inputs.specs.declared.fault.InputFault.TheVariants as input
use Rattle.pq_session.specs.declared.fault.ScriptFault.{ScriptFault}
use Rattle.pq_session.specs.declared.fault.ScriptFault.TheVariants.{Write, Memory, Frame, Cut, Edit, BadRange, Read, TooManyReads}
use Rattle.pq_session.specs.Responses.{ScriptState}
use Rattle.pq_session.specs.Output.{Ending, exits, refused, at_bad_range, Outputs, Stopped}

-- `max_reads` is the largest number of reads of one script: 2^32.
abbrev pub max_reads : ℕ
max_reads = 4294967296

-- `max_piece` is the largest number of bytes of one read.
abbrev pub max_piece : ℕ
max_piece = 16384

-- `StopsWithin bytes start out` is that a script stopped while it answered the bodies of a prefix
-- of `bytes`, and that `out` is a prefix of an output for them and for any bodies after them.
abbrev pub StopsWithin : List ℕ → ScriptState → List ℕ → Type 0
StopsWithin bytes start out = (prefix : List ℕ) × (later : List ℕ) × (bodies : List (List ℕ)) × (state : State) × (bytes ≡ prefix ++ later) × Frames prefix bodies state × Stopped start bodies out

-- `AnsweredAll start bytes out state` is that a script which began in `start` answered all bodies of
-- `bytes` by `out`, and that none ended the session. The rest of `bytes` leaves a reader in `state`.
abbrev pub AnsweredAll : ScriptState → List ℕ → List ℕ → State → Type 0
AnsweredAll start bytes out state = (bodies : List (List ℕ)) × Frames bytes bodies state × Outputs start bodies (record { bytes = out; ending = None })

-- `ShowsInLastPiece start bytes` is that the input showed the reason to stop in its `last` bytes, at
-- most `max_piece` of them: all bodies of the bytes before were answered, none ended the session, and
-- the frames had no error.
abbrev pub ShowsInLastPiece : ScriptState → List ℕ → Type 0
ShowsInLastPiece start bytes = (before : List ℕ) × (last : List ℕ) × (out : List ℕ) × (rest : List ℕ) × (bytes ≡ before ++ last) × (length last ≤ max_piece) × AnsweredAll start before out (Reading rest)

-- `Ended start bytes out how` is that a body of `bytes` ended the session by `how`, after `out` was
-- written for those before it. The end of that body is among the last `max_piece` bytes of `bytes`.
abbrev pub Ended : ScriptState → List ℕ → List ℕ → Ending → Type 0
Ended start bytes out how = (bodies : List (List ℕ)) × (state : State) × Frames bytes bodies state × Outputs start bodies (record { bytes = out; ending = Some how }) × ShowsInLastPiece start bytes

-- `Scripts start AtEnd UsedUp bytes out result` is that a script that began in the state `start` and
-- read `bytes` may write `out` and return `result`. `AtEnd` is that the input ended after `bytes`,
-- and `UsedUp` that all reads were made.
abbrev pub Scripts : ScriptState → Type 0 → Type 0 → List ℕ → List ℕ → Result ℕ ScriptFault → Type 0
Scripts start AtEnd UsedUp bytes out (Ok status) = Ended start bytes out (exits status) ⊎ ((status ≡ 1) × AtEnd × AnsweredAll start bytes out (Reading []))
Scripts start AtEnd UsedUp bytes out (Err (Frame fault)) = AnsweredAll start bytes out (Failed fault) × ShowsInLastPiece start bytes
Scripts start AtEnd UsedUp bytes out (Err Cut) = (rest : List ℕ) × (rest ≢ []) × AtEnd × AnsweredAll start bytes out (Reading rest)
Scripts start AtEnd UsedUp bytes out (Err (Edit fault)) = Ended start bytes out (refused fault)
Scripts start AtEnd UsedUp bytes out (Err BadRange) = Ended start bytes out at_bad_range
Scripts start AtEnd UsedUp bytes out (Err Read) = (rest : List ℕ) × AnsweredAll start bytes out (Reading rest)
Scripts start AtEnd UsedUp bytes out (Err TooManyReads) = (rest : List ℕ) × UsedUp × AnsweredAll start bytes out (Reading rest)
Scripts start AtEnd UsedUp bytes out (Err Write) = StopsWithin bytes start out
Scripts start AtEnd UsedUp bytes out (Err Memory) = StopsWithin bytes start out

-- `IsMemoryAlone result` is that an allocation failure is `Memory` alone, never the error of a
-- frame or an edit.
abbrev pub IsMemoryAlone : {A : Type 0} → Result A ScriptFault → Type 0
IsMemoryAlone (Err (Frame fault)) = fault ≢ frame.Memory
IsMemoryAlone (Err (Edit fault)) = fault ≢ input.Memory
IsMemoryAlone _ = Unit {0}

-- `FailsToWrite result before after` is that the count of the writer's failed calls went from
-- `before` to `after`: one call failed if `result` is `Write`, and none otherwise.
abbrev pub FailsToWrite : {A : Type 0} → Result A ScriptFault → ℕ → ℕ → Type 0
FailsToWrite (Err Write) before after = after ≡ before + 1
FailsToWrite _ before after = after ≡ before

-- `StopsWriting bytes out fault` is that the writing of `bytes` stopped by `fault`, after `out` was
-- written: a prefix of `bytes` if a call failed, and nothing if an allocation failed.
abbrev pub StopsWriting : List ℕ → List ℕ → ScriptFault → Type 0
StopsWriting bytes out Write = StartsWith bytes out
StopsWriting bytes out Memory = out ≡ []
StopsWriting bytes out _ = ⊥

-- `FailsToRead result before after` is that the count of the reader's failed calls went from
-- `before` to `after`: one call failed if `result` is `Read`, and none otherwise.
abbrev pub FailsToRead : {A : Type 0} → Result A ScriptFault → ℕ → ℕ → Type 0
FailsToRead (Err Read) before after = after ≡ before + 1
FailsToRead _ before after = after ≡ before
