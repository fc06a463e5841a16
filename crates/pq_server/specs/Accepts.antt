-- What a server does after a connection that could not be accepted.
use Rattle.std.specs.Prelude.{ℕ, ℤ, pos, ◌||◌, nat_lt, if◌then◌else◌, Option, Some, None}
use Rattle.std.specs.Ordering.{int_eq}
use Rattle.std.specs.declared.io.ErrorKind.{ErrorKind}
use Rattle.std.specs.declared.io.ErrorKind.TheVariants as io
use Rattle.pq_server.specs.declared.serving.failures.Cause.{Cause}
use Rattle.pq_server.specs.declared.serving.failures.Cause.TheVariants.{Aborted, Interrupted, NoDescriptor, NoMemory, Lasting}
use Rattle.pq_server.specs.declared.serving.failures.Verdict.{Verdict}
use Rattle.pq_server.specs.declared.serving.failures.Verdict.TheVariants.{GoOn, TryAgain, End}

-- `cause_of_code code` is the cause of a failure with this error number of Linux: ENFILE and EMFILE
-- say that no descriptor is left, ENOBUFS that no buffer is.
abbrev pub cause_of_code : ℤ → Cause
cause_of_code code =
    if int_eq code (pos 23) || int_eq code (pos 24) then NoDescriptor
    else (if int_eq code (pos 105) then NoMemory else Lasting)

-- `cause_of kind code` is the cause of a failed accept with this kind of error, and this error number
-- if the system gave one.
abbrev pub cause_of : ErrorKind → Option ℤ → Cause
cause_of io.ConnectionAborted code = Aborted
cause_of io.Interrupted code = Interrupted
cause_of io.OutOfMemory code = NoMemory
cause_of _ (Some code) = cause_of_code code
cause_of _ None = Lasting

-- `most_failures` is how often an accept fails in a row, while no session runs, before the port has
-- failed.
abbrev pub most_failures : ℕ
most_failures = 10

-- `when_scarce running failures` is what the server does while descriptors or memory are lacking:
-- `running` sessions run, and the accept has failed `failures` times in a row while none ran.
abbrev pub when_scarce : ℕ → ℕ → Verdict
when_scarce running failures = if nat_lt 0 running || nat_lt failures most_failures then TryAgain else End

-- `verdict_on cause running failures` is what the server does after a failure of this cause.
abbrev pub verdict_on : Cause → ℕ → ℕ → Verdict
verdict_on Aborted running failures = GoOn
verdict_on Interrupted running failures = GoOn
verdict_on NoDescriptor running failures = when_scarce running failures
verdict_on NoMemory running failures = when_scarce running failures
verdict_on Lasting running failures = End
