-- Counts of the calls of a reader or a writer.
use Rattle.std.specs.Prelude.{ℕ, ◌+◌, ◌-◌, ◌^◌, ◌==◌, min, if◌then◌else◌, Result, Ok, Err}
use Rattle.pq_session.specs.declared.counted.Counted.{Counted}

-- `one_more n` is `n + 1`, or `n` if it is the largest number of 64 bits.
abbrev pub one_more : ℕ → ℕ
one_more n = min (n + 1) (2 ^ 64 - 1)

-- `failed_after_read n result` is the count of failed calls, `n` before, after a read with this
-- result.
abbrev pub failed_after_read : {E : Type 0} → ℕ → Result ℕ E → ℕ
failed_after_read n (Ok count) = n
failed_after_read n (Err e) = one_more n

-- `failed_after_write n result` is the count of failed calls, `n` before, after a write with this
-- result. A write that takes no bytes fails.
abbrev pub failed_after_write : {E : Type 0} → ℕ → Result ℕ E → ℕ
failed_after_write n (Ok count) = if count == 0 then one_more n else n
failed_after_write n (Err e) = one_more n

-- `failed_after_flush n result` is the count of failed calls, `n` before, after a flush with this
-- result.
abbrev pub failed_after_flush : {T E : Type 0} → ℕ → Result T E → ℕ
failed_after_flush n (Ok x) = n
failed_after_flush n (Err e) = one_more n

module _ {T : Type 0} where
  -- `inner_of c` is the reader or the writer in `c`.
  abbrev pub inner_of : Counted T → T
  inner_of c = c.inner

  -- `reads_of c` is the count of the reads of `c`.
  abbrev pub reads_of : Counted T → ℕ
  reads_of c = c.reads

  -- `failed_of c` is the count of the failed calls of `c`.
  abbrev pub failed_of : Counted T → ℕ
  failed_of c = c.failed
