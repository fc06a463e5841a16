-- The error of a script whose frames have an error.
use Rattle.pq_frame.specs.declared.fault.FrameFault.{FrameFault}
use Rattle.pq_frame.specs.declared.fault.FrameFault.TheVariants as frame
use Rattle.pq_session.specs.declared.fault.ScriptFault.{ScriptFault}
use Rattle.pq_session.specs.declared.fault.ScriptFault.TheVariants.{Frame, Memory}

-- `fault_of fault` is the error of a script for the error `fault` of its frames. An allocation
-- failure is `Memory` alone.
abbrev pub fault_of : FrameFault → ScriptFault
fault_of frame.Memory = Memory
fault_of frame.HeaderTooLong = Frame frame.HeaderTooLong
fault_of frame.NoLength = Frame frame.NoLength
fault_of frame.BadLength = Frame frame.BadLength
fault_of frame.TooLong = Frame frame.TooLong
