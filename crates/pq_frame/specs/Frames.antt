-- What a stream of bytes is (LSP 3.17, "Base Protocol"): whole frames, and a rest that is an
-- unfinished frame or an error. Only `Feeds` speaks of the pieces in which a stream comes.
use Rattle.std.specs.Prelude.{◌≡◌, ℕ, ◌<◌, ◌≤◌, ◌+◌, ◌⊎◌, ◌++◌, List, [], ◌∷◌, length, Result, Ok, Err}
use Rattle.pq_frame.specs.Header.{IsHeader, NoHeaderBelow, body_length, max_header}
use Rattle.pq_frame.specs.declared.fault.FrameFault.{FrameFault}
use Rattle.pq_frame.specs.declared.fault.FrameFault.TheVariants.{HeaderTooLong, NoLength, BadLength, TooLong, Memory}

-- `IsFrame frame body` is that `frame` is a header part and then `body`, whose length the header
-- part gives.
abbrev pub IsFrame : List ℕ → List ℕ → Type 0
IsFrame frame body = (header : List ℕ) × IsHeader header × (body_length header ≡ Ok (length body)) × (frame ≡ header ++ body)

-- `IsCutBody bytes` is that `bytes` are a header part and fewer bytes than the `needed` ones of its
-- body.
pub record IsCutBody (bytes : List ℕ) : Type 0 where
  pub header : List ℕ
  pub body : List ℕ
  pub needed : ℕ
  pub is_header : IsHeader header
  pub gives : body_length header ≡ Ok needed
  pub is_cut : length body < needed
  pub whole : bytes ≡ header ++ body

-- `IsUnfinished bytes` is that `bytes` are a proper prefix of a frame: a header part without its
-- end, or a cut body.
abbrev pub IsUnfinished : List ℕ → Type 0
IsUnfinished bytes = ((length bytes < max_header) × NoHeaderBelow bytes (length bytes + 1)) ⊎ IsCutBody bytes

-- `BeginsWithFault bytes fault` is that `bytes` begin with a header part that has the error
-- `fault`.
abbrev pub BeginsWithFault : List ℕ → FrameFault → Type 0
BeginsWithFault bytes fault = (header : List ℕ) × (others : List ℕ) × IsHeader header × (body_length header ≡ Err fault) × (bytes ≡ header ++ others)

-- `HasFault bytes fault` is that no frame begins `bytes`, by the error `fault`. An allocation
-- failure is no property of the bytes.
abbrev pub HasFault : List ℕ → FrameFault → Type 0
HasFault bytes HeaderTooLong = (max_header ≤ length bytes) × NoHeaderBelow bytes (max_header + 1)
HasFault bytes NoLength = BeginsWithFault bytes NoLength
HasFault bytes BadLength = BeginsWithFault bytes BadLength
HasFault bytes TooLong = BeginsWithFault bytes TooLong
HasFault bytes Memory = ⊥

-- The state of a reader: the bytes that it keeps of an unfinished frame, or the error that it met.
pub data State : Type 0 where
  Reading : List ℕ → State
  Failed : FrameFault → State

-- `IsRest bytes state` is that `bytes` hold no whole frame, and that `state` is the reader's state
-- after them.
abbrev pub IsRest : List ℕ → State → Type 0
IsRest bytes (Reading rest) = (bytes ≡ rest) × IsUnfinished rest
IsRest bytes (Failed fault) = HasFault bytes fault

-- `Frames bytes bodies state` is that `bytes` are one frame for each of `bodies`, in order, and
-- then the rest that leaves a reader in `state`.
abbrev pub Frames : List ℕ → List (List ℕ) → State → Type 0
Frames bytes [] state = IsRest bytes state
Frames bytes (body ∷ bodies) state = (frame : List ℕ) × (more : List ℕ) × IsFrame frame body × (bytes ≡ frame ++ more) × Frames more bodies state

-- `Feeds old piece answer new` is that `feed`, in state `old`, may answer `answer` to `piece`, with
-- the state `new` after it.
abbrev pub Feeds : State → List ℕ → Result (List (List ℕ)) FrameFault → State → Type 0
-- A reader that met an error answers that error for good.
Feeds (Failed fault) piece (Ok bodies) new = ⊥
Feeds (Failed fault) piece (Err e) new = (e ≡ fault) × (new ≡ Failed fault)
-- The answer is the bodies that `piece` completes. An error after them comes with the next call;
-- without bodies it comes now.
Feeds (Reading rest) piece (Ok bodies) new = Frames (rest ++ piece) bodies new × ((fault : FrameFault) → new ≡ Failed fault → 0 < length bodies)
-- An allocation failure leaves the state as it was.
Feeds (Reading rest) piece (Err Memory) new = new ≡ Reading rest
Feeds (Reading rest) piece (Err HeaderTooLong) new = HasFault (rest ++ piece) HeaderTooLong × (new ≡ Failed HeaderTooLong)
Feeds (Reading rest) piece (Err NoLength) new = HasFault (rest ++ piece) NoLength × (new ≡ Failed NoLength)
Feeds (Reading rest) piece (Err BadLength) new = HasFault (rest ++ piece) BadLength × (new ≡ Failed BadLength)
Feeds (Reading rest) piece (Err TooLong) new = HasFault (rest ++ piece) TooLong × (new ≡ Failed TooLong)
