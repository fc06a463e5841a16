-- Many calls of `feed`, one for each piece of a stream: their answers, the bytes that they took,
-- the bodies that they gave.
use Rattle.std.specs.Prelude.{◌≡◌, ℕ, List, [], ◌∷◌, ◌++◌, Result, Ok, Err}
use Rattle.pq_frame.specs.Frames.{State, Feeds}
use Rattle.pq_frame.specs.declared.fault.FrameFault.{FrameFault}
use Rattle.pq_frame.specs.declared.fault.FrameFault.TheVariants.{HeaderTooLong, NoLength, BadLength, TooLong, Memory}

-- An answer of `feed`.
abbrev pub Answer : Type 0
Answer = Result (List (List ℕ)) FrameFault

-- `Fed old pieces answers new` is that a reader in state `old` may give `answers` to `pieces`, one
-- each, and is then in state `new`.
abbrev pub Fed : State → List (List ℕ) → List Answer → State → Type 0
Fed old [] [] new = new ≡ old
Fed old (piece ∷ pieces) (answer ∷ answers) new = (mid : State) × Feeds old piece answer mid × Fed mid pieces answers new
Fed old [] (answer ∷ answers) new = ⊥
Fed old (piece ∷ pieces) [] new = ⊥

-- `answer_bodies answer` is the bodies of `answer`.
abbrev pub answer_bodies : Answer → List (List ℕ)
answer_bodies (Ok bodies) = bodies
answer_bodies (Err fault) = []

-- `answered_bodies answers` is the bodies of all of `answers`, in order.
abbrev pub answered_bodies : List Answer → List (List ℕ)
answered_bodies [] = []
answered_bodies (answer ∷ answers) = answer_bodies answer ++ answered_bodies answers

-- `taken piece answer` is the bytes that the call took: `piece`, or nothing if the answer was an
-- allocation failure.
abbrev pub taken : List ℕ → Answer → List ℕ
taken piece (Ok bodies) = piece
taken piece (Err HeaderTooLong) = piece
taken piece (Err NoLength) = piece
taken piece (Err BadLength) = piece
taken piece (Err TooLong) = piece
taken piece (Err Memory) = []

-- `taken_bytes pieces answers` is the bytes that all calls took, in order: the stream.
abbrev pub taken_bytes : List (List ℕ) → List Answer → List ℕ
taken_bytes [] answers = []
taken_bytes (piece ∷ pieces) [] = []
taken_bytes (piece ∷ pieces) (answer ∷ answers) = taken piece answer ++ taken_bytes pieces answers
