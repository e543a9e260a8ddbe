-- What cuts are together (document 02, W3): one replay over the joined bytes. proofs/Cuts.antt shows it.
use Rattle.std.specs.Prelude.{ℕ, ◌*◌, ◌/◌, ◌≤◌, false, List, [], ◌∷◌, ◌++◌, ◌≡◌, length, drop}
use Rattle.answer.specs.declared.Answer.{Answer}
use Rattle.replay.specs.Ending.{ending_number}
use Rattle.replay.specs.Run.{Run, run_of}
use Rattle.line.specs.CallEnding.{call_ending_number}
use Rattle.line.specs.Held.{held_of}
use Rattle.line.specs.Line.{outcome_of, closing_of}
use Rattle.line.specs.declared.calls.Line.{Line}

-- room for all the answers that so many bytes can have: eight bytes for each four
abbrev pub RoomFor : List ℕ → ℕ → Type 0
RoomFor bytes room = 8 * (length bytes / 4) ≤ room

-- What calls gave, and the line that they left, once it is closed, beside one replay: the answers in order, the final chips and the ending
-- number are the same.
pub record Same (answers : List Answer) (last : Line) (r : Run) : Type 0 where
  pub answers-same : answers ≡ r.answers
  pub chips-same : (closing_of last).line.bench ≡ r.bench
  pub number_same : call_ending_number (closing_of last).ending ≡ ending_number r.ending

-- one replay over what a line holds and over bytes behind it, with room for all its answers, is what calls gave
abbrev pub AsOneReplay : Line → List ℕ → List Answer → Line → Type 0
AsOneReplay l bytes answers last =
    (room : ℕ) → RoomFor (held_of l.held ++ bytes) room → Same answers last (run_of (held_of l.held ++ bytes) room l.bench)

-- a cut, and the room of the output that its call is lent
pub record Cut : Type 0 where
  pub bytes : List ℕ
  pub room : ℕ

-- the bytes of all cuts, joined
unfoldable pub joined_of : List Cut → List ℕ
joined_of [] = []
joined_of (c ∷ cuts) = c.bytes ++ joined_of cuts

-- one call for each cut, in their order: the line after the last
unfoldable pub last_of : Line → List Cut → Line
last_of l [] = l
last_of l (c ∷ cuts) = last_of (outcome_of l c.bytes c.room).line cuts

-- and the answers of all these calls
unfoldable pub answers_of : Line → List Cut → List Answer
answers_of l [] = []
answers_of l (c ∷ cuts) = (outcome_of l c.bytes c.room).answers ++ answers_of (outcome_of l c.bytes c.room).line cuts

-- each of these calls has room for the answers that it can give
unfoldable pub Roomy : Line → List Cut → Type 0
Roomy l [] = Unit {0}
Roomy l (c ∷ cuts) = RoomFor (held_of l.held ++ c.bytes) c.room × Roomy (outcome_of l c.bytes c.room).line cuts

-- Bytes brought to a line by calls, whatever room each has, with the answers of all calls in order and the line after the last. A call is
-- handed some of the bytes that are due. What it did not take is due again, before what was not handed over yet: so a call that ended with
-- 4 is made again with the rest. Nothing is due at the end.
pub data Brought : Line → List ℕ → List Answer → Line → Type 0 where
  done : (l : Line) → Brought l [] [] l
  call : (l : Line) (cut more : List ℕ) (room : ℕ) (answers : List Answer) (last : Line)
      → Brought (outcome_of l cut room).line (drop (outcome_of l cut room).taken cut ++ more) answers last
      → Brought l (cut ++ more) ((outcome_of l cut room).answers ++ answers) last

-- all cuts on a line
pub record Together (l : Line) : Type 0 where
  -- the request: for every list of cuts, each call having room for the answers that it can give, and then closing
  pub cuts : l.closed ≡ false → (cuts : List Cut) → Roomy l cuts → AsOneReplay l (joined_of cuts) (answers_of l cuts) (last_of l cuts)
  -- and more: whatever the rooms are, as long as all bytes are taken in the end
  pub brought : l.closed ≡ false → (bytes : List ℕ) (answers : List Answer) (last : Line) → Brought l bytes answers last → AsOneReplay l bytes answers last
  -- a call that has room for the answers that it can give ends with 0, and takes its cut whole
  pub roomy : l.closed ≡ false → (cut : List ℕ) (room : ℕ) → RoomFor (held_of l.held ++ cut) room
      → (call_ending_number (outcome_of l cut room).ending ≡ 0) × ((outcome_of l cut room).taken ≡ length cut)
