-- What the program `rooms` prints. The listing gives every answer room, so a whole replay that ends with 4 (document 01, "Records and what
-- comes back") is seen here. Decision: the form of the input and of the text is the project's own.
use Rattle.std.specs.Prelude.{ℕ, ◌+◌, List, [], ◌∷◌, ◌++◌, ltb, length, get_or, drop, replicate}
use Rattle.basics.specs.Bits.{word_of, high_of, low_of}
use Rattle.basics.specs.Choice.{when◌then◌else◌}
use Rattle.basics.specs.Lay.{laid_at}
use Rattle.answer.specs.declared.Answer.{Answer}
use Rattle.replay.specs.Ending.{ending_number}
use Rattle.replay.specs.Run.{Run, written_of}
use Rattle.batch.specs.Fresh.{most_bytes, most_output, fresh_run_of}
use Rattle.text.specs.Lines.{lines_of}
use Rattle.text.specs.Speech.{too_long}

-- the room that two bytes ask for; more than all answers need counts as that
unfoldable pub room_of : ℕ → ℕ → ℕ
room_of hi lo = when ltb most_output (word_of hi lo) then most_output else word_of hi lo

-- what a replay, or a call on a serial line, returns besides the chips, as eight bytes: the ending number, then bytes taken and answers
-- written by two bytes each
unfoldable pub counts_of : ℕ → ℕ → ℕ → List ℕ
counts_of ending taken answers =
    ending ∷ high_of taken ∷ low_of taken ∷ high_of answers ∷ low_of answers ∷ 0 ∷ 0 ∷ 0 ∷ []

-- the counts on a line, and then the whole output with the answers at its front
unfoldable pub given_text_of : ℕ → ℕ → List Answer → List ℕ → List ℕ
given_text_of ending taken answers out =
    lines_of (counts_of ending taken (length answers)) ++ lines_of (laid_at out 0 (written_of answers))

-- the same of a run
abbrev pub ran_text_of : Run → List ℕ → List ℕ
ran_text_of r out = given_text_of (ending_number r.ending) r.taken r.answers out

-- a batch on fresh chips, into an output
unfoldable pub shown_of : List ℕ → List ℕ → List ℕ
shown_of batch out = ran_text_of (fresh_run_of batch (length out)) out

-- `no room`
abbrev pub no_room : List ℕ
no_room = 110 ∷ 111 ∷ 32 ∷ 114 ∷ 111 ∷ 111 ∷ 109 ∷ 10 ∷ []

-- how many bytes say the room
abbrev pub head_bytes : ℕ
head_bytes = 2

-- The room's bytes and then the batch. All bytes of the output are $A5 before the replay, so that what it leaves alone shows.
unfoldable pub room_text_of : List ℕ → List ℕ
room_text_of input =
    when ltb (length input) head_bytes then no_room
    else when ltb (head_bytes + most_bytes) (length input) then too_long
    else shown_of (drop head_bytes input) (replicate (room_of (get_or input 0 0) (get_or input 1 0)) 0xA5)
