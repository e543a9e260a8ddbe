-- What the program `cuts` shows of a call (document 02, W3), in the form of `rooms`: the counts on a line, and of a cut the whole output.
use Rattle.std.specs.Prelude.{ℕ, List, [], Option, Some, None, length, take, drop, replicate}
use Rattle.line.specs.CallEnding.{call_ending_number}
use Rattle.line.specs.Line.{Outcome, outcome_of, closing_of}
use Rattle.line.specs.declared.calls.Line.{Line}
use Rattle.rooms_text.specs.Lengths.{room_text_length}
use Rattle.rooms_text.specs.Rooms.{counts_of, given_text_of}
use Rattle.text.specs.Lines.{lines_of}
use Rattle.cuts_text.specs.Asked.{call_head, first_of, length_of}
use Rattle.cuts_text.specs.declared.asked.Asked.{Asked}
use Rattle.cuts_text.specs.declared.asked.Asked.TheVariants.{Close, Cut}
use Rattle.cuts_text.specs.declared.made.Made.{Made}

-- closing: its counts, of which all but the ending number are 0
unfoldable pub close_text_of : Line → List ℕ
close_text_of l = lines_of (counts_of (call_ending_number (closing_of l).ending) (closing_of l).taken (length (closing_of l).answers))

-- what a cut into an output comes to, with that output
abbrev pub outcome_text_of : Outcome → List ℕ → List ℕ
outcome_text_of o out = given_text_of (call_ending_number o.ending) o.taken o.answers out

-- a cut into an output
unfoldable pub cut_text_of : Line → List ℕ → List ℕ → List ℕ
cut_text_of l cut out = outcome_text_of (outcome_of l cut (length out)) out

-- the bytes of a cut, so many behind its head
abbrev pub cut_in : List ℕ → ℕ → List ℕ
cut_in rest long = take long (drop call_head rest)

-- The text of a call. All bytes of an output are $A5 before the call.
abbrev pub text_shown : Line → List ℕ → Asked → List ℕ
text_shown l rest Close = close_text_of l
text_shown l rest (Cut room long) = cut_text_of l (cut_in rest long) (replicate room 0xA5)

-- the line after it
abbrev pub line_left : Line → List ℕ → Asked → Line
line_left l rest Close = (closing_of l).line
line_left l rest (Cut room long) = (outcome_of l (cut_in rest long) room).line

-- what is returned of a call, if there is one
abbrev pub made_by : Line → List ℕ → Option Asked → Option Made
made_by l rest None = None
made_by l rest (Some a) = Some (record { line = line_left l rest a; used = length_of a })

-- the same of the call that bytes begin with
unfoldable pub made_of : Line → List ℕ → Option Made
made_of l rest = made_by l rest (first_of rest)

-- what is shown of a call, if there is one
abbrev pub text_by : Line → List ℕ → Option Asked → List ℕ
text_by l rest None = []
text_by l rest (Some a) = text_shown l rest a

-- the same of the call that bytes begin with
unfoldable pub call_text_of : Line → List ℕ → List ℕ
call_text_of l rest = text_by l rest (first_of rest)

-- no text of a call is longer
abbrev pub call_text_length : ℕ
call_text_length = room_text_length
