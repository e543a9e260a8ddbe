-- What the program `serial` prints of a cut (document 02, W3; document 01, "Records and what comes back", for the form of a line).
-- Decision: it reads up to 256 bytes at once. So a call has at most 64 answers, the bytes held before it counted in, and room for them all.
use Rattle.std.specs.Prelude.{ℕ, ◌*◌, ◌/◌, ◌≡◌, List}
use Rattle.answer_lines.specs.Lines.{answer_lines_of}
use Rattle.answer_lines.specs.Marked.{marked_length}
use Rattle.line.specs.Line.{Outcome, outcome_of}
use Rattle.line.specs.declared.calls.Line.{Line}
use Rattle.text.specs.Lines.{per_line}
use Rattle.serial_text.specs.declared.turn.Told.{Told}

-- the most bytes that are read at once
abbrev pub most_cut : ℕ
most_cut = 256

-- the most answers that they have: three bytes that were held and these have 64 records, as these alone have
abbrev pub most_turn_answers : ℕ
most_turn_answers = most_cut / 4

-- the call that is made with a cut
abbrev pub turn_of : Line → List ℕ → Outcome
turn_of l cut = outcome_of l cut (per_line * most_turn_answers)

-- its answers, each on its line
unfoldable pub turn_text_of : Line → List ℕ → List ℕ
turn_text_of l cut = answer_lines_of (turn_of l cut).answers

-- no text of a cut is longer
abbrev pub turn_length : ℕ
turn_length = marked_length * most_turn_answers

-- what is returned: what the call gave, and its text
unfoldable pub told_of : Line → List ℕ → Told
told_of l cut =
    record { line = (turn_of l cut).line; ending = (turn_of l cut).ending; taken = (turn_of l cut).taken; text = turn_text_of l cut }

-- in what is told of a cut stands that text
abbrev pub TextTold : Line → List ℕ → Type 0
TextTold l cut = (told_of l cut).text ≡ turn_text_of l cut
