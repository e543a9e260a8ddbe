-- The lines of answers that are given by their bytes (document 01, "Records and what comes back", the listing program).
use Rattle.std.specs.Prelude.{ℕ, ◌+◌, ◌*◌, ◌/◌, ◌≤◌, Bool, List, [], ◌∷◌, ◌++◌, leb, length, get_or}
use Rattle.basics.specs.Choice.{when◌then◌else◌}
use Rattle.basics.specs.Lay.{laid_at, Laid}
use Rattle.answer.specs.declared.Answer.{Answer}
use Rattle.text.specs.Hex.{hex_of}
use Rattle.text.specs.Lines.{per_line, rows_of}
use Rattle.text.specs.Lengths.{line_length}
use Rattle.answer_lines.specs.Lines.{odd_of, mark, line_end_of}

-- the answer that eight bytes are
abbrev pub answer_of : List ℕ → Answer
answer_of b =
    record {
      kind = get_or b 0 0;
      refusal = get_or b 1 0;
      body = get_or b 2 0 ∷ get_or b 3 0 ∷ get_or b 4 0 ∷ get_or b 5 0 ∷ get_or b 6 0 ∷ get_or b 7 0 ∷ [];
    }

-- and the line of that answer
unfoldable pub marked_of : List ℕ → List ℕ
marked_of bytes = hex_of bytes ++ line_end_of (odd_of (answer_of bytes))

-- each whole answer on its line; fewer than eight bytes behind the last have none
unfoldable pub lines_in : List ℕ → List ℕ
lines_in bytes = rows_of marked_of (length bytes / per_line) bytes

-- no line is longer than this
abbrev pub marked_length : ℕ
marked_length = line_length + length mark

-- Decision: lines are laid where they would have room if each of them had the mark, and else not at all.
abbrev pub lines_room : List ℕ → ℕ → List ℕ → Bool
lines_room t p bytes = leb (p + marked_length * (length bytes / per_line)) (length t)

abbrev pub put_lines : List ℕ → ℕ → List ℕ → List ℕ
put_lines t p bytes = when lines_room t p bytes then laid_at t p (lines_in bytes) else t

-- the place behind them
abbrev pub behind_lines : List ℕ → ℕ → List ℕ → ℕ
behind_lines t p bytes = when lines_room t p bytes then p + length (lines_in bytes) else p

-- what a writer of them tells the next one
abbrev pub WritesLines : List ℕ → List ℕ → ℕ → ℕ → List ℕ → Type 0
WritesLines t u p q bytes = p + marked_length * (length bytes / per_line) ≤ length t → Laid t u p q (lines_in bytes)

-- Decision: lines are put at the end of a text where they would have room if each of them had the mark, and else not at all.
abbrev pub lines_fit : ℕ → List ℕ → List ℕ → Bool
lines_fit room t bytes = leb (length t + marked_length * (length bytes / per_line)) room

abbrev pub with_lines : ℕ → List ℕ → List ℕ → List ℕ
with_lines room t bytes = when lines_fit room t bytes then t ++ lines_in bytes else t
