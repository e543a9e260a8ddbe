-- The lines of answers (document 01, "Records and what comes back", the listing program).
use Rattle.std.specs.Prelude.{ℕ, ◌%◌, Bool, true, false, ◌&&◌, List, [], ◌∷◌, ◌++◌, eqb, leb, get_or}
use Rattle.answer.specs.Answer.{bytes_of}
use Rattle.answer.specs.declared.Answer.{Answer}
use Rattle.text.specs.Hex.{hex_of}
use Rattle.text.specs.Lines.{newline}

-- The old program marked some answers, and the listing still does: those of kind 6 with the RAM flag, the lowest of the flags, and a
-- select of 1 to 6.
unfoldable pub odd_of : Answer → Bool
odd_of a = eqb a.kind 6 && eqb (get_or a.body 2 0 % 2) 1 && leb 1 (get_or a.body 0 0) && leb (get_or a.body 0 0) 6

-- ` odd`
abbrev pub mark : List ℕ
mark = 32 ∷ 111 ∷ 100 ∷ 100 ∷ []

-- the end of a line, behind the mark where it is due
abbrev pub line_end_of : Bool → List ℕ
line_end_of true = mark ++ newline
line_end_of false = newline

-- each answer on its line: its bytes as digits, and the mark where it is due
unfoldable pub answer_lines_of : List Answer → List ℕ
answer_lines_of [] = []
answer_lines_of (a ∷ l) = (hex_of (bytes_of a) ++ line_end_of (odd_of a)) ++ answer_lines_of l
