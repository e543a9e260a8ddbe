-- Rows of numbers as lines (document 02, W1: the numbers of a report, as its program tells them).
use Rattle.std.specs.Prelude.{ℕ, ◌+◌, ◌*◌, Bool, List, [], ◌∷◌, ◌++◌, map, eqb, length, get_or, take, drop}
use Rattle.basics.specs.Choice.{when◌then◌else◌}
use Rattle.basics.specs.Count.{count}
use Rattle.decimal.specs.Decimal.{decimal_of}
use Rattle.text.specs.Lines.{newline}
use Rattle.report.specs.Report.{row}

-- what stands between two numbers
abbrev pub space : List ℕ
space = 32 ∷ []

-- texts one after the other
unfoldable pub joined : List (List ℕ) → List ℕ
joined [] = []
joined (w ∷ l) = w ++ joined l

-- a number in decimal, and after it one space, or the end of the line where it is the last
unfoldable pub number_of : ℕ → Bool → List ℕ
number_of n last = decimal_of n ++ (when last then newline else space)

-- numbers on a line
unfoldable pub line_of : List ℕ → List ℕ
line_of numbers = joined (map (λ (i : ℕ). number_of (get_or numbers i 0) (eqb (i + 1) (length numbers))) (count 0 (length numbers)))

-- the places of the k-th row, counted from 0
abbrev pub row_at : List ℕ → ℕ → List ℕ
row_at places k = take row (drop (row * k) places)

-- the first n rows, each on its line
unfoldable pub lines_of : List ℕ → ℕ → List ℕ
lines_of places n = joined (map (λ (k : ℕ). line_of (row_at places k)) (count 0 n))
