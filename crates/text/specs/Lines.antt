-- Bytes on lines, eight to a line, as hex digits (document 01, "Records and what comes back", the listing program).
use Rattle.std.specs.Prelude.{ℕ, zero, suc, ◌+◌, ◌-◌, ◌/◌, List, [], ◌∷◌, ◌++◌, length, take, drop}
use Rattle.text.specs.Hex.{hex_of}

-- how many bytes stand on a line: as many as an answer has
abbrev pub per_line : ℕ
per_line = 8

-- the end of a line
abbrev pub newline : List ℕ
newline = 10 ∷ []

-- bytes as digits on a line of their own
unfoldable pub line_of : List ℕ → List ℕ
line_of bytes = hex_of bytes ++ newline

-- what f makes of the bytes of a line after those of another, n times
unfoldable pub rows_of : (List ℕ → List ℕ) → ℕ → List ℕ → List ℕ
rows_of f zero bytes = []
rows_of f (suc n) bytes = f (take per_line bytes) ++ rows_of f n (drop per_line bytes)

-- how many lines so many bytes take
abbrev pub line_count : ℕ → ℕ
line_count n = (n + (per_line - 1)) / per_line

-- bytes on lines; the last line is shorter where it must be
unfoldable pub lines_of : List ℕ → List ℕ
lines_of bytes = rows_of line_of (line_count (length bytes)) bytes
