-- How long a line is (document 01, "Records and what comes back", the listing program).
use Rattle.std.specs.Prelude.{ℕ, ◌+◌, ◌*◌, length}
use Rattle.text.specs.Lines.{per_line, newline}

-- how long a line is when it is full: two digits for each byte, and its end
abbrev pub line_length : ℕ
line_length = 2 * per_line + length newline
