-- How long the text of `rooms` can be.
use Rattle.std.specs.Prelude.{ℕ, ◌+◌, ◌*◌}
use Rattle.batch.specs.Fresh.{most_output}
use Rattle.text.specs.Lines.{line_count}
use Rattle.text.specs.Lengths.{line_length}

-- no text is longer: a line for the counts, and those of the longest output
abbrev pub room_text_length : ℕ
room_text_length = line_length * (1 + line_count most_output)
