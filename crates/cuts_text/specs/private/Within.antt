-- What the functions of `cuts_text` say to one another.
use Rattle.std.specs.Prelude.{ℕ, ◌+◌, ◌≤◌}
use Rattle.batch.specs.Fresh.{most_output}
use Rattle.line.specs.declared.calls.Line.{Line}
use Rattle.cuts_text.specs.Asked.{call_head}
use Rattle.cuts_text.specs.declared.asked.Asked.{Asked}
use Rattle.cuts_text.specs.declared.asked.Asked.TheVariants.{Close, Cut}
use Rattle.cuts_text.specs.declared.made.Made.{Made}

-- the longest cut that two bytes can say
abbrev pub most_long : ℕ
most_long = 65535

-- a call within so many bytes
abbrev pub Within : Asked → ℕ → Type 0
Within Close n = 1 ≤ n
Within (Cut room long) n = (room ≤ most_output) × (call_head + long ≤ n)

-- a call that was made: the line after it, and the bytes that said it
abbrev pub shown_as : Line → ℕ → Made
shown_as line used = record { line = line; used = used }
