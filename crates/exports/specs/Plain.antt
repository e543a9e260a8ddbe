-- The answers of the chips as plain numbers, for programs in other languages (document 01, the table of refusals and "The
-- multiplexer"). What they say is defined with the chips; here it is only laid out.
use Rattle.std.specs.Prelude.{ℕ, Result}
use Rattle.locator.specs.Locate.{refusal_of, cell_of}
use Rattle.locator.specs.declared.answer.Unlocated.{Unlocated}
use Rattle.locator.specs.declared.cells.Cell.{Cell}
use Rattle.display.specs.declared.counter.Display.{Display}
use Rattle.multiplexer.specs.Chip.{fresh_of, with_control, with_display, fetches_of}
use Rattle.multiplexer.specs.declared.chip.Multiplexer.{Multiplexer}
use Rattle.exports.specs.declared.Found.{Found}

-- an answer of the locator: its number in the table of refusals, and its cell
abbrev pub found_of : Result Cell Unlocated → Found
found_of q = record { refusal = refusal_of q; row = (cell_of q).row; column = (cell_of q).column }

-- a fresh multiplexer but for its control bits and its display counter
abbrev pub multiplexer_at : ℕ → Display → Multiplexer
multiplexer_at bits d = with_display d (with_control (record { bits = bits }) fresh_of)

-- where n display fetches bring the counter under those control bits
abbrev pub fetched_of : ℕ → Display → ℕ → Display
fetched_of bits d n = (fetches_of (multiplexer_at bits d) n).display
