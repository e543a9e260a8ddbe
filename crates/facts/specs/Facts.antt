-- What is true of the character that the scan is at (document 01, "One character time"): picture, MA, cursor, and the latch that a
-- pen strike there leaves (request W5).
use Rattle.std.specs.Prelude.{ℕ, ◌+◌, ◌%◌, Bool, not, ◌&&◌, eqb, ltb, leb}
use Rattle.basics.specs.Choice.{when◌then◌else◌}
use Rattle.basics.specs.Bits.{bit, word_of, high_of, low_of}
use Rattle.raster.specs.Registers.{reg, by_rows_of}
use Rattle.raster.specs.Scan.{next_of}
use Rattle.raster.specs.declared.registers.Registers.{Registers}
use Rattle.raster.specs.declared.scan.Scan.{Scan}
use Rattle.facts.specs.declared.facts.Facts.{Facts}

-- in the picture: no adjust line, row below R6, column below R1
unfoldable pub picture_of : Registers → Scan → Bool
picture_of r s = not s.adjusting && ltb s.row (reg r 6) && ltb s.column (reg r 1)

-- the address at a row and a column of a frame with that start, the row's base given: counted on from the base, or, with R8 bit 2
-- set, the row added to the start's high part and the column to its low byte, each wrapping by itself
unfoldable pub address_of : Registers → (start base row column : ℕ) → ℕ
address_of r start base row column =
    when by_rows_of r then word_of ((high_of start + row) % 64) ((low_of start + column) % 256)
    else (base + column) % 16384

-- MA
unfoldable pub ma_of : Registers → Scan → ℕ
ma_of r s = address_of r s.start s.base s.row s.column

-- what a strike at this character latches: MA where the scan itself comes to in two character times, by the registers as they are at the
-- strike (request W5). The end of a line or of a row, adjust lines and a new frame with its start come out of the scan's own steps.
unfoldable pub latch_of : Registers → Scan → ℕ
latch_of r s = ma_of r (next_of r (next_of r s))

-- blink, by R10 bits 6 and 5: 00 always shows, 01 never, 10 while field bit 3 is 0, 11 while field bit 4 is 0
unfoldable pub blink_of : ℕ → ℕ → Bool
blink_of r10 field =
    when bit 6 r10 then (when bit 5 r10 then not (bit 4 field) else not (bit 3 field)) else not (bit 5 r10)

-- the cursor's lines: from the low five bits of R10 to R11
unfoldable pub cursor_line_of : Registers → ℕ → Bool
cursor_line_of r line = leb (reg r 10 % 32) line && leb line (reg r 11)

-- the cursor: in the picture, where MA is what R14 and R15 name, on one of its lines, while blink shows it
unfoldable pub cursor_of : Registers → Scan → Bool
cursor_of r s =
    picture_of r s && eqb (ma_of r s) (word_of (reg r 14) (reg r 15)) && cursor_line_of r s.line && blink_of (reg r 10) s.field

-- the two facts that a delayed pin shows one character late
unfoldable pub facts_of : Registers → Scan → Facts
facts_of r s = record { picture = picture_of r s; cursor = cursor_of r s }
