-- The sixteen registers as the scan reads them (document 01, "Controller registers" and "One character time").
use Rattle.std.specs.Prelude.{ℕ, ◌+◌, ◌*◌, ◌%◌, Bool, List, [], ◌∷◌, slice_index}
use Rattle.basics.specs.Bits.{bit, word_of}
use Rattle.raster.specs.declared.registers.Registers.{Registers}

-- register k as held
abbrev pub reg : Registers → ℕ → ℕ
reg r k = slice_index r.held k

-- how many of its low bits each register R0 to R15 keeps
abbrev pub widths : List ℕ
widths = 8 ∷ 8 ∷ 8 ∷ 8 ∷ 7 ∷ 5 ∷ 7 ∷ 7 ∷ 8 ∷ 5 ∷ 7 ∷ 5 ∷ 6 ∷ 8 ∷ 6 ∷ 8 ∷ []

-- the start address: R12 its high part, R13 its low byte
abbrev pub start_of : Registers → ℕ
start_of r = word_of (reg r 12) (reg r 13)

-- the address that a row begins with: the start, and R1 for each row above it
abbrev pub row_base_of : Registers → ℕ → ℕ
row_base_of r row = (start_of r + row * reg r 1) % 16384

-- R8 bit 2 addresses the picture by row and column
abbrev pub by_rows_of : Registers → Bool
by_rows_of r = bit 2 (reg r 8)

-- bit 4 delays the display enable pin
abbrev pub display_delayed_of : Registers → Bool
display_delayed_of r = bit 4 (reg r 8)

-- bit 5 delays the cursor pin
abbrev pub cursor_delayed_of : Registers → Bool
cursor_delayed_of r = bit 5 (reg r 8)
