-- What a strike latches, of the real controller's calls (request W5).
use Rattle.std.specs.Prelude.{◌+◌, ◌%◌, ◌<◌, ◌≡◌, true, false}
use Rattle.basics.specs.Bits.{high_of, low_of}
use Rattle.raster.specs.Registers.{reg, by_rows_of}
use Rattle.pen.specs.Pen.{newest_of}
use Rattle.controller.specs.Chip.{clock_of, strike_of}
use Rattle.controller.specs.Pins.{outputs_of}
use Rattle.controller.specs.Reads.{read_of}
use Rattle.controller.specs.declared.chip.Controller.{Controller}

-- A strike on any controller.
pub record Latches (c : Controller) : Type 0 where
  -- it latches the address that this controller shows when it is clocked twice, and no register written
  pub latch : (newest_of (strike_of c).pen).latch ≡ (outputs_of (clock_of 2 c)).ma
  -- it is in the picture where the character struck is, and not the one whose address it latches
  pub inside : (newest_of (strike_of c).pen).inside ≡ (outputs_of c).picture
  -- R16 and R17 read so: the high and the low byte of that address
  pub high : c.regs.named ≡ 16 → (read_of (strike_of c) true).value ≡ high_of (outputs_of (clock_of 2 c)).ma
  pub low : c.regs.named ≡ 17 → (read_of (strike_of c) true).value ≡ low_of (outputs_of (clock_of 2 c)).ma
  -- where neither of the two characters ends the line nor wraps the column, and addresses are counted on through the picture (R8 bit 2
  -- clear), that is what the shortcut of document 01 gave, MA and 2. Elsewhere it need not be: the settled cases k (a line's end) and y
  -- (row and column addressing) have other latches.
  pub as_before : (c.scan.column ≡ reg c.regs 0 → ⊥) → (c.scan.column + 1 ≡ reg c.regs 0 → ⊥) → c.scan.column + 2 < 256
      → by_rows_of c.regs ≡ false
      → (newest_of (strike_of c).pen).latch ≡ ((outputs_of c).ma + 2) % 16384

-- so of every strike
abbrev pub EveryStrike : Type 0
EveryStrike = (c : Controller) → Latches c
