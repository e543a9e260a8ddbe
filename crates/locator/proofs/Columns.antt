-- Two or more columns before the line's end a cell fits by the address two columns on, and so by one column at the most. Assumes nothing.
use Rattle.std.proofs.Common.{◌≡◌, ℕ, ◌+◌, ◌%◌, ◌<◌, ◌≤◌, true, false, sym, refl, ◌∙◌, arith}
use Rattle.basics.proofs.Cases.{if_yes, if_no}
use Rattle.basics.specs.Bits.{word_of, high_of, low_of}
use Rattle.raster.specs.Registers.{reg, start_of, row_base_of, by_rows_of}
use Rattle.raster.specs.declared.registers.Registers.{Registers}
use Rattle.facts.specs.Facts.{address_of, ma_of}
use Rattle.facts.proofs.Latching.{two_back}
use Rattle.locator.specs.Cells.{cell_address_of, fits_of}
use Rattle.locator.specs.private.Search.{from_base_of, from_low_of}
use Rattle.locator.specs.declared.cells.Cell.{Cell}
use Rattle.locator.proofs.Lines.{fit_line, two-columns-on}

-- the column that a latch leaves over from its row's first address, in either way of addressing
counted-on : (base x latch : ℕ) → x < 256 → (base + (x + 2)) % 16384 ≡ latch → x ≡ from_base_of base latch
counted-on base x latch h e = omega arith

low_byte : (high start x latch : ℕ) → x < 256 → word_of high ((low_of start + (x + 2)) % 256) ≡ latch → x ≡ from_low_of start latch
low_byte high start x latch h e = omega arith

module _ (r : Registers) (latch : ℕ) where
  module _ (c : Cell) (within : c.column + 2 ≤ reg r 0) (narrow : c.column + 2 < 256) (fits : fits_of r latch c ≡ true) where
    two-on : address_of r (start_of r) (row_base_of r c.row) c.row (c.column + 2) ≡ latch
    two-on = let q = fit_line r latch c fits in sym (two-columns-on r latch c within narrow q.0) ∙ q.2

    pub by-base : by_rows_of r ≡ false → c.column ≡ from_base_of (row_base_of r c.row) latch
    unfolding address_of
    by-base b = counted-on (row_base_of r c.row) c.column latch (omega arith) (if_no (by_rows_of r) _ _ _ b refl ∙ two-on)

    pub by-low : by_rows_of r ≡ true → c.column ≡ from_low_of (start_of r) latch
    unfolding address_of
    by-low b =
        low_byte ((high_of (start_of r) + c.row) % 64) (start_of r) c.column latch (omega arith) (if_yes (by_rows_of r) _ _ _ b refl ∙ two-on)

  -- so where the line goes on after both, cells that fit one latch have one address
  pub same_address : (c d : Cell) → c.column + 2 ≤ reg r 0 → d.column + 2 ≤ reg r 0 → reg r 0 < 256
      → fits_of r latch c ≡ true → fits_of r latch d ≡ true → cell_address_of r c ≡ cell_address_of r d
  unfolding ma_of cell_address_of
  same_address c d h k narrow f g =
      two_back r (start_of r) (row_base_of r c.row) (row_base_of r d.row) c.row d.row c.column d.column
      (two-on c h (omega arith) f ∙ sym (two-on d k (omega arith) g))
