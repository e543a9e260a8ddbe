-- How the locator goes over the cells (document 01, "The locator", and request W5): row by row, and in a row by two parts. In the first
-- part the line goes on for two characters more, and only one column can fit; the second has what the picture has of the line's last two.
use Rattle.std.specs.Prelude.{ℕ, ◌+◌, ◌-◌, ◌%◌, min, Bool, map, ◌==◌}
use Rattle.basics.specs.Choice.{when◌then◌else◌}
use Rattle.basics.specs.Count.{count}
use Rattle.raster.specs.Registers.{reg}
use Rattle.raster.specs.declared.registers.Registers.{Registers}
use Rattle.locator.specs.Cells.{columns_of, cell_at, cell_latch_of, fits_of, keep, the_fit}
use Rattle.locator.specs.declared.cells.Cell.{Cell}
use Rattle.locator.specs.declared.fit.Fit.{Fit}
use Rattle.locator.specs.declared.fit.Fit.TheVariants.{Free, One, Many}

-- of two lists one after the other, by the answers for each
unfoldable pub joined_of : Fit → Fit → Fit
joined_of Free b = b
joined_of (One c) Free = One c
joined_of (One c) (One d) = Many
joined_of (One c) Many = Many
joined_of Many b = Many

-- whether a strike in a cell leaves a latch on one line
unfoldable pub line_fits_of : Registers → ℕ → Cell → ℕ → Bool
line_fits_of r latch c line = cell_latch_of r c line == latch

-- of one cell, by whether it fits
unfoldable pub one_fit_of : Bool → Cell → Fit
one_fit_of fits c = when fits then One c else Free

-- so many of a row's columns stand two or more before the line's end
abbrev pub front_of : Registers → ℕ
front_of r = min (columns_of r) (reg r 0 - 1)

-- which of n cells of a row fit a latch, from a column on
unfoldable pub part_fit_of : Registers → ℕ → (row column n : ℕ) → Fit
part_fit_of r latch row column n = the_fit (keep (fits_of r latch) (map (cell_at row) (count column n)))

-- which of all its cells
unfoldable pub row_fit_of : Registers → ℕ → ℕ → Fit
row_fit_of r latch row = part_fit_of r latch row 0 (columns_of r)

-- the column from which a row reaches a latch in two columns more, by counting on from its base: two rounds of 16384 less those two keep
-- the difference from going below 0
abbrev pub from_base_of : ℕ → ℕ → ℕ
from_base_of base latch = (latch + 32766 - base % 16384) % 16384

-- the same where the column moves the low byte alone, with two rounds of 256 less two
abbrev pub from_low_of : ℕ → ℕ → ℕ
from_low_of start latch = (latch + 510 - start % 256) % 256
