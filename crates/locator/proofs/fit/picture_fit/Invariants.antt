-- The loop's invariant: the carried address is the one that the next row begins with, and the fit is that of the rows met so far.
use Rattle.std.proofs.Common.{◌≡◌}
use Rattle.raster.specs.Registers.{row_base_of}
use Rattle.locator.specs.Cells.{cells_from, fits_of, keep, the_fit}
use Rattle.locator.proofs.fit.picture_fit.Given as goal

abbrev pub invariant-loop-number : goal.invariant-loop-number
invariant-loop-number l =
    (l.base ≡ row_base_of l.registers l.number) × (l.best ≡ the_fit (keep (fits_of l.registers l.latch) (cells_from l.registers 0 l.number)))
