-- The two facts that a delayed pin shows, one by one, and the picture by the lines that run. Assumes nothing.
use mathlib.Core.Path.{◌≡◌, refl}
use mathlib.Core.Bool.{true, false, ◌&&◌}
use lib.Dec.{ltb}
use Rattle.raster.specs.Registers.{reg}
use Rattle.raster.specs.declared.registers.Registers.{Registers}
use Rattle.raster.specs.declared.scan.Scan.{Scan}
use Rattle.facts.specs.Facts.{picture_of, cursor_of, facts_of}

module _ (r : Registers) (s : Scan) where
  pub picture-fact : (facts_of r s).picture ≡ picture_of r s
  unfolding facts_of
  picture-fact = refl

  pub cursor-fact : (facts_of r s).cursor ≡ cursor_of r s
  unfolding facts_of
  cursor-fact = refl

  -- the picture on the lines of the rows, and on the adjust lines
  pub picture-running : s.adjusting ≡ false → picture_of r s ≡ (ltb s.row (reg r 6) && ltb s.column (reg r 1))
  unfolding picture_of
  picture-running e = rw e

  pub picture-adjusting : s.adjusting ≡ true → picture_of r s ≡ false
  unfolding picture_of
  picture-adjusting e = rw e
