-- The address that a row begins with, from one row to the next. Assumes nothing.
use Rattle.std.proofs.Common.{◌≡◌, ℕ, suc, suc-mul, arith}
use Rattle.basics.specs.Width.{counted_of}
use Rattle.basics.specs.declared.width.Width.TheVariants.{Fourteen}
use Rattle.raster.specs.Registers.{reg, row_base_of}
use Rattle.raster.specs.declared.registers.Registers.{Registers}

pub row-base-next : (r : Registers) (row : ℕ) → counted_of Fourteen (row_base_of r row) (reg r 1) ≡ row_base_of r (suc row)
row-base-next r row = omega (arith, suc-mul row (reg r 1))
