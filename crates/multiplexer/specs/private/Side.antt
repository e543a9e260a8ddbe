-- What the code tells of a bank's side (document 01, "The multiplexer", the paragraph on cells).
use Rattle.std.specs.Prelude.{◌≡◌, ℕ, ◌≤◌}
use Rattle.control.specs.declared.bits.Control.{Control}
use Rattle.multiplexer.specs.Cells.{side_of}

-- which side it is, and that it can be divided by and fits a cell's bytes
pub record Side (c : Control) (r : ℕ) : Type 0 where
  pub is : r ≡ side_of c
  pub least : 1 ≤ r
  pub most : r ≤ 256
