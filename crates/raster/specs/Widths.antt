-- The widths of what the raster holds (document 01, "Controller registers" and "One character time"). Theorems that lean on them name
-- them as a premise, and every controller that calls reach is within them.
use Rattle.std.specs.Prelude.{◌≡◌, ℕ, ◌^◌, ◌<◌, ◌≤◌, length, slice_index}
use Rattle.raster.specs.Registers.{reg, widths}
use Rattle.raster.specs.declared.registers.Registers.{Registers}
use Rattle.raster.specs.declared.scan.Scan.{Scan}
use Rattle.raster.specs.declared.sync.Sync.{Sync}

-- each register within its width, and the address register within five bits
pub record RegistersWithin (r : Registers) : Type 0 where
  pub sixteen : length r.held ≡ 16
  pub each : (k : ℕ) → k < 16 → reg r k < 2 ^ slice_index widths k
  pub named : r.named < 32

-- each counter of the scan within its width
pub record ScanWithin (s : Scan) : Type 0 where
  pub column : s.column < 256
  pub line : s.line < 32
  pub row : s.row < 128
  pub base : s.base < 16384
  pub start : s.start < 16384
  pub field : s.field < 32

-- HSYNC at most 15 characters, VSYNC at most 16 lines
pub record SyncWithin (y : Sync) : Type 0 where
  pub hsync : y.hsync ≤ 15
  pub vsync : y.vsync ≤ 16
