-- The widths of what the controller holds (document 01, "Controller registers" and "One character time").
use Rattle.std.specs.Prelude.{◌<◌}
use Rattle.raster.specs.Widths.{RegistersWithin, ScanWithin, SyncWithin}
use Rattle.pen.specs.Pen.{newest_of}
use Rattle.controller.specs.declared.chip.Controller.{Controller}

-- registers, scan and syncs within theirs, and the pen's latch within fourteen bits
pub record Within (c : Controller) : Type 0 where
  pub regs : RegistersWithin c.regs
  pub scan : ScanWithin c.scan
  pub sync : SyncWithin c.sync
  pub latch : (newest_of c.pen).latch < 16384
