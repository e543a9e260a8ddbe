-- What the code asks at a line's end (document 01, "One character time").
use Rattle.std.specs.Prelude.{Bool, ◌==◌}
use Rattle.basics.specs.Choice.{when◌then◌else◌}
use Rattle.basics.specs.Width.{counted_of}
use Rattle.basics.specs.declared.width.Width.TheVariants.{Five}
use Rattle.raster.specs.Registers.{reg}
use Rattle.raster.specs.declared.registers.Registers.{Registers}
use Rattle.raster.specs.declared.scan.Scan.{Scan}

-- whether a line's end is the frame's: among the adjust lines by their count, elsewhere as told
unfoldable pub ends_frame_of : Registers → Scan → Bool → Bool
ends_frame_of r s told = when s.adjusting then (counted_of Five s.line 1 == reg r 5) else told
