-- The two sync counts, as an arrival at a character changes them (document 01, "One character time"). A sync pin
-- shows whether its count still runs; where a new pulse is due before the old one is over, the count is loaded anew.
use Rattle.std.specs.Prelude.{ℕ, ◌-◌, ◌/◌, ◌%◌, Bool, not, ◌&&◌, ◌==◌}
use Rattle.basics.specs.Choice.{when◌then◌else◌}
use Rattle.raster.specs.Registers.{reg}
use Rattle.raster.specs.declared.registers.Registers.{Registers}
use Rattle.raster.specs.declared.scan.Scan.{Scan}
use Rattle.raster.specs.declared.sync.Sync.{Sync}

-- HSYNC: loaded with the low four bits of R3 at column R2, else one less, down to 0
unfoldable pub hsync_of : Registers → Scan → ℕ → ℕ
hsync_of r s count = when s.column == reg r 2 then reg r 3 % 16 else count - 1

-- where a VSYNC pulse starts: line 0 of row R7, unless the adjust lines run
unfoldable pub vsync_starts_of : Registers → Scan → Bool
vsync_starts_of r s = not s.adjusting && s.line == 0 && s.row == reg r 7

-- how many lines it lasts: the high four bits of R3, of which 0 means 16
unfoldable pub vsync_width_of : Registers → ℕ
vsync_width_of r = when reg r 3 / 16 == 0 then 16 else reg r 3 / 16

-- VSYNC: judged at column 0 and left alone at every other
unfoldable pub vsync_of : Registers → Scan → ℕ → ℕ
vsync_of r s count =
    when s.column == 0 then (when vsync_starts_of r s then vsync_width_of r else count - 1) else count

-- both counts on arrival
unfoldable pub arrive_of : Registers → Scan → Sync → Sync
arrive_of r s y = record { hsync = hsync_of r s y.hsync; vsync = vsync_of r s y.vsync }
