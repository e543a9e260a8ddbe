-- The controller as a whole: power-on, reset, write, character times and pen strikes (document 01, "Controller registers" and
-- "One character time").
use Rattle.std.specs.Prelude.{ℕ, Bool, false, replicate}
use Rattle.basics.specs.Iterate.{iterate}
use Rattle.raster.specs.Scan.{top_of, next_of}
use Rattle.raster.specs.Sync.{arrive_of}
use Rattle.facts.specs.Facts.{picture_of, latch_of, facts_of}
use Rattle.raster.specs.declared.registers.Registers.{Registers}
use Rattle.facts.specs.declared.facts.Facts.{Facts}
use Rattle.raster.specs.declared.scan.Scan.{Scan}
use Rattle.raster.specs.declared.sync.Sync.{Sync}
use Rattle.pen.specs.Pen.{no_pen, struck_of}
use Rattle.controller.specs.Writes.{written_of}
use Rattle.pen.specs.declared.pen.Pen.{Pen}
use Rattle.pen.specs.declared.pen.Strike.{Strike}
use Rattle.controller.specs.declared.chip.Controller.{Controller}

-- nothing shown by a delayed pin yet: both facts false
abbrev pub no_facts : Facts
no_facts = record { picture = false; cursor = false }

-- neither sync running
abbrev pub no_sync : Sync
no_sync = record { hsync = 0; vsync = 0 }

-- every register and the address register zero, as power-on finds them
abbrev pub no_registers : Registers
no_registers = record { held = replicate 16 0; named = 0 }

-- what a reset makes of the registers that it keeps: the top of field 0, arrived at, and all else fresh.
-- Decision: the sampled start is also the base, as in every new frame; without that the first picture would begin at address 0.
unfoldable pub arrived_of : Registers → Controller
arrived_of r = record {
  regs = r;
  scan = top_of r 0;
  sync = arrive_of r (top_of r 0) no_sync;
  left = no_facts;
  pen = no_pen;
}

-- power-on: all registers zero, and arrived the same way
unfoldable pub fresh_of : Controller
fresh_of = arrived_of no_registers

-- reset: the registers and the address register stay
unfoldable pub reset_of : Controller → Controller
reset_of c = arrived_of c.regs

-- a write changes registers and nothing else
unfoldable pub write_of : Controller → Bool → ℕ → Controller
write_of c rs v = record { regs = written_of c.regs rs v; scan = c.scan; sync = c.sync; left = c.left; pen = c.pen }

-- one character time: the facts of the character being left are kept as the registers judge them now, then the scan moves on and
-- arrives
unfoldable pub step_of : Controller → Controller
step_of c = record {
  regs = c.regs;
  scan = next_of c.regs c.scan;
  sync = arrive_of c.regs (next_of c.regs c.scan) c.sync;
  left = facts_of c.regs c.scan;
  pen = c.pen;
}

-- n character times. Decision: none at all are allowed and change nothing.
unfoldable pub clock_of : ℕ → Controller → Controller
clock_of n c = iterate step_of n c

-- the controller with another pen
abbrev pub with_pen : Pen → Controller → Controller
with_pen pen c = record { regs = c.regs; scan = c.scan; sync = c.sync; left = c.left; pen = pen }

-- what a strike at a character is: the latch, and whether the character is in the picture (the fact, not the pin)
abbrev pub strike_at : Registers → Scan → Strike
strike_at r s = record { latch = latch_of r s; inside = picture_of r s }

-- a strike at the character that the scan is at
unfoldable pub strike_of : Controller → Controller
strike_of c = with_pen (struck_of c.pen (strike_at c.regs c.scan)) c
