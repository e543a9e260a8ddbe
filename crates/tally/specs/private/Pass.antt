-- What the pass over the character times carries, and what a turn of it does (document 02, W1). That a turn is a character time of the
-- controller, with what is shown at it counted in, is proved in proofs/Passing.antt.
use Rattle.std.specs.Prelude.{ℕ, ◌+◌, max, Bool, ltb}
use Rattle.basics.specs.Bits.{num}
use Rattle.raster.specs.Registers.{display_delayed_of, cursor_delayed_of}
use Rattle.raster.specs.Scan.{next_of}
use Rattle.raster.specs.Sync.{arrive_of}
use Rattle.raster.specs.declared.registers.Registers.{Registers}
use Rattle.raster.specs.declared.sync.Sync.{Sync}
use Rattle.facts.specs.Facts.{ma_of, facts_of}
use Rattle.facts.specs.declared.facts.Facts.{Facts}
use Rattle.controller.specs.Pins.{pin_of}
use Rattle.controller.specs.declared.chip.Controller.{Controller}
use Rattle.tally.specs.Tally.{changed_of}
use Rattle.tally.specs.declared.tally.Tally.{Tally}
use Rattle.tally.specs.declared.pass.Pass.{Pass}

-- one character time more
unfoldable pub with_of : Tally → Bool → Facts → Sync → ℕ → Tally
with_of k picture pins sync lines = record {
  picture = k.picture + num picture;
  display = k.display + num pins.picture;
  cursor = k.cursor + num pins.cursor;
  hsync = k.hsync + num (ltb 0 sync.hsync);
  vsync = k.vsync + num (ltb 0 sync.vsync);
  changed = k.changed + lines;
  most = max k.most lines;
}

-- the two pins that can come late
unfoldable pub pins_of : Registers → Facts → Facts → Facts
pins_of r left here = record {
  picture = pin_of (display_delayed_of r) left.picture here.picture;
  cursor = pin_of (cursor_delayed_of r) left.cursor here.cursor;
}

-- what is carried of a controller, with what is counted so far
abbrev pub pass_of : Controller → Tally → Pass
pass_of c k = record { scan = c.scan; sync = c.sync; left = c.left; tally = k }

-- a turn: the character that is left is counted, and the scan and the syncs go on to the next
unfoldable pub turn_of : Registers → Pass → Pass
turn_of r p = record {
  scan = next_of r p.scan;
  sync = arrive_of r (next_of r p.scan) p.sync;
  left = facts_of r p.scan;
  tally =
      with_of p.tally (facts_of r p.scan).picture (pins_of r p.left (facts_of r p.scan)) p.sync
      (changed_of (ma_of r p.scan) (ma_of r (next_of r p.scan)));
}
