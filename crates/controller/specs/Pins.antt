-- What the chip shows at the character that it is at (document 01, "One character time"; kind 3 of the table of kinds).
use Rattle.std.specs.Prelude.{Bool, ltb}
use Rattle.basics.specs.Choice.{when◌then◌else◌}
use Rattle.raster.specs.Registers.{display_delayed_of, cursor_delayed_of}
use Rattle.facts.specs.Facts.{picture_of, ma_of, cursor_of}
use Rattle.controller.specs.declared.chip.Controller.{Controller}
use Rattle.controller.specs.declared.pins.Outputs.{Outputs}

-- a pin shows the fact of this character, or, where a bit of R8 delays it, of the character just left, as it was judged then
unfoldable pub pin_of : Bool → Bool → Bool → Bool
pin_of delayed left here = when delayed then left else here

-- all outputs. RA is the line; a sync pin shows that its count has not run out.
unfoldable pub outputs_of : Controller → Outputs
outputs_of c = record {
  ma = ma_of c.regs c.scan;
  ra = c.scan.line;
  picture = picture_of c.regs c.scan;
  display = pin_of (display_delayed_of c.regs) c.left.picture (picture_of c.regs c.scan);
  cursor = pin_of (cursor_delayed_of c.regs) c.left.cursor (cursor_of c.regs c.scan);
  hsync = ltb 0 c.sync.hsync;
  vsync = ltb 0 c.sync.vsync;
}
