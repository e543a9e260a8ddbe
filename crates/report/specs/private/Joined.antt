-- Totals with one row more (document 02, W1).
use Rattle.std.specs.Prelude.{◌+◌, max}
use Rattle.tally.specs.declared.tally.Tally.{Tally}

-- the sums, and the greater of the two largest changes
unfoldable pub joined_of : Tally → Tally → Tally
joined_of total one = record {
  picture = total.picture + one.picture;
  display = total.display + one.display;
  cursor = total.cursor + one.cursor;
  hsync = total.hsync + one.hsync;
  vsync = total.vsync + one.vsync;
  changed = total.changed + one.changed;
  most = max total.most one.most;
}
