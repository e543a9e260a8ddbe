-- The pictures of the display modes, computed line by line. Assumes nothing.
use mathlib.Core.Path.{refl}
use Rattle.basics.specs.Count.{count}
use Rattle.basics.specs.Choice.{when◌then◌else◌}
use Rattle.basics.specs.Iterate.{iterate}
use Rattle.display.specs.Counter.{advanced, count_x, count_y, flip_b4, fetch_of}
use Rattle.display.specs.Edges.{fall_of, preload_of, with_b0}
use Rattle.multiplexer.specs.Chip.{fetches_of, levels_of}
use Rattle.multiplexer.specs.Edge.{edge_of, moved_of}
use Rattle.multiplexer.specs.Refresh.{refresh_of}
use Rattle.refresh_and_pictures.specs.Picture.{addresses, after_line, lines, repeated, rows_shown, joined, Pictures}

pub pictures : Pictures
unfolding when◌then◌else◌ iterate advanced count_x count_y flip_b4 fetch_of fall_of preload_of with_b0 fetches_of levels_of edge_of moved_of refresh_of addresses after_line lines count repeated rows_shown joined
pictures =
    record {
      mode-000 = refl;
      mode-001 = refl;
      mode-010 = refl;
      mode-011 = refl;
      mode-100 = refl;
      mode-101 = refl;
      mode-110 = refl;
      mode-111 = refl;
      bytes-110 = refl;
    }
