-- The table of settled cases, computed row by row. Assumes nothing.
use Prim.Native.Nat.{ℕ}
use mathlib.Core.Path.{◌≡◌, refl}
use mathlib.Core.List.{[], map}
use lib.ListN.{get_or}
use Rattle.basics.specs.Choice.{when◌then◌else◌}
use Rattle.basics.specs.Count.{count}
use Rattle.basics.specs.Iterate.{iterate}
use Rattle.basics.proofs.Alike.{◌then◌}
use Rattle.raster.specs.Scan.{line_end_of, move_of, moved_of, next_of}
use Rattle.raster.specs.Sync.{hsync_of, vsync_starts_of, vsync_width_of, vsync_of, arrive_of}
use Rattle.facts.specs.Facts.{picture_of, address_of, ma_of, latch_of, blink_of, cursor_line_of, cursor_of, facts_of}
use Rattle.controller.specs.Chip.{arrived_of, fresh_of, reset_of, write_of, step_of, clock_of, strike_of}
use Rattle.controller.specs.Writes.{addressed_of, stored_of, written_of}
use Rattle.pen.specs.Pen.{no_pen, struck_of, holds_of, newest_of}
use Rattle.controller.specs.Pins.{pin_of, outputs_of}
use Rattle.frames.specs.Calls.{after_call, after_calls}
use Rattle.frames.proofs.Frames.{frames}
use Rattle.frames.proofs.Reached.{reached-within}
use Rattle.locator.specs.Cells.{cells_from, cell_latch_of, any_of, fits_of, keep, the_fit, fit_of}
use Rattle.locator.specs.Locate.{named_of, strike_found_of, locate_of}
use Rattle.settled.specs.Cases as cases
use Rattle.settled.specs.Cases.{writes_of, reached_of, looked_of, seen_of, cases, settled, Settled}

-- one row of the table, its case against what was settled. Each of a to j is shown by itself, since h, i and j go over 16,000 cells each;
-- k to z are small, and shown together.
abbrev Row : ℕ → Type 0
Row k = seen_of (get_or cases k []) ≡ get_or settled k []

shown : map seen_of cases ≡ settled
unfolding when◌then◌else◌ iterate line_end_of move_of moved_of next_of hsync_of vsync_starts_of vsync_width_of vsync_of arrive_of picture_of address_of ma_of latch_of blink_of cursor_line_of cursor_of facts_of arrived_of fresh_of reset_of write_of step_of clock_of strike_of addressed_of stored_of written_of pin_of outputs_of after_call after_calls count cells_from cell_latch_of any_of fits_of keep the_fit fit_of named_of strike_found_of locate_of no_pen struck_of holds_of newest_of cases.written_of reached_of looked_of seen_of
shown = a then b then c then d then e then f then g then h then i then j then refl
  where
    a : Row 0
    a = refl

    b : Row 1
    b = refl

    c : Row 2
    c = refl

    d : Row 3
    d = refl

    e : Row 4
    e = refl

    f : Row 5
    f = refl

    g : Row 6
    g = refl

    h : Row 7
    h = refl

    i : Row 8
    i = refl

    j : Row 9
    j = refl

pub table : Settled
unfolding cases.written_of
table = record { table = shown; frames = λ k. frames (cases.written_of k) (reached-within (writes_of k)).regs }
