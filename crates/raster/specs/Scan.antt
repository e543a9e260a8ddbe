-- Where the scan is, and how one character time moves it (document 01, "One character time"). Every counter wraps at its width, and
-- every end is found by equality: a counter that has passed its end runs on until it wraps.
use Rattle.std.specs.Prelude.{ℕ, Bool, true, false, ◌==◌, nat_eq}
use Rattle.basics.specs.Choice.{when◌then◌else◌}
use Rattle.basics.specs.Width.{counted_of}
use Rattle.basics.specs.declared.width.Width.TheVariants.{Five, Seven, Eight, Fourteen}
use Rattle.raster.specs.Registers.{reg, start_of}
use Rattle.raster.specs.declared.registers.Registers.{Registers}
use Rattle.raster.specs.declared.scan.Scan.{Scan}

-- What a character time does: a column along, a line down, on to the next row, on to the adjust lines, or a new frame.
pub data Move : Type 0 where
  along : Move
  down : Move
  next_row : Move
  to_adjust : Move
  new_frame : Move

-- which of these it is, at the end of a line. The adjust lines end the frame when one more line would make R5 of them; without
-- adjust lines (R5 zero) the last line of row R4 ends it.
unfoldable pub line_end_of : Registers → Scan → Move
line_end_of r s =
    when s.adjusting then (when nat_eq (counted_of Five s.line 1) (reg r 5) then new_frame else down)
    else (when nat_eq s.line (reg r 9) then
    (when nat_eq s.row (reg r 4) then (when nat_eq (reg r 5) 0 then new_frame else to_adjust) else next_row)
    else down)

-- and anywhere: a line ends at the column that equals R0
unfoldable pub move_of : Registers → Scan → Move
move_of r s = when s.column == reg r 0 then line_end_of r s else along

-- the top of a frame: its first character, the start address sampled and the base set to it
abbrev pub top_of : Registers → ℕ → Scan
top_of r field = record {
  column = 0;
  line = 0;
  row = 0;
  base = start_of r;
  start = start_of r;
  field = field;
  adjusting = false;
}

-- one column on
abbrev pub along_of : Scan → Scan
along_of s = record {
  column = counted_of Eight s.column 1;
  line = s.line;
  row = s.row;
  base = s.base;
  start = s.start;
  field = s.field;
  adjusting = s.adjusting;
}

-- the first column of the next line
abbrev pub down_of : Scan → Scan
down_of s = record {
  column = 0;
  line = counted_of Five s.line 1;
  row = s.row;
  base = s.base;
  start = s.start;
  field = s.field;
  adjusting = s.adjusting;
}

-- the first line of the next row, or of the adjust lines; the base moves on by R1
abbrev pub row_of : Registers → Scan → Bool → Scan
row_of r s adjusting = record {
  column = 0;
  line = 0;
  row = counted_of Seven s.row 1;
  base = counted_of Fourteen s.base (reg r 1);
  start = s.start;
  field = s.field;
  adjusting = adjusting;
}

-- the first character of the frame after this one, whose field it counts
abbrev pub new_frame_of : Registers → Scan → Scan
new_frame_of r s = top_of r (counted_of Five s.field 1)

-- the place that a move leads to
unfoldable pub moved_of : Registers → Scan → Move → Scan
moved_of r s along = along_of s
moved_of r s down = down_of s
moved_of r s next_row = row_of r s false
moved_of r s to_adjust = row_of r s true
moved_of r s new_frame = new_frame_of r s

-- one character time
unfoldable pub next_of : Registers → Scan → Scan
next_of r s = moved_of r s (move_of r s)
