-- Where the scan can be in its frame, and where it is at each character time after a reset, while no register is written (demand 3;
-- document 01, "One character time", worked out).
use Rattle.std.specs.Prelude.{ℕ, ◌+◌, ◌*◌, ◌-◌, ◌/◌, ◌%◌, ◌<◌, ◌≤◌, ◌≡◌, Bool, true, false, ltb}
use Rattle.basics.specs.Choice.{when◌then◌else◌}
use Rattle.raster.specs.Registers.{reg, start_of, row_base_of}
use Rattle.raster.specs.declared.registers.Registers.{Registers}
use Rattle.raster.specs.declared.scan.Scan.{Scan}

-- the lines of a frame's rows
abbrev pub row_lines : Registers → ℕ
row_lines r = (reg r 4 + 1) * (reg r 9 + 1)

-- the character times of a frame: those rows, and the adjust lines behind them
abbrev pub frame_times : Registers → ℕ
frame_times r = (reg r 0 + 1) * (row_lines r + reg r 5)

-- on the lines of the rows: line and row within the frame, and the row's own base; on the adjust lines: fewer than R5 of them, with the
-- row and the base that would follow the last row's
abbrev pub Region : Registers → (line row base : ℕ) → Bool → Type 0
Region r line row base false = (line ≤ reg r 9) × (row ≤ reg r 4) × (base ≡ row_base_of r row)
Region r line row base true = (line < reg r 5) × (row ≡ (reg r 4 + 1) % 128) × (base ≡ row_base_of r (reg r 4 + 1))

-- a place that the scan can be at while the registers stand as they are
pub record Placed (r : Registers) (s : Scan) : Type 0 where
  pub column : s.column ≤ reg r 0
  pub start : s.start ≡ start_of r
  pub region : Region r s.line s.row s.base s.adjusting

-- the place at a column of a line, the frame's lines being counted from 0: R9+1 lines to a row, and then the adjust lines
unfoldable pub scan_on : Registers → (line column field : ℕ) → Scan
scan_on r line column field =
    when ltb line (row_lines r) then record {
      column = column;
      line = line % (reg r 9 + 1);
      row = line / (reg r 9 + 1);
      base = row_base_of r (line / (reg r 9 + 1));
      start = start_of r;
      field = field;
      adjusting = false;
    }
    else record {
      column = column;
      line = line - row_lines r;
      row = (reg r 4 + 1) % 128;
      base = row_base_of r (reg r 4 + 1);
      start = start_of r;
      field = field;
      adjusting = true;
    }

-- where the scan is t character times after a reset: R0+1 of them to a line, and the frames that have passed counted by the field
unfoldable pub scan_at : Registers → ℕ → Scan
scan_at r t = scan_on r (t % frame_times r / (reg r 0 + 1)) (t % frame_times r % (reg r 0 + 1)) (t / frame_times r % 32)
