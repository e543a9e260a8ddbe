-- Many character times at once (document 01, "One character time"). Along a line nothing moves but the column and the HSYNC count, and
-- from the start of one line to the start of the next of its row nothing but the line and the two counts; each of them is a closed
-- form of how many were passed. How many may be passed is said by what they must not pass, so that any count that keeps to it will do.
use Rattle.std.specs.Prelude.{ℕ, ◌+◌, ◌*◌, ◌-◌, ◌%◌, ◌<◌, ◌≤◌, false, ◌≡◌, eqb, ltb, leb}
use Rattle.basics.specs.Choice.{when◌then◌else◌}
use Rattle.basics.specs.Iterate.{iterate}
use Rattle.raster.specs.Registers.{reg}
use Rattle.raster.specs.declared.registers.Registers.{Registers}
use Rattle.raster.specs.declared.scan.Scan.{Scan}
use Rattle.clocks.specs.declared.place.Place.{Place}
use Rattle.clocks.specs.declared.skip.Skip.{Skip}
use Rattle.clocks.specs.Walk.{stepped_of}

-- k counts of a counter from `at` on: none takes it past its last value `top`, where it would wrap, and none is made at `end`
pub record Clear (top end at k : ℕ) : Type 0 where
  pub below : k ≤ top - at
  pub clear : (j : ℕ) → j < k → at + j ≡ end → ⊥

-- the character times of m lines whose last column is `end`, a column that the counter reaches
pub record LineTimes (end m times : ℕ) : Type 0 where
  pub wide : end ≤ 255
  pub are : times ≡ m * (end + 1)

-- m whole lines: they begin at a line's first column, outside the adjust lines, and none of them is its row's last
pub record Whole (r : Registers) (p : Place) (m : ℕ) : Type 0 where
  pub first : 0 < m → p.scan.column ≡ 0
  pub plain : 0 < m → p.scan.adjusting ≡ false
  pub lines : Clear 31 (reg r 9) p.scan.line m

-- a place further on by some of the character times that remain to be clocked
pub record Reached (r : Registers) (remaining : ℕ) (p : Place) (s : Skip) : Type 0 where
  pub within : s.times ≤ remaining
  pub there : s.place ≡ iterate (stepped_of r) s.times p

-- HSYNC, k columns on within a line. The count is loaded once at most, at column R2; it has fallen once at each column since then, or
-- at all k where R2 is not among those arrived at.
unfoldable pub hsync_columns : Registers → ℕ → ℕ → ℕ → ℕ
hsync_columns r column k count =
    when leb (reg r 2) column then count - k
    else when ltb (column + k) (reg r 2) then count - k
    else reg r 3 % 16 - (column + k - reg r 2)

-- HSYNC, m lines on from a line's first column to another's. Every line loads it anew, so only the last load counts: at R2 of the last
-- line, whose other columns and the arrival at the next line came after it, or at that arrival itself. A line that ends before
-- column R2 never loads it.
unfoldable pub hsync_lines : Registers → ℕ → ℕ → ℕ
hsync_lines r m count =
    when eqb m 0 then count
    else when ltb (reg r 0) (reg r 2) then count - m * (reg r 0 + 1)
    else when eqb (reg r 2) 0 then reg r 3 % 16
    else reg r 3 % 16 - (reg r 0 - reg r 2) - 1

-- the scan at another column
abbrev pub at_column : Scan → ℕ → Scan
at_column s column = record {
  column = column;
  line = s.line;
  row = s.row;
  base = s.base;
  start = s.start;
  field = s.field;
  adjusting = s.adjusting;
}

-- the scan at another line
abbrev pub at_line : Scan → ℕ → Scan
at_line s line = record {
  column = s.column;
  line = line;
  row = s.row;
  base = s.base;
  start = s.start;
  field = s.field;
  adjusting = s.adjusting;
}

-- k columns on. VSYNC is judged at column 0 only, and stays.
unfoldable pub columns_on : Registers → Place → ℕ → Place
columns_on r p k = record {
  scan = at_column p.scan (p.scan.column + k);
  sync = record { hsync = hsync_columns r p.scan.column k p.sync.hsync; vsync = p.sync.vsync };
}

-- m lines on. VSYNC starts on line 0 of a row, which none of the lines arrived at is, so it falls by one a line.
unfoldable pub lines_on : Registers → Place → ℕ → Place
lines_on r p m = record {
  scan = at_line p.scan (p.scan.line + m);
  sync = record { hsync = hsync_lines r m p.sync.hsync; vsync = p.sync.vsync - m };
}
