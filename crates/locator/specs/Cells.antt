-- The picture's cells, and which of them a latch fits (document 01, "The locator", and request W5). Cells are a list, row by row, and so
-- are a cell's lines; nothing here searches.
use Rattle.std.specs.Prelude.{ℕ, zero, suc, ◌+◌, ◌<◌, ◌≤◌, min, Bool, false, ◌||◌, List, [], ◌∷◌, ◌++◌, map, nat_eq}
use Rattle.basics.specs.Choice.{when◌then◌else◌}
use Rattle.basics.specs.Count.{count}
use Rattle.raster.specs.Registers.{reg, start_of, row_base_of}
use Rattle.raster.specs.declared.registers.Registers.{Registers}
use Rattle.raster.specs.declared.scan.Scan.{Scan}
use Rattle.facts.specs.Facts.{ma_of, latch_of}
use Rattle.locator.specs.declared.cells.Cell.{Cell}
use Rattle.locator.specs.declared.fit.Fit.{Fit}
use Rattle.locator.specs.declared.fit.Fit.TheVariants.{Free, One, Many}

-- a cell of the picture: its row below R6 and at most R4, its column below R1 and at most R0
pub record IsCell (r : Registers) (c : Cell) : Type 0 where
  pub row< : c.row < reg r 6
  pub row≤ : c.row ≤ reg r 4
  pub column< : c.column < reg r 1
  pub column≤ : c.column ≤ reg r 0

-- so there are this many columns
abbrev pub columns_of : Registers → ℕ
columns_of r = min (reg r 1) (reg r 0 + 1)

-- and this many rows
abbrev pub rows_of : Registers → ℕ
rows_of r = min (reg r 6) (reg r 4 + 1)

-- the cell at a row and a column
abbrev pub cell_at : ℕ → ℕ → Cell
cell_at row column = record { row = row; column = column }

-- the cells of one row, from its first column on
abbrev pub row_cells : Registers → ℕ → List Cell
row_cells r row = map (cell_at row) (count 0 (columns_of r))

-- the cells of n rows from a row on
unfoldable pub cells_from : Registers → ℕ → ℕ → List Cell
cells_from r row zero = []
cells_from r row (suc n) = row_cells r row ++ cells_from r (suc row) n

-- the cells of the whole picture
abbrev pub cells_of : Registers → List Cell
cells_of r = cells_from r 0 (rows_of r)

-- the place of the scan in the cell, on one of its lines, by the registers as they stand and not as a frame sampled them; of the field, on
-- which no latch depends, the first
abbrev pub cell_scan_of : Registers → Cell → ℕ → Scan
cell_scan_of r c line = record {
  column = c.column;
  line = line;
  row = c.row;
  base = row_base_of r c.row;
  start = start_of r;
  field = 0;
  adjusting = false;
}

-- the address of the cell: MA there, on its first line as on all
unfoldable pub cell_address_of : Registers → Cell → ℕ
cell_address_of r c = ma_of r (cell_scan_of r c 0)

-- the latch that a strike in the cell leaves, on one of its lines: by the rule of every strike
unfoldable pub cell_latch_of : Registers → Cell → ℕ → ℕ
cell_latch_of r c line = latch_of r (cell_scan_of r c line)

-- the lines of a row, 0 to R9
abbrev pub lines_of : Registers → List ℕ
lines_of r = count 0 (reg r 9 + 1)

-- whether one of a list passes a test
unfoldable pub any_of : {A : Type 0} → (A → Bool) → List A → Bool
any_of f [] = false
any_of f (a ∷ l) = f a || any_of f l

-- whether a cell fits a latch: one of its lines is such that a strike there would leave it
unfoldable pub fits_of : Registers → ℕ → Cell → Bool
fits_of r latch c = any_of (λ (line : ℕ). nat_eq (cell_latch_of r c line) latch) (lines_of r)

-- the elements of a list that pass a test
unfoldable pub keep : {A : Type 0} → (A → Bool) → List A → List A
keep f [] = []
keep f (a ∷ l) = when f a then a ∷ keep f l else keep f l

-- of a list of cells: none, just one, or more
unfoldable pub the_fit : List Cell → Fit
the_fit [] = Free
the_fit (c ∷ []) = One c
the_fit (c ∷ d ∷ l) = Many

-- which of the picture's cells fit a latch
unfoldable pub fit_of : Registers → ℕ → Fit
fit_of r latch = the_fit (keep (fits_of r latch) (cells_of r))
