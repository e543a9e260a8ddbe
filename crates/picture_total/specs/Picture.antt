-- How many of a frame's character times lie in the picture (document 02, W1, the total in closed form), and that they
-- are those of one frame.
use Rattle.std.specs.Prelude.{ℕ, ◌+◌, ◌*◌, ◌<◌, ◌≡◌, true, List, get_or}
use Rattle.raster.specs.Registers.{reg}
use Rattle.raster.specs.declared.registers.Registers.{Registers}
use Rattle.frames.specs.Frames.{begins_at}
use Rattle.frames.specs.Places.{frame_times}
use Rattle.locator.specs.Cells.{columns_of, rows_of}
use Rattle.setting.specs.Setting.{setting_of, started_of}
use Rattle.tally.specs.Tally.{tally_of}
use Rattle.report.specs.Report.{row, setting_at, settings_in, refusal_of, reported_of}

-- columns by rows by lines: a column of the picture is below R1 and at most R0, a row below R6 and at most R4, both as the locator counts
-- its cells, and a row has R9+1 lines
abbrev pub picture_times : Registers → ℕ
picture_times r = columns_of r * rows_of r * (reg r 9 + 1)

-- What is counted of any setting.
pub record Counted (given : List ℕ) : Type 0 where
  -- the picture total
  pub picture : (tally_of (started_of given)).picture ≡ picture_times (setting_of given)
  -- the times counted are one frame: the next one begins right after the last of them, and none before
  pub next : begins_at (setting_of given) (started_of given).scan (frame_times (setting_of given)) ≡ true
  pub only : (t : ℕ) → t < frame_times (setting_of given) → begins_at (setting_of given) (started_of given).scan t ≡ true → ⊥

-- In a report that is given, the first place of each setting's row holds this product.
abbrev pub Reported : List ℕ → List ℕ → Type 0
Reported given out =
    refusal_of given out ≡ 0 → (k : ℕ) → k < settings_in given → get_or (reported_of given out) (row * k) 0 ≡ picture_times (setting_of (setting_at given k))
