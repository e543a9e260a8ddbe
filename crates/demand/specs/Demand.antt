-- Demand 3, whole, of the real controller's calls: a reset, then character clocks, reads and pen strikes in any order, then a locate. No
-- register is written in between (document 01, "One character time", "The locator" and the table of refusals, and request W5).
use Rattle.std.specs.Prelude.{◌+◌, ◌≤◌, ◌≡◌, true, false, List, ◌∷◌, ◌++◌, map, ◌⊎◌, Result}
use Rattle.facts.specs.Facts.{picture_of, latch_of}
use Rattle.raster.specs.Registers.{reg}
use Rattle.raster.specs.declared.registers.Registers.{Registers}
use Rattle.raster.specs.declared.scan.Scan.{Scan}
use Rattle.controller.specs.Chip.{fresh_of, reset_of}
use Rattle.frames.specs.Calls.{Call, after_calls, Wait, Act, waits, strikes, after_acts}
use Rattle.frames.specs.Frames.{Frames}
use Rattle.controller.specs.declared.chip.Controller.{Controller}
use Rattle.locator.specs.Cells.{IsCell, cell_at, cell_address_of, fits_of}
use Rattle.locator.specs.Locate.{refusal_of, cell_of, locate_of}
use Rattle.locator.specs.declared.cells.Cell.{Cell}
use Rattle.locator.specs.declared.answer.Unlocated.{Unlocated}

-- the scan where a strike falls: after a reset and what came before the strike
abbrev pub struck_at : Controller → List Act → Scan
struck_at c before = (after_acts before (reset_of c)).scan

-- the locator's answer when that strike was the last, with clocks and reads only after it
abbrev pub answer_to : Controller → List Act → List Wait → Result Cell Unlocated
answer_to c before more = locate_of (after_acts (before ++ strikes ∷ map waits more) (reset_of c))

-- another picture cell fits the latch of a strike at s: struck on one of its lines, it would leave the same
pub record Rival (c : Controller) (s : Scan) (d : Cell) : Type 0 where
  pub cell : IsCell c.regs d
  pub fits : fits_of c.regs (latch_of c.regs s) d ≡ true
  pub other : d ≡ cell_at s.row s.column → ⊥

-- no two cells of the picture have one address
abbrev pub OneCellEach : Registers → Type 0
OneCellEach r = (c d : Cell) → IsCell r c → IsCell r d → cell_address_of r c ≡ cell_address_of r d → c ≡ d

-- the demand, sentence by sentence. Refusals stand by their numbers, and a located strike by its cell.
pub record Demand3 (c : Controller) : Type 0 where
  -- the first new frame begins after exactly (R0+1) x ((R4+1) x (R9+1) + R5) character times, each later one after as many again,
  -- whatever pens fire (the parts of Frames say so one by one)
  pub frames : Frames c
  -- what is done holds no strike at all, or a last one that only clocks and reads follow
  pub last-strike : (l : List Act)
      → ((more : List Wait) × (l ≡ map waits more)) ⊎ ((before : List Act) × (more : List Wait) × (l ≡ before ++ strikes ∷ map waits more))
  -- no strike since the reset: refused with 5
  pub unstruck : (more : List Wait) → refusal_of (locate_of (after_acts (map waits more) (reset_of c))) ≡ 5
  -- the last strike fell in the picture, and no other picture cell would leave its latch: that very row and column
  pub named : (before : List Act) (more : List Wait)
      → picture_of c.regs (struck_at c before) ≡ true
      → ((d : Cell) → Rival c (struck_at c before) d → ⊥)
      → (refusal_of (answer_to c before more) ≡ 0)
      × (cell_of (answer_to c before more) ≡ cell_at (struck_at c before).row (struck_at c before).column)
  -- it fell in the picture, and another picture cell would: refused with 8
  pub shared : (before : List Act) (more : List Wait)
      → picture_of c.regs (struck_at c before) ≡ true
      → (d : Cell) → Rival c (struck_at c before) d
      → refusal_of (answer_to c before more) ≡ 8
  -- it fell in the picture: its own cell fits, so it is never refused with 7
  pub fitting : (before : List Act) (more : List Wait)
      → picture_of c.regs (struck_at c before) ≡ true
      → (refusal_of (answer_to c before more) ≡ 7 → ⊥)
  -- it fell in the picture, R1 is at most R0 - 1, and no two cells have one address: never refused with 8 (request W5)
  pub unshared : reg c.regs 1 + 1 ≤ reg c.regs 0 → OneCellEach c.regs
      → (before : List Act) (more : List Wait)
      → picture_of c.regs (struck_at c before) ≡ true
      → (refusal_of (answer_to c before more) ≡ 8 → ⊥)
  -- it fell outside the picture: refused with 6, though a cell may fit what it latched
  pub outside : (before : List Act) (more : List Wait)
      → picture_of c.regs (struck_at c before) ≡ false
      → refusal_of (answer_to c before more) ≡ 6

-- it holds of every controller that calls can reach from power-on, whatever was written to its registers
abbrev pub Demand3Reached : Type 0
Demand3Reached = (l : List Call) → Demand3 (after_calls l fresh_of)
