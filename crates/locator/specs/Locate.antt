-- The locator's answer (document 01, "The locator" and the table of refusals).
use Rattle.std.specs.Prelude.{ℕ, Result, Ok, Err}
use Rattle.basics.specs.Choice.{when◌then◌else◌}
use Rattle.raster.specs.declared.registers.Registers.{Registers}
use Rattle.pen.specs.Pen.{holds_of, newest_of}
use Rattle.pen.specs.declared.pen.Strike.{Strike}
use Rattle.controller.specs.declared.chip.Controller.{Controller}
use Rattle.locator.specs.Cells.{cell_at, fit_of}
use Rattle.locator.specs.declared.cells.Cell.{Cell}
use Rattle.locator.specs.declared.fit.Fit.{Fit}
use Rattle.locator.specs.declared.fit.Fit.TheVariants.{Free, One, Many}
use Rattle.locator.specs.declared.answer.Unlocated.{Unlocated}
use Rattle.locator.specs.declared.answer.Unlocated.TheVariants.{Unstruck, Outside, Nowhere, Several}

-- the numbers of the refusals in their table: 5 no strike since the reset, 6 the strike was outside the picture, 7 no cell fits, 8 two or
-- more fit
abbrev pub number_of : Unlocated → ℕ
number_of Unstruck = 5
number_of Outside = 6
number_of Nowhere = 7
number_of Several = 8

-- the number of an answer: 0 where it names a cell, and else its refusal's
abbrev pub refusal_of : Result Cell Unlocated → ℕ
refusal_of (Ok c) = 0
refusal_of (Err why) = number_of why

-- the cell that an answer names; row and column 0 where it names none
abbrev pub cell_of : Result Cell Unlocated → Cell
cell_of (Ok c) = c
cell_of (Err why) = cell_at 0 0

-- the answer by the cells that fit
unfoldable pub named_of : Fit → Result Cell Unlocated
named_of Free = Err Nowhere
named_of (One c) = Ok c
named_of Many = Err Several

-- where a strike was, by the registers: outside the picture, or in the one cell that fits its latch
unfoldable pub strike_found_of : Registers → Strike → Result Cell Unlocated
strike_found_of r strike = when strike.inside then named_of (fit_of r strike.latch) else Err Outside

-- where the newest strike was. Asked in the order of the refusals 5, 6, 7, 8; of the controller nothing but registers and pen is asked.
unfoldable pub locate_of : Controller → Result Cell Unlocated
locate_of c = when holds_of c.pen then strike_found_of c.regs (newest_of c.pen) else Err Unstruck
