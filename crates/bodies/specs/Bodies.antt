-- The body bytes of the multiplexer's answers and of the locator's (document 01, "Records and what comes back", the paragraph under the
-- table of kinds). Those of the controller's answers stand in the crate `alone`.
use Rattle.std.specs.Prelude.{ℕ, List, [], ◌∷◌, Result}
use Rattle.basics.specs.Bits.{num, high_of, low_of}
use Rattle.answer.specs.Answer.{answered_of}
use Rattle.answer.specs.declared.Answer.{Answer}
use Rattle.locator.specs.Locate.{refusal_of, cell_of}
use Rattle.locator.specs.declared.cells.Cell.{Cell}
use Rattle.locator.specs.declared.answer.Unlocated.{Unlocated}
use Rattle.multiplexer.specs.declared.chip.Shown.{Shown}
use Rattle.bodies.specs.declared.told.ToldCycle.{ToldCycle}
use Rattle.bodies.specs.declared.told.ToldLevels.{ToldLevels}

-- kind 6: select, ticks, flags and the cell
unfoldable pub bus_body_of : ToldCycle → List ℕ
bus_body_of c = c.select ∷ c.ticks ∷ c.flags ∷ c.cell.bank ∷ c.cell.row ∷ c.cell.column ∷ []

-- kind 7: the display address by its two bytes, its cell, and whether the display has access to the RAM
unfoldable pub shown_body_of : Shown → List ℕ
shown_body_of s = high_of s.address ∷ low_of s.address ∷ s.cell.bank ∷ s.cell.row ∷ s.cell.column ∷ num s.access ∷ []

-- kind 8: the edge, the first row refreshed and how many
unfoldable pub levels_body_of : ToldLevels → List ℕ
levels_body_of l = l.edge ∷ l.first ∷ l.count ∷ []

-- kind 9: row and column of the cell; zero where there is none
unfoldable pub located_body_of : Result Cell Unlocated → List ℕ
located_body_of l = (cell_of l).row ∷ (cell_of l).column ∷ []

-- kind 9's answer has the locator's refusal
abbrev pub located_answer_of : ℕ → Result Cell Unlocated → Answer
located_answer_of kind l = answered_of kind (refusal_of l) (located_body_of l)
