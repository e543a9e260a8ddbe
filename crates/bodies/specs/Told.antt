-- What the answers of kinds 6 and 8 tell, of what the multiplexer shows (document 01, "Records and what comes back").
use Rattle.multiplexer.specs.Bus.{flags_of, told_cell_of}
use Rattle.multiplexer.specs.Edge.{told_edge_of}
use Rattle.multiplexer.specs.declared.bus.Cycle.{Cycle}
use Rattle.multiplexer.specs.declared.chip.Levelled.{Levelled}
use Rattle.bodies.specs.declared.told.ToldCycle.{ToldCycle}
use Rattle.bodies.specs.declared.told.ToldLevels.{ToldLevels}

-- of a bus cycle: select and ticks, its flags as one number, and its cell, zero where it is not for RAM
abbrev pub told_cycle_of : Cycle → ToldCycle
told_cycle_of c = record { select = c.select; ticks = c.ticks; flags = flags_of c; cell = told_cell_of c }

-- of the levels: the edge by its number, the first row refreshed and how many
abbrev pub told_levels_of : Levelled → ToldLevels
told_levels_of l = record { edge = told_edge_of l.edge; first = l.rows.first; count = l.rows.count }
