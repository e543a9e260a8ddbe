-- The whole multiplexer, one definition for each of its records (document 01, "The multiplexer"; kinds 5 to 8 in "Records and what comes
-- back").
use Rattle.std.specs.Prelude.{ℕ, Bool, true, not, Option}
use Rattle.control.specs.declared.bits.Control.{Control}
use Rattle.control.specs.Names.{clear_of, mode_of, r1_of}
use Rattle.control.specs.Write.{after_of}
use Rattle.display.specs.declared.counter.Display.{Display}
use Rattle.display.specs.Modes.{mode_at}
use Rattle.display.specs.Counter as counter
use Rattle.display.specs.Edges.{with_b0}
use Rattle.multiplexer.specs.Cells.{side_of, cell_of}
use Rattle.multiplexer.specs.Bus.{cycle_of}
use Rattle.multiplexer.specs.Edge.{edge_of, moved_of}
use Rattle.multiplexer.specs.Refresh.{refresh_of}
use Rattle.multiplexer.specs.declared.bus.Cycle.{Cycle}
use Rattle.multiplexer.specs.declared.edge.Edge.{Edge}
use Rattle.multiplexer.specs.declared.chip.Multiplexer.{Multiplexer}
use Rattle.multiplexer.specs.declared.chip.Bused.{Bused}
use Rattle.multiplexer.specs.declared.chip.Shown.{Shown}
use Rattle.multiplexer.specs.declared.chip.Levelled.{Levelled}

-- As it starts, and after its reset: control bits, display address, dividers and refresh counter 0, HS high.
abbrev pub fresh_of : Multiplexer
fresh_of = record { control = clear_of; display = counter.start_of; refresh = 0; hs = true }

-- the multiplexer with other control bits
abbrev pub with_control : Control → Multiplexer → Multiplexer
with_control c m = record { control = c; display = m.display; refresh = m.refresh; hs = m.hs }

-- with another display counter
abbrev pub with_display : Display → Multiplexer → Multiplexer
with_display d m = record { control = m.control; display = d; refresh = m.refresh; hs = m.hs }

-- a multiplexer and what its bus cycle showed
abbrev pub bused : Multiplexer → Cycle → Bused
bused m y = record { multiplexer = m; cycle = y }

-- Kind 6. The cycle is judged with the control bits from before it; its own write counts only for the next.
unfoldable pub bus_of : Multiplexer → ℕ → Bool → Bused
bus_of m a read = bused (with_control (after_of m.control a read) m) (cycle_of m.control a read)

-- Kind 7. n fetches under the mode in force. They count also while R1 keeps the display from the memory.
unfoldable pub fetches_of : Multiplexer → ℕ → Multiplexer
fetches_of m n = with_display (counter.fetches_of (mode_at (mode_of m.control)) n m.display) m

-- Kind 7's answer: the display address, its cell (the address goes to the memory as it is, without P), and access, which R1 takes away.
unfoldable pub shown_of : Multiplexer → Shown
shown_of m =
    record {
      address = m.display.b;
      cell = cell_of (side_of m.control) m.display.b;
      access = not (r1_of m.control);
    }

-- what the levels do, given the edge that they make
abbrev pub levelled_by : Option Edge → Multiplexer → Bool → Bool → Levelled
levelled_by edge m hs da0 =
    record {
      multiplexer =
          record {
            control = m.control;
            display = with_b0 da0 (moved_of m.control edge m.display);
            refresh = (refresh_of m.control edge m.refresh).counter;
            hs = hs;
          };
      edge = edge;
      rows = (refresh_of m.control edge m.refresh).rows;
    }

-- Kind 8. First the edge does its work, then B0 takes the level of DA0, edge or not; HS keeps its new level.
unfoldable pub levels_of : Multiplexer → Bool → Bool → Levelled
levels_of m hs da0 = levelled_by (edge_of m.hs hs da0) m hs da0
