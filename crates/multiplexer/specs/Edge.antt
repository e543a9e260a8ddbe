-- The edges of HS (kind 8 in document 01's "Records and what comes back"; "The multiplexer", what an edge does to the display address).
use Rattle.std.specs.Prelude.{ℕ, Bool, true, false, Option, Some, None}
use Rattle.basics.specs.Choice.{when◌then◌else◌}
use Rattle.control.specs.declared.bits.Control.{Control}
use Rattle.control.specs.Names.{mode_of, f_of}
use Rattle.display.specs.declared.counter.Display.{Display}
use Rattle.display.specs.Modes.{mode_at}
use Rattle.display.specs.Edges.{fall_of, preload_of}
use Rattle.multiplexer.specs.declared.edge.Edge.{Edge}
use Rattle.multiplexer.specs.declared.edge.Edge.TheVariants.{Fall, Rise, Preload}

-- The number by which an answer tells an edge. 1: HS fell. 2: HS rose, DA0 low. 3: HS rose, DA0 high
abbrev pub edge_number : Edge → ℕ
edge_number Fall = 1
edge_number Rise = 2
edge_number Preload = 3

-- and 0 where HS kept its level
abbrev pub told_edge_of : Option Edge → ℕ
told_edge_of None = 0
told_edge_of (Some e) = edge_number e

-- whether HS fell
abbrev pub is_fall : Option Edge → Bool
is_fall None = false
is_fall (Some Fall) = true
is_fall (Some Rise) = false
is_fall (Some Preload) = false

-- The edge between the level that HS had and its new one. A rise is one with preload when DA0 is high.
unfoldable pub edge_of : Bool → Bool → Bool → Option Edge
edge_of was hs da0 =
    when was then (when hs then None else Some Fall) else when hs then (when da0 then Some Preload else Some Rise) else None

-- The display counter after an edge, before B0 is put: a fall clears by the mode in force, a preload starts the picture again at F.
-- Decision: an edge moves the counter with R1 set too; R1 takes away access and refresh, and nothing else.
unfoldable pub moved_of : Control → Option Edge → Display → Display
moved_of c None d = d
moved_of c (Some Fall) d = fall_of (mode_at (mode_of c)) d
moved_of c (Some Rise) d = d
moved_of c (Some Preload) d = preload_of (f_of c) d
