-- Scan and sync counts moved by n character times, the registers standing still beside them (document 01, "One character time", and
-- kind 3 of the table of kinds).
use Rattle.std.specs.Prelude.{ℕ, zero, suc}
use Rattle.basics.specs.Iterate.{iterate}
use Rattle.raster.specs.Scan.{next_of}
use Rattle.raster.specs.Sync.{arrive_of}
use Rattle.raster.specs.declared.registers.Registers.{Registers}
use Rattle.clocks.specs.declared.place.Place.{Place}
use Rattle.clocks.specs.declared.place.Walk.{Walk}

-- one character time: the next place of the scan, and the sync counts as its arrival there leaves them
unfoldable pub stepped_of : Registers → Place → Place
stepped_of r p = record { scan = next_of r p.scan; sync = arrive_of r (next_of r p.scan) p.sync }

-- no time: the place itself, left from nowhere else
abbrev pub still_of : Place → Walk
still_of p = record { place = p; from = p.scan }

-- one character time on from p, with the character that it left
abbrev pub on_from : Registers → Place → Walk
on_from r p = record { place = stepped_of r p; from = p.scan }

-- n character times, with the character that the last of them left
unfoldable pub walk_of : Registers → ℕ → Place → Walk
walk_of r zero p = still_of p
walk_of r (suc n) p = on_from r (iterate (stepped_of r) n p)
