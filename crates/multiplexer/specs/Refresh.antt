-- Refresh (document 01, "The multiplexer", its last sentences; kind 8 in "Records and what comes back").
use Rattle.std.specs.Prelude.{ℕ, ◌+◌, ◌%◌, Option}
use Rattle.basics.specs.Choice.{when◌then◌else◌}
use Rattle.control.specs.declared.bits.Control.{Control}
use Rattle.control.specs.Names.{r1_of}
use Rattle.multiplexer.specs.Edge.{is_fall}
use Rattle.multiplexer.specs.declared.edge.Edge.{Edge}
use Rattle.multiplexer.specs.declared.refresh.Refresh.{Refresh}

-- Eight rows from the counter on; the counter, of seven bits, moves past them and wraps.
-- Decision: a counter past seven bits, which no records lead to, is told as it stands.
abbrev pub eight_from : ℕ → Refresh
eight_from counter = record { rows = record { first = counter; count = 8 }; counter = (counter + 8) % 128 }

-- no refresh: 0 and 0 are told, and the counter stays
abbrev pub idle_at : ℕ → Refresh
idle_at counter = record { rows = record { first = 0; count = 0 }; counter = counter }

-- With R1 clear a fall of HS refreshes eight rows from the counter on and counts eight. Any other level, and any with R1 set, refreshes
-- nothing.
unfoldable pub refresh_of : Control → Option Edge → ℕ → Refresh
refresh_of c edge counter =
    when r1_of c then idle_at counter
    else when is_fall edge then eight_from counter
    else idle_at counter
