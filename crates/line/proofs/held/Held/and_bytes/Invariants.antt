use mathlib.Core.Path.{◌≡◌}
use mathlib.Core.List.{◌++◌}
use lib.ListN.{take}
use Rattle.line.specs.Held.{held_of, holding_of}
use Rattle.line.proofs.held.Held.and_bytes.Given as goal

abbrev pub invariant-loop-byte : goal.invariant-loop-byte
invariant-loop-byte l = l.held ≡ holding_of (held_of l.initial.held ++ take l.byte-index l.bytes)
