use lib.ListN.{take}
use Rattle.basics.specs.Lay.{Writes}
use Rattle.text.specs.Hex.{hex_of}
use Rattle.text.proofs.hex.lay_hex.Given as goal

abbrev pub invariant-loop-byte : goal.invariant-loop-byte
invariant-loop-byte l = Writes l.initial.dst l.dst l.at l.q (hex_of (take l.byte-index l.src))
