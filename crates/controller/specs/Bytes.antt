-- A character time as four bytes (document 01, kind 3 of "Records and what comes back").
use Rattle.std.specs.Prelude.{ℕ, ◌+◌, ◌*◌, List, [], ◌∷◌}
use Rattle.basics.specs.Bits.{num, high_of, low_of}
use Rattle.controller.specs.declared.pins.Outputs.{Outputs}

-- the flags, each a bit: the picture fact the lowest, then the pins of display enable, cursor, HSYNC and VSYNC
unfoldable pub flags_of : Outputs → ℕ
flags_of o = num o.picture * 1 + num o.display * 2 + num o.cursor * 4 + num o.hsync * 8 + num o.vsync * 16

-- MA by its two bytes, RA and the flags
unfoldable pub time_bytes_of : Outputs → List ℕ
time_bytes_of o = high_of o.ma ∷ low_of o.ma ∷ o.ra ∷ flags_of o ∷ []
