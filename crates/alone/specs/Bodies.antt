-- The body bytes of the controller's answers (document 01, "Records and what comes back", the paragraph under the table of kinds). Those
-- of kind 3 are a character time's four bytes, which the crate `controller` has; kinds 1 and 5 name none.
use Rattle.std.specs.Prelude.{ℕ, List, [], ◌∷◌}
use Rattle.basics.specs.Bits.{num, high_of, low_of}
use Rattle.pen.specs.declared.pen.Strike.{Strike}
use Rattle.controller.specs.declared.reads.Reading.{Reading}

-- kind 2: whether the chip drove the bus, and the value
unfoldable pub read_body_of : Reading → List ℕ
read_body_of r = num r.driven ∷ r.value ∷ []

-- kind 4: the latch by its two bytes, and whether the strike fell in the picture
unfoldable pub strike_body_of : Strike → List ℕ
strike_body_of s = high_of s.latch ∷ low_of s.latch ∷ num s.inside ∷ []
