-- Writes of control bits (document 01, "The multiplexer", and the control write flag of kind 6 in "Records and what comes back").
use Rattle.std.specs.Prelude.{ℕ, ◌+◌, ◌-◌, ◌*◌, ◌/◌, ◌%◌, ◌^◌, Bool, not, ◌&&◌, ◌≡◌, eqb, leb, ltb}
use Rattle.basics.specs.Bits.{bit}
use Rattle.basics.specs.Choice.{when◌then◌else◌}
use Rattle.control.specs.declared.bits.Control.{Control}

-- a number with bit k put to v: the bits above it, then v, then the bits below it
unfoldable pub put_bit : ℕ → ℕ → ℕ → ℕ
put_bit k v bits = (bits / 2 ^ k / 2 * 2 + v) * 2 ^ k + bits % 2 ^ k

-- sixteen bits of two addresses each, from $FFC0
unfoldable pub is_control_of : ℕ → Bool
is_control_of a = leb 0xFFC0 a && ltb a 0xFFE0

-- a bus cycle writes a control bit when it is a write to one of those addresses
unfoldable pub control_write_of : ℕ → Bool → Bool
control_write_of a read = not read && is_control_of a

-- A write to a bit's even address clears it, to its odd address sets it.
-- Decision: a write to any other address leaves the bits as they are, so that this is said for every address.
unfoldable pub written_of : Control → ℕ → Control
written_of c a = when is_control_of a then record { bits = put_bit ((a - 0xFFC0) / 2) (a % 2) c.bits } else c

-- the bits after a bus cycle: a read leaves them
unfoldable pub after_of : Control → ℕ → Bool → Control
after_of c a read = when read then c else written_of c a

-- A write, bit by bit: the address's own bit becomes 0 at an even address and 1 at an odd one, and every other bit stays.
-- proofs/Written.antt shows it of each of the 32 addresses.
pub record OneBitWritten (c : Control) (a : ℕ) : Type 0 where
  pub own : bit ((a - 0xFFC0) / 2) (written_of c a).bits ≡ eqb (a % 2) 1
  pub others : (j : ℕ) → (j ≡ (a - 0xFFC0) / 2 → ⊥) → bit j (written_of c a).bits ≡ bit j c.bits
