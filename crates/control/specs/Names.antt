-- The names of the control bits (document 01, "The multiplexer"). They lie in one number of sixteen bits in the order of their
-- addresses: V0 V1 V2 are bits 0 to 2, F0 to F6 bits 3 to 9, then P R0 R1 M0 M1 TY from bit 10 on.
use Rattle.std.specs.Prelude.{ℕ, ◌/◌, ◌%◌, Bool}
use Rattle.basics.specs.Bits.{bit}
use Rattle.control.specs.declared.bits.Control.{Control}

-- as the multiplexer starts, and after its reset: every bit 0
abbrev pub clear_of : Control
clear_of = record { bits = 0 }

-- the display mode, V2 V1 V0 read as a number with V0 lowest
abbrev pub mode_of : Control → ℕ
mode_of c = c.bits % 8

-- F6 to F0 as a number, F0 lowest
abbrev pub f_of : Control → ℕ
f_of c = c.bits / 8 % 128

-- P, which stands for A15 of a processor's address
abbrev pub p_of : Control → Bool
p_of c = bit 10 c.bits

-- R0, the rate by address
abbrev pub r0_of : Control → Bool
r0_of c = bit 11 c.bits

-- R1, the fast rate
abbrev pub r1_of : Control → Bool
r1_of c = bit 12 c.bits

-- M0, the memory size's low bit
abbrev pub m0_of : Control → Bool
m0_of c = bit 13 c.bits

-- M1, its high bit
abbrev pub m1_of : Control → Bool
m1_of c = bit 14 c.bits

-- TY, the map type
abbrev pub ty_of : Control → Bool
ty_of c = bit 15 c.bits
