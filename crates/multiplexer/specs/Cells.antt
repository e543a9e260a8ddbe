-- Memory cells (document 01, "The multiplexer", the paragraph on cells).
use Rattle.std.specs.Prelude.{ℕ, ◌+◌, ◌*◌, ◌/◌, ◌%◌}
use Rattle.basics.specs.Bits.{num}
use Rattle.basics.specs.Choice.{when◌then◌else◌}
use Rattle.control.specs.declared.bits.Control.{Control}
use Rattle.control.specs.Names.{p_of, m0_of, m1_of, ty_of}
use Rattle.multiplexer.specs.declared.cells.MemoryCell.{MemoryCell}

-- The memory size by M1 M0, as the rows that one bank has; its columns are as many. 00 is 64, 01 is 128, both others are 256.
unfoldable pub side_of : Control → ℕ
side_of c = when m1_of c then 256 else when m0_of c then 128 else 64

-- The cell of an address in banks of that side: the row is the lowest digit to the base of the side, the column the next, and the bank
-- the lowest bit of what is left. So side 64 has its row in A5..A0, its column in A11..A6 and its bank in A12; side 128 has A6..A0,
-- A13..A7 and A14; side 256 has A7..A0 and A15..A8, and since no address is longer, bank 0.
unfoldable pub cell_of : ℕ → ℕ → MemoryCell
cell_of side a = record { bank = a / side / side % 2; row = a % side; column = a / side % side }

-- where a cycle is not for RAM, its answer has zeros in place of a cell
abbrev pub no_cell : MemoryCell
no_cell = record { bank = 0; row = 0; column = 0 }

-- The processor's address on its way to the memory: with TY clear P takes the place of A15, with TY set nothing is changed.
unfoldable pub routed_of : Control → ℕ → ℕ
routed_of c a = when ty_of c then a else num (p_of c) * 0x8000 + a % 0x8000
