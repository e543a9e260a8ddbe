-- A bus cycle (document 01, "The multiplexer", selects, ticks and barred pair; kind 6 in "Records and what comes back").
use Rattle.std.specs.Prelude.{ℕ, ◌+◌, ◌-◌, ◌*◌, ◌/◌, Bool, ◌&&◌, ◌||◌, List, [], ◌∷◌, nat_le, nat_lt, slice_index, Option, Some, None}
use Rattle.std.specs.Option.{is_some, unwrap_or}
use Rattle.basics.specs.Bits.{num}
use Rattle.basics.specs.Choice.{when◌then◌else◌}
use Rattle.control.specs.declared.bits.Control.{Control}
use Rattle.control.specs.Names.{r0_of, r1_of, ty_of}
use Rattle.control.specs.Write.{control_write_of}
use Rattle.multiplexer.specs.Cells.{side_of, cell_of, no_cell, routed_of}
use Rattle.multiplexer.specs.declared.cells.MemoryCell.{MemoryCell}
use Rattle.multiplexer.specs.declared.bus.Cycle.{Cycle}

-- RAM is the lower half; with TY set it goes on up to $FEFF
unfoldable pub is_ram_of : Control → ℕ → Bool
is_ram_of c a = nat_lt a 0x8000 || (ty_of c && nat_lt a 0xFF00)

-- the selects from $FF00 on, each for 32 addresses
abbrev pub block_selects : List ℕ
block_selects = 4 ∷ 5 ∷ 6 ∷ 7 ∷ 7 ∷ 7 ∷ 7 ∷ 2 ∷ []

-- The device select. From $FF00 on the block says it, whatever TY is. RAM selects 0 when read and 7 when written. What is left is there
-- with TY clear only: 1 from $8000, 2 from $A000, 3 from $C000 up to $FEFF.
unfoldable pub select_of : Control → ℕ → Bool → ℕ
select_of c a read =
    when nat_le 0xFF00 a then slice_index block_selects ((a - 0xFF00) / 32)
    else when is_ram_of c a then (when read then 0 else 7)
    else when nat_lt a 0xA000 then 1
    else when nat_lt a 0xC000 then 2
    else 3

-- with R0 alone set, the lower half and the 32 addresses from $FF00 keep the slow rate
unfoldable pub is_slow_of : ℕ → Bool
is_slow_of a = nat_lt a 0x8000 || (nat_le 0xFF00 a && nat_lt a 0xFF20)

-- How long a cycle lasts, in ticks of the crystal: 8 with R1 set; with R1 clear 16, but with R0 set 8 where the address is not slow.
unfoldable pub ticks_of : Control → ℕ → ℕ
ticks_of c a = when r1_of c then 8 else when r0_of c then (when is_slow_of a then 16 else 8) else 16

-- A pair of settings that the chip bars: TY set together with either rate bit.
-- Decision: it is a fact of the control bits, so it is told of every cycle, at whatever address.
unfoldable pub is_barred_of : Control → Bool
is_barred_of c = ty_of c && (r1_of c || r0_of c)

-- the cell of a RAM cycle; any other has none
unfoldable pub ram_cell_of : Control → ℕ → Option MemoryCell
ram_cell_of c a = when is_ram_of c a then Some (cell_of (side_of c) (routed_of c a)) else None

-- what a cycle shows under given control bits
unfoldable pub cycle_of : Control → ℕ → Bool → Cycle
cycle_of c a read =
    record {
      select = select_of c a read;
      ticks = ticks_of c a;
      cell = ram_cell_of c a;
      barred = is_barred_of c;
      control_write = control_write_of a read;
    }

-- the flags of a cycle: 1 for RAM, 2 for a barred pair, 4 for a control write
unfoldable pub flags_of : Cycle → ℕ
flags_of y = num (is_some y.cell) + 2 * num y.barred + 4 * num y.control_write

-- the cell of a cycle as an answer tells it: zeros where the cycle is not for RAM
abbrev pub told_cell_of : Cycle → MemoryCell
told_cell_of y = unwrap_or y.cell no_cell
