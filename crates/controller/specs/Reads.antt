-- Register reads (document 01, "Controller registers"; kind 2 of the table of kinds; document 02, W2).
use Rattle.std.specs.Prelude.{ℕ, ◌+◌, ◌*◌, Bool, true, false, ◌&&◌, ◌||◌, eqb, leb, ltb}
use Rattle.basics.specs.Choice.{when◌then◌else◌}
use Rattle.basics.specs.Bits.{num, high_of, low_of}
use Rattle.raster.specs.Registers.{reg}
use Rattle.controller.specs.Chip.{with_pen}
use Rattle.pen.specs.Pen.{emptied_of, newest_of, unread_of}
use Rattle.controller.specs.declared.chip.Controller.{Controller}
use Rattle.controller.specs.declared.reads.Reading.{Reading}

-- V: the adjust lines run, or the row is R6 or past it
unfoldable pub blank_of : Controller → Bool
blank_of c = c.scan.adjusting || leb (reg c.regs 6) c.scan.row

-- status: L in bit 6, V in bit 5, all others 0
unfoldable pub status_of : Controller → ℕ
status_of c = num (unread_of c.pen) * 64 + num (blank_of c) * 32

-- what stands in register k, up to R17: in R0 to R15 the byte held, in R16 and R17 the high and the low byte of the newest strike's latch.
-- A read asks it of those four alone that drive the bus.
unfoldable pub value_of : Controller → ℕ → ℕ
value_of c k =
    when ltb k 16 then reg c.regs k else (when eqb k 16 then high_of (newest_of c.pen).latch else low_of (newest_of c.pen).latch)

-- the registers that drive the bus when they are read: R14 to R17 and no other (document 02, W2)
abbrev pub driven_of : ℕ → Bool
driven_of k = leb 14 k && leb k 17

-- reading R16 or R17 clears L
unfoldable pub after_read_of : Controller → ℕ → Controller
after_read_of c k = when eqb k 16 || eqb k 17 then with_pen (emptied_of c.pen) c else c

-- RS 1 reads the named register, if it drives the bus; if not, the read brings 0 and changes nothing.
-- Decision: the answer is what stood there before the read cleared L.
unfoldable pub register_read_of : Controller → Reading
register_read_of c =
    when driven_of c.regs.named
    then record { driven = true; value = value_of c c.regs.named; controller = after_read_of c c.regs.named }
    else record { driven = false; value = 0; controller = c }

-- RS 0 reads status, always driven, and changes nothing
unfoldable pub status_read_of : Controller → Reading
status_read_of c = record { driven = true; value = status_of c; controller = c }

-- a read, by RS
unfoldable pub read_of : Controller → Bool → Reading
read_of c rs = when rs then register_read_of c else status_read_of c
