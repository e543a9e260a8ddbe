-- When frames begin, and where the scan is while no register is written (demand 3; document 01, "One character time").
use Rattle.std.specs.Prelude.{ℕ, zero, suc, ◌*◌, ◌/◌, ◌%◌, ◌≡◌, Bool, true, false, List, ◌↔◌}
use Rattle.basics.specs.Iterate.{iterate}
use Rattle.raster.specs.Scan.{Move, along, down, next_row, to_adjust, new_frame, move_of, next_of}
use Rattle.raster.specs.declared.registers.Registers.{Registers}
use Rattle.raster.specs.declared.scan.Scan.{Scan}
use Rattle.controller.specs.Chip.{reset_of}
use Rattle.frames.specs.Calls.{Act, after_acts, times_of}
use Rattle.frames.specs.Places.{frame_times, Placed, scan_at}
use Rattle.controller.specs.declared.chip.Controller.{Controller}

-- the one move of the five that begins a frame
abbrev pub begins_frame : Move → Bool
begins_frame along = false
begins_frame down = false
begins_frame next_row = false
begins_frame to_adjust = false
begins_frame new_frame = true

-- whether a new frame begins with the t-th character time from s on: the move that ends there is a new frame
unfoldable pub begins_at : Registers → Scan → ℕ → Bool
begins_at r s zero = false
begins_at r s (suc t) = begins_frame (move_of r (iterate (next_of r) t s))

-- What holds after a reset, whatever is clocked, read and struck, as long as no register is written.
pub record Frames (c : Controller) : Type 0 where
  -- the registers stay
  pub registers : (l : List Act) → (after_acts l (reset_of c)).regs ≡ c.regs
  -- strikes and reads do not move the scan: it is where its character times alone bring it
  pub times : (l : List Act) → (after_acts l (reset_of c)).scan ≡ iterate (next_of c.regs) (times_of l) (reset_of c).scan
  -- a new frame begins at each multiple of the frame's length, and at no other time
  pub begins : (t : ℕ) → (begins_at c.regs (reset_of c).scan t ≡ true) ↔ ((k : ℕ) × (t ≡ suc k * frame_times c.regs))
  -- the field counts the frames that have begun, five bits wide
  pub fields : (t : ℕ) → (iterate (next_of c.regs) t (reset_of c).scan).field ≡ (t / frame_times c.regs) % 32
  -- at each time the scan is at its row, line and column, with its base, on the adjust lines or not
  pub places : (t : ℕ) → iterate (next_of c.regs) t (reset_of c).scan ≡ scan_at c.regs t
  -- and it never leaves its frame
  pub placed : (l : List Act) → Placed c.regs (after_acts l (reset_of c)).scan
