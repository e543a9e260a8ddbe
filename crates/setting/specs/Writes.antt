-- A setting is what register writes leave (document 02, W1: its bytes are cut as writes cut them).
use Rattle.std.specs.Prelude.{ℕ, zero, suc, ◌≡◌, true, false, List, length, get_or}
use Rattle.raster.specs.Widths.{RegistersWithin}
use Rattle.controller.specs.Chip.{reset_of, write_of}
use Rattle.controller.specs.declared.chip.Controller.{Controller}
use Rattle.setting.specs.Setting.{bytes, setting_of, started_of}

-- The first n registers written one after the other, each by two writes: its number with RS 0, and then its byte with RS 1.
unfoldable pub pairs_of : List ℕ → ℕ → Controller → Controller
pairs_of given zero c = c
pairs_of given (suc n) c = write_of (write_of (pairs_of given n c) false n) true (get_or given n 0)

-- What a setting starts.
pub record ByWrites (given : List ℕ) : Type 0 where
  -- whichever controller was there before (each has sixteen registers): all sixteen written, and then a reset, give the very controller that
  -- the setting starts
  pub started : (c : Controller) → length c.regs.held ≡ bytes → reset_of (pairs_of given bytes c) ≡ started_of given
  -- its registers are the setting's, each within its width
  pub registers : (started_of given).regs ≡ setting_of given
  pub within : RegistersWithin (setting_of given)
