-- A reset with a setting's registers starts the setting. Assumes nothing.
use mathlib.Core.Path.{◌≡◌, ap, ◌∙◌}
use mathlib.Core.List.{List}
use Prim.Native.Nat.{ℕ}
use Rattle.controller.specs.Chip.{reset_of, arrived_of}
use Rattle.controller.specs.declared.chip.Controller.{Controller}
use Rattle.controller.proofs.Keeping.{reset-arrived}
use Rattle.setting.specs.Setting.{setting_of, started_of}

pub starts_by_reset : (c : Controller) (given : List ℕ) → c.regs ≡ setting_of given → reset_of c ≡ started_of given
unfolding started_of
starts_by_reset c given e = reset-arrived c ∙ ap arrived_of e
