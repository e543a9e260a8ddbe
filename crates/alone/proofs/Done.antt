-- Every event of the controller is done: its answer has the kind as it came and refusal number 0, and the controller has been called as the
-- event says. Assumes nothing.
use Prim.Native.Nat.{ℕ}
use mathlib.Core.Path.{◌≡◌, refl}
use mathlib.Core.Bool.{Bool}
use Rattle.answer.proofs.Done.{Done}
use Rattle.controller.specs.Chip.{reset_of, write_of, clock_of, strike_of}
use Rattle.controller.specs.Reads.{read_of}
use Rattle.controller.specs.declared.chip.Controller.{Controller}
use Rattle.alone.specs.Events.{on_write, on_read, on_clocks, on_strike, on_reset}

module _ (c : Controller) (kind : ℕ) where
  pub write_done : (rs : Bool) (value : ℕ) → Done kind (on_write c kind rs value).answer
  unfolding on_write
  write_done rs value = (refl, refl)

  pub read_done : (rs : Bool) → Done kind (on_read c kind rs).answer
  unfolding on_read
  read_done rs = (refl, refl)

  pub clocks-done : (n : ℕ) → Done kind (on_clocks c kind n).answer
  unfolding on_clocks
  clocks-done n = (refl, refl)

  pub strike-done : Done kind (on_strike c kind).answer
  unfolding on_strike
  strike-done = (refl, refl)

  pub reset-done : Done kind (on_reset c kind).answer
  unfolding on_reset
  reset-done = (refl, refl)

  pub write-called : (rs : Bool) (value : ℕ) → (on_write c kind rs value).controller ≡ write_of c rs value
  unfolding on_write
  write-called rs value = refl

  pub read-called : (rs : Bool) → (on_read c kind rs).controller ≡ (read_of c rs).controller
  unfolding on_read
  read-called rs = refl

  pub clocks-called : (n : ℕ) → (on_clocks c kind n).controller ≡ clock_of n c
  unfolding on_clocks
  clocks-called n = refl

  pub strike-called : (on_strike c kind).controller ≡ strike_of c
  unfolding on_strike
  strike-called = refl

  pub reset-called : (on_reset c kind).controller ≡ reset_of c
  unfolding on_reset
  reset-called = refl
