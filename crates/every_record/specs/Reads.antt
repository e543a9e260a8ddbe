-- What a read answers, and what it leaves, for every name that the address register can hold (document 01, kind 2 of the table of kinds and
-- "Controller registers"; document 02, W2).
use Rattle.std.specs.Prelude.{ℕ, ◌<◌, ◌≤◌, ◌≡◌, [], ◌∷◌}
use Rattle.answer.specs.Answer.{done_of}
use Rattle.basics.specs.Bits.{high_of, low_of}
use Rattle.raster.specs.Registers.{reg}
use Rattle.pen.specs.Pen.{emptied_of, newest_of}
use Rattle.controller.specs.Chip.{with_pen}
use Rattle.controller.specs.Reads.{status_of}
use Rattle.controller.specs.declared.chip.Controller.{Controller}
use Rattle.alone.specs.Events.{told}
use Rattle.bench.specs.Step.{with_controller, step_of}
use Rattle.bench.specs.declared.step.Bench.{Bench}
use Rattle.bench.specs.declared.step.Stepped.{Stepped}

-- the register that is named
abbrev pub named : Bench → ℕ
named b = b.controller.regs.named

-- the answer to a read, driven (1) or not (0), with its value; the bench with the controller that the read leaves
abbrev pub reading_told : Bench → ℕ → ℕ → Controller → Stepped
reading_told b driven value c = with_controller b (told c (done_of 2 (driven ∷ value ∷ [])))

-- the controller with L cleared
abbrev pub without_l : Bench → Controller
without_l b = with_pen (emptied_of b.controller.pen) b.controller

-- Both reads on every bench: with RS 1 the register that is named, with RS 0 the status. proofs/Reading.antt shows it.
pub record Reads (b : Bench) : Type 0 where
  -- R14 and R15 are driven, and bring the byte that they hold
  pub cursor : 14 ≤ named b → named b ≤ 15 → step_of b 2 0 1 0 ≡ reading_told b 1 (reg b.controller.regs (named b)) b.controller
  -- R16 is driven, brings the high byte of the newest strike's latch, and clears L
  pub high : named b ≡ 16 → step_of b 2 0 1 0 ≡ reading_told b 1 (high_of (newest_of b.controller.pen).latch) (without_l b)
  -- R17 is driven, brings the low byte, and clears L
  pub low : named b ≡ 17 → step_of b 2 0 1 0 ≡ reading_told b 1 (low_of (newest_of b.controller.pen).latch) (without_l b)
  -- the registers before these four are not driven and bring 0, and neither chip changes
  pub below : named b < 14 → step_of b 2 0 1 0 ≡ reading_told b 0 0 b.controller
  -- and the same of those after them
  pub above : 17 < named b → step_of b 2 0 1 0 ≡ reading_told b 0 0 b.controller
  -- the status is driven, whatever is named, and neither chip changes
  pub status : step_of b 2 0 0 0 ≡ reading_told b 1 (status_of b.controller) b.controller
