-- A strike's latch is what two clocks show. Assumes nothing.
use Prim.Native.Nat.{ℕ, ◌+◌, ◌%◌}
use mathlib.Core.Path.{◌≡◌, refl, ap, sym, ◌∙◌}
use Rattle.basics.specs.Bits.{high_of, low_of}
use Rattle.basics.specs.Iterate.{iterate}
use Rattle.facts.specs.Facts.{latch_of}
use Rattle.facts.proofs.Latching.{latch-linear}
use Rattle.pen.specs.Pen.{newest_of}
use Rattle.pen.specs.declared.pen.Strike.{Strike}
use Rattle.pen.proofs.Pens.{struck-newest}
use Rattle.controller.specs.Chip.{step_of, clock_of, strike_at, strike_of}
use Rattle.controller.specs.Pins.{outputs_of}
use Rattle.controller.specs.declared.chip.Controller.{Controller}
use Rattle.controller.specs.declared.reads.Reading.{Reading}
use Rattle.controller.proofs.Keeping.{strike-regs, strike-pen}
use Rattle.controller.proofs.ReadingLaws.{read-high, read_low}
use Rattle.controller.proofs.Times.{shown-ma, shown-picture}
use Rattle.demand.specs.Latches.{Latches, EveryStrike}

module _ (c : Controller) where
  -- the strike that is the newest then
  newest : newest_of (strike_of c).pen ≡ strike_at c.regs c.scan
  newest = ap newest_of (strike-pen c) ∙ struck-newest c.pen (strike_at c.regs c.scan)

  latched : (newest_of (strike_of c).pen).latch ≡ latch_of c.regs c.scan
  latched = ap (λ (s : Strike). s.latch) newest

  two-clocks : latch_of c.regs c.scan ≡ (outputs_of (clock_of 2 c)).ma
  unfolding latch_of clock_of iterate step_of outputs_of
  two-clocks = refl

  named-still : (k : ℕ) → c.regs.named ≡ k → (strike_of c).regs.named ≡ k
  named-still k e = ap (λ r. r.named) (strike-regs c) ∙ e

  latches : Latches c
  latches = record {
    latch = latched ∙ two-clocks;
    inside = ap (λ (s : Strike). s.inside) newest ∙ sym (shown-picture c);
    high = λ e. ap (λ (o : Reading). o.value) (read-high (strike_of c) (named-still 16 e)) ∙ ap high_of (latched ∙ two-clocks);
    low = λ e. ap (λ (o : Reading). o.value) (read_low (strike_of c) (named-still 17 e)) ∙ ap low_of (latched ∙ two-clocks);
    as_before = λ here there narrow b.
        latched ∙ latch-linear c.regs c.scan here there narrow b ∙ ap (λ (a : ℕ). (a + 2) % 16384) (sym (shown-ma c));
  }

pub every-strike : EveryStrike
every-strike = latches
